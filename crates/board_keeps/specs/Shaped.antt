-- The lengths of a board's lists, which every event keeps.
use Rattle.std.specs.Prelude.{ℕ, ◌-◌, ◌*◌, ◌≡◌, Bool, true, false, List, length, Ok, Err}
use Rattle.std.proofs.Common.{◌∙◌, length-set}
use Rattle.std.specs.Prelude.{if◌then◌else◌}
use Rattle.laws.specs.RangeLaws.{list_length}
use Rattle.plan.specs.Limits.{max_v, max_m, most_n}
use Rattle.plan.specs.Refusals.{Fault}
use Rattle.board_rules.specs.Facts.{Facts}
use Rattle.board_rules.specs.declared.Board.{Board}
use Rattle.board_rules.specs.declared.Event.{Event}
use Rattle.board_rules.specs.declared.Event.TheVariants.{Ask, Free, Use, Top, Show}
use Rattle.board_rules.specs.declared.Next.{Next}
use Rattle.board_rules.specs.declared.Next.TheVariants.{Nobody, To}
use Rattle.board_rules.specs.declared.Outcome.{Outcome}
use Rattle.board_rules.specs.Board.{fresh, with_left, with_stopped, with_holder, with_wait, settled, handed_to, granted_local, next_global, next_local, asked, may_have, freed, freed_global, freed_local, used, topped, answered, ask_fault, free_fault, use_fault, top_fault, show_fault, step}

pub record Shaped (b : Board) : Type 0 where
  pub left_long : length b.left ≡ max_v
  pub over_long : length b.over ≡ max_v
  pub stopped_long : length b.stopped ≡ max_v
  pub holder_long : length b.holder ≡ max_m
  pub waits_long : length b.waits ≡ max_v * most_n

pub fresh_shaped : (F : Facts) → Shaped (fresh F)
unfolding fresh
fresh_shaped F = record {
  left_long = list_length max_v F.budget;
  over_long = list_length max_v F.overrun;
  stopped_long = list_length max_v (λ v. false);
  holder_long = list_length max_m (λ m. 0);
  waits_long = list_length (max_v * most_n) (λ s. 0);
}

pub left_shaped : {b : Board} (v l o : ℕ) → Shaped b → Shaped (with_left b v l o)
left_shaped {b} v l o s = record {
  left_long = length-set b.left (v - 1) l ∙ s.left_long;
  over_long = length-set b.over (v - 1) o ∙ s.over_long;
  stopped_long = s.stopped_long;
  holder_long = s.holder_long;
  waits_long = s.waits_long;
}

pub stopped_shaped : {b : Board} (ss : List Bool) → length ss ≡ max_v → Shaped b → Shaped (with_stopped b ss)
stopped_shaped ss e s = record {
  left_long = s.left_long;
  over_long = s.over_long;
  stopped_long = e;
  holder_long = s.holder_long;
  waits_long = s.waits_long;
}

pub holder_shaped : {b : Board} (m h : ℕ) → Shaped b → Shaped (with_holder b m h)
holder_shaped {b} m h s = record {
  left_long = s.left_long;
  over_long = s.over_long;
  stopped_long = s.stopped_long;
  holder_long = length-set b.holder (m - 1) h ∙ s.holder_long;
  waits_long = s.waits_long;
}

pub wait_shaped : {b : Board} (v n m : ℕ) → Shaped b → Shaped (with_wait b v n m)
wait_shaped {b} v n m s = record {
  left_long = s.left_long;
  over_long = s.over_long;
  stopped_long = s.stopped_long;
  holder_long = s.holder_long;
  waits_long = length-set b.waits _ m ∙ s.waits_long;
}

pub settled_shaped : (F : Facts) {b : Board} → Shaped b → Shaped (settled F b)
unfolding settled
settled_shaped F {b} s = stopped_shaped {b = b} _ (list_length max_v _) s

pub handed_shaped : {b : Board} (m : ℕ) (w : Next) → Shaped b → Shaped (handed_to b m w)
handed_shaped {b} m Nobody s = holder_shaped {b = b} m 0 s
handed_shaped {b} m (To v n) s = wait_shaped {b = with_holder b m _} v n 0 (holder_shaped {b = b} m _ s)

pub granted_shaped : {b : Board} (w : Next) → Shaped b → Shaped (granted_local b w)
granted_shaped {b} Nobody s = s
granted_shaped {b} (To v n) s = handed_shaped {b = b} _ (To v n) s

shaped_if : (t : Bool) (x y : Outcome) → Shaped x.board → Shaped y.board → Shaped (if t then x else y).board
shaped_if true x y h k = h
shaped_if false x y h k = k

shaped_answered : {b : Board} (f : Fault) (o : Outcome) → Shaped b → Shaped o.board → Shaped (answered b f o).board
shaped_answered (Ok tt) o s t = t
shaped_answered (Err r) o s t = s

pub step_shaped : (F : Facts) {b : Board} (e : Event) → Shaped b → Shaped (step F b e).board
unfolding step asked freed freed_global freed_local used topped
step_shaped F {b} (Ask v n m) s =
    shaped_answered (ask_fault F b v n m) _ s
    (shaped_if (may_have F b v n m) _ _ (settled_shaped F (holder_shaped {b = b} m _ s)) (settled_shaped F (wait_shaped {b = b} v n m s)))
step_shaped F {b} (Free v n m) s =
    shaped_answered (free_fault F b v n m) _ s
    (shaped_if (F.global m) _ _ (settled_shaped F (handed_shaped m (next_global b m) s))
    (settled_shaped F (granted_shaped {b = with_holder b m 0} (next_local F (with_holder b m 0) v) (holder_shaped {b = b} m 0 s))))
step_shaped F {b} (Use v t) s = shaped_answered (use_fault F b v t) _ s (settled_shaped F (left_shaped {b = b} v _ _ s))
step_shaped F {b} (Top v) s =
    shaped_answered (top_fault F v) _ s
    (settled_shaped F (stopped_shaped {b = with_left b v _ _} _ (length-set b.stopped _ _ ∙ s.stopped_long) (left_shaped {b = b} v _ _ s)))
step_shaped F {b} (Show v n) s = shaped_answered (show_fault F v n) _ s s
