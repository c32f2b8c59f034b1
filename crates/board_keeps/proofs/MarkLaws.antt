-- On a board that meets the conditions for 9 an event changes no mark but that of the VCPU that it names.
use Rattle.std.specs.Prelude.{ℕ, ◌≡◌, Bool, ◌⊎◌, Ok, Err}
use Rattle.std.proofs.Math.Path.{refl}
use Rattle.std.proofs.Common.{◌∙◌, inl, inr, length-set}
use Rattle.std.proofs.Math.Bool.{true, false}
use Rattle.std.proofs.Math.Logic.{⊎_elim}
use Rattle.std.specs.Prelude.{if◌then◌else◌}
use Rattle.laws.specs.BoolLaws.{bool_cases}
use Rattle.plan.specs.Refusals.{Fault}
use Rattle.board_rules.specs.Facts.{Facts}
use Rattle.board_rules.specs.declared.Board.{Board}
use Rattle.board_rules.specs.declared.Event.{Event}
use Rattle.board_rules.specs.declared.Event.TheVariants.{Ask, Free, Use, Top, Show}
use Rattle.board_rules.specs.Board.{is_stopped, settled, with_left, with_holder, next_global, next_local, may_have, asked, freed, freed_global, freed_local, used, topped, shown, answered, ask_fault, free_fault, use_fault, top_fault, show_fault, step, good}
use Rattle.board_keeps.specs.Fair.{Fair, InV, task_v, sheet_v, sheet_m}
use Rattle.board_keeps.specs.Shaped.{Shaped, left_shaped, stopped_shaped, holder_shaped, wait_shaped, handed_shaped, granted_shaped}
use Rattle.board_keeps.specs.Good.{good_marked}
use Rattle.board_keeps.specs.Faults.{FreeClear, ask_clear, free_clear, use_clear, top_clear}
use Rattle.board_rules.specs.Settle.{settled_at}
use Rattle.board_rules.specs.SettleEvents.{OthersKeep, own_held, keep_settles, keep_mark, wait_keeps, grant_keeps, global_keeps, local_keeps, use_keeps, top_keeps}
use Rattle.board_keeps.specs.Marks.{own_vcpu, OwnChange, stays, completes}

module _ {F : Facts} {b : Board} (f : Fair F) (s : Shaped b) where
  own_ask : (v n m : ℕ) → OwnChange F v b (step F b (Ask v n m)).board
  unfolding step asked
  own_ask v n m = at_fault (ask_fault F b v n m) refl
    where
      at_fault : (x : Fault) → ask_fault F b v n m ≡ x → OwnChange F v b (answered b x (asked F b v n m)).board
      at_fault (Ok tt) e =
          let l = (ask_clear F b v n m e).listed in
          let i = sheet_v f v n m l in
          ⊎_elim
          (λ h. rw h (completes _ (holder_shaped m _ s) i (grant_keeps F b v n m (sheet_m f v n m l) h)))
          (λ h. rw h (completes _ (wait_shaped v n m s) i (wait_keeps F b v n m)))
          (bool_cases (may_have F b v n m))
      at_fault (Err r) e = stays

  own_free : (v n m : ℕ) → OwnChange F v b (step F b (Free v n m)).board
  unfolding step freed freed_global freed_local
  own_free v n m = at_fault (free_fault F b v n m) refl
    where
      at_kind : FreeClear F b v n m → (t : Bool) → F.global m ≡ t → OwnChange F v b (if t then freed_global F b m else freed_local F b v m).board
      at_kind c true e =
          let i = task_v f v n c.task in
          completes _ (handed_shaped m (next_global b m) s) i (global_keeps F b v m (f.mutex_in m c.mutex) (own_held b v n m i (f.task_in_law v n c.task) c.held) (next_global b m))
      at_kind c false e =
          completes _ (granted_shaped {b = with_holder b m 0} (next_local F (with_holder b m 0) v) (holder_shaped m 0 s)) (task_v f v n c.task)
          (local_keeps F b v m (f.mutex_in m c.mutex) e (f.local_only v))

      at_fault : (x : Fault) → free_fault F b v n m ≡ x → OwnChange F v b (answered b x (freed F b v m)).board
      at_fault (Ok tt) e = at_kind (free_clear F b v n m e) (F.global m) refl
      at_fault (Err r) e = stays

  own_use : (v t : ℕ) → OwnChange F v b (step F b (Use v t)).board
  unfolding step used
  own_use v t = at_fault (use_fault F b v t) refl
    where
      at_fault : (x : Fault) → use_fault F b v t ≡ x → OwnChange F v b (answered b x (used F b v t)).board
      at_fault (Ok tt) e = let i = f.vcpu_in v (use_clear F b v t e).vcpu in completes _ (left_shaped v _ _ s) i (use_keeps F b v _ _ i)
      at_fault (Err r) e = stays

  own_top : (v : ℕ) → OwnChange F v b (step F b (Top v)).board
  unfolding step topped
  own_top v = at_fault (top_fault F v) refl
    where
      at_fault : (x : Fault) → top_fault F v ≡ x → OwnChange F v b (answered b x (topped F b v)).board
      at_fault (Ok tt) e =
          let i = f.vcpu_in v (top_clear F v e) in
          completes _ (stopped_shaped {b = with_left b v _ _} _ (length-set b.stopped _ _ ∙ s.stopped_long) (left_shaped {b = b} v _ _ s)) i (top_keeps F b v _ _ false i)
      at_fault (Err r) e = stays

  own_show : (v n : ℕ) → OwnChange F v b (step F b (Show v n)).board
  unfolding step
  own_show v n = at_fault (show_fault F v n)
    where
      at_fault : (x : Fault) → OwnChange F v b (answered b x (shown F b v n)).board
      at_fault (Ok tt) = stays
      at_fault (Err r) = stays

  pub own_change : (e : Event) → OwnChange F (own_vcpu e) b (step F b e).board
  own_change (Ask v n m) = own_ask v n m
  own_change (Free v n m) = own_free v n m
  own_change (Use v t) = own_use v t
  own_change (Top v) = own_top v
  own_change (Show v n) = own_show v n

module _ {F : Facts} {b : Board} (g : good F b ≡ true) {v : ℕ} where
  change_mark : {c : Board} → OwnChange F v b c → (w : ℕ) → InV w → (w ≡ v → ⊥) → is_stopped c w ≡ is_stopped b w
  change_mark stays w j ne = refl
  change_mark (completes b' s i k) w j ne = keep_mark F (good_marked F b g) k w j ne

  change_settles : {c : Board} → OwnChange F v b c → (c ≡ b) ⊎ ((b' : Board) × OthersKeep F v b b' × (c ≡ settled F b') × (settled F b' ≡ settled_at F b' v))
  change_settles stays = inl refl
  change_settles (completes b' s i k) = inr (b', k, refl, keep_settles F (good_marked F b g) k s.stopped_long i)

module _ {F : Facts} {b : Board} (f : Fair F) (s : Shaped b) (g : good F b ≡ true) (e : Event) where
  -- only the mark of the event's own VCPU can change
  pub own_mark : (w : ℕ) → InV w → (w ≡ own_vcpu e → ⊥) → is_stopped (step F b e).board w ≡ is_stopped b w
  own_mark = change_mark g (own_change f s e)

  -- the event leaves the board as it was, or settles some b' in which the other VCPUs keep what `OthersKeep` says; to settle its own VCPU alone in b' is the same
  pub own_settled : ((step F b e).board ≡ b)
      ⊎ ((b' : Board) × OthersKeep F (own_vcpu e) b b' × ((step F b e).board ≡ settled F b') × (settled F b' ≡ settled_at F b' (own_vcpu e)))
  own_settled = change_settles g (own_change f s e)
