-- No idle use of a core's turn is refused; the idle uses leave all locks, and the supply of every VCPU that is not idle.
use Prim.Native.Nat.{ℕ, zero, suc, ◌≤◌, ◌<◌}
use Rattle.std.specs.Prelude.{◌≡◌, Bool, true, false, ltb}
use Rattle.std.proofs.Math.Path.{refl, ap, subst}
use Rattle.std.proofs.Common.{sym, ◌∙◌, arith}
use mathlib.Core.List.{List, [], ◌∷◌, ◌++◌}
use borrow.Author.Tests.{ltb-true, ne_eqb}
use Rattle.std.specs.Prelude.{if◌then◌else◌}
use Rattle.laws.specs.Range.{flat_to}
use Rattle.laws.specs.BoolLaws.{both_left, both_right, clash}
use Rattle.plan.specs.Limits.{max_v}
use Rattle.board_rules.specs.Facts.{Facts}
use Rattle.board_rules.specs.declared.Board.{Board}
use Rattle.board_rules.specs.declared.Event.{Event}
use Rattle.board_rules.specs.declared.Event.TheVariants.{Use}
use Rattle.board_rules.specs.declared.Outcome.{Outcome}
use Rattle.board_rules.specs.Board.{left_of, supply, is_asleep, under_p, used, step}
use Rattle.board_events.specs.Events.{board_by, board_after}
use Rattle.board_keeps.specs.Fair.{InV}
use Rattle.board_keeps.proofs.Runs.{after_good}
use Rattle.clock_rules.specs.Clock.{Timing, is_on, idles, idle_uses}
use Rattle.clock_paced.specs.Paced.{Paced}
use Rattle.clock_steps.specs.Accepted.{is_refusal, Accepted, board_append, accepted_append}
use Rattle.clock_steps.specs.Taken.{use_taken, use_is}
use Rattle.clock_steps.specs.Quiet.{SameLocks, locks_stay, locks_then, use_locks, use_left}
use Rattle.clock_steps.specs.Supply.{use_supply}
use Rattle.clock_steps.specs.Running.{Running, after_shaped}

-- a `use v 1` that is in order is answered
pub use_answered : (F : Facts) (b : Board) (v : ℕ) → F.has_vcpu v ≡ true → is_asleep F b v ≡ false → is_refusal (step F b (Use v 1)).answer ≡ false
unfolding used
use_answered F b v t a = ap (λ (o : Outcome). is_refusal o.answer) (use_is F b v 1 (use_taken F b v t a))

-- a VCPU with budget is awake
pub budget_awake : (F : Facts) (b : Board) (v : ℕ) → 0 < left_of b v → is_asleep F b v ≡ false
unfolding supply
budget_awake F b v h = ne_eqb (supply F b v) 0 (λ z. omega arith)

-- the idle uses of the VCPUs up to k, from board b on: those above keep their budgets
record IdleTo (T : Timing) (c : ℕ) (b : Board) (d : List ℕ) (k : ℕ) (es : List Event) : Type 0 where
  accepted : Accepted T.facts b es
  locks : SameLocks b (board_after T.facts b es)
  left_kept : (w : ℕ) → InV w → k < w → left_of (board_after T.facts b es) w ≡ left_of b w
  supply_kept : (w : ℕ) → InV w → idles T c b d w ≡ false → supply T.facts (board_after T.facts b es) w ≡ supply T.facts b w

module _ {T : Timing} (p : Paced T) (c : ℕ) {b : Board} {d : List ℕ} (g : Running T b d) where
  -- one VCPU more is idle
  one_more : (k : ℕ) (es : List Event) → InV (suc k) → idles T c b d (suc k) ≡ true → IdleTo T c b d k es → IdleTo T c b d (suc k) (es ++ (Use (suc k) 1 ∷ []))
  unfolding board_by
  one_more k es i e h =
      let F = T.facts in
      let f = p.fair in
      let b₁ = board_after F b es in
      let s = after_shaped F g.shaped es in
      let t = after_good f g.shaped g.is_good es in
      let v = suc k in
      let on = both_right (under_p F.policy) _ e in
      let some = ltb-true 0 (left_of b v) (both_left (ltb 0 (left_of b v)) _ (both_right (is_on T c v) _ on)) in
      let same = h.left_kept v i (omega arith) in
      let has = both_left (F.has_vcpu v) _ (both_left (is_on T c v) _ on) in
      let to : board_after F b (es ++ (Use v 1 ∷ [])) ≡ (step F b₁ (Use v 1)).board = board_append F b es (Use v 1 ∷ []) in
      record {
        accepted = accepted_append F b es (Use v 1 ∷ []) h.accepted (use_answered F b₁ v has (budget_awake F b₁ v (omega arith)), tt);
        locks = subst (SameLocks b) (sym to) (locks_then h.locks (use_locks F b₁ v 1));
        left_kept = λ w j l. ap (λ x. left_of x w) to ∙ use_left f b₁ v 1 w j (λ z. omega arith) ∙ h.left_kept w j (omega arith);
        supply_kept = λ w j q. ap (λ x. supply F x w) to ∙ use_supply f s t v 1 w j (λ z. clash (subst (λ x. idles T c b d x ≡ true) (sym z) e) q) ∙ h.supply_kept w j q;
      }

  -- one VCPU more is not
  one_less_law : (k : ℕ) (es : List Event) → IdleTo T c b d k es → IdleTo T c b d (suc k) (es ++ [])
  unfolding board_by
  one_less_law k es h =
      let F = T.facts in
      let to : board_after F b (es ++ []) ≡ board_after F b es = board_append F b es [] in
      record {
        accepted = accepted_append F b es [] h.accepted tt;
        locks = subst (SameLocks b) (sym to) h.locks;
        left_kept = λ w j l. ap (λ x. left_of x w) to ∙ h.left_kept w j (omega arith);
        supply_kept = λ w j q. ap (λ x. supply F x w) to ∙ h.supply_kept w j q;
      }

  -- VCPU after VCPU
  idle_to : (k : ℕ) → k ≤ max_v → IdleTo T c b d k (flat_to k (λ v. if idles T c b d v then Use v 1 ∷ [] else []))
  unfolding flat_to board_by
  idle_to zero l = record { accepted = tt; locks = locks_stay; left_kept = λ w j q. refl; supply_kept = λ w j q. refl }
  idle_to (suc k) l = at (idles T c b d (suc k)) refl (idle_to k (omega arith))
    where
      es : List Event
      es = flat_to k (λ v. if idles T c b d v then Use v 1 ∷ [] else [])

      at : (x : Bool) → idles T c b d (suc k) ≡ x → IdleTo T c b d k es → IdleTo T c b d (suc k) (es ++ (if x then Use (suc k) 1 ∷ [] else []))
      at true e h = one_more k es (record { from = omega arith; to = l }) e h
      at false e h = one_less_law k es h

  -- the idle uses of a turn, from the board when its asks are made
  pub idle_accepted : Accepted T.facts b (idle_uses T c b d)
  unfolding idle_uses
  idle_accepted = (idle_to max_v (omega arith)).accepted

  -- they leave all locks
  pub idle_locks : SameLocks b (board_after T.facts b (idle_uses T c b d))
  unfolding idle_uses
  idle_locks = (idle_to max_v (omega arith)).locks

  -- and the supply of who is not idle
  pub idle_supply : (w : ℕ) → InV w → idles T c b d w ≡ false → supply T.facts (board_after T.facts b (idle_uses T c b d)) w ≡ supply T.facts b w
  unfolding idle_uses
  idle_supply = (idle_to max_v (omega arith)).supply_kept
