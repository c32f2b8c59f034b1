-- Within a tick a core works one tick at most, for a task that it picks, so that a job does one tick at most.
use Rattle.std.specs.Prelude.{ℕ, ◌+◌, ◌≤◌, ◌≡◌}
use Rattle.std.proofs.Math.Path.{refl, subst}
use Rattle.std.proofs.Common.{sym, ap, ◌∙◌, eqb-true}
use mathlib.Core.List.{List, [], ◌∷◌}
use Rattle.std.proofs.Math.Logic.{⊎_elim}
use native.Mathlib.Omega.{arith}
use Rattle.laws.specs.BoolLaws.{both_right, same_or_not}
use Rattle.laws.specs.Sums.{Each, Pairs}
use Rattle.laws.specs.SumLaws.{each_map}
use Rattle.board_rules.specs.declared.Next.{Next}
use Rattle.board_rules.specs.declared.Next.TheVariants.{Nobody, To}
use Rattle.board_rules.specs.declared.Board.{Board}
use Rattle.board_rules.specs.Board.{seat}
use Rattle.board_keeps.specs.Fair.{InV, InN}
use Rattle.board_rules.specs.Names.{seat_one}
use Rattle.clock_rules.specs.Clock.{Timing, Run, done_of, most_picks, asks_at, work_done, after_turn, cores, after_turns, opened, tick, missed}
use Rattle.clock_paced.specs.Paced.{Paced}
use Rattle.clock_steps.specs.Done.{done_new, done_else}
use Rattle.clock_steps.specs.Running.{Running}
use Rattle.clock_steps.specs.Asking.{LastPick, last_pick, asking}
use Rattle.clock_steps.specs.AskTurn.{Working, asks_taken}
use Rattle.clock_steps.specs.RunTaken.{Kept, turn_kept, opened_kept}

-- the task that uses core c's tick is one that c picks in that turn
pub turn_picked : (T : Timing) (c : ℕ) (r : Run) (v n : ℕ) → (asks_at T c r).pick ≡ To v n → LastPick T c r.done r.board (asks_at T c r).events v n
turn_picked T c r v n e = last_pick (asking T c r.done most_picks r.board) v n e

-- from d to d' the job of (v, n) does nothing, or one tick
pub record OneMore (d d' : ℕ) : Type 0 where
  pub no_less : d ≤ d'
  pub one_most : d' ≤ d + 1

module _ (T : Timing) (c : ℕ) {b : Board} {d : List ℕ} (g : Running T b d) (v n : ℕ) (i : InV v) (j : InN n) where
  -- a core that is not the task's leaves it
  work_still : (x : Next) → Working T c b d x → (T.core v ≡ c → ⊥) → done_of (work_done d x) v n ≡ done_of d v n
  work_still Nobody k ne = refl
  work_still (To w m) k ne =
      let q = k.chosen in
      done_else d w m (done_of d w m + 1) q.v_in q.n_in v n i j
      (λ e. let z = seat_one v n w m i j q.v_in q.n_in e in ne (ap T.core z.0 ∙ eqb-true (T.core w) c (both_right (T.facts.has_vcpu w) _ q.on_core)))

  -- the task's own core does one tick at most for it
  work_once : (x : Next) → Working T c b d x → OneMore (done_of d v n) (done_of (work_done d x) v n)
  work_once Nobody k = record { no_less = omega arith; one_most = omega arith }
  work_once (To w m) k =
      let q = k.chosen in
      ⊎_elim
      (λ e.
      let z = seat_one v n w m i j q.v_in q.n_in e in
      let new = done_new d w m (done_of d w m + 1) q.v_in q.n_in g.done_long in
      subst (λ y. OneMore (done_of d y n) (done_of (work_done d (To w m)) y n)) (sym z.0)
      (subst (λ y. OneMore (done_of d w y) (done_of (work_done d (To w m)) w y)) (sym z.1) (record { no_less = omega arith; one_most = omega arith })))
      (λ ne. let z = done_else d w m (done_of d w m + 1) q.v_in q.n_in v n i j ne in record { no_less = omega arith; one_most = omega arith })
      (same_or_not (seat v n) (seat w m))

module _ {T : Timing} (p : Paced T) (v n : ℕ) (i : InV v) (j : InN n) where
  -- a turn of a core that is not the task's
  turn_still : (c : ℕ) {r : Run} → Kept T r → (T.core v ≡ c → ⊥) → done_of (after_turn T c r).done v n ≡ done_of r.done v n
  unfolding after_turn
  turn_still c {r} g ne = let t = asks_taken p c r.done g (asking T c r.done most_picks r.board) in work_still T c t.running v n i j (asks_at T c r).pick t.working ne

  -- a turn of the task's core
  turn_once : (c : ℕ) {r : Run} → Kept T r → OneMore (done_of r.done v n) (done_of (after_turn T c r).done v n)
  unfolding after_turn
  turn_once c {r} g = let t = asks_taken p c r.done g (asking T c r.done most_picks r.board) in work_once T c t.running v n i j (asks_at T c r).pick t.working

  -- turns of cores none of which is the task's
  turns_still : (cs : List ℕ) {r : Run} → Kept T r → Each (λ c. T.core v ≡ c → ⊥) cs → done_of (after_turns T cs r).done v n ≡ done_of r.done v n
  unfolding after_turns
  turns_still [] g h = refl
  turns_still (c ∷ cs) g h = turns_still cs (turn_kept p c g) h.1 ∙ turn_still c g h.0

  -- turns of cores no two of which are one
  turns_once : (cs : List ℕ) {r : Run} → Kept T r → Pairs (λ a c. a ≡ c → ⊥) cs → OneMore (done_of r.done v n) (done_of (after_turns T cs r).done v n)
  unfolding after_turns
  turns_once [] g h = record { no_less = omega arith; one_most = omega arith }
  turns_once (c ∷ cs) {r} g h =
      let k = turn_kept p c g in
      let ih = turns_once cs k h.1 in
      ⊎_elim
      (λ e. subst (OneMore (done_of r.done v n)) (sym (turns_still cs k (each_map cs (λ x ne z. ne (sym e ∙ z)) h.0))) (turn_once c g))
      (λ ne. subst (λ x. OneMore x (done_of (after_turns T cs (after_turn T c r)).done v n)) (turn_still c g ne) ih)
      (same_or_not (T.core v) c)

  -- A TICK: the job of (v, n) does one tick at most after its release
  pub tick_once : (t : ℕ) {r : Run} → Kept T r → missed T t r.done ≡ Nobody → OneMore (done_of (opened T t r).done v n) (done_of (tick T t r).done v n)
  unfolding tick
  tick_once t g none = turns_once cores (opened_kept p t g none) apart
    where
      apart : Pairs (λ (a c : ℕ). a ≡ c → ⊥) cores
      apart = omega arith
