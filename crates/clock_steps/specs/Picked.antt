-- Whom a core picks.
use Rattle.std.specs.Prelude.{ℕ, ◌<◌, ◌≡◌, refl, true, false, not, List, eqb, ltb}
use Rattle.std.proofs.Math.Path.{subst}
use Rattle.std.proofs.Common.{⊎_elim, arith}
use borrow.Author.Tests.{eqb-true, eq-eqb, ne_eqb, ltb-true, not-true}
use Rattle.std.specs.Prelude.{if◌then◌else◌}
use Rattle.laws.specs.BoolLaws.{both_left, both_right, same_or_not}
use Rattle.laws_picks.specs.PickLaws.{top_most}
use Rattle.plan.specs.Limits.{max_v, most_n}
use Rattle.board_rules.specs.declared.Board.{Board}
use Rattle.board_rules.specs.declared.Next.{Next}
use Rattle.board_rules.specs.declared.Next.TheVariants.{Nobody, To}
use Rattle.board_rules.specs.Board.{wait_of, is_asleep, next_of, task_priority, vcpu_priority}
use Rattle.board_keeps.specs.Fair.{InV, InN}
use Rattle.clock_rules.specs.Clock.{Timing, done_of, is_unfinished, is_ready, is_on, may_run, pick_v, pick_n, picked}

-- WHO IS NEXT

-- the v of a pick
abbrev pub next_v : Next → ℕ
next_v Nobody = 0
next_v (To v n) = v

-- the n of a pick
abbrev pub next_n : Next → ℕ
next_n Nobody = 0
next_n (To v n) = n

-- nobody is not somebody
pub nobody_picks : {v n : ℕ} → Nobody ≡ To v n → ⊥
nobody_picks e = let z : ◌≡◌ {A = ℕ} 0 1 = cc in omega arith

-- THE PICK OF A CORE

-- core c may pick task (v, n): its VCPU is on c and awake, and it has an unfinished job and waits for nothing
pub record Chosen (T : Timing) (c : ℕ) (b : Board) (d : List ℕ) (v n : ℕ) : Type 0 where
  pub v_in : InV v
  pub n_in : InN n
  pub on_core : is_on T c v ≡ true
  pub awake : is_asleep T.facts b v ≡ false
  pub ready : is_ready T b d v n ≡ true

-- a pick is of nobody, or of such a task
pub data Picked (T : Timing) (c : ℕ) (b : Board) (d : List ℕ) : Next → Type 0 where
  nobody : Picked T c b d Nobody
  somebody : (v n : ℕ) → Chosen T c b d v n → Picked T c b d (To v n)

module _ (T : Timing) (c : ℕ) (b : Board) (d : List ℕ) where
  -- the pick by its v and n
  pick_of_law : (v n : ℕ) → pick_v T c b d ≡ v → pick_n T b d v ≡ n → picked T c b d ≡ (if eqb v 0 then Nobody else next_of v n)
  unfolding picked
  pick_of_law v n e f = rw (e, f)

  -- the topmost VCPU, and in it the topmost task, may be picked
  chosen : (v n : ℕ) → pick_v T c b d ≡ v → pick_n T b d v ≡ n → (v ≡ 0 → ⊥) → (n ≡ 0 → ⊥) → Chosen T c b d v n
  unfolding pick_v pick_n
  chosen v n e f nv nn =
      let r = top_most max_v (may_run T c b d) (vcpu_priority T.facts b) (omega arith) in
      let q = top_most most_n (is_ready T b d v) (task_priority T.facts b v) (omega arith) in
      let m = subst (λ x. may_run T c b d x ≡ true) e r.is_passed in
      record {
        v_in = subst InV e r.in_range_law;
        n_in = subst InN f q.in_range_law;
        on_core = both_left (is_on T c v) _ m;
        awake = not-true (is_asleep T.facts b v) (both_left (not (is_asleep T.facts b v)) _ (both_right (is_on T c v) _ m));
        ready = subst (λ x. is_ready T b d v x ≡ true) f q.is_passed;
      }

  -- whom a core picks, it may pick
  pub picks : Picked T c b d (picked T c b d)
  picks = at (pick_v T c b d) (pick_n T b d (pick_v T c b d)) refl refl
    where
      at : (v n : ℕ) → pick_v T c b d ≡ v → pick_n T b d v ≡ n → Picked T c b d (picked T c b d)
      at v n e f =
          ⊎_elim (λ z. rw (pick_of_law v n e f, eq-eqb v 0 z) nobody)
          (λ nv. ⊎_elim (λ z. rw (pick_of_law v n e f, ne_eqb v 0 nv, eq-eqb n 0 z) nobody)
          (λ nn. rw (pick_of_law v n e f, ne_eqb v 0 nv, ne_eqb n 0 nn) (somebody v n (chosen v n e f nv nn)))
          (same_or_not n 0)) (same_or_not v 0)

-- what a ready task is
pub record Ready (T : Timing) (b : Board) (d : List ℕ) (v n : ℕ) : Type 0 where
  pub task : T.facts.has_task v n ≡ true
  pub unfinished : done_of d v n < T.lengths v n
  pub no_wait : wait_of b v n ≡ 0

-- the test says so
pub is_ready_law : (T : Timing) (b : Board) (d : List ℕ) (v n : ℕ) → is_ready T b d v n ≡ true → Ready T b d v n
is_ready_law T b d v n e =
    let u = both_left (is_unfinished T d v n) (eqb (wait_of b v n) 0) e in
    record {
      task = both_left (T.facts.has_task v n) (ltb (done_of d v n) (T.lengths v n)) u;
      unfinished = ltb-true (done_of d v n) (T.lengths v n) (both_right (T.facts.has_task v n) (ltb (done_of d v n) (T.lengths v n)) u);
      no_wait = eqb-true (wait_of b v n) 0 (both_right (is_unfinished T d v n) (eqb (wait_of b v n) 0) e);
    }
