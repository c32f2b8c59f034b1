-- Whom a release finds unfinished: nobody, or the lowest v and in it the lowest n.
use Rattle.std.specs.Prelude.{ℕ, ◌%◌, ◌<◌, ◌≡◌, refl, Bool, true, false, List, ◌↔◌, eqb}
use Rattle.std.proofs.Common.{sym, ap, subst, ◌∙◌, inl, inr, ⊎_elim, arith, eq-zero-or-pos, eqb-true, eq-eqb, ne_eqb, ltb-true, lt-ltb}
use Rattle.std.specs.Prelude.{if◌then◌else◌}
use Rattle.laws.specs.Range.{any_to}
use Rattle.laws.specs.RangeLaws.{none_at, any_hit}
use Rattle.laws.specs.BoolLaws.{both, both_left, both_right, clash}
use Rattle.laws_picks.specs.Picks.{lowest}
use Rattle.laws_picks.specs.PickLaws.{lowest_le, lowest_passes, lowest_least, lowest_zero}
use Rattle.plan.specs.Limits.{max_v, most_n}
use Rattle.board_rules.specs.declared.Next.{Next}
use Rattle.board_rules.specs.declared.Next.TheVariants.{Nobody, To}
use Rattle.board_rules.specs.Board.{next_of}
use Rattle.board_keeps.specs.Fair.{InV, InN}
use Rattle.board_keeps.specs.Nexts.{Lower}
use Rattle.clock_rules.specs.Clock.{Timing, done_of, is_unfinished, is_released, misses, missed}
use Rattle.clock_steps.specs.Picked.{next_v, next_n, nobody_picks}

-- a job of (v, n) is unfinished when its next is released, at tick t
pub record Misses (T : Timing) (t : ℕ) (d : List ℕ) (v n : ℕ) : Type 0 where
  pub task : T.facts.has_task v n ≡ true
  pub due : t % T.period v n ≡ 0
  pub unfinished : done_of d v n < T.lengths v n

-- the test says just that
pub misses_exactly : (T : Timing) (t : ℕ) (d : List ℕ) (v n : ℕ) → (misses T t d v n ≡ true) ↔ Misses T t d v n
misses_exactly T t d v n = (
  λ e.
      let r = both_left (is_released T t v n) (is_unfinished T d v n) e in
      let u = both_right (is_released T t v n) (is_unfinished T d v n) e in
      record {
        task = both_left (T.facts.has_task v n) _ r;
        due = eqb-true (t % T.period v n) 0 (both_right (T.facts.has_task v n) _ r);
        unfinished = ltb-true (done_of d v n) (T.lengths v n) (both_right (T.facts.has_task v n) _ u);
      },
  λ m. both (is_released T t v n) (is_unfinished T d v n)
      (both (T.facts.has_task v n) _ m.task (eq-eqb (t % T.period v n) 0 m.due))
      (both (T.facts.has_task v n) _ m.task (lt-ltb (done_of d v n) (T.lengths v n) m.unfinished)),
)

-- (v, n) misses, and no lower task does
pub record FirstMiss (T : Timing) (t : ℕ) (d : List ℕ) (v n : ℕ) : Type 0 where
  pub v_in : InV v
  pub n_in : InN n
  pub is_missed : Misses T t d v n
  pub none_lower : (x j : ℕ) → InV x → InN j → Misses T t d x j → Lower x j v n → ⊥

-- what the clock says of a release
pub data MissedBy (T : Timing) (t : ℕ) (d : List ℕ) : Next → Type 0 where
  -- no job that is released is unfinished
  none_misses : ((x j : ℕ) → InV x → InN j → misses T t d x j ≡ false) → MissedBy T t d Nobody
  -- (v, n) is the first whose job is
  first_misses : (v n : ℕ) → FirstMiss T t d v n → MissedBy T t d (To v n)

module _ (T : Timing) (t : ℕ) (d : List ℕ) where
  -- some task of v misses
  abbrev missing : ℕ → Bool
  missing v = any_to most_n (misses T t d v)

  -- a task that misses is one of its VCPU's
  missing_hit : (x j : ℕ) → InN j → misses T t d x j ≡ true → missing x ≡ true
  missing_hit x j i e = any_hit most_n j (misses T t d x) i.from i.to e

  -- the answer by its v and n
  missed_of : (v n : ℕ) → lowest max_v missing ≡ v → lowest most_n (misses T t d v) ≡ n → missed T t d ≡ (if eqb v 0 then Nobody else next_of v n)
  unfolding missed
  missed_of v n e f = rw (e, f)

  -- no VCPU has a task that misses
  miss_none : lowest max_v missing ≡ 0 → MissedBy T t d (missed T t d)
  miss_none e =
      rw (missed_of 0 _ e refl)
      (none_misses (λ x j i l. none_at most_n j (misses T t d x) (none_at max_v x missing ((lowest_zero max_v missing).1 e) i.from i.to) l.from l.to))

  -- the lowest VCPU that has one, and in it the lowest
  miss_first : 0 < lowest max_v missing → MissedBy T t d (missed T t d)
  miss_first h =
      let v = lowest max_v missing in
      let some = lowest_passes max_v missing h in
      let n = lowest most_n (misses T t d v) in
      let nz : n ≡ 0 → ⊥ = λ z. clash some ((lowest_zero most_n (misses T t d v)).1 z) in
      rw (missed_of v n refl refl, ne_eqb v 0 (λ z. omega arith), ne_eqb n 0 nz)
      (first_misses v n (record {
        v_in = record { from = h; to = lowest_le max_v missing };
        n_in = record { from = omega arith; to = lowest_le most_n (misses T t d v) };
        is_missed = (misses_exactly T t d v n).0 (lowest_passes most_n (misses T t d v) (omega arith));
        none_lower = λ x j i l m.
            let e = (misses_exactly T t d x j).1 m in
            ⊎_elim
            (λ lt. let q = lowest_least max_v x missing i.from i.to (missing_hit x j l e) in omega arith)
            (λ lt. let q = lowest_least most_n j (misses T t d v) l.from l.to (subst (λ y. misses T t d y j ≡ true) lt.0 e) in let r = lt.1 in omega arith);
      }))

  -- what the clock says of a release is so
  pub missed_view : MissedBy T t d (missed T t d)
  missed_view = ⊎_elim miss_none miss_first (eq-zero-or-pos (lowest max_v missing))

  -- where it says nobody, no job that is released is unfinished
  pub none_missed : missed T t d ≡ Nobody → (v n : ℕ) → InV v → InN n → misses T t d v n ≡ false
  none_missed = read missed_view
    where
      read : {x : Next} → MissedBy T t d x → x ≡ Nobody → (v n : ℕ) → InV v → InN n → misses T t d v n ≡ false
      read (none_misses h) e = h
      read (first_misses v n q) e = absurd (nobody_picks (sym e))

  -- two that are first are one
  first_one : (v n x j : ℕ) → FirstMiss T t d v n → FirstMiss T t d x j → (v ≡ x) × (n ≡ j)
  first_one v n x j p q =
      let ev : v ≡ x = between v x (λ l. q.none_lower v n p.v_in p.n_in p.is_missed (inl l)) (λ l. p.none_lower x j q.v_in q.n_in q.is_missed (inl l)) in (
        ev,
        between n j (λ l. q.none_lower v n p.v_in p.n_in p.is_missed (inr (ev, l))) (λ l. p.none_lower x j q.v_in q.n_in q.is_missed (inr (sym ev, l))),
      )
    where
      between : (a b : ℕ) → (a < b → ⊥) → (b < a → ⊥) → a ≡ b
      between a b f g = omega arith

  -- it says (v, n) just where (v, n) is the first whose job is unfinished
  pub missed_exactly : (v n : ℕ) → (missed T t d ≡ To v n) ↔ FirstMiss T t d v n
  missed_exactly v n = (to missed_view, from missed_view)
    where
      to : {x : Next} → MissedBy T t d x → x ≡ To v n → FirstMiss T t d v n
      to (none_misses h) e = absurd (nobody_picks e)
      to (first_misses x j q) e = subst (λ y. FirstMiss T t d v y) (ap next_n e) (subst (λ y. FirstMiss T t d y j) (ap next_v e) q)

      from : {x : Next} → MissedBy T t d x → FirstMiss T t d v n → x ≡ To v n
      from (none_misses h) q = absurd (clash ((misses_exactly T t d v n).1 q.is_missed) (h v n q.v_in q.n_in))
      from (first_misses x j p) q = let r = first_one x j v n p q in ap (λ y. To y j) r.0 ∙ ap (To v) r.1
