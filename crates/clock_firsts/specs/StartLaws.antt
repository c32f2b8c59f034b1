-- Laws of the loops that write the ticks done and the supply's two sets.
use Rattle.std.specs.Prelude.{ℕ, ◌+◌, ◌-◌, ◌*◌, ◌<◌, ◌≤◌, ◌≡◌, refl, List, Bool, false, eqb, ltb, length, get_or, set}
use Rattle.std.proofs.Common.{sym, ap, subst, ◌∙◌, ⊎_elim, le_antisymm, arith, below_more, eq-eqb, ne_eqb, length-set, get_or-set_same, get_or-set_other}
use Rattle.std.specs.Prelude.{if◌then◌else◌}
use Rattle.laws.specs.BoolLaws.{same_or_not}
use Rattle.plan.specs.Limits.{max_v, most_n}
use Rattle.plan.specs.declared.OverrunChoice.{OverrunChoice}
use Rattle.clock_times.specs.Times.{at_lengths}
use Rattle.clock_marks.specs.Marks.{at_done, marks_length, spares, Sized}
use Rattle.clock_puts.specs.Puts.{PutSupply}
use Rattle.clock_supplies.specs.SizedLaws.{sized_put_supply}
use Rattle.clock_firsts.specs.Firsts.{DoneTo, SuppliedTo}

-- THE TICKS DONE
module _ {x k : List ℕ} where
  pub done_none : DoneTo x k k 0
  done_none = record { within = omega arith; length_same = refl; new = λ j l. absurd (omega arith); else_same = λ j h. refl }

  pub done_more : {k' : List ℕ} {i y : ℕ} → length k ≡ marks_length → DoneTo x k k' i → i < max_v * most_n → y ≡ get_or x (at_lengths + i) 0 →
      DoneTo x k (set k' (at_done + 1 + i) y) (i + 1)
  done_more {k'} {i} {y} e h l q = record {
    within = omega arith;
    length_same = length-set k' (at_done + 1 + i) y ∙ h.length_same;
    new =
        below_more (λ j. get_or (set k' (at_done + 1 + i) y) (at_done + 1 + j) 0 ≡ get_or x (at_lengths + j) 0) i
        (λ j m. get_or-set_other k' (at_done + 1 + i) (at_done + 1 + j) y 0 (λ z. omega arith) ∙ h.new j m)
        (get_or-set_same k' (at_done + 1 + i) y 0 (let s = h.length_same in omega arith) ∙ q);
    else_same = λ j out.
        get_or-set_other k' (at_done + 1 + i) j y 0 (λ z. out (omega arith) (omega arith))
        ∙ h.else_same j (λ a b. out a (omega arith));
  }

  pub done_all : {k' : List ℕ} {i : ℕ} → DoneTo x k k' i → max_v * most_n ≤ i → DoneTo x k k' (max_v * most_n)
  done_all {k'} h l = subst (DoneTo x k k') (le_antisymm h.within l) h

  -- the sets stay as they were
  pub done_sized : {k' : List ℕ} → DoneTo x k k' (max_v * most_n) → Sized k → Sized k'
  done_sized h z = record {
    long = h.length_same ∙ z.long;
    sets = λ i b. rw (h.else_same i (λ a c. omega arith)) (z.sets i b);
    core_sets = λ c b. rw (h.else_same (420 + c) (λ a d. omega arith)) (z.core_sets c b);
    few_tasks = λ w a. rw (h.else_same (3 + w) (λ b d. omega arith)) (z.few_tasks w a);
    few_holders = λ w a. rw (h.else_same (19 + w) (λ b d. omega arith)) (z.few_holders w a);
  }

-- THE SUPPLY'S SETS

-- a test that is t at v, and elsewhere as it was
chosen : (w v : ℕ) {on old t : Bool} → (w ≡ v → on ≡ t) → ((w ≡ v → ⊥) → old ≡ t) → (if eqb w v then on else old) ≡ t
chosen w v is isnt = ⊎_elim (λ e. rw (eq-eqb w v e) (is e)) (λ ne. rw (ne_eqb w v ne) (isnt ne)) (same_or_not w v)

module _ {o : OverrunChoice} {ls os : List ℕ} {ss : List Bool} {k : List ℕ} where
  pub supplied_none : Sized k → SuppliedTo o ls os ss k k 1
  supplied_none z = record {
    some = omega arith;
    within = omega arith;
    sized = z;
    else_same = λ j a b. refl;
    budgets = λ w a b. absurd (omega arith);
    spared = λ w a b. absurd (omega arith);
  }

  pub supplied_more : {k' k'' : List ℕ} {v : ℕ} → SuppliedTo o ls os ss k k' v → v ≤ max_v →
      PutSupply k' k'' v (ltb 0 (get_or ls (v - 1) 0)) (spares o (get_or ss (v - 1) false) (get_or os (v - 1) 0)) → SuppliedTo o ls os ss k k'' (v + 1)
  supplied_more {k'} {k''} {v} h l p = record {
    some = omega arith;
    within = omega arith;
    sized = sized_put_supply h.sized p;
    else_same = λ j a b. p.else_same j a b ∙ h.else_same j a b;
    budgets = λ w a b.
        p.budget w (record { from = a; to = omega arith })
        ∙ chosen w v (λ (e : w ≡ v). ap (λ y. ltb 0 (get_or ls (y - 1) 0)) (sym e)) (λ ne. h.budgets w a (omega (arith, ne)));
    spared = λ w a b.
        p.spare w (record { from = a; to = omega arith })
        ∙ chosen w v (λ (e : w ≡ v). ap (λ y. spares o (get_or ss (y - 1) false) (get_or os (y - 1) 0)) (sym e)) (λ ne. h.spared w a (omega (arith, ne)));
  }

  pub supplied_all : {k' : List ℕ} {v : ℕ} → SuppliedTo o ls os ss k k' v → max_v < v → SuppliedTo o ls os ss k k' (max_v + 1)
  supplied_all {k'} {v} h l = let m = h.within in subst (SuppliedTo o ls os ss k k') (let e : v ≡ max_v + 1 = omega arith in e) h
