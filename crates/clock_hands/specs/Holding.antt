-- Whether the tasks of a VCPU hold a global mutex, as what is kept of its holders says it.
use Rattle.std.specs.Prelude.{ℕ, ◌<◌, ◌≡◌, refl, List, Bool, true, false, ◌&&◌, not, eqb}
use Rattle.std.proofs.Common.{ap, sym, ◌∙◌, ⊎_elim, arith, eq-eqb, ne_eqb, eqb-true}
use Rattle.laws.specs.Range.{any_to, highest}
use Rattle.laws.specs.RangeLaws.{any_hit, none_of, highest_passes, highest_zero}
use Rattle.laws.specs.BoolLaws.{both, both_right, miss_left, miss_right, both_ways, clash, same_or_not}
use Rattle.plan.specs.Limits.{most_n}
use Rattle.board_rules.specs.Facts.{Facts}
use Rattle.board_rules.specs.declared.Board.{Board}
use Rattle.board_rules.specs.Board.{holds_global}
use Rattle.board_keeps.specs.Fair.{InV, InN}
use Rattle.clock_sets.specs.Sets.{in_set, Without, Highest}
use Rattle.clock_sets.specs.SetLaws.{some_task, in_none}
use Rattle.clock_marks.specs.Marks.{global_mark, holders_cell, held_cell, held_by}
use Rattle.clock_mirrors.specs.Tells.{Reading, Tells, any_tasks}
use Rattle.clock_mirrors.specs.Holds.{holding_read}

-- some task of v in the set s holds a global mutex
abbrev pub global_among : List ℕ → ℕ → ℕ → Bool
global_among k v s = any_to most_n (λ n. in_set s n && eqb (held_cell k v n) global_mark)

-- some holder of v does
abbrev pub holds_in : List ℕ → ℕ → Bool
holds_in k v = global_among k v (holders_cell k v)

-- THE WALK over the holders: none is left
module _ (k : List ℕ) (v : ℕ) where
  pub among_none : (s : ℕ) → s ≡ 0 → global_among k v s ≡ false
  among_none s z =
      none_of most_n (λ n. in_set s n && eqb (held_cell k v n) global_mark)
      (λ n a b. miss_left (in_set s n) (eqb (held_cell k v n) global_mark) (ap (λ y. in_set y n) z ∙ in_none n))

  -- the greatest of those left
  module _ {s n : ℕ} (few : s < 256) (nz : s ≡ 0 → ⊥) (h : Highest s n) where
    some : 0 < highest most_n (in_set s)
    some =
        let z : highest most_n (in_set s) ≡ 0 → ⊥ = λ q. clash (some_task s few ∙ ap not (ne_eqb s 0 nz)) ((highest_zero most_n (in_set s)).1 q) in
        omega arith

    -- is a task
    pub among_in : InN n
    among_in = let e = h.narrow_is few in let p = some in record { from = omega arith; to = h.narrow few }

    -- that is in the set
    is_in : in_set s n ≡ true
    is_in = ap (in_set s) (h.narrow_is few) ∙ highest_passes most_n (in_set s) some

    -- it holds a global mutex
    pub among_hit : held_cell k v n ≡ global_mark → global_among k v s ≡ true
    among_hit e =
        any_hit most_n n (λ y. in_set s y && eqb (held_cell k v y) global_mark) among_in.from among_in.to
        (both (in_set s n) (eqb (held_cell k v n) global_mark) is_in (eq-eqb (held_cell k v n) global_mark e))

    -- or it is passed over
    pub among_less : (held_cell k v n ≡ global_mark → ⊥) → {s' : ℕ} → Without s n s' → global_among k v s' ≡ global_among k v s
    among_less ne {s'} w = any_tasks {f = λ y. in_set s' y && eqb (held_cell k v y) global_mark} {g = λ y. in_set s y && eqb (held_cell k v y) global_mark} each
      where
        other : (a b : Bool) → b ≡ false → (a && not b) ≡ a
        other true b e = ap not e
        other false b e = refl

        each : (y : ℕ) → InN y → (in_set s' y && eqb (held_cell k v y) global_mark) ≡ (in_set s y && eqb (held_cell k v y) global_mark)
        each y j =
            let t = j.to in
            ⊎_elim
            (λ e.
            let f : eqb (held_cell k v y) global_mark ≡ false = ne_eqb (held_cell k v y) global_mark (λ q. ne (ap (held_cell k v) (sym e) ∙ q)) in
            miss_right (in_set s' y) (eqb (held_cell k v y) global_mark) f ∙ sym (miss_right (in_set s y) (eqb (held_cell k v y) global_mark) f))
            (λ d. ap (λ x. x && eqb (held_cell k v y) global_mark) (w.names y j.from (omega arith) ∙ other (in_set s y) (eqb y n) (ne_eqb y n d)))
            (same_or_not y n)

    -- fewer are left
    pub among_fewer : {s' : ℕ} → Without s n s' → s' < s
    among_fewer {s'} w =
        let t = among_in.to in
        let l = w.within in
        let ne : s' ≡ s → ⊥ = λ z. clash (ap (λ x. in_set x n) z ∙ is_in) (w.names n among_in.from (omega arith) ∙ miss_right (in_set s n) (not (eqb n n)) (ap not (eq-eqb n n refl))) in
        omega arith

-- WHERE THE CELLS SAY WHAT THE TASKS HOLD the holders do
pub holds_told : (F : Facts) (b : Board) {k : List ℕ} {r : Reading} (v : ℕ) → Tells k r → InV v → ((n : ℕ) → InN n → held_cell k v n ≡ held_by F b v n) → holds_in k v ≡ holds_global F b v
holds_told F b {k} {r} v t i h =
    any_tasks {f = λ n. in_set (holders_cell k v) n && eqb (held_cell k v n) global_mark} {g = λ n. eqb (held_cell k v n) global_mark} each ∙ holding_read F b k v h
  where
    each : (n : ℕ) → InN n → (in_set (holders_cell k v) n && eqb (held_cell k v n) global_mark) ≡ eqb (held_cell k v n) global_mark
    each n j =
        let e : in_set (holders_cell k v) n ≡ not (eqb (held_cell k v n) 0) = t.holders v n i j ∙ ap (λ m. not (eqb m 0)) (sym (t.helds v n i j)) in
        both_ways (in_set (holders_cell k v) n && eqb (held_cell k v n) global_mark) (eqb (held_cell k v n) global_mark)
        (both_right (in_set (holders_cell k v) n) (eqb (held_cell k v n) global_mark))
        (λ q.
        let m = eqb-true (held_cell k v n) global_mark q in
        both (in_set (holders_cell k v) n) (eqb (held_cell k v n) global_mark) (e ∙ ap not (ne_eqb (held_cell k v n) 0 (λ z. omega arith))) q)
