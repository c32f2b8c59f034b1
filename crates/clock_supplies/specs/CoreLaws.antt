-- Laws of the sets of the cores' VCPUs, of the supply's two sets, and of a list that is emptied.
use Rattle.std.specs.Prelude.{ℕ, ◌+◌, ◌<◌, ◌≤◌, ◌≡◌, refl, Bool, List, eqb, length, get_or, set}
use Rattle.std.proofs.Common.{◌∙◌, ⊎_elim, arith, length-set, get_or-set_same, get_or-set_other, eq-eqb, ne_eqb}
use Rattle.std.specs.Prelude.{if◌then◌else◌}
use Rattle.laws.specs.BoolLaws.{same_or_not}
use Rattle.clock_sets.specs.Sets.{in_set}
use Rattle.clock_times.specs.Times.{core_cell}
use Rattle.clock_marks.specs.Marks.{Sized, at_cores, marks_length}
use Rattle.clock_marks.specs.Changes.{PutIn}
use Rattle.clock_puts.specs.Puts.{Put, PutSupply, CoreSet, PutCores, Cleared}
use Rattle.clock_supplies.specs.SizedLaws.{sized_put_cores}

-- BUDGET AND SPARE, one after the other

pub supply_is : (k h k' : List ℕ) (v : ℕ) (p q : Bool) → PutIn k h 0 v p → PutIn h k' 1 v q → PutSupply k k' v p q
supply_is k h k' v p q a b =
    let first : get_or k' 0 0 ≡ get_or h 0 0 = b.else_same 0 (λ e. omega arith) in
    let old : get_or h 1 0 ≡ get_or k 1 0 = a.else_same 1 (λ e. omega arith) in
    record {
      length_same = b.length_same ∙ a.length_same;
      else_same = λ j n m. b.else_same j m ∙ a.else_same j n;
      budget_set = rw first a.is_set;
      spare_set = b.is_set;
      budget = λ w i. rw first (a.names w i);
      spare = λ w i. rw (← old) (b.names w i);
    }

-- ONE CORE

-- s has the VCPUs below v for which x has c
pub record CoreBelow (x : List ℕ) (c v s : ℕ) : Type 0 where
  pub is_set : s < 65536
  pub names : (w : ℕ) → 0 < w → w < v → in_set s w ≡ eqb (core_cell x w) c

pub core_none : (x : List ℕ) (c : ℕ) → CoreBelow x c 1 0
core_none x c = record { is_set = omega arith; names = λ w h l. absurd (omega arith) }

chosen : (w v : ℕ) {on old t : Bool} → (w ≡ v → on ≡ t) → ((w ≡ v → ⊥) → old ≡ t) → (if eqb w v then on else old) ≡ t
chosen w v is isnt = ⊎_elim (λ e. rw (eq-eqb w v e) (is e)) (λ ne. rw (ne_eqb w v ne) (isnt ne)) (same_or_not w v)

pub core_more : (x : List ℕ) (c v s r : ℕ) {on : Bool} → v ≤ 16 → CoreBelow x c v s → on ≡ eqb (core_cell x v) c → Put s v on r → CoreBelow x c (v + 1) r
core_more x c v s r l b e p =
    record {
      is_set = p.wide;
      names = λ w h g. p.names w h (omega arith) ∙ chosen w v (λ (q : w ≡ v). rw (q, e)) (λ ne. b.names w h (omega (arith, ne)));
    }

pub core_all : {x : List ℕ} {c v s : ℕ} → 16 < v → CoreBelow x c v s → CoreSet x c s
core_all h b = record { is_set = b.is_set; names = λ w i. b.names w i.from (omega arith) }

-- THE CORES, ONE AFTER THE OTHER

-- the first c of them are written
pub record CoresTo (x k k' : List ℕ) (c : ℕ) : Type 0 where
  pub length_same : length k' ≡ length k
  pub else_same : (j : ℕ) → j < at_cores → get_or k' j 0 ≡ get_or k j 0
  pub written : (d : ℕ) → d < c → CoreSet x (d + 1) (get_or k' (at_cores + d) 0)

cores_none : (x k : List ℕ) → CoresTo x k k 0
cores_none x k = record { length_same = refl; else_same = λ j h. refl; written = λ d h. absurd (omega arith) }

cores_more : (x k h : List ℕ) (c s : ℕ) → length k ≡ marks_length → c ≤ 3 → CoresTo x k h c → CoreSet x (c + 1) s → CoresTo x k (set h (at_cores + c) s) (c + 1)
cores_more x k h c s l m a p =
    record {
      length_same = length-set h (at_cores + c) s ∙ a.length_same;
      else_same = λ j g. get_or-set_other h (at_cores + c) j s 0 (λ e. omega arith) ∙ a.else_same j g;
      written = λ d g.
          ⊎_elim
          (λ (e : d ≡ c). rw (e, get_or-set_same h (at_cores + c) s 0 (let q = a.length_same in omega arith)) p)
          (λ (ne : d ≡ c → ⊥).
          rw (get_or-set_other h (at_cores + c) (at_cores + d) s 0 (λ e. ne (omega arith))) (a.written d (omega (arith, ne))))
          (same_or_not d c);
    }

pub cores_are :
    (x k : List ℕ) (a b d e : ℕ) →
    length k ≡ marks_length →
    CoreSet x 1 a → CoreSet x 2 b → CoreSet x 3 d → CoreSet x 4 e → PutCores x k (set (set (set (set k 420 a) 421 b) 422 d) 423 e)
cores_are x k a b d e l p q r t =
    let h₁ : CoresTo x k (set k 420 a) 1 = cores_more x k k 0 a l (omega arith) (cores_none x k) p in
    let h₂ : CoresTo x k (set (set k 420 a) 421 b) 2 = cores_more x k (set k 420 a) 1 b l (omega arith) h₁ q in
    let h₃ : CoresTo x k (set (set (set k 420 a) 421 b) 422 d) 3 = cores_more x k (set (set k 420 a) 421 b) 2 d l (omega arith) h₂ r in
    let h₄ : CoresTo x k (set (set (set (set k 420 a) 421 b) 422 d) 423 e) 4 =
    cores_more x k (set (set (set k 420 a) 421 b) 422 d) 3 e l (omega arith) h₃ t in
    record {
      length_same = h₄.length_same;
      else_same = h₄.else_same;
      is_set = λ c m. (h₄.written c (omega arith)).is_set;
      names = λ c w m i. (h₄.written c (omega arith)).names w i;
    }

-- AN EMPTY LIST

-- the first i places have 0
pub record EmptyTo (k : List ℕ) (i : ℕ) : Type 0 where
  pub at : (j : ℕ) → j < i → get_or k j 0 ≡ 0

pub empty_none : {k : List ℕ} → EmptyTo k 0
empty_none = record { at = λ j h. absurd (omega arith) }

pub empty_more : {k : List ℕ} {i : ℕ} → length k ≡ 424 → i < 424 → EmptyTo k i → EmptyTo (set k i 0) (i + 1)
empty_more {k} {i} e l a =
    record {
      at = λ j h.
          ⊎_elim
          (λ (q : j ≡ i). rw (q, get_or-set_same k i 0 0 (omega arith)))
          (λ (ne : j ≡ i → ⊥). get_or-set_other k i j 0 0 ne ∙ a.at j (omega (arith, ne)))
          (same_or_not j i);
    }

empty_sized : (k : List ℕ) → length k ≡ marks_length → EmptyTo k marks_length → Sized k
empty_sized k l a =
    record {
      long = l;
      sets = λ i h. rw (a.at i (omega arith)) (omega arith);
      core_sets = λ c h. rw (a.at (420 + c) (omega arith)) (omega arith);
      few_tasks = λ w i. rw (a.at (3 + w) (omega arith)) (omega arith);
      few_holders = λ w i. rw (a.at (19 + w) (omega arith)) (omega arith);
    }

pub cleared_is : {x k k' : List ℕ} {i : ℕ} → 424 ≤ i → length k ≡ marks_length → EmptyTo k i → PutCores x k k' → Cleared x k'
cleared_is {k = k} h l a p =
    record {
      sized = sized_put_cores (empty_sized k l (record { at = λ j g. a.at j (omega arith) })) p;
      empty = λ j g. p.else_same j g ∙ a.at j (omega arith);
      cores = p.names;
    }
