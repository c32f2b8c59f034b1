-- What one set, and one or two stores, change of the list k.
use Rattle.std.specs.Prelude.{ℕ, ◌+◌, ◌<◌, ◌≤◌, ◌≡◌, refl, Bool, true, false, not, ◌&&◌, ◌||◌, List, eqb, length, get_or, set}
use Rattle.std.proofs.Common.{sym, ◌∙◌, arith, length-set, get_or-set_same, get_or-set_other}
use Rattle.std.specs.Prelude.{if◌then◌else◌}
use Rattle.board_seats.specs.Seats.{seat}
use Rattle.clock_sets.specs.Sets.{in_set, With, Without}
use Rattle.clock_sets.specs.SetLaws.{some_task}
use Rattle.clock_marks.specs.Marks.{Sized, tasks_cell, holders_cell}
use Rattle.clock_marks.specs.Changes.{PutIn, PutReady, PutHeld}
use Rattle.clock_puts.specs.Puts.{Put}

-- A SET

or_on : (a b : Bool) → (a || b) ≡ (if b then true else a)
or_on true true = refl
or_on true false = refl
or_on false true = refl
or_on false false = refl

and_off : (a b : Bool) → (a && not b) ≡ (if b then false else a)
and_off true true = refl
and_off true false = refl
and_off false true = refl
and_off false false = refl

pub put_on : {s x : ℕ} {on : Bool} {r : ℕ} → on ≡ true → With s x r → Put s x on r
put_on {s = s} {x = x} e p =
    rw e (record { names = λ w h l. p.names w h l ∙ or_on (in_set s w) (eqb w x); wide = p.wide; narrow = p.narrow })

pub put_off : {s x : ℕ} {on : Bool} {r : ℕ} → s < 65536 → on ≡ false → Without s x r → Put s x on r
put_off {s = s} {x = x} g e p =
    rw e
    (record {
      names = λ w h l. p.names w h l ∙ and_off (in_set s w) (eqb w x);
      wide = let q = p.within in omega arith;
      narrow = λ h l. let q = p.within in omega arith;
    })

-- WHAT A CALL ASKS OF THE LIST

pub tasks_set : (k : List ℕ) (v : ℕ) → Sized k → 0 < v → v ≤ 16 → get_or k (3 + v) 0 < 65536
tasks_set k v z a b = omega (arith, z.few_tasks v (record { from = a; to = b }))

pub holders_set : (k : List ℕ) (v : ℕ) → Sized k → 0 < v → v ≤ 16 → get_or k (19 + v) 0 < 65536
holders_set k v z a b = omega (arith, z.few_holders v (record { from = a; to = b }))

-- the ready VCPUs, after a store to their tasks
pub ready_set : (k : List ℕ) (v s : ℕ) → Sized k → get_or (set k (3 + v) s) 2 0 < 65536
ready_set k v s z = rw (get_or-set_other k (3 + v) 2 s 0 (λ e. omega arith)) (z.sets 2 (omega arith))

pub held_place : (k : List ℕ) (i r j : ℕ) → Sized k → j ≤ 128 → 35 + j < length (set k i r)
held_place k i r j z h = rw (length-set k i r, z.long) (omega arith)

-- ONE STORE

pub put_in_is : (k : List ℕ) (i v : ℕ) (on : Bool) (r : ℕ) → Sized k → i ≤ 3 → Put (get_or k i 0) v on r → PutIn k (set k i r) i v on
put_in_is k i v on r z l p =
    let e : get_or (set k i r) i 0 ≡ r = get_or-set_same k i r 0 (let q = z.long in omega arith) in
    record {
      length_same = length-set k i r;
      else_same = λ j ne. get_or-set_other k i j r 0 ne;
      is_set = rw e p.wide;
      names = λ w a. rw e (p.names w a.from a.to);
    }

-- TWO STORES

module _ (k : List ℕ) (i j x y : ℕ) (ne : i ≡ j → ⊥) where
  two_length : length (set (set k i x) j y) ≡ length k
  two_length = length-set (set k i x) j y ∙ length-set k i x

  two_else : (a : ℕ) → (a ≡ i → ⊥) → (a ≡ j → ⊥) → get_or (set (set k i x) j y) a 0 ≡ get_or k a 0
  two_else a p q = get_or-set_other (set k i x) j a y 0 q ∙ get_or-set_other k i a x 0 p

  two_first : i < length k → get_or (set (set k i x) j y) i 0 ≡ x
  two_first h = get_or-set_other (set k i x) j i y 0 ne ∙ get_or-set_same k i x 0 h

  two_last : j < length k → get_or (set (set k i x) j y) j 0 ≡ y
  two_last h = get_or-set_same (set k i x) j y 0 (rw (length-set k i x) h)

pub put_ready_is :
    (k : List ℕ) (v n : ℕ) (on : Bool) (s r : ℕ) →
    Sized k → 0 < v → v ≤ 16 → n ≤ 8 → Put (tasks_cell k v) n on s → Put (get_or (set k (3 + v) s) 2 0) v (not (eqb s 0)) r → PutReady k (set (set k (3 + v) s) 2 r) v n on
put_ready_is k v n on s r z a b d p q =
    let ne : 3 + v ≡ 2 → ⊥ = λ e. omega arith in
    let few : s < 256 = p.narrow (z.few_tasks v (record { from = a; to = b })) d in
    let tasks-are : get_or (set (set k (3 + v) s) 2 r) (3 + v) 0 ≡ s = two_first k (3 + v) 2 s r ne (let g = z.long in omega arith) in
    let set_is : get_or (set (set k (3 + v) s) 2 r) 2 0 ≡ r = two_last k (3 + v) 2 s r ne (let g = z.long in omega arith) in
    let old : get_or (set k (3 + v) s) 2 0 ≡ get_or k 2 0 = get_or-set_other k (3 + v) 2 s 0 (λ e. ne (sym e)) in
    record {
      length_same = two_length k (3 + v) 2 s r ne;
      else_same = λ j g h. two_else k (3 + v) 2 s r ne j h g;
      is_set = rw set_is q.wide;
      few = rw tasks-are few;
      tasks = λ x h. rw tasks-are (p.names x h.from (omega arith));
      names = λ w h. rw (set_is, tasks-are, some_task s few, ← old) (q.names w h.from h.to);
    }

pub put_held_is :
    (k : List ℕ) (v n m r j : ℕ) →
    Sized k → 0 < v → v ≤ 16 → 0 < n → n ≤ 8 → j ≡ seat v n → Put (holders_cell k v) n (not (eqb m 0)) r → PutHeld k (set (set k (19 + v) r) (35 + j) m) v n m
put_held_is k v n m r j z a b f d e p =
    let ne : 19 + v ≡ 35 + seat v n → ⊥ = λ e. omega arith in
    let few : r < 256 = p.narrow (z.few_holders v (record { from = a; to = b })) d in
    let k' : List ℕ = set (set k (19 + v) r) (35 + seat v n) m in
    let set_is : get_or k' (19 + v) 0 ≡ r = two_first k (19 + v) (35 + seat v n) r m ne (let g = z.long in omega arith) in
    rw e
    (record {
      length_same = two_length k (19 + v) (35 + seat v n) r m ne;
      else_same = λ x g h. two_else k (19 + v) (35 + seat v n) r m ne x g h;
      few = rw set_is few;
      holders = λ x h. rw set_is (p.names x h.from (omega arith));
      held = two_last k (19 + v) (35 + seat v n) r m ne (let g = z.long in omega arith);
    })
