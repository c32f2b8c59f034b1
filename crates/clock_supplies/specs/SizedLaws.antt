-- The list stays long enough, and its sets stay sets, over each write.
use Rattle.std.specs.Prelude.{ℕ, ◌+◌, ◌<◌, ◌≤◌, ◌≡◌, Bool, List, get_or, set}
use Rattle.std.proofs.Common.{◌∙◌, ⊎_elim, arith, length-set, get_or-set_other}
use Rattle.laws.specs.BoolLaws.{same_or_not}
use Rattle.board_seats.specs.Seats.{seat}
use Rattle.board_keeps.specs.Fair.{InV, InN}
use Rattle.clock_marks.specs.Marks.{Sized, at_done, at_place, at_cores}
use Rattle.clock_marks.specs.Changes.{PutIn, PutReady, PutHeld}
use Rattle.clock_puts.specs.Puts.{PutSupply, PutCores}

module _ {k : List ℕ} (z : Sized k) where
  -- a place with a number below b still has one
  still : (k' : List ℕ) (b i j : ℕ) → (j ≡ i → get_or k' j 0 < b) → ((j ≡ i → ⊥) → get_or k' j 0 ≡ get_or k j 0) → get_or k j 0 < b → get_or k' j 0 < b
  still k' b i j is isnt h = ⊎_elim is (λ ne. rw (isnt ne) h) (same_or_not j i)

  pub sized_put_in : {k' : List ℕ} {i v : ℕ} {on : Bool} → i ≤ 3 → PutIn k k' i v on → Sized k'
  sized_put_in {k'} {i} l p =
      record {
        long = p.length_same ∙ z.long;
        sets = λ j h. still k' 65536 i j (λ e. rw e p.is_set) (p.else_same j) (z.sets j h);
        core_sets = λ c h. rw (p.else_same (420 + c) (λ e. omega arith)) (z.core_sets c h);
        few_tasks = λ w a. rw (p.else_same (3 + w) (λ e. omega arith)) (z.few_tasks w a);
        few_holders = λ w a. rw (p.else_same (19 + w) (λ e. omega arith)) (z.few_holders w a);
      }

  pub sized_put_ready : {k' : List ℕ} {v n : ℕ} {on : Bool} → InV v → PutReady k k' v n on → Sized k'
  sized_put_ready {k'} {v} i p =
      record {
        long = p.length_same ∙ z.long;
        sets = λ j h. still k' 65536 2 j (λ e. rw e p.is_set) (λ ne. p.else_same j ne (λ e. omega arith)) (z.sets j h);
        core_sets = λ c h. rw (p.else_same (420 + c) (λ e. omega arith) (λ e. omega arith)) (z.core_sets c h);
        few_tasks = λ w a.
            still k' 256 (3 + v) (3 + w) (λ e. rw e p.few) (λ ne. p.else_same (3 + w) (λ e. omega arith) ne) (z.few_tasks w a);
        few_holders = λ w a. rw (p.else_same (19 + w) (λ e. omega arith) (λ e. omega arith)) (z.few_holders w a);
      }

  pub sized_put_held : {k' : List ℕ} {v n m : ℕ} → InV v → InN n → PutHeld k k' v n m → Sized k'
  sized_put_held {k'} {v} {n} i l p =
      record {
        long = p.length_same ∙ z.long;
        sets = λ j h. rw (p.else_same j (λ e. omega arith) (λ e. omega arith)) (z.sets j h);
        core_sets = λ c h. rw (p.else_same (420 + c) (λ e. omega arith) (λ e. omega arith)) (z.core_sets c h);
        few_tasks = λ w a. rw (p.else_same (3 + w) (λ e. omega arith) (λ e. omega arith)) (z.few_tasks w a);
        few_holders = λ w a.
            still k' 256 (19 + v) (19 + w) (λ e. rw e p.few) (λ ne. p.else_same (19 + w) ne (λ e. omega arith)) (z.few_holders w a);
      }

  pub sized_put_supply : {k' : List ℕ} {v : ℕ} {p q : Bool} → PutSupply k k' v p q → Sized k'
  sized_put_supply {k'} p =
      record {
        long = p.length_same ∙ z.long;
        sets = λ j h.
            ⊎_elim
            (λ e. rw e p.budget_set)
            (λ ne. still k' 65536 1 j (λ e. rw e p.spare_set) (λ other. p.else_same j ne other) (z.sets j h))
            (same_or_not j 0);
        core_sets = λ c h. rw (p.else_same (420 + c) (λ e. omega arith) (λ e. omega arith)) (z.core_sets c h);
        few_tasks = λ w a. rw (p.else_same (3 + w) (λ e. omega arith) (λ e. omega arith)) (z.few_tasks w a);
        few_holders = λ w a. rw (p.else_same (19 + w) (λ e. omega arith) (λ e. omega arith)) (z.few_holders w a);
      }

  pub sized_put_cores : {x k' : List ℕ} → PutCores x k k' → Sized k'
  sized_put_cores p =
      record {
        long = p.length_same ∙ z.long;
        sets = λ j h. rw (p.else_same j (omega arith)) (z.sets j h);
        core_sets = p.is_set;
        few_tasks = λ w a. rw (p.else_same (3 + w) (omega arith)) (z.few_tasks w a);
        few_holders = λ w a. rw (p.else_same (19 + w) (omega arith)) (z.few_holders w a);
      }

  -- a store at a place that is no set: of what a task holds, its ticks done, its sections ended, and what recurs next
  pub sized_set : (j x : ℕ) → 36 ≤ j → j < at_cores → Sized (set k j x)
  sized_set j x h l =
      record {
        long = length-set k j x ∙ z.long;
        sets = λ i b. rw (get_or-set_other k j i x 0 (λ e. omega arith)) (z.sets i b);
        core_sets = λ c b. rw (get_or-set_other k j (420 + c) x 0 (λ e. omega arith)) (z.core_sets c b);
        few_tasks = λ w a. rw (get_or-set_other k j (3 + w) x 0 (λ e. omega arith)) (z.few_tasks w a);
        few_holders = λ w a. rw (get_or-set_other k j (19 + w) x 0 (λ e. omega arith)) (z.few_holders w a);
      }

  pub sized_done : (v n d : ℕ) → InV v → InN n → Sized (set k (at_done + seat v n) d)
  sized_done v n d i l = sized_set (at_done + seat v n) d (omega arith) (omega arith)

  pub sized_place : (v n q : ℕ) → InV v → InN n → Sized (set k (at_place + seat v n) q)
  sized_place v n q i l = sized_set (at_place + seat v n) q (omega arith) (omega arith)
