-- The sections of a task stand one behind the other.
use Rattle.std.specs.Prelude.{ℕ, zero, suc, ◌+◌, ◌-◌, ◌<◌, ◌≤◌, ◌≡◌, List, [], ◌∷◌, length, get_or, take}
use Rattle.std.proofs.Math.Path.{ap}
use Rattle.std.proofs.Math.Logic.{by_cases}
use Rattle.std.proofs.Math.Decide.{dec_le}
use native.Mathlib.Omega.{arith}
use Rattle.std.proofs.Common.{le-leb}
use Rattle.std.proofs.Math.ListN.{get_or-eq_default}
use Rattle.std.proofs.Math.Seq.{take-length}
use Rattle.laws.specs.Choice.{when}
use Rattle.laws.specs.Sums.{sum, Each}
use Rattle.laws.specs.SumLaws.{each_at_law}
use Rattle.plan.specs.Plan.{Task, no_lock}
use Rattle.plan.specs.declared.Lock.{Lock}
use Rattle.figures.specs.Figures.{lengths}
use Rattle.figures.specs.Named.{lock_at}
use Rattle.clock_cells.specs.TimesOf.{start_of, begin_of, end_of, mutex_of}

-- the rows before row i, and row i, are among the first n
sum_within : {A : Type 0} (f : A → ℕ) (d : A) (xs : List A) (i n : ℕ) → i < length xs → i < n → sum f (take i xs) + f (get_or xs i d) ≤ sum f (take n xs)
unfolding sum
sum_within f d [] i n l m = absurd (omega arith)
sum_within f d (x ∷ xs) i zero l m = absurd (omega arith)
sum_within f d (x ∷ xs) zero (suc n) l m = omega arith
sum_within f d (x ∷ xs) (suc i) (suc n) l m = let h = sum_within f d xs i n (omega arith) (omega arith) in omega arith

-- a lock of task k, by its place from 1
module _ (k : Task) where
  -- what a lock takes, with the run after it
  abbrev span : Lock → ℕ
  span l = l.ticks + l.after

  -- a place with a mutex is that of a lock
  pub lock_in : (j : ℕ) → 0 < j → 0 < mutex_of k j → j ≤ length k.locks
  unfolding mutex_of lock_at
  lock_in j g m =
      by_cases (dec_le j (length k.locks)) (λ l. l)
      (λ o. let z = ap (λ (l : Lock). l.m) (get_or-eq_default k.locks no_lock {n = j - 1} (omega arith)) in absurd (omega arith))

  begin_at : (j : ℕ) → j ≤ length k.locks → begin_of k j ≡ k.first + sum span (take (j - 1) k.locks)
  unfolding begin_of start_of when
  begin_at j l = ap (λ t. when t (start_of k j)) (le-leb j (length k.locks) l)

  end_at : (j : ℕ) → j ≤ length k.locks → end_of k j ≡ (k.first + sum span (take (j - 1) k.locks)) + (get_or k.locks (j - 1) no_lock).ticks
  unfolding end_of start_of lock_at when
  end_at j l = ap (λ t. when t (start_of k j + (lock_at k j).ticks)) (le-leb j (length k.locks) l)

  pub has_mutex_law : Each (λ l. 1 ≤ l.m) k.locks → (j : ℕ) → 0 < j → j ≤ length k.locks → 0 < mutex_of k j
  unfolding mutex_of lock_at
  has_mutex_law named j g l = each_at_law (λ x. 1 ≤ x.m) k.locks (j - 1) no_lock named (omega arith)

  pub has_ticks : Each (λ l. 1 ≤ l.ticks) k.locks → (j : ℕ) → 0 < j → j ≤ length k.locks → begin_of k j < end_of k j
  has_ticks ticked j g l =
      let some = each_at_law (λ x. 1 ≤ x.ticks) k.locks (j - 1) no_lock ticked (omega arith) in
      let b = begin_at j l in
      let e = end_at j l in
      omega arith

  -- a section ends before a later one begins, and within the lengths
  pub ends_before : (i j : ℕ) → 0 < i → i < j → j ≤ length k.locks → end_of k i ≤ begin_of k j
  ends_before i j g m l =
      let h = sum_within span no_lock k.locks (i - 1) (j - 1) (omega arith) (omega arith) in
      let b = begin_at j l in
      let e = end_at i (omega arith) in
      omega arith

  pub ends_within : (j : ℕ) → 0 < j → j ≤ length k.locks → end_of k j ≤ lengths k
  unfolding lengths
  ends_within j g l =
      let h = sum_within span no_lock k.locks (j - 1) (length k.locks) (omega arith) (omega arith) in
      let z = ap (sum span) (take-length k.locks) in
      let e = end_at j l in
      omega arith
