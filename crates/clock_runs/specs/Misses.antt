-- The ticks at which a period recurs, and whether a tick misses a job.
use Rattle.std.specs.Prelude.{ℕ, ◌*◌, ◌%◌, ◌/◌, ◌≡◌, refl, true, false, List, ◌⊎◌}
use Rattle.std.proofs.Common.{inl, inr, arith, div-add-mod', eqb-true, eq-eqb}
use Rattle.std.proofs.Math.Nat.{mul-mod_left}
use Rattle.laws.specs.BoolLaws.{clash}
use Rattle.board_rules.specs.declared.Next.{Next}
use Rattle.board_rules.specs.declared.Next.TheVariants.{Nobody}
use Rattle.board_keeps.specs.Fair.{Fair, InV, InN, task_v}
use Rattle.clock_rules.specs.Clock.{Timing, recurs, misses, missed}
use Rattle.clock_steps.specs.Missed.{misses_exactly, FirstMiss, MissedBy, none_misses, first_misses, missed_view}

-- a tick at which a period recurs is a multiple of it
pub recurs_multiple : (t p : ℕ) → recurs t p ≡ true → (q : ℕ) × (t ≡ q * p)
recurs_multiple t p e = (t / p, let z = eqb-true (t % p) 0 e in let d = div-add-mod' t p in omega arith)

-- and it recurs at every multiple
pub multiple_recurs : (q p : ℕ) → recurs (q * p) p ≡ true
multiple_recurs q p = eq-eqb (q * p % p) 0 (mul-mod_left q p)

-- at tick t, with the jobs' ticks d, no task misses
abbrev pub NoMiss : Timing → ℕ → List ℕ → Type 0
NoMiss T t d = (v n : ℕ) → InV v → InN n → misses T t d v n ≡ false

-- the task that misses first
pub record SomeMiss (T : Timing) (t : ℕ) (d : List ℕ) : Type 0 where
  pub vcpu : ℕ
  pub task : ℕ
  pub is : FirstMiss T t d vcpu task

module _ (T : Timing) (t : ℕ) (d : List ℕ) where
  -- who misses is in range, where the plan is fair
  pub miss_in : Fair T.facts → (v n : ℕ) → misses T t d v n ≡ true → InV v × InN n
  miss_in f v n e = let h = ((misses_exactly T t d v n).0 e).task in (task_v f v n h, f.task_in_law v n h)

  -- where no task misses, nobody is missed
  pub nobody_missed : NoMiss T t d → missed T t d ≡ Nobody
  nobody_missed h = read (missed_view T t d)
    where
      read : {x : Next} → MissedBy T t d x → x ≡ Nobody
      read (none_misses g) = refl
      read (first_misses v n q) = absurd (clash ((misses_exactly T t d v n).1 q.is_missed) (h v n q.v_in q.n_in))

  -- a tick without a miss, or with a first one
  pub miss_cases : NoMiss T t d ⊎ SomeMiss T t d
  miss_cases = read (missed_view T t d)
    where
      read : {x : Next} → MissedBy T t d x → NoMiss T t d ⊎ SomeMiss T t d
      read (none_misses h) = inl h
      read (first_misses v n q) = inr (record { vcpu = v; task = n; is = q })
