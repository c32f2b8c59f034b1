-- The list of the nexts, part by part and as a whole.
use Rattle.std.specs.Prelude.{ℕ, ◌+◌, ◌-◌, ◌/◌, ◌%◌, ◌<◌, ◌≤◌, ◌≡◌, List, length, get_or}
use Rattle.std.proofs.Common.{subst, arith}
use Rattle.std.proofs.Math.Decide.{dec_lt}
use Rattle.plan.specs.Limits.{max_v}
use Rattle.board_seats.specs.Seats.{seat}
use Rattle.clock_nexts.specs.Nexts.{Coming, Nexts, Tops, Jobs, places, place_of, period_at, next_at, at_tops, at_jobs, nexts_length, TopsRenewed, JobsRenewed}
use Rattle.clock_nexts.specs.WriteLaws.{tops_kept, jobs_kept, tops_later, jobs_later}

module _ {x y : List ℕ} {t : ℕ} (h : Nexts x y t) where
  -- the next of one
  pub nexts_coming : (i : ℕ) → i < places → Coming (period_at x i) t (next_at y i)
  nexts_coming i l = record { least = h.least i l; none = h.none i l; small = h.small i l }

  -- the tops, and the jobs
  pub nexts_tops : Tops x y t
  nexts_tops = record { nexts = λ i l. nexts_coming i (omega arith); tops_from = h.tops_from; tops_to_law = h.tops_to_law }

  pub nexts_jobs : Jobs x y t
  nexts_jobs = record {
    rows = λ v i. record { nexts = λ n j. nexts_coming (place_of (seat v n)) (omega arith); row_from = h.rows_from v i; row_to = λ n j. h.rows_to v n i j };
    jobs_from = h.jobs_from;
    jobs_to = h.jobs_to;
  }

-- both together
pub nexts_both : {x y : List ℕ} {t : ℕ} → length y ≡ nexts_length → Tops x y t → Jobs x y t → Nexts x y t
nexts_both {x} {y} {t} e a b = record {
  long = e;
  least = λ i l. (coming i l (dec_lt i max_v)).least;
  none = λ i l. (coming i l (dec_lt i max_v)).none;
  small = λ i l. (coming i l (dec_lt i max_v)).small;
  rows_from = λ v i. (b.rows v i).row_from;
  rows_to = λ v n i j. (b.rows v i).row_to n j;
  tops_from = a.tops_from;
  tops_to_law = a.tops_to_law;
  jobs_from = b.jobs_from;
  jobs_to = b.jobs_to;
}
  where
    coming : (i : ℕ) → i < places → Dec (i < max_v) → Coming (period_at x i) t (next_at y i)
    coming i l (yes m) = a.nexts i m
    coming i l (no m) =
        let s = i - 16 in
        let v = s / 8 + 1 in
        let n = s % 8 + 1 in
        let q : place_of (seat v n) ≡ i = omega arith in
        subst (λ c. Coming (period_at x c) t (next_at y c)) q
        ((b.rows v (record { from = omega arith; to = omega arith })).nexts n (record { from = omega arith; to = omega arith }))

-- THE LIST IS THE SAME up to its two bounds
pub nexts_later : {x y : List ℕ} {t : ℕ} (u : ℕ) → Nexts x y t → t ≤ u → u ≤ get_or y at_tops 0 → u ≤ get_or y at_jobs 0 → Nexts x y u
nexts_later u h l a b = nexts_both h.long (tops_later u l a (nexts_tops h)) (jobs_later u l b (nexts_jobs h))

-- WHEN TICK t IS OVER: the tops that were due are renewed
module _ {x y y' : List ℕ} {t : ℕ} (r : TopsRenewed x y y' t) where
  -- the jobs are as they were
  pub renewed_jobs : {u : ℕ} → Jobs x y u → Jobs x y' u
  renewed_jobs = jobs_kept (λ j l m. r.else_same j l (λ e. omega arith)) (r.else_same at_jobs (omega arith) (λ e. omega arith))

-- the jobs that were due are
module _ {x y y' : List ℕ} {t : ℕ} (r : JobsRenewed x y y' t) where
  pub renewed_tops : {u : ℕ} → Tops x y u → Tops x y' u
  renewed_tops = tops_kept (λ i l. r.else_same i (λ a b. omega arith) (λ e. omega arith)) (r.else_same at_tops (λ a b. omega arith) (λ e. omega arith))
