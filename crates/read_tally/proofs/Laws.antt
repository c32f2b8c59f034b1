-- What a tally is after a line, from its parts.
use Prim.Native.Nat.{ℕ}
use mathlib.Core.Path.{◌≡◌}
use lib.Dec.{eqb}
use Rattle.plan.specs.declared.Policy.{Policy}
use Rattle.plan.specs.declared.OverrunChoice.{OverrunChoice}
use Rattle.read_tally.specs.Tally.{Tally, bumped, policy_by, overrun_by, locks_by, tally_by}

-- the tally after a line with this mark
pub tally_told :
    (t : Tally) (m : ℕ) {p : Policy} {o : OverrunChoice} {v x n k l : ℕ} →
    p ≡ policy_by m t.policy → o ≡ overrun_by m t.overrun → v ≡ bumped (eqb m 5) t.vcpus → x ≡ bumped (eqb m 6) t.mutexes →
    n ≡ bumped (eqb m 7) t.opens → k ≡ bumped (eqb m 8) t.tasks → l ≡ locks_by m t.locks →
    record { policy = p; overrun = o; vcpus = v; mutexes = x; opens = n; tasks = k; locks = l } ≡ tally_by t m
unfolding tally_by
tally_told t m a b c d e f g = rw (a, b, c, d, e, f, g)
