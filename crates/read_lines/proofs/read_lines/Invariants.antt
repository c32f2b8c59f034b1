-- `read_lines::read_lines` meets its contract.
use Prim.Native.Nat.{◌+◌, ◌-◌, ◌≤◌}
use mathlib.Core.Path.{◌≡◌}
use lib.ListN.{length, drop}
use Rattle.laws.specs.Bytes.{pieces}
use Rattle.plan.specs.Limits.{lf}
use Rattle.judge_coded.specs.Coded.{start}
use Rattle.read_tally.specs.Tally.{blank}
use Rattle.read_fill.specs.Fill.{vcpu_put, mutex_put, open_put, task_put}
use Rattle.read_answer.specs.Judged.{judged_from, left_from, lines_left}
use Rattle.read_lines.proofs.read_lines.Given as goal

abbrev pub invariant-loop-r : goal.invariant-loop-r
invariant-loop-r l = (l.at ≤ length l.src) × (l.n + l.n ≤ l.at + 2) × (length l.vt ≡ length l.initial.vt) × (length l.mt ≡ length l.initial.mt) × (length l.ot ≡ length l.initial.ot) × (length l.kt ≡ length l.initial.kt)
    × (judged_from start blank 1 (pieces lf l.src) ≡ judged_from l.t l.c l.n (pieces lf (drop l.at l.src)))
    × (lines_left vcpu_put l.src l.initial.vt ≡ left_from vcpu_put l.t l.c l.vt (pieces lf (drop l.at l.src)))
    × (lines_left mutex_put l.src l.initial.mt ≡ left_from mutex_put l.t l.c l.mt (pieces lf (drop l.at l.src)))
    × (lines_left open_put l.src l.initial.ot ≡ left_from open_put l.t l.c l.ot (pieces lf (drop l.at l.src)))
    × (lines_left task_put l.src l.initial.kt ≡ left_from task_put l.t l.c l.kt (pieces lf (drop l.at l.src)))

abbrev pub decreases-loop-r : goal.decreases-loop-r
decreases-loop-r l = length l.src - l.at
