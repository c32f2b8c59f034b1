-- What is counted of lines: the rows of each table, the policy, the overrun choice, and the locks of the last task.
use Rattle.std.specs.Prelude.{ℕ, ◌+◌, List, [], ◌∷◌, Bool, cond, ◌&&◌, ◌||◌, eqb, ltb, Option, Some, None}
use Rattle.laws.specs.Bytes.{is_nil}
use Rattle.plan.specs.declared.Kind.{Kind}
use Rattle.plan.specs.declared.Kind.TheVariants.{PlanLine, PolicyPO, PolicyPN, PolicyDO, PolicyDN, VcpuLine, MutexG, MutexL, OpenLine, GuestLine, TaskLine, RunLine, LockLine, EndLine, AskLine, FreeLine, UseLine, TopLine, ShowLine}
use Rattle.plan.specs.declared.Policy.{Policy}
use Rattle.plan.specs.declared.Policy.TheVariants.{Periodic, Deferrable}
use Rattle.plan.specs.declared.OverrunChoice.{OverrunChoice}
use Rattle.plan.specs.declared.OverrunChoice.TheVariants.{WithOverrun, WithoutOverrun}
use Rattle.text_lines.specs.declared.Said.{Said}
use Rattle.text_lines.specs.Said.{said_of}
use Rattle.plan_tables.specs.RowPlaces.{most}
use Rattle.plan_tables.specs.declared.PlanRecord.{PlanRecord}
pub use Rattle.read_tally.specs.declared.Tally.{Tally}

-- THE MARK OF A LINE: 1 to 4 the policies, 5 vcpu, 6 mutex, 7 open, 8 task, 9 run, 10 lock, 0 any other
unfoldable pub mark_of : Kind → ℕ
mark_of PlanLine = 0
mark_of PolicyPO = 1
mark_of PolicyPN = 2
mark_of PolicyDO = 3
mark_of PolicyDN = 4
mark_of VcpuLine = 5
mark_of MutexG = 6
mark_of MutexL = 6
mark_of OpenLine = 7
mark_of GuestLine = 0
mark_of TaskLine = 8
mark_of RunLine = 9
mark_of LockLine = 10
mark_of EndLine = 0
mark_of AskLine = 0
mark_of FreeLine = 0
mark_of UseLine = 0
mark_of TopLine = 0
mark_of ShowLine = 0

abbrev pub mark_in : Option Kind → ℕ
mark_in None = 0
mark_in (Some k) = mark_of k

-- THE TALLY

-- one more where the test holds, up to the most
unfoldable pub bumped : Bool → ℕ → ℕ
bumped on n = cond (on && ltb n most) (n + 1) n

unfoldable pub policy_by : ℕ → Policy → Policy
policy_by m p = cond (eqb m 1 || eqb m 2) Periodic (cond (eqb m 3 || eqb m 4) Deferrable p)

unfoldable pub overrun_by : ℕ → OverrunChoice → OverrunChoice
overrun_by m o = cond (eqb m 1 || eqb m 3) WithOverrun (cond (eqb m 2 || eqb m 4) WithoutOverrun o)

-- the locks of the last task
unfoldable pub locks_by : ℕ → ℕ → ℕ
locks_by m n = cond (eqb m 8) 0 (bumped (eqb m 10) n)

unfoldable pub tally_by : Tally → ℕ → Tally
tally_by t m =
    record {
      policy = policy_by m t.policy;
      overrun = overrun_by m t.overrun;
      vcpus = bumped (eqb m 5) t.vcpus;
      mutexes = bumped (eqb m 6) t.mutexes;
      opens = bumped (eqb m 7) t.opens;
      tasks = bumped (eqb m 8) t.tasks;
      locks = locks_by m t.locks;
    }

abbrev pub tally_after : Tally → Said → Tally
tally_after t s = tally_by t (mark_in s.found)

abbrev pub blank : Tally
blank = record { policy = Periodic; overrun = WithOverrun; vcpus = 0; mutexes = 0; opens = 0; tasks = 0; locks = 0 }

abbrev pub record_in : Tally → PlanRecord
record_in t =
    record { policy = t.policy; overrun = t.overrun; vcpus = t.vcpus; mutexes = t.mutexes; opens = t.opens; tasks = t.tasks }

-- the tally after lines; the last piece is no line
unfoldable pub tallied : Tally → List (List ℕ) → Tally
tallied t [] = t
tallied t (l ∷ ls) = cond (is_nil ls) t (tallied (tally_after t (said_of l)) ls)
