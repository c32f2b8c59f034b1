-- Tables with room for the rows of every plan.
use Rattle.std.specs.Prelude.{ℕ, ◌*◌, ◌≤◌, ◌≡◌, refl, List, true, length, Ok, Err}
use Rattle.std.proofs.Common.{ap, sym, ◌∙◌, arith}
use Rattle.laws.specs.Bytes.{pieces}
use Rattle.std.specs.Prelude.{if◌then◌else◌}
use Rattle.plan.specs.Limits.{lf, max_v, max_guest, max_m, most_tasks}
use Rattle.plan.specs.Refusals.{no_room}
use Rattle.plan.specs.Plan.{Plan}
use Rattle.plan.specs.Valid.{Valid}
use Rattle.plan.specs.Reading.{Reading, Accepts, Refuses, reading}
use Rattle.plan.proofs.Accepted.{read_text_law}
use Rattle.plan_tables.specs.declared.PlanRecord.{PlanRecord}
use Rattle.plan_tables.specs.Layout.{Tables, lent, vcpu_width, mutex_width, open_width, task_width, record_of}
use Rattle.plan_tables.specs.Given.{roomy}
use Rattle.plan_tables.proofs.GivenLaws.{roomy_exactly}
use Rattle.plan_tables.proofs.Sound.{valid_vcpus, valid_mutexes, valid_opens}
use Rattle.judge_coded.specs.Coded.{start}
use Rattle.read_tally.specs.Tally.{blank}
use Rattle.read_fill.specs.Fill.{vcpu_put, mutex_put, open_put, task_put}
use Rattle.read_answer.specs.Into.{answer_into, plan_answer, tables_after}
use Rattle.read_answer.specs.Judged.{judged_from, lines_left, left_if}
use Rattle.read_answer.specs.JudgedLaws.{roomless, judged_reading, Left, read_left}

pub record Ample (t : Tables) : Type 0 where
  pub vcpus : max_v * vcpu_width ≤ length t.vcpus
  pub mutexes : max_m * mutex_width ≤ length t.mutexes
  pub opens : max_m * max_guest * open_width ≤ length t.opens
  pub tasks : most_tasks * task_width ≤ length t.tasks

pub ample_roomy : (p : Plan) (t : Tables) → Valid p → Ample t → roomy (record_of p) t ≡ true
unfolding record_of
ample_roomy p t h a =
    (roomy_exactly (record_of p) t).1
    (record {
      vcpus = omega (arith, valid_vcpus h, a.vcpus);
      mutexes = omega (arith, valid_mutexes h, a.mutexes);
      opens = omega (arith, valid_opens h, a.opens);
      tasks = omega (arith, h.few_tasks, a.tasks);
    })

-- for such tables the answer on the lines is that of the reading
pub ample_answer : (s : List ℕ) (t : Tables) → Ample t → judged_from start blank 1 (pieces lf s) ≡ plan_answer s t
unfolding plan_answer
ample_answer s t a = judged_reading s ∙ go (reading s) refl
  where
    go : (x : Reading) → reading s ≡ x → roomless x ≡ answer_into x t
    go (Accepts p) e = sym (ap (λ b. if b then Ok (record_of p) else Err no_room) (ample_roomy p t (read_text_law s p e).0 a))
    go (Refuses x) e = refl

-- the lines of an accepted plan leave what the reading leaves, in any tables with room
pub accepted_left :
    (s : List ℕ) (t : Tables) (r : PlanRecord) → plan_answer s t ≡ Ok r →
    lent (lines_left vcpu_put s t.vcpus) (lines_left mutex_put s t.mutexes) (lines_left open_put s t.opens) (lines_left task_put s t.tasks) ≡ tables_after s t
unfolding left_if
accepted_left s t r e =
    let l : Left s t true = read_left s t (Ok r) true (sym e) refl in
    λ i. lent (l.vcpus i) (l.mutexes i) (l.opens i) (l.tasks i)
