-- Reading into tables with room for every plan: what is accepted lies there whole, and what is refused is refused by the reading.
use Rattle.std.specs.Prelude.{ℕ, List, Bool, Result, Ok, Err}
use Rattle.std.proofs.Math.Path.{◌≡◌, refl}
use Rattle.std.proofs.Common.{sym, ap, ◌∙◌, arith}
use Rattle.std.proofs.Math.Bool.{true, false}
use Rattle.std.specs.Prelude.{if◌then◌else◌}
use Rattle.plan.specs.declared.Complaint.{Complaint}
use Rattle.plan.specs.Refusals.{no_room}
use Rattle.plan.specs.Plan.{Plan}
use Rattle.plan.specs.Valid.{Valid}
use Rattle.plan.specs.Reading.{Reading, Accepts, Refuses, reading}
use Rattle.plan.proofs.Accepted.{read_text_law}
use Rattle.plan_tables.specs.declared.PlanRecord.{PlanRecord}
use Rattle.plan_tables.specs.Layout.{Tables, lent, record_of}
use Rattle.plan_tables.specs.Given.{Gives, plan_in, is_given, roomy}
use Rattle.plan_tables.proofs.GivenLaws.{plan_given}
use Rattle.read_fill.specs.Fill.{vcpu_put, mutex_put, open_put, task_put}
use Rattle.read_answer.specs.Into.{answer_into, plan_answer, tables_after}
use Rattle.read_answer.specs.Judged.{lines_left}
use Rattle.read_answer.specs.Ample.{Ample, ample_roomy, accepted_left}
use Rattle.read_answer.specs.Claims.{accepted_gives, accepted_given}
use Rattle.figures.specs.System.{system}
use Rattle.figures.specs.Tabled.{system_in, Fit}
use Rattle.figures_slices.specs.FitLaws.{given_fit, system_in_law}

-- an accepted plan p: the tables pass the test for 9, are fit for the figures' code, and hold p and its system
pub record Lies (s : List ℕ) (r : PlanRecord) (t : Tables) (p : Plan) : Type 0 where
  pub reads : reading s ≡ Accepts p
  pub valid : Valid p
  pub gives : Gives p r t
  pub given : is_given r t ≡ true
  pub is : plan_in r t ≡ p
  pub fit : Fit r t.vcpus t.mutexes t.tasks
  pub holds : system_in r t.vcpus t.mutexes t.tasks ≡ system p

module _ (s : List ℕ) (t : Tables) (a : Ample t) where
  accepted_lies : (r : PlanRecord) → plan_answer s t ≡ Ok r → (p : Plan) × Lies s r (tables_after s t) p
  accepted_lies r h =
      let w = accepted_gives s t r h in
      let g : is_given r (tables_after s t) ≡ true = accepted_given s t r h in (
        w.0,
        record {
          reads = w.1;
          valid = w.2;
          gives = w.3;
          given = g;
          is = plan_given w.2 w.3;
          fit = given_fit r (tables_after s t) g;
          holds = sym (system_in_law r (tables_after s t)) ∙ ap system (plan_given w.2 w.3);
        },
      )

  -- 8 is never given: there is room
  pub refused_reads : (x : Complaint) → plan_answer s t ≡ Err x → reading s ≡ Refuses x
  unfolding plan_answer
  refused_reads x h = go (reading s) refl h
    where
      at : (p : Plan) → (b : Bool) → b ≡ true → (if b then Ok (record_of p) else Err no_room) ≡ Err x → Accepts p ≡ Refuses x
      at p true e h = absurd (let z : ◌≡◌ {A = ℕ} 0 1 = cc in omega arith)
      at p false e h = absurd (let z : ◌≡◌ {A = ℕ} 0 1 = cc in omega arith)

      go : (y : Reading) → reading s ≡ y → answer_into y t ≡ Err x → y ≡ Refuses x
      go (Accepts p) e h = at p (roomy (record_of p) t) (ample_roomy p t (read_text_law s p e).0 a) h
      go (Refuses y) e h = cc

-- the tables of an accepted plan pass the test for 9
pub record Sure (a : Result PlanRecord Complaint) (t : Tables) : Type 0 where
  pub given : (r : PlanRecord) → a ≡ Ok r → is_given r t ≡ true

-- of a reading into tables with room for every plan: what it answers, and the rows that its lines leave
module _ (s : List ℕ) {vt mt ot ts : List ℕ} (l : Ample (lent vt mt ot ts)) {a : Result PlanRecord Complaint} {vu mu ou tu : List ℕ}
    (h : a ≡ plan_answer s (lent vt mt ot ts)) (v : vu ≡ lines_left vcpu_put s vt) (m : mu ≡ lines_left mutex_put s mt)
    (o : ou ≡ lines_left open_put s ot) (k : tu ≡ lines_left task_put s ts) where
  abbrev into : Tables
  into = lent vt mt ot ts

  abbrev left : Tables
  left = lent vu mu ou tu

  left_is : (r : PlanRecord) → a ≡ Ok r → left ≡ tables_after s into
  left_is r e =
      let w : left ≡ lent (lines_left vcpu_put s vt) (lines_left mutex_put s mt) (lines_left open_put s ot) (lines_left task_put s ts) =
      λ i. lent (v i) (m i) (o i) (k i) in
      w ∙ accepted_left s into r (sym h ∙ e)

  pub left_lies : (r : PlanRecord) → a ≡ Ok r → (p : Plan) × Lies s r left p
  left_lies r e = rw (left_is r e) (accepted_lies s into l r (sym h ∙ e))

  pub left_sure : Sure a left
  left_sure = record { given = λ r e. (left_lies r e).1.given }
