-- What a reading into tables answers, and leaves, in the words of the documents.
use Rattle.std.specs.Prelude.{ℕ, ◌*◌, ◌↔◌, ◌⊎◌, Bool, length, drop, Result, Ok, Err}
use Rattle.std.proofs.Math.Path.{◌≡◌, refl, ap, sym}
use Rattle.std.proofs.Common.{◌∙◌, subst, inl, arith, drop_at}
use mathlib.Core.List.{List, ◌++◌}
use Rattle.std.proofs.Math.Logic.{inr, ⊎_elim}
use Rattle.std.proofs.Math.Bool.{true, false}
use Rattle.laws.specs.Sums.{flat, Each}
use Rattle.laws.specs.SumLaws.{each_map}
use Rattle.std.specs.Prelude.{if◌then◌else◌}
use Rattle.plan.specs.declared.Refusal.TheVariants.{Room}
use Rattle.plan.specs.declared.Complaint.{Complaint}
use Rattle.plan.specs.Refusals.{no_room}
use Rattle.plan.specs.Plan.{Task, Plan, tasks_of}
use Rattle.plan.specs.Text.{text}
use Rattle.plan.specs.Valid.{Valid}
use Rattle.plan.specs.Reading.{Reading, Accepts, Refuses, reading}
use Rattle.plan.proofs.Accepted.{read_text_law, text_read}
use Rattle.plan_tables.specs.declared.PlanRecord.{PlanRecord}
use Rattle.plan_tables.specs.Layout.{Tables, vcpu_width, mutex_width, open_width, task_width, vcpu_cells, mutex_cells, open_cells, task_cells, over, filled, record_of}
use Rattle.plan_tables.specs.FlatLaws.{each_of, flat_length}
use Rattle.plan_tables.proofs.LayoutLaws.{task_wide}
use Rattle.plan_tables.specs.Given.{Gives, roomy, is_given, plan_in}
use Rattle.plan_tables.proofs.GivenLaws.{Roomy, roomy_exactly, valid_few, given_exactly, given_plan, tested_exactly}
use Rattle.read_answer.specs.Into.{answer_into, plan_answer, tables_after}
use Rattle.read_answer.specs.RoomLaws.{never_room}
use Rattle.read_answer.specs.JudgedLaws.{after_filled, after_kept, after_refused}

-- WHY AN ANSWER IS GIVEN

-- a plan with room
pub record WithRoom (s : List ℕ) (t : Tables) (r : PlanRecord) (p : Plan) : Type 0 where
  pub reads : reading s ≡ Accepts p
  pub room : roomy (record_of p) t ≡ true
  pub recorded : r ≡ record_of p

-- a plan with no fault, and no room
pub record Lacks (s : List ℕ) (t : Tables) (p : Plan) : Type 0 where
  pub reads : reading s ≡ Accepts p
  pub room : roomy (record_of p) t ≡ false

-- what stands beyond rows written over a table
rows_beyond : {A : Type 0} (f : A → List ℕ) (w : ℕ) (rs : List A) (d : List ℕ) → Each (λ x. length (f x) ≡ w) rs → drop (length rs * w) (over (flat f rs) d) ≡ drop (length rs * w) d
rows_beyond f w rs d h =
    let e : length (flat f rs) ≡ length rs * w = flat_length f w rs h in
    drop_at (flat f rs) (drop (length (flat f rs)) d) (length rs * w) e ∙ ap (λ n. drop n d) e

-- rows written over a table twice
over_again : (u d : List ℕ) → over u (over u d) ≡ over u d
over_again u d = ap (λ x. u ++ x) (drop_at u (drop (length u) d) (length u) refl)

filled_again : (p : Plan) (t : Tables) → filled p (filled p t) ≡ filled p t
unfolding filled
filled_again p t =
    λ i.
    record {
      vcpus = over_again (flat vcpu_cells p.vcpus) t.vcpus i;
      mutexes = over_again (flat mutex_cells p.mutexes) t.mutexes i;
      opens = over_again (flat open_cells p.opens) t.opens i;
      tasks = over_again (flat task_cells (tasks_of p.sections)) t.tasks i;
    }

module _ (s : List ℕ) (t : Tables) where
  accepted_why : (r : PlanRecord) → plan_answer s t ≡ Ok r → (p : Plan) × WithRoom s t r p
  unfolding plan_answer
  accepted_why r h = go (reading s) refl h
    where
      at :
          (p : Plan) → reading s ≡ Accepts p → (b : Bool) → roomy (record_of p) t ≡ b → (if b then Ok (record_of p) else Err no_room) ≡ Ok r →
          (p : Plan) × WithRoom s t r p
      at p e true q h = let z : record_of p ≡ r = cc in (p, record { reads = e; room = q; recorded = sym z })
      at p e false q h = absurd (let z : ◌≡◌ {A = ℕ} 0 1 = cc in omega arith)

      go : (x : Reading) → reading s ≡ x → answer_into x t ≡ Ok r → (p : Plan) × WithRoom s t r p
      go (Accepts p) e h = at p e (roomy (record_of p) t) refl h
      go (Refuses x) e h = absurd (let z : ◌≡◌ {A = ℕ} 0 1 = cc in omega arith)

  room_accepted : (r : PlanRecord) (p : Plan) → WithRoom s t r p → plan_answer s t ≡ Ok r
  unfolding plan_answer
  room_accepted r p h =
      ap (λ x. answer_into x t) h.reads ∙ ap (λ b. if b then Ok (record_of p) else Err no_room) h.room ∙ ap Ok (sym h.recorded)

  refused_why : (x : Complaint) → plan_answer s t ≡ Err x → (reading s ≡ Refuses x) ⊎ ((x ≡ no_room) × ((p : Plan) × Lacks s t p))
  unfolding plan_answer
  refused_why x h = go (reading s) refl h
    where
      at :
          (p : Plan) → reading s ≡ Accepts p → (b : Bool) → roomy (record_of p) t ≡ b → (if b then Ok (record_of p) else Err no_room) ≡ Err x →
          (reading s ≡ Refuses x) ⊎ ((x ≡ no_room) × ((p : Plan) × Lacks s t p))
      at p e true q h = absurd (let z : ◌≡◌ {A = ℕ} 0 1 = cc in omega arith)
      at p e false q h =
          let a : no_room ≡ x = cc in
          inr (sym a, (p, record { reads = e; room = q }))

      go : (y : Reading) → reading s ≡ y → answer_into y t ≡ Err x → (reading s ≡ Refuses x) ⊎ ((x ≡ no_room) × ((p : Plan) × Lacks s t p))
      go (Accepts p) e h = at p e (roomy (record_of p) t) refl h
      go (Refuses y) e h = let a : y ≡ x = cc in inl (e ∙ ap Refuses a)

  -- "Every refusal leaves the lent tables .. as they were lent"
  pub refusal_leaves : (x : Complaint) → plan_answer s t ≡ Err x → tables_after s t ≡ t
  refusal_leaves x h = go (refused_why x h)
    where
      go : (reading s ≡ Refuses x) ⊎ ((x ≡ no_room) × ((p : Plan) × Lacks s t p)) → tables_after s t ≡ t
      go (inl e) = after_refused s t x e
      go (inr e) = after_kept s t e.1.0 e.1.1.reads e.1.1.room

  -- "An accepted plan leaves table rows beyond its count untouched"
  pub record Beyond (r : PlanRecord) (u : Tables) : Type 0 where
    pub vcpus : drop (r.vcpus * vcpu_width) u.vcpus ≡ drop (r.vcpus * vcpu_width) t.vcpus
    pub mutexes : drop (r.mutexes * mutex_width) u.mutexes ≡ drop (r.mutexes * mutex_width) t.mutexes
    pub opens : drop (r.opens * open_width) u.opens ≡ drop (r.opens * open_width) t.opens
    pub tasks : drop (r.tasks * task_width) u.tasks ≡ drop (r.tasks * task_width) t.tasks

  beyond_same : (r q : PlanRecord) (u v : Tables) → r ≡ q → u ≡ v → Beyond q v → Beyond r u
  beyond_same r q u v e f h = rw (e, f) h

  beyond_filled : (p : Plan) → Valid p → Beyond (record_of p) (filled p t)
  unfolding filled record_of
  beyond_filled p v =
      let ks : List Task = tasks_of p.sections in
      record {
        vcpus = rows_beyond vcpu_cells vcpu_width p.vcpus t.vcpus (each_of p.vcpus (λ x. refl));
        mutexes = rows_beyond mutex_cells mutex_width p.mutexes t.mutexes (each_of p.mutexes (λ x. refl));
        opens = rows_beyond open_cells open_width p.opens t.opens (each_of p.opens (λ x. refl));
        tasks = rows_beyond task_cells task_width ks t.tasks (each_map ks task_wide (valid_few v));
      }

  pub acceptance_leaves : (r : PlanRecord) → plan_answer s t ≡ Ok r → Beyond r (tables_after s t)
  acceptance_leaves r h =
      let w = accepted_why r h in
      beyond_same r (record_of w.0) (tables_after s t) (filled w.0 t) w.1.recorded (after_filled s t w.0 w.1.reads w.1.room)
      (beyond_filled w.0 (read_text_law s w.0 w.1.reads).0)

  -- what each answer leaves
  abbrev pub LeftBy : Result PlanRecord Complaint → Type 0
  LeftBy (Ok r) = Beyond r (tables_after s t)
  LeftBy (Err x) = tables_after s t ≡ t

  pub answer_leaves : LeftBy (plan_answer s t)
  answer_leaves = go (plan_answer s t) refl
    where
      go : (a : Result PlanRecord Complaint) → plan_answer s t ≡ a → LeftBy a
      go (Ok r) h = acceptance_leaves r h
      go (Err x) h = refusal_leaves x h

  -- accepted with room exactly when it is the text of a valid plan, and then the plan is that one
  pub accepted_with_room : (r : PlanRecord) → (plan_answer s t ≡ Ok r) ↔ ((p : Plan) × Valid p × (s ≡ text p) × Roomy (record_of p) t × (r ≡ record_of p))
  accepted_with_room r = (
    λ h.
        let w = accepted_why r h in
        let v = read_text_law s w.0 w.1.reads in
        (w.0, v.0, v.1, (roomy_exactly (record_of w.0) t).0 w.1.room, w.1.recorded),
    λ h.
        room_accepted r h.0
        (record { reads = ap reading h.2 ∙ text_read h.0 h.1; room = (roomy_exactly (record_of h.0) t).1 h.3; recorded = h.4 }),
  )

  -- a refusal by another number than 8 is the reading's
  pub refused_reading : (x : Complaint) → (x.number ≡ Room → ⊥) → (plan_answer s t ≡ Err x) ↔ (reading s ≡ Refuses x)
  unfolding plan_answer
  refused_reading x n = (λ h. ⊎_elim (λ e. e) (λ e. absurd (n (ap (λ (y : Complaint). y.number) e.0))) (refused_why x h), λ e. ap (λ y. answer_into y t) e)

  -- a plan with no fault and no room is refused by 8, at line 0 and field 0
  pub room_refused : (p : Plan) → Lacks s t p → plan_answer s t ≡ Err no_room
  unfolding plan_answer
  room_refused p h = ap (λ x. answer_into x t) h.reads ∙ ap (λ b. if b then Ok (record_of p) else Err no_room) h.room

  -- and 8 is given for no other reason
  pub room_exactly : (x : Complaint) → x.number ≡ Room → (plan_answer s t ≡ Err x) ↔ ((x ≡ no_room) × ((p : Plan) × Lacks s t p))
  room_exactly x r = (
    λ h. ⊎_elim (λ e. absurd (never_room s x r e)) (λ e. e) (refused_why x h),
    λ h. room_refused h.1.0 h.1.1 ∙ ap Err (sym h.0),
  )

  -- what an accepted call leaves is what the plan gives
  pub accepted_gives : (r : PlanRecord) → plan_answer s t ≡ Ok r → (p : Plan) × (reading s ≡ Accepts p) × Valid p × Gives p r (tables_after s t)
  accepted_gives r h =
      let w = accepted_why r h in
      let p : Plan = w.0 in
      let e : tables_after s t ≡ filled p t = after_filled s t p w.1.reads w.1.room in
      (p, w.1.reads, (read_text_law s p w.1.reads).0, record { recorded = w.1.recorded; held = e ∙ sym (filled_again p t) ∙ ap (filled p) (sym e) })

  -- and so passes the test for 9
  pub accepted_given : (r : PlanRecord) → plan_answer s t ≡ Ok r → is_given r (tables_after s t) ≡ true
  accepted_given r h = let w = accepted_gives r h in (given_exactly r (tables_after s t)).1 (w.0, w.2, w.3)

-- tables that pass the test for 9 are what an accepted call leaves: the text of the plan in them, read into them, is accepted and changes nothing
pub given_left : (r : PlanRecord) (t : Tables) → is_given r t ≡ true → (plan_answer (text (plan_in r t)) t ≡ Ok r) × (tables_after (text (plan_in r t)) t ≡ t)
given_left r t h =
    let p : Plan = plan_in r t in
    let g = given_plan r t h in
    let room : Roomy (record_of p) t = subst (λ q. Roomy q t) g.1.recorded ((tested_exactly r t).0 h).room in (
      (accepted_with_room (text p) t r).1 (p, g.0, refl, room, g.1.recorded),
      after_filled (text p) t p (text_read p g.0) ((roomy_exactly (record_of p) t).1 room) ∙ sym g.1.held,
    )
