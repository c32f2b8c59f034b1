-- No more records matter than there are places for, since no plan has more tasks: the test for 9, the plan in the tables, and all that is told of them.
use Rattle.std.specs.Prelude.{ℕ, ◌+◌, ◌*◌, ◌≤◌, ◌≡◌, refl, List, ◌++◌, Bool, ltb, take, drop}
use Rattle.std.proofs.Math.Path.{ap}
use Rattle.std.proofs.Common.{sym, ◌∙◌, append_assoc, arith, length-append, length-drop, take-append-drop, take_all, take_at}
use Rattle.std.proofs.Math.Bool.{true, false}
use borrow.Author.Tests.{ltb-true, ltb-false}
use Rattle.std.proofs.Math.ListN.{length}
use Rattle.std.proofs.lemmas.List.{drop-append-le}
use Rattle.std.proofs.Math.Seq.{length-take-le}
use Rattle.laws.specs.Sums.{flat}
use Rattle.laws.specs.SumLaws.{each_map, flat_append}
use Rattle.laws.specs.BoolLaws.{both_ways}
use Rattle.plan.specs.Limits.{max_tasks, most_tasks}
use Rattle.plan.specs.Plan.{Plan, tasks_of}
use Rattle.plan.specs.Valid.{Valid}
use Rattle.plan_tables.specs.declared.PlanRecord.{PlanRecord}
use Rattle.plan_tables.specs.Layout.{Tables, lent, task_width, task_cells, over, filled}
use Rattle.plan_tables.specs.FlatLaws.{flat_length}
use Rattle.plan_tables.proofs.LayoutLaws.{task_wide}
use Rattle.plan_tables.specs.Given.{Gives, plan_in, is_given, if_given}
use Rattle.plan_tables.proofs.GivenLaws.{gives_kept, valid_few, given_plan, given_exactly, plan_given}
use Rattle.plan_tables.proofs.Sound.{given_sound}
use Rattle.records.specs.Sheet.{Task, task_nums, sheet_rows, cut_to, tables_of}
use Rattle.records.specs.SheetLaws.{sheet_long}

-- TWO TABLES OF TASKS, one with more at its end
module _ (vt mt ot f g : List ℕ) where
  abbrev at : List ℕ → Tables
  at u = lent vt mt ot u

  abbrev cells : Plan → List ℕ
  cells p = flat task_cells (tasks_of p.sections)

  -- the numbers of a plan at the front of one are at the front of the other
  over_more : (c : List ℕ) → length c ≤ length f → over c (f ++ g) ≡ over c f ++ g
  over_more c l = ap (λ u. c ++ u) (drop-append-le (length c) f g l) ∙ sym (append_assoc c (drop (length c) f) g)

  over_less : (c : List ℕ) → length c ≤ length f → f ++ g ≡ over c (f ++ g) → f ≡ over c f
  over_less c l e =
      let n : length (over c f) ≡ length f = omega (arith, length-append c (drop (length c) f), length-drop (length c) f) in
      sym (take_at f g (length f) refl) ∙ ap (take (length f)) (e ∙ over_more c l) ∙ take_at (over c f) g (length f) n

  gives_other : (p : Plan) (r : PlanRecord) (u w : List ℕ) → Gives p r (at u) → w ≡ over (cells p) w → Gives p r (at w)
  unfolding filled
  gives_other p r u w h e =
      record {
        recorded = h.recorded;
        held =
            λ i.
            record {
              vcpus = ap (λ t. t.vcpus) h.held i;
              mutexes = ap (λ t. t.mutexes) h.held i;
              opens = ap (λ t. t.opens) h.held i;
              tasks = e i;
            };
      }

  cells_long : {p : Plan} {r : PlanRecord} {t : Tables} → Valid p → Gives p r t → length (cells p) ≡ r.tasks * task_width
  cells_long {p} h g =
      let k = gives_kept g in
      flat_length task_cells task_width (tasks_of p.sections) (each_map (tasks_of p.sections) task_wide (valid_few h))
      ∙ ap (λ m. m * task_width) (sym k.tasks.count)

  -- given by the shorter one
  more : (r : PlanRecord) → is_given r (at f) ≡ true → is_given r (at (f ++ g)) ≡ true
  more r e =
      let h = given_plan r (at f) e in
      let k = gives_kept h.1 in
      let c : List ℕ = cells (plan_in r (at f)) in
      let n : length f ≡ length c + length (drop (length c) f) = ap length k.tasks.front ∙ length-append c (drop (length c) f) in
      (given_exactly r (at (f ++ g))).1
      (plan_in r (at f), h.0, gives_other (plan_in r (at f)) r f (f ++ g) h.1 (ap (λ u. u ++ g) k.tasks.front ∙ sym (over_more c (omega arith))))

  module _ (long : most_tasks * task_width ≤ length f) where
    less : (r : PlanRecord) → is_given r (at (f ++ g)) ≡ true → Gives (plan_in r (at (f ++ g))) r (at f)
    less r e =
        let h = given_plan r (at (f ++ g)) e in
        let k = gives_kept h.1 in
        let few : r.tasks ≤ max_tasks = (given_sound r (at (f ++ g)) e).few_tasks in
        let c : List ℕ = cells (plan_in r (at (f ++ g))) in
        let n : length c ≡ r.tasks * task_width = cells_long h.0 h.1 in
        gives_other (plan_in r (at (f ++ g))) r (f ++ g) f h.1 (over_less c (omega arith) k.tasks.front)

    pub same_test : (r : PlanRecord) → is_given r (at f) ≡ is_given r (at (f ++ g))
    same_test r =
        both_ways (is_given r (at f)) (is_given r (at (f ++ g))) (more r)
        (λ e. (given_exactly r (at f)).1 (plan_in r (at (f ++ g)), (given_plan r (at (f ++ g)) e).0, less r e))

    pub same_plan : (r : PlanRecord) → is_given r (at (f ++ g)) ≡ true → plan_in r (at f) ≡ plan_in r (at (f ++ g))
    same_plan r e = plan_given (given_plan r (at (f ++ g)) e).0 (less r e)

-- A SLICE OF RECORDS

module _ (vt mt ot : List ℕ) (ks : List Task) where
  abbrev whole : Tables
  whole = tables_of vt mt ot ks

  abbrev cut : Tables
  cut = tables_of vt mt ot (cut_to most_tasks ks)

  -- their numbers up to the cut, and after it
  abbrev f : List ℕ
  f = flat task_nums (take most_tasks ks)

  abbrev g : List ℕ
  g = flat task_nums (drop most_tasks ks)

  apart : flat task_nums ks ≡ f ++ g
  apart = ap (flat task_nums) (sym (take-append-drop most_tasks ks)) ∙ flat_append task_nums (take most_tasks ks) (drop most_tasks ks)

  module _ {B : Type 0} (F : Plan → B) (z : B) (r : PlanRecord) where
    -- what is asked of the plan in the tables, z where there is none
    abbrev told : Tables → B
    told t = if_given r t F z

    abbrev tell : Bool → Plan → B
    tell b p = elim b [ true ↦ F p | false ↦ z ]

    tell_same : (a b : Bool) (p q : Plan) → a ≡ b → (b ≡ true → p ≡ q) → tell a p ≡ tell b q
    tell_same a true p q e h = ap (λ c. tell c p) e ∙ ap F (h refl)
    tell_same a false p q e h = ap (λ c. tell c p) e

    step : most_tasks * task_width ≤ length f → told (at vt mt ot f g f) ≡ told (at vt mt ot f g (f ++ g))
    step l =
        tell_same (is_given r (at vt mt ot f g f)) (is_given r (at vt mt ot f g (f ++ g))) (plan_in r (at vt mt ot f g f)) (plan_in r (at vt mt ot f g (f ++ g)))
        (same_test vt mt ot f g l r) (same_plan vt mt ot f g l r)

    go : (b : Bool) → ltb most_tasks (length ks) ≡ b → told cut ≡ told whole
    unfolding cut_to sheet_rows
    go true e =
        let l = ltb-true most_tasks (length ks) e in
        let n : length f ≡ length (take most_tasks ks) * task_width = sheet_long (take most_tasks ks) in
        step (omega (arith, length-take-le most_tasks ks (omega arith))) ∙ ap (λ u. told (at vt mt ot f g u)) (sym apart)
    go false e = ap (λ l. told (tables_of vt mt ot l)) (take_all most_tasks ks (ltb-false most_tasks (length ks) e))

    pub cut_told : told cut ≡ told whole
    cut_told = go (ltb most_tasks (length ks)) refl

  pub cut_given : (r : PlanRecord) → is_given r cut ≡ is_given r whole
  cut_given r = same (is_given r cut) ∙ cut_told (λ p. true) false r ∙ sym (same (is_given r whole))
    where
      same : (b : Bool) → b ≡ elim b [ true ↦ true | false ↦ false ]
      same true = refl
      same false = refl
