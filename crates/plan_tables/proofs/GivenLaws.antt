-- Laws of `Given`: the plan that gives tables is the plan in them, it is one, and the test for 9 says whether there is one.
use Rattle.std.specs.Prelude.{ℕ, ◌*◌, ◌/◌, ◌≤◌, ◌<◌, ◌≡◌, Bool, true, false, ◌&&◌, ◌↔◌, eqb, leb, length, Ok, Err, is_ok}
use Rattle.std.proofs.Math.Path.{refl}
use Rattle.std.proofs.Common.{ap, ap₂, sym, ◌∙◌, arith, le-div_iff_mul-le, eq-eqb, ne_eqb, leb-true, le-leb}
use mathlib.Core.List.{List, [], ◌∷◌, ◌++◌, Memᴰ}
use Rattle.std.proofs.lemmas.Bool.{false≢true}
use Rattle.laws.specs.BoolLaws.{both, both_left, both_right, both_ways, both_exactly, leb_exactly}
use Rattle.std.specs.Prelude.{if◌then◌else◌}
use Rattle.laws.specs.Sums.{all, flat, Each, Chain, Some}
use Rattle.laws.specs.SumLaws.{each_all, each_map, each_flat}
use Rattle.laws.specs.Rows.{rows}
use Rattle.laws.specs.RowLaws.{rows_length, each_row, each_rows, all_found}
use Rattle.plan.specs.Limits.{max_locks}
use Rattle.plan.specs.Refusals.{Fault}
use Rattle.plan.specs.Line.{Item}
use Rattle.plan.specs.Plan.{Vcpu, Owner, Global, Local, Task, Section, Plan, tasks_of}
use Rattle.plan.specs.Declares.{VcpuOf}
use Rattle.plan.specs.Valid.{OwnerValid, TaskValid, SectionValid, Valid}
use Rattle.plan.specs.Text.{items_of}
use Rattle.plan.specs.Rules.{start, vcpu_of}
use Rattle.plan.specs.Reading.{Judge, fault, Passes, rules}
use Rattle.plan.specs.ListLaws.{chain_rest, rising_above, rising_pairs, first_named}
use Rattle.plan.proofs.ValidLaws.{passes_valid, valid_passes}
use Rattle.plan_tables.specs.Layout.{PlanRecord, Tables, vcpu_width, mutex_width, open_width, task_width, vcpu_cells, mutex_cells, open_cells, task_cells, over, cell, vcpu_row, mutex_row, open_row, lock_row, task_row, filled, record_of}
use Rattle.plan_tables.specs.Given.{Gives, Given, guest_for, atop, sections_of, plan_in, roomy_by, roomy, zero_rest, clean, is_given, if_given}
use Rattle.plan_tables.specs.FlatLaws.{each_of, Holds, held_back, held_room}
use Rattle.plan_tables.proofs.LayoutLaws.{Named, Few, task_wide, vcpus_back, mutexes_back, opens_back, tasks_back, vcpus_over, mutexes_over, opens_over, tasks_over, tasks_zeros}

-- SECTIONS

atop_tasks : (g : ℕ) (k : Task) (ss : List Section) → tasks_of (atop g k ss) ≡ k ∷ tasks_of ss
unfolding tasks_of flat
atop_tasks g k [] = refl
atop_tasks g k (s ∷ ss) = go (eqb s.guest g)
  where
    go :
        (b : Bool) →
        tasks_of (if b then record { guest = g; tasks = k ∷ s.tasks } ∷ ss else record { guest = g; tasks = k ∷ [] } ∷ s ∷ ss) ≡ k ∷ tasks_of (s ∷ ss)
    go true = refl
    go false = refl

-- the tasks of the sections that tasks make up
pub tasks_sections : (vs : List Vcpu) (ts : List Task) → tasks_of (sections_of vs ts) ≡ ts
unfolding sections_of
tasks_sections vs [] = unfold tasks_of flat in refl
tasks_sections vs (k ∷ ks) = atop_tasks (guest_for vs k.v) k (sections_of vs ks) ∙ ap (λ l. k ∷ l) (tasks_sections vs ks)

-- a VCPU's guest is that of its row, where v rises
guest_at : (vs : List Vcpu) (r : Vcpu) → Chain (λ r s. r.v < s.v) vs → Memᴰ r vs → guest_for vs r.v ≡ r.guest
unfolding guest_for
guest_at vs r c m =
    ap (λ s. s.guest)
    (first_named (λ s. eqb s.v r.v) (vcpu_of []) (λ r s. r.v < s.v) r vs (rising_pairs (λ r. r.v) vs c)
    (λ y l. ne_eqb y.v r.v (λ z. omega arith)) (eq-eqb r.v r.v refl) m)

guest_for_law : (vs : List Vcpu) (g v : ℕ) → Chain (λ r s. r.v < s.v) vs → VcpuOf vs g v → guest_for vs v ≡ g
guest_for_law vs g v c h = ap (guest_for vs) (sym h.2.0) ∙ guest_at vs h.0 c h.1 ∙ h.2.1

-- a task above tasks of its guest, and above those of a later one
atop_same : (g : ℕ) (k : Task) (ks : List Task) (ss : List Section) →
    atop g k (record { guest = g; tasks = ks } ∷ ss) ≡ record { guest = g; tasks = k ∷ ks } ∷ ss
atop_same g k ks ss = rw (eq-eqb g g refl)

atop_new : (g : ℕ) (k : Task) (ss : List Section) → Each (λ s. g < s.guest) ss → atop g k ss ≡ record { guest = g; tasks = k ∷ [] } ∷ ss
atop_new g k [] h = refl
atop_new g k (s ∷ ss) h = let l : g < s.guest = h.0 in rw (ne_eqb s.guest g (λ e. omega arith))

-- the tasks of one section above those of later ones
stretch :
    (vs : List Vcpu) (g : ℕ) (ks rest : List Task) (ss : List Section) →
    Some ks → Each (λ k. guest_for vs k.v ≡ g) ks → sections_of vs rest ≡ ss → Each (λ s. g < s.guest) ss →
    sections_of vs (ks ++ rest) ≡ record { guest = g; tasks = ks } ∷ ss
unfolding sections_of
stretch vs g [] rest ss o e q h = absurd o
stretch vs g (k ∷ []) rest ss o e q h = ap₂ (λ a l. atop a k l) e.0 q ∙ atop_new g k ss h
stretch vs g (k ∷ j ∷ ks) rest ss o e q h =
    ap₂ (λ a l. atop a k l) e.0 (stretch vs g (j ∷ ks) rest ss tt e.1 q h) ∙ atop_same g k (j ∷ ks) ss

pub sections_back : {p : Plan} → Valid p → sections_of p.vcpus (tasks_of p.sections) ≡ p.sections
unfolding sections_of tasks_of flat
sections_back {p} h = go p.sections h.sections_rise h.sections_valid
  where
    go :
        (ss : List Section) → Chain (λ r s. r.guest < s.guest) ss → Each (SectionValid p.vcpus p.mutexes p.opens) ss →
        sections_of p.vcpus (tasks_of ss) ≡ ss
    go [] c e = refl
    go (s ∷ ss) c e =
        stretch p.vcpus s.guest s.tasks (tasks_of ss) ss e.0.some_task
        (each_map s.tasks (λ k w. guest_for_law p.vcpus s.guest k.v h.vcpus_rise w.own_vcpu_law) e.0.tasks_valid)
        (go ss (chain_rest (λ r s. r.guest < s.guest) s ss c) e.1)
        (rising_above (λ s. s.guest) s ss c)

-- THE PLAN THAT GIVES TABLES

-- what follows of each task of a valid plan
pub tasks_valid :
    {P : Task → Type 0} {p : Plan} → Valid p → ((g : ℕ) (k : Task) → TaskValid p.vcpus p.mutexes p.opens g k → P k) → Each P (tasks_of p.sections)
unfolding tasks_of
tasks_valid {P} {p} h w =
    each_flat P (λ s. s.tasks) p.sections
    (each_map p.sections (λ s v. each_map s.tasks (λ k u. w s.guest k u) v.tasks_valid) h.sections_valid)

pub valid_few : {p : Plan} → Valid p → Each Few (tasks_of p.sections)
valid_few h = tasks_valid h (λ g k w. w.few_locks)

owner_named : (vs : List Vcpu) (o : Owner) → OwnerValid vs o → Named o
owner_named vs Global h = tt
owner_named vs (Local v) h = h.0.0

pub valid_named : {p : Plan} → Valid p → Each (λ r. Named r.owner) p.mutexes
valid_named {p} h = each_map p.mutexes (λ r v. owner_named p.vcpus r.owner v.owned) h.mutexes_valid

-- the tables hold the rows of the plan
pub record Kept (p : Plan) (r : PlanRecord) (t : Tables) : Type 0 where
  pub vcpus : Holds vcpu_cells p.vcpus r.vcpus t.vcpus
  pub mutexes : Holds mutex_cells p.mutexes r.mutexes t.mutexes
  pub opens : Holds open_cells p.opens r.opens t.opens
  pub tasks : Holds task_cells (tasks_of p.sections) r.tasks t.tasks

pub gives_kept : {p : Plan} {r : PlanRecord} {t : Tables} → Gives p r t → Kept p r t
unfolding record_of filled
gives_kept g =
    record {
      vcpus = record { count = ap (λ x. x.vcpus) g.recorded; front = ap (λ x. x.vcpus) g.held };
      mutexes = record { count = ap (λ x. x.mutexes) g.recorded; front = ap (λ x. x.mutexes) g.held };
      opens = record { count = ap (λ x. x.opens) g.recorded; front = ap (λ x. x.opens) g.held };
      tasks = record { count = ap (λ x. x.tasks) g.recorded; front = ap (λ x. x.tasks) g.held };
    }

pub plan_given : {p : Plan} {r : PlanRecord} {t : Tables} → Valid p → Gives p r t → plan_in r t ≡ p
unfolding plan_in record_of
plan_given {p} {r} {t} h g =
    let e : r ≡ record_of p = g.recorded in
    let k : Kept p r t = gives_kept g in
    let vs = held_back k.vcpus vcpu_row (vcpus_back p.vcpus t.vcpus) in
    let ks = held_back k.tasks task_row (tasks_back (tasks_of p.sections) t.tasks (valid_few h)) in
    λ i.
    record {
      policy = (e i).policy;
      overrun = (e i).overrun;
      vcpus = vs i;
      mutexes = held_back k.mutexes mutex_row (mutexes_back p.mutexes t.mutexes (valid_named h)) i;
      opens = held_back k.opens open_row (opens_back p.opens t.opens) i;
      sections = (ap₂ sections_of vs ks ∙ sections_back h) i;
    }

-- the plan is one
pub given_once : {p q : Plan} {r : PlanRecord} {t : Tables} → Gives p r t → Gives q r t → Valid p → Valid q → p ≡ q
given_once g h v w = sym (plan_given v g) ∙ plan_given w h

-- THE TEST

pub clear_exactly : (f : Fault) → (is_ok f ≡ true) ↔ (f ≡ Ok tt)
clear_exactly (Ok tt) = (λ h. refl, λ h. refl)
clear_exactly (Err r) = (λ h. absurd (false≢true h), λ h. ap is_ok h)

pub clean_passes : (J : Judge) (t : J.Seen) (is : List Item) → (clean J t is ≡ true) ↔ Passes J t is
unfolding clean
clean_passes J t [] = (λ h. h, λ h. h)
clean_passes J t (i ∷ is) = (
  λ h. ((clear_exactly (fault J t i)).0 (both_left _ _ h), (clean_passes J (J.next t i) is).0 (both_right (is_ok (fault J t i)) _ h)),
  λ h. both _ _ ((clear_exactly (fault J t i)).1 h.0) ((clean_passes J (J.next t i) is).1 h.1),
)

-- the counts are within the slices
pub record Roomy (r : PlanRecord) (t : Tables) : Type 0 where
  pub vcpus : r.vcpus * vcpu_width ≤ length t.vcpus
  pub mutexes : r.mutexes * mutex_width ≤ length t.mutexes
  pub opens : r.opens * open_width ≤ length t.opens
  pub tasks : r.tasks * task_width ≤ length t.tasks

pub roomy_exactly : (r : PlanRecord) (t : Tables) → (roomy r t ≡ true) ↔ Roomy r t
unfolding roomy_by
roomy_exactly r t =
    let e =
    both_exactly (leb_exactly (r.vcpus * vcpu_width) (length t.vcpus))
    (both_exactly (leb_exactly (r.mutexes * mutex_width) (length t.mutexes))
    (both_exactly (leb_exactly (r.opens * open_width) (length t.opens)) (leb_exactly (r.tasks * task_width) (length t.tasks)))) in (
      λ h. let f = e.0 h in record { vcpus = f.0; mutexes = f.1.0; opens = f.1.1.0; tasks = f.1.1.1 },
      λ h. e.1 (h.vcpus, (h.mutexes, (h.opens, h.tasks))),
    )

-- room, with no product that could wrap
room_same : (n w l : ℕ) → 0 < w → leb n (l / w) ≡ leb (n * w) l
room_same n w l h =
    both_ways (leb n (l / w)) (leb (n * w) l) (λ e. le-leb (n * w) l ((le-div_iff_mul-le h).0 (leb-true n (l / w) e)))
    (λ e. le-leb n (l / w) ((le-div_iff_mul-le h).1 (leb-true (n * w) l e)))

pub roomy_code :
    (r : PlanRecord) (v m o k : ℕ) →
    (leb r.vcpus (v / vcpu_width) && (leb r.mutexes (m / mutex_width) && (leb r.opens (o / open_width) && leb r.tasks (k / task_width)))) ≡ roomy_by r v m o k
unfolding roomy_by
roomy_code r v m o k =
    ap₂ ◌&&◌ (room_same r.vcpus vcpu_width v (omega arith))
    (ap₂ ◌&&◌ (room_same r.mutexes mutex_width m (omega arith))
    (ap₂ ◌&&◌ (room_same r.opens open_width o (omega arith)) (room_same r.tasks task_width k (omega arith))))

-- WHAT THE TEST SAYS: room, zeros, and a valid plan in the tables
pub record Tested (r : PlanRecord) (t : Tables) : Type 0 where
  pub room : Roomy r t
  pub zeros : (i : ℕ) → i < r.tasks → zero_rest t.tasks i ≡ true
  pub valid : Valid (plan_in r t)

pub tested_exactly : (r : PlanRecord) (t : Tables) → (is_given r t ≡ true) ↔ Tested r t
unfolding is_given
tested_exactly r t =
    let p : Plan = plan_in r t in
    let q : ℕ → Bool = λ i. zero_rest t.tasks i in
    let e =
    both_exactly (roomy_exactly r t)
    (both_exactly {a = all q (rows r.tasks (λ i. i))} {A = (i : ℕ) → i < r.tasks → zero_rest t.tasks i ≡ true} (
      λ h i l. all_found q (λ i. i) r.tasks i l h,
      λ h. each_all q (rows r.tasks (λ i. i)) (each_rows (λ i. q i ≡ true) r.tasks (λ i. i) h),
    )
    (clean_passes rules start (items_of p))) in (
      λ h. let f = e.0 h in record { room = f.0; zeros = f.1.0; valid = passes_valid p f.1.1 },
      λ h. e.1 (h.room, (h.zeros, valid_passes p h.valid)),
    )

-- the tasks of the plan in tables
pub tasks_in : (r : PlanRecord) (t : Tables) → tasks_of (plan_in r t).sections ≡ rows r.tasks (task_row t.tasks)
unfolding plan_in
tasks_in r t = tasks_sections _ (rows r.tasks (task_row t.tasks))

-- what follows of each row of tasks
pub row_valid :
    {P : Task → Type 0} (r : PlanRecord) (t : Tables) → Valid (plan_in r t) →
    ((g : ℕ) (k : Task) → TaskValid (plan_in r t).vcpus (plan_in r t).mutexes (plan_in r t).opens g k → P k) →
    (i : ℕ) → i < r.tasks → P (task_row t.tasks i)
row_valid {P} r t h w i l = each_row P r.tasks (task_row t.tasks) i (rw (tasks_in r t) at (tasks_valid {P = P} h w)) l

pub row_few : (r : PlanRecord) (t : Tables) → Valid (plan_in r t) → (i : ℕ) → i < r.tasks → cell t.tasks task_width i 4 ≤ max_locks
unfolding task_row
row_few r t h i l =
    rw (rows_length (cell t.tasks task_width i 4) (lock_row t.tasks i)) at (row_valid {P = Few} r t h (λ g k w. w.few_locks) i l)

pub given_plan : (r : PlanRecord) (t : Tables) → is_given r t ≡ true → Valid (plan_in r t) × Gives (plan_in r t) r t
unfolding plan_in record_of filled
given_plan r t g =
    let h : Tested r t = (tested_exactly r t).0 g in (
      h.valid,
      record {
        recorded =
            λ i.
            record {
              policy = r.policy;
              overrun = r.overrun;
              vcpus = sym (rows_length r.vcpus (vcpu_row t.vcpus)) i;
              mutexes = sym (rows_length r.mutexes (mutex_row t.mutexes)) i;
              opens = sym (rows_length r.opens (open_row t.opens)) i;
              tasks = sym (ap length (tasks_in r t) ∙ rows_length r.tasks (task_row t.tasks)) i;
            };
        held =
            λ i.
            record {
              vcpus = sym (vcpus_over r.vcpus t.vcpus h.room.vcpus) i;
              mutexes = sym (mutexes_over r.mutexes t.mutexes h.room.mutexes) i;
              opens = sym (opens_over r.opens t.opens h.room.opens) i;
              tasks =
                  sym
                  (ap (λ l. over (flat task_cells l) t.tasks) (tasks_in r t)
                  ∙ tasks_over r.tasks t.tasks (λ j l. (row_few r t h.valid j l, h.zeros j l)) h.room.tasks) i;
            };
      },
    )

pub given_tested : {p : Plan} {r : PlanRecord} {t : Tables} → Valid p → Gives p r t → Tested r t
given_tested {p} {r} {t} h g =
    let k : Kept p r t = gives_kept g in
    let ks : List Task = tasks_of p.sections in
    record {
      room =
          record {
            vcpus = held_room k.vcpus vcpu_width (each_of p.vcpus (λ x. refl));
            mutexes = held_room k.mutexes mutex_width (each_of p.mutexes (λ x. refl));
            opens = held_room k.opens open_width (each_of p.opens (λ x. refl));
            tasks = held_room k.tasks task_width (each_map ks task_wide (valid_few h));
          };
      zeros =
          λ i l.
          ap (λ u. zero_rest u i) k.tasks.front
          ∙ tasks_zeros ks t.tasks (valid_few h) i (omega (arith, k.tasks.count));
      valid = rw (plan_given h g) h;
    }

-- the test says whether an accepted plan gives the tables
pub given_exactly : (r : PlanRecord) (t : Tables) → (is_given r t ≡ true) ↔ Given r t
given_exactly r t = (
  λ h. let g = given_plan r t h in (plan_in r t, g.0, g.1),
  λ g. (tested_exactly r t).1 (given_tested g.1 g.2),
)

-- WHAT IS ASKED of tables: of the plan in them where the test passes, and 9 where it does not
module _ {A : Type 0} (r : PlanRecord) (t : Tables) (f : Plan → A) (no : A) where
  pub if_given_law : is_given r t ≡ true → if_given r t f no ≡ f (plan_in r t)
  if_given_law g = rw (g, if_given)

  pub if_foreign : is_given r t ≡ false → if_given r t f no ≡ no
  if_foreign g = rw (g, if_given)
