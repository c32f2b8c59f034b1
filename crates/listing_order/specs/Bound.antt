-- Every listing is short, and so is every verdict.
use Prim.Native.Nat.{ℕ, suc, ◌+◌, ◌*◌, ◌≤◌, ◌<◌}
use Rattle.std.specs.Prelude.{◌≡◌, refl, Bool, cond, ◌&&◌, eqb, ltb, Option, Ok, Err}
use Rattle.std.proofs.Math.Bool.{true, false}
use mathlib.Core.List.{List, [], ◌∷◌, ◌++◌}
use Rattle.std.proofs.Common.{le_trans, ltb-false}
use native.Mathlib.Omega.{arith}
use Rattle.std.proofs.Math.ListN.{length, length-append}
use Rattle.std.specs.Prelude.{if◌then◌else◌}
use Rattle.laws.specs.Sums.{sum, flat, Each}
use Rattle.laws.specs.SumLaws.{sum_rises_on, sum_bound, each_map}
use Rattle.laws.specs.Bytes.{pieces, on_first, is_nil}
use Rattle.search.specs.declared.Answer.{Answer}
use Rattle.search.specs.declared.Answer.TheVariants.{Fits, Late}
use Rattle.search.specs.Search.{Demand, Right, solve}
use Rattle.search.proofs.SearchLaws.{few_rounds, solve_right}
use Rattle.plan.specs.Limits.{max_v, max_n, max_period, max_tasks, max_locks, max_input, lf}
use Rattle.plan.specs.Line.{Item, w_one, item_of}
use Rattle.plan.specs.declared.Refusal.{Refusal}
use Rattle.plan.specs.declared.Refusal.TheVariants.{Shape, Number, Range, Order, Missing, Outside, TooMany, Room, Foreign, Unknown, Unlisted, Asleep, Busy, NotHolder, Supply}
use Rattle.plan.specs.declared.Complaint.{Complaint}
use Rattle.plan.specs.Refusals.{complaint, no_room, number_of, Fault}
use Rattle.plan.specs.declared.Lock.{Lock}
use Rattle.plan.specs.Plan.{Vcpu, Task, Plan}
use Rattle.plan.specs.Reading.{Judge, Verdict, Faultless, FirstBad, fault_of, next_of, finish, onward, judge, Reading, Accepts, Refuses, answer, reading_by, rules, reading}
use Rattle.plan.specs.Gathered.{plan_of, items_in}
use Rattle.plan.specs.Rules.{start}
use Rattle.plan.specs.Valid.{Valid}
use Rattle.plan.proofs.Accepted.{read_text_law}
use Rattle.plan_fields.specs.Few.{field_few}
use Rattle.plan_tables.specs.RisingLaws.{rising_few}
use Rattle.plan_tables.proofs.GivenLaws.{tasks_valid}
use Rattle.figures.specs.System.{System, system}
use Rattle.figures.proofs.Demands.{vcpu_demand_law, wait_demand_law, task_demand_law}
use Rattle.figures.specs.declared.TaskAnswer.{TaskAnswer}
use Rattle.figures.specs.declared.TaskAnswer.TheVariants.{Searched, NoWait, Held}
use Rattle.figures.specs.Answers.{vcpu_answer, wait_answer, task_answer, remote_waits, lacks_wait, is_held, all_fit}
use Rattle.figures.specs.Figures.{is_section}
use Rattle.listing.specs.Listing.{w_verdict, w_all, w_fits, w_late, line, answer_fields, task_fields, wait_fields, vcpu_line, wait_line, wait_lines, task_line, task_lines, rising, all_line, listing, refused_line, read_text, verdict_text}
use Rattle.listing_order.specs.Digits.{one_digit, two_digits, seven_digits, field_size, line_length}
use Rattle.listing_order.specs.RisingLaws.{rising_flat, length_flat}

-- WHAT IS SMALL

-- v at most 16, period at most 1,000,000
pub record VcpuSmall (x : Vcpu) : Type 0 where
  pub v_small : x.v ≤ max_v
  pub period_small : x.period ≤ max_period

-- v at most 16, n at most 8, period at most 1,000,000, at most 8 locks
pub record TaskSmall (k : Task) : Type 0 where
  pub v_small : k.v ≤ max_v
  pub n_small : k.n ≤ max_n
  pub period_small : k.period ≤ max_period
  pub few_locks : length k.locks ≤ max_locks

-- at most 16 VCPUs and 64 tasks, each of them small
pub record Small (s : System) : Type 0 where
  pub few_vcpus : length s.vcpus ≤ max_v
  pub few_tasks : length s.tasks ≤ max_tasks
  pub vcpus_small : Each VcpuSmall s.vcpus
  pub tasks_small : Each TaskSmall s.tasks

-- an answer whose numbers have at most 7 digits
abbrev pub Short : Answer → Type 0
Short (Fits w n) = (w < 10000000) × (n < 10000000)
Short (Late n) = n < 10000000

abbrev pub TaskShort : TaskAnswer → Type 0
TaskShort (Searched a) = Short a
TaskShort NoWait = Unit {0}
TaskShort Held = Unit {0}

-- no window is above the limit, and no search has more rounds than there are numbers up to it
right_short : {d : ℕ → ℕ} {s L : ℕ} (a : Answer) → Demand d s → Right d s L a → L ≤ max_period → Short a
right_short (Fits w n) D h l = (omega (arith, h.smallest.0), omega (arith, few_rounds D h))
right_short (Late n) D h l = omega (arith, few_rounds D h)

solve_short : {d : ℕ → ℕ} {s : ℕ} (L : ℕ) → Demand d s → L ≤ max_period → Short (solve d s L)
solve_short {d} {s} L D l = right_short (solve d s L) D (solve_right D) l

task_short : (p : System) (k : Task) → k.period ≤ max_period → TaskShort (task_answer p k)
unfolding task_answer
task_short p k l = go (lacks_wait p k) (is_held p k) _ (solve_short k.period (task_demand_law p (remote_waits p) k) l)
  where
    go : (a b : Bool) (x : Answer) → Short x → TaskShort (elim a [ true ↦ NoWait | false ↦ elim b [ true ↦ Held | false ↦ Searched x ] ])
    go true b x h = tt
    go false true x h = tt
    go false false x h = h

-- THE LINES

answer_fields_law : (a : Answer) → Short a → sum field_size (answer_fields a) ≤ 21
unfolding sum
answer_fields_law (Fits w n) h = omega (arith, seven_digits h.0, seven_digits h.1)
answer_fields_law (Late n) h = omega (arith, seven_digits h)

wait_fields_law : (a : Answer) → Short a → sum field_size (wait_fields a) ≤ 16
unfolding sum
wait_fields_law (Fits w n) h = omega (arith, seven_digits h.0, seven_digits h.1)
wait_fields_law (Late n) h = omega (arith, seven_digits h)

task_fields_law : (a : TaskAnswer) → TaskShort a → sum field_size (task_fields a) ≤ 21
unfolding sum
task_fields_law (Searched a) h = answer_fields_law a h
task_fields_law NoWait h = omega (arith, one_digit {n = 0} (omega arith))
task_fields_law Held h = omega (arith, one_digit {n = 0} (omega arith))

module _ (s : System) where
  pub vcpu_line_bound : (x : Vcpu) → VcpuSmall x → length (vcpu_line s x) ≤ 29
  unfolding vcpu_line vcpu_answer sum
  vcpu_line_bound x h =
      rw line_length (omega (
        arith,
        two_digits {n = x.v} (omega arith),
        answer_fields_law (vcpu_answer s x) (solve_short x.period (vcpu_demand_law s x) h.period_small),
      ))

  module _ (k : Task) (h : TaskSmall k) where
    pub wait_line_bound : (i : ℕ) (l : Lock) → i < 10 → length (wait_line s k i l) ≤ 28
    unfolding wait_line wait_answer sum
    wait_line_bound i l b =
        rw line_length (omega (
          arith,
          two_digits {n = k.v} (omega arith),
          one_digit {n = k.n} (omega arith),
          one_digit b,
          wait_fields_law (wait_answer s k l) (solve_short k.period (wait_demand_law s k.v l.m) h.period_small),
        ))

    wait_lines_bound : (i : ℕ) (ls : List Lock) → i + length ls ≤ 10 → length (wait_lines s k i ls) ≤ length ls * 28
    unfolding wait_lines
    wait_lines_bound i [] b = omega arith
    wait_lines_bound i (l ∷ ls) b = go (is_section s l) (wait_lines_bound (i + 1) ls (omega arith))
      where
        go : (t : Bool) → length (wait_lines s k (i + 1) ls) ≤ length ls * 28
            → length (elim t [ true ↦ wait_line s k i l | false ↦ [] ] ++ wait_lines s k (i + 1) ls) ≤ suc (length ls) * 28
        go true ih = omega (arith, length-append (wait_line s k i l) (wait_lines s k (i + 1) ls), wait_line_bound i l (omega arith))
        go false ih = omega arith

    pub task_line_bound : length (task_line s k) ≤ 31
    unfolding task_line sum
    task_line_bound =
        rw line_length (omega (
          arith,
          two_digits {n = k.v} (omega arith),
          one_digit {n = k.n} (omega arith),
          task_fields_law (task_answer s k) (task_short s k h.period_small),
        ))

    pub task_lines_bound : length (task_lines s k) ≤ 255
    unfolding task_lines
    task_lines_bound = omega (arith, length-append (wait_lines s k 1 k.locks) (task_line s k), wait_lines_bound 1 k.locks (omega arith), task_line_bound)

  all_line_bound : length (all_line s) ≤ 9
  unfolding all_line sum
  all_line_bound = go (all_fit s)
    where
      go : (b : Bool) → length (line (w_all ∷ (if b then w_fits else w_late) ∷ [])) ≤ 9
      go true = rw line_length (omega arith)
      go false = rw line_length (omega arith)

-- THE LISTING

flat_bound : {A B : Type 0} (f : A → List B) (b : ℕ) (xs : List A) → Each (λ x. length (f x) ≤ b) xs → length (flat f xs) ≤ length xs * b
flat_bound f b xs h =
    rw (length_flat f xs) (le_trans (sum_rises_on (λ x. length (f x)) (λ x. b) xs h) (sum_bound xs b (λ x. omega arith)))

-- 10 + 16 * 29 + 64 * (8 * 28 + 31) + 9
pub listing_bound : (s : System) → Small s → length (listing s) ≤ 16803
unfolding listing sum
listing_bound s h =
    let head : length (line (w_verdict ∷ w_one ∷ [])) ≡ 10 = rw line_length (omega arith) in
    let vs : length (flat (vcpu_line s) s.vcpus) ≤ length s.vcpus * 29 = flat_bound (vcpu_line s) 29 s.vcpus (each_map s.vcpus (vcpu_line_bound s) h.vcpus_small) in
    let ks : length (flat (task_lines s) s.tasks) ≤ length s.tasks * 255 = flat_bound (task_lines s) 255 s.tasks (each_map s.tasks (task_lines_bound s) h.tasks_small) in
    omega (
      arith,
      head,
      vs,
      ks,
      rising_flat (task_lines s) s,
      all_line_bound s,
      length-append (line (w_verdict ∷ w_one ∷ [])) (flat (vcpu_line s) s.vcpus ++ (flat (task_lines s) (rising s) ++ all_line s)),
      length-append (flat (vcpu_line s) s.vcpus) (flat (task_lines s) (rising s) ++ all_line s),
      length-append (flat (task_lines s) (rising s)) (all_line s),
    )

-- a valid plan is small
pub valid_small : (p : Plan) → Valid p → Small (system p)
valid_small p h =
    record {
      few_vcpus = rising_few (λ x. x.v) max_v p.vcpus h.vcpus_rise (each_map p.vcpus (λ x v. v.v_in) h.vcpus_valid);
      few_tasks = h.few_tasks;
      vcpus_small = each_map p.vcpus (λ x v. record { v_small = v.v_in.1; period_small = v.period_in.1 }) h.vcpus_valid;
      tasks_small = tasks_valid h (λ g k v. record { v_small = v.v_in.1; n_small = v.n_in.1; period_small = v.period_in.1; few_locks = v.few_locks });
    }

-- A REFUSAL

number_small : (r : Refusal) → number_of r < 100
unfolding number_of
number_small Shape = omega arith
number_small Number = omega arith
number_small Range = omega arith
number_small Order = omega arith
number_small Missing = omega arith
number_small Outside = omega arith
number_small TooMany = omega arith
number_small Room = omega arith
number_small Foreign = omega arith
number_small Unknown = omega arith
number_small Unlisted = omega arith
number_small Asleep = omega arith
number_small Busy = omega arith
number_small NotHolder = omega arith
number_small Supply = omega arith

pub refused_bound : (c : Complaint) → c.line < 10000000 → c.field ≤ 6 → length (refused_line c) ≤ 21
unfolding refused_line sum
refused_bound c h k = rw line_length (omega (arith, two_digits (number_small c.number), seven_digits h, one_digit {n = c.field} (omega arith)))

-- there is at most one piece more than bytes
pieces_length : (b : ℕ) (s : List ℕ) → length (pieces b s) ≤ length s + 1
unfolding pieces
pieces_length b [] = omega arith
pieces_length b (x ∷ s) = go (eqb x b) (pieces b s) (pieces_length b s)
  where
    go : (t : Bool) (ls : List (List ℕ)) → length ls ≤ length s + 1 → length (cond t ([] ∷ ls) (on_first x ls)) ≤ suc (length s) + 1
    go true ls h = omega arith
    go false [] h = omega arith
    go false (l ∷ ls) h = omega arith

-- the line that is refused, where one is, is at most b
abbrev Upto : ℕ → Verdict → Type 0
Upto b Faultless = Unit {0}
Upto b (FirstBad c) = c.line ≤ b

module _ (J : Judge) where
  finish_line : (t : J.Seen) (l : List ℕ) (n b : ℕ) → n ≤ b → Upto b (finish J t l n)
  finish_line t l n b h = go (J.ready t && is_nil l)
    where
      go : (q : Bool) → Upto b (cond q Faultless (FirstBad (complaint Shape n 0)))
      go true = tt
      go false = h

  onward_line : (t : J.Seen) (o : Option Item) (f : Fault) (n b : ℕ) (v : Verdict) → n ≤ b → Upto b v → Upto b (onward J t o f n v)
  onward_line t o (Ok tt) n b v h k = k
  onward_line t o (Err r) n b v h k = h

  judge_line : (t : J.Seen) (n b : ℕ) (ls : List (List ℕ)) → n + length ls ≤ b → Upto b (judge J t n ls)
  unfolding judge
  judge_line t n b [] h = omega arith
  judge_line t n b (l ∷ ls) h =
      go (is_nil ls) (finish J t l n) _ (finish_line t l n b (omega arith))
      (onward_line t (item_of l) (fault_of J t (item_of l)) n b _ (omega arith) (judge_line (next_of J t (item_of l)) (n + 1) b ls (omega arith)))
    where
      go : (q : Bool) (u v : Verdict) → Upto b u → Upto b v → Upto b (cond q u v)
      go true u v h k = h
      go false u v h k = k

-- no later line is refused than there are bytes, and two more
pub refused_line_law : (s : List ℕ) (c : Complaint) → reading s ≡ Refuses c → c.line ≤ length s + 2
unfolding reading_by
refused_line_law s c e = go (judge rules start 1 (pieces lf s)) (judge_line rules start 1 (length s + 2) (pieces lf s) (omega (arith, pieces_length lf s))) e
  where
    go : (v : Verdict) → Upto (length s + 2) v → answer v (plan_of (items_in (pieces lf s))) ≡ Refuses c → c.line ≤ length s + 2
    go Faultless h q = absurd (let z : ◌≡◌ {A = ℕ} 0 1 = cc in omega arith)
    go (FirstBad d) h q = let z : d.line ≡ c.line = cc in omega arith

-- EVERY VERDICT, of whatever bytes

read_bound : (s : List ℕ) → length s ≤ max_input → length (read_text (reading s)) ≤ 16803
read_bound s h = go (reading s) refl
  where
    go : (r : Reading) → reading s ≡ r → length (read_text r) ≤ 16803
    go (Accepts p) e = listing_bound (system p) (valid_small p (read_text_law s p e).0)
    go (Refuses c) e = omega (arith, refused_bound c (omega (arith, refused_line_law s c e)) (field_few s c e))

pub verdict_bound : (s : List ℕ) → length (verdict_text s) ≤ 16803
unfolding verdict_text
verdict_bound s = go (ltb max_input (length s)) refl
  where
    go : (b : Bool) → ltb max_input (length s) ≡ b → length {A = ℕ} (elim b [ true ↦ refused_line no_room | false ↦ read_text (reading s) ]) ≤ 16803
    go true e = omega (arith, refused_bound no_room (omega arith) (omega arith))
    go false e = read_bound s (ltb-false max_input (length s) e)
