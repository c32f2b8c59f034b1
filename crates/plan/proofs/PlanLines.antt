-- A plan and its lines: each gives the other back.
use Rattle.std.specs.Prelude.{ℕ, suc, ◌≤◌, ◌≡◌, Bool, true, false, cond, ◌||◌, eqb, leb, ltb}
use Rattle.std.proofs.Math.Path.{refl, ap, subst⁻¹}
use Rattle.std.proofs.Common.{◌∙◌, arith}
use mathlib.Core.List.{List, [], ◌∷◌, tail}
use Rattle.std.proofs.lemmas.Bool.{false≢true}
use borrow.Author.Tests.{eqb-true, eqb-false, leb-true}
use Rattle.laws.specs.BoolLaws.{both_left, both_right}
use Rattle.laws.specs.Sums.{only}
use Rattle.plan.specs.Line.{Item, bad, head_or, shape, written, Form, Word, Num, Kind, PlanLine, PolicyPO, PolicyPN, PolicyDO, PolicyDN, VcpuLine, MutexG, MutexL, OpenLine, GuestLine, TaskLine, RunLine, LockLine, EndLine, AskLine, FreeLine, UseLine, TopLine, ShowLine}
use Rattle.plan.specs.Plan.{Policy, Periodic, Deferrable, OverrunChoice, WithOverrun, WithoutOverrun, Vcpu, Owner, Global, Local, Mutex, Open, Lock, Task, Section, Plan}
use Rattle.plan.specs.Text.{item, policy_kind, owned_item, run_item, vcpu_items, mutex_items, open_items, lock_items, task_items, section_items, items_of}
use Rattle.plan.specs.Rules.{phase, within, follows}
use Rattle.plan.specs.Gathered.{Rest, rest, with_policy, line_above, rest_of, plan_from, plan_of}
use Rattle.plan.specs.KindLaws.{each_kind, only_kind}

-- THE LINES OF A PLAN SAY THE PLAN: what is gathered from a table's lines and the rest
abbrev below : List Vcpu → List Mutex → List Open → List Lock → List Task → List Section → Rest
below vs ms os ls ts ss = rest Periodic WithOverrun vs ms os [] ls ts ss

locks_rest : (rs : List Lock) (is : List Item) (ts : List Task) (ss : List Section) → rest_of is ≡ below [] [] [] [] ts ss → rest_of (lock_items rs is) ≡ below [] [] [] rs ts ss
unfolding lock_items rest_of line_above
locks_rest [] is ts ss h = h
locks_rest (r ∷ rs) is ts ss h = ap (λ x. line_above LockLine (r.m ∷ r.ticks ∷ []) (line_above RunLine (r.after ∷ []) x)) (locks_rest rs is ts ss h)

tasks_rest : (rs : List Task) (is : List Item) (ss : List Section) → rest_of is ≡ below [] [] [] [] [] ss → rest_of (task_items rs is) ≡ below [] [] [] [] rs ss
unfolding task_items rest_of line_above
tasks_rest [] is ss h = h
tasks_rest (r ∷ rs) is ss h =
    ap (λ x. line_above TaskLine (r.v ∷ r.n ∷ r.period ∷ []) (line_above RunLine (r.first ∷ []) x))
    (locks_rest r.locks (task_items rs is) rs ss (tasks_rest rs is ss h))

sections_rest : (rs : List Section) → rest_of (section_items rs (item EndLine [] ∷ [])) ≡ below [] [] [] [] [] rs
unfolding section_items rest_of line_above
sections_rest [] = refl
sections_rest (r ∷ rs) = ap (line_above GuestLine (r.guest ∷ [])) (tasks_rest r.tasks (section_items rs (item EndLine [] ∷ [])) rs (sections_rest rs))

opens_rest : (rs : List Open) (is : List Item) (ss : List Section) → rest_of is ≡ below [] [] [] [] [] ss → rest_of (open_items rs is) ≡ below [] [] rs [] [] ss
unfolding open_items rest_of line_above
opens_rest [] is ss h = h
opens_rest (r ∷ rs) is ss h = ap (line_above OpenLine (r.m ∷ r.guest ∷ [])) (opens_rest rs is ss h)

mutexes_rest : (rs : List Mutex) (is : List Item) (os : List Open) (ss : List Section) → rest_of is ≡ below [] [] os [] [] ss → rest_of (mutex_items rs is) ≡ below [] rs os [] [] ss
unfolding mutex_items rest_of line_above
mutexes_rest [] is os ss h = h
mutexes_rest (r ∷ rs) is os ss h = go r.owner (mutexes_rest rs is os ss h)
  where
    go :
        (o : Owner) → rest_of (mutex_items rs is) ≡ below [] rs os [] [] ss →
        rest_of (owned_item r.m o ∷ mutex_items rs is) ≡ below [] (record { m = r.m; owner = o } ∷ rs) os [] [] ss
    go Global e = ap (line_above MutexG (r.m ∷ [])) e
    go (Local v) e = ap (line_above MutexL (r.m ∷ v ∷ [])) e

vcpus_rest :
    (rs : List Vcpu) (is : List Item) (ms : List Mutex) (os : List Open) (ss : List Section) →
    rest_of is ≡ below [] ms os [] [] ss → rest_of (vcpu_items rs is) ≡ below rs ms os [] [] ss
unfolding vcpu_items rest_of line_above
vcpus_rest [] is ms os ss h = h
vcpus_rest (r ∷ rs) is ms os ss h = ap (line_above VcpuLine (r.v ∷ r.guest ∷ r.core ∷ r.budget ∷ r.period ∷ [])) (vcpus_rest rs is ms os ss h)

policy_above : (q : Policy) (o : OverrunChoice) (r : Rest) → line_above (policy_kind q o) [] r ≡ with_policy q o r
unfolding line_above
policy_above Periodic WithOverrun r = refl
policy_above Periodic WithoutOverrun r = refl
policy_above Deferrable WithOverrun r = refl
policy_above Deferrable WithoutOverrun r = refl

pub plan_items : (p : Plan) → plan_of (items_of p) ≡ p
unfolding plan_of items_of rest_of line_above
plan_items p =
    let ss : List Item = section_items p.sections (item EndLine [] ∷ []) in
    let os : List Item = open_items p.opens ss in
    let ms : List Item = mutex_items p.mutexes os in
    ap plan_from (policy_above p.policy p.overrun (rest_of (vcpu_items p.vcpus ms)))
    ∙ ap (λ r. plan_from (with_policy p.policy p.overrun r))
    (vcpus_rest p.vcpus ms p.mutexes p.opens p.sections
    (mutexes_rest p.mutexes os p.opens p.sections (opens_rest p.opens ss p.sections (sections_rest p.sections))))

-- LINES THAT STAND WHERE THEY MAY, with as many numbers as their kinds have, are those of the plan that they say
abbrev pub Follow : ℕ → List Item → Type 0
Follow q [] = q ≡ 10
Follow q (i ∷ is) = (follows q i.kind ≡ true) × (written (shape i.kind) i.nums ≡ true) × Follow (phase i.kind) is

unfoldable run_items : List ℕ → List Item → List Item
run_items [] rest = rest
run_items (r ∷ rs) rest = run_item r ∷ run_items rs rest

-- the lines of what is gathered
unfoldable body : Rest → List Item
body r =
    vcpu_items r.vcpus (mutex_items r.mutexes (open_items r.opens (run_items r.runs (lock_items r.locks (task_items r.tasks (section_items r.sections (item EndLine [] ∷ [])))))))

-- what can be gathered after a line of phase q, and no more
unfoldable trim : ℕ → Rest → Rest
trim q r =
    rest r.policy r.overrun (cond (leb 4 q) [] r.vcpus) (cond (leb 5 q) [] r.mutexes) (cond (leb 6 q) [] r.opens)
    (cond (leb q 7) [] (head_or r.runs ∷ [])) (cond (leb q 6) [] r.locks) (cond (leb q 5) [] r.tasks) r.sections

record Agree (q : ℕ) (is : List Item) : Type 0 where
  trimmed : rest_of is ≡ trim q (rest_of is)
  same : is ≡ body (rest_of is)

-- one line more
step :
    (q q' : ℕ) (k : Kind) (ns : List ℕ) (is : List Item) → Agree q' is →
    ((r : Rest) → line_above k ns (trim q' r) ≡ trim q (line_above k ns (trim q' r))) →
    ((r : Rest) → item k ns ∷ body (trim q' r) ≡ body (line_above k ns (trim q' r))) →
    Agree q (item k ns ∷ is)
unfolding rest_of
step q q' k ns is a f g = record {
  trimmed = subst⁻¹ (λ r. line_above k ns r ≡ trim q (line_above k ns r)) a.trimmed (f (rest_of is));
  same = ap (λ x. item k ns ∷ x) a.same ∙ subst⁻¹ (λ r. item k ns ∷ body r ≡ body (line_above k ns r)) a.trimmed (g (rest_of is));
}

-- the numbers of a line, one by one
normal : List Form → List ℕ → List ℕ
normal [] ns = []
normal (Word w ∷ ps) ns = normal ps ns
normal (Num ∷ ps) ns = head_or ns ∷ normal ps (tail ns)

written_normal : (ps : List Form) (ns : List ℕ) → written ps ns ≡ true → ns ≡ normal ps ns
unfolding written normal
written_normal [] [] h = refl
written_normal [] (n ∷ ns) h = absurd (false≢true h)
written_normal (Word w ∷ ps) ns h = written_normal ps ns h
written_normal (Num ∷ ps) [] h = absurd (false≢true h)
written_normal (Num ∷ ps) (n ∷ ns) h = ap (λ m. n ∷ m) (written_normal ps ns (both_right (ltb n bad) (written ps ns) h))

-- a number between two that are near
two : (P : ℕ → Type 0) (a q : ℕ) → within q a (suc a) ≡ true → P a → P (suc a) → P q
two P a q h x y = go (eqb q a) refl
  where
    lo : a ≤ q
    lo = leb-true a q (both_left (leb a q) (leb q (suc a)) h)

    hi : q ≤ suc a
    hi = leb-true q (suc a) (both_right (leb a q) (leb q (suc a)) h)

    go : (b : Bool) → eqb q a ≡ b → P q
    go true e = let z : q ≡ a = eqb-true q a e in rw z x
    go false e = let z : q ≡ suc a = omega (arith, eqb-false q a e, lo, hi) in rw z y

three : (P : ℕ → Type 0) (a q : ℕ) → within q a (suc (suc a)) ≡ true → P a → P (suc a) → P (suc (suc a)) → P q
three P a q h x y w = go (eqb q a) refl
  where
    lo : a ≤ q
    lo = leb-true a q (both_left (leb a q) (leb q (suc (suc a))) h)

    hi : q ≤ suc (suc a)
    hi = leb-true q (suc (suc a)) (both_right (leb a q) (leb q (suc (suc a))) h)

    next : (eqb q a ≡ false) → (b : Bool) → eqb q (suc a) ≡ b → P q
    next e true f = let z : q ≡ suc a = eqb-true q (suc a) f in rw z y
    next e false f = let z : q ≡ suc (suc a) = omega (arith, eqb-false q a e, eqb-false q (suc a) f, lo, hi) in rw z w

    go : (b : Bool) → eqb q a ≡ b → P q
    go true e = let z : q ≡ a = eqb-true q a e in rw z x
    go false e = next e (eqb q (suc a)) refl

-- nothing follows the end
no_more : (k : Kind) → follows 10 k ≡ false
unfolding follows
no_more = each_kind (λ k. follows 10 k ≡ false) (search tt depth 20)

ended_nil : (is : List Item) → Follow 10 is → is ≡ []
ended_nil [] h = refl
ended_nil (i ∷ is) h = absurd (false≢true (rw (no_more i.kind) at h.0))

-- a line that stands where it may keeps the agreement
module _ (is : List Item) (ns : List ℕ) where
  near :
      (k : Kind) → written (shape k) ns ≡ true → (q q' : ℕ) → Agree q' is →
      ((r : Rest) → line_above k ns (trim q' r) ≡ trim q (line_above k ns (trim q' r))) →
      ((r : Rest) → item k (normal (shape k) ns) ∷ body (trim q' r) ≡ body (line_above k ns (trim q' r))) →
      Agree q (item k ns ∷ is)
  near k w q q' a f g = step q q' k ns is a f (λ r. ap (λ m. item k m ∷ body (trim q' r)) (written_normal (shape k) ns w) ∙ g r)

  last : written (shape EndLine) ns ≡ true → Follow 10 is → Agree 7 (item EndLine ns ∷ is)
  unfolding rest_of line_above trim body vcpu_items mutex_items open_items run_items lock_items task_items section_items normal shape
  last w g = rw (ended_nil is g) (record { trimmed = refl; same = ap (λ m. item EndLine m ∷ []) (written_normal (shape EndLine) ns w) })

  grow :
      (k : Kind) (q : ℕ) → 2 ≤ q → follows q k ≡ true → written (shape k) ns ≡ true → Follow (phase k) is →
      ((q : ℕ) → 2 ≤ q → q ≤ 9 → Follow q is → Agree q is) → Agree q (item k ns ∷ is)
  unfolding follows phase line_above trim body vcpu_items mutex_items open_items run_items lock_items task_items section_items normal shape
  grow PlanLine q l f w g ih = absurd (omega (arith, eqb-true q 0 f))
  grow PolicyPO q l f w g ih = absurd (omega (arith, eqb-true q 1 f))
  grow PolicyPN q l f w g ih = absurd (omega (arith, eqb-true q 1 f))
  grow PolicyDO q l f w g ih = absurd (omega (arith, eqb-true q 1 f))
  grow PolicyDN q l f w g ih = absurd (omega (arith, eqb-true q 1 f))
  grow VcpuLine q l f w g ih =
      let a : Agree 3 is = ih 3 (omega arith) (omega arith) g in
      two (λ q. Agree q (item VcpuLine ns ∷ is)) 2 q f (near VcpuLine w 2 3 a (λ r. refl) (λ r. refl)) (near VcpuLine w 3 3 a (λ r. refl) (λ r. refl))
  grow MutexG q l f w g ih =
      let a : Agree 4 is = ih 4 (omega arith) (omega arith) g in
      two (λ q. Agree q (item MutexG ns ∷ is)) 3 q f (near MutexG w 3 4 a (λ r. refl) (λ r. refl)) (near MutexG w 4 4 a (λ r. refl) (λ r. refl))
  grow MutexL q l f w g ih =
      let a : Agree 4 is = ih 4 (omega arith) (omega arith) g in
      two (λ q. Agree q (item MutexL ns ∷ is)) 3 q f (near MutexL w 3 4 a (λ r. refl) (λ r. refl)) (near MutexL w 4 4 a (λ r. refl) (λ r. refl))
  grow OpenLine q l f w g ih =
      let a : Agree 5 is = ih 5 (omega arith) (omega arith) g in
      three (λ q. Agree q (item OpenLine ns ∷ is)) 3 q f
      (near OpenLine w 3 5 a (λ r. refl) (λ r. refl)) (near OpenLine w 4 5 a (λ r. refl) (λ r. refl)) (near OpenLine w 5 5 a (λ r. refl) (λ r. refl))
  grow GuestLine q l f w g ih = guest (within q 3 5) refl f
    where
      a : Agree 6 is
      a = ih 6 (omega arith) (omega arith) g

      guest : (b : Bool) → within q 3 5 ≡ b → (b || eqb q 7) ≡ true → Agree q (item GuestLine ns ∷ is)
      guest true e f =
          three (λ q. Agree q (item GuestLine ns ∷ is)) 3 q e
          (near GuestLine w 3 6 a (λ r. refl) (λ r. refl)) (near GuestLine w 4 6 a (λ r. refl) (λ r. refl)) (near GuestLine w 5 6 a (λ r. refl) (λ r. refl))
      guest false e f = let z : q ≡ 7 = eqb-true q 7 f in rw z (near GuestLine w 7 6 a (λ r. refl) (λ r. refl))
  grow TaskLine q l f w g ih =
      let a : Agree 8 is = ih 8 (omega arith) (omega arith) g in
      two (λ q. Agree q (item TaskLine ns ∷ is)) 6 q f (near TaskLine w 6 8 a (λ r. refl) (λ r. refl)) (near TaskLine w 7 8 a (λ r. refl) (λ r. refl))
  grow RunLine q l f w g ih =
      let a : Agree 7 is = ih 7 (omega arith) (omega arith) g in
      two (λ q. Agree q (item RunLine ns ∷ is)) 8 q f (near RunLine w 8 7 a (λ r. refl) (λ r. refl)) (near RunLine w 9 7 a (λ r. refl) (λ r. refl))
  grow LockLine q l f w g ih =
      let a : Agree 9 is = ih 9 (omega arith) (omega arith) g in
      let z : q ≡ 7 = eqb-true q 7 f in
      rw z (near LockLine w 7 9 a (λ r. refl) (λ r. refl))
  grow EndLine q l f w g ih = let z : q ≡ 7 = eqb-true q 7 f in rw z (last w g)
  grow AskLine q l f w g ih = absurd (false≢true f)
  grow FreeLine q l f w g ih = absurd (false≢true f)
  grow UseLine q l f w g ih = absurd (false≢true f)
  grow TopLine q l f w g ih = absurd (false≢true f)
  grow ShowLine q l f w g ih = absurd (false≢true f)

agree : (is : List Item) (q : ℕ) → 2 ≤ q → q ≤ 9 → Follow q is → Agree q is
agree [] q l u h = absurd (omega arith)
agree (i ∷ is) q l u h = grow is i.nums i.kind q l h.0 h.1 h.2 (agree is)

-- the first line is `plan 1`
first_kind : (k : Kind) → follows 0 k ≡ true → k ≡ PlanLine
unfolding follows only
first_kind = only_kind (follows 0) (λ k. k ≡ PlanLine) (refl, tt)

-- the second is a policy
module _ (ns : List ℕ) (r : Rest) where
  abbrev Second : Kind → Type 0
  Second k =
      (phase k ≡ 2)
      × (normal (shape k) ns ≡ [])
      × (k ≡ policy_kind (line_above k ns r).policy (line_above k ns r).overrun)
      × (line_above k ns r ≡ with_policy (line_above k ns r).policy (line_above k ns r).overrun r)

  second : (k : Kind) → follows 1 k ≡ true → Second k
  unfolding follows only phase shape normal line_above
  second = only_kind (follows 1) Second ((refl, refl, refl, refl), ((refl, refl, refl, refl), ((refl, refl, refl, refl), ((refl, refl, refl, refl), tt))))

front : (p : Policy) (o : OverrunChoice) (r : Rest) → r ≡ trim 2 r → items_of (plan_from (with_policy p o r)) ≡ item PlanLine [] ∷ item (policy_kind p o) [] ∷ body r
unfolding items_of body trim run_items lock_items task_items
front p o r e = subst⁻¹ (λ r. items_of (plan_from (with_policy p o r)) ≡ item PlanLine [] ∷ item (policy_kind p o) [] ∷ body r) e refl

first_item : (k : Kind) (ns : List ℕ) → follows 0 k ≡ true → written (shape k) ns ≡ true → item k ns ≡ item PlanLine []
unfolding normal shape
first_item k ns f w = ap (item k) (written_normal (shape k) ns w) ∙ ap (λ j. item j (normal (shape j) ns)) (first_kind k f)

pub items_plan : (is : List Item) → Follow 0 is → items_of (plan_of is) ≡ is
unfolding phase plan_of rest_of line_above
items_plan [] h = absurd (omega arith)
items_plan (i ∷ []) h = absurd (omega (arith, ap phase (first_kind i.kind h.0), h.2))
items_plan (i ∷ j ∷ is) h =
    let e : i ≡ item PlanLine [] = first_item i.kind i.nums h.0 h.1 in
    let g : Follow 1 (j ∷ is) = rw e at h.2 in
    let r : Rest = rest_of is in
    let x : Rest = line_above j.kind j.nums r in
    let s : Second j.nums r j.kind = second j.nums r j.kind g.0 in
    let a : Agree 2 is = agree is 2 (omega arith) (omega arith) (rw s.0 at g.2) in
    let f : j ≡ item (policy_kind x.policy x.overrun) [] =
    ap (item j.kind) (written_normal (shape j.kind) j.nums g.1 ∙ s.1) ∙ ap (λ k. item k []) s.2 in
    ap (λ (y : Item). items_of (plan_from (line_above y.kind y.nums x))) e
    ∙ ap (λ y. items_of (plan_from y)) s.3
    ∙ front x.policy x.overrun r a.trimmed
    ∙ cc (e, f, a.same)
