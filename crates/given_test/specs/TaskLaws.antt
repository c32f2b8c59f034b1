-- What the judge says of the lines of tasks is what is asked of their rows (specs/Clear of `given_tasks`): they change only the phase, the section's guest and task, and the counts.
use Prim.Native.Nat.{ℕ, zero, suc, ◌-◌, ◌≤◌, ◌<◌}
use Rattle.std.specs.Prelude.{◌≡◌, List, [], ◌∷◌, cond, ◌||◌, get_or, Ok, is_ok}
use Rattle.std.proofs.Math.Path.{refl, ap, ap₂, sym}
use Rattle.std.proofs.Common.{◌∙◌}
use Rattle.std.proofs.Math.Bool.{Bool, true, false, ◌&&◌, not, and-true, and-false, and_assoc, and_self_left}
use native.Mathlib.Omega.{arith}
use Rattle.std.proofs.Math.Dec.{eqb, leb, ltb}
use borrow.Author.Tests.{eqb-true, ne_eqb, not-false, lt-ltb, le-leb, leb-true}
use Rattle.laws.specs.Sums.{all}
use Rattle.laws.specs.Rows.{rows}
use Rattle.laws.specs.RowLaws.{all_next}
use Rattle.laws.specs.BoolLaws.{both, both_left, both_right, miss_left, neither_right}
use Rattle.plan.specs.Limits.{max_v, max_guest, max_m, max_n, max_period, max_length, max_tasks, max_locks}
use Rattle.plan.specs.declared.Refusal.{Refusal}
use Rattle.plan.specs.declared.Refusal.TheVariants.{Shape, Number, Range, Order, Missing, Outside, TooMany}
use Rattle.plan.specs.Refusals.{unless, Fault}
use Rattle.plan.specs.declared.Kind.TheVariants.{GuestLine, TaskLine, RunLine, LockLine, EndLine}
use Rattle.plan.specs.Line.{Item, bad, shape, written}
use Rattle.plan.specs.Plan.{Vcpu}
use Rattle.plan.specs.Rules.{phase, within, follows, rises}
use Rattle.plan.specs.Reading.{fault}
use Rattle.plan.specs.Text.{item, run_item}
use Rattle.judge_coded.specs.declared.Seen.{Seen}
use Rattle.judge_coded.specs.Coded.{coded, ranged, reached, bump, placed, seen_by, ruled, guest_fault, host_fault, task_fault, run_fault, lock_fault}
use Rattle.plan_tables.specs.Layout.{task_width, cell, lock_row}
use Rattle.given_tidy.specs.Hosts.{host_of, begins}
use Rattle.given_tasks.specs.Clear.{run_clear, lock_clear, guest_clear, head_clear, lock_at, head_at, task_clear, task_at, tasks_clear}
use Rattle.given_test.specs.Feed.{Run, feed, feeds, passing, Bare, lined, lock_lines, guest_line, head_lines, task_lines}
use Rattle.given_test.specs.FeedLaws.{feeds_append}

-- A FAULT IS CLEAR where each of its tests holds
clear_unless : (b : Bool) (k : Refusal) (f : Fault) → is_ok (unless b k f) ≡ (b && is_ok f)
unfolding unless
clear_unless true k f = refl
clear_unless false k f = refl

-- the last test
clear_last : (b : Bool) (k : Refusal) → is_ok (unless b k (Ok tt)) ≡ b
clear_last b k = clear_unless b k (Ok tt) ∙ and-true b

clear_next : (b : Bool) (k : Refusal) (f : Fault) {c : Bool} → is_ok f ≡ c → is_ok (unless b k f) ≡ (b && c)
clear_next b k f e = clear_unless b k f ∙ ap (λ x. b && x) e

-- a number in its range has few digits
few_digits : (x lo hi : ℕ) → hi ≤ max_length → within x lo hi ≡ true → ltb x bad ≡ true
few_digits x lo hi l h = let k = leb-true x hi (both_right (leb lo x) (leb x hi) h) in lt-ltb x bad (omega (arith, k, l))

-- what follows from a test need not be asked beside it
implied : (w c : Bool) → (c ≡ true → w ≡ true) → (w && c) ≡ c
implied w true h = rw (h refl)
implied w false h = and-false w

module _ (t : Seen) where
  fault_clear :
      (i : Item) (c : Bool) → (c ≡ true → written (shape i.kind) i.nums ≡ true) → is_ok (ruled t i.kind i.nums) ≡ c →
      is_ok (fault coded t i) ≡ (follows t.phase i.kind && c)
  unfolding fault
  fault_clear i c e h =
      clear_next (follows t.phase i.kind) Shape _
      (clear_next (written (shape i.kind) i.nums) Number _ h ∙ implied (written (shape i.kind) i.nums) c e)

  guest_clear_law : (g : ℕ) → is_ok (fault coded t (item GuestLine (g ∷ []))) ≡ (follows t.phase GuestLine && guest_clear t.hosted t.guest g)
  unfolding written shape ruled guest_fault guest_clear
  guest_clear_law g =
      let r : Bool = within g 1 max_guest in
      let c : Bool = ltb t.guest g && eqb (get_or t.hosted g 0) 1 in
      fault_clear (item GuestLine (g ∷ [])) (r && c) (λ h. both (ltb g bad) true (few_digits g 1 max_guest (omega arith) (both_left r c h)) refl)
      (clear_next r Range _ (clear_next (ltb t.guest g) Order _ (clear_last (eqb (get_or t.hosted g 0) 1) Missing)))

  run_clear_law : (a : ℕ) → is_ok (fault coded t (run_item a)) ≡ (follows t.phase RunLine && run_clear a)
  unfolding written shape ruled run_fault
  run_clear_law a =
      fault_clear (run_item a) (run_clear a) (λ h. both (ltb a bad) true (few_digits a 0 max_length (omega arith) h) refl) (clear_last (within a 0 max_length) Range)

  -- two numbers in their ranges, from 1 on
  ranged_digits : (x y hi top : ℕ) → hi ≤ max_length → top ≤ max_length → ranged x hi y top ≡ true → (ltb x bad && (ltb y bad && true)) ≡ true
  ranged_digits x y hi top k l h =
      let p : Bool = within x 1 hi in
      let q : Bool = within y 1 top in
      both (ltb x bad) (ltb y bad && true) (few_digits x 1 hi k (both_left p q h)) (both (ltb y bad) true (few_digits y 1 top l (both_right p q h)) refl)

  lock_clear_law :
      (m x : ℕ) → ltb t.locks max_locks ≡ true →
      is_ok (fault coded t (item LockLine (m ∷ x ∷ [])))
      ≡ (follows t.phase LockLine && (ranged m max_m x max_length && (leb 1 (get_or t.owners m 0) && reached t (get_or t.owners m 0) m)))
  unfolding written shape ruled lock_fault
  lock_clear_law m x h =
      let r : Bool = ranged m max_m x max_length in
      let o : Bool = leb 1 (get_or t.owners m 0) in
      let a : Bool = reached t (get_or t.owners m 0) m in
      fault_clear (item LockLine (m ∷ x ∷ [])) (r && (o && a)) (λ k. ranged_digits m x max_m max_length (omega arith) (omega arith) (both_left r (o && a) k))
      (clear_next r Range _ (clear_next o Missing _ (clear_next a Outside _ (clear_last (ltb t.locks max_locks) TooMany ∙ h) ∙ and-true a)))

  host_clear : (v : ℕ) → ltb t.tasks max_tasks ≡ true → is_ok (host_fault t v) ≡ (leb 1 (get_or t.guests v 0) && eqb (get_or t.guests v 0) t.guest)
  unfolding host_fault
  host_clear v h =
      let k : Bool = leb 1 (get_or t.guests v 0) in
      let e : Bool = eqb (get_or t.guests v 0) t.guest in
      clear_next k Missing _ (clear_next (k && e) Outside _ (clear_last (ltb t.tasks max_tasks) TooMany ∙ h) ∙ and-true (k && e)) ∙ and_self_left k e

  task_clear_law :
      (v n p : ℕ) → ltb t.tasks max_tasks ≡ true →
      is_ok (fault coded t (item TaskLine (v ∷ n ∷ p ∷ [])))
      ≡ (follows t.phase TaskLine
      && ((within v 1 max_v && ranged n max_n p max_period)
      && (rises t.v t.n v n && (leb 1 (get_or t.guests v 0) && eqb (get_or t.guests v 0) t.guest))))
  unfolding written shape ruled task_fault
  task_clear_law v n p h =
      let w : Bool = within v 1 max_v in
      let r : Bool = ranged n max_n p max_period in
      let c : Bool = rises t.v t.n v n && (leb 1 (get_or t.guests v 0) && eqb (get_or t.guests v 0) t.guest) in
      fault_clear (item TaskLine (v ∷ n ∷ p ∷ [])) ((w && r) && c)
      (λ k.
      let e = both_left (w && r) c k in
      both (ltb v bad) (ltb n bad && (ltb p bad && true)) (few_digits v 1 max_v (omega arith) (both_left w r e))
      (ranged_digits n p max_n max_period (omega arith) (omega arith) (both_right w r e)))
      (clear_next (w && r) Range _ (clear_next (rises t.v t.n v n) Order _ (host_clear v h)))

-- THE JUDGE AFTER LINES OF TASKS: what s had seen before, at a phase, a guest and a task
abbrev after : Bool → ℕ → Seen → ℕ → ℕ → ℕ → ℕ → ℕ → Run
after ok q s g v n ts ls = record { ok = ok; seen = placed q s g v n ts ls }

-- a test that holds asks no more
held : {a b : Bool} → a ≡ true → (a && b) ≡ b
held e = rw e

-- one more of few
bump_few : (k : ℕ) → k < max_tasks → bump k ≡ suc k
unfolding bump
bump_few k h = let e : ltb k max_tasks ≡ true = lt-ltb k max_tasks h in rw e (omega arith)

module _ (s : Seen) (t : List ℕ) (i : ℕ) where
  unfoldable locks : ℕ → ℕ → ℕ → Bool
  locks g v c = all (lock_at s.owners s.opens t g v i) (rows c (λ j. j))

  -- lock j and the run after it
  lock_fed :
      (ok : Bool) (g v n ts j : ℕ) → ltb j max_locks ≡ true →
      feeds (after ok 7 s g v n ts j) (lock_lines t i j) ≡ after (ok && lock_at s.owners s.opens t g v i j) 7 s g v n ts (bump j)
  unfolding feeds feed lock_lines lock_row lock_at lock_clear placed seen_by phase follows
  lock_fed ok g v n ts j h =
      ap (λ b. after b 7 s g v n ts (bump j))
      (and_assoc ok _ _ ∙ ap₂ (λ a b. ok && (a && b)) (lock_clear_law (placed 7 s g v n ts j) _ _ h) (run_clear_law (placed 9 s g v n ts (bump j)) _))

  -- the first c locks
  locks_fed :
      (ok : Bool) (g v n ts c : ℕ) → c ≤ max_locks → feeds (after ok 7 s g v n ts 0) (lined c (lock_lines t i)) ≡ after (ok && locks g v c) 7 s g v n ts c
  unfolding lined
  locks_fed ok g v n ts zero h = unfold feeds locks rows all in ap (λ b. after b 7 s g v n ts 0) (sym (and-true ok))
  locks_fed ok g v n ts (suc c) h =
      feeds_append (after ok 7 s g v n ts 0) (lined c (lock_lines t i)) (lock_lines t i c)
      ∙ ap (λ r. feeds r (lock_lines t i c)) (locks_fed ok g v n ts c (omega arith))
      ∙ lock_fed (ok && locks g v c) g v n ts c (lt-ltb c max_locks (omega arith))
      ∙ ap₂ (λ b k. after b 7 s g v n ts k)
      (and_assoc ok (locks g v c) (lock_at s.owners s.opens t g v i c) ∙ ap (λ b. ok && b) (sym (unfold locks in all_next (lock_at s.owners s.opens t g v i) (λ j. j) c)))
      (bump_few c (omega arith))

  -- the first two lines and the locks, where a task's line may stand
  unfoldable rest : ℕ → ℕ → ℕ → Bool
  rest g w k =
      head_clear s.guests g w k (cell t task_width i 0) (cell t task_width i 1) (cell t task_width i 2) (cell t task_width i 3)
      && locks g (cell t task_width i 0) (cell t task_width i 4)

  abbrev task : Bool → ℕ → ℕ → Run
  task ok g ts = after ok 7 s g (cell t task_width i 0) (cell t task_width i 1) ts (cell t task_width i 4)

  rest_fed :
      (ok : Bool) (q g w k ts ls : ℕ) → within q 6 7 ≡ true → ts < max_tasks → cell t task_width i 4 ≤ max_locks →
      feeds (after ok q s g w k ts ls) (head_lines t i (lined (cell t task_width i 4) (lock_lines t i))) ≡ task (ok && rest g w k) g (suc ts)
  unfolding feeds feed rest head_clear placed seen_by phase follows
  rest_fed ok q g w k ts ls e h l =
      let v : ℕ = cell t task_width i 0 in
      let n : ℕ = cell t task_width i 1 in
      let a : Bool = is_ok (fault coded (placed q s g w k ts ls) (item TaskLine (v ∷ n ∷ cell t task_width i 2 ∷ []))) in
      let b : Bool = is_ok (fault coded (placed 8 s g v n (bump ts) 0) (run_item (cell t task_width i 3))) in
      let c : Bool = locks g v (cell t task_width i 4) in
      locks_fed ((ok && a) && b) g v n (bump ts) (cell t task_width i 4) l
      ∙ ap₂ (λ x y. after x 7 s g v n y (cell t task_width i 4))
      (and_assoc (ok && a) b c
      ∙ and_assoc ok a (b && c)
      ∙ ap (λ x. ok && x)
      (sym (and_assoc a b c)
      ∙ ap (λ x. x && c)
      (ap₂ ◌&&◌ (task_clear_law (placed q s g w k ts ls) v n (cell t task_width i 2) (lt-ltb ts max_tasks h) ∙ held e) (run_clear_law (placed 8 s g v n (bump ts) 0) (cell t task_width i 3)))))
      (bump_few ts h)

  -- a task that begins a section
  first_fed :
      (ok : Bool) (q f g w k ts ls : ℕ) → ts < max_tasks → cell t task_width i 4 ≤ max_locks →
      feeds (after ok q s f w k ts ls) (guest_line true g (head_lines t i (lined (cell t task_width i 4) (lock_lines t i))))
      ≡ task (ok && (follows q GuestLine && (guest_clear s.hosted f g && rest g 0 0))) g (suc ts)
  unfolding feeds feed placed seen_by phase
  first_fed ok q f g w k ts ls h l =
      let a : Bool = is_ok (fault coded (placed q s f w k ts ls) (item GuestLine (g ∷ []))) in
      let c : Bool = rest g 0 0 in
      rest_fed (ok && a) 6 g 0 0 ts ls refl h l
      ∙ ap (λ x. task x g (suc ts))
      (and_assoc ok a c
      ∙ ap (λ x. ok && x)
      (ap (λ x. x && c) (guest_clear_law (placed q s f w k ts ls) g) ∙ and_assoc (follows q GuestLine) (guest_clear s.hosted f g) c))

-- THE TASKS, with VCPUs vs, from a run that has none yet
module _ (r : Run) (vs : List Vcpu) (t : List ℕ) where
  abbrev clear : ℕ → Bool
  clear i = task_at r.seen.guests r.seen.hosted r.seen.owners r.seen.opens t vs i

  -- after the first i + 1 tasks, where b says that no line so far is at fault
  abbrev reached_by_law : ℕ → Bool → Run
  reached_by_law i b = task r.seen t i b (host_of vs t i) (suc i)

  begin_fed :
      r.seen.guest ≡ 0 → r.seen.tasks ≡ 0 → cell t task_width 0 4 ≤ max_locks →
      feeds r (task_lines vs t 0) ≡ reached_by_law 0 (r.ok && (follows r.seen.phase GuestLine && clear 0))
  unfolding task_lines task_clear head_at rest locks begins placed
  begin_fed e h l =
      let g : ℕ = host_of vs t 0 in
      first_fed r.seen t 0 r.ok r.seen.phase r.seen.guest g r.seen.v r.seen.n r.seen.tasks r.seen.locks (rw h (omega arith)) l
      ∙ ap₂ (λ f k. task r.seen t 0 (r.ok && (follows r.seen.phase GuestLine && (guest_clear r.seen.hosted f g && rest r.seen t 0 g 0 0))) g (suc k)) e h

  -- a task that begins no section has the guest of the one before it
  same_guest : (i : ℕ) → begins vs t (suc i) ≡ false → host_of vs t i ≡ host_of vs t (suc i)
  unfolding begins
  same_guest i e =
      let z : suc i - 1 ≡ i = omega arith in
      let k : not (eqb (host_of vs t (suc i)) (host_of vs t (suc i - 1))) ≡ false = neither_right (eqb (suc i) 0) _ e in
      sym (eqb-true (host_of vs t (suc i)) (host_of vs t (suc i - 1)) (not-false _ k) ∙ ap (host_of vs t) z)

  -- one task more
  next_fed :
      (i : ℕ) (b : Bool) → suc i < max_tasks → cell t task_width (suc i) 4 ≤ max_locks →
      feeds (reached_by_law i b) (task_lines vs t (suc i)) ≡ reached_by_law (suc i) (b && clear (suc i))
  unfolding task_lines task_clear head_at rest locks follows
  next_fed i b h l = go (begins vs t (suc i)) refl
    where
      s : Seen
      s = r.seen

      g : ℕ
      g = host_of vs t (suc i)

      go :
          (on : Bool) → begins vs t (suc i) ≡ on →
          feeds (reached_by_law i b) (guest_line on g (head_lines t (suc i) (lined (cell t task_width (suc i) 4) (lock_lines t (suc i)))))
          ≡ reached_by_law (suc i)
          (b
          && ((not on || guest_clear s.hosted (host_of vs t i) g)
          && (head_clear s.guests g (cond on 0 (cell t task_width (suc i - 1) 0)) (cond on 0 (cell t task_width (suc i - 1) 1)) (cell t task_width (suc i) 0)
          (cell t task_width (suc i) 1) (cell t task_width (suc i) 2) (cell t task_width (suc i) 3)
          && all (lock_at s.owners s.opens t g (cell t task_width (suc i) 0) (suc i)) (rows (cell t task_width (suc i) 4) (λ j. j)))))
      go true e =
          first_fed s t (suc i) b 7 (host_of vs t i) g (cell t task_width i 0) (cell t task_width i 1) (suc i) (cell t task_width i 4) h l
      go false e =
          let z : suc i - 1 ≡ i = omega arith in
          ap (λ x. feeds (after b 7 s x (cell t task_width i 0) (cell t task_width i 1) (suc i) (cell t task_width i 4)) (head_lines t (suc i) (lined (cell t task_width (suc i) 4) (lock_lines t (suc i)))))
          (same_guest i e)
          ∙ rest_fed s t (suc i) b 7 g (cell t task_width i 0) (cell t task_width i 1) (suc i) (cell t task_width i 4) refl h l
          ∙ rw z

  -- all of them
  abbrev clears : ℕ → Bool
  clears m = tasks_clear r.seen.guests r.seen.hosted r.seen.owners r.seen.opens t vs m

  clears_next : (m : ℕ) → clears (suc m) ≡ (clears m && clear m)
  unfolding tasks_clear
  clears_next m = all_next clear (λ i. i) m

  clears_one : clears 1 ≡ clear 0
  clears_one = clears_next 0 ∙ (unfold tasks_clear rows all in refl)

  tasks_fed :
      Bare r → (m : ℕ) → m < max_tasks → ((i : ℕ) → i ≤ m → cell t task_width i 4 ≤ max_locks) →
      feeds r (lined (suc m) (task_lines vs t)) ≡ reached_by_law m (r.ok && (follows r.seen.phase GuestLine && clears (suc m)))
  unfolding lined
  tasks_fed h zero l k =
      begin_fed h.guest h.tasks (k 0 (omega arith)) ∙ ap (λ b. reached_by_law 0 (r.ok && (follows r.seen.phase GuestLine && b))) (sym clears_one)
  tasks_fed h (suc m) l k =
      let f : Bool = follows r.seen.phase GuestLine in
      feeds_append r (lined (suc m) (task_lines vs t)) (task_lines vs t (suc m))
      ∙ ap (λ x. feeds x (task_lines vs t (suc m))) (tasks_fed h m (omega arith) (λ i e. k i (omega arith)))
      ∙ next_fed m (r.ok && (f && clears (suc m))) l (k (suc m) (omega arith))
      ∙ ap (reached_by_law (suc m))
      (and_assoc r.ok (f && clears (suc m)) (clear (suc m))
      ∙ ap (λ b. r.ok && b) (and_assoc f (clears (suc m)) (clear (suc m)) ∙ ap (λ b. f && b) (sym (clears_next (suc m)))))

  -- the plan may end after a task
  end_clear : (q : Run) → passing (feed q (item EndLine [])) ≡ (q.ok && eqb q.seen.phase 7)
  unfolding feed fault follows written shape ruled seen_by placed phase
  end_clear q =
      and-true _ ∙ ap (λ b. q.ok && b) (clear_unless (eqb q.seen.phase 7) Shape (unless true Number (Ok tt)) ∙ (unfold unless in and-true (eqb q.seen.phase 7)))

  pub tasks_clean :
      Bare r → (m : ℕ) → m ≤ max_tasks → ((i : ℕ) → i < m → cell t task_width i 4 ≤ max_locks) →
      passing (feed (feeds r (lined m (task_lines vs t))) (item EndLine [])) ≡ (r.ok && (leb 1 m && (follows r.seen.phase GuestLine && clears m)))
  unfolding lined feeds placed
  tasks_clean h zero l k =
      let e : eqb r.seen.phase 7 ≡ false = ne_eqb r.seen.phase 7 (λ z. omega (arith, h.early)) in
      end_clear r ∙ ap (λ b. r.ok && b) e
  tasks_clean h (suc m) l k =
      let b : Bool = follows r.seen.phase GuestLine && clears (suc m) in
      let e : leb 1 (suc m) ≡ true = le-leb 1 (suc m) (omega arith) in
      end_clear (feeds r (lined (suc m) (task_lines vs t)))
      ∙ ap (λ x. x.ok && eqb x.seen.phase 7) (tasks_fed h m (omega arith) (λ i z. k i (omega arith)))
      ∙ and-true (r.ok && b)
      ∙ ap (λ x. r.ok && x) (sym (held e))

  -- the same where a test tells whether a task may stand here
  module _ (h : Bare r) (m : ℕ) (l : m ≤ max_tasks) (k : (i : ℕ) → i < m → cell t task_width i 4 ≤ max_locks) {w : Bool} (e : w ≡ within r.seen.phase 3 5) where
    abbrev tests : Bool
    tests = r.ok && (leb 1 m && (w || eqb r.seen.phase 7))

    whole : (tests && clears m) ≡ passing (feed (feeds r (lined m (task_lines vs t))) (item EndLine []))
    unfolding follows
    whole =
        let f : Bool = follows r.seen.phase GuestLine in
        rw e (and_assoc r.ok (leb 1 m && f) (clears m) ∙ ap (λ b. r.ok && b) (and_assoc (leb 1 m) f (clears m)) ∙ sym (tasks_clean h m l k))

    pub clean_told : tests ≡ true → {x : Bool} → x ≡ clears m → x ≡ passing (feed (feeds r (lined m (task_lines vs t))) (item EndLine []))
    clean_told b c = c ∙ sym (held b) ∙ whole

    pub clean_missed : tests ≡ false → false ≡ passing (feed (feeds r (lined m (task_lines vs t))) (item EndLine []))
    clean_missed b = sym (miss_left tests (clears m) b) ∙ whole
