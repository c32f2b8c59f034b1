-- No answers are longer than ten times the events: a refusal by 1 or 2 has 10 bytes and its line at least its LF;
-- any other answer has at most 30, and its line a word of at least 3 bytes and its LF.
use Prim.Native.Nat.{ℕ, zero, suc, ◌+◌, ◌-◌, ◌*◌, ◌≤◌, max}
use Rattle.std.specs.Prelude.{◌≡◌, Bool, eqb, get_or, set, Option, Some, None, Ok, Err}
use Rattle.std.proofs.Math.Path.{refl, ap}
use Rattle.std.proofs.Common.{sym, ◌∙◌}
use mathlib.Core.List.{List, [], ◌∷◌}
use Rattle.std.proofs.Math.Bool.{true, false}
use Rattle.std.proofs.lemmas.Bool.{false≢true}
use native.Mathlib.Omega.{arith}
use Rattle.std.proofs.Math.ListN.{length, length-append}
use Rattle.laws.specs.BoolLaws.{both_left}
use Rattle.laws.specs.Bytes.{pieces, joined, same}
use Rattle.laws.specs.BytesLaws.{joined_pieces, same_equal}
use Rattle.std.specs.Prelude.{if◌then◌else◌}
use Rattle.laws.specs.Fields.{before, count, fields_to}
use Rattle.laws.specs.RangeLaws.{highest_le}
use Rattle.laws.specs.Sums.{flat}
use Rattle.laws.specs.Steps.{before_le, pieces_fields}
use Rattle.plan.specs.Limits.{max_v, most_n, max_period, max_length, most_tasks, tab, lf}
use Rattle.plan.specs.declared.Kind.{Kind}
use Rattle.plan.specs.declared.Kind.TheVariants.{PlanLine, PolicyPO, PolicyPN, PolicyDO, PolicyDN, VcpuLine, MutexG, MutexL, OpenLine, GuestLine, TaskLine, RunLine, LockLine, EndLine, AskLine, FreeLine, UseLine, TopLine, ShowLine}
use Rattle.plan.specs.declared.Refusal.TheVariants.{Shape, Unknown}
use Rattle.plan.specs.Refusals.{Fault}
use Rattle.plan.specs.Line.{Form, Word, Item, shape, kinds, has_shape, item_of, written, w_ask, w_free, w_use, w_top, w_show}
use Rattle.plan.specs.LineLaws.{kind_has}
use Rattle.plan.specs.JudgeLaws.{clear_test}
use Rattle.text_lines.specs.Said.{said_of}
use Rattle.text_lines.specs.SaidLaws.{item_is}
use Rattle.listing.specs.Listing.{line}
use Rattle.board_rules.specs.Facts.{Facts}
use Rattle.board_rules.specs.declared.Board.{Board}
use Rattle.board_rules.specs.declared.Event.{Event}
use Rattle.board_rules.specs.declared.Event.TheVariants.{Ask, Free, Use, Top, Show}
use Rattle.board_rules.specs.declared.Next.{Next}
use Rattle.board_rules.specs.declared.Next.TheVariants.{Nobody, To}
use Rattle.board_rules.specs.declared.BoardAnswer.{BoardAnswer}
use Rattle.board_rules.specs.declared.BoardAnswer.TheVariants.{Granted, Waits, Freed, Left, Refused}
use Rattle.board_rules.specs.declared.Outcome.{Outcome}
use Rattle.board_rules.specs.Board.{seat, left_of, over_of, wait_of, with_left, with_holder, with_wait, settled, complete, handed_to, granted_local, next_of, waiter_v, waiter_n, next_global, local_n, next_local, may_have, passes, asked, freed, freed_global, freed_local, used, topped, held_global, held_local, raised_by, task_priority, vcpu_priority, holds_global, shown, answered, ask_fault, free_fault, use_fault, top_fault, show_fault, step, good}
use Rattle.board_events.specs.Events.{event_of, on_event, on_item, on_line, line_answers, w_freed, w_left, answer_fields, answers_text, replies_to}
use Rattle.board_keeps.specs.Fair.{Fair, InV, InN, task_v}
use Rattle.board_keeps.specs.Good.{good_sound}
use Rattle.board_keeps.specs.Faults.{free_clear, use_clear, top_clear}
use Rattle.log_replies.specs.Parts.{end_text}
use Rattle.log_replies.specs.PartsLaws.{end_none, end_some}
use Rattle.log_replies.specs.Short.{Short, pair_long, plain_long, refused_short, shape_ten, number_ten}
use Rattle.log_answers.specs.LoopLaws.{end_text_law, lines_last, lines_more, text_more}
use Rattle.log_answers.specs.Small.{Small}

-- THE BOARD stays within small budgets, and each answer is short

record Low (b : Board) : Type 0 where
  left : (v : ℕ) → InV v → left_of b v ≤ max_period
  over : (v : ℕ) → InV v → over_of b v ≤ most_tasks * max_length

record Fine (o : Outcome) : Type 0 where
  short : Short o.answer
  low : Low o.board

set_low : (xs : List ℕ) (i j x m : ℕ) → get_or xs j 0 ≤ m → x ≤ m → get_or (set xs i x) j 0 ≤ m
set_low [] i j x m h k = h
set_low (y ∷ xs) zero zero x m h k = k
set_low (y ∷ xs) zero (suc j) x m h k = h
set_low (y ∷ xs) (suc i) zero x m h k = h
set_low (y ∷ xs) (suc i) (suc j) x m h k = set_low xs i j x m h k

module _ (F : Facts) where
  settled_low : {b : Board} → Low b → Low (settled F b)
  unfolding settled
  settled_low h = record { left = h.left; over = h.over }

  with_low : {b : Board} (v l o : ℕ) → Low b → l ≤ max_period → o ≤ most_tasks * max_length → Low (with_left b v l o)
  with_low {b} v l o h p q = record {
    left = λ w i. set_low b.left (v - 1) (w - 1) l max_period (h.left w i) p;
    over = λ w i. set_low b.over (v - 1) (w - 1) o (most_tasks * max_length) (h.over w i) q;
  }

  handed_low : {b : Board} (m : ℕ) (w : Next) → Low b → Low (handed_to b m w)
  handed_low m Nobody h = record { left = h.left; over = h.over }
  handed_low m (To v n) h = record { left = h.left; over = h.over }

  granted_low : {b : Board} (w : Next) → Low b → Low (granted_local b w)
  granted_low Nobody h = h
  granted_low {b} (To v n) h = handed_low (wait_of b v n) (To v n) h

  complete_fine : {b : Board} (a : BoardAnswer) → Short a → Low b → Fine (complete F a b)
  complete_fine a s h = record { short = s; low = settled_low h }

  left_short : {b : Board} (v : ℕ) → InV v → Low b → Short (Left (left_of b v) (over_of b v))
  left_short {b} v i h = pair_long w_left (left_of b v) (over_of b v) (omega arith) (h.left v i) (h.over v i)

  -- the next holder's names are small
  abbrev LowNext : Next → Type 0
  LowNext Nobody = Unit {0}
  LowNext (To v n) = (v ≤ max_v) × (n ≤ most_n)

  next_low : (v n : ℕ) → v ≤ max_v → n ≤ most_n → LowNext (next_of v n)
  next_low v n h k = go (eqb n 0)
    where
      go : (t : Bool) → LowNext (if t then Nobody else To v n)
      go true = tt
      go false = (h, k)

  global_low : (b : Board) (m : ℕ) → LowNext (next_global b m)
  unfolding next_global waiter_v waiter_n
  global_low b m = go (eqb (waiter_v b m) 0) (waiter_v b m) (waiter_n b m (waiter_v b m)) (highest_le max_v _) (highest_le most_n _)
    where
      go : (t : Bool) (v n : ℕ) → v ≤ max_v → n ≤ most_n → LowNext (if t then Nobody else next_of v n)
      go true v n h k = tt
      go false v n h k = next_low v n h k

  local_low : (b : Board) (v : ℕ) → v ≤ max_v → LowNext (next_local F b v)
  unfolding next_local local_n
  local_low b v h = go (passes F b v (local_n F b v)) (local_n F b v) (highest_le most_n _)
    where
      go : (t : Bool) (n : ℕ) → n ≤ most_n → LowNext (if t then next_of v n else Nobody)
      go true n k = next_low v n h k
      go false n k = tt

  freed_short : (w : Next) → LowNext w → Short (Freed w)
  freed_short Nobody h = plain_long.2
  freed_short (To v n) h = pair_long w_freed v n (omega arith) (omega arith) (omega arith)

  -- EACH EVENT

  asked_fine : (b : Board) (v n m : ℕ) → Low b → Fine (asked F b v n m)
  unfolding asked
  asked_fine b v n m h = go (may_have F b v n m)
    where
      go : (t : Bool) → Fine (if t then complete F Granted (with_holder b m (seat v n)) else complete F Waits (with_wait b v n m))
      go true = complete_fine Granted plain_long.0 (record { left = h.left; over = h.over })
      go false = complete_fine Waits plain_long.1 (record { left = h.left; over = h.over })

  freed_fine : (b : Board) (v m : ℕ) → InV v → Low b → Fine (freed F b v m)
  unfolding freed freed_global freed_local
  freed_fine b v m i h = go (F.global m)
    where
      go : (t : Bool) → Fine (if t then freed_global F b m else freed_local F b v m)
      go true = complete_fine (Freed (next_global b m)) (freed_short (next_global b m) (global_low b m)) (handed_low m (next_global b m) h)
      go false =
          complete_fine (Freed (next_local F (with_holder b m 0) v)) (freed_short (next_local F (with_holder b m 0) v) (local_low (with_holder b m 0) v i.to))
          (granted_low (next_local F (with_holder b m 0) v) (record { left = h.left; over = h.over }))

  used_fine : (b : Board) (v t : ℕ) → InV v → Low b → Fine (used F b v t)
  unfolding used
  used_fine b v t i h =
      let k = with_low v (left_of b v - t) (over_of b v - (t - left_of b v)) h (let a = h.left v i in omega arith) (let a = h.over v i in omega arith) in
      complete_fine _ (left_short v i k) k

  topped_fine : (b : Board) (v : ℕ) → Small F → InV v → Low b → Fine (topped F b v)
  unfolding topped
  topped_fine b v s i h =
      let k = with_low v (F.budget v) (F.overrun v) h (s.budget v) (s.overrun v) in
      complete_fine _ (left_short v i k) (record { left = k.left; over = k.over })

  task_low : (b : Board) (v n : ℕ) → n ≤ most_n → task_priority F b v n ≤ 16
  unfolding task_priority raised_by
  task_low b v n h = go (held_global F b v n) (eqb (held_local F b v n) 0) (raised_by F b v (held_local F b v n)) (highest_le most_n _)
    where
      go : (p q : Bool) (r : ℕ) → r ≤ most_n → (if p then 8 + n else (if q then n else max n r)) ≤ 16
      go true q r k = omega arith
      go false true r k = omega arith
      go false false r k = omega arith

  vcpu_low : (b : Board) (v : ℕ) → v ≤ max_v → vcpu_priority F b v ≤ 32
  unfolding vcpu_priority
  vcpu_low b v h = go (holds_global F b v)
    where
      go : (p : Bool) → (if p then 16 + v else v) ≤ 32
      go true = omega arith
      go false = omega arith

  shown_fine : (b : Board) (v n : ℕ) → InV v → InN n → Low b → Fine (shown F b v n)
  shown_fine b v n i j h = record {
    short = pair_long w_show (task_priority F b v n) (vcpu_priority F b v) (omega arith) (let a = task_low b v n j.to in omega arith) (let a = vcpu_low b v i.to in omega arith);
    low = h;
  }

  answered_fine : (b : Board) (f : Fault) (o : Outcome) → Low b → (f ≡ Ok tt → Fine o) → Fine (answered b f o)
  answered_fine b (Ok tt) o h k = k refl
  answered_fine b (Err r) o h k = record { short = refused_short r; low = h }

  show_clear : (v n : ℕ) → show_fault F v n ≡ Ok tt → F.has_task v n ≡ true
  unfolding show_fault
  show_clear v n e = clear_test (F.has_task v n) Unknown (Ok tt) e

  step_fine : Fair F → Small F → (b : Board) (e : Event) → Low b → Fine (step F b e)
  unfolding step
  step_fine f s b (Ask v n m) h = answered_fine b (ask_fault F b v n m) (asked F b v n m) h (λ q. asked_fine b v n m h)
  step_fine f s b (Free v n m) h =
      answered_fine b (free_fault F b v n m) (freed F b v m) h (λ q. freed_fine b v m (task_v f v n (free_clear F b v n m q).task) h)
  step_fine f s b (Use v t) h = answered_fine b (use_fault F b v t) (used F b v t) h (λ q. used_fine b v t (f.vcpu_in v (use_clear F b v t q).vcpu) h)
  step_fine f s b (Top v) h = answered_fine b (top_fault F v) (topped F b v) h (λ q. topped_fine b v s (f.vcpu_in v (top_clear F v q)) h)
  step_fine f s b (Show v n) h =
      answered_fine b (show_fault F v n) (shown F b v n) h (λ q. let t = show_clear v n q in shown_fine b v n (task_v f v n t) (f.task_in_law v n t) h)

  good_low : Small F → (b : Board) → good F b ≡ true → Low b
  good_low s b g =
      let t = (good_sound F b g).budgets in
      record { left = λ v i. let a = (t v i).left_le in let c = s.budget v in omega arith; over = λ v i. let a = (t v i).over_le in let c = s.overrun v in omega arith }

-- A LINE that tells an event has a word of 3 bytes or more

fields_long : (w : List ℕ) (ps : List Form) (n : ℕ) (l : List ℕ) → has_shape (Word w ∷ ps) (fields_to tab n l) ≡ true → length w ≤ length l
unfolding has_shape fields_to
fields_long w ps zero l h = let a = ap length (same_equal (before tab l) w (both_left (same (before tab l) w) _ h)) in let b = before_le tab l in omega arith
fields_long w ps (suc n) l h = let a = ap length (same_equal (before tab l) w (both_left (same (before tab l) w) _ h)) in let b = before_le tab l in omega arith

word_long : (w : List ℕ) (ps : List Form) (l : List ℕ) → has_shape (Word w ∷ ps) (pieces tab l) ≡ true → length w ≤ length l
word_long w ps l h = fields_long w ps (count tab l) l (ap (has_shape (Word w ∷ ps)) (sym (pieces_fields tab l)) ∙ h)

abbrev is_some : Option Event → Bool
is_some None = false
is_some (Some e) = true

none_some : {e : Event} → None ≡ Some e → ⊥
none_some h = false≢true (ap is_some h)

kind_long : (k : Kind) (ns : List ℕ) (e : Event) (l : List ℕ) → event_of k ns ≡ Some e → has_shape (shape k) (pieces tab l) ≡ true → 3 ≤ length l
unfolding event_of shape
kind_long PlanLine ns e l h q = absurd (none_some h)
kind_long PolicyPO ns e l h q = absurd (none_some h)
kind_long PolicyPN ns e l h q = absurd (none_some h)
kind_long PolicyDO ns e l h q = absurd (none_some h)
kind_long PolicyDN ns e l h q = absurd (none_some h)
kind_long VcpuLine ns e l h q = absurd (none_some h)
kind_long MutexG ns e l h q = absurd (none_some h)
kind_long MutexL ns e l h q = absurd (none_some h)
kind_long OpenLine ns e l h q = absurd (none_some h)
kind_long GuestLine ns e l h q = absurd (none_some h)
kind_long TaskLine ns e l h q = absurd (none_some h)
kind_long RunLine ns e l h q = absurd (none_some h)
kind_long LockLine ns e l h q = absurd (none_some h)
kind_long EndLine ns e l h q = absurd (none_some h)
kind_long AskLine ns e l h q = let a = word_long w_ask _ l q in omega arith
kind_long FreeLine ns e l h q = let a = word_long w_free _ l q in omega arith
kind_long UseLine ns e l h q = let a = word_long w_use _ l q in omega arith
kind_long TopLine ns e l h q = let a = word_long w_top _ l q in omega arith
kind_long ShowLine ns e l h q = let a = word_long w_show _ l q in omega arith

item_shape : (l : List ℕ) (i : Item) → item_of l ≡ Some i → has_shape (shape i.kind) (pieces tab l) ≡ true
unfolding said_of
item_shape l i h = kind_has kinds (pieces tab l) i.kind (ap (λ s. s.found) (item_is l i h))

-- what a line gives: at most ten bytes for each of its own and its LF, and a board within small budgets
record Bounded (l : List ℕ) (o : Outcome) : Type 0 where
  size : length (line (answer_fields o.answer)) ≤ 10 * (length l + 1)
  low : Low o.board

module _ (F : Facts) (f : Fair F) (s : Small F) where
  event_bounded : (b : Board) (l : List ℕ) (ok : Bool) (o : Option Event) → ((e : Event) → o ≡ Some e → 3 ≤ length l) → Low b → Bounded l (on_event F b ok o)
  event_bounded b l ok None k h = record { size = let a = shape_ten in omega arith; low = h }
  event_bounded b l false (Some e) k h = record { size = let a = number_ten in omega arith; low = h }
  event_bounded b l true (Some e) k h =
      let q = step_fine F f s b e h in
      let a = q.short in
      let c = k e refl in
      record { size = omega arith; low = q.low }

  line_bounded : (b : Board) (l : List ℕ) → Low b → Bounded l (on_line F b l)
  unfolding on_line
  line_bounded b l h = go (item_of l) refl
    where
      go : (i : Option Item) → item_of l ≡ i → Bounded l (on_item F b i)
      go None e = record { size = let a = shape_ten in omega arith; low = h }
      go (Some i) e =
          event_bounded b l (written (shape i.kind) i.nums) (event_of i.kind i.nums) (λ x q. kind_long i.kind i.nums x l q (item_shape l i e)) h

  end_bounded : (k : ℕ) → length (end_text k) ≤ 10 * k
  end_bounded zero = let a = ap length (end_none 0 refl) in omega arith
  end_bounded (suc k) =
      let a = ap length (end_some (suc k) (λ e. omega arith) (Refused Shape) refl) in
      let c = shape_ten in omega arith

  lines_bound : (b : Board) (ls : List (List ℕ)) → Low b → length (answers_text (line_answers F b ls)) ≤ 10 * length (joined lf ls)
  unfolding joined
  lines_bound b [] h = unfold line_answers answers_text flat in omega arith
  lines_bound b (l ∷ []) h =
      let a = ap (λ x. length (answers_text x)) (lines_last F b l) ∙ ap length (end_text_law l) in
      let c = end_bounded (length l) in omega arith
  lines_bound b (l ∷ m ∷ ls) h =
      let q = line_bounded b l h in
      let ih = lines_bound (on_line F b l).board (m ∷ ls) q.low in
      let a =
      ap (λ x. length (answers_text x)) (lines_more F b l (m ∷ ls) refl)
      ∙ ap length (text_more (on_line F b l).answer (line_answers F (on_line F b l).board (m ∷ ls)))
      ∙ length-append (line (answer_fields (on_line F b l).answer)) (answers_text (line_answers F (on_line F b l).board (m ∷ ls))) in
      let c = q.size in
      let d = length-append l (lf ∷ joined lf (m ∷ ls)) in
      omega arith

-- THE BOUND
pub answers_bound :
    (F : Facts) (b : Board) (es : List ℕ) → Fair F → Small F → good F b ≡ true → length (replies_to F b es) ≤ 10 * length es
answers_bound F b es f s g =
    let a = lines_bound F f s b (pieces lf es) (good_low F s b g) in
    let c = ap length (joined_pieces lf es) in omega arith
