-- What `board` prints is the answers of the run of its lines' events, each in its line's place.
use Rattle.std.specs.Prelude.{ℕ, suc, ◌+◌, ◌-◌, ◌≤◌, min, ◌≡◌, refl, Bool, true, false, ◌⊎◌, ◌↔◌, length, Option, Some, None}
use Rattle.std.proofs.Common.{ap, ap₂, ◌∙◌, inl, inr, arith, le-ltb}
use mathlib.Core.List.{List, [], ◌∷◌}
use Rattle.laws.specs.Sums.{Each}
use Rattle.laws.specs.Bytes.{pieces}
use Rattle.laws.specs.Fields.{count}
use Rattle.laws.specs.Steps.{pieces_length}
use Rattle.plan.specs.Limits.{max_input, lf}
use Rattle.plan.specs.declared.Refusal.{Refusal}
use Rattle.plan.specs.declared.Refusal.TheVariants.{Shape, Number}
use Rattle.plan.specs.Line.{Item, shape, written, item_of}
use Rattle.plan.specs.Rules.{last}
use Rattle.plan.specs.Plan.{Plan}
use Rattle.plan.specs.Reading.{Accepts, reading}
use Rattle.figures.specs.System.{system}
use Rattle.board_rules.specs.Facts.{Facts, facts_of}
use Rattle.board_rules.specs.declared.Board.{Board}
use Rattle.board_rules.specs.declared.Event.{Event}
use Rattle.board_rules.specs.declared.BoardAnswer.{BoardAnswer}
use Rattle.board_rules.specs.declared.Outcome.{Outcome}
use Rattle.board_rules.specs.Board.{fresh, step, refused}
use Rattle.board_events.specs.Events.{answers, answers_by, event_of, on_event, on_item, on_line, line_answers, answers_text, events_text, board_text}
use Rattle.board_events.specs.Printed.{LineSays, AnEvent, NoEvent, event_says, item_says, says_of, says_at_end, said_in, events_in, answers_in, answers_to, printed}

-- ONE LINE

-- what a line says is done: its event, or its refusal, which leaves the board
abbrev pub on_says : Facts → Board → LineSays → Outcome
on_says F b (AnEvent e) = step F b e
on_says F b (NoEvent r) = refused b r

event_says_law : (F : Facts) (b : Board) (ok : Bool) (o : Option Event) → on_event F b ok o ≡ on_says F b (event_says ok o)
event_says_law F b ok None = refl
event_says_law F b true (Some e) = refl
event_says_law F b false (Some e) = refl

item_says_law : (F : Facts) (b : Board) (o : Option Item) → on_item F b o ≡ on_says F b (item_says o)
item_says_law F b None = refl
item_says_law F b (Some i) = event_says_law F b (written (shape i.kind) i.nums) (event_of i.kind i.nums)

pub line_says : (F : Facts) (b : Board) (l : List ℕ) → on_line F b l ≡ on_says F b (says_of l)
unfolding on_line says_of
line_says F b l = item_says_law F b (item_of l)

-- WHAT A LINE SAYS, EXACTLY

-- the line l has the word and the field count of an event: its item is i, which names e
abbrev pub Names : List ℕ → Item → Event → Type 0
Names l i e = (item_of l ≡ Some i) × (event_of i.kind i.nums ≡ Some e)

names_says : (l : List ℕ) (i : Item) (e : Event) (ok : Bool) → Names l i e → written (shape i.kind) i.nums ≡ ok → says_of l ≡ event_says ok (Some e)
unfolding says_of
names_says l i e ok n w = ap item_says n.0 ∙ ap₂ event_says w n.1

-- a line names an event, or says what a line of no kind says
data Named (l : List ℕ) : Type 0 where
  named : (i : Item) (e : Event) (ok : Bool) → Names l i e → written (shape i.kind) i.nums ≡ ok → Named l
  unnamed : says_of l ≡ item_says None → ((i : Item) (e : Event) → Names l i e → ⊥) → Named l

named_or_not : (l : List ℕ) → Named l
unfolding says_of
named_or_not l = at_item (item_of l) refl
  where
    at_event : (i : Item) → item_of l ≡ Some i → (o : Option Event) → event_of i.kind i.nums ≡ o → Named l
    at_event i h None k = unnamed (ap item_says h ∙ ap (event_says _) k) (λ j e n. let p = n.0 in let q = n.1 in let z : ◌≡◌ {A = ℕ} 0 1 = cc in omega arith)
    at_event i h (Some e) k = named i e _ (h, k) refl

    at_item : (o : Option Item) → item_of l ≡ o → Named l
    at_item None h = unnamed (ap item_says h) (λ j e n. let p = n.0 in let z : ◌≡◌ {A = ℕ} 0 1 = cc in omega arith)
    at_item (Some i) h = at_event i h (event_of i.kind i.nums) refl

-- 2 is for a number's form, in a line that names an event
pub two_exactly : (l : List ℕ) → (says_of l ≡ NoEvent Number) ↔ ((i : Item) × (e : Event) × Names l i e × (written (shape i.kind) i.nums ≡ false))
two_exactly l = (from (named_or_not l), λ h. names_says l h.0 h.1 false h.2 h.3)
  where
    from : Named l → says_of l ≡ NoEvent Number → (i : Item) × (e : Event) × Names l i e × (written (shape i.kind) i.nums ≡ false)
    from (named i e true n w) h = absurd (let q = names_says l i e true n w in let z : ◌≡◌ {A = ℕ} 0 1 = cc in omega arith)
    from (named i e false n w) h = (i, e, n, w)
    from (unnamed u n) h = absurd (let z : ◌≡◌ {A = ℕ} 0 1 = cc in omega arith)

-- an event is said by a line that names it, with each number in its form
pub says_exactly : (l : List ℕ) (e : Event) → (says_of l ≡ AnEvent e) ↔ ((i : Item) × Names l i e × (written (shape i.kind) i.nums ≡ true))
says_exactly l e = (from (named_or_not l), λ h. names_says l h.0 e true h.1 h.2)
  where
    from : Named l → says_of l ≡ AnEvent e → (i : Item) × Names l i e × (written (shape i.kind) i.nums ≡ true)
    from (named i d true n w) h = let q = names_says l i d true n w in let z : d ≡ e = cc in (i, (n.0, n.1 ∙ ap Some z), w)
    from (named i d false n w) h = absurd (let q = names_says l i d false n w in let z : ◌≡◌ {A = ℕ} 0 1 = cc in omega arith)
    from (unnamed u n) h = absurd (let z : ◌≡◌ {A = ℕ} 0 1 = cc in omega arith)

-- 1 is for every other line
pub one_exactly : (l : List ℕ) → (says_of l ≡ NoEvent Shape) ↔ ((i : Item) (e : Event) → Names l i e → ⊥)
one_exactly l = (from (named_or_not l), to (named_or_not l))
  where
    from : Named l → says_of l ≡ NoEvent Shape → (i : Item) (e : Event) → Names l i e → ⊥
    from (named i e true n w) h = absurd (let q = names_says l i e true n w in let z : ◌≡◌ {A = ℕ} 0 1 = cc in omega arith)
    from (named i e false n w) h = absurd (let q = names_says l i e false n w in let z : ◌≡◌ {A = ℕ} 0 1 = cc in omega arith)
    from (unnamed u n) h = n

    to : Named l → ((i : Item) (e : Event) → Names l i e → ⊥) → says_of l ≡ NoEvent Shape
    to (named i e ok n w) h = absurd (h i e n)
    to (unnamed u n) h = u

-- EVERY LINE THAT SAYS NO EVENT IS REFUSED 1 OR 2

abbrev pub OneOrTwo : LineSays → Type 0
OneOrTwo (AnEvent e) = Unit {0}
OneOrTwo (NoEvent r) = (r ≡ Shape) ⊎ (r ≡ Number)

event_one_or_two : (ok : Bool) (o : Option Event) → OneOrTwo (event_says ok o)
event_one_or_two ok None = inl refl
event_one_or_two true (Some e) = tt
event_one_or_two false (Some e) = inr refl

item_one_or_two : (o : Option Item) → OneOrTwo (item_says o)
item_one_or_two None = inl refl
item_one_or_two (Some i) = event_one_or_two (written (shape i.kind) i.nums) (event_of i.kind i.nums)

end_one_or_two : (l : List ℕ) → Each OneOrTwo (says_at_end l)
end_one_or_two [] = tt
end_one_or_two (x ∷ l) = (inl refl, tt)

pub says_one_or_two : (ls : List (List ℕ)) → Each OneOrTwo (said_in ls)
unfolding said_in says_of
says_one_or_two [] = tt
says_one_or_two (l ∷ []) = end_one_or_two l
says_one_or_two (l ∷ m ∷ ls) = (item_one_or_two (item_of l), says_one_or_two (m ∷ ls))

-- ONE ANSWER A LINE

pub answers_long : (F : Facts) (b : Board) (es : List Event) → length (answers F b es) ≡ length es
unfolding answers_by
answers_long F b [] = refl
answers_long F b (e ∷ es) = ap suc (answers_long F (step F b e).board es)

-- each line says one thing; so does what follows the last LF, where it is not nothing
pub said_long : (ls : List (List ℕ)) → length (said_in ls) ≡ (length ls - 1) + min 1 (length (last [] ls))
unfolding said_in
said_long [] = refl
said_long ([] ∷ []) = refl
said_long ((x ∷ l) ∷ []) = omega arith
said_long (l ∷ m ∷ ls) = let h = said_long (m ∷ ls) in omega arith

module _ (P : List LineSays → List BoardAnswer → Type 0) (nil : P [] [])
    (event : (e : Event) (xs : List LineSays) (a : BoardAnswer) (ys : List BoardAnswer) → P xs ys → P (AnEvent e ∷ xs) (a ∷ ys))
    (none_said : (r : Refusal) (xs : List LineSays) (ys : List BoardAnswer) → P xs ys → P (NoEvent r ∷ xs) ys) where
  -- down lines and as many answers as they say events
  along : (xs : List LineSays) (ys : List BoardAnswer) → length ys ≡ length (events_in xs) → P xs ys
  unfolding events_in
  along [] [] h = nil
  along [] (a ∷ ys) h = absurd (omega arith)
  along (AnEvent e ∷ xs) [] h = absurd (omega arith)
  along (AnEvent e ∷ xs) (a ∷ ys) h = event e xs a ys (along xs ys (omega arith))
  along (NoEvent r ∷ xs) ys h = none_said r xs ys (along xs ys h)

-- one answer for each, nothing dropped
pub one_a_line : (xs : List LineSays) (ys : List BoardAnswer) → length ys ≡ length (events_in xs) → length (answers_in xs ys) ≡ length xs
unfolding answers_in
one_a_line = along (λ xs ys. length (answers_in xs ys) ≡ length xs) refl (λ e xs a ys h. ap suc h) (λ r xs ys h. ap suc h)

-- the events' answers are read back
pub answers_read_back : (xs : List LineSays) (ys : List BoardAnswer) → length ys ≡ length (events_in xs) → answers_to xs (answers_in xs ys) ≡ ys
unfolding answers_in answers_to
answers_read_back = along (λ xs ys. answers_to xs (answers_in xs ys) ≡ ys) refl (λ e xs a ys h. ap (λ ys. a ∷ ys) h) (λ r xs ys h. h)

-- LINE AFTER LINE

pub lines_answer : (F : Facts) (b : Board) (ls : List (List ℕ)) → line_answers F b ls ≡ answers_in (said_in ls) (answers F b (events_in (said_in ls)))
unfolding line_answers said_in events_in answers_in answers_by
lines_answer F b [] = refl
lines_answer F b (l ∷ []) = at_end_law l
  where
    at_end_law : (l : List ℕ) → line_answers F b (l ∷ []) ≡ answers_in (says_at_end l) (answers F b (events_in (says_at_end l)))
    at_end_law [] = refl
    at_end_law (x ∷ l) = refl
lines_answer F b (l ∷ m ∷ ls) =
    ap (λ (o : Outcome). o.answer ∷ line_answers F o.board (m ∷ ls)) (line_says F b l)
    ∙ ap (λ ys. (on_says F b (says_of l)).answer ∷ ys) (lines_answer F (on_says F b (says_of l)).board (m ∷ ls)) ∙ turn (says_of l) (said_in (m ∷ ls))
  where
    turn : (x : LineSays) (xs : List LineSays) →
        (on_says F b x).answer ∷ answers_in xs (answers F (on_says F b x).board (events_in xs)) ≡ answers_in (x ∷ xs) (answers F b (events_in (x ∷ xs)))
    turn (AnEvent e) xs = refl
    turn (NoEvent r) xs = refl

-- as many answers as lines
answers_in_long : (F : Facts) (b : Board) (ls : List (List ℕ)) →
    length (answers_in (said_in ls) (answers F b (events_in (said_in ls)))) ≡ (length ls - 1) + min 1 (length (last [] ls))
answers_in_long F b ls = one_a_line (said_in ls) _ (answers_long F b (events_in (said_in ls))) ∙ said_long ls

pub lines_long : (F : Facts) (b : Board) (ls : List (List ℕ)) → length (line_answers F b ls) ≡ (length ls - 1) + min 1 (length (last [] ls))
lines_long F b ls = ap length (lines_answer F b ls) ∙ answers_in_long F b ls

-- THE TEXT

-- as many answers as LFs, and one more where something follows the last LF
pub printed_long : (F : Facts) (es : List ℕ) → length (printed F es) ≡ count lf es + min 1 (length (last [] (pieces lf es)))
printed_long F es = let h = answers_in_long F (fresh F) (pieces lf es) in let k = pieces_length lf es in omega arith

pub text_answers : (s es : List ℕ) (p : Plan) → length s ≤ max_input → length es ≤ max_input → reading s ≡ Accepts p →
    board_text s es ≡ answers_text (printed (facts_of (system p)) es)
unfolding board_text
text_answers s es p h k e =
    let F = facts_of (system p) in
    rw (le-ltb max_input (length s) h, le-ltb max_input (length es) k, board_text) (ap (λ r. events_text r es) e ∙ ap answers_text (lines_answer F (fresh F) (pieces lf es)))
