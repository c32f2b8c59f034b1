-- Whether events hand a mutex on: only a `free` does.
use Rattle.std.specs.Prelude.{ℕ, zero, suc, ◌≡◌, Bool, ◌&&◌, ◌||◌, Ok, Err}
use Rattle.std.proofs.Math.Path.{refl, ap, sym}
use Rattle.std.proofs.Common.{◌∙◌, eq-eqb, ne_eqb}
use mathlib.Core.List.{List, [], ◌∷◌, ◌++◌}
use Rattle.std.proofs.Math.Bool.{true, false, or-false}
use Rattle.std.proofs.lemmas.Bool.{false≢true}
use Rattle.std.specs.Prelude.{if◌then◌else◌}
use Rattle.laws.specs.Range.{flat_to}
use Rattle.laws.specs.BoolLaws.{both, both_left, both_right}
use Rattle.plan.specs.Limits.{max_v}
use Rattle.plan.specs.Refusals.{Fault}
use Rattle.board_rules.specs.Facts.{Facts}
use Rattle.board_rules.specs.declared.Board.{Board}
use Rattle.board_rules.specs.declared.Event.{Event}
use Rattle.board_rules.specs.declared.Event.TheVariants.{Ask, Free, Use, Top, Show}
use Rattle.board_rules.specs.declared.Next.{Next}
use Rattle.board_rules.specs.declared.Next.TheVariants.{Nobody, To}
use Rattle.board_rules.specs.declared.BoardAnswer.{BoardAnswer}
use Rattle.board_rules.specs.declared.BoardAnswer.TheVariants.{Granted, Waits, Freed, Left, Shows, Refused}
use Rattle.board_rules.specs.declared.Outcome.{Outcome}
use Rattle.board_rules.specs.Board.{seat, with_holder, with_wait, may_have, asked, used, topped, shown, complete, answered, ask_fault, use_fault, top_fault, show_fault, step}
use Rattle.board_events.specs.Events.{answers_by, answers, board_by, board_after}
use Rattle.clock_rules.specs.Clock.{Timing, Asks, idles, idle_uses, free_of}
use Rattle.clock_steps.specs.Asking.{Asking, spent, none_picked, none_due, has_asked, has_waited}
use Rattle.clock_steps.specs.Hands.{hands_on, any_hands_on}
use Rattle.clock_hands.specs.Freed.{next_in}

-- BY WHO IS NEXT
abbrev pub goes_on : Next → Bool
goes_on Nobody = false
goes_on (To v n) = true

-- as the answer says it
hands_next : (a : BoardAnswer) → goes_on (next_in a) ≡ hands_on a
hands_next Granted = refl
hands_next Waits = refl
hands_next (Freed Nobody) = refl
hands_next (Freed (To v n)) = refl
hands_next (Left b o) = refl
hands_next (Shows t v) = refl
hands_next (Refused r) = refl

-- EVENTS other than a `free`
abbrev not_free : Event → Bool
not_free (Ask v n m) = true
not_free (Free v n m) = false
not_free (Use v t) = true
not_free (Top v) = true
not_free (Show v n) = true

-- all of them
abbrev pub no_frees : List Event → Bool
no_frees [] = true
no_frees (e ∷ es) = not_free e && no_frees es

-- two lists of them
no_frees_append : (xs ys : List Event) → no_frees xs ≡ true → no_frees ys ≡ true → no_frees (xs ++ ys) ≡ true
no_frees_append [] ys h k = k
no_frees_append (e ∷ xs) ys h k = both (not_free e) (no_frees (xs ++ ys)) (both_left (not_free e) (no_frees xs) h) (no_frees_append xs ys (both_right (not_free e) (no_frees xs) h) k)

-- many
no_frees_flat : (n : ℕ) (f : ℕ → List Event) → ((k : ℕ) → no_frees (f k) ≡ true) → no_frees (flat_to n f) ≡ true
unfolding flat_to
no_frees_flat zero f h = refl
no_frees_flat (suc n) f h = no_frees_append (flat_to n f) (f (suc n)) (no_frees_flat n f h) (h (suc n))

-- idle uses
pub idle_no_frees : (T : Timing) (c : ℕ) (b : Board) (d : List ℕ) → no_frees (idle_uses T c b d) ≡ true
unfolding idle_uses
idle_no_frees T c b d = no_frees_flat max_v (λ v. if idles T c b d v then Use v 1 ∷ [] else []) (λ v. at v (idles T c b d v))
  where
    at : (v : ℕ) (t : Bool) → no_frees (if t then Use v 1 ∷ [] else []) ≡ true
    at v true = refl
    at v false = refl

-- the asks of a core's turn
pub asks_no_frees : {T : Timing} {c : ℕ} {d : List ℕ} {k : ℕ} {b : Board} {a : Asks} → Asking T c d k b a → no_frees a.events ≡ true
asks_no_frees spent = refl
asks_no_frees (none_picked h) = refl
asks_no_frees (none_due v n h q z) = refl
asks_no_frees (has_asked v n m h q e nz w) = refl
asks_no_frees (has_waited v n m h q e nz w r) = asks_no_frees r

module _ (F : Facts) where
  -- hand nothing on
  quiet_answer : (b : Board) (e : Event) → not_free e ≡ true → hands_on (step F b e).answer ≡ false
  unfolding step asked used topped
  quiet_answer b (Ask v n m) h = at (ask_fault F b v n m)
    where
      may : (t : Bool) → hands_on (if t then complete F Granted (with_holder b m (seat v n)) else complete F Waits (with_wait b v n m)).answer ≡ false
      may true = refl
      may false = refl

      at : (x : Fault) → hands_on (answered b x (asked F b v n m)).answer ≡ false
      at (Ok tt) = may (may_have F b v n m)
      at (Err r) = refl
  quiet_answer b (Free v n m) h = absurd (false≢true h)
  quiet_answer b (Use v t) h = at (use_fault F b v t)
    where
      at : (x : Fault) → hands_on (answered b x (used F b v t)).answer ≡ false
      at (Ok tt) = refl
      at (Err r) = refl
  quiet_answer b (Top v) h = at (top_fault F v)
    where
      at : (x : Fault) → hands_on (answered b x (topped F b v)).answer ≡ false
      at (Ok tt) = refl
      at (Err r) = refl
  quiet_answer b (Show v n) h = at (show_fault F v n)
    where
      at : (x : Fault) → hands_on (answered b x (shown F b v n)).answer ≡ false
      at (Ok tt) = refl
      at (Err r) = refl

  -- so it hangs on what comes after them
  pub hands_after : (b b' : Board) (xs ys : List Event) → no_frees xs ≡ true → b' ≡ board_after F b xs → any_hands_on (answers F b (xs ++ ys)) ≡ any_hands_on (answers F b' ys)
  unfolding answers_by board_by
  hands_after b b' [] ys h e = ap (λ c. any_hands_on (answers F c ys)) (sym e)
  hands_after b b' (x ∷ xs) ys h e =
      ap (λ (t : Bool). t || any_hands_on (answers F (step F b x).board (xs ++ ys))) (quiet_answer b x (both_left (not_free x) (no_frees xs) h))
      ∙ hands_after (step F b x).board b' xs ys (both_right (not_free x) (no_frees xs) h) e

  -- no event hands nothing on
  pub none_hands : (b : Board) (es : List Event) → es ≡ [] → false ≡ any_hands_on (answers F b es)
  unfolding answers_by
  none_hands b es e = sym (ap (λ l. any_hands_on (answers F b l)) e)

  -- one event does where its answer does
  one_hands : (b : Board) (es : List Event) (e : Event) → es ≡ e ∷ [] → hands_on (step F b e).answer ≡ any_hands_on (answers F b es)
  unfolding answers_by
  one_hands b es e q = sym (ap (λ l. any_hands_on (answers F b l)) q ∙ or-false (hands_on (step F b e).answer))

  -- THE `free` OF m, 0 for nothing to free
  module _ (b : Board) (v n m : ℕ) where
    pub free_none_hands : m ≡ 0 → false ≡ any_hands_on (answers F b (free_of v n m))
    free_none_hands z = none_hands b (free_of v n m) (ap (λ (y : Bool). if y then [] else Free v n m ∷ []) (eq-eqb m 0 z))

    -- y is the answer
    pub free_hands : (m ≡ 0 → ⊥) → {y : BoardAnswer} {b' : Board} → record { answer = y; board = b' } ≡ step F b (Free v n m) → {next : Next} → next ≡ next_in y → {hands : Bool} → hands ≡ goes_on next →
        hands ≡ any_hands_on (answers F b (free_of v n m))
    free_hands nz {y} q d e =
        e ∙ ap goes_on d ∙ hands_next y ∙ ap (λ (r : Outcome). hands_on r.answer) q
        ∙ one_hands b (free_of v n m) (Free v n m) (ap (λ (t : Bool). if t then [] else Free v n m ∷ []) (ne_eqb m 0 nz))
