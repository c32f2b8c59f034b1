-- What `board` prints for any text of events: the same with the test for 9 at each event (`printed_tested`), and its ledger adds up.
use Rattle.std.specs.Prelude.{ℕ, ◌+◌, ◌≡◌, true, List, [], ◌∷◌, ◌⊎◌}
use Rattle.std.proofs.Common.{ap, ⊎_elim, arith}
use Rattle.laws.specs.Sums.{Each}
use Rattle.plan.specs.declared.Refusal.{Refusal}
use Rattle.plan.specs.declared.Refusal.TheVariants.{Shape, Number}
use Rattle.plan.specs.Plan.{Plan}
use Rattle.plan.specs.Valid.{Valid}
use Rattle.figures.specs.System.{system}
use Rattle.board_rules.specs.Facts.{Facts, facts_of}
use Rattle.board_rules.specs.declared.BoardAnswer.{BoardAnswer}
use Rattle.board_rules.specs.declared.BoardAnswer.TheVariants.{Refused}
use Rattle.board_rules.specs.Board.{left_of, over_of, fresh}
use Rattle.board_events.specs.Events.{answers, board_after}
use Rattle.board_events.specs.Printed.{LineSays, AnEvent, NoEvent, said_by, events_in, answers_in, answers_to, printed}
use Rattle.board_events.proofs.PrintedLaws.{OneOrTwo, says_one_or_two, answers_long, answers_read_back}
use Rattle.board_keeps.specs.FairLaws.{fair}
use Rattle.board_keeps.proofs.NotNine.{NotNine, answers_not_nine}
use Rattle.board_keeps.proofs.Tested.{answers_on, fresh_answers_on}
use Rattle.board_keeps.specs.Ledger.{ledger}
use Rattle.board_keeps.proofs.LedgerLaws.{ledger_balance}

-- NEVER 9

one_two_not_nine : (r : Refusal) → (r ≡ Shape) ⊎ (r ≡ Number) → NotNine (Refused r)
one_two_not_nine r = ⊎_elim (λ h e. let z : ◌≡◌ {A = ℕ} 0 1 = cc in omega arith) (λ h e. let z : ◌≡◌ {A = ℕ} 0 1 = cc in omega arith)

in_not_nine : (xs : List LineSays) (ys : List BoardAnswer) → Each OneOrTwo xs → Each NotNine ys → Each NotNine (answers_in xs ys)
unfolding answers_in
in_not_nine [] ys h k = tt
in_not_nine (AnEvent e ∷ xs) [] h k = tt
in_not_nine (AnEvent e ∷ xs) (a ∷ ys) h k = (k.0, in_not_nine xs ys h.1 k.1)
in_not_nine (NoEvent r ∷ xs) ys h k = (one_two_not_nine r h.0, in_not_nine xs ys h.1 k)

-- no line printed is `refused 9`, whatever the facts and the text, since `step` gives no 9; that the test for 9 gives none either is `printed_tested`
pub printed_never_nine : (F : Facts) (es : List ℕ) → Each NotNine (printed F es)
printed_never_nine F es =
    in_not_nine (said_by es) (answers F (fresh F) (events_in (said_by es))) (says_one_or_two _) (answers_not_nine F (fresh F) (events_in (said_by es)))

module _ (p : Plan) (h : Valid p) (es : List ℕ) where
  -- "Calls on .. a board test 9 first": with the test at each event the same is printed, and so no 9
  pub printed_tested : answers_in (said_by es) (answers_on (facts_of (system p)) (fresh (facts_of (system p))) (events_in (said_by es))) ≡ printed (facts_of (system p)) es
  printed_tested = ap (answers_in (said_by es)) (fresh_answers_on (fair p h) (events_in (said_by es)))

  -- "the ticks accepted for a VCPU since its last `top` (or the start), added up from the events, equal budget + O − b − o": from the lines' events and
  -- the answers printed in their places
  pub printed_ledger : (v : ℕ) → (facts_of (system p)).has_vcpu v ≡ true →
      ledger v 0 (events_in (said_by es)) (answers_to (said_by es) (printed (facts_of (system p)) es))
      + left_of (board_after (facts_of (system p)) (fresh (facts_of (system p))) (events_in (said_by es))) v
      + over_of (board_after (facts_of (system p)) (fresh (facts_of (system p))) (events_in (said_by es))) v
      ≡ (facts_of (system p)).budget v + (facts_of (system p)).overrun v
  printed_ledger v k =
      let F = facts_of (system p) in
      let xs = said_by es in
      rw (answers_read_back xs (answers F (fresh F) (events_in xs)) (answers_long F (fresh F) (events_in xs))) (ledger_balance (fair p h) v k (events_in xs))
