-- `answers_fit` meets its contract.
use mathlib.Core.Path.{sym, ap, ap₂, refl}
use mathlib.Core.Bool.{false≢true}
use native.Mathlib.Nat.{le_trans}
use borrow.Author.Tests.{le-leb}
use lib.Dec.{leb}
use lib.ListN.{length}
use Rattle.log_answers.specs.TellLaws.{counted_same}
use Rattle.log_text.proofs.answers_fit.Goals as goal

pub returns-then-src-out : goal.returns-then-src-out
returns-then-src-out c = record { room_for = record { is = sym (le-leb _ _ (le_trans c.requires.1 c.if-src-out.true)) }; out_unchanged = refl }

pub answers-requires : goal.answers-requires
answers-requires c = let a = c.requires in (a.0, λ e. absurd (false≢true e), a.2)

pub returns : goal.returns
returns c =
    let a = c.answers.ensures in
    let e = counted_same _ a.out_after in record { room_for = record { is = ap₂ leb a.value (ap length e) }; out_unchanged = e }
