-- `wait_time` meets its contract: 9 first.
use Rattle.std.specs.Prelude.{Err}
use Rattle.figures_slices.specs.FitLaws.{given_fit, foreign_asked, given_asked}
use Rattle.answers_tasks.specs.Asked.{wait_asked, wait_row_of}
use Rattle.plan.specs.declared.Refusal.TheVariants.{Foreign}
use mathlib.Core.Path.{◌∙◌, sym}
use Rattle.answers_rows.proofs.wait_time.Goals as goal

pub returns-then-not-is_given : goal.returns-then-not-is_given
unfolding wait_asked
returns-then-not-is_given c = foreign_asked _ _ (λ s. wait_row_of s c.args.v c.args.n c.args.i) (Err Foreign) c.is_given.ensures c.if-not-is_given.true

pub invariant_of-t : goal.invariant_of-t
unfolding wait_asked
invariant_of-t c = record { fit = given_fit _ _ (sym c.is_given.ensures ∙ c.if-not-is_given.false) }

pub returns : goal.returns
unfolding wait_asked
returns c = given_asked _ _ (λ s. wait_row_of s c.args.v c.args.n c.args.i) (Err Foreign) c.is_given.ensures c.if-not-is_given.false c.wait_in.ensures
