-- `vcpu_time` meets its contract: 9 first.
use Rattle.std.specs.Prelude.{Err}
use Rattle.figures_slices.specs.FitLaws.{given_fit, foreign_asked, given_asked}
use Rattle.answers_tasks.specs.Asked.{vcpu_asked, vcpu_row_of}
use Rattle.plan.specs.declared.Refusal.TheVariants.{Foreign}
use mathlib.Core.Path.{◌∙◌, sym}
use Rattle.answers_rows.proofs.vcpu_time.Goals as goal

pub returns-then-not-is_given : goal.returns-then-not-is_given
unfolding vcpu_asked
returns-then-not-is_given c = foreign_asked _ _ (λ s. vcpu_row_of s c.args.v) (Err Foreign) c.is_given.ensures c.if-not-is_given.true

pub invariant_of-t : goal.invariant_of-t
unfolding vcpu_asked
invariant_of-t c = record { fit = given_fit _ _ (sym c.is_given.ensures ∙ c.if-not-is_given.false) }

pub returns : goal.returns
unfolding vcpu_asked
returns c = given_asked _ _ (λ s. vcpu_row_of s c.args.v) (Err Foreign) c.is_given.ensures c.if-not-is_given.false c.vcpu_in.ensures
