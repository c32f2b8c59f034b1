-- `run_exported` meets its contract.
use mathlib.Core.Path.{sym, ap, ◌∙◌}
use Rattle.exports_codes.specs.Exported.{run_exported, negated_fits, read_back}
use Rattle.exports_codes.proofs.run_exported.Goals as goal

pub returns-in-Ended : goal.returns-in-Ended
unfolding run_exported
returns-in-Ended c = ap run_exported (sym c.in-Ended.is)

pub returns-in-Missed : goal.returns-in-Missed
unfolding run_exported
returns-in-Missed c = ap run_exported (sym c.in-Missed.is)

pub returns-in-NoRun : goal.returns-in-NoRun
unfolding run_exported
returns-in-NoRun c = read_back (negated_fits _) c.negated.ensures ∙ ap run_exported (sym c.in-NoRun.is)
