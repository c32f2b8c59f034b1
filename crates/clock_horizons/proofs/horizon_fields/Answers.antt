-- `clock_horizons::horizon_fields` meets its contract.
use mathlib.Core.Path.{sym, ◌∙◌}
use Rattle.clock_horizons.specs.HorizonLaws.{horizon_said, horizon_other}
use Rattle.clock_horizons.proofs.horizon_fields.Goals as goal

pub returns-then-says : goal.returns-then-says
returns-then-says c =
    let a = c.args in
    c.horizon_of.ensures ∙ sym (horizon_said a.w.now a.f.now (sym c.if-says.true ∙ c.says.ensures) c.number.ensures)

pub returns : goal.returns
returns c =
    let a = c.args in
    sym (horizon_other a.w.now a.f.now (sym c.if-says.false ∙ c.says.ensures))
