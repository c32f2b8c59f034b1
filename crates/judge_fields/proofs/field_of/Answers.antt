use Rattle.plan.specs.Fields.{field_of}
use Rattle.judge_fields.proofs.Laws.{missing_told, by_refusal}
use Rattle.judge_fields.proofs.field_of.Goals as goal

pub returns-in-Missing : goal.returns-in-Missing
unfolding field_of
returns-in-Missing c =
    let a = c.args in
    by_refusal (field_of _ _ _) c.in-Missing.is
    (missing_told a.t a.kind a.a a.b a.c a.d a.e c.is_global.ensures c.missing_of.ensures)
