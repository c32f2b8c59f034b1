use native.Mathlib.Omega.{arith}
use mathlib.Core.Path.{sym, ◌∙◌}
use Rattle.plan.specs.Limits.{max_m, max_guest}
use Rattle.judge_coded.specs.TableLaws.{ranged_in, slot_in, slot_out}
use Rattle.judge_coded.proofs.slot.Goals as goal

pub overflow_sub-result : goal.overflow_sub-result
overflow_sub-result c = omega (arith, ranged_in c.args.m max_m c.args.guest max_guest (sym c.ranged.ensures ∙ c.if-ranged.true))

pub overflow_mul-result : goal.overflow_mul-result
overflow_mul-result c = omega (arith, ranged_in c.args.m max_m c.args.guest max_guest (sym c.ranged.ensures ∙ c.if-ranged.true))

pub overflow_sub-result-then-ranged : goal.overflow_sub-result-then-ranged
overflow_sub-result-then-ranged c = omega (arith, ranged_in c.args.m max_m c.args.guest max_guest (sym c.ranged.ensures ∙ c.if-ranged.true))

pub overflow_add-result : goal.overflow_add-result
overflow_add-result c = omega (arith, ranged_in c.args.m max_m c.args.guest max_guest (sym c.ranged.ensures ∙ c.if-ranged.true))

pub returns-then-ranged : goal.returns-then-ranged
returns-then-ranged c = sym (slot_in c.args.m c.args.guest (sym c.ranged.ensures ∙ c.if-ranged.true))

pub returns-else-ranged : goal.returns-else-ranged
returns-else-ranged c = sym (slot_out c.args.m c.args.guest (sym c.ranged.ensures ∙ c.if-ranged.false))
