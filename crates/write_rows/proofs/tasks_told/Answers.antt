-- `write_rows::tasks_told` meets its contract.
use Prim.Native.Nat.{◌-◌}
use mathlib.Core.Path.{refl}
use borrow.Author.Rules.{rules}
use Rattle.laws.specs.Rows.{rows}
use Rattle.plan_tables.specs.Layout.{vcpu_row}
use Rattle.given_tidy.specs.GuestLaws.{begins_after, last_next}
use Rattle.given_tidy.specs.TestLaws.{few_locks}
use Rattle.text_told.proofs.ToldLaws.{space_as, told_as}
use Rattle.write_rows.specs.RowTexts.{task_told_law, told_no_rows, space_row, told_row, rows_length, told_rows}
use Rattle.write_rows.proofs.tasks_told.Goals as goal

pub loop-i-init : goal.loop-i-init
loop-i-init c = (told_no_rows, refl)

pub host_after-guest-requires : goal.host_after-guest-requires
host_after-guest-requires c = (search rules, search rules, c.loop-i.invariant.1)

pub task-k-requires : goal.task-k-requires
task-k-requires c =
    let a = c.args in
    let vs = rows a.c (vcpu_row a.vt.now) in
    let l = c.loop-i in
    let g = c.host_after-guest.ensures in
    let i = l.i in
    let h = c.loop-i-test.true in (
      search rules,
      few_locks a.t.now a.m c.requires.2 i h,
      space_as (task_told_law vs a.t.now i (begins_after vs a.t.now i l.invariant.1 g c.begins_after-first.ensures) g) (space_row l.invariant.0 h c.requires.3),
    )

pub loop-i-preserved : goal.loop-i-preserved
loop-i-preserved c =
    let a = c.args in
    let vs = rows a.c (vcpu_row a.vt.now) in
    let l = c.loop-i in
    let g = c.host_after-guest.ensures in
    let i = l.i in (
      told_row l.invariant.0 c.loop-i-test.true c.requires.3
          (told_as (task_told_law vs a.t.now i (begins_after vs a.t.now i l.invariant.1 g c.begins_after-first.ensures) g) c.task-k.ensures),
      last_next vs a.t.now i g,
    )

pub shape_of-out : goal.shape_of-out
shape_of-out c = rows_length c.loop-i.invariant.0 c.requires.3

pub returns : goal.returns
returns c = told_rows c.loop-i.invariant.0 c.loop-i-test.false
