-- `write_rows::row` meets its contract.
use Rattle.text_told.proofs.ToldLaws.{space_as, told_as}
use Rattle.write_rows.specs.RowTexts.{vcpu_row_law, mutex_row_law, open_row_law}
use Rattle.write_rows.proofs.row.Goals as goal

pub line_five-requires : goal.line_five-requires
line_five-requires c =
    space_as (vcpu_row_law c.args.t.now c.args.i c.in-Vcpus.is c.cell-v.ensures c.cell-guest.ensures c.cell-core.ensures c.cell-budget.ensures c.cell-period.ensures) c.requires.1

pub mutex_line-requires : goal.mutex_line-requires
mutex_line-requires c =
    space_as (mutex_row_law c.args.t.now c.args.i c.in-Mutexes.is c.cell-m.ensures c.cell-owner.ensures) c.requires.1

pub line_two-requires : goal.line_two-requires
line_two-requires c =
    space_as (open_row_law c.args.t.now c.args.i c.in-Opens.is c.cell-m-in-Opens.ensures c.cell-guest-in-Opens.ensures) c.requires.1

pub returns-in-Vcpus : goal.returns-in-Vcpus
returns-in-Vcpus c =
    told_as (vcpu_row_law c.args.t.now c.args.i c.in-Vcpus.is c.cell-v.ensures c.cell-guest.ensures c.cell-core.ensures c.cell-budget.ensures c.cell-period.ensures) c.line_five.ensures

pub returns-in-Mutexes : goal.returns-in-Mutexes
returns-in-Mutexes c =
    told_as (mutex_row_law c.args.t.now c.args.i c.in-Mutexes.is c.cell-m.ensures c.cell-owner.ensures) c.mutex_line.ensures

pub returns-in-Opens : goal.returns-in-Opens
returns-in-Opens c =
    told_as (open_row_law c.args.t.now c.args.i c.in-Opens.is c.cell-m-in-Opens.ensures c.cell-guest-in-Opens.ensures) c.line_two.ensures
