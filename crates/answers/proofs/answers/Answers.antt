-- `answers` meets its contract.
use mathlib.Core.Path.{◌∙◌}
use native.Mathlib.Omega.{arith}
use Rattle.answers.proofs.answers.Goals as goal

pub fill_vcpus-requires : goal.fill_vcpus-requires
fill_vcpus-requires c = let p = c.requires in (p.stored.tasks, p.stored.vcpus, p.in_bounds.0, p.in_bounds.3)

pub fill_waits-requires : goal.fill_waits-requires
fill_waits-requires c = let p = c.requires in (p.stored.responses, p.stored.room, omega (arith, c.fill_vcpus.auto.rows, p.in_bounds.0), p.in_bounds.4)

pub fill_sums-requires : goal.fill_sums-requires
fill_sums-requires c = let p = c.requires in (c.fill_waits.ensures.1, p.in_bounds.1)

pub fill_flags-requires : goal.fill_flags-requires
fill_flags-requires c = let p = c.requires in (c.fill_waits.ensures.1, p.in_bounds.2)

pub fill_tasks-requires : goal.fill_tasks-requires
fill_tasks-requires c = let p = c.requires in (
  p.stored.tasks,
  p.stored.blockings,
  record {
    waits_room = omega (arith, c.fill_sums.auto.ws, p.in_bounds.1);
    flags_room = omega (arith, c.fill_flags.auto.fs, p.in_bounds.2);
    waits = c.fill_sums.ensures;
    flags = c.fill_flags.ensures;
  },
  omega (arith, c.fill_waits.auto.rows, c.fill_vcpus.auto.rows, p.in_bounds.0),
  p.in_bounds.5,
)

pub shape_of-rows : goal.shape_of-rows
shape_of-rows c = c.fill_tasks.auto.rows ∙ c.fill_waits.auto.rows ∙ c.fill_vcpus.auto.rows

pub shape_of-ws : goal.shape_of-ws
shape_of-ws c = c.fill_sums.auto.ws

pub shape_of-fs : goal.shape_of-fs
shape_of-fs c = c.fill_flags.auto.fs

pub shape_of-va : goal.shape_of-va
shape_of-va c = c.fill_vcpus.auto.va

pub shape_of-wa : goal.shape_of-wa
shape_of-wa c = c.fill_waits.auto.wa

pub shape_of-ta : goal.shape_of-ta
shape_of-ta c = c.fill_tasks.auto.ta

pub returns : goal.returns
returns c = (c.fill_vcpus.ensures, c.fill_waits.ensures.0, c.fill_tasks.ensures)
