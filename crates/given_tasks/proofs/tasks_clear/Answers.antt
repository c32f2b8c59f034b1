use Prim.Native.Nat.{ℕ}
use mathlib.Core.Path.{◌≡◌, refl}
use mathlib.Core.Bool.{Bool}
use mathlib.Core.List.{List}
use borrow.Author.Rules.{rules}
use Rattle.laws.specs.Rows.{rows}
use Rattle.laws.specs.RowLaws.{passed_none, passed_more, passed_out, passed_all}
use Rattle.plan.specs.Plan.{Vcpu}
use Rattle.plan_tables.specs.Layout.{vcpu_row}
use Rattle.given_tidy.specs.Hosts.{host_of, begins, last_at}
use Rattle.given_tidy.specs.TestLaws.{few_locks}
use Rattle.given_tidy.specs.GuestLaws.{begins_after, last_next}
use Rattle.given_tasks.specs.Clear.{task_clear, task_at, tasks_clear}
use mathlib.Core.Bool.{not}
use mathlib.Core.Path.{ap}
use Rattle.given_tasks.proofs.tasks_clear.Goals as goal

told :
    (gs hs os ps t : List ℕ) (vs : List Vcpu) (i : ℕ) {f g : ℕ} {on r : Bool} →
    f ≡ last_at vs t i → g ≡ host_of vs t i → on ≡ begins vs t i → r ≡ task_clear gs hs os ps t on f g i → r ≡ task_at gs hs os ps t vs i
told gs hs os ps t vs i d e h k = rw (k, h, e, d)

pub loop-i-init : goal.loop-i-init
loop-i-init c = (passed_none, refl)

pub host_after-guest-requires : goal.host_after-guest-requires
host_after-guest-requires c = (search rules, search rules, c.loop-i.invariant.1)

pub task_clear-one-requires : goal.task_clear-one-requires
task_clear-one-requires c =
    let i = c.loop-i.i in
    (search rules, few_locks c.args.t.now c.args.m c.requires.2 i c.loop-i-test.true)

pub returns-then-not-one : goal.returns-then-not-one
unfolding tasks_clear
returns-then-not-one c =
    let a = c.args in
    let vs = rows a.n (vcpu_row a.vt.now) in
    let l = c.loop-i in
    let h = c.host_after-guest.ensures in
    passed_out l.invariant.0 c.loop-i-test.true
    (told a.guests.now a.hosted.now a.owners.now a.opens.now a.t.now vs l.i l.invariant.1 h
    (begins_after vs a.t.now l.i l.invariant.1 h c.begins_after-on.ensures) c.task_clear-one.ensures)
    (ap not c.if-not-one.true)

pub loop-i-preserved : goal.loop-i-preserved
loop-i-preserved c =
    let a = c.args in
    let vs = rows a.n (vcpu_row a.vt.now) in
    let l = c.loop-i in
    let h = c.host_after-guest.ensures in (
      passed_more l.invariant.0 c.loop-i-test.true
          (told a.guests.now a.hosted.now a.owners.now a.opens.now a.t.now vs l.i l.invariant.1 h
          (begins_after vs a.t.now l.i l.invariant.1 h c.begins_after-on.ensures) c.task_clear-one.ensures)
          (ap not c.if-not-one.false),
      last_next vs a.t.now l.i h,
    )

pub returns : goal.returns
unfolding tasks_clear
returns c = passed_all c.loop-i.invariant.0 c.loop-i-test.false
