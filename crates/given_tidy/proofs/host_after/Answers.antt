use mathlib.Core.Path.{ap, ◌∙◌}
use Rattle.laws.specs.Rows.{rows}
use Rattle.plan_tables.specs.Layout.{vcpu_row}
use Rattle.plan_tables.specs.Given.{guest_for}
use Rattle.given_tidy.specs.Hosts.{host_of}
use Rattle.given_tidy.specs.GuestLaws.{host_kept}
use Rattle.given_tidy.proofs.host_after.Goals as goal

pub returns-then-i-v : goal.returns-then-i-v
returns-then-i-v c =
    host_kept (rows c.args.n (vcpu_row c.args.vt.now)) c.args.t.now c.args.i c.prior.ensures
    c.cell-v.ensures c.cell-before.ensures c.requires.2 c.if-i-v.true

pub returns-else-i-v : goal.returns-else-i-v
unfolding host_of
returns-else-i-v c =
    let a = c.args in
    c.guest_in.ensures ∙ ap (guest_for (rows a.n (vcpu_row a.vt.now))) c.cell-v.ensures
