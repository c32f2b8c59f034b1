use Rattle.laws.specs.Rows.{Lacking}
use Rattle.plan_tables.specs.Layout.{vcpu_row}
use Rattle.given_tidy.specs.GuestLaws.{named}
use Rattle.given_tidy.proofs.guest_in.Given as goal

abbrev pub invariant-loop-i : goal.invariant-loop-i
invariant-loop-i l = Lacking (named l.v) (vcpu_row l.t) l.n l.i
