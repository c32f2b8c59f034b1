-- `renew_set` meets its contract: those no longer in the rest are renewed, and r is the least of them.
use Rattle.clock_renews.specs.SetLaws.{Renewing}
use Rattle.clock_renews.proofs.renew_set.Given as goal

abbrev pub invariant-loop-rest : goal.invariant-loop-rest
invariant-loop-rest l = Renewing l.times l.initial.nexts l.t l.rest l.nexts l.r

abbrev pub decreases-loop-rest : goal.decreases-loop-rest
decreases-loop-rest l = l.rest
