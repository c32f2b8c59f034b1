-- `releases` meets its contract: the due tasks of the first i VCPUs are released.
use Prim.Native.Nat.{◌*◌, ◌≤◌}
use Rattle.clock_releases.specs.Opens.{Releases}
use Rattle.clock_releases.proofs.releases.Given as goal

abbrev pub invariant-loop-i : goal.invariant-loop-i
invariant-loop-i l = Releases l.times l.initial.marks l.nexts l.t 0 (l.i * 8) l.marks × (l.i ≤ 16)
