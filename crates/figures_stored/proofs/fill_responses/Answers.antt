-- `fill_responses` meets its contract: the responses before this one are stored.
use Rattle.figures_slices.specs.StoredLaws.{values_all, values_more, values_none}
use lib.ListN.{length-set}
use mathlib.Core.Path.{refl}
use native.Mathlib.Omega.{arith}
use Rattle.figures_stored.proofs.fill_responses.Goals as goal

pub loop-k-init : goal.loop-k-init
loop-k-init c = (refl, values_none)

pub section_response-x-requires : goal.section_response-x-requires
section_response-x-requires c = let h = c.requires in (h.0, h.1, h.2, omega (arith, c.loop-k-test.true), omega arith)

pub bounds-rf-k : goal.bounds-rf-k
bounds-rf-k c = let h = c.requires in omega (arith, c.loop-k.invariant.0, h.3, c.loop-k-test.true)

pub loop-k-preserved : goal.loop-k-preserved
loop-k-preserved c = let h = c.loop-k.invariant in let p = c.requires in (
  simp length-set h.0,
  values_more _ h.1 (λ j m. omega arith) (omega (arith, h.0, p.3, c.loop-k-test.true)) c.section_response-x.ensures,
)

pub returns : goal.returns
returns c = values_all c.loop-k.invariant.1 c.loop-k-test.false
