-- `text_scan::read_line` meets its contract.
use Rattle.text_scan.specs.Scan.{step_at}
use Rattle.text_scan.proofs.read_line.Goals as goal

pub returns : goal.returns
unfolding step_at
returns c = cc
