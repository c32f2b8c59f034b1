-- `text_scan::rest` meets its contract.
use mathlib.Core.Path.{sym}
use lib.ListN.{drop_of_length-le}
use Rattle.laws.specs.Steps.{take_rest}
use Rattle.text_scan.proofs.rest.Goals as goal

pub returns-then-at-src : goal.returns-then-at-src
returns-then-at-src c = let a = c.args in take_rest a.at a.src.now

pub returns-else-at-src : goal.returns-else-at-src
returns-else-at-src c = let a = c.args in sym (drop_of_length-le a.src.now {i = a.at} c.if-at-src.false)
