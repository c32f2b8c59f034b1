-- `text_told::tell_number` meets its contract.
use borrow.Author.Rules.{rules}
use native.Mathlib.Omega.{arith}
use Rattle.laws.specs.Decimal.{decimal}
use Rattle.text_letters.specs.Tabbed.{tabbed}
use Rattle.text_told.proofs.ToldLaws.{within, fits_left, told_written, told_counted}
use Rattle.text_told.proofs.tell_number.Goals as goal

pub slice_bounds-tab_number-count : goal.slice_bounds-tab_number-count
slice_bounds-tab_number-count c = let h = within (tabbed (decimal c.args.x)) c.args.out.now c.args.n c.requires c.if-on.true in search rules

pub slice_bounds-tab_number-start : goal.slice_bounds-tab_number-start
slice_bounds-tab_number-start c = let h = within (tabbed (decimal c.args.x)) c.args.out.now c.args.n c.requires c.if-on.true in search rules

pub tab_number-requires : goal.tab_number-requires
tab_number-requires c = fits_left (tabbed (decimal c.args.x)) c.args.out.now c.args.n c.requires c.if-on.true

pub returns-then-on : goal.returns-then-on
returns-then-on c =
    told_written (tabbed (decimal c.args.x)) c.args.out.now c.args.n c.requires c.if-on.true c.tab_number.ensures

pub returns : goal.returns
returns c =
    told_counted (tabbed (decimal c.args.x)) c.args.out.now c.args.n c.requires c.if-on.false (omega (arith, c.number_size.ensures.is))
