-- `text_told::tell_last` meets its contract.
use borrow.Author.Rules.{rules}
use mathlib.Core.List.{[], ◌∷◌}
use native.Mathlib.Omega.{arith}
use Rattle.laws.specs.Decimal.{decimal}
use Rattle.text_letters.specs.Tabbed.{rest}
use Rattle.text_letters.specs.SizeLaws.{rest_sized, end_sized}
use Rattle.text_told.proofs.ToldLaws.{within, fits_left, told_written, told_counted}
use Rattle.text_told.proofs.tell_last.Goals as goal

pub slice_bounds-last_rest-count : goal.slice_bounds-last_rest-count
slice_bounds-last_rest-count c = let h = within (rest (decimal c.args.x ∷ [])) c.args.out.now c.args.n c.requires c.if-on.true in search rules

pub slice_bounds-last_rest-start : goal.slice_bounds-last_rest-start
slice_bounds-last_rest-start c = let h = within (rest (decimal c.args.x ∷ [])) c.args.out.now c.args.n c.requires c.if-on.true in search rules

pub last_rest-requires : goal.last_rest-requires
last_rest-requires c = fits_left (rest (decimal c.args.x ∷ [])) c.args.out.now c.args.n c.requires c.if-on.true

pub returns-then-on : goal.returns-then-on
returns-then-on c =
    told_written (rest (decimal c.args.x ∷ [])) c.args.out.now c.args.n c.requires c.if-on.true c.last_rest.ensures

pub returns : goal.returns
returns c =
    told_counted (rest (decimal c.args.x ∷ [])) c.args.out.now c.args.n c.requires c.if-on.false
    (omega (arith, (rest_sized [] c.number_size.ensures end_sized).is))
