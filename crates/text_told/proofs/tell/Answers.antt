-- `text_told::tell` meets its contract.
use borrow.Author.Rules.{rules}
use mathlib.Core.Path.{refl}
use Rattle.text_told.proofs.ToldLaws.{within, fits_left, told_written, told_counted}
use Rattle.text_told.proofs.tell.Goals as goal

pub slice_bounds-put-count : goal.slice_bounds-put-count
slice_bounds-put-count c = let h = within c.args.w.now c.args.out.now c.args.n c.requires c.if-on.true in search rules

pub slice_bounds-put-start : goal.slice_bounds-put-start
slice_bounds-put-start c = let h = within c.args.w.now c.args.out.now c.args.n c.requires c.if-on.true in search rules

pub put-requires : goal.put-requires
put-requires c = fits_left c.args.w.now c.args.out.now c.args.n c.requires c.if-on.true

pub returns-then-on : goal.returns-then-on
returns-then-on c =
    told_written c.args.w.now c.args.out.now c.args.n c.requires c.if-on.true c.put.ensures

pub returns : goal.returns
returns c = told_counted c.args.w.now c.args.out.now c.args.n c.requires c.if-on.false refl
