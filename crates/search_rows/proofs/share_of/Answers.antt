-- `search_rows::share_of` meets its contract.
use native.Mathlib.Omega.{arith}
use Rattle.search.specs.Row.{row_in}
use Rattle.search.specs.TableLaws.{share_capped, share_free}
use Rattle.search_rows.proofs.share_of.Goals as goal

pub returns-then-cost-eq0 : goal.returns-then-cost-eq0
unfolding row_in
returns-then-cost-eq0 c = share_free _ _ c.if-cost-eq0.true

pub overflow_add-t : goal.overflow_add-t
unfolding row_in
overflow_add-t c = let s = c.requires.2.near in omega arith

pub div_up-requires : goal.div_up-requires
unfolding row_in
div_up-requires c = c.requires.2.often

pub overflow_mul-result : goal.overflow_mul-result
unfolding row_in
overflow_mul-result c =
    let s = (share_capped _ _ c.requires.1 c.requires.2 c.div_up.ensures c.capped.ensures).small in
    omega arith

pub returns : goal.returns
unfolding row_in
returns c =
    share_capped _ _ c.requires.1 c.requires.2 c.div_up.ensures c.capped.ensures
