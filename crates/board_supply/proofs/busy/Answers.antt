use Rattle.board_walks.specs.WalkLaws.{any_highest}
use Rattle.board_seats.specs.Seats.{holds_it}
use Rattle.board_supply.proofs.busy.Goals as goal

pub returns : goal.returns
returns c = let a = c.args in
    rw (c.either.ensures, c.last_held.ensures, c.no-waiting.ensures, c.wait.ensures.0, any_highest 32 (λ m. holds_it a.holder.now a.v a.n m))
