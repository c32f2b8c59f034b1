-- "That any two results allowed by one statement coincide is proved", for the functions for C, over their contracts as they stand; and they ask nothing (the other entries: claims/Once).
use seplogic.Ra.Ura.{Ura}
use base.Logic.{SProp}
use prog.Memory.{Memory}
use prog.Routine.{Routine}
use types.Logic.{Logic}
use contract.Monad.{Fun}
use Rattle.laws.specs.Once.{once}
use Rattle.laws.specs.Sure.{Sure, free, of_two}
use Rattle.exports.specs.contracts.ryefrost_verdict as ryefrost_verdict
use Rattle.exports.specs.contracts.ryefrost_board as ryefrost_board
use Rattle.exports.specs.contracts.ryefrost_run as ryefrost_run

module _ {M : Type 1} {𝓤 : Ura M} (𝓛 : Logic 𝓤) (mem : Memory → SProp 𝓤) (run : Routine → Fun 𝓤) where
  pub ryefrost_verdict_once : Sure 𝓤 ryefrost_verdict.ended (ryefrost_verdict.clauses 𝓛 mem run)
  ryefrost_verdict_once = (λ κs a. free 𝓤, λ κs a g h x y. of_two 𝓤 (λ p q i. (once p.0 q.0 i, (tt, (once p.1 q.1 i, tt)))))

  pub ryefrost_board_once : Sure 𝓤 ryefrost_board.ended (ryefrost_board.clauses 𝓛 mem run)
  ryefrost_board_once = (λ κs a. free 𝓤, λ κs a g h x y. of_two 𝓤 (λ p q i. (once p.0 q.0 i, (tt, (tt, (once p.1 q.1 i, tt))))))

  pub ryefrost_run_once : Sure 𝓤 ryefrost_run.ended (ryefrost_run.clauses 𝓛 mem run)
  ryefrost_run_once = (λ κs a. free 𝓤, λ κs a g h x y. of_two 𝓤 (λ p q i. (once p.0 q.0 i, (tt, (tt, (once p.1 q.1 i, tt))))))
