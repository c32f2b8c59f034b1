-- "That any two results allowed by one statement coincide is proved", for the function for C that writes a plan, over its contract as it stands; and it asks nothing.
use seplogic.Ra.Ura.{Ura}
use base.Logic.{SProp}
use prog.Memory.{Memory}
use prog.Routine.{Routine}
use types.Logic.{Logic}
use contract.Monad.{Fun}
use Rattle.laws.specs.Once.{once}
use Rattle.laws.specs.Sure.{Sure, free, of_two}
use Rattle.exports_write.specs.contracts.ryefrost_write as ryefrost_write

module _ {M : Type 1} {𝓤 : Ura M} (𝓛 : Logic 𝓤) (mem : Memory → SProp 𝓤) (run : Routine → Fun 𝓤) where
  pub ryefrost_write_once : Sure 𝓤 ryefrost_write.ended (ryefrost_write.clauses 𝓛 mem run)
  ryefrost_write_once = (λ κs a. free 𝓤, λ κs a g h x y. of_two 𝓤 (λ p q i. (once p.0 q.0 i, (tt, (tt, (tt, (tt, (tt, (once p.1 q.1 i, tt)))))))))
