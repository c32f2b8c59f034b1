-- What holds at a known kind.
use Rattle.std.specs.Prelude.{◌≡◌}
use Rattle.plan.specs.declared.Kind.{Kind}

pub told : {A : Type 0} (f : Kind → A) {k q : Kind} {r : A} → k ≡ q → r ≡ f q → r ≡ f k
told f e h = rw e h
