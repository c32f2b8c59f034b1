-- Two results that an equation allows are the same.
use Rattle.std.specs.Prelude.{◌≡◌}
use Rattle.std.proofs.Common.{sym, ◌∙◌}

pub once : {A : Type 0} {a b x : A} → a ≡ x → b ≡ x → a ≡ b
once p q = p ∙ sym q
