-- `exported` meets its contract.
use Rattle.std.specs.Prelude.{Result, Ok}
use Prim.Native.Nat.{ℕ, ◌<◌, ◌^◌}
use mathlib.Core.Path.{◌≡◌, sym, ap, subst, ◌∙◌}
use mir.Syntax.{w64}
use mir.Val.{to_z}
use mir.Facts.{to_z_pos}
use Rattle.plan.specs.declared.Refusal.{Refusal}
use Rattle.listing_lines.specs.Into.{bytes_in}
use Rattle.exports_codes.specs.Exported.{exported, negated_fits, read_back}
use Rattle.exports_codes.proofs.exported.Goals as goal

counted : {a : Result ℕ Refusal} {n : ℕ} → a ≡ Ok n → bytes_in a < 2 ^ 63 → n < 2 ^ 63
counted e h = subst (λ x. bytes_in x < 2 ^ 63) e h

written : {a : Result ℕ Refusal} {n : ℕ} → a ≡ Ok n → bytes_in a < 2 ^ 63 → to_z w64 n ≡ exported a
unfolding exported
written e h = to_z_pos w64 (counted e h) ∙ sym (ap exported e)

pub overflow_cast-result : goal.overflow_cast-result
overflow_cast-result c = record { sfits = counted {n = c.in-Ok.n} c.in-Ok.is c.requires }

pub returns-in-Ok : goal.returns-in-Ok
returns-in-Ok c = written {n = c.in-Ok.n} c.in-Ok.is c.requires

pub returns-in-Err : goal.returns-in-Err
unfolding exported
returns-in-Err c = read_back (negated_fits _) c.negated.ensures ∙ ap exported (sym c.in-Err.is)
