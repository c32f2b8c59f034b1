-- `ryefrost_write` meets its contract.
use Prim.Native.Nat.{◌<◌, ◌^◌}
use mathlib.Core.Path.{ap, sym, subst, ◌∙◌}
use Rattle.listing_lines.specs.Into.{bytes_in}
use Rattle.exports_codes.specs.Exported.{exported, exported_fits, read_back}
use Rattle.exports_write.specs.Numbers.{numbers_short}
use Rattle.exports_write.proofs.ryefrost_write.Goals as goal

pub exported-requires : goal.exported-requires
exported-requires c = subst (λ a. bytes_in a < 2 ^ 63) (sym c.write_numbers-a.ensures.value) (numbers_short _ _ _)

pub returns : goal.returns
returns c =
    let e = c.write_numbers-a.ensures in
    let small = subst (λ a. bytes_in a < 2 ^ 63) (sym e.value) (numbers_short _ _ _) in
    record { value = read_back (exported_fits _ small) c.exported.ensures ∙ ap exported e.value; out_after = e.out_after }
