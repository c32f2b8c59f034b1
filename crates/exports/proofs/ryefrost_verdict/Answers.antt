-- `ryefrost_verdict` meets its contract.
use mathlib.Core.Path.{ap, ◌∙◌}
use native.Mathlib.Nat.{le_refl, lt_of_le_of_lt}
use lib.Dec.{lit<}
use Rattle.desk_rooms.specs.Whole.{verdict_bytes}
use Rattle.desk_rooms.proofs.WholeLaws.{verdict_fits}
use Rattle.exports_codes.specs.Exported.{exported, answer_bound, exported_fits, read_back}
use Rattle.exports.proofs.ryefrost_verdict.Goals as goal

pub exported-requires : goal.exported-requires
exported-requires c = lt_of_le_of_lt (answer_bound _ _ c.verdict_text-a.ensures.value (verdict_fits _ {m = verdict_bytes} (le_refl _))) (lit< tt)

pub returns : goal.returns
returns c =
    let e = c.verdict_text-a.ensures in
    record {
      value = read_back (exported_fits _ (lt_of_le_of_lt (answer_bound _ _ e.value (verdict_fits _ {m = verdict_bytes} (le_refl _))) (lit< tt))) c.exported.ensures ∙ ap exported e.value;
      out_after = e.out_after;
    }
