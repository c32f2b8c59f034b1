-- `ryefrost_run` meets its contract.
use Prim.Native.Nat.{ℕ, ◌<◌}
use mathlib.Core.Path.{◌≡◌, sym, ap, ◌∙◌}
use mathlib.Core.List.{List}
use lib.ListN.{length}
use borrow.Author.Tests.{ltb-true, ltb-false}
use Rattle.clock_rules.specs.declared.RunAnswer.{RunAnswer}
use Rattle.desk_runs.specs.Ran.{run_into}
use Rattle.desk_runs.proofs.RanLaws.{into_few, into_ran}
use Rattle.exports_codes.specs.Exported.{run_exported, missed_left, run_fits, read_back}
use Rattle.exports.proofs.ryefrost_run.Goals as goal

few_left : (s : List ℕ) (h : ℕ) (ys : List ℕ) → length ys < 3 → ys ≡ missed_left (run_into s h ys) ys
unfolding missed_left
few_left s h ys k = ap (λ a. missed_left a ys) (into_few s h ys k)

left_as : (ys : List ℕ) {a b : RunAnswer} {zs : List ℕ} → a ≡ b → zs ≡ missed_left a ys → zs ≡ missed_left b ys
left_as ys e q = q ∙ ap (λ a. missed_left a ys) e

pub returns-then-too_few : goal.returns-then-too_few
returns-then-too_few c =
    let k = ltb-true _ _ (sym c.too_few.ensures ∙ c.if-too_few.true) in
    record { value = read_back (run_fits _) c.run_exported.ensures ∙ ap run_exported (into_few _ _ _ k); missed_after = few_left _ _ _ k }

pub leave_missed-requires : goal.leave_missed-requires
leave_missed-requires c = ltb-false _ _ (sym c.too_few.ensures ∙ c.if-too_few.false)

pub returns : goal.returns
returns c =
    let e = c.run_bytes-a.ensures ∙ into_ran _ _ _ (ltb-false _ _ (sym c.too_few.ensures ∙ c.if-too_few.false)) in
    record { value = read_back (run_fits _) c.run_exported-2.ensures ∙ ap run_exported e; missed_after = left_as _ e c.leave_missed.ensures }
