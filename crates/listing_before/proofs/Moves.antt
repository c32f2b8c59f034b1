-- No row that failed before now fits.
use Rattle.std.specs.Prelude.{◌≡◌, true, ◌&&◌, ◌⊎◌}
use Rattle.std.proofs.Math.Path.{refl, ap, ap₂}
use Rattle.std.proofs.Common.{◌∙◌, ⊎_elim}
use mathlib.Core.List.{[], ◌∷◌, ◌++◌, Memᴰ}
use Rattle.laws.specs.BoolLaws.{both, both_left, both_right, is_false, clash}
use Rattle.std.specs.Prelude.{if◌then◌else◌}
use Rattle.laws.specs.Sums.{all, flat}
use Rattle.laws.specs.SumLaws.{all_each, each_all, all_same_on, flat_same_on, each_map, members}
use Rattle.laws.specs.Decimal.{decimal}
use Rattle.plan.specs.Line.{w_one, w_task}
use Rattle.plan.specs.Plan.{Task}
use Rattle.figures.specs.System.{System}
use Rattle.figures.specs.Answers.{vcpu_answer, is_fits, task_fits, task_answer, all_fit}
use Rattle.listing.specs.Listing.{w_all, w_fits, w_late, w_verdict, line, task_fields, vcpu_line, wait_lines, task_line, task_lines, rising, all_line, listing}
use Rattle.listing.proofs.ListingLaws.{rising_only}
use Rattle.listing_before.specs.Former.{former_answer, former_fit, frame, former_task_line, former_all_line, former_listing, EqualBelow}
use Rattle.listing_before.proofs.FormerLaws.{fitted_before, fits_before, nowait_as_before, held_as_before, same_or_equal}
use Rattle.listing_before.specs.Moves.{NoneNowFits}

module _ (p : System) where
  is_framed : listing p ≡ frame p (task_line p) (all_line p)
  unfolding listing frame task_lines
  is_framed = refl

  was_framed : former_listing p ≡ frame p (former_task_line p) (former_all_line p)
  unfolding former_listing
  was_framed = refl

  fit_before : all_fit p ≡ true → former_fit p ≡ true
  unfolding all_fit former_fit
  fit_before e =
      let vs = all (λ x. is_fits (vcpu_answer p x)) p.vcpus in
      both vs _ (both_left vs _ e)
      (each_all (λ k. task_fits (former_answer p k)) p.tasks
      (each_map p.tasks (λ k. fits_before p k) (all_each (λ k. task_fits (task_answer p k)) p.tasks (both_right vs _ e))))

  module _ (none : (k : Task) → Memᴰ k p.tasks → ¬ EqualBelow p k) where
    answer_kept : (k : Task) → Memᴰ k p.tasks → task_answer p k ≡ former_answer p k
    answer_kept k m = ⊎_elim (λ e. e) (λ q. absurd (none k m q)) (same_or_equal p k)

    all_kept : all_fit p ≡ former_fit p
    unfolding all_fit former_fit
    all_kept =
        ap (λ b. all (λ x. is_fits (vcpu_answer p x)) p.vcpus && b)
        (all_same_on _ _ p.tasks (each_map p.tasks (λ k m. ap task_fits (answer_kept k m)) (members p.tasks)))

    listing_kept : listing p ≡ former_listing p
    unfolding former_listing frame task_line former_task_line all_line former_all_line
    listing_kept =
        is_framed
        ∙ ap₂ (λ ts last. line (w_verdict ∷ w_one ∷ []) ++ (flat (vcpu_line p) p.vcpus ++ (ts ++ last)))
        (flat_same_on _ _ (rising p)
        (each_map (rising p)
        (λ k m. ap (λ a. wait_lines p k 1 k.locks ++ line (w_task ∷ decimal k.v ∷ decimal k.n ∷ task_fields a)) (answer_kept k (rising_only p k m))) (members (rising p))))
        (ap (λ b. line (w_all ∷ (if b then w_fits else w_late) ∷ [])) all_kept)

  pub none_now_fits : NoneNowFits p
  none_now_fits = record {
    framed = is_framed;
    framed_before = was_framed;
    fitted = fitted_before p;
    fails = λ k e. is_false _ (λ q. clash (fits_before p k q) e);
    nowait = nowait_as_before p;
    held = held_as_before p;
    moves = same_or_equal p;
    last = λ e. is_false _ (λ q. clash (fit_before q) e);
    same = listing_kept;
  }
