-- An answer as one number for C: the bytes written, or how a run ends, or the refusal's number, negated.
use Rattle.std.specs.Prelude.{ℕ, ◌≤◌, ◌<◌, ◌^◌, ◌≡◌, refl, List, [], ◌∷◌, Bool, true, false, ℤ, pos, neg_ℤ, length, drop, set, Result, Ok, Err}
use Rattle.std.proofs.Common.{sym, ap, subst, ◌∙◌, arith, SFits, to_z, of_z, to_z-of_z}
use Rattle.std.specs.Int.{w64}
use Rattle.std.proofs.Math.Facts.{sfits_lit}
use Rattle.plan.specs.declared.Refusal.{Refusal}
use Rattle.plan.specs.declared.Refusal.TheVariants.{Shape, Number, Range, Order, Missing, Outside, TooMany, Room, Foreign, Unknown, Unlisted, Asleep, Busy, NotHolder, Supply}
use Rattle.plan.specs.Refusals.{number_of}
use Rattle.listing_lines.specs.Into.{has_room, text_answer, bytes_in}
use Rattle.clock_rules.specs.declared.RunAnswer.{RunAnswer}
use Rattle.clock_rules.specs.declared.RunAnswer.TheVariants.{Ended, Missed, NoRun}

-- a refusal's number, below 0
unfoldable pub negated : Refusal → ℤ
negated r = neg_ℤ (pos (number_of r))

unfoldable pub exported : Result ℕ Refusal → ℤ
exported (Ok n) = pos n
exported (Err r) = negated r

-- how a run ends: 0 before its horizon, 1 at a missed job
unfoldable pub run_exported : RunAnswer → ℤ
run_exported Ended = pos 0
run_exported (Missed t v n) = pos 1
run_exported (NoRun r) = negated r

-- what is left in the caller's places: a missed job's tick, v and n in the first three, and nothing else changed
unfoldable pub missed_left : RunAnswer → List ℕ → List ℕ
missed_left Ended ys = ys
missed_left (Missed t v n) ys = t ∷ v ∷ n ∷ drop 3 ys
missed_left (NoRun r) ys = ys

-- an answer counts no more bytes than its text has
pub answer_bound : (t o : List ℕ) {a : Result ℕ Refusal} {m : ℕ} → a ≡ text_answer t o → length t ≤ m → bytes_in a ≤ m
unfolding text_answer
answer_bound t o {a} {m} e h = subst (λ x. bytes_in x ≤ m) (sym e) (go (has_room t o))
  where
    go : (x : Bool) → bytes_in (elim x [ true ↦ Ok (length t) | false ↦ Err Room ]) ≤ m
    go true = h
    go false = omega arith

-- either number is one of 64 bits
pub negated_fits : (r : Refusal) → SFits w64 (negated r)
unfolding negated number_of
negated_fits Shape = sfits_lit tt
negated_fits Number = sfits_lit tt
negated_fits Range = sfits_lit tt
negated_fits Order = sfits_lit tt
negated_fits Missing = sfits_lit tt
negated_fits Outside = sfits_lit tt
negated_fits TooMany = sfits_lit tt
negated_fits Room = sfits_lit tt
negated_fits Foreign = sfits_lit tt
negated_fits Unknown = sfits_lit tt
negated_fits Unlisted = sfits_lit tt
negated_fits Asleep = sfits_lit tt
negated_fits Busy = sfits_lit tt
negated_fits NotHolder = sfits_lit tt
negated_fits Supply = sfits_lit tt

pub exported_fits : (a : Result ℕ Refusal) → bytes_in a < 2 ^ 63 → SFits w64 (exported a)
unfolding exported
exported_fits (Ok n) h = record { sfits = h }
exported_fits (Err r) h = negated_fits r

pub run_fits : (a : RunAnswer) → SFits w64 (run_exported a)
unfolding run_exported
run_fits Ended = sfits_lit tt
run_fits (Missed t v n) = sfits_lit tt
run_fits (NoRun r) = negated_fits r

-- three numbers written one after the other
three_set : (t v n : ℕ) (ys : List ℕ) → 3 ≤ length ys → set (set (set ys 0 t) 1 v) 2 n ≡ t ∷ v ∷ n ∷ drop 3 ys
three_set t v n [] h = absurd (omega (arith, h))
three_set t v n (a ∷ []) h = absurd (omega (arith, h))
three_set t v n (a ∷ b ∷ []) h = absurd (omega (arith, h))
three_set t v n (a ∷ b ∷ c ∷ ys) h = refl

pub second_below : {n : ℕ} → 3 ≤ n → 1 < n
second_below h = omega (arith, h)

pub missed_left_law : {a : RunAnswer} {t v n : ℕ} → a ≡ Missed t v n → (ys : List ℕ) → 3 ≤ length ys → set (set (set ys 0 t) 1 v) 2 n ≡ missed_left a ys
unfolding missed_left
missed_left_law {t = t} {v = v} {n = n} e ys h = three_set t v n ys h ∙ ap (λ a. missed_left a ys) (sym e)

-- a number of 64 bits, read back
pub read_back : {x z : ℤ} → SFits w64 z → x ≡ z → to_z w64 (of_z w64 x) ≡ z
read_back h e = to_z-of_z (subst (SFits w64) (sym e) h) ∙ e
