-- Room for the lines that `clock` prints, and for how far its run goes.
use Rattle.std.specs.Prelude.{ℕ, ◌+◌, ◌^◌, ◌≤◌, ◌<◌, ◌≡◌, refl, List, [], ◌∷◌, Bool, true, false, Result, Ok, leb, length}
use Rattle.std.proofs.Common.{sym, ap, subst, ◌∙◌, arith, leb-true, length-append}
use Rattle.std.specs.Prelude.{if◌then◌else◌}
use Rattle.laws.specs.Bytes.{pieces, is_nil}
use Rattle.laws.specs.Decimal.{decimal}
use Rattle.laws.specs.BoolLaws.{both_right}
use Rattle.plan.specs.Limits.{tab, lf}
use Rattle.plan.specs.declared.Policy.{Policy}
use Rattle.plan.specs.declared.OverrunChoice.{OverrunChoice}
use Rattle.plan.specs.declared.Refusal.{Refusal}
use Rattle.plan.specs.declared.Refusal.TheVariants.{Shape, Range}
use Rattle.plan.specs.declared.Complaint.{Complaint}
use Rattle.plan.specs.Refusals.{number_of}
use Rattle.plan.specs.Line.{has_shape, numbers, written}
use Rattle.plan.specs.Rules.{nth}
use Rattle.text_letters.specs.Tabbed.{tabbed, rest}
use Rattle.text_letters.specs.TabbedLaws.{rest_more}
use Rattle.text_letters.specs.SizeLaws.{end_sized}
use Rattle.listing.specs.Listing.{line, w_refused, refused_line}
use Rattle.listing_lines.specs.LineLaws.{line_joins}
use Rattle.log_replies.specs.Short.{number_low}
use Rattle.clock_rules.specs.Clock.{max_horizon, is_horizon}
use Rattle.clock_rules.specs.Trace as trace
use Rattle.clock_rules.specs.Trace.{horizon_form, horizon_of, horizon_in, one_line, horizon_from, end_line, refused_alone}
use Rattle.clock_lines.specs.Bounds.{number_long, end_line_bound, refused_alone_bound}
use Rattle.clock_horizons.specs.Horizon.{told}
use Rattle.clock_nexts.specs.Nexts.{Nexts}
use Rattle.clock_going.specs.Going.{Going}
use Rattle.clock_sizes.specs.Sizes.{tick_room}

-- THE LINE OF A REFUSED PLAN
rest_length : (f : List ℕ) (fs : List (List ℕ)) → length (rest (f ∷ fs)) ≡ 1 + (length f + length (rest fs))
rest_length f fs = ap length (rest_more f fs) ∙ length-append (tabbed f) (rest fs) ∙ omega arith

pub refused_room : (c : Complaint) → c.line < 2 ^ 64 → c.field < 2 ^ 64 → (o : List ℕ) → length o ≡ tick_room → length (refused_line c) ≤ length o
unfolding refused_line
refused_room c h k o e =
    let r = number_of c.number in
    let l = c.line in
    let f = c.field in
    omega (
      arith,
      e,
      ap length (line_joins w_refused (decimal r ∷ decimal l ∷ decimal f ∷ [])).is ∙ length-append w_refused (rest (decimal r ∷ decimal l ∷ decimal f ∷ [])),
      rest_length (decimal r) (decimal l ∷ decimal f ∷ []),
      rest_length (decimal l) (decimal f ∷ []),
      rest_length (decimal f) [],
      end_sized.is,
      number_long r (let n = number_low c.number in omega arith),
      number_long l h,
      number_long f k,
    )

-- THE HORIZON of the line is not beyond the largest
abbrev Fine : trace.Horizon → Type 0
Fine (trace.Until h) = h ≤ max_horizon
Fine (trace.Refuse r) = ℕ

fine_in : (h : ℕ) (b : Bool) → is_horizon h ≡ b → Fine (if b then trace.Until h else trace.Refuse Range)
fine_in h true e = leb-true h max_horizon (both_right (leb 1 h) (leb h max_horizon) e)
fine_in h false e = 0

fine_of : (h : ℕ) (b : Bool) → Fine (horizon_of h b)
fine_of h true = fine_in h (is_horizon h) refl
fine_of h false = 0

fine_if : (b : Bool) (x : trace.Horizon) → Fine x → Fine (if b then x else trace.Refuse Shape)
fine_if true x f = f
fine_if false x f = 0

fine_line : (ls : List (List ℕ)) → Fine (one_line ls)
fine_line [] = 0
fine_line (l ∷ []) = 0
fine_line (l ∷ m ∷ ls) =
    let fs = pieces tab l in
    let x = fine_of (nth 0 (numbers 1 horizon_form fs)) (written horizon_form (numbers 1 horizon_form fs)) in
    let y = horizon_of (nth 0 (numbers 1 horizon_form fs)) (written horizon_form (numbers 1 horizon_form fs)) in
    fine_if (is_nil m) (if is_nil ls then horizon_in fs else trace.Refuse Shape) (fine_if (is_nil ls) (horizon_in fs) (fine_if (has_shape horizon_form fs) y x))

fine : (s : List ℕ) → Fine (horizon_from s)
unfolding horizon_from
fine s = fine_line (pieces lf s)

pub until_to : (s : List ℕ) {a : Result ℕ Refusal} → told a ≡ horizon_from s → (h : ℕ) → a ≡ Ok h → h ≤ max_horizon
until_to s {a} e h q = subst Fine (sym e ∙ ap told q) (fine s)

-- THE LAST LINES
pub end_room : (h : ℕ) → h ≤ max_horizon → (a : List ℕ) → length a ≡ tick_room → length (end_line h) ≤ length a
end_room h l a e = omega (arith, end_line_bound h (omega arith), e)

pub alone_room : (r : Refusal) (a : List ℕ) → length a ≡ tick_room → length (refused_alone r) ≤ length a
alone_room r a e = omega (arith, refused_alone_bound r, e)

-- what holds when the run has come to tick t
pub record Telling (p : Policy) (o : OverrunChoice) (view x : List ℕ) (h t : ℕ) (ls os : List ℕ) (ss : List Bool) (hs ws k y a : List ℕ) : Type 0 where
  pub going : Going p o view x ls os ss hs ws k
  pub nexts : Nexts x y t
  pub within : t ≤ h
  pub long : length a ≡ tick_room
