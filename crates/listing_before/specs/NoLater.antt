-- Rows that fit, and fit with a time no larger.
use Rattle.std.specs.Prelude.{ℕ, ◌≤◌, ◌≡◌}
use Rattle.std.proofs.Math.Option.{some}
use Rattle.std.proofs.Common.{arith}
use Rattle.search.specs.declared.Answer.{Answer}
use Rattle.search.specs.declared.Answer.TheVariants.{Fits, Late}
use Rattle.search.specs.Search.{window, Demand, solve}
use Rattle.search.proofs.SearchLaws.{order_solve}
use Rattle.figures.specs.declared.TaskAnswer.{TaskAnswer}
use Rattle.figures.specs.declared.TaskAnswer.TheVariants.{Searched}

-- where a fits, b fits with a time no larger
abbrev pub NoLater : Answer → Answer → Type 0
NoLater a b = (w n : ℕ) → a ≡ Fits w n → (v : ℕ) × (m : ℕ) × (b ≡ Fits v m) × (v ≤ w)

abbrev pub TaskNoLater : TaskAnswer → TaskAnswer → Type 0
TaskNoLater a b = (w n : ℕ) → a ≡ Searched (Fits w n) → (v : ℕ) × (m : ℕ) × (b ≡ Searched (Fits v m)) × (v ≤ w)

fits_of : (a : Answer) (w : ℕ) → window a ≡ some w → (n : ℕ) × (a ≡ Fits w n)
fits_of (Fits v n) w e = (n, cc)
fits_of (Late n) w e = absurd (let z : ◌≡◌ {A = ℕ} 0 1 = cc in omega arith)

-- a search of a demand that is nowhere above
pub no_later : {d e : ℕ → ℕ} {s r : ℕ} (L : ℕ) → Demand d s → Demand e r → ((t : ℕ) → d t ≤ e t) → NoLater (solve e r L) (solve d s L)
no_later {d} {s} L D E h w n f =
    let x = order_solve L D E h f in
    let y = fits_of (solve d s L) x.0 x.1 in
    (x.0, y.0, y.1, x.2)
