-- Laws of slices that are filled from the front: before the first row, one row more, after the last.
use Rattle.std.specs.Prelude.{ℕ, ◌+◌, ◌*◌, ◌≤◌, ◌<◌, ◌≡◌, length, drop, set}
use Rattle.std.proofs.Math.Path.{refl, fun_ext}
use Rattle.std.proofs.Common.{ap, ap₂, sym, ◌∙◌, le_antisymm, arith, below_more, length-append, length-drop, drop-drop}
use mathlib.Core.List.{List, [], ◌∷◌, ◌++◌, append_assoc}
use Rattle.std.proofs.lemmas.List.{set_at}
use Rattle.laws.specs.Sums.{flat}
use Rattle.laws.specs.Rows.{rows}
use Rattle.laws.specs.RowLaws.{rows_length}
use Rattle.search.specs.Row.{Row, row_in, pushed}
use Rattle.search.specs.TableLaws.{pushed_length, pushed_before, pushed_here, flat_next}
use Rattle.plan_tables.specs.Layout.{over}
use Rattle.figures_slices.specs.Filled.{row_cells, Filled}

set_past : (ps ws : List ℕ) (y : ℕ) (ys : List ℕ) (a n : ℕ) → length ps + length ws ≡ n → set (ps ++ (ws ++ (y ∷ ys))) n a ≡ ps ++ (ws ++ (a ∷ ys))
set_past ps ws y ys a n h =
    ap (λ l. set l n a) (sym (append_assoc ps ws (y ∷ ys))) ∙ set_at (ps ++ ws) y ys a n (length-append ps ws ∙ h) ∙ append_assoc ps ws (a ∷ ys)

pushed_seam : (ps zs : List ℕ) (i : ℕ) (r : Row) → length ps ≡ i * 3 → 3 ≤ length zs → pushed (ps ++ zs) i r ≡ ps ++ (row_cells r ++ drop 3 zs)
unfolding pushed
pushed_seam ps [] i r h l = absurd (omega arith)
pushed_seam ps (a ∷ []) i r h l = absurd (omega arith)
pushed_seam ps (a ∷ b ∷ []) i r h l = absurd (omega arith)
pushed_seam ps (a ∷ b ∷ c ∷ zs) i r h l =
    ap (λ x. set (set x (i * 3 + 1) r.period) (i * 3 + 2) r.cost) (set_past ps [] a (b ∷ c ∷ zs) r.shift (i * 3) (omega arith))
    ∙ ap (λ x. set x (i * 3 + 2) r.cost) (set_past ps (r.shift ∷ []) b (c ∷ zs) r.period (i * 3 + 1) (omega arith))
    ∙ set_past ps (r.shift ∷ r.period ∷ []) c zs r.cost (i * 3 + 2) (omega arith)

module _ {A : Type 0} (f : A → Row) where
  pub cells_length : (xs : List A) → length (flat (λ x. row_cells (f x)) xs) ≡ length xs * 3
  unfolding flat
  cells_length [] = refl
  cells_length (x ∷ xs) = omega (arith, cells_length xs)

  pub front_length : (n : ℕ) (thing : ℕ → A) → length (flat (λ x. row_cells (f x)) (rows n thing)) ≡ n * 3
  front_length n thing = cells_length (rows n thing) ∙ ap (λ m. m * 3) (rows_length n thing)

module _ {A : Type 0} {f : A → Row} {thing : ℕ → A} {n : ℕ} where
  pub filled_none : {xs : List ℕ} → Filled f thing xs n xs 0
  unfolding rows flat
  filled_none = record { within = omega arith; same = refl; is = refl; at = λ k l. absurd (omega arith) }

  -- the row of thing i was written
  pub filled_more : {xs₀ xs ys : List ℕ} {i : ℕ} (r : Row) → Filled f thing xs₀ n xs i → i < n → ys ≡ pushed xs i r → r ≡ f (thing i) → n * 3 ≤ length xs₀
      → Filled f thing xs₀ n ys (i + 1)
  filled_more {xs₀} {xs} {ys} {i} r h l p e room =
      let ps = flat (λ x. row_cells (f x)) (rows i thing) in
      let z : 3 ≤ length (drop (i * 3) xs₀) = omega (arith, length-drop (i * 3) xs₀) in
      record {
        within = omega arith;
        same = ap length p ∙ pushed_length xs i r ∙ h.same;
        is =
            p
            ∙ ap (λ x. pushed x i r) h.is
            ∙ pushed_seam ps (drop (i * 3) xs₀) i r (front_length f i thing) z
            ∙ sym (append_assoc ps (row_cells r) (drop 3 (drop (i * 3) xs₀)))
            ∙ ap₂ ◌++◌ (ap (λ x. ps ++ row_cells x) e ∙ sym (flat_next (λ x. row_cells (f x)) thing i)) (drop_more (i * 3) (i + 1) xs₀ (omega arith));
        at =
            below_more _ _ (λ k m. ap (λ x. row_in x k) p ∙ pushed_before xs i r k m ∙ h.at k m)
            (ap (λ x. row_in x i) p ∙ pushed_here xs i r (omega (arith, h.same)) ∙ e);
      }
    where
      drop_more : (a b : ℕ) (zs : List ℕ) → b * 3 ≡ a + 3 → drop 3 (drop a zs) ≡ drop (b * 3) zs
      drop_more a b zs q = drop-drop 3 a zs ∙ ap (λ m. drop m zs) {x = a + 3} {y = b * 3} (omega arith)

  -- g are the rows' cells
  pub filled_all : {xs₀ xs : List ℕ} {i : ℕ} (g : A → List ℕ) → Filled f thing xs₀ n xs i → n ≤ i → ((x : A) → g x ≡ row_cells (f x))
      → xs ≡ over (flat g (rows n thing)) xs₀
  filled_all {xs₀} g h l e =
      rw (fun_ext e)
      ((rw (le_antisymm l h.within) h.is) ∙ ap (λ m. flat (λ x. row_cells (f x)) (rows n thing) ++ drop m xs₀) (sym (front_length f n thing)))
