-- What the items of a plan write into a table of one row a line.
use Rattle.std.specs.Prelude.{ℕ, suc, ◌+◌, ◌*◌, ◌≤◌, ◌<◌, ◌≡◌, Bool, true, false, cond, eqb, set}
use Rattle.std.proofs.Math.Path.{refl, ap}
use Rattle.std.proofs.Common.{sym, ◌∙◌, suc-mul, arith, length-append, length-drop, drop-drop}
use mathlib.Core.List.{List, [], ◌∷◌, ◌++◌, append_assoc}
use Rattle.std.proofs.Math.Nat.{zero-mul}
use Rattle.std.proofs.Math.ListN.{length, drop}
use borrow.Author.Tests.{lt-ltb}
use Rattle.laws.specs.Sums.{flat, Each}
use Rattle.plan.specs.Line.{Item}
use Rattle.plan.specs.Plan.{Vcpu, Owner, Global, Local, Mutex, Open, Plan}
use Rattle.plan.specs.Text.{owned_item, vcpu_items, mutex_items, open_items, items_of, lines_of}
use Rattle.plan.specs.Rules.{nth}
use Rattle.plan.specs.ListLaws.{append_some}
use Rattle.plan_tables.specs.Layout.{vcpu_cells, mutex_cells, open_cells, vcpu_width, mutex_width, open_width, over}
use Rattle.plan_tables.specs.FlatLaws.{each_of, flat_length}
use Rattle.text_lines.specs.declared.Said.{Said}
use Rattle.read_tally.specs.declared.Tally.{Tally}
use Rattle.plan_tables.specs.RowPlaces.{most}
use Rattle.read_tally.specs.Tally.{mark_of, bumped, tally_by, blank}
use Rattle.read_tally.specs.ItemLaws.{say_of, WrittenItem, said_line, pick, vcpus_picked, mutexes_picked, opens_picked, vcpus_long, mutexes_long, opens_long}
use Rattle.read_tally.specs.TallyLaws.{bumped_more}
use Rattle.plan_tables.specs.RowPlaces.{place}
use Rattle.read_fill.specs.Fill.{put_if, vcpu_put, mutex_put, open_put, filled_by}

-- FROM LINES TO ITEMS

unfoldable pub filled_items : (Tally → Said → List ℕ → List ℕ) → Tally → List ℕ → List Item → List ℕ
filled_items put t d [] = d
filled_items put t d (i ∷ is) = filled_items put (tally_by t (mark_of i.kind)) (put t (say_of i) d) is

pub lines_filled :
    (put : Tally → Said → List ℕ → List ℕ) (t : Tally) (d : List ℕ) (is : List Item) → Each WrittenItem is →
    filled_by put t d (lines_of is ++ ([] ∷ [])) ≡ filled_items put t d is
unfolding filled_by filled_items lines_of
lines_filled put t d [] h = refl
lines_filled put t d (i ∷ is) h =
    simp (append_some (lines_of is) [] [], said_line i h.0) (lines_filled put (tally_by t (mark_of i.kind)) (put t (say_of i) d) is h.1)

-- TABLES OF ONE ROW A LINE

-- a store beyond the front
pub set_right : (P Q : List ℕ) (m j x : ℕ) → m ≡ length P + j → set (P ++ Q) m x ≡ P ++ set Q j x
set_right [] Q m j x e = let z : m ≡ j = omega arith in rw z
set_right (p ∷ P) Q m j x e =
    let z : m ≡ suc (length P + j) = omega arith in
    rw z (ap (λ l. p ∷ l) (set_right P Q (length P + j) j x refl))

five : (Q : List ℕ) (a b c d e : ℕ) → 5 ≤ length Q → set (set (set (set (set Q 0 a) 1 b) 2 c) 3 d) 4 e ≡ a ∷ b ∷ c ∷ d ∷ e ∷ drop 5 Q
five [] a b c d e h = absurd (omega arith)
five (x ∷ []) a b c d e h = absurd (omega arith)
five (x ∷ y ∷ []) a b c d e h = absurd (omega arith)
five (x ∷ y ∷ z ∷ []) a b c d e h = absurd (omega arith)
five (x ∷ y ∷ z ∷ u ∷ []) a b c d e h = absurd (omega arith)
five (x ∷ y ∷ z ∷ u ∷ v ∷ Q) a b c d e h = refl

two : (Q : List ℕ) (a b : ℕ) → 2 ≤ length Q → set (set Q 0 a) 1 b ≡ a ∷ b ∷ drop 2 Q
two [] a b h = absurd (omega arith)
two (x ∷ []) a b h = absurd (omega arith)
two (x ∷ y ∷ Q) a b h = refl

module _ (P Q : List ℕ) (k : ℕ) (l : length P ≡ k) where
  set_two : (a b : ℕ) → 2 ≤ length Q → set (set (P ++ Q) k a) (k + 1) b ≡ P ++ (a ∷ b ∷ drop 2 Q)
  set_two a b h =
      ap (λ x. set x (k + 1) b) (set_right P Q k 0 a (omega arith))
      ∙ set_right P (set Q 0 a) (k + 1) 1 b (omega arith)
      ∙ ap (λ x. P ++ x) (two Q a b h)

  set_five : (a b c d e : ℕ) → 5 ≤ length Q → set (set (set (set (set (P ++ Q) k a) (k + 1) b) (k + 2) c) (k + 2 + 1) d) (k + 4) e ≡ P ++ (a ∷ b ∷ c ∷ d ∷ e ∷ drop 5 Q)
  set_five a b c d e h =
      ap (λ x. set (set (set (set x (k + 1) b) (k + 2) c) (k + 2 + 1) d) (k + 4) e) (set_right P Q k 0 a (omega arith))
      ∙ ap (λ x. set (set (set x (k + 2) c) (k + 2 + 1) d) (k + 4) e) (set_right P (set Q 0 a) (k + 1) 1 b (omega arith))
      ∙ ap (λ x. set (set x (k + 2 + 1) d) (k + 4) e) (set_right P (set (set Q 0 a) 1 b) (k + 2) 2 c (omega arith))
      ∙ ap (λ x. set x (k + 4) e) (set_right P (set (set (set Q 0 a) 1 b) 2 c) (k + 2 + 1) 3 d (omega arith))
      ∙ set_right P (set (set (set (set Q 0 a) 1 b) 2 c) 3 d) (k + 4) 4 e (omega arith)
      ∙ ap (λ x. P ++ x) (five Q a b c d e h)

module _
    (q w : ℕ) (get : Tally → ℕ) (moves : (t : Tally) (m : ℕ) → get (tally_by t m) ≡ bumped (eqb m q) (get t)) (cells : Item → List ℕ)
    (wide : (i : Item) → length (cells i) ≡ w) (put : Tally → Said → List ℕ → List ℕ)
    (hits : (t : Tally) (i : Item) → eqb (mark_of i.kind) q ≡ true → (P Q : List ℕ) → get t < most → length P ≡ get t * w → w ≤ length Q → put t (say_of i) (P ++ Q) ≡ P ++ (cells i ++ drop w Q))
    (misses : (t : Tally) (i : Item) → eqb (mark_of i.kind) q ≡ false → (d : List ℕ) → put t (say_of i) d ≡ d)
  where
    rows_filled :
        (is : List Item) (t : Tally) (P Q : List ℕ) → length P ≡ get t * w → get t + length (pick q is) ≤ most → length (pick q is) * w ≤ length Q →
        filled_items put t (P ++ Q) is ≡ P ++ (flat cells (pick q is) ++ drop (length (pick q is) * w) Q)
    unfolding filled_items pick flat
    rows_filled [] t P Q l m h = rw zero-mul
    rows_filled (i ∷ is) t P Q l m h = go (eqb (mark_of i.kind) q) refl (moves t (mark_of i.kind)) m h (rows_filled is (tally_by t (mark_of i.kind)))
      where
        u : Tally
        u = tally_by t (mark_of i.kind)

        n : ℕ
        n = length (pick q is)

        go :
            (b : Bool) → eqb (mark_of i.kind) q ≡ b → get u ≡ bumped b (get t) → get t + length (cond b (i ∷ pick q is) (pick q is)) ≤ most →
            length (cond b (i ∷ pick q is) (pick q is)) * w ≤ length Q →
            ((P Q : List ℕ) → length P ≡ get u * w → get u + n ≤ most → n * w ≤ length Q → filled_items put u (P ++ Q) is ≡ P ++ (flat cells (pick q is) ++ drop (n * w) Q)) →
            filled_items put u (put t (say_of i) (P ++ Q)) is
            ≡ P ++ (flat cells (cond b (i ∷ pick q is) (pick q is)) ++ drop (length (cond b (i ∷ pick q is) (pick q is)) * w) Q)
        go true e f m h ih =
            let g : get u ≡ suc (get t) = f ∙ bumped_more (get t) (omega arith) ∙ omega arith in
            let s : suc n * w ≡ n * w + w = suc-mul n w in
            let z : w + n * w ≡ suc n * w = omega (arith, s) in
            ap (λ d. filled_items put u d is) (hits t i e P Q (omega arith) l (omega (arith, s)) ∙ sym (append_assoc P (cells i) (drop w Q)))
            ∙ ih (P ++ cells i) (drop w Q)
            (rw g (omega (arith, length-append P (cells i), wide i, suc-mul (get t) w)))
            (omega (arith, g))
            (omega (arith, length-drop w Q, s))
            ∙ append_assoc P (cells i) (flat cells (pick q is) ++ drop (n * w) (drop w Q))
            ∙ ap (λ x. P ++ x) (sym (append_assoc (cells i) (flat cells (pick q is)) (drop (n * w) (drop w Q))))
            ∙ ap (λ x. P ++ ((cells i ++ flat cells (pick q is)) ++ x)) (drop-drop (n * w) w Q ∙ ap (λ j. drop j Q) z)
        go false e f m h ih =
            let g : get u ≡ get t = f ∙ unfold bumped in refl in
            ap (λ d. filled_items put u d is) (misses t i e (P ++ Q)) ∙ ih P Q (rw g l) (rw g m) h

-- the cells of an item: five, or two
abbrev five_cells : Item → List ℕ
five_cells i = nth 0 i.nums ∷ nth 1 i.nums ∷ nth 2 i.nums ∷ nth 3 i.nums ∷ nth 4 i.nums ∷ []

abbrev two_cells : Item → List ℕ
two_cells i = nth 0 i.nums ∷ nth 1 i.nums ∷ []

flat_vcpus : (rs : List Vcpu) → flat five_cells (vcpu_items rs []) ≡ flat vcpu_cells rs
unfolding flat vcpu_items
flat_vcpus [] = refl
flat_vcpus (r ∷ rs) = ap (λ x. vcpu_cells r ++ x) (flat_vcpus rs)

flat_mutexes : (rs : List Mutex) → flat two_cells (mutex_items rs []) ≡ flat mutex_cells rs
unfolding flat mutex_items
flat_mutexes [] = refl
flat_mutexes (r ∷ rs) = go r.owner (flat_mutexes rs)
  where
    go :
        (o : Owner) → flat two_cells (mutex_items rs []) ≡ flat mutex_cells rs →
        flat two_cells (owned_item r.m o ∷ mutex_items rs []) ≡ mutex_cells (record { m = r.m; owner = o }) ++ flat mutex_cells rs
    go Global e = ap (λ x. r.m ∷ 0 ∷ x) e
    go (Local v) e = ap (λ x. r.m ∷ v ∷ x) e

flat_opens : (rs : List Open) → flat two_cells (open_items rs []) ≡ flat open_cells rs
unfolding flat open_items
flat_opens [] = refl
flat_opens (r ∷ rs) = ap (λ x. open_cells r ++ x) (flat_opens rs)

-- rows at the front of a table
rows_over : {A : Type 0} (f : A → List ℕ) (w : ℕ) (rs : List A) (d : List ℕ) → ((x : A) → length (f x) ≡ w) → flat f rs ++ drop (length rs * w) d ≡ over (flat f rs) d
rows_over f w rs d h = ap (λ n. flat f rs ++ drop n d) (sym (flat_length f w rs (each_of rs h)))

module _ (p : Plan) (d : List ℕ) where
  pub vcpus_filled : length p.vcpus ≤ most → length p.vcpus * vcpu_width ≤ length d → filled_items vcpu_put blank d (items_of p) ≡ over (flat vcpu_cells p.vcpus) d
  unfolding tally_by vcpu_put put_if place
  vcpus_filled m h =
      let e : pick 5 (items_of p) ≡ vcpu_items p.vcpus [] = vcpus_picked p in
      let n : length (pick 5 (items_of p)) ≡ length p.vcpus = ap length e ∙ vcpus_long p.vcpus in
      rows_filled 5 5 (λ t. t.vcpus) (λ t m. refl) five_cells (λ i. refl) vcpu_put
      (λ t i e P Q l g w. simp (e, lt-ltb t.vcpus most l) (set_five P Q (t.vcpus * 5) g _ _ _ _ _ w))
      (λ t i e d. simp e)
      (items_of p) blank [] d (omega arith) (omega (arith, n, m)) (rw n h)
      ∙ ap (λ x. flat five_cells x ++ drop (length x * 5) d) e
      ∙ ap (λ k. flat five_cells (vcpu_items p.vcpus []) ++ drop (k * 5) d) (vcpus_long p.vcpus)
      ∙ ap (λ x. x ++ drop (length p.vcpus * 5) d) (flat_vcpus p.vcpus)
      ∙ rows_over vcpu_cells 5 p.vcpus d (λ x. refl)

  pub mutexes_filled : length p.mutexes ≤ most → length p.mutexes * mutex_width ≤ length d → filled_items mutex_put blank d (items_of p) ≡ over (flat mutex_cells p.mutexes) d
  unfolding tally_by mutex_put put_if place
  mutexes_filled m h =
      let e : pick 6 (items_of p) ≡ mutex_items p.mutexes [] = mutexes_picked p in
      let n : length (pick 6 (items_of p)) ≡ length p.mutexes = ap length e ∙ mutexes_long p.mutexes in
      rows_filled 6 2 (λ t. t.mutexes) (λ t m. refl) two_cells (λ i. refl) mutex_put
      (λ t i e P Q l g w. simp (e, lt-ltb t.mutexes most l) (set_two P Q (t.mutexes * 2) g _ _ w))
      (λ t i e d. simp e)
      (items_of p) blank [] d (omega arith) (omega (arith, n, m)) (rw n h)
      ∙ ap (λ x. flat two_cells x ++ drop (length x * 2) d) e
      ∙ ap (λ k. flat two_cells (mutex_items p.mutexes []) ++ drop (k * 2) d) (mutexes_long p.mutexes)
      ∙ ap (λ x. x ++ drop (length p.mutexes * 2) d) (flat_mutexes p.mutexes)
      ∙ rows_over mutex_cells 2 p.mutexes d (λ x. refl)

  pub opens_filled : length p.opens ≤ most → length p.opens * open_width ≤ length d → filled_items open_put blank d (items_of p) ≡ over (flat open_cells p.opens) d
  unfolding tally_by open_put put_if place
  opens_filled m h =
      let e : pick 7 (items_of p) ≡ open_items p.opens [] = opens_picked p in
      let n : length (pick 7 (items_of p)) ≡ length p.opens = ap length e ∙ opens_long p.opens in
      rows_filled 7 2 (λ t. t.opens) (λ t m. refl) two_cells (λ i. refl) open_put
      (λ t i e P Q l g w. simp (e, lt-ltb t.opens most l) (set_two P Q (t.opens * 2) g _ _ w))
      (λ t i e d. simp e)
      (items_of p) blank [] d (omega arith) (omega (arith, n, m)) (rw n h)
      ∙ ap (λ x. flat two_cells x ++ drop (length x * 2) d) e
      ∙ ap (λ k. flat two_cells (open_items p.opens []) ++ drop (k * 2) d) (opens_long p.opens)
      ∙ ap (λ x. x ++ drop (length p.opens * 2) d) (flat_opens p.opens)
      ∙ rows_over open_cells 2 p.opens d (λ x. refl)
