-- Writing a text, and another behind it, is writing both as one.
use Rattle.std.specs.Prelude.{ℕ, ◌+◌, ◌-◌, ◌≤◌, ◌<◌, suc, ◌≡◌, refl, List, [], ◌∷◌, ◌++◌, length, take, drop, get_or, set}
use Rattle.std.proofs.Common.{ap, sym, ◌∙◌, append_assoc, append-nil, arith, add-one, length-append, length-take, length-drop, drop_of_length-le, drop-cons, take-suc, take_all, take_at, drop_at, drop-drop, length-take-le}
use Rattle.std.proofs.lemmas.List.{set_at}
use Rattle.text_letters.specs.Wrote.{Wrote, Joins, Copied}

-- one byte
pub wrote_one : (b : ℕ) (l : List ℕ) → 1 ≤ length l → Wrote (b ∷ []) l (set l 0 b) 1
wrote_one b [] h = absurd (omega arith)
wrote_one b (x ∷ l) h = record { count = refl; bytes = refl }

-- equal texts
pub wrote_as : {t u a b : List ℕ} {n : ℕ} → t ≡ u → Wrote u a b n → Wrote t a b n
wrote_as e w = rw e w

pub fits_as : {t u : List ℕ} {m : ℕ} → t ≡ u → length t ≤ m → length u ≤ m
fits_as e h = rw e at h

-- a text that fits leaves the buffer's length
pub wrote_long : {t a b : List ℕ} {n : ℕ} → length t ≤ length a → Wrote t a b n → length b ≡ length a
wrote_long {t} {a} h w = ap length w.bytes ∙ length-append t (drop (length t) a) ∙ omega (arith, length-drop (length t) a)

module _ (w o : List ℕ) where
  pub copied_none : Copied w o o 0
  copied_none = record { within = omega arith; is = refl }

  pub copied_length : {l : List ℕ} {i : ℕ} → length w ≤ length o → Copied w o l i → length l ≡ length o
  copied_length h c = ap length c.is ∙ simp (length-append, length-take, length-drop) (let k = c.within in omega arith)

  pub copied_more : {l : List ℕ} {i : ℕ} → length w ≤ length o → Copied w o l i → i < length w → Copied w o (set l i (get_or w i 0)) (i + 1)
  copied_more {l} {i} h c k =
      let n : i < length o = omega arith in
      record {
        within = omega arith;
        is =
            ap (λ m. set m i (get_or w i 0)) (c.is ∙ ap (λ m. take i w ++ m) (drop-cons o i 0 n))
            ∙ set_at (take i w) (get_or o i 0) (drop (suc i) o) (get_or w i 0) i (length-take-le i w (omega arith))
            ∙ rw (add-one, take-suc w i 0 k, append_assoc);
      }

  pub copied_end : {l : List ℕ} {i : ℕ} → Copied w o l i → length w ≤ i → Wrote w o l i
  copied_end {l} {i} c h =
      let e : i ≡ length w = let k = c.within in omega arith in
      record { count = e; bytes = c.is ∙ rw (take_all i w h, e) }

pub joins : (t u : List ℕ) → Joins (t ++ u) t u
joins t u = record { is = refl }

module _ {text t u : List ℕ} (j : Joins text t u) where
  sizes : length text ≡ length t + length u
  sizes = ap length j.is ∙ length-append t u

  pub first_fits : {m : ℕ} → length text ≤ m → length t ≤ m
  first_fits h = let k = sizes in omega arith

  module _ {a b : List ℕ} {n : ℕ} (h : length text ≤ length a) (w : Wrote t a b n) where
    same_room : length b ≡ length a
    same_room = wrote_long (first_fits h) w

    -- t ends within the buffer
    pub ends : n ≤ length b
    ends = let k = sizes in let m = same_room in let c = w.count in omega arith

    left : drop n b ≡ drop (length t) a
    left = rw w.bytes (drop_at t (drop (length t) a) n (sym w.count))

    part : take (length b - n) (drop n b) ≡ drop n b
    part = take_all (length b - n) (drop n b) (simp length-drop (omega arith))

    -- u fits what is left
    pub rest_fits : length u ≤ length (take (length b - n) (drop n b))
    rest_fits = let k = sizes in let m = same_room in let c = w.count in rw part (simp length-drop (omega arith))

    module _ {c : List ℕ} {m : ℕ} (x : Wrote u (take (length b - n) (drop n b)) c m) where
      -- t, and then u in what is left, is the text
      pub both_wrote : Wrote text a (take n b ++ (c ++ drop (length b - n) (drop n b))) (n + m)
      both_wrote =
          let p : take n b ≡ t = rw w.bytes (take_at t (drop (length t) a) n (sym w.count)) in
          let q : c ≡ u ++ drop (length u) (drop (length t) a) = x.bytes ∙ rw (part, left) in
          let r : drop (length b - n) (drop n b) ≡ [] = drop_of_length-le (drop n b) {i = length b - n} (simp length-drop (omega arith)) in
          record {
            count = let k = sizes in let l = x.count in let i = w.count in omega arith;
            bytes = rw (p, q, r, append-nil, drop-drop, j.is, length-append, append_assoc);
          }

      pub both_fit : n + m ≤ length a
      both_fit = let k = both_wrote.count in omega arith
