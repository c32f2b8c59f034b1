-- What a call has answered that tested the room before it wrote.
use Rattle.std.specs.Prelude.{ℕ, ◌≤◌, ◌<◌, ◌≡◌, refl, List, Bool, true, false, leb, length, Result, Ok, Err}
use Rattle.std.proofs.Common.{ap, sym, subst, ◌∙◌, le-leb, leb-true, leb-false}
use Rattle.std.proofs.lemmas.Bool.{lt-leb}
use Rattle.plan.specs.declared.Refusal.TheVariants.{Room}
use Rattle.plan.specs.declared.Refusal.{Refusal}
use Rattle.text_letters.specs.Wrote.{Wrote}
use Rattle.listing_lines.specs.Into.{text_answer, text_after}

module _ (t o : List ℕ) where
  -- with room: the text is written
  pub into_room : {p : List ℕ} {n : ℕ} → length t ≤ length o → Wrote t o p n → (Ok n ≡ text_answer t o) × (p ≡ text_after t o)
  unfolding text_answer text_after
  into_room h w = rw (le-leb (length t) (length o) h, text_answer, text_after) (ap Ok w.count, w.bytes)

  -- without: 8, and the buffer as it was
  pub into_none : length o < length t → (Err Room ≡ text_answer t o) × (o ≡ text_after t o)
  unfolding text_answer text_after
  into_none h = rw (lt-leb (length t) (length o) h, text_answer, text_after) (refl, refl)

-- the test says whether t has room in l bytes
pub record RoomFor (t : List ℕ) (l : ℕ) (x : Bool) : Type 0 where
  pub is : x ≡ leb (length t) l

pub tested_room : {t : List ℕ} {l : ℕ} {x : Bool} → RoomFor t l x → x ≡ true → length t ≤ l
tested_room {t} {l} h e = leb-true (length t) l (sym h.is ∙ e)

module _ {t o : List ℕ} {l : ℕ} {x : Bool} (h : RoomFor t l x) (k : l ≡ length o) where
  -- it says so, and the text is written
  pub tested_in : x ≡ true → {p : List ℕ} {n : ℕ} → Wrote t o p n → (Ok n ≡ text_answer t o) × (p ≡ text_after t o)
  tested_in e w = into_room t o (subst (λ m. length t ≤ m) k (tested_room h e)) w

  -- it denies it, and nothing is written
  pub tested_out : x ≡ false → (Err Room ≡ text_answer t o) × (o ≡ text_after t o)
  tested_out e = into_none t o (subst (λ m. m < length t) k (leb-false (length t) l (sym h.is ∙ e)))

-- the same of an equal answer
pub answered_as : {a b c : Result ℕ Refusal} {P : Type 0} → a ≡ b → (b ≡ c) × P → (a ≡ c) × P
answered_as e h = (e ∙ h.0, h.1)
