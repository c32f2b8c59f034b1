-- Laws of answers told one behind another.
use Rattle.std.specs.Prelude.{ℕ, ◌+◌, ◌*◌, ◌≤◌, ◌≡◌, refl, Bool, true, false, List, [], ◌++◌, length, take}
use Rattle.std.proofs.Common.{ap, sym, ◌∙◌, true≢false, arith, length-append}
use Rattle.text_letters.specs.WroteLaws.{wrote_long}
use Rattle.text_letters.specs.Wrote.{Wrote, Sized}
use Rattle.log_answers.specs.Tells.{told_into, Space, Adds}
use Rattle.log_answers.specs.LoopLaws.{wrote_nothing, Put, put_none, put_room, put_more, put_all}

-- ONE TEXT, as code tells it

pub adds_written : {on : Bool} {t o p : List ℕ} {n r : ℕ} → on ≡ true → Wrote (take n o ++ t) o p r → Adds on t o p n r
adds_written e w = record { written = λ f. w; counted = λ f. absurd (true≢false (sym e ∙ f)) }

pub adds_counted : {on : Bool} {t : List ℕ} (o : List ℕ) (n : ℕ) {x : ℕ} → on ≡ false → Sized t 60 x → Adds on t o o n (n + x)
adds_counted o n e z = record {
  written = λ f. absurd (true≢false (sym f ∙ e));
  counted = λ f. record { is = ap (λ y. n + y) z.is; small = let k = z.small in omega arith; same = refl };
}

-- no text
pub adds_nothing : {on : Bool} (t o : List ℕ) (n : ℕ) → Space on t o n → t ≡ [] → Adds on t o o n n
adds_nothing t o n s e = record {
  written = λ f. wrote_nothing o t n (s.written f) e;
  counted = λ f. record { is = let k = ap length e in omega arith; small = omega arith; same = refl };
}

-- equal texts
pub space_as : {on : Bool} {t u o : List ℕ} {n : ℕ} → t ≡ u → Space on t o n → Space on u o n
space_as e s = rw e at s

pub adds_as : {on : Bool} {t u o p : List ℕ} {n r : ℕ} → t ≡ u → Adds on u o p n r → Adds on t o p n r
adds_as e w = rw e w

-- THE WHOLE TEXT
pub written_wrote : {t o p : List ℕ} {r : ℕ} → (r ≡ length t) × (p ≡ told_into true t o) → Wrote t o p r
unfolding told_into
written_wrote w = record { count = w.0; bytes = w.1 }

pub counted_same : (t : List ℕ) {o p : List ℕ} → p ≡ told_into false t o → p ≡ o
unfolding told_into
counted_same t e = e

-- a buffer keeps its length
pub told_long : (on : Bool) (t o : List ℕ) {p : List ℕ} → (on ≡ true → length t ≤ length o) → p ≡ told_into on t o → length p ≡ length o
told_long true t o h e = wrote_long (h refl) (written_wrote (refl, e))
told_long false t o h e = ap length (counted_same t e)

-- WHAT IS TOLD SO FAR, n bytes for `at` bytes of lines: with what is left it is the whole
pub record Sizes (whole o₀ o left : List ℕ) (n at : ℕ) : Type 0 where
  pub is : length whole ≡ n + length left
  pub small : n ≤ 60 * at
  pub same : o ≡ o₀

pub record Run (on : Bool) (whole o₀ o left : List ℕ) (n at : ℕ) : Type 0 where
  pub written : on ≡ true → Put whole o₀ o left n
  pub counted : on ≡ false → Sizes whole o₀ o left n at

pub run_none : (on : Bool) (whole o : List ℕ) → Run on whole o o whole 0 0
run_none on whole o = record {
  written = λ e. put_none o whole refl;
  counted = λ e. record { is = omega arith; small = omega arith; same = refl };
}

module _ {on : Bool} {whole o₀ o left : List ℕ} {n at : ℕ} (h : on ≡ true → length whole ≤ length o₀) (p : Run on whole o₀ o left n at)
    (t u : List ℕ) (e : left ≡ t ++ u) where
  -- what comes next can be told
  pub run_space : {l : ℕ} → at ≤ l → l ≤ 65536 → Space on t o n
  run_space i j = record {
    written = λ f. put_room (h f) (p.written f) t u e;
    counted = λ f. let s = (p.counted f).small in omega arith;
  }

  pub run_more : {q : List ℕ} {m : ℕ} (k : ℕ) → Adds on t o q n m → Run on whole o₀ q u m (at + k + 1)
  run_more k a = record {
    written = λ f. put_more (h f) (p.written f) t u e (a.written f);
    counted = λ f.
        let s = p.counted f in
        let c = a.counted f in
        let i = s.is in let j = s.small in let d = c.is in let g = c.small in
        let b : length left ≡ length t + length u = ap length e ∙ length-append t u in
        record { is = omega arith; small = omega arith; same = c.same ∙ s.same };
  }

-- nothing is left
pub run_all : (on : Bool) {whole o₀ o : List ℕ} {n at : ℕ} → Run on whole o₀ o [] n at → (n ≡ length whole) × (o ≡ told_into on whole o₀)
unfolding told_into
run_all true p = let w = put_all (p.written refl) in (w.count, w.bytes)
run_all false p = let s = p.counted refl in let i = s.is in (omega arith, s.same)
