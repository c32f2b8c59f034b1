-- Laws of the loops that look for the least next.
use Rattle.std.specs.Prelude.{ℕ, ◌+◌, ◌<◌, ◌≤◌, ◌≡◌, refl, Bool, true, false, ltb}
use Rattle.std.proofs.Common.{sym, subst, le_antisymm, arith, below_more, ltb-true, ltb-false, lt-ltb, le-ltb}
use Rattle.std.specs.Prelude.{if◌then◌else◌}
use Rattle.clock_nexts.specs.Nexts.{never, sooner, Soonest}

-- THE SOONER of two
pub sooner_it : (a b : ℕ) → a < b → a ≡ sooner a b
sooner_it a b l = rw (lt-ltb a b l)

pub sooner_not : (a b : ℕ) → b ≤ a → b ≡ sooner a b
sooner_not a b l = rw (le-ltb a b l)

-- THE LEAST
module _ {f : ℕ → ℕ} {a : ℕ} where
  pub soonest_none : Soonest f a a never
  soonest_none = record { least = λ j l m. absurd (omega arith); most = λ b l h. l }

  pub soonest_more : {i r s : ℕ} → Soonest f a i r → a ≤ i → s ≡ sooner (f i) r → Soonest f a (i + 1) s
  soonest_more {i} {r} {s} h l e = subst (Soonest f a (i + 1)) (sym e) (go (ltb (f i) r) refl)
    where
      -- for one more the bound holds too
      one_more : {q : ℕ} → q ≤ r → q ≤ f i → (j : ℕ) → a ≤ j → j < i + 1 → q ≤ f j
      one_more {q} u v j m n = below_more (λ j. a ≤ j → q ≤ f j) i (λ j n m. let z = h.least j m n in omega arith) (λ m. v) j n m

      go : (b : Bool) → ltb (f i) r ≡ b → Soonest f a (i + 1) (if b then f i else r)
      go true q = let z = ltb-true (f i) r q in record {
        least = one_more (omega arith) (omega arith);
        most = λ b m g. g i l (omega arith);
      }
      go false q = let z = ltb-false (f i) r q in record {
        least = one_more (omega arith) z;
        most = λ b m g. h.most b m (λ j u v. g j u (omega arith));
      }

-- the same where the last is written otherwise
pub soonest_to : {f : ℕ → ℕ} {a i n r : ℕ} → Soonest f a i r → i ≤ n → n ≤ i → Soonest f a n r
soonest_to {f} {a} {r = r} h l m = subst (λ n. Soonest f a n r) (le_antisymm l m) h
