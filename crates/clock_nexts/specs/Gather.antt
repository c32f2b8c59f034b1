-- The VCPUs that recur, gathered into a set.
use Rattle.std.specs.Prelude.{ℕ, ◌+◌, ◌-◌, ◌<◌, ◌≤◌, ◌≡◌, refl, List, true, eqb, ltb, get_or}
use Rattle.std.proofs.Common.{ap, subst, ◌∙◌, ⊎_elim, arith, eq-eqb, lt-ltb}
use Rattle.laws.specs.BoolLaws.{either_left, either_right, same_or_not}
use Rattle.board_keeps.specs.Fair.{InV}
use Rattle.clock_sets.specs.Sets.{in_set, With}
use Rattle.clock_nexts.specs.Nexts.{period_at, HasTops}

-- those of the first i are in
pub record Gathered (x : List ℕ) (i s : ℕ) : Type 0 where
  pub few : i ≤ 16
  pub is_set : s < 65536
  pub has : (v : ℕ) → InV v → v ≤ i → 0 < period_at x (v - 1) → in_set s v ≡ true

pub gathered_first : (x : List ℕ) → Gathered x 0 0
gathered_first x = record { few = omega arith; is_set = omega arith; has = λ v i l e. absurd (let f = i.from in omega arith) }

pub gathered_with : {s v r : ℕ} → InV v → With s v r → (r < 65536) × ((w : ℕ) → InV w → in_set s w ≡ true → in_set r w ≡ true) × (in_set r v ≡ true)
gathered_with {s} {v} {r} i q = (
  q.wide,
  λ w j e. q.names w j.from j.to ∙ either_left (in_set s w) (eqb w v) e,
  q.names v i.from i.to ∙ either_right (in_set s v) (eqb v v) (eq-eqb v v refl),
)

pub gathered_more : {x : List ℕ} {i s p r : ℕ} → Gathered x i s → i < 16 → p ≡ get_or x (16 + i) 0 → (r < 65536) × ((w : ℕ) → InV w → in_set s w ≡ true → in_set r w ≡ true) × (ltb 0 p ≡ true → in_set r (i + 1) ≡ true) → Gathered x (i + 1) r
gathered_more {x} {i} {s} {p} {r} g l e q = record {
  few = omega arith;
  is_set = q.0;
  has = λ v j m h.
      ⊎_elim
      (λ z. subst (λ u. in_set r u ≡ true) {x = i + 1} {y = v} (omega arith) (q.2 (lt-ltb 0 p (subst (λ u. 0 < u) (ap (λ u. get_or x (16 + u) 0) {x = v - 1} {y = i} (omega arith) ∙ sym_of e) h))))
      (λ ne. q.1 v j (g.has v j (omega arith) h)) (same_or_not v (i + 1));
}
  where
    sym_of : {a c : ℕ} → a ≡ c → c ≡ a
    sym_of y = let z = y in omega arith

pub gathered_all : {x : List ℕ} {i s : ℕ} → Gathered x i s → 16 ≤ i → HasTops x s
gathered_all g l = record { is_set = g.is_set; has = λ v j h. g.has v j (let t = j.to in omega arith) h }
