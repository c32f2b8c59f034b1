-- Walks over a set of VCPUs, from the lowest up: a bound by each of them, and which of them idle. The least of four bounds.
use Rattle.std.specs.Prelude.{ℕ, zero, suc, ◌-◌, ◌<◌, ◌≤◌, ◌≡◌, refl, Bool, true, false, ◌&&◌, not, List, eqb, ltb, get_or}
use Rattle.std.proofs.Common.{sym, ap, subst, ◌∙◌, ⊎_elim, arith, eq-eqb, ne_eqb}
use Rattle.laws.specs.BoolLaws.{miss_right, clash, same_or_not}
use Rattle.laws_picks.specs.Picks.{lowest}
use Rattle.laws_picks.specs.PickLaws.{lowest_le, lowest_passes, lowest_zero}
use Rattle.plan.specs.declared.Policy.{Policy}
use Rattle.board_rules.specs.Board.{left_of, under_p}
use Rattle.board_keeps.specs.Fair.{InV}
use Rattle.clock_sets.specs.Sets.{in_set, Without}
use Rattle.clock_sets.specs.SetLaws.{some_vcpu, in_none}
use Rattle.clock_rules.specs.Clock.{is_on, has_ready}
use Rattle.clock_marks.specs.Marks.{done_in}
use Rattle.clock_dues.specs.Picking.{Idlers}
use Rattle.clock_reaches.specs.Stretches.{ticks_cell, Idles, Within}

module _ {s : ℕ} (is_set : s < 65536) (nz : s ≡ 0 → ⊥) {v : ℕ} (e : v ≡ lowest 16 (in_set s)) where
  some : 0 < lowest 16 (in_set s)
  some =
      let z : lowest 16 (in_set s) ≡ 0 → ⊥ = λ q. clash (some_vcpu s is_set ∙ ap not (ne_eqb s 0 nz)) ((lowest_zero 16 (in_set s)).1 q) in
      omega arith

  -- the lowest is a name
  pub next_in_law : InV v
  next_in_law = record { from = omega (arith, some); to = omega (arith, lowest_le 16 (in_set s)) }

  -- of the set
  pub is_in : in_set s v ≡ true
  is_in = ap (in_set s) e ∙ lowest_passes 16 (in_set s) some

  -- the set without it is smaller
  pub set_less : {s' : ℕ} → Without s v s' → s' < s
  set_less {s'} q =
      let l = q.within in
      let ne : s' ≡ s → ⊥ = λ z. clash (ap (λ x. in_set x v) z ∙ is_in) (q.names v next_in_law.from next_in_law.to ∙ miss_right (in_set s v) _ (ap not (eq-eqb v v refl))) in
      omega arith

-- a set without v has the others as before
pub still_out : {s v s' w : ℕ} → Without s v s' → InV w → (w ≡ v → ⊥) → in_set s' w ≡ in_set s w
still_out {s} {v} {s'} {w} q i ne = q.names w i.from i.to ∙ keeps (in_set s w) (eqb w v) (ne_eqb w v ne)
  where
    keeps : (a b : Bool) → b ≡ false → (a && not b) ≡ a
    keeps true b e = ap not e
    keeps false b e = refl

-- and not v
pub now_out : {s v s' : ℕ} → Without s v s' → InV v → in_set s' v ≡ false
now_out {s} {v} q i = q.names v i.from i.to ∙ miss_right (in_set s v) _ (ap not (eq-eqb v v refl))

-- BOUNDED by each of s₀ that is no longer in s
pub record Bounded (ls : List ℕ) (s₀ k₀ s k : ℕ) : Type 0 where
  pub is_set : s < 65536
  pub to : k ≤ k₀
  pub bound : (w : ℕ) → InV w → in_set s₀ w ≡ true → in_set s w ≡ false → 0 < k → k < get_or ls (w - 1) 0

pub bounded_first : (ls : List ℕ) (s k : ℕ) → s < 65536 → Bounded ls s k s k
bounded_first ls s k l = record { is_set = l; to = omega arith; bound = λ w i e f. absurd (clash e f) }

module _ {ls : List ℕ} {s₀ k₀ s k : ℕ} (g : Bounded ls s₀ k₀ s k) where
  pub bounded_all : s ≡ 0 → (k ≤ k₀) × Within ls s₀ k
  bounded_all z = (g.to, λ w i e. g.bound w i e (ap (λ x. in_set x w) z ∙ in_none w))

  pub bounded_more : {v s' k' : ℕ} → Without s v s' → k' ≤ get_or ls (v - 1) 0 - 1 → k' ≤ k → Bounded ls s₀ k₀ s' k'
  bounded_more {v} {s'} {k'} q a l = record {
    is_set = let y = q.within in let z = g.is_set in omega arith;
    to = let y = g.to in omega arith;
    bound = λ w i e f h.
        ⊎_elim (λ z. subst (λ y. k' < get_or ls (y - 1) 0) (sym z) (omega arith))
        (λ ne. let y = g.bound w i e (sym (still_out q i ne) ∙ f) (omega arith) in omega arith)
        (same_or_not w v);
  }

-- WHO IDLES under P
pub idles_p : {p : Policy} {k : List ℕ} {c r : ℕ} → under_p p ≡ true → Idlers k c r → Idles p k c r
idles_p {p} {k} {c} {r} e h = record {
  are = λ T x b f m w i.
      h T x b m w i ∙ ap (λ y. y && (is_on T c w && (ltb 0 (left_of b w) && not (has_ready T b (done_in k) w)))) (sym (ap under_p f ∙ e));
}

-- and under D
pub idles_d : {p : Policy} {k : List ℕ} {c r : ℕ} → under_p p ≡ false → r ≡ 0 → Idles p k c r
idles_d {p} {k} {c} {r} e z = record {
  are = λ T x b f m w i.
      ap (λ y. in_set y w) z ∙ in_none w ∙ ap (λ y. y && (is_on T c w && (ltb 0 (left_of b w) && not (has_ready T b (done_in k) w)))) (sym (ap under_p f ∙ e));
}

-- the least of four
pub least_four : (pl : List ℕ) {a b c d r : ℕ} → a ≡ get_or pl 0 0 → b ≡ get_or pl 1 0 → c ≡ get_or pl 2 0 → d ≡ get_or pl 3 0 → r ≤ a → r ≤ b → r ≤ c → r ≤ d → (i : ℕ) → i ≤ 3 → r ≤ ticks_cell pl i
least_four pl e f g h x y z w zero l = omega arith
least_four pl e f g h x y z w (suc zero) l = omega arith
least_four pl e f g h x y z w (suc (suc zero)) l = omega arith
least_four pl e f g h x y z w (suc (suc (suc zero))) l = omega arith
least_four pl e f g h x y z w (suc (suc (suc (suc i)))) l = absurd (omega arith)
