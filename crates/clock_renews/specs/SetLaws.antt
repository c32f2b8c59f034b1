-- Laws of the walk over the VCPUs that recur, from the lowest up, which writes their nexts.
use Rattle.std.specs.Prelude.{ℕ, ◌+◌, ◌-◌, ◌<◌, ◌≤◌, ◌≡◌, refl, Bool, true, false, ◌&&◌, not, List, eqb, ltb, length, get_or, set}
use Rattle.std.proofs.Common.{sym, ap, subst, ◌∙◌, ⊎_elim, eq-zero-or-pos, arith, eq-eqb, ne_eqb, ltb-true, ltb-false, length-set, get_or-set_same, get_or-set_other}
use Rattle.std.specs.Prelude.{if◌then◌else◌}
use Rattle.laws.specs.BoolLaws.{miss_right, clash, same_or_not}
use Rattle.laws_picks.specs.Picks.{lowest}
use Rattle.laws_picks.specs.PickLaws.{lowest_le, lowest_passes, lowest_zero}
use Rattle.plan.specs.Limits.{max_v}
use Rattle.board_keeps.specs.Fair.{InV}
use Rattle.clock_sets.specs.Sets.{in_set, Without}
use Rattle.clock_sets.specs.SetLaws.{some_vcpu, in_none}
use Rattle.clock_nexts.specs.Nexts.{period_at, next_at, nexts_length, never, Tops, HasTops, renewed, renewal, sooner, Wrote, Soonest}
use Rattle.clock_nexts.specs.WriteLaws.{renewed_not}

module _ {s : ℕ} (is_set : s < 65536) (nz : s ≡ 0 → ⊥) {v : ℕ} (e : v ≡ lowest 16 (in_set s)) where
  some : 0 < lowest 16 (in_set s)
  some =
      let z : lowest 16 (in_set s) ≡ 0 → ⊥ = λ q. clash (some_vcpu s is_set ∙ ap not (ne_eqb s 0 nz)) ((lowest_zero 16 (in_set s)).1 q) in
      omega arith

  -- the lowest is a name
  pub next_in_law : InV v
  next_in_law = record { from = omega (arith, some); to = omega (arith, lowest_le 16 (in_set s)) }

  -- of the set
  is_in : in_set s v ≡ true
  is_in = ap (in_set s) e ∙ lowest_passes 16 (in_set s) some

  -- the set without it is smaller
  pub set_less : {s' : ℕ} → Without s v s' → s' < s
  set_less {s'} q =
      let l = q.within in
      let ne : s' ≡ s → ⊥ = λ z. clash (ap (λ x. in_set x v) z ∙ is_in) (q.names v next_in_law.from next_in_law.to ∙ miss_right (in_set s v) _ (ap not (eq-eqb v v refl))) in
      omega arith

-- a set without v has the others as before
still_out : {s v s' w : ℕ} → Without s v s' → InV w → (w ≡ v → ⊥) → in_set s' w ≡ in_set s w
still_out {s} {v} {s'} {w} q i ne = q.names w i.from i.to ∙ keeps (in_set s w) (eqb w v) (ne_eqb w v ne)
  where
    keeps : (a b : Bool) → b ≡ false → (a && not b) ≡ a
    keeps true b e = ap not e
    keeps false b e = refl

-- and not v
now_out : {s v s' : ℕ} → Without s v s' → InV v → in_set s' v ≡ false
now_out {s} {v} q i = q.names v i.from i.to ∙ miss_right (in_set s v) _ (ap not (eq-eqb v v refl))

-- the sooner of two is not above either
sooner_left : (a b : ℕ) → sooner a b ≤ a
sooner_left a b = go (ltb a b) refl
  where
    go : (c : Bool) → ltb a b ≡ c → (if c then a else b) ≤ a
    go true q = omega arith
    go false q = ltb-false a b q

sooner_right : (a b : ℕ) → sooner a b ≤ b
sooner_right a b = go (ltb a b) refl
  where
    go : (c : Bool) → ltb a b ≡ c → (if c then a else b) ≤ b
    go true q = let z = ltb-true a b q in omega arith
    go false q = omega arith

-- and is one of them
sooner_most : (a b q : ℕ) → q ≤ a → q ≤ b → q ≤ sooner a b
sooner_most a b q l m = go (ltb a b)
  where
    go : (c : Bool) → q ≤ (if c then a else b)
    go true = l
    go false = m

-- RENEWING: each VCPU that is no longer in s is renewed, and r is not above the next of any of these
pub record Renewing (x y : List ℕ) (t s : ℕ) (y' : List ℕ) (r : ℕ) : Type 0 where
  pub is_set : s < 65536
  pub long : length y' ≡ length y
  pub old : (w : ℕ) → InV w → in_set s w ≡ true → next_at y' (w - 1) ≡ next_at y (w - 1)
  pub new : (w : ℕ) → InV w → in_set s w ≡ false → next_at y' (w - 1) ≡ renewal x y t (w - 1)
  pub else_same : (j : ℕ) → max_v ≤ j → get_or y' j 0 ≡ get_or y j 0
  pub least : (w : ℕ) → InV w → in_set s w ≡ false → r ≤ renewal x y t (w - 1)
  pub most : (b : ℕ) → b ≤ never → ((j : ℕ) → 0 ≤ j → j < max_v → b ≤ renewal x y t j) → b ≤ r

-- at first: one outside the set does not recur
module _ {x y : List ℕ} {t s : ℕ} (h : Tops x y t) (to : t ≤ 1000000) (q : HasTops x s) where
  module _ (w : ℕ) (i : InV w) (out : in_set s w ≡ false) where
    out_never : next_at y (w - 1) ≡ never
    out_never =
        (h.nexts (w - 1) (let a = i.from in let b = i.to in omega arith)).none
        (⊎_elim (λ z. z) (λ l. absurd (clash (q.has w i l) out)) (eq-zero-or-pos (period_at x (w - 1))))

    out_same : next_at y (w - 1) ≡ renewal x y t (w - 1)
    out_same = renewed_not (period_at x (w - 1)) (next_at y (w - 1)) t (λ z. let e = out_never in omega arith)

  pub renewing_first : Renewing x y t s y never
  renewing_first = record {
    is_set = q.is_set;
    long = refl;
    old = λ w i e. refl;
    new = out_same;
    else_same = λ j l. refl;
    least = λ w i e. let a = out_never w i e in let b = out_same w i e in omega arith;
    most = λ b l f. l;
  }

module _ {x y : List ℕ} {t s : ℕ} {y' : List ℕ} {r : ℕ} (g : Renewing x y t s y' r) where
  -- at last
  pub renewing_all : s ≡ 0 → Wrote (renewal x y t) y y' 0 max_v × Soonest (renewal x y t) 0 max_v r
  renewing_all z = (
    record {
      length_same = g.long;
      new = λ j l m. subst (λ c. next_at y' c ≡ renewal x y t c) (back j) (g.new (j + 1) (name j m) (none j));
      else_same = λ j out. let n = out (omega arith) in g.else_same j (omega (arith, n));
    },
    record {
      least = λ j l m. subst (λ c. r ≤ renewal x y t c) (back j) (g.least (j + 1) (name j m) (none j));
      most = g.most;
    },
  )
    where
      back : (j : ℕ) → j + 1 - 1 ≡ j
      back j = omega arith

      name : (j : ℕ) → j < max_v → InV (j + 1)
      name j m = record { from = omega arith; to = omega arith }

      none : (j : ℕ) → in_set s (j + 1) ≡ false
      none j = ap (λ a. in_set a (j + 1)) z ∙ in_none (j + 1)

  module _ (nz : s ≡ 0 → ⊥) {v : ℕ} (e : v ≡ lowest 16 (in_set s)) where
    -- the lowest is as it was
    next_old : {j n : ℕ} → j ≡ v - 1 → n ≡ renewed (period_at x j) (next_at y' j) t → n ≡ renewal x y t (v - 1)
    next_old {j} at f =
        f ∙ ap (λ c. renewed (period_at x c) (next_at y' c) t) at ∙ ap (λ c. renewed (period_at x (v - 1)) c t) (g.old v (next_in_law g.is_set nz e) (is_in g.is_set nz e))

    -- one more
    pub renewing_more : {s' j n r' : ℕ} → length y ≡ nexts_length → Without s v s' → j ≡ v - 1 → n ≡ renewed (period_at x j) (next_at y' j) t → r' ≡ sooner n r → Renewing x y t s' (set y' j n) r'
    renewing_more {s'} {j} {n} {r'} long q at f u =
        let i = next_in_law g.is_set nz e in
        let from = i.from in
        let to = i.to in
        let new = next_old at f in
        record {
          is_set = let a = q.within in let z = g.is_set in omega arith;
          long = length-set y' j n ∙ g.long;
          old = λ w a h.
              let ne : w ≡ v → ⊥ = λ z. clash h (ap (in_set s') z ∙ now_out q i) in
              get_or-set_other y' j (w - 1) n 0 (λ z. ne (let b = a.from in omega arith)) ∙ g.old w a (sym (still_out q a ne) ∙ h);
          new = λ w a h.
              ⊎_elim
              (λ z.
              subst (λ c. next_at (set y' j n) (c - 1) ≡ renewal x y t (c - 1)) (sym z)
              (ap (next_at (set y' j n)) (sym at) ∙ get_or-set_same y' j n 0 (let b = g.long in omega arith) ∙ new))
              (λ ne. get_or-set_other y' j (w - 1) n 0 (λ z. ne (let b = a.from in omega arith)) ∙ g.new w a (sym (still_out q a ne) ∙ h))
              (same_or_not w v);
          else_same = λ k l. get_or-set_other y' j k n 0 (λ z. omega arith) ∙ g.else_same k l;
          least = λ w a h.
              ⊎_elim
              (λ z. subst (λ c. r' ≤ renewal x y t (c - 1)) (sym z) (let b = sooner_left n r in omega arith))
              (λ ne. let b = sooner_right n r in let c = g.least w a (sym (still_out q a ne) ∙ h) in omega arith)
              (same_or_not w v);
          most = λ b l k.
              let c = sooner_most n r b (let d = k (v - 1) (omega arith) (omega arith) in omega arith) (g.most b l k) in
              omega arith;
        }
