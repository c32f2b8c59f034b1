-- Laws of the locks of a task: the first lock that begins, or ends, at d is found among the eight places as it is found in the list.
use Prim.Native.Nat.{ℕ, zero, suc, ◌+◌, ◌-◌, ◌<◌, ◌≤◌}
use Rattle.std.specs.Prelude.{◌≡◌, Bool, true, false, ◌&&◌, ◌⊎◌, eqb, ltb, leb, length, get_or, take}
use Rattle.std.proofs.Math.Path.{refl, ap}
use Rattle.std.proofs.Common.{sym, ◌∙◌, inl, ⊎_elim, eq-zero-or-pos, lt-ltb, le-leb, eq-eqb, ne_eqb, eqb-true}
use mathlib.Core.List.{List, [], ◌∷◌}
use Rattle.std.proofs.Math.Logic.{inr, by_cases}
use Rattle.std.proofs.Math.Decide.{dec_le}
use native.Mathlib.Omega.{arith}
use Rattle.std.proofs.lemmas.Bool.{eqb-false}
use Rattle.std.proofs.Math.Dec.{eqb-suc-zero}
use Rattle.std.proofs.Math.ListN.{get_or-eq_default}
use Rattle.laws.specs.BoolLaws.{both, miss_left, miss_right, clash}
use Rattle.std.specs.Prelude.{if◌then◌else◌}
use Rattle.laws.specs.Choice.{when}
use Rattle.laws.specs.Sums.{sum, Each}
use Rattle.laws.specs.SumLaws.{each_at_law}
use Rattle.laws.specs.RangeLaws.{any_hit, none_of}
use Rattle.laws_picks.specs.Picks.{lowest}
use Rattle.laws_picks.specs.PickLaws.{lowest_passes, lowest_least, lowest_zero}
use Rattle.plan.specs.Plan.{no_lock}
use Rattle.plan.specs.declared.Lock.{Lock}
use Rattle.clock_rules.specs.Clock.{begins_in, ends_in}

-- THE LOWEST NUMBER THAT PASSES: the one with nothing below it
lowest_is : (n k : ℕ) (f : ℕ → Bool) → 0 < k → k ≤ n → f k ≡ true → ((j : ℕ) → 0 < j → j < k → f j ≡ false) → lowest n f ≡ k
lowest_is n k f g l e h =
    let least = lowest_least n k f g l e in
    ⊎_elim
    (λ z. absurd (clash (any_hit n k f g l e) ((lowest_zero n f).1 z)))
    (λ p. by_cases (dec_le k (lowest n f)) (λ m. omega arith) (λ m. absurd (clash (lowest_passes n f p) (h (lowest n f) p (omega arith)))))
    (eq-zero-or-pos (lowest n f))

-- THE FIRST LOCK AT d

-- how many ticks are done when lock i, from 0, is at what g says of it, where the first lock begins when `at` are
abbrev pub place_in : (ℕ → Lock → ℕ) → ℕ → List Lock → ℕ → ℕ
place_in g at ls i = g (at + sum (λ l. l.ticks + l.after) (take i ls)) (get_or ls i no_lock)

-- the mutex of the first lock that is at d, 0 for none
unfoldable pub picks_in : (ℕ → Lock → ℕ) → ℕ → List Lock → ℕ → ℕ
picks_in g at [] d = 0
picks_in g at (l ∷ ls) d = if eqb d (g at l) then l.m else picks_in g (at + l.ticks + l.after) ls d

pub begins_picks : (at : ℕ) (ls : List Lock) (d : ℕ) → picks_in (λ t l. t) at ls d ≡ begins_in at ls d
unfolding picks_in begins_in
begins_picks at [] d = refl
begins_picks at (l ∷ ls) d = ap (λ x. if eqb d at then l.m else x) (begins_picks (at + l.ticks + l.after) ls d)

pub ends_picks : (at : ℕ) (ls : List Lock) (d : ℕ) → picks_in (λ t l. t + l.ticks) at ls d ≡ ends_in at ls d
unfolding picks_in ends_in
ends_picks at [] d = refl
ends_picks at (l ∷ ls) d = ap (λ x. if eqb d (at + l.ticks) then l.m else x) (ends_picks (at + l.ticks + l.after) ls d)

-- lock i is the first at d, and r is its mutex
record Hit (g : ℕ → Lock → ℕ) (at : ℕ) (ls : List Lock) (d r : ℕ) : Type 0 where
  place : ℕ
  inside : place < length ls
  here : place_in g at ls place ≡ d
  not_yet : (h : ℕ) → h < place → place_in g at ls h ≡ d → ⊥
  mutex : r ≡ (get_or ls place no_lock).m

-- no lock is at d, and r is 0
record Miss (g : ℕ → Lock → ℕ) (at : ℕ) (ls : List Lock) (d r : ℕ) : Type 0 where
  nowhere : (h : ℕ) → h < length ls → place_in g at ls h ≡ d → ⊥
  nothing : r ≡ 0

module _ (g : ℕ → Lock → ℕ) where
  place_first : (at : ℕ) (l : Lock) (ls : List Lock) → place_in g at (l ∷ ls) 0 ≡ g at l
  unfolding sum
  place_first at l ls = let z : at + 0 ≡ at = omega arith in ap (λ t. g t l) z

  place_next : (at : ℕ) (l : Lock) (ls : List Lock) (i : ℕ) → place_in g at (l ∷ ls) (suc i) ≡ place_in g (at + l.ticks + l.after) ls i
  unfolding sum
  place_next at l ls i =
      let s = sum (λ x. x.ticks + x.after) (take i ls) in
      let z : at + ((l.ticks + l.after) + s) ≡ (at + l.ticks + l.after) + s = omega arith in
      ap (λ t. g t (get_or ls i no_lock)) z

  picks : (at : ℕ) (ls : List Lock) (d : ℕ) → Hit g at ls d (picks_in g at ls d) ⊎ Miss g at ls d (picks_in g at ls d)
  unfolding picks_in
  picks at [] d = inr (record { nowhere = λ h l e. omega arith; nothing = refl })
  picks at (l ∷ ls) d = go (eqb d (g at l)) refl (picks (at + l.ticks + l.after) ls d)
    where
      next : ℕ
      next = at + l.ticks + l.after

      go :
          (t : Bool) → eqb d (g at l) ≡ t → Hit g next ls d (picks_in g next ls d) ⊎ Miss g next ls d (picks_in g next ls d) →
          Hit g at (l ∷ ls) d (if t then l.m else picks_in g next ls d) ⊎ Miss g at (l ∷ ls) d (if t then l.m else picks_in g next ls d)
      go true e r =
          inl (record {
            place = 0;
            inside = omega arith;
            here = place_first at l ls ∙ sym (eqb-true d (g at l) e);
            not_yet = λ h b q. omega arith;
            mutex = refl;
          })
      go false e (inl r) =
          inl (record {
            place = suc r.place;
            inside = let b = r.inside in omega arith;
            here = place_next at l ls r.place ∙ r.here;
            not_yet = elim [
              | zero ↦ λ b q. eqb-false d (g at l) e (sym (sym (place_first at l ls) ∙ q))
              | suc h ↦ λ b q. r.not_yet h (omega arith) (sym (place_next at l ls h) ∙ q)
            ];
            mutex = r.mutex;
          })
      go false e (inr r) =
          inr (record {
            nowhere = elim [
              | zero ↦ λ b q. eqb-false d (g at l) e (sym (sym (place_first at l ls) ∙ q))
              | suc h ↦ λ b q. r.nowhere h (omega arith) (sym (place_next at l ls h) ∙ q)
            ];
            nothing = r.nothing;
          })

  -- EIGHT PLACES, or n: m has the mutexes of the locks, c when each is at what g says of it, both from 1
  module _ (n at : ℕ) (ls : List Lock) (m c : ℕ → ℕ) (d : ℕ)
      (few : length ls ≤ n) (named : Each (λ l. 1 ≤ l.m) ls)
      (m_is : (j : ℕ) → 0 < j → j ≤ n → m j ≡ (get_or ls (j - 1) no_lock).m)
      (c-is : (j : ℕ) → 0 < j → j ≤ n → c j ≡ when (leb j (length ls)) (place_in g at ls (j - 1))) where
    abbrev passes : ℕ → Bool
    passes j = ltb 0 (m j) && eqb (c j) d

    -- the mutex at place j, 0 for no place
    abbrev mutex_at : ℕ → ℕ
    mutex_at j = if eqb j 0 then 0 else m j

    some_place : (i : ℕ) → mutex_at (suc i) ≡ m (suc i)
    some_place i = ap (λ t. if t then 0 else m (suc i)) (eqb-suc-zero i)

    -- the place of a lock that the task has
    c_in : (j : ℕ) → 0 < j → j ≤ length ls → c j ≡ place_in g at ls (j - 1)
    unfolding when
    c_in j a b = c-is j a (omega arith) ∙ ap (λ t. when t (place_in g at ls (j - 1))) (le-leb j (length ls) b)

    -- a place that is not at d, and one beyond the locks
    fails_in : (j : ℕ) → 0 < j → j ≤ length ls → (place_in g at ls (j - 1) ≡ d → ⊥) → passes j ≡ false
    fails_in j a b q = miss_right (ltb 0 (m j)) (eqb (c j) d) (ne_eqb (c j) d (λ e. q (sym (c_in j a b) ∙ e)))

    fails_out : (j : ℕ) → 0 < j → j ≤ n → length ls < j → passes j ≡ false
    fails_out j a b q =
        let z : m j ≡ 0 = m_is j a b ∙ ap (λ (l : Lock). l.m) (get_or-eq_default ls no_lock (omega arith)) in
        miss_left (ltb 0 (m j)) (eqb (c j) d) (ap (ltb 0) z)

    -- the pick of the places, where a lock is at d and where none is
    hit : Hit g at ls d (picks_in g at ls d) → mutex_at (lowest n passes) ≡ picks_in g at ls d
    hit r =
        let i = r.place in
        let b = r.inside in
        let z : suc i - 1 ≡ i = omega arith in
        let own : m (suc i) ≡ (get_or ls i no_lock).m = m_is (suc i) (omega arith) (omega arith) ∙ ap (λ x. (get_or ls x no_lock).m) z in
        let some : 1 ≤ (get_or ls i no_lock).m = each_at_law (λ l. 1 ≤ l.m) ls i no_lock named b in
        let here = eq-eqb (c (suc i)) d (c_in (suc i) (omega arith) (omega arith) ∙ ap (place_in g at ls) z ∙ r.here) in
        let lowest-here =
        lowest_is n (suc i) passes (omega arith) (omega arith)
        (both (ltb 0 (m (suc i))) (eqb (c (suc i)) d) (lt-ltb 0 (m (suc i)) (omega arith)) here)
        (λ j a l. fails_in j a (omega arith) (r.not_yet (j - 1) (omega arith))) in
        ap mutex_at lowest-here ∙ some_place i ∙ own ∙ sym r.mutex

    miss : Miss g at ls d (picks_in g at ls d) → mutex_at (lowest n passes) ≡ picks_in g at ls d
    miss r =
        let none =
        none_of n passes (λ j a l.
        by_cases (dec_le j (length ls)) (λ b. fails_in j a b (r.nowhere (j - 1) (omega arith))) (λ o. fails_out j a l (omega arith))) in
        ap mutex_at ((lowest_zero n passes).0 none) ∙ sym r.nothing

    pub eight_pick : mutex_at (lowest n passes) ≡ picks_in g at ls d
    eight_pick = ⊎_elim hit miss (picks at ls d)
