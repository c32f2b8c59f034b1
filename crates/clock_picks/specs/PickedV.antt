-- The VCPU that a core picks, by the sets that the clock keeps.
use Rattle.std.specs.Prelude.{ℕ, zero, suc, ◌+◌, ◌<◌, ◌≤◌, ◌≡◌, refl, List, Bool, true, false, ◌&&◌, ◌||◌, eqb, ltb, get_or}
use Rattle.std.proofs.Common.{sym, ap₂, ◌∙◌, arith, ne_eqb, lt-ltb}
use Rattle.std.proofs.Math.Path.{ap}
use Rattle.std.proofs.Math.Bool.{not, and-true}
use Rattle.laws.specs.Range.{highest}
use Rattle.laws.specs.RangeLaws.{highest_same}
use Rattle.laws.specs.BoolLaws.{both, miss_right, clash, is_false}
use Rattle.plan.specs.declared.OverrunChoice.{OverrunChoice}
use Rattle.plan.specs.declared.OverrunChoice.TheVariants.{WithOverrun, WithoutOverrun}
use Rattle.board_rules.specs.Facts.{Facts}
use Rattle.board_rules.specs.declared.Board.{Board}
use Rattle.board_rules.specs.Board.{left_of, over_of, is_stopped, holds_global, reserve, supply, is_asleep, vcpu_priority}
use Rattle.board_keeps.specs.Fair.{InV}
use Rattle.clock_rules.specs.Clock.{Timing, has_ready, is_on, may_run, pick_v}
use Rattle.clock_sets.specs.Sets.{in_set, Meet, Join, Less}
use Rattle.clock_sets.specs.SetLaws.{in_none, some_vcpu}
use Rattle.clock_marks.specs.Marks.{at_cores, at_budget, at_spare, at_ready, at_holding, spares, done_in, Mirrors}
use Rattle.laws_picks.specs.SameLaws.{any_same}
use Rattle.clock_picks.specs.Tops.{top_plain, top_raised}
use Rattle.clock_dues.specs.Picking.{is_candidate, Idlers}

-- AWAKE: with budget, or with an overrun that counts under a global mutex

some_left : (l z : ℕ) → not (eqb (l + z) 0) ≡ (ltb 0 l || ltb 0 z)
some_left zero zero = refl
some_left zero (suc z) = rw (ne_eqb (0 + suc z) 0 (λ e. omega arith), lt-ltb 0 (suc z) (omega arith))
some_left (suc l) z = rw (ne_eqb (suc l + z) 0 (λ e. omega arith), lt-ltb 0 (suc l) (omega arith))

some_reserve : (ch : OverrunChoice) (h s : Bool) (o : ℕ) → ltb 0 (reserve ch h s o) ≡ (spares ch s o && h)
some_reserve WithoutOverrun h s o = refl
some_reserve WithOverrun true true o = refl
some_reserve WithOverrun true false o = sym (and-true (ltb 0 o))
some_reserve WithOverrun false s o = sym (miss_right (spares WithOverrun s o) false refl)

pub awake_is : (F : Facts) (b : Board) (v : ℕ) → not (is_asleep F b v) ≡ (ltb 0 (left_of b v) || (spares F.choice (is_stopped b v) (over_of b v) && holds_global F b v))
unfolding supply
awake_is F b v =
    some_left (left_of b v) (reserve F.choice (holds_global F b v) (is_stopped b v) (over_of b v))
    ∙ ap (λ t. ltb 0 (left_of b v) || t) (some_reserve F.choice (holds_global F b v) (is_stopped b v) (over_of b v))

-- THE SET of those that may run, made of the sets that are kept

regroup : (a r w : Bool) → ((a && r) && w) ≡ (a && (w && r))
regroup true true true = refl
regroup true true false = refl
regroup true false true = refl
regroup true false false = refl
regroup false r w = refl

pub candidates_are : (k : List ℕ) (c : ℕ) {on spare holding budget ready spared awake both r : ℕ}
    → on ≡ get_or k (at_cores + c) 0 → spare ≡ get_or k at_spare 0 → holding ≡ get_or k at_holding 0 → budget ≡ get_or k at_budget 0 → ready ≡ get_or k at_ready 0
    → Meet spare holding spared → Join budget spared awake → Meet on ready both → Meet both awake r
    → (v : ℕ) → 0 < v → v ≤ 16 → in_set r v ≡ is_candidate k c v
candidates_are k c e1 e2 e3 e4 e5 m1 m2 m3 m4 v a l =
    m4.names v a l
    ∙ ap₂ ◌&&◌
    (m3.names v a l ∙ ap₂ ◌&&◌ (ap (λ s. in_set s v) e1) (ap (λ s. in_set s v) e5))
    (m2.names v a l ∙ ap₂ ◌||◌ (ap (λ s. in_set s v) e4) (m1.names v a l ∙ ap₂ ◌&&◌ (ap (λ s. in_set s v) e2) (ap (λ s. in_set s v) e3)))

module _ {T : Timing} {x : List ℕ} {b : Board} {k : List ℕ} (m : Mirrors T x b k) (c : ℕ) (i : c ≤ 3) where
  candidate_runs : (v : ℕ) → InV v → is_candidate k c v ≡ may_run T c b (done_in k) v
  candidate_runs v j =
      ap₂ ◌&&◌ (ap₂ ◌&&◌ (m.cores c v i j) (m.ready v j)) (ap₂ ◌||◌ (m.budget v j) (ap₂ ◌&&◌ (m.spare v j) (m.holding v j)) ∙ sym (awake_is T.facts b v))
      ∙ regroup (is_on T c v) (has_ready T b (done_in k) v) (not (is_asleep T.facts b v))

  module _ {s h u : ℕ} (names : (v : ℕ) → 0 < v → v ≤ 16 → in_set s v ≡ is_candidate k c v) (e : h ≡ get_or k at_holding 0) (meet : Meet s h u) where
    runs : (v : ℕ) → 0 < v → v ≤ 16 → in_set s v ≡ may_run T c b (done_in k) v
    runs v a l = names v a l ∙ candidate_runs v (record { from = a; to = l })

    raised : (v : ℕ) → 0 < v → v ≤ 16 → in_set u v ≡ (may_run T c b (done_in k) v && holds_global T.facts b v)
    raised v a l = meet.names v a l ∙ ap₂ ◌&&◌ (runs v a l) (ap (λ s. in_set s v) e ∙ m.holding v (record { from = a; to = l }))

    -- none of them has a task that holds a global mutex: the highest
    pub pick_v_plain : {r : ℕ} → u ≡ 0 → r ≡ highest 16 (in_set s) → r ≡ pick_v T c b (done_in k)
    unfolding pick_v vcpu_priority
    pick_v_plain z q =
        q ∙ highest_same 16 runs ∙ top_plain 16 (may_run T c b (done_in k)) (vcpu_priority T.facts b)
        (λ v a l t. rw (is_false (holds_global T.facts b v) (λ y. clash (both _ _ t y) (sym (raised v a l) ∙ (ap (λ s. in_set s v) z ∙ in_none v)))))

    -- one has: the highest of those
    pub pick_v_raised : {r : ℕ} → (u ≡ 0 → ⊥) → u < 65536 → r ≡ highest 16 (in_set u) → r ≡ pick_v T c b (done_in k)
    unfolding pick_v vcpu_priority
    pick_v_raised z w q =
        q ∙ highest_same 16 raised ∙ top_raised 16 (may_run T c b (done_in k)) (vcpu_priority T.facts b) (holds_global T.facts b)
        (λ v a l t y. rw y) (λ v a l t y. rw y)
        (sym (any_same 16 raised) ∙ (some_vcpu u w ∙ ap not (ne_eqb u 0 z)))

-- THE SET of those that idle

grouped : (a c r : Bool) → ((a && c) && r) ≡ (a && (c && r))
grouped true c r = refl
grouped false c r = refl

pub idlers_are : (k : List ℕ) (c : ℕ) {on budget ready both r : ℕ} → c ≤ 3
    → on ≡ get_or k (at_cores + c) 0 → budget ≡ get_or k at_budget 0 → ready ≡ get_or k at_ready 0 → Meet on budget both → Less both ready r → Idlers k c r
idlers_are k c i e f g meet less T x b m v j =
    less.names v j.from j.to
    ∙ ap₂ (λ s t. s && not t)
    (meet.names v j.from j.to ∙ ap₂ ◌&&◌ (ap (λ s. in_set s v) e ∙ m.cores c v i j) (ap (λ s. in_set s v) f ∙ m.budget v j))
    (ap (λ s. in_set s v) g ∙ m.ready v j)
    ∙ grouped (is_on T c v) (ltb 0 (left_of b v)) (not (has_ready T b (done_in k) v))
