-- After `use` and `top`, and after any change of one VCPU's budget, overrun and mark.
use Rattle.std.specs.Prelude.{ℕ, ◌+◌, ◌-◌, ◌<◌, ◌≡◌, refl, List, Bool, true, ◌&&◌, ◌⊎◌, eqb, length, get_or, set, Ok, Err}
use Rattle.std.proofs.Math.Path.{sym, ap, subst}
use Rattle.std.proofs.Common.{◌∙◌, inl, inr, ⊎_elim, lt-ltb, length-set, get_or-set_same, get_or-set_other}
use native.Mathlib.Omega.{arith}
use Rattle.std.proofs.Math.Dec.{ltb}
use Rattle.std.specs.Prelude.{if◌then◌else◌}
use Rattle.laws.specs.BoolLaws.{is_false, same_or_not}
use Rattle.plan.specs.Refusals.{Fault}
use Rattle.board_rules.specs.Facts.{Facts}
use Rattle.board_rules.specs.declared.Board.{Board}
use Rattle.board_rules.specs.declared.Event.{Event}
use Rattle.board_rules.specs.declared.Event.TheVariants.{Use, Top}
use Rattle.board_rules.specs.declared.Outcome.{Outcome}
use Rattle.board_rules.specs.Board.{seat, left_of, over_of, is_stopped, holder_of, must_stop, with_left, settled, used, answered, use_fault, step, good}
use Rattle.board_rules.specs.Settle.{settled_at, due, settled_stopped, mark_stays}
use Rattle.board_rules.specs.SettleEvents.{OthersKeep}
use Rattle.board_keeps.specs.Fair.{Fair, InV}
use Rattle.board_keeps.specs.Shaped.{Shaped}
use Rattle.board_keeps.specs.Change.{left_new, over_new}
use Rattle.board_keeps.specs.Faults.{use_clear}
use Rattle.board_keeps.specs.Marks.{own_vcpu}
use Rattle.board_keeps.proofs.MarkLaws.{own_mark, own_settled}
use Rattle.clock_rules.specs.Clock.{Timing}
use Rattle.clock_sets.specs.Sets.{in_set}
use Rattle.clock_marks.specs.Marks.{at_budget, at_spare, at_done, done_cell, done_in, spares, Mirrors}
use Rattle.clock_marks.specs.Changes.{PutIn}
use Rattle.clock_steps.specs.Quiet.{SameLocks, same_global, use_locks, top_locks}
use Rattle.clock_steps.specs.Taken.{use_is}
use Rattle.clock_steps.specs.Others.{step_over}
use Rattle.clock_mirrors.specs.Tells.{Reading, Tells, Says, read_on, tells_mirror, mirrors_tell, put, put_is}
use Rattle.clock_mirrors.specs.Writes.{at_each, done_kept, with_budget, with_spare, tells_budget, tells_spare}
use Rattle.clock_mirrors.specs.Holds.{held_same}

-- every VCPU but v has the budget, the overrun and the mark that it had
pub record SupplyBut (v : ℕ) (b b' : Board) : Type 0 where
  pub left_same : (w : ℕ) → InV w → (w ≡ v → ⊥) → left_of b' w ≡ left_of b w
  pub over_same : (w : ℕ) → InV w → (w ≡ v → ⊥) → over_of b' w ≡ over_of b w
  pub mark_same : (w : ℕ) → InV w → (w ≡ v → ⊥) → is_stopped b' w ≡ is_stopped b w

-- after every event that is so of the VCPU that it names
pub event_supply : {F : Facts} {b : Board} → Fair F → Shaped b → good F b ≡ true → (e : Event) → SupplyBut (own_vcpu e) b (step F b e).board
event_supply {F} {b} f s g e = record {
  left_same = λ w j ne. kept w j ne (own_settled f s g e);
  over_same = step_over f b e;
  mark_same = own_mark f s g e;
}
  where
    kept : (w : ℕ) → InV w → (w ≡ own_vcpu e → ⊥) →
        ((step F b e).board ≡ b) ⊎ ((b' : Board) × OthersKeep F (own_vcpu e) b b' × ((step F b e).board ≡ settled F b') × (settled F b' ≡ settled_at F b' (own_vcpu e))) → left_of (step F b e).board w ≡ left_of b w
    kept w j ne (inl z) = ap (λ c. left_of c w) z
    kept w j ne (inr r) = ap (λ c. left_of c w) r.2 ∙ (unfold settled in r.1.left_kept w j ne)

-- v is in the sets of budgets and of overruns that count, or not
pub record PutSupply (k k' : List ℕ) (v : ℕ) (has spare : Bool) : Type 0 where
  pub length_same : length k' ≡ length k
  pub else_same : (j : ℕ) → (j ≡ at_budget → ⊥) → (j ≡ at_spare → ⊥) → get_or k' j 0 ≡ get_or k j 0
  pub budgets_set : get_or k' at_budget 0 < 65536
  pub budgets : (w : ℕ) → InV w → in_set (get_or k' at_budget 0) w ≡ (if eqb w v then has else in_set (get_or k at_budget 0) w)
  pub spares_set : get_or k' at_spare 0 < 65536
  pub spared : (w : ℕ) → InV w → in_set (get_or k' at_spare 0) w ≡ (if eqb w v then spare else in_set (get_or k at_spare 0) w)

-- the ticks done stand elsewhere
pub put_supply_done : (k k' : List ℕ) {v : ℕ} {has spare : Bool} → PutSupply k k' v has spare → done_in k' ≡ done_in k
put_supply_done k k' p = done_kept k k' (λ w y a c. p.else_same (at_done + seat w y) (λ e. omega arith) (λ e. omega arith))

-- what board b says of v
abbrev pub PutSupplyOf : Timing → Board → ℕ → List ℕ → List ℕ → Type 0
PutSupplyOf T b v k k' = PutSupply k k' v (ltb 0 (left_of b v)) (spares T.facts.choice (is_stopped b v) (over_of b v))

-- the list with them
pub tells_supply : {k k' : List ℕ} {r : Reading} {v : ℕ} {has spare : Bool} → Tells k r → PutSupply k k' v has spare → Tells k' (with_spare (with_budget r v has) v spare)
tells_supply {k} {k'} {r} {v} {has} {spare} t p = tells_spare (tells_budget t first) second
  where
    -- the list with the first of the two sets
    k₁ : List ℕ
    k₁ = set k at_budget (get_or k' at_budget 0)

    same : get_or k₁ at_budget 0 ≡ get_or k' at_budget 0
    same = get_or-set_same k at_budget (get_or k' at_budget 0) 0 (let l = t.sized.long in omega arith)

    first : PutIn k k₁ at_budget v has
    first = record {
      length_same = length-set k at_budget (get_or k' at_budget 0);
      else_same = λ j ne. get_or-set_other k at_budget j (get_or k' at_budget 0) 0 ne;
      is_set = subst (λ s. s < 65536) (sym same) p.budgets_set;
      names = λ w i. ap (λ s. in_set s w) same ∙ p.budgets w i;
    }

    second : PutIn k₁ k' at_spare v spare
    second = record {
      length_same = p.length_same ∙ sym (length-set k at_budget (get_or k' at_budget 0));
      else_same = λ j ne.
          ⊎_elim (λ e. ap (λ y. get_or k' y 0) e ∙ sym same ∙ ap (λ y. get_or k₁ y 0) (sym e)) (λ d. p.else_same j d ne ∙ sym (get_or-set_other k at_budget j (get_or k' at_budget 0) 0 d)) (same_or_not j at_budget);
      is_set = p.spares_set;
      names = λ w i. p.spared w i ∙ ap (λ (s : ℕ). if eqb w v then spare else in_set s w) (sym (get_or-set_other k at_budget at_spare (get_or k' at_budget 0) 0 (λ e. omega arith)));
    }

-- the overrun counts alike where overrun and mark are the same
pub spared_alike : (T : Timing) (b b' : Board) (v : ℕ) → is_stopped b' v ≡ is_stopped b v → over_of b' v ≡ over_of b v →
    spares T.facts.choice (is_stopped b v) (over_of b v) ≡ spares T.facts.choice (is_stopped b' v) (over_of b' v)
spared_alike T b b' v s o = ap (λ t. spares T.facts.choice t (over_of b v)) (sym s) ∙ ap (spares T.facts.choice (is_stopped b' v)) (sym o)

-- they say what the board says of all VCPUs
module _ (T : Timing) (v : ℕ) {b b' : Board} (s : SupplyBut v b b') where
  -- of budgets
  pub says_budget : (w : ℕ) → InV w → put (λ u. ltb 0 (left_of b u)) v (ltb 0 (left_of b' v)) w ≡ ltb 0 (left_of b' w)
  says_budget = put_is (λ u. ltb 0 (left_of b u)) (λ u. ltb 0 (left_of b' u)) v (ltb 0 (left_of b' v)) refl (λ w i ne. ap (ltb 0) (sym (s.left_same w i ne)))

  -- of overruns
  pub says_spare : (w : ℕ) → InV w →
      put (λ u. spares T.facts.choice (is_stopped b u) (over_of b u)) v (spares T.facts.choice (is_stopped b' v) (over_of b' v)) w ≡ spares T.facts.choice (is_stopped b' w) (over_of b' w)
  says_spare =
      put_is (λ u. spares T.facts.choice (is_stopped b u) (over_of b u)) (λ u. spares T.facts.choice (is_stopped b' u) (over_of b' u)) v (spares T.facts.choice (is_stopped b' v) (over_of b' v)) refl
      (λ w i ne. spared_alike T b b' w (s.mark_same w i ne) (s.over_same w i ne))

-- WHERE THE LOCKS ARE THE SAME, budgets and overruns are all that is to be said
module _ {T : Timing} {x : List ℕ} {b b' : Board} {k : List ℕ} (m : Mirrors T x b k) (l : SameLocks b b') where
  -- by what is told of them
  says_quiet : (B S : ℕ → Bool) → ((w : ℕ) → InV w → B w ≡ ltb 0 (left_of b' w)) → ((w : ℕ) → InV w → S w ≡ spares T.facts.choice (is_stopped b' w) (over_of b' w)) →
      Says T x b' (let r = read_on T b k in record { core = r.core; budget = B; spare = S; holding = r.holding; ready = r.ready; held = r.held; done = r.done; place = r.place })
  says_quiet B S hb hs = record {
    core = λ c v a i. refl;
    budget = hb;
    spare = hs;
    holding = λ v i. sym (same_global T.facts v l);
    ready = λ v n i j. ap (λ ws. (T.facts.has_task v n && ltb (done_cell k v n) (T.lengths v n)) && eqb (get_or ws (seat v n - 1) 0) 0) (sym l.waits_same);
    held = λ v n i j. sym (held_same T.facts b b' v n (λ y a. let e : holder_of b' y ≡ holder_of b y = ap (λ hs. get_or hs (y - 1) 0) l.holder_same in (λ h. sym e ∙ h, λ h. e ∙ h)));
    placed = m.placed;
  }

  -- A CHANGE OF ONE VCPU'S SUPPLY
  pub supply_mirrors : {k' : List ℕ} (v : ℕ) → SupplyBut v b b' → PutSupplyOf T b' v k k' → Mirrors T x b' k'
  supply_mirrors v s p = tells_mirror (tells_supply (mirrors_tell m) p) (says_quiet _ _ (says_budget T v s) (says_spare T v s))

  -- where the sets are right already there is nothing to write
  pub quiet_mirrors : ((w : ℕ) → InV w → ltb 0 (left_of b w) ≡ ltb 0 (left_of b' w)) →
      ((w : ℕ) → InV w → spares T.facts.choice (is_stopped b w) (over_of b w) ≡ spares T.facts.choice (is_stopped b' w) (over_of b' w)) → Mirrors T x b' k
  quiet_mirrors hb hs = tells_mirror (mirrors_tell m) (says_quiet _ _ hb hs)

-- A TICK OF BUDGET: the board when `use v 1` is complete
abbrev ticked : Facts → Board → ℕ → Board
ticked F b v = settled F (with_left b v (left_of b v - 1) (over_of b v - (1 - left_of b v)))

module _ (F : Facts) {b : Board} (s : Shaped b) (v : ℕ) (i : InV v) where
  -- one tick less is left of the budget
  tick_left : left_of (ticked F b v) v ≡ left_of b v - 1
  unfolding settled
  tick_left = left_new s v (left_of b v - 1) (over_of b v - (1 - left_of b v)) i

  -- with more than one left, the overrun is not touched
  tick_over : 1 < left_of b v → over_of (ticked F b v) v ≡ over_of b v
  unfolding settled
  tick_over h = over_new s v (left_of b v - 1) (over_of b v - (1 - left_of b v)) i ∙ omega arith

  -- and no mark is due
  tick_mark : 1 < left_of b v → is_stopped (ticked F b v) v ≡ is_stopped b v
  tick_mark h =
      let c = with_left b v (left_of b v - 1) (over_of b v - (1 - left_of b v)) in
      settled_stopped F c v i ∙ mark_stays F c v (λ z. is_false (must_stop F c v) (λ t. let y = (due F c v t).left in let q = left_new s v (left_of b v - 1) (over_of b v - (1 - left_of b v)) i in omega arith))

module _ {T : Timing} {x : List ℕ} {b : Board} {k : List ℕ} (m : Mirrors T x b k) (f : Fair T.facts) (s : Shaped b) (g : good T.facts b ≡ true) where
  -- `use v t`
  pub use_mirrors : {k' : List ℕ} (v t : ℕ) → PutSupplyOf T (step T.facts b (Use v t)).board v k k' → Mirrors T x (step T.facts b (Use v t)).board k'
  use_mirrors v t p = supply_mirrors m (use_locks T.facts b v t) v (event_supply f s g (Use v t)) p

  -- `top v`
  pub top_mirrors : {k' : List ℕ} (v : ℕ) → PutSupplyOf T (step T.facts b (Top v)).board v k k' → Mirrors T x (step T.facts b (Top v)).board k'
  top_mirrors v p = supply_mirrors m (top_locks T.facts b v) v (event_supply f s g (Top v)) p

  -- a tick of a VCPU that has more than one tick of budget: there is nothing to write
  pub tick_mirrors : (v : ℕ) → 1 < left_of b v → Mirrors T x (step T.facts b (Use v 1)).board k
  tick_mirrors v h = at_fault (use_fault T.facts b v 1) refl
    where
      at_fault : (y : Fault) → use_fault T.facts b v 1 ≡ y → Mirrors T x (step T.facts b (Use v 1)).board k
      at_fault (Ok tt) e =
          let F = T.facts in
          let b' = (step F b (Use v 1)).board in
          let i = f.vcpu_in v (use_clear F b v 1 e).vcpu in
          let q : b' ≡ ticked F b v = (unfold used in ap (λ (o : Outcome). o.board) (use_is F b v 1 e)) in
          let but = event_supply f s g (Use v 1) in
          let left : left_of b' v ≡ left_of b v - 1 = ap (λ y. left_of y v) q ∙ tick_left F s v i in
          let over : over_of b' v ≡ over_of b v = ap (λ y. over_of y v) q ∙ tick_over F s v i h in
          let mark : is_stopped b' v ≡ is_stopped b v = ap (λ y. is_stopped y v) q ∙ tick_mark F s v i h in
          quiet_mirrors m (use_locks F b v 1)
          (at_each (λ w. ltb 0 (left_of b w) ≡ ltb 0 (left_of b' w)) v (lt-ltb 0 (left_of b v) (omega arith) ∙ sym (lt-ltb 0 (left_of b' v) (omega arith))) (λ w j ne. ap (ltb 0) (sym (but.left_same w j ne))))
          (at_each (λ w. spares F.choice (is_stopped b w) (over_of b w) ≡ spares F.choice (is_stopped b' w) (over_of b' w)) v (spared_alike T b b' v mark over) (λ w j ne. spared_alike T b b' w (but.mark_same w j ne) (but.over_same w j ne)))
      at_fault (Err r) e =
          let z : (step T.facts b (Use v 1)).board ≡ b = (unfold step in ap (λ y. (answered b y (used T.facts b v 1)).board) e) in subst (λ y. Mirrors T x y k) (sym z) m
