-- The idle uses of a core's turn, from the lowest VCPU up: those of the VCPUs up to some number are made, and those above are still in a set.
use Prim.Native.Nat.{ℕ, zero, suc, ◌<◌, ◌≤◌}
use Rattle.std.specs.Prelude.{◌≡◌, refl, Bool, true, ◌&&◌, not, eqb, ltb, length}
use Rattle.std.proofs.Math.Path.{ap, subst}
use Rattle.std.proofs.Common.{sym, ◌∙◌, arith, ltb-true, lt-ltb, eq-eqb, ne_eqb}
use mathlib.Core.List.{List, [], ◌∷◌, ◌++◌, append_assoc, append-nil}
use Rattle.std.proofs.Math.Bool.{false}
use Rattle.std.proofs.Math.Logic.{⊎_elim}
use Rattle.std.proofs.lemmas.Bool.{eqb-false, not-true}
use Rattle.std.specs.Prelude.{if◌then◌else◌}
use Rattle.laws.specs.Range.{flat_to}
use Rattle.laws.specs.BoolLaws.{both, both_left, both_right, miss_right, same_or_not, clash, is_false, both_ways}
use Rattle.laws_picks.specs.Picks.{lowest}
use Rattle.laws_picks.specs.PickLaws.{lowest_le, lowest_passes, lowest_least, lowest_zero}
use Rattle.plan.specs.Limits.{max_v}
use Rattle.plan.specs.declared.Policy.{Policy}
use Rattle.plan.specs.declared.OverrunChoice.{OverrunChoice}
use Rattle.board_rules.specs.Facts.{Facts}
use Rattle.board_rules.specs.View.{facts_in}
use Rattle.board_rules.specs.declared.Board.{Board}
use Rattle.board_rules.specs.declared.Event.{Event}
use Rattle.board_rules.specs.declared.Event.TheVariants.{Use}
use Rattle.board_rules.specs.Board.{left_of, under_p}
use Rattle.board_keeps.specs.Fair.{InV}
use Rattle.clock_sets.specs.Sets.{in_set, Without}
use Rattle.clock_sets.specs.SetLaws.{some_vcpu, in_none}
use Rattle.clock_rules.specs.Clock.{Timing, Run, is_on, has_ready, idles, idle_uses}
use Rattle.clock_rules.specs.Trace.{lines_at}
use Rattle.clock_times.specs.Times.{timing_in}
use Rattle.clock_marks.specs.Marks.{board_of, run_in, done_in}
use Rattle.clock_picks.specs.Picking.{Idlers}
use Rattle.clock_steps.specs.Accepted.{Accepted}
use Rattle.clock_steps.specs.IdleTurn.{idle_accepted}
use Rattle.clock_lines.specs.Told.{RoomAt}
use Rattle.clock_going.specs.Going.{timing_by, Going, Made}
use Rattle.clock_uses.specs.Making.{accepted_rest, made_none, made_then, made_length, room_begin, room_then}
use Rattle.clock_uses.specs.Using.{Uses}

-- WHAT EACH k GIVES, one after the other

-- what comes behind the first
pub record Behind {B : Type 0} (xs all : List B) : Type 0 where
  pub more : List B
  pub is : all ≡ xs ++ more

module _ {B : Type 0} (f : ℕ → List B) where
  -- a stretch in which nobody gives anything adds nothing
  pub flat_skip : (n k : ℕ) → k ≤ n → ((j : ℕ) → k < j → j ≤ n → f j ≡ []) → flat_to n f ≡ flat_to k f
  unfolding flat_to
  flat_skip zero k l h = ap (λ x. flat_to x f) {x = 0} {y = k} (omega arith)
  flat_skip (suc n) k l h =
      ⊎_elim
      (λ e. ap (λ x. flat_to x f) (sym e))
      (λ ne. ap (λ x. flat_to n f ++ x) (h (suc n) (omega arith) (omega arith)) ∙ append-nil (flat_to n f) ∙ flat_skip n k (omega arith) (λ j a c. h j a (omega arith)))
      (same_or_not k (suc n))

  -- up to the next that gives something
  pub flat_next : (k v : ℕ) → k < v → ((j : ℕ) → k < j → j < v → f j ≡ []) → flat_to v f ≡ flat_to k f ++ f v
  unfolding flat_to
  flat_next k zero l h = absurd (omega arith)
  flat_next k (suc v) l h = ap (λ x. x ++ f (suc v)) (flat_skip v k (omega arith) (λ j a c. h j a (omega arith)))

  -- a list is its own front
  front_all : (n k : ℕ) → k ≡ n → Behind (flat_to k f) (flat_to n f)
  front_all n k e = record { more = []; is = ap (λ x. flat_to x f) (sym e) ∙ sym (append-nil (flat_to k f)) }

  -- and the front of one more
  front_more : (n k : ℕ) → Behind (flat_to k f) (flat_to n f) → Behind (flat_to k f) (flat_to (suc n) f)
  unfolding flat_to
  front_more n k r = record { more = r.more ++ f (suc n); is = ap (λ x. x ++ f (suc n)) r.is ∙ append_assoc (flat_to k f) r.more (f (suc n)) }

  -- the first k stand at the front
  pub flat_front : (n k : ℕ) → k ≤ n → Behind (flat_to k f) (flat_to n f)
  flat_front zero k l = front_all zero k (omega arith)
  flat_front (suc n) k l = ⊎_elim (front_all (suc n) k) (λ ne. front_more n k (flat_front n k (omega arith))) (same_or_not k (suc n))

-- THE IDLE USES

-- the event of v
abbrev pub idle_of : Timing → ℕ → Board → List ℕ → ℕ → List Event
idle_of T c b d v = if idles T c b d v then Use v 1 ∷ [] else []

-- one who idles has one
idle_some : (T : Timing) (c : ℕ) (b : Board) (d : List ℕ) (v : ℕ) → idles T c b d v ≡ true → idle_of T c b d v ≡ Use v 1 ∷ []
idle_some T c b d v e = ap (λ (x : Bool). if x then Use v 1 ∷ [] else []) e

-- one who does not has none
idle_none : (T : Timing) (c : ℕ) (b : Board) (d : List ℕ) (v : ℕ) → idles T c b d v ≡ false → idle_of T c b d v ≡ []
idle_none T c b d v e = ap (λ (x : Bool). if x then Use v 1 ∷ [] else []) e

-- those up to a number are made, the others are still in the set s
pub record Idling (F : Facts) (T : Timing) (on : Bool) (i c : ℕ) (r r' : Run) (s : ℕ) (a : List ℕ) (at : ℕ) (o : List ℕ) (w : ℕ) : Type 0 where
  pub up_to : ℕ
  pub within : up_to ≤ max_v
  pub is_set : s < 65536
  pub still : (v : ℕ) → InV v → in_set s v ≡ (ltb up_to v && idles T c r.board r.done v)
  pub made : Made F on i r r' (flat_to up_to (idle_of T c r.board r.done)) a at o w

-- none is made
pub idling_none : (F : Facts) (T : Timing) (on : Bool) (i c : ℕ) (r : Run) (s : ℕ) (a : List ℕ) (at : ℕ) → s < 65536 →
    ((v : ℕ) → InV v → in_set s v ≡ idles T c r.board r.done v) → Idling F T on i c r r s a at a at
unfolding flat_to
idling_none F T on i c r s a at l h = record {
  up_to = 0;
  within = omega arith;
  is_set = l;
  still = λ v j. h v j ∙ ap (λ y. y && idles T c r.board r.done v) (sym (lt-ltb 0 v j.from));
  made = made_none F on i r r a at refl;
}

module _ {F : Facts} {T : Timing} {on : Bool} {i c : ℕ} {r r' : Run} {s : ℕ} {a : List ℕ} {at : ℕ} {o : List ℕ} {w : ℕ} (g : Idling F T on i c r r' s a at o w) where
  -- all are made
  pub idling_all : s ≡ 0 → Made F on i r r' (idle_uses T c r.board r.done) a at o w
  unfolding idle_uses
  idling_all z =
      let f = idle_of T c r.board r.done in
      let e : flat_to max_v f ≡ flat_to g.up_to f =
      flat_skip f max_v g.up_to g.within (λ j l m. idle_none T c r.board r.done j (none j l m)) in
      subst (λ es. Made F on i r r' es a at o w) (sym e) g.made
    where
      none : (j : ℕ) → g.up_to < j → j ≤ max_v → idles T c r.board r.done j ≡ false
      none j l m =
          let q = g.still j (record { from = omega arith; to = m }) in
          is_false (idles T c r.board r.done j)
          (λ t. clash (q ∙ both (ltb g.up_to j) _ (lt-ltb g.up_to j l) t) (ap (λ x. in_set x j) z ∙ in_none j))

  module _ (nz : s ≡ 0 → ⊥) (v : ℕ) (e : v ≡ lowest 16 (in_set s)) where
    -- there is a next one
    some : 0 < lowest 16 (in_set s)
    some =
        let z : lowest 16 (in_set s) ≡ 0 → ⊥ = λ q. clash (some_vcpu s g.is_set ∙ ap not (ne_eqb s 0 nz)) ((lowest_zero 16 (in_set s)).1 q) in
        omega arith

    -- the next one
    pub next_in_law : InV v
    next_in_law = record { from = omega (arith, some); to = omega (arith, lowest_le 16 (in_set s)) }

    -- it is in the set
    is_in : in_set s v ≡ true
    is_in = ap (in_set s) e ∙ lowest_passes 16 (in_set s) some

    -- it is above those that are made
    is_next : g.up_to < v
    is_next = ltb-true g.up_to v (both_left (ltb g.up_to v) _ (sym (g.still v next_in_law) ∙ is_in))

    -- it idles
    pub next_idles : idles T c r.board r.done v ≡ true
    next_idles = both_right (ltb g.up_to v) _ (sym (g.still v next_in_law) ∙ is_in)

    -- the set without it is smaller
    pub idling_less : {s' : ℕ} → Without s v s' → s' < s
    idling_less {s'} q =
        let l = q.within in
        let ne : s' ≡ s → ⊥ = λ z. clash (ap (λ x. in_set x v) z ∙ is_in) (q.names v next_in_law.from next_in_law.to ∙ miss_right (in_set s v) _ (ap not (eq-eqb v v refl))) in
        omega arith

    -- nobody in between
    between : (j : ℕ) → g.up_to < j → j < v → idles T c r.board r.done j ≡ false
    between j l m =
        let t = next_in_law.to in
        let q = g.still j (record { from = omega arith; to = omega arith }) in
        is_false (idles T c r.board r.done j)
        (λ y. let h = lowest_least 16 j (in_set s) (omega arith) (omega arith) (q ∙ both (ltb g.up_to j) _ (lt-ltb g.up_to j l) y) in absurd (omega arith))

    -- the uses up to it
    next_uses : flat_to v (idle_of T c r.board r.done) ≡ flat_to g.up_to (idle_of T c r.board r.done) ++ (Use v 1 ∷ [])
    next_uses =
        let f = idle_of T c r.board r.done in
        flat_next f g.up_to v is_next (λ j l m. idle_none T c r.board r.done j (between j l m))
        ∙ ap (λ x. flat_to g.up_to f ++ x) (idle_some T c r.board r.done v next_idles)

    -- its use is not refused, where none is
    pub next_taken : Accepted F r.board (idle_uses T c r.board r.done) → Uses F r'.board v
    unfolding idle_uses
    next_taken h =
        let f = idle_of T c r.board r.done in
        let q = flat_front f max_v v next_in_law.to in
        let xs = flat_to g.up_to f in
        let y = accepted_rest F r.board xs (Use v 1 ∷ q.more) (subst (Accepted F r.board) (q.is ∙ ap (λ x. x ++ q.more) next_uses ∙ append_assoc xs (Use v 1 ∷ []) q.more) h) in
        subst (λ b. Uses F b v) (sym g.made.board) y.0

    -- there is room for those up to it
    module _ (h : RoomAt on (lines_at F i r.board (idle_uses T c r.board r.done)) a at) where
      -- for their lines
      room_to : RoomAt on (lines_at F i r.board (flat_to g.up_to (idle_of T c r.board r.done) ++ (Use v 1 ∷ []))) a at
      unfolding idle_uses
      room_to =
          let f = idle_of T c r.board r.done in
          let q = flat_front f max_v v next_in_law.to in
          let es = flat_to g.up_to f ++ (Use v 1 ∷ []) in
          room_begin F on i r es q.more a at (subst (λ es. RoomAt on (lines_at F i r.board es) a at) (q.is ∙ ap (λ x. x ++ q.more) next_uses) h)

      -- and for its own
      pub next_room : RoomAt on (lines_at F i r'.board (Use v 1 ∷ [])) o w
      next_room = room_then F on i r (flat_to g.up_to (idle_of T c r.board r.done)) (Use v 1 ∷ []) a at room_to g.made

      -- the buffer keeps its length
      pub next_length : {r'' : Run} {o' : List ℕ} {w' : ℕ} → Made F on i r' r'' (Use v 1 ∷ []) o w o' w' → length o' ≡ length o
      next_length m = made_length m next_room

      -- one more is made
      pub idling_more : {r'' : Run} {o' : List ℕ} {w' s' : ℕ} → Made F on i r' r'' (Use v 1 ∷ []) o w o' w' → Without s v s' → Idling F T on i c r r'' s' a at o' w'
      idling_more {r''} {o'} {w'} {s'} m q = record {
        up_to = v;
        within = next_in_law.to;
        is_set = let l = q.within in let k = g.is_set in omega arith;
        still = left;
        made = subst (λ es. Made F on i r r'' es a at o' w') (sym next_uses)
            (made_then F on i r (flat_to g.up_to (idle_of T c r.board r.done)) (Use v 1 ∷ []) a at room_to g.made m);
      }
        where
          left : (x : ℕ) → InV x → in_set s' x ≡ (ltb v x && idles T c r.board r.done x)
          left x j =
              let e₁ = q.names x j.from j.to in
              let e₂ = g.still x j in
              both_ways (in_set s' x) (ltb v x && idles T c r.board r.done x)
              (λ t.
              let u = sym e₁ ∙ t in
              let ne = eqb-false x v (not-true (eqb x v) (both_right (in_set s x) _ u)) in
              let y = sym e₂ ∙ both_left (in_set s x) _ u in
              let d = both_right (ltb g.up_to x) _ y in
              let le = lowest_least 16 x (in_set s) j.from j.to (both_left (in_set s x) _ u) in
              both (ltb v x) _ (lt-ltb v x (omega arith)) d)
              (λ t.
              let l = ltb-true v x (both_left (ltb v x) _ t) in
              let n = is_next in
              e₁ ∙ both (in_set s x) _ (e₂ ∙ both (ltb g.up_to x) _ (lt-ltb g.up_to x (omega arith)) (both_right (ltb v x) _ t)) (ap not (ne_eqb x v (λ z. omega arith))))

-- FROM WHAT HOLDS between the parts of a tick: under P the idlers idle
pub idling_first : {p : Policy} {o : OverrunChoice} {t x ls os : List ℕ} {ss : List Bool} {hs ws k : List ℕ} → Going p o t x ls os ss hs ws k → under_p p ≡ true →
    (on : Bool) (i c s : ℕ) (a : List ℕ) (at : ℕ) → s < 65536 → Idlers k c s →
    Idling (facts_in p o t) (timing_by p o t x) on i c (run_in ls os ss hs ws k) (run_in ls os ss hs ws k) s a at a at
unfolding timing_in facts_in
idling_first {p} {o} {t} {x} {ls} {os} {ss} {hs} {ws} {k} g e on i c s a at l h =
    let T = timing_by p o t x in
    let b = board_of ls os ss hs ws in
    idling_none (facts_in p o t) T on i c (run_in ls os ss hs ws k) s a at l
    (λ v j. h T x b g.mirrors v j ∙ ap (λ y. y && (is_on T c v && (ltb 0 (left_of b v) && not (has_ready T b (done_in k) v)))) (sym e))

-- and none of their uses is refused
pub idling_taken : {p : Policy} {o : OverrunChoice} {t x ls os : List ℕ} {ss : List Bool} {hs ws k : List ℕ} → Going p o t x ls os ss hs ws k → (c : ℕ) →
    Accepted (facts_in p o t) (board_of ls os ss hs ws) (idle_uses (timing_by p o t x) c (board_of ls os ss hs ws) (done_in k))
unfolding timing_in
idling_taken g c = idle_accepted g.paced c g.running
