-- Ticks in which nothing recurs and every core's turn is plain: k of them come to k ticks of each core, one core after the other.
use Prim.Native.Nat.{ℕ, zero, suc, ◌+◌, ◌-◌, ◌*◌, ◌<◌, ◌≤◌}
use Rattle.std.specs.Prelude.{◌≡◌, refl, Bool, true, false, ◌&&◌, ◌||◌, eqb, length}
use Rattle.std.proofs.Common.{sym, subst, subst₂, ◌∙◌, ⊎_elim, arith, eqb-true, eq-eqb}
use Rattle.std.proofs.Math.Path.{ap, ap₂}
use mathlib.Core.List.{List, [], ◌∷◌}
use Rattle.std.specs.Prelude.{if◌then◌else◌}
use Rattle.laws.specs.Sums.{Each, Pairs}
use Rattle.laws.specs.BoolLaws.{both, both_left, both_right, either_of, is_false, clash}
use Rattle.plan.specs.Limits.{max_v, most_n}
use Rattle.board_rules.specs.declared.Board.{Board}
use Rattle.board_rules.specs.declared.Event.{Event}
use Rattle.board_rules.specs.Board.{left_of}
use Rattle.board_rules.specs.Names.{seat_one}
use Rattle.board_events.specs.Events.{board_by, board_after}
use Rattle.board_keeps.specs.Fair.{InV, InN}
use Rattle.clock_rules.specs.declared.RunAnswer.TheVariants.{Missed}
use Rattle.clock_rules.specs.Clock.{Timing, Run, done_of, is_on, after_turn, cores, after_turns, opened, tick, unless_missed, run_from}
use Rattle.clock_nexts.specs.Nexts.{Quiet}
use Rattle.clock_paced.specs.Paced.{Paced}
use Rattle.clock_steps.specs.Running.{Running}
use Rattle.clock_steps.specs.RunTaken.{Kept, turn_kept, turns_kept}
use Rattle.clock_mirrors.specs.Writes.{seat_list}
use Rattle.clock_plains.specs.Plains.{Plain, loses, Spent}
use Rattle.clock_plains.specs.Alike.{Alike, idles_alike}
use Rattle.clock_plains.specs.PlainLaws.{left_lost, left_kept, done_long, done_own, done_other, names_in, plain_chosen, loses_on, one_core, spent_alike, plain_next, plain_other}
use Rattle.clock_plains.specs.SpentLaws.{by_test, boards_same, lefts_same}
use Rattle.clock_plains.specs.PlainTurn.{turn_spent}

-- WHAT SOME CORES' TURNS COME TO, where core c's tick is used by (vs c, ns c)

-- one of them loses a tick for w
abbrev loses_in : Timing → List ℕ → Board → List ℕ → (ℕ → ℕ) → ℕ → Bool
loses_in T [] b d vs w = false
loses_in T (c ∷ cs) b d vs w = loses T c b d (vs c) w || loses_in T cs b d vs w

-- one of them does a tick for (w, y)
abbrev does_in : List ℕ → (ℕ → ℕ) → (ℕ → ℕ) → ℕ → ℕ → Bool
does_in [] vs ns w y = false
does_in (c ∷ cs) vs ns w y = (eqb w (vs c) && eqb y (ns c)) || does_in cs vs ns w y

-- k turns of each
record SpentIn (T : Timing) (cs : List ℕ) (vs ns : ℕ → ℕ) (b : Board) (d : List ℕ) (k : ℕ) (b' : Board) (d' : List ℕ) : Type 0 where
  left_long : length b'.left ≡ length b.left
  left : (w : ℕ) → InV w → left_of b' w ≡ (if loses_in T cs b d vs w then left_of b w - k else left_of b w)
  over_same : b'.over ≡ b.over
  stopped_same : b'.stopped ≡ b.stopped
  holder_same : b'.holder ≡ b.holder
  waits_same : b'.waits ≡ b.waits
  done_same : length d' ≡ length d
  done : (w y : ℕ) → InV w → InN y → done_of d' w y ≡ (if does_in cs vs ns w y then done_of d w y + k else done_of d w y)

-- every core's turn is plain
data Plains (T : Timing) (vs ns : ℕ → ℕ) (b : Board) (d : List ℕ) (k : ℕ) : List ℕ → Type 0 where
  no_core : Plains T vs ns b d k []
  one_plain : {c : ℕ} {cs : List ℕ} → Plain T c b d (vs c) (ns c) k → Plains T vs ns b d k cs → Plains T vs ns b d k (c ∷ cs)

-- the first of them
first_plain : {T : Timing} {vs ns : ℕ → ℕ} {b : Board} {d : List ℕ} {k c : ℕ} {cs : List ℕ} → Plains T vs ns b d k (c ∷ cs) → Plain T c b d (vs c) (ns c) k
first_plain (one_plain p q) = p

-- and the rest
rest_plain : {T : Timing} {vs ns : ℕ → ℕ} {b : Board} {d : List ℕ} {k c : ℕ} {cs : List ℕ} → Plains T vs ns b d k (c ∷ cs) → Plains T vs ns b d k cs
rest_plain (one_plain p q) = q

-- no core of them is c
abbrev Apart : ℕ → List ℕ → Type 0
Apart c cs = Each (λ a. c ≡ a → ⊥) cs

-- either of two tests
by_either : {A : Type 0} (s t : Bool) (x y z : A) → (s ≡ true → x ≡ y) → (s ≡ false → x ≡ (if t then y else z)) → x ≡ (if s || t then y else z)
by_either true t x y z f g = f refl
by_either false t x y z f g = g refl

-- a state is like itself
alike_still : {T : Timing} {b : Board} {d : List ℕ} → Alike T b d b d
alike_still = record { over_same = refl; stopped_same = refl; holder_same = refl; waits_same = refl; has_left = λ w i. refl; unfinished = λ w y i j. refl }

-- and like one later on, if nothing that a pick looks at changes in between
alike_then : {T : Timing} {b b₁ b₂ : Board} {d d₁ d₂ : List ℕ} → Alike T b d b₁ d₁ → Alike T b₁ d₁ b₂ d₂ → Alike T b d b₂ d₂
alike_then s t = record {
  over_same = t.over_same ∙ s.over_same;
  stopped_same = t.stopped_same ∙ s.stopped_same;
  holder_same = t.holder_same ∙ s.holder_same;
  waits_same = t.waits_same ∙ s.waits_same;
  has_left = λ w i. t.has_left w i ∙ s.has_left w i;
  unfinished = λ w y i j. t.unfinished w y i j ∙ s.unfinished w y i j;
}

-- the same VCPUs lose ticks
loses_in_alike : {T : Timing} {b b' : Board} {d d' : List ℕ} → Alike T b d b' d' → (cs : List ℕ) (vs : ℕ → ℕ) (w : ℕ) → InV w → loses_in T cs b' d' vs w ≡ loses_in T cs b d vs w
loses_in_alike a [] vs w i = refl
loses_in_alike a (c ∷ cs) vs w i = ap₂ ◌||◌ (ap (λ (t : Bool). eqb w (vs c) || t) (idles_alike a c w i)) (loses_in_alike a cs vs w i)

module _ {T : Timing} {vs ns : ℕ → ℕ} {b : Board} {d : List ℕ} {i : ℕ} (c : ℕ) where
  -- a VCPU of core c loses none to the others
  loses_none : {cs : List ℕ} → Plains T vs ns b d i cs → Apart c cs → (w : ℕ) → InV w → is_on T c w ≡ true → loses_in T cs b d vs w ≡ false
  loses_none no_core n w a on = refl
  loses_none (one_plain {c = e} {cs = cs} p q) n w a on =
      is_false (loses_in T (e ∷ cs) b d vs w) (λ z.
      ⊎_elim (λ y. n.0 (one_core T c e w on (loses_on p w a y))) (λ y. clash y (loses_none q n.1 w a on)) (either_of (loses T e b d (vs e) w) (loses_in T cs b d vs w) z))

  -- nor do they do a tick for its tasks
  does_none : {cs : List ℕ} → Plains T vs ns b d i cs → Apart c cs → (w y : ℕ) → InV w → is_on T c w ≡ true → does_in cs vs ns w y ≡ false
  does_none no_core n w y a on = refl
  does_none (one_plain {c = e} {cs = cs} p q) n w y a on =
      is_false (does_in (e ∷ cs) vs ns w y) (λ z.
      ⊎_elim
      (λ r.
      let u = eqb-true w (vs e) (both_left (eqb w (vs e)) _ r) in
      n.0 (one_core T c e w on (subst (λ x. is_on T e x ≡ true) (sym u) (plain_chosen p (omega arith)).on_core)))
      (λ r. clash r (does_none q n.1 w y a on)) (either_of (eqb w (vs e) && eqb y (ns e)) (does_in cs vs ns w y) z))

-- ONE CORE MORE, before the others
module _ {T : Timing} {c : ℕ} {cs : List ℕ} {vs ns : ℕ → ℕ} {b : Board} {d : List ℕ} {i k : ℕ} {b₁ : Board} {d₁ : List ℕ} {b₂ : Board} {d₂ : List ℕ}
    (long : length d ≡ max_v * most_n) (n : Apart c cs) (p : Plain T c b d (vs c) (ns c) i) (q : Plains T vs ns b d i cs) (few : k ≤ i) (s : Spent T c b d (vs c) (ns c) k b₁ d₁) (t : SpentIn T cs vs ns b₁ d₁ k b₂ d₂) where
  -- the budgets
  before_left : (w : ℕ) → InV w → left_of b₂ w ≡ (if loses_in T (c ∷ cs) b d vs w then left_of b w - k else left_of b w)
  before_left w a =
      let same = loses_in_alike (spent_alike p s few long) cs vs w a in
      by_either (loses T c b d (vs c) w) (loses_in T cs b d vs w) (left_of b₂ w) (left_of b w - k) (left_of b w)
      (λ e. t.left w a ∙ ap (λ (u : Bool). if u then left_of b₁ w - k else left_of b₁ w) (same ∙ loses_none c q n w a (loses_on p w a e)) ∙ left_lost s w a e)
      (λ e. t.left w a ∙ ap₂ (λ (u : Bool) (l : ℕ). if u then l - k else l) same (left_kept s w a e))

  -- the ticks done
  before_done : (w y : ℕ) → InV w → InN y → done_of d₂ w y ≡ (if does_in (c ∷ cs) vs ns w y then done_of d w y + k else done_of d w y)
  before_done w y a l = by_either (eqb w (vs c) && eqb y (ns c)) (does_in cs vs ns w y) (done_of d₂ w y) (done_of d w y + k) (done_of d w y) own rest
    where
      own : (eqb w (vs c) && eqb y (ns c)) ≡ true → done_of d₂ w y ≡ done_of d w y + k
      own e =
          let u = eqb-true w (vs c) (both_left (eqb w (vs c)) _ e) in
          let z = eqb-true y (ns c) (both_right (eqb w (vs c)) _ e) in
          let pos : 0 < vs c = omega arith in
          let m = names_in p pos in
          t.done w y a l
          ∙ ap (λ (g : Bool). if g then done_of d₁ w y + k else done_of d₁ w y) (does_none c q n w y a (subst (λ x. is_on T c x ≡ true) (sym u) (plain_chosen p pos).on_core))
          ∙ subst₂ (λ x g. done_of d₁ x g ≡ done_of d x g + k) (sym u) (sym z) (done_own s pos m.0 m.1 long)

      rest : (eqb w (vs c) && eqb y (ns c)) ≡ false → done_of d₂ w y ≡ (if does_in cs vs ns w y then done_of d w y + k else done_of d w y)
      rest e =
          t.done w y a l
          ∙ ap (λ x. if does_in cs vs ns w y then x + k else x)
          (done_other s w y a l (names_in p)
          (λ pos z.
          let m = names_in p pos in
          let r = seat_one w y (vs c) (ns c) a l m.0 m.1 z in
          clash (both (eqb w (vs c)) _ (eq-eqb w (vs c) r.0) (eq-eqb y (ns c) r.1)) e))

  -- all of it
  spent_before : SpentIn T (c ∷ cs) vs ns b d k b₂ d₂
  spent_before = record {
    left_long = t.left_long ∙ s.left_long;
    left = before_left;
    over_same = t.over_same ∙ s.over_same;
    stopped_same = t.stopped_same ∙ s.stopped_same;
    holder_same = t.holder_same ∙ s.holder_same;
    waits_same = t.waits_same ∙ s.waits_same;
    done_same = t.done_same ∙ done_long s;
    done = before_done;
  }

-- no cores leave the state
spent_by_none : {T : Timing} {vs ns : ℕ → ℕ} {b : Board} {d : List ℕ} {k : ℕ} → SpentIn T [] vs ns b d k b d
spent_by_none = record {
  left_long = refl;
  left = λ w i. refl;
  over_same = refl;
  stopped_same = refl;
  holder_same = refl;
  waits_same = refl;
  done_same = refl;
  done = λ w y i j. refl;
}

module _ {T : Timing} {cs : List ℕ} {vs ns : ℕ → ℕ} {b : Board} {d : List ℕ} where
  -- a choice that is made
  left_by : {k : ℕ} {b' : Board} {d' : List ℕ} → SpentIn T cs vs ns b d k b' d' → (w : ℕ) → InV w → (u : Bool) → loses_in T cs b d vs w ≡ u → left_of b' w ≡ (if u then left_of b w - k else left_of b w)
  left_by {k} s w i u e = s.left w i ∙ ap (λ (g : Bool). if g then left_of b w - k else left_of b w) e

  -- of the ticks done
  done_by : {k : ℕ} {b' : Board} {d' : List ℕ} → SpentIn T cs vs ns b d k b' d' → (w y : ℕ) → InV w → InN y → (u : Bool) → does_in cs vs ns w y ≡ u → done_of d' w y ≡ (if u then done_of d w y + k else done_of d w y)
  done_by {k} s w y i j u e = s.done w y i j ∙ ap (λ (g : Bool). if g then done_of d w y + k else done_of d w y) e

  -- of j + k ticks k are left after j
  rest_in : {j k : ℕ} {b₁ b₂ : Board} {d₁ d₂ : List ℕ} → Alike T b d b₁ d₁ → SpentIn T cs vs ns b d j b₁ d₁ → SpentIn T cs vs ns b d (j + k) b₂ d₂ → SpentIn T cs vs ns b₁ d₁ k b₂ d₂
  rest_in {j} {k} {b₁} {b₂} {d₁} {d₂} a s t = record {
    left_long = t.left_long ∙ sym s.left_long;
    left = λ w i.
        let same = sym (loses_in_alike a cs vs w i) in
        by_test (loses_in T cs b₁ d₁ vs w) (λ e. let x = left_by s w i true (same ∙ e) in let y = left_by t w i true (same ∙ e) in omega arith)
        (λ e. left_by t w i false (same ∙ e) ∙ sym (left_by s w i false (same ∙ e)));
    over_same = t.over_same ∙ sym s.over_same;
    stopped_same = t.stopped_same ∙ sym s.stopped_same;
    holder_same = t.holder_same ∙ sym s.holder_same;
    waits_same = t.waits_same ∙ sym s.waits_same;
    done_same = t.done_same ∙ sym s.done_same;
    done = λ w y i l.
        by_test (does_in cs vs ns w y) (λ e. let x = done_by s w y i l true e in let z = done_by t w y i l true e in omega arith) (λ e. done_by t w y i l false e ∙ sym (done_by s w y i l false e));
  }

  -- there is one such state
  one_in : {k : ℕ} {b₁ b₂ : Board} {d₁ d₂ : List ℕ} → length b.left ≡ max_v → length d ≡ max_v * most_n → SpentIn T cs vs ns b d k b₁ d₁ → SpentIn T cs vs ns b d k b₂ d₂ → (b₁ ≡ b₂) × (d₁ ≡ d₂)
  one_in {k} {b₁} {b₂} {d₁} {d₂} lefts dones s t = (
    boards_same b₂ b₁ (lefts_same b₂ b₁ (t.left_long ∙ lefts) (s.left_long ∙ sym t.left_long) (λ w i. s.left w i ∙ sym (t.left w i)))
        (s.over_same ∙ sym t.over_same) (s.stopped_same ∙ sym t.stopped_same) (s.holder_same ∙ sym t.holder_same) (s.waits_same ∙ sym t.waits_same),
    seat_list d₁ (λ w y. if does_in cs vs ns w y then done_of d w y + k else done_of d w y) (s.done_same ∙ dones) s.done
        ∙ sym (seat_list d₂ (λ w y. if does_in cs vs ns w y then done_of d w y + k else done_of d w y) (t.done_same ∙ dones) t.done),
  )

-- a core's ticks leave the other cores' turns plain
others_plain : {T : Timing} {c : ℕ} {vs ns : ℕ → ℕ} {b : Board} {d : List ℕ} {v n i j k : ℕ} {b' : Board} {d' : List ℕ} {cs : List ℕ} → length d ≡ max_v * most_n →
    Plain T c b d v n j → i ≤ j → Spent T c b d v n i b' d' → Plains T vs ns b d k cs → Apart c cs → Plains T vs ns b' d' k cs
others_plain long p few s no_core n = no_core
others_plain long p few s (one_plain q h) n = one_plain (plain_other (λ e. n.0 (sym e)) long q p few s) (others_plain long p few s h n.1)

-- no two of some cores are one
abbrev AllApart : List ℕ → Type 0
AllApart cs = Pairs (λ a c. a ≡ c → ⊥) cs

-- the turns of other cores leave core c's plain
stays_plain : {T : Timing} (p : Paced T) (cs : List ℕ) {vs ns : ℕ → ℕ} {k c v n j : ℕ} {r : Run} → Kept T r → Plain T c r.board r.done v n j → Plains T vs ns r.board r.done (suc k) cs → Apart c cs → AllApart cs →
    Plain T c (after_turns T cs r).board (after_turns T cs r).done v n j
unfolding after_turns
stays_plain p [] g q h n o = q
stays_plain {T} p (a ∷ cs) {r} g q h n o =
    let s = turn_spent p g (first_plain h) in
    stays_plain p cs {r = after_turn T a r} (turn_kept p a {r = r} g) (plain_other n.0 g.done_long q (first_plain h) (omega arith) s)
    (others_plain g.done_long (first_plain h) (omega arith) s (rest_plain h) o.0) n.1 o.1

-- what a turn of each of some cores leaves
record Turned (T : Timing) (vs ns : ℕ → ℕ) (k : ℕ) (cs : List ℕ) (r r' : Run) : Type 0 where
  spent : SpentIn T cs vs ns r.board r.done 1 r'.board r'.done
  alike : Alike T r.board r.done r'.board r'.done
  plain : Plains T vs ns r'.board r'.done k cs

-- core after core
turns_plain : {T : Timing} (p : Paced T) (cs : List ℕ) {vs ns : ℕ → ℕ} {k : ℕ} {r : Run} → Kept T r → Plains T vs ns r.board r.done (suc k) cs → AllApart cs → Turned T vs ns k cs r (after_turns T cs r)
unfolding after_turns
turns_plain p [] g h o = record { spent = spent_by_none; alike = alike_still; plain = no_core }
turns_plain {T} p (c ∷ cs) {r} g h o =
    let r₁ = after_turn T c r in
    let q = first_plain h in
    let s = turn_spent p g q in
    let g₁ = turn_kept p c {r = r} g in
    let h₁ = others_plain g.done_long q (omega arith) s (rest_plain h) o.0 in
    let t = turns_plain p cs {r = r₁} g₁ h₁ o.1 in
    record {
      spent = spent_before g.done_long o.0 q (rest_plain h) (omega arith) s t.spent;
      alike = alike_then (spent_alike q s (omega arith) g.done_long) t.alike;
      plain = one_plain (stays_plain p cs {r = r₁} g₁ (plain_next g.done_long q s) h₁ o.0 o.1) t.plain;
    }

-- A QUIET TICK leaves the cores their turns alone
module _ {T : Timing} {t : ℕ} (q : Quiet T t) (r : Run) (long : length r.done ≡ max_v * most_n) where
  -- nothing is topped and nothing released
  opened_quiet : opened T t r ≡ r
  unfolding opened board_by
  opened_quiet =
      let run : List Event → List ℕ → Run = λ es d. record { board = board_after T.facts r.board es; done = d } in
      ap₂ run q.tops_none (q.released_none r.done long)

  -- and the run goes on
  pub run_quiet : (k : ℕ) → run_from T (suc k) t r ≡ run_from T k (t + 1) (after_turns T cores r)
  unfolding run_from tick
  run_quiet k =
      ap (unless_missed (run_from T k (t + 1) (tick T t r)) (λ v n. Missed t v n)) (q.missed_none r.done) ∙ ap (λ x. run_from T k (t + 1) (after_turns T cores x)) opened_quiet

module _ {T : Timing} (p : Paced T) (vs ns : ℕ → ℕ) (m : ℕ) where
  -- no two cores are one
  cores_apart : AllApart cores
  cores_apart = omega arith

  -- tick after tick, behind what a first one opens with
  ticks_in : (k t : ℕ) {r r' : Run} → Kept T r → Plains T vs ns r.board r.done (suc k) cores → ((i : ℕ) → i < k → Quiet T (t + i)) → SpentIn T cores vs ns r.board r.done (suc k) r'.board r'.done →
      run_from T (k + m) t (after_turns T cores r) ≡ run_from T m (t + k) r'
  ticks_in zero t {r} {r'} g h q s =
      let w = turns_plain p cores {r = r} g h cores_apart in
      let e = one_in g.shaped.left_long g.done_long w.spent s in
      let run : Board → List ℕ → Run = λ x y. record { board = x; done = y } in
      ap₂ (λ x y. run_from T x y (after_turns T cores r)) {x = 0 + m} {y = m} {u = t} {v = t + 0} (omega arith) (omega arith) ∙ ap₂ (λ x y. run_from T m (t + 0) (run x y)) e.0 e.1
  ticks_in (suc k) t {r} {r'} g h q s =
      let r₁ = after_turns T cores r in
      let g₁ = turns_kept p cores {r = r} g in
      let w = turns_plain p cores {r = r} g h cores_apart in
      ap (λ x. run_from T x t r₁) {x = suc k + m} {y = suc (k + m)} (omega arith)
      ∙ run_quiet (subst (Quiet T) {x = t + 0} {y = t} (omega arith) (q 0 (omega arith))) r₁ g₁.done_long (k + m)
      ∙ ticks_in k (t + 1) {r = r₁} {r' = r'} g₁ w.plain
      (λ i l. subst (Quiet T) {x = t + suc i} {y = t + 1 + i} (omega arith) (q (suc i) (omega arith)))
      (rest_in w.alike w.spent (subst (λ x. SpentIn T cores vs ns r.board r.done x r'.board r'.done) {x = suc (suc k)} {y = 1 + suc k} (omega arith) s))
      ∙ ap (λ x. run_from T m x r') {x = t + 1 + k} {y = t + suc k} (omega arith)

  -- A TICK WHOSE TURNS ARE STILL TO BE MADE, AND K QUIET ONES, of plain turns: k + 1 ticks of core 0, then of core 1, of core 2 and of core 3
  pub plain_ticks : (k t : ℕ) {b b₁ b₂ b₃ b₄ : Board} {d d₁ d₂ d₃ d₄ : List ℕ} → Running T b d → ((c : ℕ) → c ≤ 3 → Plain T c b d (vs c) (ns c) (suc k)) → ((i : ℕ) → i < k → Quiet T (t + i)) →
      Spent T 0 b d (vs 0) (ns 0) (suc k) b₁ d₁ → Spent T 1 b₁ d₁ (vs 1) (ns 1) (suc k) b₂ d₂ → Spent T 2 b₂ d₂ (vs 2) (ns 2) (suc k) b₃ d₃ → Spent T 3 b₃ d₃ (vs 3) (ns 3) (suc k) b₄ d₄ →
      run_from T (k + m) t (after_turns T cores (record { board = b; done = d })) ≡ run_from T m (t + k) (record { board = b₄; done = d₄ })
  plain_ticks k t {b} {b₁} {b₂} {b₃} {b₄} {d} {d₁} {d₂} {d₃} {d₄} g h q s₀ s₁ s₂ s₃ =
      let o = cores_apart in
      let l = g.done_long in
      let l₁ = done_long s₀ ∙ l in
      let l₂ = done_long s₁ ∙ l₁ in
      let l₃ = done_long s₂ ∙ l₂ in
      let few : suc k ≤ suc k = omega arith in
      let h₀ : Plains T vs ns b d (suc k) cores = one_plain (h 0 (omega arith)) (one_plain (h 1 (omega arith)) (one_plain (h 2 (omega arith)) (one_plain (h 3 (omega arith)) no_core))) in
      let h₁ = others_plain l (first_plain h₀) few s₀ (rest_plain h₀) o.0 in
      let h₂ = others_plain l₁ (first_plain h₁) few s₁ (rest_plain h₁) o.1.0 in
      let h₃ = others_plain l₂ (first_plain h₂) few s₂ (rest_plain h₂) o.1.1.0 in
      ticks_in k t g h₀ q
      (spent_before l o.0 (first_plain h₀) (rest_plain h₀) few s₀
      (spent_before l₁ o.1.0 (first_plain h₁) (rest_plain h₁) few s₁
      (spent_before l₂ o.1.1.0 (first_plain h₂) (rest_plain h₂) few s₂ (spent_before l₃ tt (first_plain h₃) (rest_plain h₃) few s₃ spent_by_none))))
