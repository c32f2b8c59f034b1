-- A core's turn with what is known of it, and the turns of all cores.
use Rattle.std.specs.Prelude.{ℕ, zero, suc, ◌+◌, ◌<◌, ◌≤◌, ◌≡◌, refl, Bool, true, false, List, [], ◌∷◌, drop}
use Rattle.std.proofs.Common.{sym, subst, subst₂, ◌∙◌, inl, inr, ⊎_elim, arith}
use Rattle.std.proofs.Math.Path.{ap}
use Rattle.std.specs.Prelude.{if◌then◌else◌}
use Rattle.laws.specs.BoolLaws.{same_or_not}
use Rattle.plan.specs.declared.Policy.{Policy}
use Rattle.plan.specs.declared.OverrunChoice.{OverrunChoice}
use Rattle.board_rules.specs.View.{facts_in}
use Rattle.board_events.specs.Events.{answers}
use Rattle.board_rules.specs.declared.Board.{Board}
use Rattle.clock_rules.specs.Clock.{Timing, Run, picked, turn, after_turn, after_turns, cores}
use Rattle.clock_times.specs.Times.{timing_in}
use Rattle.clock_marks.specs.Marks.{board_of, run_in, done_in}
use Rattle.clock_steps.specs.Hands.{any_hands_on}
use Rattle.clock_going.specs.Going.{timing_by, Going}
use Rattle.clock_spends.specs.Asked.{KnownPick}
use Rattle.clock_plains.specs.Plains.{Plain}
use Rattle.clock_alone.specs.Beside.{plain_beside, picked_beside}
use Rattle.clock_reaches.specs.Stretches.{ticks_cell, vcpu_cell, task_cell}
use Rattle.clock_spends.specs.Spends.{CountedAt, PickedAt, Counted, Spending, Put, Forgot}
use Rattle.clock_spends.specs.Spending.{spent_going, spent_counted, spent_turn}
use Rattle.clock_strides.specs.Strides.{turn_or, turns_or, Strided, Others}

-- core c's turn where it is made, and where it is not
turn_taken : {look : Bool} → look ≡ false → (T : Timing) (c : ℕ) (r : Run) → after_turn T c r ≡ turn_or look T c r
turn_taken e T c r = sym (ap (λ (z : Bool). if z then r else after_turn T c r) e)

turn_left : {look : Bool} → look ≡ true → (T : Timing) (c : ℕ) (r : Run) → r ≡ turn_or look T c r
turn_left e T c r = sym (ap (λ (z : Bool). if z then r else after_turn T c r) e)

-- A PLAIN TURN
pub stride_spent : {p : Policy} {o : OverrunChoice} {t x ls os : List ℕ} {ss : List Bool} {hs ws k pl : List ℕ} → Going p o t x ls os ss hs ws k →
    Counted (timing_by p o t x) (board_of ls os ss hs ws) (done_in k) pl → {c : ℕ} → c ≤ 3 → {look : Bool} → look ≡ false → 0 < ticks_cell pl c → {ls' k' pl' : List ℕ} → Spending p c 1 ls k pl ls' k' pl' →
    Strided p o t x (turn_or look (timing_by p o t x) c (run_in ls os ss hs ws k)) ls' os ss hs ws k' pl'
stride_spent {p} {o} {t} {x} {ls} {os} {ss} {hs} {ws} {k} g h {c} l e m s = record {
  going = spent_going g h l (omega arith) (omega arith) s;
  after = spent_turn g h l m s ∙ turn_taken e (timing_by p o t x) c (run_in ls os ss hs ws k);
  counted = spent_counted g h l (omega arith) (omega arith) s;
}

-- ANY TURN
module _ {p : Policy} {o : OverrunChoice} {t x ls os : List ℕ} {ss : List Bool} {hs ws k pl : List ℕ} (g : Going p o t x ls os ss hs ws k)
    (h : Counted (timing_by p o t x) (board_of ls os ss hs ws) (done_in k) pl) (c : ℕ) {handed : Bool}
    (none : handed ≡ any_hands_on (answers (facts_in p o t) (board_of ls os ss hs ws) (turn (timing_by p o t x) c (run_in ls os ss hs ws k))))
    {ls' os' : List ℕ} {ss' : List Bool} {hs' ws' k' pl' : List ℕ} (next : Going p o t x ls' os' ss' hs' ws' k') (after : run_in ls' os' ss' hs' ws' k' ≡ after_turn (timing_by p o t x) c (run_in ls os ss hs ws k))
    (f : Forgot handed pl pl') where
  -- the others' turns stay plain where nothing is handed on
  turn_others : (i : ℕ) → i ≤ 3 → (i ≡ c → ⊥) → CountedAt (timing_by p o t x) (board_of ls' os' ss' hs' ws') (done_in k') pl' i
  unfolding timing_in
  turn_others i l ne m =
      let y = f.kept i l (inl m) in
      let T = timing_by p o t x in
      let r = run_in ls os ss hs ws k in
      let a = h.core i l (subst (λ z. 0 < z) (ap (λ z. ticks_cell z i) y.1) m) in
      let b = plain_beside g.paced r g.running i c ne (vcpu_cell pl i) (task_cell pl i) (ticks_cell pl i) a (sym none ∙ y.0) in
      rw (ap (λ z. ticks_cell z i) y.1, ap (λ z. vcpu_cell z i) y.1, ap (λ z. task_cell z i) y.1)
      (subst (λ (z : Run). Plain T i z.board z.done (vcpu_cell pl i) (task_cell pl i) (ticks_cell pl i)) (sym after) b)

  -- and pick the same
  picks_others : (i : ℕ) → i ≤ 3 → (i ≡ c → ⊥) → PickedAt (timing_by p o t x) (board_of ls' os' ss' hs' ws') (done_in k') pl' i
  unfolding timing_in
  picks_others i l ne m =
      let y = f.kept i l (inr m) in
      let T = timing_by p o t x in
      let r = run_in ls os ss hs ws k in
      let a = h.pick i l (subst (λ z. 0 < z) (ap (λ z. vcpu_cell z i) y.1) m) in
      let b = picked_beside g.paced r g.running i c ne (sym none ∙ y.0) ∙ a in
      rw (ap (λ z. vcpu_cell z i) y.1, ap (λ z. task_cell z i) y.1)
      (ap (λ (z : Run). picked T i z.board z.done) after ∙ b)

  pub turn_made : {look : Bool} → look ≡ false → Others p o t x c (turn_or look (timing_by p o t x) c (run_in ls os ss hs ws k)) ls' os' ss' hs' ws' k' pl'
  turn_made e = record { going = next; after = after ∙ turn_taken e (timing_by p o t x) c (run_in ls os ss hs ws k); long = f.long ∙ h.long; core = turn_others; pick = picks_others }

-- A LOOK
pub turn_looked : {p : Policy} {o : OverrunChoice} {t x ls os : List ℕ} {ss : List Bool} {hs ws k pl : List ℕ} → Going p o t x ls os ss hs ws k →
    Counted (timing_by p o t x) (board_of ls os ss hs ws) (done_in k) pl → (c : ℕ) {look : Bool} → look ≡ true → Others p o t x c (turn_or look (timing_by p o t x) c (run_in ls os ss hs ws k)) ls os ss hs ws k pl
turn_looked {p} {o} {t} {x} {ls} {os} {ss} {hs} {ws} {k} g h c e = record {
  going = g;
  after = turn_left e (timing_by p o t x) c (run_in ls os ss hs ws k);
  long = h.long;
  core = λ i l ne. h.core i l;
  pick = λ i l ne. h.pick i l;
}

-- WHAT IS KNOWN of core c is put
module _ {p : Policy} {o : OverrunChoice} {t x : List ℕ} {c : ℕ} {r : Run} {ls os : List ℕ} {ss : List Bool} {hs ws k pl pl' : List ℕ} (h : Others p o t x c r ls os ss hs ws k pl)
    (q : Put (timing_by p o t x) (board_of ls os ss hs ws) (done_in k) pl c pl') where
  put_others : (i : ℕ) → i ≤ 3 → (i ≡ c → ⊥) → CountedAt (timing_by p o t x) (board_of ls os ss hs ws) (done_in k) pl' i
  put_others i l ne m = let e = q.others i l ne in rw (e.0, e.1, e.2) (h.core i l ne (subst (λ z. 0 < z) e.0 m))

  put_picks : (i : ℕ) → i ≤ 3 → (i ≡ c → ⊥) → PickedAt (timing_by p o t x) (board_of ls os ss hs ws) (done_in k) pl' i
  put_picks i l ne m = let e = q.others i l ne in rw (e.1, e.2) (h.pick i l ne (subst (λ z. 0 < z) e.1 m))

  pub stride_put : Strided p o t x r ls os ss hs ws k pl'
  stride_put = record {
    going = h.going;
    after = h.after;
    counted = record {
      long = q.long ∙ h.long;
      core = λ i l. ⊎_elim (λ z. subst (λ y. CountedAt (timing_by p o t x) (board_of ls os ss hs ws) (done_in k) pl' y) (sym z) q.own) (λ ne. put_others i l ne) (same_or_not i c);
      pick = λ i l. ⊎_elim (λ z. subst (λ y. PickedAt (timing_by p o t x) (board_of ls os ss hs ws) (done_in k) pl' y) (sym z) q.own_pick) (λ ne. put_picks i l ne) (same_or_not i c);
    };
  }

-- WHERE A MUTEX was handed on
pub forgot_handed : {handed : Bool} {pl pl' : List ℕ} → handed ≡ true → Forgot true pl pl' → Forgot handed pl pl'
forgot_handed {handed} {pl} {pl'} e f = subst (λ z. Forgot z pl pl') (sym e) f

-- THE PICK that a turn may begin with
pub known_pick : {T : Timing} {b : Board} {d pl : List ℕ} → Counted T b d pl → (c : ℕ) → c ≤ 3 → {v n : ℕ} → v ≡ vcpu_cell pl c → n ≡ task_cell pl c → KnownPick T c b d v n
known_pick {T} {b} {d} h c l e f = subst₂ (λ v n. KnownPick T c b d v n) (sym e) (sym f) (h.pick c l)

-- ALL TURNS, from core 0 up: the cores from number c on
abbrev pub from : ℕ → List ℕ
from c = drop c cores

from_more : (c : ℕ) → c < 4 → from c ≡ c ∷ from (c + 1)
from_more zero l = refl
from_more (suc zero) l = refl
from_more (suc (suc zero)) l = refl
from_more (suc (suc (suc zero))) l = refl
from_more (suc (suc (suc (suc c)))) l = absurd (omega arith)

-- core after core
turns_more : (look : Bool) (T : Timing) (c : ℕ) (cs : List ℕ) (r : Run) → turns_or look T (c ∷ cs) r ≡ turns_or look T cs (turn_or look T c r)
unfolding after_turns
turns_more true T c cs r = refl
turns_more false T c cs r = refl

turns_end : (look : Bool) (T : Timing) (r : Run) → turns_or look T [] r ≡ r
unfolding after_turns
turns_end true T r = refl
turns_end false T r = refl

-- the turns of those below are made, from the state r on
pub record RestOn (look : Bool) (p : Policy) (o : OverrunChoice) (t x : List ℕ) (r : Run) (c : ℕ) (ls os : List ℕ) (ss : List Bool) (hs ws k pl : List ℕ) : Type 0 where
  pub to_core : c ≤ 4
  pub going : Going p o t x ls os ss hs ws k
  pub counted : Counted (timing_by p o t x) (board_of ls os ss hs ws) (done_in k) pl
  pub after : turns_or look (timing_by p o t x) (from c) (run_in ls os ss hs ws k) ≡ turns_or look (timing_by p o t x) cores r

module _ {look : Bool} {p : Policy} {o : OverrunChoice} {t x : List ℕ} {r : Run} {c : ℕ} {ls os : List ℕ} {ss : List Bool} {hs ws k pl : List ℕ} (g : RestOn look p o t x r c ls os ss hs ws k pl) where
  pub rest_last : c ≡ 4 → Strided p o t x (turns_or look (timing_by p o t x) cores r) ls os ss hs ws k pl
  rest_last e = record {
    going = g.going;
    counted = g.counted;
    after = sym (ap (λ z. turns_or look (timing_by p o t x) (from z) (run_in ls os ss hs ws k)) e ∙ turns_end look (timing_by p o t x) (run_in ls os ss hs ws k)) ∙ g.after;
  }

  pub rest_more : c < 4 → {ls' os' : List ℕ} {ss' : List Bool} {hs' ws' k' pl' : List ℕ} → Strided p o t x (turn_or look (timing_by p o t x) c (run_in ls os ss hs ws k)) ls' os' ss' hs' ws' k' pl' →
      RestOn look p o t x r (c + 1) ls' os' ss' hs' ws' k' pl'
  rest_more l s =
      let T = timing_by p o t x in
      record {
        to_core = omega arith;
        going = s.going;
        counted = s.counted;
        after = ap (turns_or look T (from (c + 1))) s.after ∙ sym (ap (λ z. turns_or look T z (run_in ls os ss hs ws k)) (from_more c l) ∙ turns_more look T c (from (c + 1)) (run_in ls os ss hs ws k)) ∙ g.after;
      }
