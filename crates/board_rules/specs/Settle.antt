-- Settling: where no mark is due and lacking, an event of VCPU v changes no mark but v's.
use Rattle.std.specs.Prelude.{ℕ, suc, ◌-◌, ◌<◌, ◌≡◌, true, false, ◌&&◌, ◌||◌, not, eqb, get_or, set, length}
use Rattle.std.proofs.Common.{sym, ap, ◌∙◌, ⊎_elim, arith, eqb-true, eq-eqb, length-set, get_or-set_same, get_or-set_other, ext_get_or}
use Rattle.std.proofs.lemmas.Bool.{not-true}
use Rattle.laws.specs.Range.{any_to, list_to}
use Rattle.laws.specs.RangeLaws.{any_hit, list_length, list_at, any_at}
use Rattle.laws.specs.BoolLaws.{both_left, both_right, both, neither_right, clash, bool_cases, is_false, same_or_not}
use Rattle.plan.specs.Limits.{max_v, max_m, most_n}
use Rattle.board_rules.specs.Facts.{Facts}
use Rattle.board_rules.specs.Names.{InV, InN, InM}
use Rattle.board_rules.specs.Board.{Board, BoardAnswer, Outcome, seat, left_of, is_stopped, holder_of, holds, holds_global, under_p, must_stop, with_stopped, settled}

-- WHO HOLDS A GLOBAL MUTEX

-- task (v, n) holds the global mutex m
pub record GlobalHold (F : Facts) (H : ℕ → ℕ) (v : ℕ) : Type 0 where
  pub m : ℕ
  pub n : ℕ
  pub m_in : InM m
  pub n_in : InN n
  pub is_global_law : F.global m ≡ true
  pub held : H m ≡ seat v n

pub global_hold : (F : Facts) (b : Board) (v : ℕ) → holds_global F b v ≡ true → GlobalHold F (holder_of b) v
unfolding holds_global
global_hold F b v e =
    let r = any_at max_m (λ m. F.global m && any_to most_n (λ n. holds b v n m)) e in
    let q = any_at most_n (λ n. holds b v n r.at) (both_right (F.global r.at) _ r.is) in
    record {
      m = r.at;
      n = q.at;
      m_in = r.within;
      n_in = q.within;
      is_global_law = both_left (F.global r.at) _ r.is;
      held = eqb-true (holder_of b r.at) (seat v q.at) q.is;
    }

pub hold_global : (F : Facts) (b : Board) (v : ℕ) → GlobalHold F (holder_of b) v → holds_global F b v ≡ true
unfolding holds_global
hold_global F b v r =
    any_hit max_m r.m (λ m. F.global m && any_to most_n (λ n. holds b v n m)) r.m_in.from r.m_in.to
    (both (F.global r.m) _ r.is_global_law
    (any_hit most_n r.n (λ n. holds b v n r.m) r.n_in.from r.n_in.to (eq-eqb (holder_of b r.m) (seat v r.n) r.held)))

-- WHEN A MARK IS DUE

pub record Due (F : Facts) (b : Board) (v : ℕ) : Type 0 where
  pub policy : under_p F.policy ≡ true
  pub vcpu : F.has_vcpu v ≡ true
  pub left : left_of b v ≡ 0
  pub holds_none : holds_global F b v ≡ false

pub due : (F : Facts) (b : Board) (v : ℕ) → must_stop F b v ≡ true → Due F b v
unfolding must_stop
due F b v e =
    let p = both_right (under_p F.policy) _ e in
    let q = both_right (F.has_vcpu v) _ p in
    record {
      policy = both_left (under_p F.policy) _ e;
      vcpu = both_left (F.has_vcpu v) _ p;
      left = eqb-true (left_of b v) 0 (both_left (eqb (left_of b v) 0) _ q);
      holds_none = not-true _ (both_right (eqb (left_of b v) 0) _ q);
    }

pub due_stops : (F : Facts) (b : Board) (v : ℕ) → Due F b v → must_stop F b v ≡ true
unfolding must_stop
due_stops F b v r =
    both (under_p F.policy) _ r.policy
    (both (F.has_vcpu v) _ r.vcpu (both (eqb (left_of b v) 0) _ (eq-eqb (left_of b v) 0 r.left) (ap not r.holds_none)))

-- a mark stands where it is due
abbrev pub Marked : Facts → Board → Type 0
Marked F b = (v : ℕ) → InV v → is_stopped b v ≡ false → must_stop F b v ≡ false

-- a mark that was not due is not due where the VCPU has the budget that it had, and holds a global mutex if it held one
pub still_not_due : (F : Facts) (b b' : Board) (v : ℕ) → left_of b' v ≡ left_of b v → (GlobalHold F (holder_of b) v → GlobalHold F (holder_of b') v) →
    must_stop F b v ≡ false → must_stop F b' v ≡ false
still_not_due F b b' v l h e =
    is_false (must_stop F b' v) (λ t.
    let r = due F b' v t in
    clash (due_stops F b v (record {
      policy = r.policy;
      vcpu = r.vcpu;
      left = sym l ∙ r.left;
      holds_none = is_false (holds_global F b v) (λ p. clash (hold_global F b' v (h (global_hold F b v p))) r.holds_none);
    })) e)

-- SETTLED

pub settled_stopped : (F : Facts) (b : Board) (v : ℕ) → InV v → is_stopped (settled F b) v ≡ (is_stopped b v || must_stop F b v)
unfolding settled
settled_stopped F b v i =
    let up : suc (v - 1) ≡ v = let h = i.from in omega arith in
    list_at max_v (v - 1) (λ w. is_stopped b w || must_stop F b w) false (let h = i.from in let k = i.to in omega arith) ∙ ap (λ w. is_stopped b w || must_stop F b w) up

pub settled_marked : (F : Facts) (b : Board) → Marked F (settled F b)
unfolding settled must_stop holds_global
settled_marked F b v i e = neither_right (is_stopped b v) (must_stop F b v) (sym (settled_stopped F b v i) ∙ e)

-- a mark stays where it is not both due and lacking
pub mark_stays : (F : Facts) (b : Board) (v : ℕ) → (is_stopped b v ≡ false → must_stop F b v ≡ false) → (is_stopped b v || must_stop F b v) ≡ is_stopped b v
mark_stays F b v h = ⊎_elim (λ e. rw e) (λ e. rw e (h e)) (bool_cases (is_stopped b v))

-- the board in which v alone is settled
abbrev pub settled_at : Facts → Board → ℕ → Board
settled_at F b v = with_stopped b (set b.stopped (v - 1) (is_stopped b v || must_stop F b v))

-- an event of v, complete where v alone is settled
abbrev pub complete_at : Facts → BoardAnswer → Board → ℕ → Outcome
complete_at F a b v = record { answer = a; board = settled_at F b v }

-- where no other VCPU's mark is due and lacking, v alone is to be settled
pub settle_one : (F : Facts) (b : Board) (v : ℕ) → length b.stopped ≡ max_v → InV v →
    ((w : ℕ) → InV w → (w ≡ v → ⊥) → is_stopped b w ≡ false → must_stop F b w ≡ false) → settled F b ≡ settled_at F b v
unfolding settled
settle_one F b v s i h = ap (with_stopped b) (ext_get_or false _ _ long at_each)
  where
    long : length (list_to max_v (λ w. is_stopped b w || must_stop F b w)) ≡ length (set b.stopped (v - 1) (is_stopped b v || must_stop F b v))
    long = list_length max_v _ ∙ sym (length-set b.stopped (v - 1) _ ∙ s)

    at_w : (w : ℕ) → InV w → (is_stopped b w || must_stop F b w) ≡ get_or (set b.stopped (v - 1) (is_stopped b v || must_stop F b v)) (w - 1) false
    at_w w j =
        ⊎_elim
        (λ e. rw e (sym (get_or-set_same b.stopped (v - 1) _ false (let p = i.from in let q = i.to in omega (arith, s)))))
        (λ ne. mark_stays F b w (h w j ne) ∙ sym (get_or-set_other b.stopped (v - 1) (w - 1) _ false (λ q. ne (let x = i.from in let y = j.from in omega arith))))
        (same_or_not w v)

    at_each : (k : ℕ) → k < length (list_to max_v (λ w. is_stopped b w || must_stop F b w)) →
        get_or (list_to max_v (λ w. is_stopped b w || must_stop F b w)) k false ≡ get_or (set b.stopped (v - 1) (is_stopped b v || must_stop F b v)) k false
    at_each k l =
        let lt : k < max_v = rw list_length at l in
        let down : suc k - 1 ≡ k = omega arith in
        list_at max_v k (λ w. is_stopped b w || must_stop F b w) false lt ∙ at_w (suc k) (record { from = omega arith; to = lt })
        ∙ ap (λ j. get_or (set b.stopped (v - 1) (is_stopped b v || must_stop F b v)) j false) down
