-- Laws of the rules of one VCPU.
use Rattle.std.specs.Prelude.{ℕ, ◌+◌, ◌-◌, ◌≤◌, ◌<◌, min, ◌≡◌, refl, List, Bool, true, false, ◌&&◌, ◌||◌, not, eqb, ltb, leb, get_or, Ok, Err}
use Rattle.std.proofs.Common.{sym, ap, ap₂, ◌∙◌, arith, eq-eqb, ne_eqb, eqb-true, le-leb, leb-true, leb-false}
use Rattle.std.proofs.Math.Bool.{or-false}
use Rattle.std.proofs.lemmas.Bool.{false≢true, eqb-false, lt-leb}
use Rattle.laws.specs.BoolLaws.{both_left, both_right}
use Rattle.std.specs.Prelude.{if◌then◌else◌}
use Rattle.plan.specs.Limits.{max_ticks}
use Rattle.plan.specs.Refusals.{unless, Fault}
use Rattle.plan.specs.Rules.{within}
use Rattle.plan.specs.declared.Policy.{Policy}
use Rattle.plan.specs.declared.Policy.TheVariants.{Deferrable}
use Rattle.plan.specs.declared.OverrunChoice.{OverrunChoice}
use Rattle.plan.specs.declared.OverrunChoice.TheVariants.{WithOverrun, WithoutOverrun}
use Rattle.plan.specs.declared.Refusal.{Refusal}
use Rattle.plan.proofs.RuleLaws.{in_range_law}
use Rattle.board_seats.specs.Seats.{is_v, is_n, is_m, has_vcpu, has_task, has_mutex, task_at, owner_at}
use Rattle.board_seats.specs.SeatLaws.{Ranges, ranges}
use Rattle.board_walks.specs.Walks.{holds_global}
use Rattle.board_reserves.specs.Supplies.{reserve, supply_at, tick_fault, under_p, idle, next_mark, mark_by, known}

-- A SUPPLY CUT OFF at the ticks of an event is as much asleep
pub asleep_capped : (s : ℕ) → eqb (min s max_ticks) 0 ≡ eqb s 0
asleep_capped s = go (eqb s 0) refl
  where
    go : (c : Bool) → eqb s 0 ≡ c → eqb (min s max_ticks) 0 ≡ c
    go true e = let h : s ≡ 0 = eqb-true s 0 e in eq-eqb (min s max_ticks) 0 (omega arith)
    go false e = ne_eqb (min s max_ticks) 0 (λ q. eqb-false s 0 e (omega arith))

fits_capped : (s t : ℕ) → t ≤ max_ticks → leb t (min s max_ticks) ≡ leb t s
fits_capped s t h = go (leb t s) refl
  where
    go : (c : Bool) → leb t s ≡ c → leb t (min s max_ticks) ≡ c
    go true e = let l : t ≤ s = leb-true t s e in le-leb t (min s max_ticks) (omega arith)
    go false e = let l : s < t = leb-false t s e in lt-leb t (min s max_ticks) (omega arith)

-- and has the same faults
pub tick_capped : (s t : ℕ) → tick_fault (min s max_ticks) t ≡ tick_fault s t
unfolding unless
tick_capped s t = go (within t 1 max_ticks) refl
  where
    go : (c : Bool) → within t 1 max_ticks ≡ c → tick_fault (min s max_ticks) t ≡ tick_fault s t
    go false e = rw e
    go true e =
        let h : t ≤ max_ticks = leb-true t max_ticks (both_right (leb 1 t) (leb t max_ticks) e) in
        rw (asleep_capped s, fits_capped s t h)

-- THE FAULTS of an event: its first test is that what it names is in the plan
pub unless_yes : {c : Bool} (r : Refusal) (f : Fault) → c ≡ true → f ≡ unless c r f
unfolding unless
unless_yes r f e = rw e

pub unless_no : {c : Bool} (r : Refusal) (f : Fault) → c ≡ false → Err r ≡ unless c r f
unfolding unless
unless_no r f e = rw e

-- IDLE: who holds a global mutex is asked only of a VCPU of the plan that stands at 0
module _ (t ls hs : List ℕ) (v : ℕ) {p q : Bool} {l : ℕ} (a : p ≡ has_vcpu t v) (b : l ≡ get_or ls (v - 1) 0) (c : q ≡ (p && eqb l 0)) where
  at_zero : (has_vcpu t v && eqb (get_or ls (v - 1) 0) 0) ≡ q
  at_zero = sym (ap₂ (λ x y. x && eqb y 0) a b) ∙ sym c

  pub idle_asked : {h r : Bool} → q ≡ true → h ≡ holds_global t hs v → r ≡ not h → r ≡ idle t ls hs v
  idle_asked e f g = g ∙ ap not f ∙ third (has_vcpu t v) (eqb (get_or ls (v - 1) 0) 0) (at_zero ∙ e)
    where
      third : (x y : Bool) {z : Bool} → (x && y) ≡ true → z ≡ (x && (y && z))
      third true y u = rw u
      third false y u = absurd (false≢true u)

  pub idle_spared : q ≡ false → false ≡ idle t ls hs v
  idle_spared e = third (has_vcpu t v) (eqb (get_or ls (v - 1) 0) 0) (not (holds_global t hs v)) (at_zero ∙ e)
    where
      third : (x y z : Bool) → (x && y) ≡ false → false ≡ (x && (y && z))
      third true y z u = rw u
      third false y z u = refl

-- THE OVERRUN counts only where a global mutex is held
reserve_held : (c : OverrunChoice) (h s : Bool) (o : ℕ) → (if h then reserve c true s o else 0) ≡ reserve c h s o
reserve_held WithOverrun true s o = refl
reserve_held WithOverrun false s o = refl
reserve_held WithoutOverrun true s o = refl
reserve_held WithoutOverrun false s o = refl

pub supply_counts : (c : OverrunChoice) (t ls os : List ℕ) (ss : List Bool) (hs : List ℕ) (v : ℕ) →
    min (get_or ls (v - 1) 0 + (if holds_global t hs v then reserve c true (get_or ss (v - 1) false) (get_or os (v - 1) 0) else 0)) max_ticks
    ≡ min (supply_at c t ls os ss hs v) max_ticks
supply_counts c t ls os ss hs v =
    ap (λ x. min (get_or ls (v - 1) 0 + x) max_ticks) (reserve_held c (holds_global t hs v) (get_or ss (v - 1) false) (get_or os (v - 1) 0))

-- and who holds one need not be asked where there is none left
pub none_counts : (h : Bool) {o : ℕ} → o ≡ 0 → 0 ≡ (if h then o else 0)
none_counts true e = sym e
none_counts false e = refl

-- TICKS within what is left of the budget are within every supply
pub fits_left : (l o x : ℕ) → (within x 1 max_ticks && leb x l) ≡ true → Ok tt ≡ tick_fault (l + o) x
unfolding unless
fits_left l o x e =
    let w = both_left (within x 1 max_ticks) (leb x l) e in
    let low : 1 ≤ x = leb-true 1 x (both_left (leb 1 x) (leb x max_ticks) w) in
    let fits : x ≤ l = leb-true x l (both_right (within x 1 max_ticks) (leb x l) e) in
    rw (w, ne_eqb (l + o) 0 (λ q. omega arith), le-leb x (l + o) (omega arith))

-- NAMES IN THE PLAN are in range
pub vcpu_range : (t : List ℕ) (v : ℕ) → has_vcpu t v ≡ true → (1 ≤ v) × (v ≤ 16)
vcpu_range t v e = in_range_law v 1 16 (both_left (is_v v) (ltb 0 (get_or t (v - 1) 0)) e)

pub task_range : (t : List ℕ) (v n : ℕ) → has_task t v n ≡ true → Ranges v n
task_range t v n e = ranges v n (both_left (is_v v && is_n n) (ltb 0 (task_at t v n)) e)

mutex_range : (t : List ℕ) (m : ℕ) → has_mutex t m ≡ true → (1 ≤ m) × (m ≤ 32)
mutex_range t m e = in_range_law m 1 32 (both_left (is_m m) (ltb 0 (owner_at t m)) e)

pub record Known (v n m : ℕ) : Type 0 where
  pub low_v : 1 ≤ v
  pub high_v : v ≤ 16
  pub low_n : 1 ≤ n
  pub high_n : n ≤ 8
  pub low_m : 1 ≤ m
  pub high_m : m ≤ 32

pub known_range : (t : List ℕ) (v n m : ℕ) → known t v n m ≡ true → Known v n m
known_range t v n m e =
    let a = task_range t v n (both_left (has_task t v n) (has_mutex t m) e) in
    let b = mutex_range t m (both_right (has_task t v n) (has_mutex t m) e) in
    record { low_v = a.low_v; high_v = a.high_v; low_n = a.low_n; high_n = a.high_n; low_m = b.0; high_m = b.1 }

-- UNDER D no VCPU is stopped: a mark stays
pub mark_stays : (t ls : List ℕ) (ss : List Bool) (hs : List ℕ) (v : ℕ) → get_or ss (v - 1) false ≡ next_mark Deferrable t ls ss hs v
mark_stays t ls ss hs v = sym (or-false (get_or ss (v - 1) false))

-- A MARK SETTLED BY WHAT IS KNOWN of who holds a global mutex is the one that is due
pub mark_known : (p : Policy) (t ls : List ℕ) (ss : List Bool) (hs : List ℕ) (v : ℕ) {h : Bool} → has_vcpu t v ≡ true → h ≡ holds_global t hs v → mark_by p ls ss v h ≡ next_mark p t ls ss hs v
mark_known p t ls ss hs v e k =
    ap (λ x. get_or ss (v - 1) false || (under_p p && (eqb (get_or ls (v - 1) 0) 0 && not x))) k
    ∙ ap (λ x. get_or ss (v - 1) false || (under_p p && (x && (eqb (get_or ls (v - 1) 0) 0 && not (holds_global t hs v))))) (sym e)
