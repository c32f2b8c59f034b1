-- The recurrence gives the right answer, any two right answers are the same, and a search by hand is proved by four steps of a trace.
use Rattle.std.specs.Prelude.{ℕ, zero, suc, ◌+◌, ◌-◌, ◌≤◌, ◌<◌, min, ◌≡◌, refl, Bool, true, false, ◌↔◌, ◌≢◌, ltb, eqb}
use Rattle.std.proofs.Common.{ap, inl, inr, lt_trans, le_of_eq, arith, add-one, below_more, below_none, lt-ltb, le-ltb, le-leb, eq-eqb, ne_eqb}
use Rattle.std.proofs.Math.Path.{fun_ext}
use Rattle.std.proofs.Math.Logic.{by_cases}
use Rattle.std.proofs.Math.Option.{Option, some, none}
use Rattle.std.proofs.Math.Decide.{dec_le, dec_lt, ℕ_discrete}
use Rattle.std.proofs.lemmas.Bool.{lt-leb}
use Rattle.search.specs.Search.{Answer, Fits, Late, iterate, Over, Rounds, Smallest, window, rounds, Right, recur, solve, Demand, try_from, plain}

-- ---- any two right answers are the same

rounds_once : {d : ℕ → ℕ} {s L m n : ℕ} → Rounds d s L m → Rounds d s L n → m ≤ n
rounds_once {d} {s} {L} {m} {n} p q =
    by_cases (dec_le m n) (λ h. h) (λ h. absurd (p.not_before n (omega arith) q.over))

pub smallest_once : (d : ℕ → ℕ) (L : ℕ) (a b : Option ℕ) → Smallest d L a → Smallest d L b → a ≡ b
smallest_once d L (some w) (some v) p q = ap some (go (dec_lt w v) (dec_lt v w))
  where
    go : Dec (w < v) → Dec (v < w) → w ≡ v
    go (yes h) e = let z = q.2 w h in omega arith
    go (no h) (yes e) = let z = p.2 v e in omega arith
    go (no h) (no e) = omega arith
smallest_once d L (some w) none p q = absurd (let z = q w p.0 in omega arith)
smallest_once d L none (some v) p q = absurd (let z = p v q.0 in omega arith)
smallest_once d L none none p q = refl

same_answer : (a b : Answer) → window a ≡ window b → rounds a ≡ rounds b → a ≡ b
same_answer (Fits w m) (Fits v n) p q = cc
same_answer (Fits w m) (Late n) p q = cc
same_answer (Late m) (Fits v n) p q = cc
same_answer (Late m) (Late n) p q = cc

pub right_once : {d : ℕ → ℕ} {s L : ℕ} {a b : Answer} → Right d s L a → Right d s L b → a ≡ b
right_once {d} {s} {L} {a} {b} p q =
    let m : rounds a ≤ rounds b = rounds_once p.counted q.counted in
    let n : rounds b ≤ rounds a = rounds_once q.counted p.counted in
    same_answer a b (smallest_once d L (window a) (window b) p.smallest q.smallest) (omega arith)

-- ---- the trace of a run

-- y is a, or cut off above the limit
abbrev pub Cut : ℕ → ℕ → ℕ → Type 0
Cut L y a = (min a (suc L) ≤ y) × (y ≤ a)

-- the recurrence goes on past its k-th number
abbrev Moves : (ℕ → ℕ) → ℕ → ℕ → ℕ → Type 0
Moves d s L k = (iterate d s k ≤ L) × (iterate d s k < iterate d s (suc k))

-- after n evaluations the run stands at x
pub record Trace (d : ℕ → ℕ) (s L n x : ℕ) : Type 0 where
  pub demand : Demand d s
  pub count : n ≤ x
  pub none_below : (v : ℕ) → v < x → v < d v
  pub here : Cut L x (iterate d s n)
  pub moving : (k : ℕ) → k < n → Moves d s L k

not_over : (d : ℕ → ℕ) (s L k : ℕ) → iterate d s k ≤ L → ((j : ℕ) → j < k → Moves d s L j) → ¬ Over d s L k
not_over d s L zero h m o = omega arith
not_over d s L (suc j) h m (inl o) = omega arith
not_over d s L (suc j) h m (inr e) = let z = (m j (omega arith)).1 in omega arith

passed : (d : ℕ → ℕ) (s L n : ℕ) → L < iterate d s n → Over d s L n
passed d s L zero h = h
passed d s L (suc n) h = inl h

none_over : {d : ℕ → ℕ} {s L n x : ℕ} → Trace d s L n x → (k : ℕ) → k < n → ¬ Over d s L k
none_over {d} {s} {L} T k l = not_over d s L k (T.moving k l).0 (λ j h. T.moving j (lt_trans h l))

pub trace_start : {d : ℕ → ℕ} {s L x : ℕ} → Demand d s → Cut L x s → Trace d s L 0 x
trace_start {d} {s} {L} D c =
    record {
      demand = D;
      count = omega arith;
      none_below = λ v h. let z = D.above v in omega arith;
      here = c;
      moving = below_none (Moves d s L);
    }

-- x has passed the limit
pub trace_late : {d : ℕ → ℕ} {s L n x : ℕ} → Trace d s L n x → L < x → Right d s L (Late n)
trace_late {d} {s} {L} {n} T h =
    record {
      smallest = λ v l. T.none_below v (omega arith);
      counted = record { over = passed d s L n (let z = T.here in omega arith); not_before = none_over T };
    }

-- a turn at x, within the limit, finds the demand y
module _ {d : ℕ → ℕ} {s L n x y : ℕ} (T : Trace d s L n x) (h : x ≤ L) (c : Cut L y (d x)) where
  here_is : iterate d s n ≡ x
  here_is = let z = T.here in omega arith

  -- the recurrence never falls
  never_falls : x ≤ d x
  never_falls = by_cases (dec_le x (d x)) (λ k. k) (λ k.
      let y : d x < d (d x) = T.none_below (d x) (omega arith) in
      let z : d (d x) ≤ d x = T.demand.rises (d x) x (omega arith) in
      omega arith)

  pub trace_grows : y ≢ x → x < y
  trace_grows ne = let z = never_falls in omega arith

  pub trace_next : y ≢ x → Trace d s L (n + 1) y
  trace_next ne =
      let g : x < y = trace_grows ne in
      record {
        demand = T.demand;
        count = let z = T.count in omega arith;
        none_below = λ v l. by_cases (dec_lt v x) (T.none_below v) (λ k. let z = T.demand.rises x v (omega arith) in omega arith);
        here = rw (add-one, here_is) c;
        moving = below_more (Moves d s L) n T.moving (rw here_is (omega arith));
      }

  -- x repeats
  pub trace_fits : y ≡ x → Right d s L (Fits x (n + 1))
  trace_fits e =
      let f : d x ≡ x = omega arith in
      record {
        smallest = (h, le_of_eq f, T.none_below);
        counted =
            record {
              over = rw add-one (inr (rw here_is f));
              not_before = below_more (λ k. ¬ Over d s L k) n (none_over T) (not_over d s L n (rw here_is h) T.moving);
            };
      }

-- ---- the recurrence gives the right answer

recur_right : {d : ℕ → ℕ} {s L : ℕ} (f : ℕ) {n x : ℕ} → Trace d s L n x → L < x + f → Right d s L (recur d L f n x)
unfolding recur
recur_right zero T enough = trace_late T (omega arith)
recur_right {d} {s} {L} (suc f) {n} {x} T enough = go (dec_lt L x) (ℕ_discrete (d x) x) (recur_right f)
  where
    go : Dec (L < x) → Dec (d x ≡ x)
        → (Trace d s L (n + 1) (d x) → L < d x + f → Right d s L (recur d L f (n + 1) (d x))) → Right d s L (recur d L (suc f) n x)
    go (yes p) q next = rw (lt-ltb L x p, recur) (trace_late T p)
    go (no p) (yes q) next = rw (le-ltb L x (omega arith), eq-eqb (d x) x q, recur) (trace_fits T (omega arith) (omega arith) q)
    go (no p) (no q) next =
        let g : x < d x = trace_grows T (omega arith) (omega arith) q in
        rw (le-ltb L x (omega arith), ne_eqb (d x) x q, recur) (next (trace_next T (omega arith) (omega arith) q) (omega arith))

pub solve_right : {d : ℕ → ℕ} {s L : ℕ} → Demand d s → Right d s L (solve d s L)
unfolding solve
solve_right {d} {s} {L} D = recur_right (L + 1 - s) (trace_start D (omega arith)) (omega arith)

-- ---- what a search returns

pub solve_fits : {d : ℕ → ℕ} {s L n x y : ℕ} → Trace d s L n x → x ≤ L → Cut L y (d x) → y ≡ x → Fits x (n + 1) ≡ solve d s L
solve_fits T h c e = right_once (trace_fits T h c e) (solve_right T.demand)

pub solve_late : {d : ℕ → ℕ} {s L n x : ℕ} → Trace d s L n x → L < x → Late n ≡ solve d s L
solve_late T h = right_once (trace_late T h) (solve_right T.demand)

-- ---- the rounds are few: none where the start is above the limit, and else at most L - s + 1.

recur_rounds : (d : ℕ → ℕ) (L f n x : ℕ) → rounds (recur d L f n x) ≤ n + f
unfolding recur
recur_rounds d L zero n x = omega arith
recur_rounds d L (suc f) n x = go (ltb L x) (eqb (d x) x) (recur_rounds d L f (n + 1) (d x))
  where
    go : (p q : Bool) → rounds (recur d L f (n + 1) (d x)) ≤ n + 1 + f
        → rounds (elim p [ true ↦ Late n | false ↦ elim q [ true ↦ Fits x (n + 1) | false ↦ recur d L f (n + 1) (d x) ] ]) ≤ n + suc f
    go true q h = omega arith
    go false true h = omega arith
    go false false h = omega arith

pub few_rounds : {d : ℕ → ℕ} {s L : ℕ} {a : Answer} → Demand d s → Right d s L a → rounds a ≤ L + 1 - s
unfolding solve
few_rounds {d} {s} {L} {a} D r =
    let e : a ≡ solve d s L = right_once r (solve_right D) in
    rw e (let z = recur_rounds d L (L + 1 - s) 0 s in omega arith)

-- ---- the plain search finds the same window

try_smallest : (d : ℕ → ℕ) (L f v : ℕ) → ((u : ℕ) → u < v → u < d u) → f + v ≡ L + 1 → Smallest d L (try_from d f v)
unfolding try_from
try_smallest d L zero v all e = λ u h. all u (omega arith)
try_smallest d L (suc f) v all e = go (dec_le (d v) v) (try_smallest d L f (v + 1))
  where
    go : Dec (d v ≤ v) → (((u : ℕ) → u < v + 1 → u < d u) → f + (v + 1) ≡ L + 1 → Smallest d L (try_from d f (v + 1)))
        → Smallest d L (try_from d (suc f) v)
    go (yes p) next = rw (le-leb (d v) v p, try_from, Smallest) (omega arith, p, all)
    go (no p) next =
        rw (lt-leb (d v) v (omega arith), try_from, Smallest) (next (below_more (λ u. u < d u) v all (omega arith)) (omega arith))

pub plain_same : {d : ℕ → ℕ} {s L : ℕ} {a : Answer} → Right d s L a → window a ≡ plain d L
unfolding plain
plain_same {d} {s} {L} {a} r =
    smallest_once d L (window a) (plain d L) r.smallest
    (try_smallest d L (L + 1) 0 (below_none (λ u. u < d u)) (omega arith))

-- ---- a demand that is nowhere above another fits wherever that one does, and no later

pub order : (d e : ℕ → ℕ) (L w : ℕ) (a : Option ℕ) → ((t : ℕ) → d t ≤ e t) → Smallest e L (some w) → Smallest d L a
    → (v : ℕ) × (a ≡ some v) × (v ≤ w)
order d e L w (some v) le p q =
    (v, refl, by_cases (dec_le v w) (λ h. h) (λ h. let y = le w in let z = q.2 w (omega arith) in omega arith))
order d e L w none le p q = absurd (let y = le w in let z = q w p.0 in omega arith)

pub order_solve : {d e : ℕ → ℕ} {s r : ℕ} (L : ℕ) {w n : ℕ} → Demand d s → Demand e r → ((t : ℕ) → d t ≤ e t) → solve e r L ≡ Fits w n
    → (v : ℕ) × (window (solve d s L) ≡ some v) × (v ≤ w)
order_solve {d} {e} {s} {r} L {w} D E le p =
    order d e L w (window (solve d s L)) le (rw p at (solve_right {L = L} E).smallest) (solve_right D).smallest

-- ---- demands that agree have the same answer

pub solve_same : {d e : ℕ → ℕ} (s L : ℕ) → ((t : ℕ) → d t ≡ e t) → solve d s L ≡ solve e s L
solve_same s L h = ap (λ (f : ℕ → ℕ). solve f s L) (fun_ext h)

-- ---- the claim on searches, for any demand that never falls and never goes below its start

pub record Answered (d : ℕ → ℕ) (s L : ℕ) (a : Answer) : Type 0 where
  -- it fits exactly when some number from 0 to the limit is at least its demand
  pub exactly : ((v : ℕ) × (v ≤ L) × (d v ≤ v)) ↔ ((w : ℕ) × (window a ≡ some w))
  -- and then with the smallest such number
  pub least : (w : ℕ) → window a ≡ some w → (w ≤ L) × (d w ≤ w) × ((v : ℕ) → v ≤ L → d v ≤ v → w ≤ v)
  -- the rounds are the recurrence's own count: 0 where the start is above the limit, and never more than limit - start + 1 otherwise
  pub counted : Rounds d s L (rounds a)
  pub no_round : L < s → rounds a ≡ 0
  pub few : s ≤ L → rounds a ≤ L - s + 1

module _ (d : ℕ → ℕ) (L : ℕ) where
  smallest_exactly : (o : Option ℕ) → Smallest d L o → ((v : ℕ) × (v ≤ L) × (d v ≤ v)) ↔ ((w : ℕ) × (o ≡ some w))
  smallest_exactly (some w) h = (λ q. (w, refl), λ q. (w, h.0, h.1))
  smallest_exactly none h = (λ q. absurd (let z = h q.0 q.1 in omega arith), λ q. absurd (let z : ◌≡◌ {A = ℕ} 0 1 = cc in omega arith))

  smallest_least :
      (o : Option ℕ) → Smallest d L o → (w : ℕ) → o ≡ some w → (w ≤ L) × (d w ≤ w) × ((v : ℕ) → v ≤ L → d v ≤ v → w ≤ v)
  smallest_least (some u) h w e =
      let q : u ≡ w = cc in
      rw (← q) (h.0, h.1, λ v l k. by_cases (dec_le u v) (λ z. z) (λ z. let y = h.2 v (omega arith) in absurd (omega arith)))
  smallest_least none h w e = absurd (let z : ◌≡◌ {A = ℕ} 0 1 = cc in omega arith)

pub solve_answers : {d : ℕ → ℕ} {s : ℕ} (L : ℕ) → Demand d s → Answered d s L (solve d s L)
solve_answers {d} {s} L D =
    let r : Right d s L (solve d s L) = solve_right D in
    let f : rounds (solve d s L) ≤ L + 1 - s = few_rounds D r in
    record {
      exactly = smallest_exactly d L (window (solve d s L)) r.smallest;
      least = smallest_least d L (window (solve d s L)) r.smallest;
      counted = r.counted;
      no_round = λ h. omega arith;
      few = λ h. omega arith;
    }
