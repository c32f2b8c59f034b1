-- A plain turn stays plain: after some of its own ticks, and after ticks of another core's.
use Rattle.std.specs.Prelude.{ℕ, suc, ◌+◌, ◌-◌, ◌*◌, ◌<◌, ◌≤◌, ◌≡◌, refl, Bool, true, false, ◌&&◌, ◌||◌, List, eqb, ltb, length, get_or, set}
use Rattle.std.proofs.Common.{sym, ap, subst, ◌∙◌, ⊎_elim, eq-zero-or-pos, arith, eqb-true, eq-eqb, ne_eqb, lt-ltb, length-set}
use Rattle.std.specs.Prelude.{if◌then◌else◌}
use Rattle.laws.specs.BoolLaws.{both_left, both_right, either_left, either_right, either_of, bool_cases, is_false}
use Rattle.plan.specs.Limits.{max_v, most_n}
use Rattle.board_rules.specs.declared.Board.{Board}
use Rattle.board_rules.specs.declared.Next.{Next}
use Rattle.board_rules.specs.declared.Next.TheVariants.{Nobody, To}
use Rattle.board_rules.specs.Board.{seat, left_of, under_p}
use Rattle.board_rules.specs.Names.{seat_one}
use Rattle.board_keeps.specs.Fair.{InV, InN}
use Rattle.clock_rules.specs.Clock.{Timing, done_of, is_unfinished, is_on, picked, idles}
use Rattle.clock_steps.specs.InStep.{all_seats}
use Rattle.clock_steps.specs.Picked.{Chosen, Picked, nobody, somebody, picks}
use Rattle.clock_steps.specs.Done.{done_new, done_else}
use Rattle.clock_plains.specs.Plains.{due_at, Goes, Plain, loses, Spent}
use Rattle.clock_plains.specs.Alike.{Alike, picked_alike, idles_alike}

-- WHAT IS SPENT
module _ {T : Timing} {c : ℕ} {b : Board} {d : List ℕ} {v n j : ℕ} {b' : Board} {d' : List ℕ} (s : Spent T c b d v n j b' d') where
  -- of who loses a tick
  pub left_lost : (w : ℕ) → InV w → loses T c b d v w ≡ true → left_of b' w ≡ left_of b w - j
  left_lost w i e = s.left w i ∙ ap (λ (t : Bool). if t then left_of b w - j else left_of b w) e

  -- of who does not
  pub left_kept : (w : ℕ) → InV w → loses T c b d v w ≡ false → left_of b' w ≡ left_of b w
  left_kept w i e = s.left w i ∙ ap (λ (t : Bool). if t then left_of b w - j else left_of b w) e

  -- nobody does ticks
  pub done_nobody : v ≡ 0 → d' ≡ d
  done_nobody e = s.done ∙ ap (λ (t : Bool). if t then d else set d (seat v n - 1) (done_of d v n + j)) (eq-eqb v 0 e)

  -- (v, n) does them
  pub done_somebody : 0 < v → d' ≡ set d (seat v n - 1) (done_of d v n + j)
  done_somebody h = s.done ∙ ap (λ (t : Bool). if t then d else set d (seat v n - 1) (done_of d v n + j)) (ne_eqb v 0 (λ e. omega arith))

  -- there is still a number for each seat
  pub done_long : length d' ≡ length d
  done_long = ⊎_elim (λ z. ap length (done_nobody z)) (λ h. ap length (done_somebody h) ∙ length-set d (seat v n - 1) (done_of d v n + j)) (eq-zero-or-pos v)

  -- its own number
  pub done_own : 0 < v → InV v → InN n → length d ≡ max_v * most_n → done_of d' v n ≡ done_of d v n + j
  done_own h i l e = ap (λ x. done_of x v n) (done_somebody h) ∙ done_new d v n (done_of d v n + j) i l e

  -- every other
  pub done_other : (w x : ℕ) → InV w → InN x → (0 < v → InV v × InN n) → (0 < v → seat w x ≡ seat v n → ⊥) → done_of d' w x ≡ done_of d w x
  done_other w x a l i ne =
      ⊎_elim (λ z. ap (λ y. done_of y w x) (done_nobody z))
      (λ h. ap (λ y. done_of y w x) (done_somebody h) ∙ done_else d v n (done_of d v n + j) (i h).0 (i h).1 w x a l (ne h)) (eq-zero-or-pos v)

-- WHO IS PICKED in a plain turn

-- a pick of somebody may be picked
own_pick : {T : Timing} {c : ℕ} {b : Board} {d : List ℕ} {x : Next} (v n : ℕ) → Picked T c b d x → x ≡ To v n → Chosen T c b d v n
own_pick {T} {c} {b} {d} v n nobody e = absurd (let z : ◌≡◌ {A = ℕ} 0 1 = cc in omega arith)
own_pick {T} {c} {b} {d} v n (somebody w y q) e = let p : w ≡ v = cc in let r : y ≡ n = cc in subst (λ z. Chosen T c b d v z) r (subst (λ z. Chosen T c b d z y) p q)

module _ {T : Timing} {c : ℕ} {b : Board} {d : List ℕ} {v n k : ℕ} (p : Plain T c b d v n k) where
  -- nobody
  pub picks_nobody : v ≡ 0 → picked T c b d ≡ Nobody
  picks_nobody z = p.who ∙ ap (λ (t : Bool). if t then Nobody else To v n) (eq-eqb n 0 (p.nobody z))

  -- somebody
  pub picks_somebody : 0 < v → picked T c b d ≡ To v n
  picks_somebody h = p.who ∙ ap (λ (t : Bool). if t then Nobody else To v n) (ne_eqb n 0 (λ e. let q = p.somebody h in omega arith))

  -- who may be picked
  pub plain_chosen : 0 < v → Chosen T c b d v n
  plain_chosen h = own_pick v n (picks T c b d) (picks_somebody h)

  -- who loses a tick has more than k
  pub loses_left : (w : ℕ) → InV w → loses T c b d v w ≡ true → k < left_of b w
  loses_left w i e =
      ⊎_elim (λ z. let q = eqb-true w v z in subst (λ y. k < left_of b y) (sym q) (p.goes (omega arith)).budget) (λ z. p.idling w i z)
      (either_of (eqb w v) (idles T c b d w) e)

  -- and is on the core
  pub loses_on : (w : ℕ) → InV w → loses T c b d v w ≡ true → is_on T c w ≡ true
  loses_on w i e =
      ⊎_elim (λ z. let q = eqb-true w v z in subst (λ y. is_on T c y ≡ true) (sym q) (plain_chosen (omega arith)).on_core)
      (λ z. both_left (is_on T c w) _ (both_right (under_p T.facts.policy) _ z))
      (either_of (eqb w v) (idles T c b d w) e)

  -- its names are in range
  pub names_in : 0 < v → InV v × InN n
  names_in h = let g = p.goes h in (g.v_in, g.n_in)

-- a VCPU is on one core
pub one_core : (T : Timing) (c c₂ w : ℕ) → is_on T c w ≡ true → is_on T c₂ w ≡ true → c ≡ c₂
one_core T c c₂ w e f =
    sym (eqb-true (T.core w) c (both_right (T.facts.has_vcpu w) _ e)) ∙ eqb-true (T.core w) c₂ (both_right (T.facts.has_vcpu w) _ f)

-- AFTER SOME TICKS every core picks as before
module _ {T : Timing} {c : ℕ} {b : Board} {d : List ℕ} {v n j k : ℕ} {b' : Board} {d' : List ℕ} (p : Plain T c b d v n k) (s : Spent T c b d v n j b' d') (few : j ≤ k) (long : length d ≡ max_v * most_n) where
  -- the same VCPUs have budget
  spent_has_left : (w : ℕ) → InV w → ltb 0 (left_of b' w) ≡ ltb 0 (left_of b w)
  spent_has_left w i =
      ⊎_elim
      (λ e.
      let l = loses_left p w i e in
      let z = left_lost s w i e in
      lt-ltb 0 (left_of b' w) (omega arith) ∙ sym (lt-ltb 0 (left_of b w) (omega arith)))
      (λ e. ap (ltb 0) (left_kept s w i e)) (bool_cases (loses T c b d v w))

  -- the same jobs are unfinished
  spent_unfinished : (w x : ℕ) → InV w → InN x → is_unfinished T d' w x ≡ is_unfinished T d w x
  spent_unfinished w x a l = ⊎_elim (λ z. ap (λ y. is_unfinished T y w x) (done_nobody s z)) (λ h. some h w x a l) (eq-zero-or-pos v)
    where
      some : 0 < v → (w x : ℕ) → InV w → InN x → is_unfinished T d' w x ≡ is_unfinished T d w x
      some h =
          let g = p.goes h in
          let u = g.unfinished in
          let o = done_own s h g.v_in g.n_in long in
          all_seats (λ w x. is_unfinished T d' w x ≡ is_unfinished T d w x) v n g.v_in g.n_in
          (ap (λ (t : Bool). T.facts.has_task v n && t) (lt-ltb (done_of d' v n) (T.lengths v n) (omega arith) ∙ sym (lt-ltb (done_of d v n) (T.lengths v n) (omega arith))))
          (λ w x a l ne. ap (λ y. T.facts.has_task w x && ltb y (T.lengths w x)) (done_other s w x a l (names_in p) (λ q. ne)))

  -- so nothing changes that a pick looks at
  pub spent_alike : Alike T b d b' d'
  spent_alike = record {
    over_same = s.over_same;
    stopped_same = s.stopped_same;
    holder_same = s.holder_same;
    waits_same = s.waits_same;
    has_left = spent_has_left;
    unfinished = spent_unfinished;
  }

  -- the same VCPUs lose ticks
  pub loses_alike : (w : ℕ) → InV w → loses T c b' d' v w ≡ loses T c b d v w
  loses_alike w i = ap (λ (t : Bool). eqb w v || t) (idles_alike spent_alike c w i)

-- what is due is by the holders
due_alike : (T : Timing) (b b' : Board) (v n x : ℕ) → b'.holder ≡ b.holder → due_at T b' v n x ≡ due_at T b v n x
due_alike T b b' v n x e = ap (λ hs. let m = T.begins v n x in if eqb (get_or hs (m - 1) 0) (seat v n) then 0 else m) e

-- a task that goes on for j + k ticks goes on for k after j of them
goes_later : {T : Timing} {c : ℕ} {b : Board} {d : List ℕ} {v n j k : ℕ} {b' : Board} {d' : List ℕ} → Spent T c b d v n j b' d' → length d ≡ max_v * most_n → 0 < v → Goes T b d v n (j + k) → Goes T b' d' v n k
goes_later {T} {c} {b} {d} {v} {n} {j} {k} {b'} {d'} s long h g =
    let o = done_own s h g.v_in g.n_in long in
    let z = left_lost s v g.v_in (either_left (eqb v v) (idles T c b d v) (eq-eqb v v refl)) in
    let l = g.budget in
    let u = g.unfinished in
    record {
      v_in = g.v_in;
      n_in = g.n_in;
      budget = omega arith;
      unfinished = omega arith;
      no_ask_law = λ i r.
          ap (due_at T b' v n) {x = done_of d' v n + i} {y = done_of d v n + (j + i)} (omega arith) ∙ due_alike T b b' v n (done_of d v n + (j + i)) s.holder_same ∙ g.no_ask_law (j + i) (omega arith);
      no_end = λ i r. ap (T.ends v n) {x = done_of d' v n + i + 1} {y = done_of d v n + (j + i) + 1} (omega arith) ∙ g.no_end (j + i) (omega arith);
    }

-- A CORE'S TURN THAT STAYS THE SAME for j + k ticks stays so for k after j of them
pub plain_later : {T : Timing} {c : ℕ} {b : Board} {d : List ℕ} {v n j k : ℕ} {b' : Board} {d' : List ℕ} → length d ≡ max_v * most_n → Plain T c b d v n (j + k) → Spent T c b d v n j b' d' → Plain T c b' d' v n k
plain_later {T} {c} {b} {d} {v} {n} {j} {k} {b'} {d'} long p s =
    let a = spent_alike p s (omega arith) long in
    record {
      who = picked_alike a c ∙ p.who;
      nobody = p.nobody;
      somebody = p.somebody;
      goes = λ h. goes_later s long h (p.goes h);
      idling = λ w i e.
          let f = sym (idles_alike a c w i) ∙ e in
          let l = p.idling w i f in
          let z = left_lost s w i (either_right (eqb w v) (idles T c b d w) f) in
          omega arith;
    }

-- and for k after one
pub plain_next : {T : Timing} {c : ℕ} {b : Board} {d : List ℕ} {v n k : ℕ} {b' : Board} {d' : List ℕ} → length d ≡ max_v * most_n → Plain T c b d v n (suc k) → Spent T c b d v n 1 b' d' → Plain T c b' d' v n k
plain_next {T} {c} {b} {d} {v} {n} {k} long p s = plain_later long (subst (λ y. Plain T c b d v n y) {x = suc k} {y = 1 + k} (omega arith) p) s

-- ANOTHER CORE'S TICKS leave it
module _ {T : Timing} {c c₂ : ℕ} (apart : c ≡ c₂ → ⊥) {b : Board} {d : List ℕ} {v n k v₂ n₂ i j : ℕ} {b' : Board} {d' : List ℕ}
    (long : length d ≡ max_v * most_n) (p : Plain T c b d v n k) (q : Plain T c₂ b d v₂ n₂ j) (few : i ≤ j) (s : Spent T c₂ b d v₂ n₂ i b' d') where
  -- a VCPU of core c loses none
  other_left : (w : ℕ) → InV w → is_on T c w ≡ true → left_of b' w ≡ left_of b w
  other_left w a on = left_kept s w a (is_false (loses T c₂ b d v₂ w) (λ e. apart (one_core T c c₂ w on (loses_on q w a e))))

  -- nor does its task another tick
  other_done : 0 < v → done_of d' v n ≡ done_of d v n
  other_done h =
      let g = names_in p h in
      done_other s v n g.0 g.1 (names_in q)
      (λ l e.
      let m = names_in q l in
      let z = (seat_one v n v₂ n₂ g.0 g.1 m.0 m.1 e).0 in
      apart (one_core T c c₂ v (plain_chosen p h).on_core (subst (λ y. is_on T c₂ y ≡ true) (sym z) (plain_chosen q l).on_core)))

  -- so it goes on as before
  other_goes : 0 < v → Goes T b' d' v n k
  other_goes h =
      let g = p.goes h in
      let o = other_done h in
      let l = other_left v g.v_in (plain_chosen p h).on_core in
      let u = g.budget in
      let f = g.unfinished in
      record {
        v_in = g.v_in;
        n_in = g.n_in;
        budget = omega arith;
        unfinished = omega arith;
        no_ask_law = λ y r. ap (λ z. due_at T b' v n (z + y)) o ∙ due_alike T b b' v n (done_of d v n + y) s.holder_same ∙ g.no_ask_law y r;
        no_end = λ y r. ap (λ z. T.ends v n (z + y + 1)) o ∙ g.no_end y r;
      }

  -- the turn of core c stays the same
  pub plain_other : Plain T c b' d' v n k
  plain_other =
      let a = spent_alike q s few long in
      record {
        who = picked_alike a c ∙ p.who;
        nobody = p.nobody;
        somebody = p.somebody;
        goes = other_goes;
        idling = λ w y e.
            let f = sym (idles_alike a c w y) ∙ e in
            let l = p.idling w y f in
            let z = other_left w y (both_left (is_on T c w) _ (both_right (under_p T.facts.policy) _ f)) in
            omega arith;
      }
