-- The sections of a sheet: each lock begins where the one before it, and the run after that, are done.
use Rattle.std.specs.Prelude.{ℕ, ◌+◌, ◌≤◌, ◌<◌, ◌≡◌, refl, true, List, [], ◌∷◌, eqb}
use Rattle.std.proofs.Common.{sym, subst, ⊎_elim, arith, eqb-true, eq-eqb, ne_eqb}
use Rattle.laws.specs.BoolLaws.{either_left, either_right, bool_cases}
use Rattle.laws.specs.Sums.{any, sum, Each}
use Rattle.plan.specs.declared.Lock.{Lock}
use Rattle.clock_rules.specs.Clock.{begins_in, ends_in}

-- a lock is on a mutex, for a tick at least
pub record Ticking (l : Lock) : Type 0 where
  pub some_m : 0 < l.m
  pub some_ticks : 0 < l.ticks

-- the lengths of locks and of the runs after them
abbrev pub lock_lengths : List Lock → ℕ
lock_lengths ls = sum (λ l. l.ticks + l.after) ls

-- of locks of which the first begins at s: m is held from a to e
pub record SectionIn (s : ℕ) (ls : List Lock) (m a e : ℕ) : Type 0 where
  pub some_mutex : 0 < m
  pub starts : begins_in s ls a ≡ m
  pub stops : ends_in s ls e ≡ m
  pub from_first : s ≤ a
  pub forward : a < e
  pub not_beyond : e ≤ s + lock_lengths ls
  pub no_start : (x : ℕ) → a < x → x < e → begins_in s ls x ≡ 0
  pub no_stop : (x : ℕ) → a < x → x < e → ends_in s ls x ≡ 0
  pub listed : any (λ l. eqb l.m m) ls ≡ true

-- before the first lock none begins, and none ends
pub none_begins : (s : ℕ) (ls : List Lock) (d : ℕ) → d < s → begins_in s ls d ≡ 0
unfolding begins_in
none_begins s [] d h = refl
none_begins s (l ∷ ls) d h = rw (ne_eqb d s (λ e. omega arith)) (none_begins (s + l.ticks + l.after) ls d (omega arith))

-- nor does any end where the first begins
pub none_ends : (s : ℕ) (ls : List Lock) → Each Ticking ls → (d : ℕ) → d ≤ s → ends_in s ls d ≡ 0
unfolding ends_in
none_ends s [] t d h = refl
none_ends s (l ∷ ls) t d h =
    let p = t.0.some_ticks in rw (ne_eqb d (s + l.ticks) (λ e. omega arith)) (none_ends (s + l.ticks + l.after) ls t.1 d (omega arith))

module _ (s : ℕ) (l : Lock) (ls : List Lock) where
  -- one lock more: what begins and ends elsewhere
  begins_later : (d : ℕ) → (d ≡ s → ⊥) → begins_in s (l ∷ ls) d ≡ begins_in (s + l.ticks + l.after) ls d
  unfolding begins_in
  begins_later d ne = rw (ne_eqb d s ne)

  -- one lock more: what ends elsewhere
  ends_later : (d : ℕ) → (d ≡ s + l.ticks → ⊥) → ends_in s (l ∷ ls) d ≡ ends_in (s + l.ticks + l.after) ls d
  unfolding ends_in
  ends_later d ne = rw (ne_eqb d (s + l.ticks) ne)

  -- the first lock begins at s
  begins_here : begins_in s (l ∷ ls) s ≡ l.m
  unfolding begins_in
  begins_here = rw (eq-eqb s s refl)

  -- and ends when its ticks are done
  ends_here : ends_in s (l ∷ ls) (s + l.ticks) ≡ l.m
  unfolding ends_in
  ends_here = rw (eq-eqb (s + l.ticks) (s + l.ticks) refl)

  -- the section of the first lock
  first_section : Each Ticking (l ∷ ls) → SectionIn s (l ∷ ls) l.m s (s + l.ticks)
  unfolding any sum
  first_section t =
      let p = t.0.some_ticks in
      record {
        some_mutex = t.0.some_m;
        starts = begins_here;
        stops = ends_here;
        from_first = omega arith;
        forward = omega arith;
        not_beyond = omega arith;
        no_start = λ x g h. rw (begins_later x (λ e. omega arith)) (none_begins (s + l.ticks + l.after) ls x (omega arith));
        no_stop = λ x g h. rw (ends_later x (λ e. omega arith)) (none_ends (s + l.ticks + l.after) ls t.1 x (omega arith));
        listed = either_left (eqb l.m l.m) _ (eq-eqb l.m l.m refl);
      }

  -- the section of a later one
  later_section : {m a e : ℕ} → Ticking l → SectionIn (s + l.ticks + l.after) ls m a e → SectionIn s (l ∷ ls) m a e
  unfolding any sum
  later_section {m} {a} {e} t r =
      let p = t.some_ticks in
      let q = r.from_first in
      let f = r.forward in
      record {
        some_mutex = r.some_mutex;
        starts = rw (begins_later a (λ z. omega arith)) r.starts;
        stops = rw (ends_later e (λ z. omega arith)) r.stops;
        from_first = omega arith;
        forward = f;
        not_beyond = let b = r.not_beyond in omega arith;
        no_start = λ x g h. rw (begins_later x (λ z. omega arith)) (r.no_start x g h);
        no_stop = λ x g h. rw (ends_later x (λ z. omega arith)) (r.no_stop x g h);
        listed = either_right (eqb l.m m) _ r.listed;
      }

-- what begins has its section
pub begin_in : (s : ℕ) (ls : List Lock) → Each Ticking ls → (a m : ℕ) → begins_in s ls a ≡ m → 0 < m → (e : ℕ) × SectionIn s ls m a e
unfolding begins_in
begin_in s [] t a m b h = absurd (omega arith)
begin_in s (l ∷ ls) t a m b h =
    let ih = begin_in (s + l.ticks + l.after) ls t.1 a m in
    ⊎_elim
    (λ q.
    let z : l.m ≡ m = rw q at b in
    (s + l.ticks, subst (λ x. SectionIn s (l ∷ ls) m x (s + l.ticks)) (sym (eqb-true a s q)) (subst (λ x. SectionIn s (l ∷ ls) x s (s + l.ticks)) z (first_section s l ls t))))
    (λ q. let r = ih (rw q at b) h in (r.0, later_section s l ls t.0 r.1))
    (bool_cases (eqb a s))

-- what ends has its section
pub end_in : (s : ℕ) (ls : List Lock) → Each Ticking ls → (e m : ℕ) → ends_in s ls e ≡ m → 0 < m → (a : ℕ) × SectionIn s ls m a e
unfolding ends_in
end_in s [] t e m b h = absurd (omega arith)
end_in s (l ∷ ls) t e m b h =
    let ih = end_in (s + l.ticks + l.after) ls t.1 e m in
    ⊎_elim
    (λ q.
    let z : l.m ≡ m = rw q at b in
    (s, subst (λ x. SectionIn s (l ∷ ls) m s x) (sym (eqb-true e (s + l.ticks) q)) (subst (λ x. SectionIn s (l ∷ ls) x s (s + l.ticks)) z (first_section s l ls t))))
    (λ q. let r = ih (rw q at b) h in (r.0, later_section s l ls t.0 r.1))
    (bool_cases (eqb e (s + l.ticks)))
