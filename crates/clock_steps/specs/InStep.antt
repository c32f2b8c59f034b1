-- The clock and the board in step: what a task holds and waits for is what its sheet says of the ticks that its job has done.
use Rattle.std.specs.Prelude.{ℕ, ◌+◌, ◌≤◌, ◌<◌, ◌≡◌, refl, ◌↔◌}
use Rattle.std.proofs.Common.{sym, ap, subst, ◌∙◌, ⊎_elim, eq-or-lt_of_le, arith}
use Rattle.laws.specs.BoolLaws.{same_or_not}
use Rattle.board_rules.specs.Board.{seat}
use Rattle.board_keeps.specs.Fair.{InV, InN, InM}
use Rattle.board_rules.specs.Names.{seat_one, seat_some}
use Rattle.board_keeps.specs.Moves.{HoldersBut}
use Rattle.clock_rules.specs.Clock.{Timing}
use Rattle.clock_paced.specs.Paced.{SectionAt, Paced, section_m}

-- a section on m has begun when d ticks are done, or begins there, and is not over
pub record Inside (T : Timing) (v n m d : ℕ) : Type 0 where
  pub start : ℕ
  pub stop : ℕ
  pub section : SectionAt T v n m start stop
  pub begun : start ≤ d
  pub not_over : d < stop

-- task (v, n), which waits for w, is in step with the holders H when its job has done d ticks
pub record Stepped (T : Timing) (H : ℕ → ℕ) (w v n d : ℕ) : Type 0 where
  pub done_in_law : d ≤ T.lengths v n
  pub held_inside : (m : ℕ) → InM m → H m ≡ seat v n → Inside T v n m d
  pub waits_at : (w ≡ 0 → ⊥) → T.begins v n d ≡ w
  pub inside_held : (m a e : ℕ) → SectionAt T v n m a e → a < d → d < e → H m ≡ seat v n

-- every task is: H m is the seat of the holder of m, W v n the mutex that (v, n) waits for, D v n the ticks that its job has done
abbrev pub InStep : Timing → (ℕ → ℕ) → (ℕ → ℕ → ℕ) → (ℕ → ℕ → ℕ) → Type 0
InStep T H W D = (v n : ℕ) → InV v → InN n → Stepped T H (W v n) v n (D v n)

-- a task gets all that is due to it before it works: where its section begins, it holds the mutex
abbrev pub Served : Timing → (ℕ → ℕ) → ℕ → ℕ → ℕ → Type 0
Served T H v n d = (T.begins v n d ≡ 0 → ⊥) → H (T.begins v n d) ≡ seat v n

module _ {T : Timing} (p : Paced T) where
  -- where a section begins
  pub at_start : (v n m d : ℕ) → T.begins v n d ≡ m → (m ≡ 0 → ⊥) → Inside T v n m d
  at_start v n m d e nz =
      let b = p.begun v n d (λ z. nz (sym e ∙ z)) in
      record { start = d; stop = b.stop; section = subst (λ x. SectionAt T v n x d b.stop) e b.section; begun = omega arith; not_over = b.section.forward }

  module _ {H : ℕ → ℕ} {w v n d : ℕ} (g : Stepped T H w v n d) where
    -- a task that is to ask for m, and does not hold it, holds none
    pub none_held : (m : ℕ) → T.begins v n d ≡ m → (m ≡ 0 → ⊥) → (H m ≡ seat v n → ⊥) → (k : ℕ) → InM k → H k ≡ seat v n → ⊥
    none_held m e nz not k i h =
        let r = g.held_inside k i h in
        let s = r.section in
        ⊎_elim (λ z. not (ap H (sym e ∙ ap (T.begins v n) (sym z) ∙ s.starts) ∙ h)) (λ l. nz (sym e ∙ s.no_start d l r.not_over)) (eq-or-lt_of_le r.begun)

    -- a task that works to the end of a section on m holds m
    pub end_held : Served T H v n d → (m : ℕ) → T.ends v n (d + 1) ≡ m → (m ≡ 0 → ⊥) → H m ≡ seat v n
    end_held all m e nz =
        let o = p.over v n (d + 1) (λ z. nz (sym e ∙ z)) in
        let s = o.section in
        let f = s.forward in
        ⊎_elim
        (λ z.
        let b : T.begins v n d ≡ m = ap (T.begins v n) (sym z) ∙ s.starts ∙ e in
        ap H (sym b) ∙ all (λ q. nz (sym b ∙ q)))
        (λ l. ap H (sym e) ∙ g.inside_held (T.ends v n (d + 1)) o.start (d + 1) s l (omega arith))
        (eq-or-lt_of_le {n = o.start} {m = d} (omega arith))

    -- THE TASK'S OWN STEPS

    -- it waits for the mutex of the section that begins
    pub own_waits : (m : ℕ) → T.begins v n d ≡ m → Stepped T H m v n d
    own_waits m e = record { done_in_law = g.done_in_law; held_inside = g.held_inside; waits_at = λ nz. e; inside_held = g.inside_held }

    -- it gets that mutex, which was free, and waits no more
    pub own_granted : (H' : ℕ → ℕ) (m : ℕ) → InM m → T.begins v n d ≡ m → H m ≡ 0 → HoldersBut m H' H → InN n → H' m ≡ seat v n → Stepped T H' 0 v n d
    own_granted H' m i e free same j new = record {
      done_in_law = g.done_in_law;
      held_inside = λ k a h.
          ⊎_elim
          (λ z. subst (λ x. Inside T v n x d) (sym z) (at_start v n m d e (λ q. let l = i.from in omega arith)))
          (λ ne. g.held_inside k a (sym (same k a ne) ∙ h)) (same_or_not k m);
      waits_at = λ nz. absurd (nz refl);
      inside_held = λ k a x s l r.
          let h = g.inside_held k a x s l r in same k (section_m p.fair s) (λ z. seat_some v n j (sym h ∙ ap H z ∙ free)) ∙ h;
    }

    -- it works a tick, and no section ends
    pub own_works : Served T H v n d → d < T.lengths v n → T.ends v n (d + 1) ≡ 0 → Stepped T H 0 v n (d + 1)
    own_works all short none = record {
      done_in_law = omega arith;
      held_inside = λ m i h.
          let r = g.held_inside m i h in
          let s = r.section in
          let l = r.begun in
          let o = r.not_over in
          record {
            start = r.start;
            stop = r.stop;
            section = s;
            begun = omega arith;
            not_over = ⊎_elim (λ z. absurd (s.some_mutex (sym s.stops ∙ ap (T.ends v n) (sym z) ∙ none))) (λ q. q) (eq-or-lt_of_le {n = d + 1} {m = r.stop} (omega arith));
          };
      waits_at = λ nz. absurd (nz refl);
      inside_held = λ m a e s l r.
          ⊎_elim
          (λ z. let b : T.begins v n d ≡ m = ap (T.begins v n) (sym z) ∙ s.starts in ap H (sym b) ∙ all (λ q. s.some_mutex (sym b ∙ q)))
          (λ q. g.inside_held m a e s q (omega arith)) (eq-or-lt_of_le {n = a} {m = d} (omega arith));
    }

    -- it works a tick, and frees the mutex of the section that ends, the only one that it held
    pub own_frees : (H' : ℕ → ℕ) (m : ℕ) → d < T.lengths v n → T.ends v n (d + 1) ≡ m → (m ≡ 0 → ⊥) → ((k : ℕ) → InM k → H k ≡ seat v n → k ≡ m) →
        HoldersBut m H' H → InN n → H' m ≡ 0 → Stepped T H' 0 v n (d + 1)
    own_frees H' m short e nz alone same j free = record {
      done_in_law = omega arith;
      held_inside = λ k i h.
          absurd (⊎_elim (λ z. seat_some v n j (sym h ∙ ap H' z ∙ free)) (λ ne. ne (alone k i (sym (same k i ne) ∙ h))) (same_or_not k m));
      waits_at = λ q. absurd (q refl);
      inside_held = λ k a x s l r. absurd (nz (sym e ∙ s.no_stop (d + 1) l r));
    }

    -- its job has ended: it holds none and waits for none, so that its next job may begin
    pub ended_idle : d ≡ T.lengths v n → w ≡ 0
    ended_idle e =
        ⊎_elim (λ z. z) (λ nz. absurd (let r = at_start v n w d (g.waits_at nz) nz in let a = r.not_over in let b = r.section.not_beyond in omega arith)) (same_or_not w 0)

    -- it holds none
    pub ended_free : d ≡ T.lengths v n → (m : ℕ) → InM m → H m ≡ seat v n → ⊥
    ended_free e m i h = let r = g.held_inside m i h in let a = r.not_over in let b = r.section.not_beyond in omega arith

    -- its next job begins
    pub own_begins : d ≡ T.lengths v n → Stepped T H w v n 0
    own_begins e = record {
      done_in_law = omega arith;
      held_inside = λ m i h. absurd (ended_free e m i h);
      waits_at = λ nz. absurd (nz (ended_idle e));
      inside_held = λ m a x s l r. absurd (omega arith);
    }

-- ANOTHER TASK STEPS

-- a task keeps in step where it holds what it held
pub still_stepped : {T : Timing} {H : ℕ → ℕ} {w v n d : ℕ} (H' : ℕ → ℕ) → ((k : ℕ) → InM k → (H' k ≡ seat v n) ↔ (H k ≡ seat v n)) → Paced T →
    Stepped T H w v n d → Stepped T H' w v n d
still_stepped H' same p g = record {
  done_in_law = g.done_in_law;
  held_inside = λ m i h. g.held_inside m i ((same m i).0 h);
  waits_at = g.waits_at;
  inside_held = λ m a e s l r. (same m (section_m p.fair s)).1 (g.inside_held m a e s l r);
}

-- m changes hands, and (v, n) neither had it nor gets it
pub holds_same : {H H' : ℕ → ℕ} (m v n : ℕ) → HoldersBut m H' H → (H m ≡ seat v n → ⊥) → (H' m ≡ seat v n → ⊥) →
    (k : ℕ) → InM k → (H' k ≡ seat v n) ↔ (H k ≡ seat v n)
holds_same {H} {H'} m v n same had gets k i = (
  λ h. ⊎_elim (λ z. absurd (gets (ap H' (sym z) ∙ h))) (λ ne. sym (same k i ne) ∙ h) (same_or_not k m),
  λ h. ⊎_elim (λ z. absurd (had (ap H (sym z) ∙ h))) (λ ne. same k i ne ∙ h) (same_or_not k m),
)

-- what holds of (v, n) and of every other task holds of all
pub all_seats : (P : ℕ → ℕ → Type 0) (v n : ℕ) → InV v → InN n → P v n → ((x j : ℕ) → InV x → InN j → (seat x j ≡ seat v n → ⊥) → P x j) →
    (x j : ℕ) → InV x → InN j → P x j
all_seats P v n i l own rest x j a c =
    ⊎_elim
    (λ e. let r = seat_one x j v n a c i l e in subst (λ y. P x y) (sym r.1) (subst (λ y. P y n) (sym r.0) own))
    (λ ne. rest x j a c ne) (same_or_not (seat x j) (seat v n))
