-- Laws of the walk over the VCPUs that may be due at a tick.
use Rattle.std.specs.Prelude.{ℕ, zero, suc, ◌+◌, ◌-◌, ◌<◌, ◌≤◌, ◌≡◌, refl, List, Bool, true, false, ◌&&◌, not, eqb}
use Rattle.std.proofs.Common.{sym, ap, subst, ◌∙◌, ⊎_elim, arith, eqb-true, eq-eqb, ne_eqb}
use Rattle.laws.specs.BoolLaws.{both_left, both_right, both, clash, is_false, same_or_not}
use Rattle.laws_picks.specs.Picks.{lowest}
use Rattle.laws_picks.specs.PickLaws.{lowest_le, lowest_passes, lowest_zero, lowest_least}
use Rattle.plan.specs.Limits.{max_v}
use Rattle.plan.specs.declared.OverrunChoice.{OverrunChoice}
use Rattle.board_rules.specs.Facts.{Facts}
use Rattle.board_rules.specs.declared.Board.{Board}
use Rattle.board_rules.specs.declared.Event.TheVariants.{Top}
use Rattle.board_rules.specs.Board.{good, step}
use Rattle.board_keeps.specs.Fair.{Fair, InV}
use Rattle.board_keeps.specs.Shaped.{Shaped}
use Rattle.clock_rules.specs.Trace.{event_line, lines_at}
use Rattle.clock_sets.specs.Sets.{in_set, Without}
use Rattle.clock_sets.specs.SetLaws.{some_vcpu, in_none}
use Rattle.clock_times.specs.Times.{timing_in}
use Rattle.clock_marks.specs.Marks.{Mirrors}
use Rattle.clock_lines.specs.Told.{RoomAt}
use Rattle.clock_nexts.specs.Nexts.{is_due, next_at, period_at, HasTops, Nexts}
use Rattle.clock_tops.specs.Topping.{tops_to, OneTop, Topped, DueIn, Walking}
use Rattle.clock_tops.specs.TopLaws.{topped_none, topped_leave, topped_take, top_room}

-- WHO RECURS has all that are due
pub due_in : {x y : List ℕ} {t all : ℕ} → Nexts x y t → t ≤ 1000000 → HasTops x all → DueIn y t all
due_in {x} {y} {t} n l h = record {
  is_set = h.is_set;
  has = λ v i e.
      h.has v i
      (⊎_elim (λ z. absurd (let a = eqb-true (next_at y (v - 1)) t e in let c = n.none (v - 1) (let u = i.to in omega arith) z in omega arith)) (λ nz. omega arith) (same_or_not (period_at x (v - 1)) 0));
}

module _ {F : Facts} {x : List ℕ} {on : Bool} {t : ℕ} {b : Board} {k y a : List ℕ} {at : ℕ} where
  -- VCPUs that are not due give nothing
  skip : {v : ℕ} {b' : Board} {k' a' : List ℕ} {w : ℕ} → Topped F x on t b k y a at v b' k' a' w → (d : ℕ) → v + d ≤ max_v → ((u : ℕ) → v < u → u ≤ v + d → is_due y t (u - 1) ≡ false) →
      Topped F x on t b k y a at (v + d) b' k' a' w
  skip {v} {b'} {k'} {a'} {w} h zero l q = subst (λ n. Topped F x on t b k y a at n b' k' a' w) {x = v} {y = v + 0} (omega arith) h
  skip {v} {b'} {k'} {a'} {w} h (suc d) l q =
      let g = skip h d (omega arith) (λ u m n. q u m (omega arith)) in
      let e : is_due y t (v + d) ≡ false = ap (is_due y t) {x = v + d} {y = v + suc d - 1} (omega arith) ∙ q (v + suc d) (omega arith) (omega arith) in
      subst (λ n. Topped F x on t b k y a at n b' k' a' w) {x = v + d + 1} {y = v + suc d} (omega arith) (topped_leave F x on t b k y a at g (omega arith) refl e)

  to : {v j : ℕ} {b' : Board} {k' a' : List ℕ} {w : ℕ} → Topped F x on t b k y a at v b' k' a' w → v ≤ j → j ≤ max_v → ((u : ℕ) → v < u → u ≤ j → is_due y t (u - 1) ≡ false) → Topped F x on t b k y a at j b' k' a' w
  to {v} {j} {b'} {k'} {a'} {w} h l m q =
      subst (λ n. Topped F x on t b k y a at n b' k' a' w) {x = v + (j - v)} {y = j} (omega arith) (skip h (j - v) (omega arith) (λ u c d. q u c (omega arith)))

  -- at first
  pub walk_first : {all : ℕ} → DueIn y t all → Mirrors (timing_in F x) x b k → Walking F x on t b k y a at all b k a at
  walk_first d m = record { upto = 0; topped = topped_none F x on t b k y a at m; is_set = d.is_set; above = λ v i e. i.from; ahead = λ v i l e. d.has v i e }

  module _ {rest : ℕ} {b' : Board} {k' a' : List ℕ} {w : ℕ} (g : Walking F x on t b k y a at rest b' k' a' w) where
    -- at last
    pub walk_all : rest ≡ 0 → Topped F x on t b k y a at max_v b' k' a' w
    walk_all z =
        to g.topped g.topped.within (omega arith)
        (λ u l m. is_false (is_due y t (u - 1)) (λ e. clash (g.ahead u (record { from = omega arith; to = m }) l e) (ap (λ s. in_set s u) z ∙ in_none u)))

    module _ (nz : rest ≡ 0 → ⊥) {v : ℕ} (e : v ≡ lowest 16 (in_set rest)) where
      some : 0 < lowest 16 (in_set rest)
      some =
          let z : lowest 16 (in_set rest) ≡ 0 → ⊥ = λ q. clash (some_vcpu rest g.is_set ∙ ap not (ne_eqb rest 0 nz)) ((lowest_zero 16 (in_set rest)).1 q) in
          omega arith

      pub walk_in : InV v
      walk_in = record { from = omega (arith, some); to = omega (arith, lowest_le 16 (in_set rest)) }

      is_in : in_set rest v ≡ true
      is_in = ap (in_set rest) e ∙ lowest_passes 16 (in_set rest) some

      pub walk_less : {s : ℕ} → Without rest v s → s < rest
      walk_less {s} q =
          let l = q.within in
          let i = walk_in in
          let ne : s ≡ rest → ⊥ = λ z. clash (ap (λ r. in_set r v) z ∙ is_in) (q.names v i.from i.to ∙ gone (in_set rest v) (eqb v v) (eq-eqb v v refl)) in
          omega arith
        where
          gone : (p c : Bool) → c ≡ true → (p && not c) ≡ false
          gone true c z = ap not z
          gone false c z = refl

      -- the tops before v are made
      pub walk_here : Topped F x on t b k y a at (v - 1) b' k' a' w
      walk_here =
          let i = walk_in in
          let l = g.above v i is_in in
          to g.topped (omega arith) (let m = i.to in omega arith)
          (λ u c d. is_false (is_due y t (u - 1))
          (λ q. let j : InV u = record { from = omega arith; to = let m = i.to in omega arith } in
          let s = lowest_least 16 u (in_set rest) j.from j.to (g.ahead u j c q) in
          omega arith))

      -- and then that of v
      pub walk_next : {s : ℕ} → Without rest v s → {b₁ : Board} {k₁ a₁ : List ℕ} {w₁ : ℕ} → Topped F x on t b k y a at (v - 1 + 1) b₁ k₁ a₁ w₁ → Walking F x on t b k y a at s b₁ k₁ a₁ w₁
      walk_next {s} q {b₁} {k₁} {a₁} {w₁} h =
          let i = walk_in in
          record {
            upto = v;
            topped = subst (λ n. Topped F x on t b k y a at n b₁ k₁ a₁ w₁) {x = v - 1 + 1} {y = v} (let m = i.from in omega arith) h;
            is_set = let l = q.within in let m = g.is_set in omega arith;
            above = λ u j z.
                let r = sym (q.names u j.from j.to) ∙ z in
                let n = lowest_least 16 u (in_set rest) j.from j.to (both_left (in_set rest u) _ r) in
                let ne : u ≡ v → ⊥ = λ c. clash (both_right (in_set rest u) _ r) (ap not (eq-eqb u v c)) in
                omega arith;
            ahead = λ u j l z.
                let p = g.ahead u j (let m = g.above v i is_in in omega arith) z in
                q.names u j.from j.to ∙ both (in_set rest u) _ p (ap not (ne_eqb u v (λ c. omega arith)));
          }

      -- it is not due
      pub walk_leave : {due : Bool} → due ≡ is_due y t (v - 1) → due ≡ false → {s : ℕ} → Without rest v s → Walking F x on t b k y a at s b' k' a' w
      walk_leave test z q = walk_next q (topped_leave F x on t b k y a at walk_here (let i = walk_in in let m = i.to in let f = i.from in omega arith) test z)

      -- it is
      module _ {due : Bool} (test : due ≡ is_due y t (v - 1)) (is : due ≡ true) where
        below : v - 1 < max_v
        below = let i = walk_in in let m = i.to in let f = i.from in omega arith

        pub walk_room : RoomAt on (lines_at F t b (tops_to y t max_v)) a at → RoomAt on (event_line t (Top v) (step F b' (Top v)).answer) a' w
        walk_room r =
            subst (λ n. RoomAt on (event_line t (Top n) (step F b' (Top n)).answer) a' w) {x = v - 1 + 1} {y = v} (let f = walk_in.from in omega arith)
            (top_room F x on t b k y a at walk_here below test is r)

        pub walk_take : Fair F → Shaped b → good F b ≡ true → RoomAt on (lines_at F t b (tops_to y t max_v)) a at → {o : OverrunChoice} → o ≡ F.choice → {b₁ : Board} {k₁ a₁ : List ℕ} {w₁ : ℕ} →
            OneTop F o on t v b' k' a' w b₁ k₁ a₁ w₁ → {s : ℕ} → Without rest v s → Walking F x on t b k y a at s b₁ k₁ a₁ w₁
        walk_take f h c r {o} z {b₁} {k₁} {a₁} {w₁} u q =
            walk_next q
            (topped_take F x on t b k y a at walk_here below test is f h c r z
            (subst (λ n. OneTop F o on t n b' k' a' w b₁ k₁ a₁ w₁) {x = v} {y = v - 1 + 1} (let f = walk_in.from in omega arith) u))
