-- Laws of the loop over the tops of a tick.
use Rattle.std.specs.Prelude.{ℕ, zero, suc, ◌+◌, ◌-◌, ◌<◌, ◌≤◌, ◌≡◌, refl, List, [], ◌∷◌, ◌++◌, Bool, true, false, ltb, length}
use Rattle.std.proofs.Math.Path.{sym, ap, subst}
use Rattle.std.proofs.Common.{◌∙◌, append_assoc, append-nil, arith, le_antisymm, add-one}
use Rattle.std.proofs.Math.Decide.{dec_le}
use Rattle.laws.specs.Range.{flat_to}
use Rattle.std.specs.Prelude.{if◌then◌else◌}
use Rattle.plan.specs.Limits.{max_v}
use Rattle.plan.specs.declared.OverrunChoice.{OverrunChoice}
use Rattle.board_rules.specs.Facts.{Facts}
use Rattle.board_rules.specs.declared.Board.{Board}
use Rattle.board_rules.specs.declared.Event.{Event}
use Rattle.board_rules.specs.declared.Event.TheVariants.{Top}
use Rattle.board_rules.specs.Board.{left_of, over_of, is_stopped, step, good}
use Rattle.board_rules.specs.declared.BoardAnswer.{BoardAnswer}
use Rattle.board_rules.specs.declared.Outcome.{Outcome}
use Rattle.board_rules.specs.Lent.{outcome_of}
use Rattle.board_events.specs.Events.{board_after, board_by}
use Rattle.board_keeps.specs.Fair.{Fair}
use Rattle.board_keeps.specs.Shaped.{Shaped}
use Rattle.board_keeps.proofs.Runs.{after_good}
use Rattle.clock_rules.specs.Trace.{event_line, lines_at}
use Rattle.clock_times.specs.Times.{timing_in}
use Rattle.clock_marks.specs.Marks.{spares, Mirrors}
use Rattle.clock_lines.specs.Told.{told_at, told_to, RoomAt, told_none, told_to_none, told_two, told_to_two, told_length, room_first, room_rest}
use Rattle.clock_steps.specs.Accepted.{board_append}
use Rattle.clock_steps.specs.Running.{after_shaped}
use Rattle.clock_nexts.specs.Nexts.{is_due}
use Rattle.clock_puts.specs.Puts as puts
use Rattle.clock_mirrors.specs.Supplies.{PutSupply, top_mirrors}
use Rattle.clock_going.specs.Lines.{lines_append}
use Rattle.clock_tops.specs.Topping.{top_at, tops_to, OneTop, Topped}

-- LINES of one event
one_line_law : (F : Facts) (t : ℕ) (b : Board) (e : Event) → lines_at F t b (e ∷ []) ≡ event_line t e (step F b e).answer
unfolding lines_at
one_line_law F t b e = append-nil _

-- the board after one
one_board : (F : Facts) (b : Board) (e : Event) → board_after F b (e ∷ []) ≡ (step F b e).board
unfolding board_by
one_board F b e = refl

-- ONE TOP, by what its calls say
pub line_room : (on : Bool) (t v : ℕ) (a : List ℕ) (at : ℕ) {y : BoardAnswer} {b' : Board} {o : Outcome} → outcome_of y b' ≡ o → RoomAt on (event_line t (Top v) o.answer) a at → RoomAt on (event_line t (Top v) y) a at
line_room on t v a at e r = subst (λ z. RoomAt on (event_line t (Top v) z) a at) (sym (ap (λ (o : Outcome). o.answer) e)) r

pub one_top : {F : Facts} {o : OverrunChoice} {on : Bool} {t v : ℕ} {b : Board} {k a : List ℕ} {at : ℕ} {b' : Board} {k' a' : List ℕ} {w : ℕ} {y : BoardAnswer} → outcome_of y b' ≡ step F b (Top v) →
    puts.PutSupply k k' v (ltb 0 (left_of b' v)) (spares o (is_stopped b' v) (over_of b' v)) → w ≡ told_to on (event_line t (Top v) y) at → a' ≡ told_at on (event_line t (Top v) y) a at → OneTop F o on t v b k a at b' k' a' w
one_top {on = on} {t} {v} {a = a} {at = at} e p z x = record {
  board = ap (λ (o : Outcome). o.board) e;
  supply = p;
  text = x ∙ ap (λ y. told_at on (event_line t (Top v) y) a at) (ap (λ (o : Outcome). o.answer) e);
  size = z ∙ ap (λ y. told_to on (event_line t (Top v) y) at) (ap (λ (o : Outcome). o.answer) e);
}

-- WHAT THE FIRST NAMES GIVE is the beginning of what all give
pub record Begins {B : Type 0} (xs ys : List B) : Type 0 where
  pub rest : List B
  pub is : ys ≡ xs ++ rest

flat_more : {B : Type 0} (n : ℕ) (f : ℕ → List B) → flat_to (n + 1) f ≡ flat_to n f ++ f (n + 1)
unfolding flat_to
flat_more n f = rw add-one

begins_all : {B : Type 0} (xs : List B) → Begins xs xs
begins_all xs = record { rest = []; is = sym (append-nil xs) }

begins_more : {B : Type 0} {xs ys : List B} (zs : List B) → Begins xs ys → Begins xs (ys ++ zs)
begins_more {xs = xs} zs h = record { rest = h.rest ++ zs; is = ap (λ l. l ++ zs) h.is ∙ append_assoc xs h.rest zs }

flat_begins : {B : Type 0} (n i : ℕ) (f : ℕ → List B) → i ≤ n → Begins (flat_to i f) (flat_to n f)
unfolding flat_to
flat_begins zero i f l = subst (λ j. Begins (flat_to j f) (flat_to zero f)) {x = 0} {y = i} (omega arith) (begins_all (flat_to zero f))
flat_begins (suc n) i f l = go (λ m. flat_begins n i f m) (dec_le i n)
  where
    go : (i ≤ n → Begins (flat_to i f) (flat_to n f)) → Dec (i ≤ n) → Begins (flat_to i f) (flat_to n f ++ f (suc n))
    go h (yes m) = begins_more (f (suc n)) (h m)
    go h (no m) = subst (λ j. Begins (flat_to j f) (flat_to n f ++ f (suc n))) {x = suc n} {y = i} (omega arith) (begins_all (flat_to n f ++ f (suc n)))

-- THE LOOP
module _ (F : Facts) (x : List ℕ) (on : Bool) (t : ℕ) (b : Board) (k y a : List ℕ) (at : ℕ) where
  -- there is room for the lines of the first tops
  pub room_to : (v : ℕ) → v ≤ max_v → RoomAt on (lines_at F t b (tops_to y t max_v)) a at → RoomAt on (lines_at F t b (tops_to y t v)) a at
  room_to v l h =
      let g = flat_begins max_v v (λ w. top_at y t w) l in
      room_first on (lines_at F t b (tops_to y t v)) (lines_at F t (board_after F b (tops_to y t v)) g.rest) a at
      (subst (λ z. RoomAt on z a at) (ap (lines_at F t b) g.is ∙ lines_append F t b (tops_to y t v) g.rest) h)

  pub topped_none : Mirrors (timing_in F x) x b k → Topped F x on t b k y a at 0 b k a at
  unfolding flat_to lines_at board_by
  topped_none m = record {
    within = omega arith;
    board = refl;
    mirrors = m;
    else_same = λ j l. refl;
    text = sym (told_none on a at);
    size = sym (told_to_none on at);
  }

  -- where no top is due
  pub topped_quiet : Mirrors (timing_in F x) x b k → tops_to y t max_v ≡ [] → Topped F x on t b k y a at max_v b k a at
  unfolding lines_at board_by
  topped_quiet m e = record {
    within = omega arith;
    board = sym (ap (board_after F b) e);
    mirrors = m;
    else_same = λ j l. refl;
    text = sym (ap (λ es. told_at on (lines_at F t b es) a at) e ∙ told_none on a at);
    size = sym (ap (λ es. told_to on (lines_at F t b es) at) e ∙ told_to_none on at);
  }

  module _ {v : ℕ} {b' : Board} {k' a' : List ℕ} {w : ℕ} (h : Topped F x on t b k y a at v b' k' a' w) where
    -- the board has its places
    pub topped_shaped : Shaped b → Shaped b'
    topped_shaped s = subst Shaped (sym h.board) (after_shaped F s (tops_to y t v))

    -- and breaks no condition
    pub topped_good : Fair F → Shaped b → good F b ≡ true → good F b' ≡ true
    topped_good f s g = subst (λ c. good F c ≡ true) (sym h.board) (after_good f s g (tops_to y t v))

    -- the buffer keeps its length
    pub topped_length : RoomAt on (lines_at F t b (tops_to y t max_v)) a at → length a' ≡ length a
    topped_length r = ap length h.text ∙ told_length on (lines_at F t b (tops_to y t v)) a at (room_to v h.within r)

    module _ (below : v < max_v) {due : Bool} (test : due ≡ is_due y t v) where
      -- what the next VCPU gives
      next_top : top_at y t (v + 1) ≡ (if due then Top (v + 1) ∷ [] else [])
      next_top =
          ap (λ i. if is_due y t i then Top (v + 1) ∷ [] else []) {x = v + 1 - 1} {y = v} (omega arith)
          ∙ ap (λ c. if c then Top (v + 1) ∷ [] else []) (sym test)

      next_tops : tops_to y t (v + 1) ≡ tops_to y t v ++ (if due then Top (v + 1) ∷ [] else [])
      next_tops = flat_more v (λ w. top_at y t w) ∙ ap (λ l. tops_to y t v ++ l) next_top

      -- it is not due
      pub topped_leave : due ≡ false → Topped F x on t b k y a at (v + 1) b' k' a' w
      topped_leave e =
          let q : tops_to y t (v + 1) ≡ tops_to y t v = next_tops ∙ ap (λ c. tops_to y t v ++ (if c then Top (v + 1) ∷ [] else [])) e ∙ append-nil (tops_to y t v) in
          record {
            within = omega arith;
            board = h.board ∙ ap (board_after F b) (sym q);
            mirrors = h.mirrors;
            else_same = h.else_same;
            text = h.text ∙ ap (λ l. told_at on (lines_at F t b l) a at) (sym q);
            size = h.size ∙ ap (λ l. told_to on (lines_at F t b l) at) (sym q);
          }

      module _ (is : due ≡ true) where
        due_tops : tops_to y t (v + 1) ≡ tops_to y t v ++ (Top (v + 1) ∷ [])
        due_tops = next_tops ∙ ap (λ c. tops_to y t v ++ (if c then Top (v + 1) ∷ [] else [])) is

        -- its line
        abbrev line_of : List ℕ
        line_of = event_line t (Top (v + 1)) (step F b' (Top (v + 1))).answer

        due_lines : lines_at F t b (tops_to y t (v + 1)) ≡ lines_at F t b (tops_to y t v) ++ line_of
        due_lines =
            ap (lines_at F t b) due_tops
            ∙ lines_append F t b (tops_to y t v) (Top (v + 1) ∷ [])
            ∙ ap (λ c. lines_at F t b (tops_to y t v) ++ lines_at F t c (Top (v + 1) ∷ [])) (sym h.board)
            ∙ ap (λ l. lines_at F t b (tops_to y t v) ++ l) (one_line_law F t b' (Top (v + 1)))

        due_room : RoomAt on (lines_at F t b (tops_to y t max_v)) a at → RoomAt on (lines_at F t b (tops_to y t v) ++ line_of) a at
        due_room r = subst (λ z. RoomAt on z a at) due_lines (room_to (v + 1) (omega arith) r)

        -- there is room for it
        pub top_room : RoomAt on (lines_at F t b (tops_to y t max_v)) a at → RoomAt on line_of a' w
        top_room r =
            subst (λ z. RoomAt on line_of z w) (sym h.text)
            (subst (λ n. RoomAt on line_of (told_at on (lines_at F t b (tops_to y t v)) a at) n) (sym h.size)
            (room_rest on (lines_at F t b (tops_to y t v)) line_of a at (due_room r)))

        -- it is made
        pub topped_take : Fair F → Shaped b → good F b ≡ true → RoomAt on (lines_at F t b (tops_to y t max_v)) a at →
            {o : OverrunChoice} → o ≡ F.choice → {b₁ : Board} {k₁ a₁ : List ℕ} {w₁ : ℕ} → OneTop F o on t (v + 1) b' k' a' w b₁ k₁ a₁ w₁ → Topped F x on t b k y a at (v + 1) b₁ k₁ a₁ w₁
        unfolding timing_in
        topped_take f s g r {o} z {b₁} {k₁} {a₁} {w₁} u = record {
          within = omega arith;
          board =
              u.board
              ∙ sym (one_board F b' (Top (v + 1)))
              ∙ ap (λ c. board_after F c (Top (v + 1) ∷ [])) h.board
              ∙ sym (ap (board_after F b) due_tops ∙ board_append F b (tops_to y t v) (Top (v + 1) ∷ []));
          mirrors =
              subst (λ c. Mirrors (timing_in F x) x c k₁) (sym u.board)
              (top_mirrors h.mirrors f (topped_shaped s) (topped_good f s g) (v + 1)
              (subst (λ c. PutSupply k' k₁ (v + 1) (ltb 0 (left_of c (v + 1))) (spares F.choice (is_stopped c (v + 1)) (over_of c (v + 1)))) u.board
              (subst (λ y. PutSupply k' k₁ (v + 1) (ltb 0 (left_of b₁ (v + 1))) (spares y (is_stopped b₁ (v + 1)) (over_of b₁ (v + 1)))) z (as_told u.supply))));
          else_same = λ j l. u.supply.else_same j (λ e. omega arith) (λ e. omega arith) ∙ h.else_same j l;
          text =
              u.text
              ∙ ap (λ z. told_at on line_of z w) h.text
              ∙ ap (told_at on line_of (told_at on (lines_at F t b (tops_to y t v)) a at)) h.size
              ∙ sym (told_two on (lines_at F t b (tops_to y t v)) line_of a at (due_room r))
              ∙ ap (λ z. told_at on z a at) (sym due_lines);
          size =
              u.size
              ∙ ap (told_to on line_of) h.size
              ∙ sym (told_to_two on (lines_at F t b (tops_to y t v)) line_of at)
              ∙ ap (λ z. told_to on z at) (sym due_lines);
        }
          where
            -- the same change by its other name
            as_told : {n : ℕ} {p q : Bool} → puts.PutSupply k' k₁ n p q → PutSupply k' k₁ n p q
            as_told z = record {
              length_same = z.length_same;
              else_same = z.else_same;
              budgets_set = z.budget_set;
              budgets = z.budget;
              spares_set = z.spare_set;
              spared = z.spare;
            }

    -- all are made
    pub topped_all : max_v ≤ v → Topped F x on t b k y a at max_v b' k' a' w
    topped_all l = subst (λ n. Topped F x on t b k y a at n b' k' a' w) (le_antisymm h.within l) h
