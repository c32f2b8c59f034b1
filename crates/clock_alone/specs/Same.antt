-- An event that hands no mutex on leaves every VCPU but its own as it was: its supply, and what its tasks hold and wait for.
use Rattle.std.specs.Prelude.{ℕ, ◌-◌, ◌≡◌, refl, true, false, List, [], ◌∷◌, eqb, get_or, Ok, Err}
use Rattle.std.proofs.Common.{sym, ap, subst, ◌∙◌, true≢false, ⊎_elim, ne_eqb}
use Rattle.laws.specs.BoolLaws.{bool_cases, same_or_not, neither_left, neither_right}
use Rattle.laws.specs.Sums.{Each}
use Rattle.plan.specs.Refusals.{Fault}
use Rattle.board_rules.specs.Facts.{Facts}
use Rattle.board_rules.specs.declared.Board.{Board}
use Rattle.board_rules.specs.declared.Event.{Event}
use Rattle.board_rules.specs.declared.Event.TheVariants.{Ask, Free, Use, Top, Show}
use Rattle.board_rules.specs.declared.Next.{Next}
use Rattle.board_rules.specs.declared.Next.TheVariants.{Nobody, To}
use Rattle.board_rules.specs.declared.Outcome.{Outcome}
use Rattle.board_rules.specs.declared.BoardAnswer.TheVariants.{Freed}
use Rattle.board_rules.specs.Board.{seat, left_of, over_of, is_stopped, holder_of, wait_of, holds, settled, with_holder, with_wait, may_have, handed_to, granted_local, next_global, next_local, shown, answered, ask_fault, free_fault, show_fault, step, good}
use Rattle.board_events.specs.Events.{answers_by, answers, board_by, board_after}
use Rattle.board_rules.specs.Names.{seat_one, seat_some}
use Rattle.board_rules.specs.Change.{holder_else, wait_else}
use Rattle.board_keeps.specs.Fair.{Fair, InV, InN, InM, task_v, sheet_v, sheet_n, sheet_m}
use Rattle.board_keeps.specs.Shaped.{Shaped, step_shaped}
use Rattle.board_keeps.specs.Change.{holder_new}
use Rattle.board_keeps.specs.Faults.{ask_clear, free_clear, may_free}
use Rattle.board_keeps.proofs.Keeps.{step_keeps}
use Rattle.board_keeps.specs.Marks.{own_vcpu}
use Rattle.board_keeps.proofs.MarkLaws.{own_mark, own_settled}
use Rattle.clock_rules.specs.Clock.{Timing, done_of, is_on}
use Rattle.clock_steps.specs.Taken.{ask_granted, ask_waits, free_global, free_local}
use Rattle.clock_steps.specs.Quiet.{SameLocks, use_locks, top_locks}
use Rattle.clock_steps.specs.Others.{step_over}
use Rattle.clock_steps.specs.Hands.{hands_on, any_hands_on}

-- from b to b' the tasks of w hold and wait for the same
pub record SameTasks (w : ℕ) (b b' : Board) : Type 0 where
  pub wait_same : (n : ℕ) → InN n → wait_of b' w n ≡ wait_of b w n
  pub hold_same : (n m : ℕ) → InN n → InM m → holds b' w n m ≡ holds b w n m

-- and w has the same budget, overrun and mark
pub record SameOn (w : ℕ) (b b' : Board) : Type 0 where
  pub left_same : left_of b' w ≡ left_of b w
  pub over_same : over_of b' w ≡ over_of b w
  pub mark_same : is_stopped b' w ≡ is_stopped b w
  pub tasks : SameTasks w b b'

-- from b and d to b' and d' that is so of all VCPUs of core c, and their jobs have done the same ticks
pub record SameCore (T : Timing) (c : ℕ) (b : Board) (d : List ℕ) (b' : Board) (d' : List ℕ) : Type 0 where
  pub vcpus : (w : ℕ) → InV w → is_on T c w ≡ true → SameOn w b b'
  pub ticks : (w : ℕ) → InV w → is_on T c w ≡ true → (n : ℕ) → InN n → done_of d' w n ≡ done_of d w n

-- on one board tasks hold and wait for the same
tasks_stay : {w : ℕ} {b : Board} → SameTasks w b b
tasks_stay = record { wait_same = λ n j. refl; hold_same = λ n m j k. refl }

-- and all is the same
same_stay : {w : ℕ} {b : Board} → SameOn w b b
same_stay = record { left_same = refl; over_same = refl; mark_same = refl; tasks = tasks_stay }

-- as on one later on, if nothing changes it in between
same_then : {w : ℕ} {a b c : Board} → SameOn w a b → SameOn w b c → SameOn w a c
same_then s t = record {
  left_same = t.left_same ∙ s.left_same;
  over_same = t.over_same ∙ s.over_same;
  mark_same = t.mark_same ∙ s.mark_same;
  tasks = record {
    wait_same = λ n j. t.tasks.wait_same n j ∙ s.tasks.wait_same n j;
    hold_same = λ n m j k. t.tasks.hold_same n m j k ∙ s.tasks.hold_same n m j k;
  };
}

-- WHAT TASKS HOLD AND WAIT FOR

-- boards with the same locks
locks_tasks : {b b' : Board} (w : ℕ) → SameLocks b b' → SameTasks w b b'
locks_tasks w s = record {
  wait_same = λ n j. ap (λ ws. get_or ws (seat w n - 1) 0) s.waits_same;
  hold_same = λ n m j k. ap (λ hs. eqb (get_or hs (m - 1) 0) (seat w n)) s.holder_same;
}

-- a board when an event is complete
settled_tasks : (F : Facts) {b b' : Board} (w : ℕ) → SameTasks w b b' → SameTasks w b (settled F b')
unfolding settled
settled_tasks F w t = record { wait_same = t.wait_same; hold_same = t.hold_same }

-- a mutex that goes from and to other tasks than those of w, or is free
holder_tasks : {b : Board} → Shaped b → (w m h : ℕ) → InM m → ((n : ℕ) → InN n → holder_of b m ≡ seat w n → ⊥) → ((n : ℕ) → InN n → h ≡ seat w n → ⊥) →
    SameTasks w b (with_holder b m h)
holder_tasks {b} s w m h i before after = record { wait_same = λ n j. refl; hold_same = held }
  where
    held : (n k : ℕ) → InN n → InM k → holds (with_holder b m h) w n k ≡ holds b w n k
    held n k j l =
        ⊎_elim
        (λ e. subst (λ x. holds (with_holder b m h) w n x ≡ holds b w n x) (sym e)
        (ne_eqb (holder_of (with_holder b m h) m) (seat w n) (λ z. after n j (sym (holder_new s m h i) ∙ z)) ∙ sym (ne_eqb (holder_of b m) (seat w n) (before n j))))
        (λ ne. ap (λ x. eqb x (seat w n)) (holder_else b m h k i l ne)) (same_or_not k m)

-- a task of another VCPU that waits, or waits no more
wait_tasks : (b : Board) (w v n m : ℕ) → InV w → InV v → InN n → (w ≡ v → ⊥) → SameTasks w b (with_wait b v n m)
wait_tasks b w v n m j i l ne = record {
  wait_same = λ x p. wait_else b v n m w x i l j p (λ e. ne (seat_one w x v n j p i l e).0);
  hold_same = λ x k p q. refl;
}

-- where nothing is handed on, nobody is next
none_next : (x : Next) → hands_on (Freed x) ≡ false → x ≡ Nobody
none_next Nobody e = refl
none_next (To v n) e = absurd (true≢false e)

-- EVENT BY EVENT
module _ {F : Facts} {b : Board} (f : Fair F) (s : Shaped b) (w : ℕ) (j : InV w) where
  -- `ask` of another VCPU: who is granted a mutex gets one that was free
  ask_tasks : (v n m : ℕ) → (w ≡ v → ⊥) → SameTasks w b (step F b (Ask v n m)).board
  ask_tasks v n m ne = at_fault (ask_fault F b v n m) refl
    where
      at_fault : (x : Fault) → ask_fault F b v n m ≡ x → SameTasks w b (step F b (Ask v n m)).board
      at_fault (Ok tt) e =
          let c = ask_clear F b v n m e in
          let i = sheet_v f v n m c.listed in
          let l = sheet_n f v n m c.listed in
          let k = sheet_m f v n m c.listed in
          ⊎_elim
          (λ h.
          let free = may_free f b v n m c.listed k (c.no_hold m k) h in
          rw (ask_granted F b v n m e h)
          (settled_tasks F w (holder_tasks s w m (seat v n) k (λ x p z. seat_some w x p (sym z ∙ free)) (λ x p z. ne (sym (seat_one v n w x i l j p z).0)))))
          (λ h. rw (ask_waits F b v n m e h) (settled_tasks F w (wait_tasks b w v n m j i l ne)))
          (bool_cases (may_have F b v n m))
      at_fault (Err r) e = unfold step in rw e tasks_stay

  -- `free` of another VCPU, with nobody next
  free_tasks : (v n m : ℕ) → (w ≡ v → ⊥) → hands_on (step F b (Free v n m)).answer ≡ false → SameTasks w b (step F b (Free v n m)).board
  free_tasks v n m ne none = at_fault (free_fault F b v n m) refl
    where
      at_fault : (x : Fault) → free_fault F b v n m ≡ x → SameTasks w b (step F b (Free v n m)).board
      at_fault (Ok tt) e =
          let c = free_clear F b v n m e in
          let i = task_v f v n c.task in
          let l = f.task_in_law v n c.task in
          let k = f.mutex_in m c.mutex in
          let free = holder_tasks s w m 0 k (λ x p z. ne (seat_one w x v n j p i l (sym z ∙ c.held)).0) (λ x p z. seat_some w x p (sym z)) in
          ⊎_elim
          (λ g.
          let q = free_global F b v n m e g in
          let z = none_next (next_global b m) (ap (λ (o : Outcome). hands_on o.answer) (sym q) ∙ none) in
          rw q (settled_tasks F w (subst (λ x. SameTasks w b (handed_to b m x)) (sym z) free)))
          (λ g.
          let q = free_local F b v n m e g in
          let z = none_next (next_local F (with_holder b m 0) v) (ap (λ (o : Outcome). hands_on o.answer) (sym q) ∙ none) in
          rw q (settled_tasks F w (subst (λ x. SameTasks w b (granted_local (with_holder b m 0) x)) (sym z) free)))
          (bool_cases (F.global m))
      at_fault (Err r) e = unfold step in rw e tasks_stay

  -- `show`, which only reads
  show_tasks : (v n : ℕ) → SameTasks w b (step F b (Show v n)).board
  unfolding step
  show_tasks v n = at_fault (show_fault F v n)
    where
      at_fault : (x : Fault) → SameTasks w b (answered b x (shown F b v n)).board
      at_fault (Ok tt) = tasks_stay
      at_fault (Err r) = tasks_stay

  -- every event of another VCPU
  step_tasks : (e : Event) → (w ≡ own_vcpu e → ⊥) → hands_on (step F b e).answer ≡ false → SameTasks w b (step F b e).board
  step_tasks (Ask v n m) ne none = ask_tasks v n m ne
  step_tasks (Free v n m) ne none = free_tasks v n m ne none
  step_tasks (Use v t) ne none = locks_tasks w (use_locks F b v t)
  step_tasks (Top v) ne none = locks_tasks w (top_locks F b v)
  step_tasks (Show v n) ne none = show_tasks v n

  -- leaves w as it was
  step_same : good F b ≡ true → (e : Event) → (w ≡ own_vcpu e → ⊥) → hands_on (step F b e).answer ≡ false → SameOn w b (step F b e).board
  step_same g e ne none = record {
    left_same = ⊎_elim (λ z. ap (λ x. left_of x w) z) (λ r. let k = r.1 in ap (λ x. left_of x w) r.2 ∙ (unfold settled in k.left_kept w j ne)) (own_settled f s g e);
    over_same = step_over f b e w j ne;
    mark_same = own_mark f s g e w j ne;
    tasks = step_tasks e ne none;
  }

-- EVENT AFTER EVENT, none of them of w, and nothing handed on
pub events_same : {F : Facts} {b : Board} → Fair F → Shaped b → good F b ≡ true → (w : ℕ) → InV w → (es : List Event) → Each (λ e. w ≡ own_vcpu e → ⊥) es →
    any_hands_on (answers F b es) ≡ false → SameOn w b (board_after F b es)
unfolding answers_by board_by
events_same f s g w j [] h none = same_stay
events_same {F} {b} f s g w j (e ∷ es) h none =
    let a = neither_left (hands_on (step F b e).answer) _ none in
    let z = neither_right (hands_on (step F b e).answer) _ none in
    same_then (step_same f s w j g e h.0 a) (events_same {b = (step F b e).board} f (step_shaped F e s) (step_keeps f s g e) w j es h.1 z)
