-- What holds when a tick's tops are made.
use Rattle.std.specs.Prelude.{ℕ, ◌+◌, ◌<◌, ◌≤◌, ◌≡◌, refl, List, Bool, true, get_or}
use Rattle.std.proofs.Common.{subst, ◌∙◌, arith}
use Rattle.plan.specs.Limits.{max_v}
use Rattle.plan.specs.declared.Policy.{Policy}
use Rattle.plan.specs.declared.OverrunChoice.{OverrunChoice}
use Rattle.board_rules.specs.Facts.{Facts}
use Rattle.board_rules.specs.View.{facts_in}
use Rattle.board_rules.specs.declared.Board.{Board}
use Rattle.board_rules.specs.Board.{good}
use Rattle.board_keeps.specs.Fair.{Fair}
use Rattle.clock_rules.specs.Clock.{Timing, tops}
use Rattle.clock_rules.specs.Trace.{lines_at}
use Rattle.clock_times.specs.Times.{timing_in}
use Rattle.clock_marks.specs.Marks.{board_of}
use Rattle.clock_lines.specs.Told.{RoomAt}
use Rattle.clock_nexts.specs.Nexts.{at_tops, Nexts, TopsRenewed}
use Rattle.clock_nexts.specs.WriteLaws.{tops_later}
use Rattle.clock_renews.specs.PartLaws.{nexts_tops, nexts_jobs, renewed_jobs}
use Rattle.clock_misses.specs.DueLaws.{tops_due, no_tops_due}
use Rattle.clock_going.specs.Going.{timing_by, Going}
use Rattle.clock_tops.specs.Topping.{tops_to, Topped, TopsMade}
use Rattle.clock_tops.specs.TopLaws.{topped_quiet}

-- the facts of a timing
pub fair_of : (F : Facts) (x : List ℕ) → Fair (timing_in F x).facts → Fair F
unfolding timing_in
fair_of F x f = f

pub good_of : (F : Facts) (x : List ℕ) (b : Board) → good (timing_in F x).facts b ≡ true → good F b ≡ true
unfolding timing_in
good_of F x b g = g

pub choice_of : (p : Policy) (o : OverrunChoice) (view : List ℕ) → o ≡ (facts_in p o view).choice
unfolding facts_in
choice_of p o view = refl

module _ {p : Policy} {o : OverrunChoice} {view x : List ℕ} {ls os : List ℕ} {ss : List Bool} {hs ws k y : List ℕ} {t : ℕ} (g : Going p o view x ls os ss hs ws k) (n : Nexts x y t) (early : t ≤ 1000000) where
  abbrev F : Facts
  F = facts_in p o view

  abbrev T : Timing
  T = timing_by p o view x

  abbrev b : Board
  b = board_of ls os ss hs ws

  -- the tops, by the list
  pub tops_here : tops T t ≡ tops_to y t max_v
  tops_here = tops_due p o g.paired (omega arith) (nexts_tops n)

  -- room for their lines
  pub tops_room : (on : Bool) (a : List ℕ) (at : ℕ) → RoomAt on (lines_at F t b (tops T t)) a at → RoomAt on (lines_at F t b (tops_to y t max_v)) a at
  tops_room on a at r = subst (λ es. RoomAt on (lines_at F t b es) a at) tops_here r

  -- where none is due
  pub tops_quiet : (on : Bool) (a : List ℕ) (at : ℕ) → (get_or y at_tops 0 ≡ t → ⊥) → TopsMade F x on t b k y a at b k y a at
  tops_quiet on a at ne =
      let f = n.tops_from in
      let l : t < get_or y at_tops 0 = omega (arith, ne) in
      record {
        topped = topped_quiet F x on t b k y a at g.mirrors (no_tops_due (nexts_tops n) l);
        long = n.long;
        nexts = tops_later (t + 1) (omega arith) (omega arith) (nexts_tops n);
        jobs = nexts_jobs n;
      }

  -- and where some are
  pub tops_made : {on : Bool} {a : List ℕ} {at : ℕ} {b' : Board} {k₁ a' y₁ : List ℕ} {w : ℕ} → Topped F x on t b k y a at max_v b' k₁ a' w → TopsRenewed x y y₁ t → TopsMade F x on t b k y a at b' k₁ y₁ a' w
  tops_made h r = record {
    topped = h;
    long = r.length_same ∙ n.long;
    nexts = r.tops;
    jobs = renewed_jobs r (nexts_jobs n);
  }
