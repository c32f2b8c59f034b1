-- What the board is told of lent tables is told of as many records as there are places for.
use Rattle.std.specs.Prelude.{ℕ, ◌≡◌, List, Ok, Err}
use Rattle.plan.specs.Limits.{most_tasks}
use Rattle.plan.specs.declared.Refusal.TheVariants.{Foreign}
use Rattle.plan_tables.specs.declared.PlanRecord.{PlanRecord}
use Rattle.plan_tables.specs.Layout.{Tables}
use Rattle.figures.specs.System.{system}
use Rattle.board_rules.specs.Facts.{facts_of}
use Rattle.board_rules.specs.declared.Board.{Board}
use Rattle.board_rules.specs.declared.Event.{Event}
use Rattle.board_rules.specs.Board as board
use Rattle.board_tables.specs.Entered.{no_board, fresh_for, step_for}
use Rattle.records.specs.declared.Task.{Task}
use Rattle.records.specs.Sheet.{cut_to, tables_of}
use Rattle.records.specs.CutLaws.{cut_told}

module _ (vt mt ot : List ℕ) (ks : List Task) (r : PlanRecord) where
  abbrev cut : Tables
  cut = tables_of vt mt ot (cut_to most_tasks ks)

  abbrev whole : Tables
  whole = tables_of vt mt ot ks

  pub fresh_cut : fresh_for r cut ≡ fresh_for r whole
  unfolding fresh_for
  fresh_cut = cut_told vt mt ot ks (λ p. record { answer = Ok tt; board = board.fresh (facts_of (system p)) }) (record { answer = Err Foreign; board = no_board }) r

  pub step_cut : (b : Board) (e : Event) → step_for r cut b e ≡ step_for r whole b e
  unfolding step_for
  step_cut b e = cut_told vt mt ot ks (λ p. board.step_on (facts_of (system p)) b e) (board.refused b Foreign) r
