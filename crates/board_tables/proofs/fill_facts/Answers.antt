-- `fill_facts` meets its contract: the view that is filled says the facts of the plan in the tables.
use Rattle.figures_slices.specs.FitLaws.{given_fit}
use Rattle.board_views.specs.TableLaws.{view_facts}
use Rattle.board_tables.proofs.fill_facts.Goals as goal

pub invariant_of-t : goal.invariant_of-t
invariant_of-t c = record { fit = given_fit _ _ c.requires.0 }

pub fill_view-requires : goal.fill_view-requires
fill_view-requires c = c.requires.1

pub returns : goal.returns
returns c = view_facts _ _ _ c.requires.0 c.fill_view.ensures
