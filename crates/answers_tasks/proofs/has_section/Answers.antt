-- `has_section` meets its contract.
use Rattle.answers_tasks.specs.Found.{section_at_law, section_below, section_beyond}
use Rattle.answers_tasks.proofs.has_section.Goals as goal

pub returns-then-i-lt1 : goal.returns-then-i-lt1
returns-then-i-lt1 c = section_below _ _ _ _ c.if-i-lt1.true

pub returns-then-n-i : goal.returns-then-n-i
returns-then-n-i c = section_beyond _ _ _ _ c.lock_count-n.ensures.is c.if-n-i.true

pub returns : goal.returns
returns c = section_at_law _ _ _ _ c.lock_count-n.ensures.is c.if-i-lt1.false c.if-n-i.false c.lock_cell-m.ensures.is c.is_global.ensures
