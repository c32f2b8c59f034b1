-- `vcpu_in` meets its contract.
use Rattle.answers_tasks.specs.Found.{vcpu_lacking, vcpu_there}
use Rattle.answers_rows.proofs.vcpu_in.Goals as goal

pub returns-then-n-a : goal.returns-then-n-a
returns-then-n-a c = vcpu_lacking _ _ _ _ _ c.vcpu_row-a.ensures c.if-n-a.true

pub returns : goal.returns
returns c = vcpu_there _ _ _ _ _ c.vcpu_row-a.ensures c.if-n-a.false c.vcpu_answer-x.ensures
