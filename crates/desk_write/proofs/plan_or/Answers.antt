-- `desk_write::plan_or` meets its contract.
use Rattle.desk_write.specs.Rewritten.{accepted_printed, refused_printed}
use Rattle.desk_write.proofs.plan_or.Goals as goal

pub plan_into-requires : goal.plan_into-requires
plan_into-requires c = c.requires.given c.in-Ok.r c.in-Ok.is

pub returns-in-Ok : goal.returns-in-Ok
returns-in-Ok c = let h = accepted_printed _ _ c.in-Ok.is (c.plan_into.ensures.value, c.plan_into.ensures.out_after) in record { value = h.0; out_after = h.1 }

pub returns-in-Err : goal.returns-in-Err
returns-in-Err c = let h = refused_printed _ _ c.in-Err.is (c.refusal_text.ensures.value, c.refusal_text.ensures.out_after) in record { value = h.0; out_after = h.1 }
