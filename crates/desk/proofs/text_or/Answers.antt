-- `text_or` meets its contract.
use Rattle.desk.specs.Told.{accepted_printed, refused_printed}
use Rattle.desk.proofs.text_or.Goals as goal

pub text_into-requires : goal.text_into-requires
text_into-requires c = (c.requires.0.given c.in-Ok.r c.in-Ok.is, c.requires.1)

pub returns-in-Ok : goal.returns-in-Ok
returns-in-Ok c = let h = accepted_printed _ _ _ _ c.in-Ok.is (c.text_into.ensures.value, c.text_into.ensures.out_after) in record { value = h.0; out_after = h.1 }

pub returns-in-Err : goal.returns-in-Err
returns-in-Err c = let h = refused_printed _ _ _ _ c.in-Err.is (c.refusal_text.ensures.value, c.refusal_text.ensures.out_after) in record { value = h.0; out_after = h.1 }
