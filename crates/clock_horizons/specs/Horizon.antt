-- What the reading of the line `horizon h` answers, as specs/Trace of `clock_rules` has it.
use Rattle.std.specs.Prelude.{ℕ, Result, Ok, Err}
use Rattle.plan.specs.declared.Refusal.{Refusal}
use Rattle.clock_rules.specs.Trace as trace

abbrev pub told : Result ℕ Refusal → trace.Horizon
told (Ok h) = trace.Until h
told (Err r) = trace.Refuse r
