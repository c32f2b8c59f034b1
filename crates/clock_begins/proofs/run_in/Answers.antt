use mathlib.Core.Path.{refl}
use Rattle.clock_begins.specs.Begins.{begun_going, begun_run}
use Rattle.clock_begins.proofs.run_in.Goals as goal

pub begin-requires : goal.begin-requires
begin-requires c = record {
  ts_value = (c.requires.0, refl {a = 4320}, refl {a = 3360});
  left_len = (refl {a = 16}, refl {a = 16}, refl {a = 16}, refl {a = 32}, refl {a = 128}, refl {a = 424}, refl {a = 162});
}

pub run-requires : goal.run-requires
run-requires c = let g = c.begin.ensures in (begun_going g, g.started.nexts, c.requires.1)

pub returns : goal.returns
returns c = begun_run c.begin.ensures _ c.run.ensures
