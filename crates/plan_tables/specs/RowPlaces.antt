-- Where a line's numbers go in a table: the place of a row, and of a run in a task's row.
use Rattle.std.specs.Prelude.{ℕ, ◌+◌, ◌*◌, cond, eqb, ltb}
use Rattle.plan_tables.specs.Layout.{lock_width}

-- no more rows of a table are counted: a valid plan has no more
abbrev pub most : ℕ
most = 128

-- where row i begins; 0 from row 128 on, which no judged line reaches
unfoldable pub place : ℕ → ℕ → ℕ
place i w = cond (ltb i most) (i * w) 0

-- where a `run` stands in a row after so many locks
unfoldable pub run_place : ℕ → ℕ
run_place n = cond (eqb n 0) 3 (place n lock_width + 4)
