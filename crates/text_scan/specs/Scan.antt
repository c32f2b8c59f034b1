-- A line of an input, from a place on.
use Rattle.std.specs.Prelude.{ℕ, ◌+◌, List, Bool, eqb, ltb, length, drop}
use Rattle.std.specs.Prelude.{if◌then◌else◌}
use Rattle.laws.specs.Fields.{before}
use Rattle.plan.specs.Limits.{lf}
use Rattle.text_lines.specs.Said.{said_of}
pub use Rattle.text_scan.specs.declared.Line.{Line}
pub use Rattle.text_scan.specs.declared.Step.{Step}

-- the bytes before the next LF, from `at` on
abbrev pub line_in : List ℕ → ℕ → List ℕ
line_in s at = before lf (drop at s)

-- is there such an LF?
abbrev pub has_lf : List ℕ → ℕ → Bool
has_lf s at = ltb (length (line_in s at)) (length (drop at s))

-- the line that begins at a place: whether an LF ends it; whether nothing is left; what it says; and where the next line begins, which is
-- after the LF, or at the end of the input
unfoldable pub line_at : List ℕ → ℕ → Line
line_at s at =
    record {
      ended = has_lf s at;
      empty = eqb (length (drop at s)) 0;
      said = said_of (line_in s at);
      next = if has_lf s at then at + length (line_in s at) + 1 else length s;
    }

-- what is read from a place and a line's number: that line, and the place and the number of the next
unfoldable pub step_at : List ℕ → ℕ → ℕ → Step
step_at s at n = record { line = line_at s at; at = (line_at s at).next; number = n + 1 }
