-- A text written into a buffer behind n bytes where `on`, else not at all.
use Rattle.std.specs.Prelude.{ℕ, ◌+◌, ◌≤◌, ◌≡◌, Bool, true, take}
use mathlib.Core.List.{List, ◌++◌}
use Rattle.std.proofs.Math.ListN.{length, drop}
use Rattle.std.specs.Prelude.{if◌then◌else◌}

-- the buffer after it: its first n bytes, x, and behind these the buffer as it was
unfoldable pub told_at : Bool → List ℕ → List ℕ → ℕ → List ℕ
told_at on x o n = if on then (take n o ++ x) ++ drop (n + length x) o else o

-- there is room for it
abbrev pub RoomAt : Bool → List ℕ → List ℕ → ℕ → Type 0
RoomAt on x o n = on ≡ true → n + length x ≤ length o
