-- A buffer of the programs' size has room for every text that they print.
use Rattle.std.specs.Prelude.{ℕ, ◌≤◌, ◌≡◌, List, length, take}

-- n counts bytes at the start of xs
abbrev pub Counted : ℕ → List ℕ → Type 0
Counted n xs = (n ≤ length xs) × (n ≡ length (take n xs))

-- the programs' buffers
abbrev pub verdict_bytes : ℕ
verdict_bytes = 16803

abbrev pub board_bytes : ℕ
board_bytes = 655360
