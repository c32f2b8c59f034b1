-- How many bytes a read has put, and which errors are no faults. No contract can say what the system answers; these say what is made of an answer.
use Rattle.std.specs.Prelude.{ℕ, Bool, false, ℤ, pos, negsuc, eqb}

-- the bytes that a read has put: as many as it answers; below 0, none
abbrev pub more_bytes : ℤ → ℕ
more_bytes (pos k) = k
more_bytes (negsuc k) = 0

-- the system's error has this number
abbrev pub is_error : ℕ → ℤ → Bool
is_error n (pos k) = eqb k n
is_error n (negsuc k) = false

-- no such file (ENOENT): plan.tsv, absent, counts as empty
abbrev pub is_absent : ℤ → Bool
is_absent e = is_error 2 e

-- nobody reads the pipe any more (EPIPE)
abbrev pub is_closed : ℤ → Bool
is_closed e = is_error 32 e
