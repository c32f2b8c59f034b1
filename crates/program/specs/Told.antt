-- What is handed on of an input. No contract can say which bytes the system gives or takes, nor what it answers; these say what is made of an answer.
use Rattle.std.specs.Prelude.{ℕ, ◌≡◌, ◌≤◌, Bool, false, List, length, take, ℤ, pos, negsuc, Option, None, Some, Result, Ok, Err, if◌then◌else◌}
use Rattle.std.specs.declared.io.Error.{Error}
use Rattle.std.specs.IoError.{raw_os_error}
use Rattle.program_ends.specs.Ends.{is_absent, is_closed}

-- an input after its last read: none where that failed, however many bytes came before it, else all n that were read
abbrev pub input_after : ℤ → ℕ → Option ℕ
input_after (pos k) n = Some n
input_after (negsuc k) n = None

-- what a read with room for n bytes may answer: -1, or how many it has put, at most n
abbrev pub Moved : ℕ → ℤ → Type 0
Moved n (pos k) = k ≤ n
Moved n (negsuc k) = k ≡ 0

-- xs has n bytes at its start
abbrev pub Counts : ℕ → List ℕ → Type 0
Counts n xs = (n ≤ length xs) × (n ≡ length (take n xs))

-- what is handed on of a buffer: so many bytes at its start, and no more than it has
abbrev pub Handed : Option ℕ → List ℕ → Type 0
Handed (Some n) xs = Counts n xs
Handed None xs = Unit {0}

-- what a test of the system's numbers of errors says of an error of std, which has such a number or none
abbrev pub numbered : (ℤ → Bool) → Option ℤ → Bool
numbered is None = false
numbered is (Some e) = is e

abbrev pub is_missing : Error → Bool
is_missing e = numbered is_absent (raw_os_error e)

abbrev pub is_reader_gone : Error → Bool
is_reader_gone e = numbered is_closed (raw_os_error e)

-- the status with which a program ends, by how its answer was written; 141 is 128 and the number of the closed pipe's signal
abbrev pub status_after : {A : Type 0} → Result A Error → ℕ
status_after (Ok _) = 0
status_after (Err e) = if is_reader_gone e then 141 else 1
