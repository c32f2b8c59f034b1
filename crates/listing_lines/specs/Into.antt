-- A text into a lent buffer: "no listing [needs] more bytes than its text", and a refusal leaves the buffer as it was lent.
use Rattle.std.specs.Prelude.{ℕ, List, ◌++◌, Bool, true, false, leb, length, drop, Result, Ok, Err}
use Rattle.plan.specs.declared.Refusal.TheVariants.{Room}
use Rattle.plan.specs.declared.Refusal.{Refusal}

-- the buffer o has room for the text t
abbrev pub has_room : List ℕ → List ℕ → Bool
has_room t o = leb (length t) (length o)

-- what writing t into o answers, and leaves: the text and the rest of o, or 8 and o as it was lent
unfoldable pub text_answer : List ℕ → List ℕ → Result ℕ Refusal
text_answer t o = elim (has_room t o) [ true ↦ Ok (length t) | false ↦ Err Room ]

unfoldable pub text_after : List ℕ → List ℕ → List ℕ
text_after t o = elim (has_room t o) [ true ↦ t ++ drop (length t) o | false ↦ o ]

-- how many bytes a call has written
abbrev pub bytes_in : Result ℕ Refusal → ℕ
bytes_in (Ok n) = n
bytes_in (Err r) = 0
