-- Which field a refused line is refused for: "the word is field 1; field 0 for Shape, Order, TooMany and Room; for Missing and Outside the field that names the thing".
use Rattle.std.specs.Prelude.{ℕ, ◌+◌, ◌-◌, List, [], ◌∷◌, Bool, cond, ltb}
use Rattle.plan.specs.Limits.{max_v, max_guest, max_core, max_m, max_n, max_period, max_length}
use Rattle.plan.specs.Refusals.{Refusal, Shape, Number, Range, Order, Missing, Outside, TooMany, Room, Foreign, Unknown, Unlisted, Asleep, Busy, NotHolder, Supply}
use Rattle.plan.specs.Line.{bad, Form, Word, Num, shape, Kind, PlanLine, PolicyPO, PolicyPN, PolicyDO, PolicyDN, VcpuLine, MutexG, MutexL, OpenLine, GuestLine, TaskLine, RunLine, LockLine, EndLine, AskLine, FreeLine, UseLine, TopLine, ShowLine}
use Rattle.plan.specs.Rules.{within, nth}

-- Number: the first field that is not written as it should be, as it was read (0 where there is none)
unfoldable pub unwritten : List ℕ → ℕ
unwritten [] = 0
unwritten (n ∷ ns) = cond (ltb n bad) (unwritten ns) (n - bad)

-- Range: are the numbers of a line in their ranges, from left to right? "budget 1 to its period"
unfoldable pub ranges : Kind → List ℕ → List Bool
ranges VcpuLine ns = within (nth 0 ns) 1 max_v ∷ within (nth 1 ns) 1 max_guest ∷ within (nth 2 ns) 0 max_core ∷ within (nth 3 ns) 1 (nth 4 ns) ∷ within (nth 4 ns) 1 max_period ∷ []
ranges MutexG ns = within (nth 0 ns) 1 max_m ∷ []
ranges MutexL ns = within (nth 0 ns) 1 max_m ∷ within (nth 1 ns) 1 max_v ∷ []
ranges OpenLine ns = within (nth 0 ns) 1 max_m ∷ within (nth 1 ns) 1 max_guest ∷ []
ranges GuestLine ns = within (nth 0 ns) 1 max_guest ∷ []
ranges TaskLine ns = within (nth 0 ns) 1 max_v ∷ within (nth 1 ns) 1 max_n ∷ within (nth 2 ns) 1 max_period ∷ []
ranges RunLine ns = within (nth 0 ns) 0 max_length ∷ []
ranges LockLine ns = within (nth 0 ns) 1 max_m ∷ within (nth 1 ns) 1 max_length ∷ []
ranges PlanLine ns = []
ranges PolicyPO ns = []
ranges PolicyPN ns = []
ranges PolicyDO ns = []
ranges PolicyDN ns = []
ranges EndLine ns = []
ranges AskLine ns = []
ranges FreeLine ns = []
ranges UseLine ns = []
ranges TopLine ns = []
ranges ShowLine ns = []

-- the field of the first number that fails its test, from field k on
unfoldable pub first_out : ℕ → List Form → List Bool → ℕ
first_out k [] bs = 0
first_out k (Word w ∷ ps) bs = first_out (k + 1) ps bs
first_out k (Num ∷ ps) [] = 0
first_out k (Num ∷ ps) (b ∷ bs) = cond b (first_out (k + 1) ps bs) k

-- Missing: of `mutex m L v` the VCPU; of `open m guest` the mutex where it is not global, else the guest; of any other line its first number
abbrev pub missing : Bool → Kind → ℕ
missing g MutexL = 4
missing g OpenLine = cond g 3 2
missing g VcpuLine = 2
missing g MutexG = 2
missing g GuestLine = 2
missing g TaskLine = 2
missing g RunLine = 2
missing g LockLine = 2
missing g PlanLine = 2
missing g PolicyPO = 2
missing g PolicyPN = 2
missing g PolicyDO = 2
missing g PolicyDN = 2
missing g EndLine = 2
missing g AskLine = 2
missing g FreeLine = 2
missing g UseLine = 2
missing g TopLine = 2
missing g ShowLine = 2

-- THE FIELD of a line of this kind and these numbers that is refused so; g says whether its first number is a global mutex's
unfoldable pub field_of : Bool → Kind → List ℕ → Refusal → ℕ
field_of g k ns Number = unwritten ns
field_of g k ns Range = first_out 1 (shape k) (ranges k ns)
field_of g k ns Missing = missing g k
field_of g k ns Outside = 2
field_of g k ns Shape = 0
field_of g k ns Order = 0
field_of g k ns TooMany = 0
field_of g k ns Room = 0
field_of g k ns Foreign = 0
field_of g k ns Unknown = 0
field_of g k ns Unlisted = 0
field_of g k ns Asleep = 0
field_of g k ns Busy = 0
field_of g k ns NotHolder = 0
field_of g k ns Supply = 0
