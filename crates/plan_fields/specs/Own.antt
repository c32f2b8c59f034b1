-- What is asked of each field of a line by itself, and the field that decides: among the tests that fail with the lowest number the leftmost.
use Rattle.std.specs.Prelude.{ℕ, ◌+◌, ◌≤◌, ◌≡◌, List, [], ◌∷◌, ◌++◌, ◌⊎◌, Bool, false, ltb}
use Rattle.laws.specs.Bytes.{pieces}
use Rattle.laws.specs.Decimal.{value}
use Rattle.plan.specs.Limits.{max_digits, tab, max_v, max_guest, max_core, max_m, max_n, max_period, max_length, max_tasks, max_locks}
use Rattle.plan.specs.declared.Refusal.{Refusal}
use Rattle.plan.specs.declared.Refusal.TheVariants.{Shape, Number, Range, Order, Missing, Outside, TooMany}
use Rattle.plan.specs.declared.Kind.{Kind}
use Rattle.plan.specs.declared.Kind.TheVariants.{PlanLine, PolicyPO, PolicyPN, PolicyDO, PolicyDN, VcpuLine, MutexG, MutexL, OpenLine, GuestLine, TaskLine, RunLine, LockLine, EndLine, AskLine, FreeLine, UseLine, TopLine, ShowLine}
use Rattle.plan.specs.Refusals.{number_of}
use Rattle.plan.specs.Line.{Form, Word, Num, Item, bad, shape}
use Rattle.plan.specs.Lookup.{has_vcpu, is_vcpu_of, has_guest, has_mutex, global, reaches}
use Rattle.plan.specs.Rules.{Known, Test, test, within, follows, nth, rises, last_v, last_m, last_open}

-- A TEST OF A FIELD; one of the whole line stands at field 0
pub record Own : Type 0 where
  pub field : ℕ
  pub asks : Test

abbrev pub own : ℕ → Refusal → Bool → Own
own k r b = record { field = k; asks = test r b }

-- the tests without their fields
abbrev pub asked : List Own → List Test
asked [] = []
asked (x ∷ xs) = x.asks ∷ asked xs

-- tests of the number fields of a shape, from field k on
abbrev pub placed : Refusal → ℕ → List Form → List Bool → List Own
placed r k [] bs = []
placed r k (Word w ∷ ps) bs = placed r (k + 1) ps bs
placed r k (Num ∷ ps) [] = []
placed r k (Num ∷ ps) (b ∷ bs) = own k r b ∷ placed r (k + 1) ps bs

-- is each number field written as a number is?
abbrev pub as_numbers : List Form → List (List ℕ) → List Bool
as_numbers [] fs = []
as_numbers (p ∷ ps) [] = []
as_numbers (Word w ∷ ps) (f ∷ fs) = as_numbers ps fs
as_numbers (Num ∷ ps) (f ∷ fs) = ltb (value max_digits f) bad ∷ as_numbers ps fs

-- the range of a number
pub record Bound : Type 0 where
  pub lo : ℕ
  pub hi : ℕ

abbrev bound : ℕ → ℕ → Bound
bound a b = record { lo = a; hi = b }

-- the ranges of a line's numbers, from left to right: "v 1 to 16, guest 1 to 4, core 0 to 3, m 1 to 32, n 1 to 8, every period 1 to 1,000,000, budget 1 to its period, run 0 to 1,000,000, lock 1 to 1,000,000"
unfoldable pub bounds : Kind → List ℕ → List Bound
bounds PlanLine ns = []
bounds PolicyPO ns = []
bounds PolicyPN ns = []
bounds PolicyDO ns = []
bounds PolicyDN ns = []
bounds VcpuLine ns = bound 1 max_v ∷ bound 1 max_guest ∷ bound 0 max_core ∷ bound 1 (nth 4 ns) ∷ bound 1 max_period ∷ []
bounds MutexG ns = bound 1 max_m ∷ []
bounds MutexL ns = bound 1 max_m ∷ bound 1 max_v ∷ []
bounds OpenLine ns = bound 1 max_m ∷ bound 1 max_guest ∷ []
bounds GuestLine ns = bound 1 max_guest ∷ []
bounds TaskLine ns = bound 1 max_v ∷ bound 1 max_n ∷ bound 1 max_period ∷ []
bounds RunLine ns = bound 0 max_length ∷ []
bounds LockLine ns = bound 1 max_m ∷ bound 1 max_length ∷ []
bounds EndLine ns = []
-- an event's line stands in no plan (`follows`), so nothing more is asked of it
bounds AskLine ns = []
bounds FreeLine ns = []
bounds UseLine ns = []
bounds TopLine ns = []
bounds ShowLine ns = []

-- is each number in its range: the j-th in the first, and so on?
abbrev pub in_bounds : ℕ → List ℕ → List Bound → List Bool
in_bounds j ns [] = []
in_bounds j ns (b ∷ bs) = within (nth j ns) b.lo b.hi ∷ in_bounds (j + 1) ns bs

-- what is asked beside form and range, each of the field that names the thing or, at field 0, of the whole line
unfoldable pub others : Known → Kind → List ℕ → List Own
others t PlanLine ns = []
others t PolicyPO ns = []
others t PolicyPN ns = []
others t PolicyDO ns = []
others t PolicyDN ns = []
others t VcpuLine ns = own 0 Order (ltb (last_v t.vcpus) (nth 0 ns)) ∷ []
others t MutexG ns = own 0 Order (ltb (last_m t.mutexes) (nth 0 ns)) ∷ []
-- of `mutex m L v` the VCPU is named in field 4
others t MutexL ns = own 0 Order (ltb (last_m t.mutexes) (nth 0 ns)) ∷ own 4 Missing (has_vcpu t.vcpus (nth 1 ns)) ∷ []
others t OpenLine ns =
    own 0 Order (rises (last_open t.opens).m (last_open t.opens).guest (nth 0 ns) (nth 1 ns))
    ∷ own 2 Missing (global t.mutexes (nth 0 ns))
    ∷ own 3 Missing (has_guest t.vcpus (nth 1 ns))
    ∷ []
others t GuestLine ns = own 0 Order (ltb t.guest (nth 0 ns)) ∷ own 2 Missing (has_guest t.vcpus (nth 0 ns)) ∷ []
others t TaskLine ns =
    own 0 Order (rises t.v t.n (nth 0 ns) (nth 1 ns))
    ∷ own 2 Missing (has_vcpu t.vcpus (nth 0 ns))
    ∷ own 2 Outside (is_vcpu_of t.vcpus t.guest (nth 0 ns))
    ∷ own 0 TooMany (ltb t.tasks max_tasks)
    ∷ []
others t RunLine ns = []
others t LockLine ns =
    own 2 Missing (has_mutex t.mutexes (nth 0 ns))
    ∷ own 2 Outside (reaches t.mutexes t.opens t.guest t.v (nth 0 ns))
    ∷ own 0 TooMany (ltb t.locks max_locks)
    ∷ []
others t EndLine ns = []
others t AskLine ns = []
others t FreeLine ns = []
others t UseLine ns = []
others t TopLine ns = []
others t ShowLine ns = []

-- ALL TESTS of a line that says an item, by their numbers and then from left to right
abbrev pub own_tests : Known → List ℕ → Item → List Own
own_tests t l i =
    own 0 Shape (follows t.phase i.kind)
    ∷ placed Number 1 (shape i.kind) (as_numbers (shape i.kind) (pieces tab l))
    ++ (placed Range 1 (shape i.kind) (in_bounds 0 i.nums (bounds i.kind i.nums)) ++ others t i.kind i.nums)

-- some test of field k fails with the refusal r
abbrev pub FailsAt : Refusal → ℕ → List Own → Type 0
FailsAt r k [] = ⊥
FailsAt r k (x ∷ xs) = ((x.asks.holds ≡ false) × (r ≡ x.asks.refusal) × (k ≡ x.field)) ⊎ FailsAt r k xs

-- r and k decide: field k fails with r, no test fails with a lower number, and with this number none further left
pub record Decides (r : Refusal) (k : ℕ) (xs : List Own) : Type 0 where
  pub fails : FailsAt r k xs
  pub lowest : (s : Refusal) (j : ℕ) → FailsAt s j xs → number_of r ≤ number_of s
  pub leftmost : (j : ℕ) → FailsAt r j xs → k ≤ j
