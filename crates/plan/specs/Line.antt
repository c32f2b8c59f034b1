-- The lines of a plan and of events: which kinds there are, how each is written, and what a line says.
use Rattle.std.specs.Prelude.{ℕ, suc, ◌+◌, ◌^◌, Bool, true, false, cond, ◌&&◌, ltb, take, Option, Some, None}
use mathlib.Core.List.{List, [], ◌∷◌, tail}
use Rattle.laws.specs.Bytes.{pieces, joined, same}
use Rattle.laws.specs.Decimal.{value, decimal}
use Rattle.plan.specs.Limits.{max_digits, tab}
pub use Rattle.plan.specs.declared.Kind.{Kind}
pub use Rattle.plan.specs.declared.Kind.TheVariants.{PlanLine, PolicyPO, PolicyPN, PolicyDO, PolicyDN, VcpuLine, MutexG, MutexL, OpenLine, GuestLine, TaskLine, RunLine, LockLine, EndLine, AskLine, FreeLine, UseLine, TopLine, ShowLine}

-- the words, in bytes
-- plan
abbrev pub w_plan : List ℕ
w_plan = 112 ∷ 108 ∷ 97 ∷ 110 ∷ []

-- 1
abbrev pub w_one : List ℕ
w_one = 49 ∷ []

-- policy
abbrev pub w_policy : List ℕ
w_policy = 112 ∷ 111 ∷ 108 ∷ 105 ∷ 99 ∷ 121 ∷ []

-- P
abbrev pub w_p : List ℕ
w_p = 80 ∷ []

-- D
abbrev pub w_d : List ℕ
w_d = 68 ∷ []

-- O
abbrev pub w_o : List ℕ
w_o = 79 ∷ []

-- N
abbrev pub w_n : List ℕ
w_n = 78 ∷ []

-- vcpu
abbrev pub w_vcpu : List ℕ
w_vcpu = 118 ∷ 99 ∷ 112 ∷ 117 ∷ []

-- mutex
abbrev pub w_mutex : List ℕ
w_mutex = 109 ∷ 117 ∷ 116 ∷ 101 ∷ 120 ∷ []

-- G
abbrev pub w_g : List ℕ
w_g = 71 ∷ []

-- L
abbrev pub w_l : List ℕ
w_l = 76 ∷ []

-- open
abbrev pub w_open : List ℕ
w_open = 111 ∷ 112 ∷ 101 ∷ 110 ∷ []

-- guest
abbrev pub w_guest : List ℕ
w_guest = 103 ∷ 117 ∷ 101 ∷ 115 ∷ 116 ∷ []

-- task
abbrev pub w_task : List ℕ
w_task = 116 ∷ 97 ∷ 115 ∷ 107 ∷ []

-- run
abbrev pub w_run : List ℕ
w_run = 114 ∷ 117 ∷ 110 ∷ []

-- lock
abbrev pub w_lock : List ℕ
w_lock = 108 ∷ 111 ∷ 99 ∷ 107 ∷ []

-- end
abbrev pub w_end : List ℕ
w_end = 101 ∷ 110 ∷ 100 ∷ []

-- ask
abbrev pub w_ask : List ℕ
w_ask = 97 ∷ 115 ∷ 107 ∷ []

-- free
abbrev pub w_free : List ℕ
w_free = 102 ∷ 114 ∷ 101 ∷ 101 ∷ []

-- use
abbrev pub w_use : List ℕ
w_use = 117 ∷ 115 ∷ 101 ∷ []

-- top
abbrev pub w_top : List ℕ
w_top = 116 ∷ 111 ∷ 112 ∷ []

-- show
abbrev pub w_show : List ℕ
w_show = 115 ∷ 104 ∷ 111 ∷ 119 ∷ []

-- a field is a given word, or a number
pub data Form : Type 0 where
  Word : List ℕ → Form
  Num : Form

-- how a line of each kind is written: its fields, parted by one tab. "The 1 of `plan 1` counts as a word"
unfoldable pub shape : Kind → List Form
shape PlanLine = Word w_plan ∷ Word w_one ∷ []
shape PolicyPO = Word w_policy ∷ Word w_p ∷ Word w_o ∷ []
shape PolicyPN = Word w_policy ∷ Word w_p ∷ Word w_n ∷ []
shape PolicyDO = Word w_policy ∷ Word w_d ∷ Word w_o ∷ []
shape PolicyDN = Word w_policy ∷ Word w_d ∷ Word w_n ∷ []
shape VcpuLine = Word w_vcpu ∷ Num ∷ Num ∷ Num ∷ Num ∷ Num ∷ []
shape MutexG = Word w_mutex ∷ Num ∷ Word w_g ∷ []
shape MutexL = Word w_mutex ∷ Num ∷ Word w_l ∷ Num ∷ []
shape OpenLine = Word w_open ∷ Num ∷ Num ∷ []
shape GuestLine = Word w_guest ∷ Num ∷ []
shape TaskLine = Word w_task ∷ Num ∷ Num ∷ Num ∷ []
shape RunLine = Word w_run ∷ Num ∷ []
shape LockLine = Word w_lock ∷ Num ∷ Num ∷ []
shape EndLine = Word w_end ∷ []
shape AskLine = Word w_ask ∷ Num ∷ Num ∷ Num ∷ []
shape FreeLine = Word w_free ∷ Num ∷ Num ∷ Num ∷ []
shape UseLine = Word w_use ∷ Num ∷ Num ∷ []
shape TopLine = Word w_top ∷ Num ∷ []
shape ShowLine = Word w_show ∷ Num ∷ Num ∷ []

abbrev pub kinds : List Kind
kinds =
    PlanLine
    ∷ PolicyPO
    ∷ PolicyPN
    ∷ PolicyDO
    ∷ PolicyDN
    ∷ VcpuLine
    ∷ MutexG
    ∷ MutexL
    ∷ OpenLine
    ∷ GuestLine
    ∷ TaskLine
    ∷ RunLine
    ∷ LockLine
    ∷ EndLine
    ∷ AskLine
    ∷ FreeLine
    ∷ UseLine
    ∷ TopLine
    ∷ ShowLine
    ∷ []

-- what a line says: its kind, and its numbers from left to right
pub record Item : Type 0 where
  pub kind : Kind
  pub nums : List ℕ

-- what a number field says that is not written as it should be is this or more: more than any field of 7 digits
abbrev pub bad : ℕ
bad = 10 ^ max_digits

abbrev pub head_or : List ℕ → ℕ
head_or [] = 0
head_or (n ∷ ns) = n

-- do the fields have this shape: as many, and each word?
unfoldable pub has_shape : List Form → List (List ℕ) → Bool
has_shape [] [] = true
has_shape [] (f ∷ fs) = false
has_shape (p ∷ ps) [] = false
has_shape (Word w ∷ ps) (f ∷ fs) = same f w && has_shape ps fs
has_shape (Num ∷ ps) (f ∷ fs) = has_shape ps fs

-- the number that field k says; where it is not written as it should be, `bad` and the field
unfoldable pub number_at : ℕ → List ℕ → ℕ
number_at k f = cond (ltb (value max_digits f) bad) (value max_digits f) (bad + k)

-- the numbers that fields of a shape say, from field k on
unfoldable pub numbers : ℕ → List Form → List (List ℕ) → List ℕ
numbers k [] fs = []
numbers k (p ∷ ps) [] = []
numbers k (Word w ∷ ps) (f ∷ fs) = numbers (k + 1) ps fs
numbers k (Num ∷ ps) (f ∷ fs) = number_at k f ∷ numbers (k + 1) ps fs

-- the fields of a shape that say these numbers
unfoldable pub fields_of : List Form → List ℕ → List (List ℕ)
fields_of [] ns = []
fields_of (Word w ∷ ps) ns = w ∷ fields_of ps ns
fields_of (Num ∷ ps) ns = decimal (head_or ns) ∷ fields_of ps (tail ns)

-- the first kind whose shape the fields have (no two kinds share a shape)
unfoldable pub kind_in : List Kind → List (List ℕ) → Option Kind
kind_in [] fs = None
kind_in (k ∷ ks) fs = cond (has_shape (shape k) fs) (Some k) (kind_in ks fs)

abbrev pub item_from : List (List ℕ) → Option Kind → Option Item
item_from fs None = None
item_from fs (Some k) = Some (record { kind = k; nums = numbers 1 (shape k) fs })

-- what a line says, if it has a kind
unfoldable pub item_of : List ℕ → Option Item
item_of l = item_from (pieces tab l) (kind_in kinds (pieces tab l))

-- the line that says it
unfoldable pub line_of : Item → List ℕ
line_of i = joined tab (fields_of (shape i.kind) i.nums)

-- are these as many numbers as the shape has, each as a field can say it?
unfoldable pub written : List Form → List ℕ → Bool
written [] [] = true
written [] (n ∷ ns) = false
written (Word w ∷ ps) ns = written ps ns
written (Num ∷ ps) [] = false
written (Num ∷ ps) (n ∷ ns) = ltb n bad && written ps ns

-- how many numbers a shape has
unfoldable pub size : List Form → ℕ
size [] = 0
size (Word w ∷ ps) = size ps
size (Num ∷ ps) = suc (size ps)

-- the numbers of a line of this kind: as many of five as its shape has
unfoldable pub nums_of : Kind → ℕ → ℕ → ℕ → ℕ → ℕ → List ℕ
nums_of k a b c d e = take (size (shape k)) (a ∷ b ∷ c ∷ d ∷ e ∷ [])
