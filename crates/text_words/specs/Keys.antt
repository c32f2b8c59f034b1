-- A short word as one number, and the kind of a line by its tabs and words.
use Rattle.std.specs.Prelude.{ℕ, ◌+◌, ◌*◌, List, [], ◌∷◌, Bool, true, false, cond, ◌&&◌, eqb, ltb, length, Option, Some, None}
use Rattle.plan.specs.declared.Kind.{Kind}
use Rattle.plan.specs.declared.Kind.TheVariants.{PlanLine, PolicyPO, PolicyPN, PolicyDO, PolicyDN, VcpuLine, MutexG, MutexL, OpenLine, GuestLine, TaskLine, RunLine, LockLine, EndLine, AskLine, FreeLine, UseLine, TopLine, ShowLine}
use Rattle.plan.specs.Line.{w_plan, w_one, w_policy, w_p, w_d, w_o, w_n, w_vcpu, w_mutex, w_g, w_l, w_open, w_guest, w_task, w_run, w_lock, w_end, w_ask, w_free, w_use, w_top, w_show}

-- the bytes after a value v, to the base 256
unfoldable pub spell : ℕ → List ℕ → ℕ
spell v [] = v
spell v (x ∷ s) = spell (v * 256 + x) s

-- a word of 1 to 7 bytes as one number; 0 for a longer one
unfoldable pub key_of : List ℕ → ℕ
key_of s = cond (ltb 7 (length s)) 0 (spell 0 s * 8 + length s)

-- the kind k where the test holds, else what the rest says
unfoldable pub first_of : Bool → Kind → Option Kind → Option Kind
first_of true k rest = Some k
first_of false k rest = rest

-- BY THE TABS c AND THE KEYS of the first field w, the second a, the third b

unfoldable pub event_kind : ℕ → ℕ → Option Kind
event_kind c w =
    first_of (eqb c 3 && eqb w (key_of w_ask)) AskLine
    (first_of (eqb c 3 && eqb w (key_of w_free)) FreeLine
    (first_of (eqb c 2 && eqb w (key_of w_use)) UseLine
    (first_of (eqb c 1 && eqb w (key_of w_top)) TopLine
    (first_of (eqb c 2 && eqb w (key_of w_show)) ShowLine None))))

unfoldable pub sheet_kind : ℕ → ℕ → Option Kind
sheet_kind c w =
    first_of (eqb c 1 && eqb w (key_of w_guest)) GuestLine
    (first_of (eqb c 3 && eqb w (key_of w_task)) TaskLine
    (first_of (eqb c 1 && eqb w (key_of w_run)) RunLine
    (first_of (eqb c 2 && eqb w (key_of w_lock)) LockLine
    (first_of (eqb c 0 && eqb w (key_of w_end)) EndLine (event_kind c w)))))

unfoldable pub table_kind : ℕ → ℕ → ℕ → Option Kind
table_kind c w b =
    first_of (eqb c 5 && eqb w (key_of w_vcpu)) VcpuLine
    (first_of (eqb c 2 && (eqb w (key_of w_mutex) && eqb b (key_of w_g))) MutexG
    (first_of (eqb c 3 && (eqb w (key_of w_mutex) && eqb b (key_of w_l))) MutexL
    (first_of (eqb c 2 && eqb w (key_of w_open)) OpenLine (sheet_kind c w))))

unfoldable pub line_kind : ℕ → ℕ → ℕ → ℕ → Option Kind
line_kind c w a b =
    first_of (eqb c 1 && (eqb w (key_of w_plan) && eqb a (key_of w_one))) PlanLine
    (first_of (eqb c 2 && (eqb w (key_of w_policy) && (eqb a (key_of w_p) && eqb b (key_of w_o)))) PolicyPO
    (first_of (eqb c 2 && (eqb w (key_of w_policy) && (eqb a (key_of w_p) && eqb b (key_of w_n)))) PolicyPN
    (first_of (eqb c 2 && (eqb w (key_of w_policy) && (eqb a (key_of w_d) && eqb b (key_of w_o)))) PolicyDO
    (first_of (eqb c 2 && (eqb w (key_of w_policy) && (eqb a (key_of w_d) && eqb b (key_of w_n)))) PolicyDN (table_kind c w b)))))

abbrev pub kind_at : ℕ → List ℕ → List ℕ → List ℕ → Option Kind
kind_at c w a b = line_kind c (key_of w) (key_of a) (key_of b)
