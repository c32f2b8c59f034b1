-- The lines of a plan, each as its first word and the rest behind it, ended by LF.
use Rattle.std.specs.Prelude.{ℕ, zero, suc, ◌≡◌, refl, List, [], ◌∷◌, ◌++◌}
use Rattle.std.proofs.Common.{ap, sym, ◌∙◌, append_assoc}
use Rattle.laws.specs.Bytes.{ended}
use Rattle.laws.specs.Decimal.{decimal}
use Rattle.plan.specs.Limits.{lf}
use Rattle.plan.specs.declared.Kind.TheVariants.{GuestLine, TaskLine, LockLine}
use Rattle.plan.specs.Line.{Item, shape, fields_of, line_of, w_vcpu, w_mutex, w_g, w_l, w_open, w_guest, w_task, w_run, w_lock}
use Rattle.plan.specs.Plan.{Vcpu, Open}
use Rattle.plan.specs.Text.{item, vcpu_item, owned_item, open_item, run_item, lines_of, text_of}
use Rattle.plan_tables.specs.Layout.{owner_of}
use Rattle.text_letters.specs.Wrote.{Joins}
use Rattle.text_letters.specs.Tabbed.{tabbed, rest}
use Rattle.text_letters.specs.TabbedLaws.{joined_rest, rest_more}

-- ITEMS, AND OTHERS BEHIND THEM

ended_append : (ls ms : List (List ℕ)) → ended lf (ls ++ ms) ≡ ended lf ls ++ ended lf ms
unfolding ended
ended_append [] ms = refl
ended_append (l ∷ ls) ms = ap (λ m. l ++ (lf ∷ m)) (ended_append ls ms) ∙ sym (append_assoc l (lf ∷ ended lf ls) (ended lf ms))

lines_append : (is js : List Item) → lines_of (is ++ js) ≡ lines_of is ++ lines_of js
unfolding lines_of
lines_append [] js = refl
lines_append (i ∷ is) js = ap (λ m. line_of i ∷ m) (lines_append is js)

pub text_append : (is js : List Item) → text_of (is ++ js) ≡ text_of is ++ text_of js
unfolding text_of
text_append is js = ap (ended lf) (lines_append is js) ∙ ended_append (lines_of is) (lines_of js)

pub text_none : text_of [] ≡ []
unfolding text_of lines_of ended
text_none = refl

-- ONE LINE

line_text : (i : Item) → text_of (i ∷ []) ≡ line_of i ++ (lf ∷ [])
unfolding text_of lines_of ended
line_text i = refl

pub vcpu_text_law :
    (r : Vcpu) → text_of (vcpu_item r ∷ []) ≡ w_vcpu ++ rest (decimal r.v ∷ decimal r.guest ∷ decimal r.core ∷ decimal r.budget ∷ decimal r.period ∷ [])
unfolding line_of fields_of shape
vcpu_text_law r = line_text (vcpu_item r) ∙ joined_rest w_vcpu _

pub open_text : (r : Open) → text_of (open_item r ∷ []) ≡ w_open ++ rest (decimal r.m ∷ decimal r.guest ∷ [])
unfolding line_of fields_of shape
open_text r = line_text (open_item r) ∙ joined_rest w_open _

pub guest_text : (g : ℕ) → text_of (item GuestLine (g ∷ []) ∷ []) ≡ w_guest ++ rest (decimal g ∷ [])
unfolding line_of fields_of shape
guest_text g = line_text (item GuestLine (g ∷ [])) ∙ joined_rest w_guest _

pub task_text_law : (v n p : ℕ) → text_of (item TaskLine (v ∷ n ∷ p ∷ []) ∷ []) ≡ w_task ++ rest (decimal v ∷ decimal n ∷ decimal p ∷ [])
unfolding line_of fields_of shape
task_text_law v n p = line_text (item TaskLine (v ∷ n ∷ p ∷ [])) ∙ joined_rest w_task _

pub run_text_law : (t : ℕ) → text_of (run_item t ∷ []) ≡ w_run ++ rest (decimal t ∷ [])
unfolding line_of fields_of shape
run_text_law t = line_text (run_item t) ∙ joined_rest w_run _

pub lock_text : (m t : ℕ) → text_of (item LockLine (m ∷ t ∷ []) ∷ []) ≡ w_lock ++ rest (decimal m ∷ decimal t ∷ [])
unfolding line_of fields_of shape
lock_text m t = line_text (item LockLine (m ∷ t ∷ [])) ∙ joined_rest w_lock _

-- what follows a mutex's number: `G`, or `L` and its VCPU, by the owner's cell
abbrev pub owner_fields : ℕ → List (List ℕ)
owner_fields zero = w_g ∷ []
owner_fields (suc v) = w_l ∷ decimal (suc v) ∷ []

pub mutex_text : (m o : ℕ) → text_of (owned_item m (owner_of o) ∷ []) ≡ w_mutex ++ rest (decimal m ∷ owner_fields o)
unfolding line_of fields_of shape
mutex_text m zero = line_text (owned_item m (owner_of 0)) ∙ joined_rest w_mutex _
mutex_text m (suc v) = line_text (owned_item m (owner_of (suc v))) ∙ joined_rest w_mutex _

-- a line's first word and number, and the rest
pub word_joins : (w f : List ℕ) (fs : List (List ℕ)) → Joins (w ++ rest (f ∷ fs)) (w ++ tabbed f) (rest fs)
word_joins w f fs = record { is = ap (λ x. w ++ x) (rest_more f fs) ∙ sym (append_assoc w (tabbed f) (rest fs)) }

pub mutex_joins : (m o : ℕ) → Joins (text_of (owned_item m (owner_of o) ∷ [])) (w_mutex ++ tabbed (decimal m)) (rest (owner_fields o))
mutex_joins m o = record { is = mutex_text m o ∙ (word_joins w_mutex (decimal m) (owner_fields o)).is }

-- whose it is: everybody's
pub global_rest : {o : ℕ} → o ≡ 0 → rest (owner_fields o) ≡ 9 ∷ 71 ∷ 10 ∷ []
unfolding rest
global_rest e = rw e

-- or one VCPU's
pub local_joins : (o : ℕ) → (o ≡ 0 → ⊥) → Joins (rest (owner_fields o)) (9 ∷ 76 ∷ []) (rest (decimal o ∷ []))
unfolding rest
local_joins zero h = absurd (h refl)
local_joins (suc v) h = record { is = refl }
