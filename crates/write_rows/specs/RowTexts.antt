-- What a row's lines are, from its cells; and the loops over rows.
use Rattle.std.specs.Prelude.{ℕ, zero, suc, ◌+◌, ◌*◌, ◌≤◌, ◌<◌, ◌≡◌, refl, List, [], ◌∷◌, ◌++◌, Bool, true, false, leb, length}
use Rattle.std.proofs.Common.{ap, sym, ◌∙◌, le_antisymm, arith, leb-true, leb-false, length-append}
use Rattle.std.proofs.Math.Numerals.{add-one}
use Rattle.laws.specs.Decimal.{decimal}
use Rattle.plan.specs.declared.Kind.TheVariants.{TaskLine, LockLine}
use Rattle.plan.specs.Line.{Item, w_vcpu, w_open, w_guest, w_task, w_run, w_lock}
use Rattle.plan.specs.Plan.{Vcpu}
use Rattle.plan.specs.Text.{item, owned_item, run_item, text_of}
use Rattle.plan_tables.specs.Layout.{vcpu_width, mutex_width, open_width, task_width, lock_width, first_lock, cell, owner_of, vcpu_row, mutex_row, open_row, lock_row}
use Rattle.given_tidy.specs.Hosts.{host_of, begins}
use Rattle.given_test.specs.Feed.{lined, vcpu_lines, mutex_lines, open_lines, lock_lines, guest_line, head_lines, task_lines}
use Rattle.text_letters.specs.Wrote.{Joins}
use Rattle.text_letters.specs.WroteLaws.{joins}
use Rattle.text_letters.specs.Tabbed.{rest}
use Rattle.text_told.specs.Told.{Space, Told}
use Rattle.text_told.proofs.ToldLaws.{told_nothing, space_less, space_then, told_then, told_room, told_as}
use Rattle.write_lines.specs.Texts.{text_append, text_none, vcpu_text_law, open_text, guest_text, task_text_law, run_text_law, lock_text}
use Rattle.write_rows.specs.Rows.{Rows, Vcpus, Mutexes, Opens, row_lines, task_told, ToldRows}

-- ROWS OF ONE LINE, by what is told
pub vcpu_row_law :
    (t : List ℕ) (i : ℕ) {w : Rows} {v g c b p : ℕ} → w ≡ Vcpus →
    v ≡ cell t vcpu_width i 0 → g ≡ cell t vcpu_width i 1 → c ≡ cell t vcpu_width i 2 → b ≡ cell t vcpu_width i 3 → p ≡ cell t vcpu_width i 4 →
    text_of (row_lines w t i) ≡ w_vcpu ++ rest (decimal v ∷ decimal g ∷ decimal c ∷ decimal b ∷ decimal p ∷ [])
unfolding vcpu_lines vcpu_row
vcpu_row_law t i e f g h k l = rw (e, f, g, h, k, l) (vcpu_text_law (vcpu_row t i))

pub mutex_row_law :
    (t : List ℕ) (i : ℕ) {w : Rows} {m o : ℕ} → w ≡ Mutexes → m ≡ cell t mutex_width i 0 → o ≡ cell t mutex_width i 1 →
    text_of (row_lines w t i) ≡ text_of (owned_item m (owner_of o) ∷ [])
unfolding mutex_lines mutex_row
mutex_row_law t i e f g = rw (e, f, g)

pub open_row_law :
    (t : List ℕ) (i : ℕ) {w : Rows} {m g : ℕ} → w ≡ Opens → m ≡ cell t open_width i 0 → g ≡ cell t open_width i 1 →
    text_of (row_lines w t i) ≡ w_open ++ rest (decimal m ∷ decimal g ∷ [])
unfolding open_lines open_row
open_row_law t i e f g = rw (e, f, g) (open_text (open_row t i))

-- LOCKS AND TASKS
pub lock_lines_law :
    (t : List ℕ) (i j : ℕ) {m x a : ℕ} → m ≡ cell t task_width i (first_lock + (j * lock_width + 0)) → x ≡ cell t task_width i (first_lock + (j * lock_width + 1)) →
    a ≡ cell t task_width i (first_lock + (j * lock_width + 2)) →
    Joins (text_of (lock_lines t i j)) (w_lock ++ rest (decimal m ∷ decimal x ∷ [])) (w_run ++ rest (decimal a ∷ []))
unfolding lock_lines lock_row
lock_lines_law t i j {m} {x} {a} e f g =
    rw (sym e, sym f, sym g)
    (record { is = text_append (item LockLine (m ∷ x ∷ []) ∷ []) (run_item a ∷ []) ∙ rw (lock_text m x, run_text_law a) })

pub guest_lines : {b : Bool} (g : ℕ) → b ≡ true → text_of (guest_line b g []) ≡ w_guest ++ rest (decimal g ∷ [])
guest_lines g e = rw e (guest_text g)

pub guest_none : {b : Bool} (g : ℕ) → b ≡ false → text_of (guest_line b g []) ≡ []
guest_none g e = rw e text_none

pub head_lines_law :
    (t : List ℕ) (i : ℕ) {v n p a : ℕ} → v ≡ cell t task_width i 0 → n ≡ cell t task_width i 1 → p ≡ cell t task_width i 2 → a ≡ cell t task_width i 3 →
    Joins (text_of (head_lines t i [])) (w_task ++ rest (decimal v ∷ decimal n ∷ decimal p ∷ [])) (w_run ++ rest (decimal a ∷ []))
head_lines_law t i {v} {n} {p} {a} e f g h =
    rw (sym e, sym f, sym g, sym h)
    (record { is = text_append (item TaskLine (v ∷ n ∷ p ∷ []) ∷ []) (run_item a ∷ []) ∙ rw (task_text_law v n p, run_text_law a) })

guest_front : (b : Bool) (g : ℕ) (is : List Item) → guest_line b g is ≡ guest_line b g [] ++ is
guest_front true g is = refl
guest_front false g is = refl

pub task_lines_law :
    (b : Bool) (g : ℕ) (t : List ℕ) (i : ℕ) {c : ℕ} → c ≡ cell t task_width i 4 →
    Joins (text_of (task_told b g t i)) (text_of (guest_line b g [])) (text_of (head_lines t i []) ++ text_of (lined c (lock_lines t i)))
task_lines_law b g t i {c} h =
    rw (sym h)
    (record {
      is =
          ap text_of (guest_front b g (head_lines t i (lined c (lock_lines t i))))
          ∙ text_append (guest_line b g []) (head_lines t i (lined c (lock_lines t i)))
          ∙ ap (λ x. text_of (guest_line b g []) ++ x) (text_append (head_lines t i []) (lined c (lock_lines t i)));
    })

-- a task's lines, from its guest and that of the section before it
pub task_told_law :
    (vs : List Vcpu) (t : List ℕ) (i : ℕ) {b : Bool} {g : ℕ} → b ≡ begins vs t i → g ≡ host_of vs t i → text_of (task_lines vs t i) ≡ text_of (task_told b g t i)
unfolding task_lines
task_told_law vs t i e f = rw (e, f)

-- A LOOP OVER ROWS: before the first row, one row more, after the last
module _ (f : ℕ → List Item) where
  rows_more : (i : ℕ) → text_of (lined (i + 1) f) ≡ text_of (lined i f) ++ text_of (f i)
  unfolding lined
  rows_more i = rw add-one (text_append (lined i f) (f i))

  -- the first rows are no longer than all
  rows_long : (i c : ℕ) → i ≤ c → length (text_of (lined i f)) ≤ length (text_of (lined c f))
  rows_long i zero h = let e : i ≡ 0 = omega arith in rw e (omega arith)
  rows_long i (suc c) h = go (leb i c) refl (λ k. rows_long i c k)
    where
      go : (b : Bool) → leb i c ≡ b → (i ≤ c → length (text_of (lined i f)) ≤ length (text_of (lined c f))) → length (text_of (lined i f)) ≤ length (text_of (lined (suc c) f))
      go true e k = omega (arith, k (leb-true i c e), ap length (rw add-one at (rows_more c)), length-append (text_of (lined c f)) (text_of (f c)))
      go false e k = let m : i ≡ suc c = let l = leb-false i c e in omega arith in rw m (omega arith)

module _ {on : Bool} {f : ℕ → List Item} {c : ℕ} {o : List ℕ} {n : ℕ} where
  pub told_no_rows : ToldRows on f c o o n n 0
  unfolding lined
  told_no_rows = record { within = omega arith; told = told_as text_none (told_nothing on o n) }

  module _ {p : List ℕ} {k i : ℕ} (h : ToldRows on f c o p n k i) where
    module _ (l : i < c) (s : Space on (text_of (lined c f)) o n) where
      space_both : Space on (text_of (lined i f) ++ text_of (f i)) o n
      space_both = space_less (rw (rows_more f i) at (rows_long f (i + 1) c (omega arith))) s

      pub space_row : Space on (text_of (f i)) p k
      space_row = space_then (joins (text_of (lined i f)) (text_of (f i))) space_both h.told

      pub told_row : {q : List ℕ} {r : ℕ} → Told on (text_of (f i)) p q k r → ToldRows on f c o q n r (i + 1)
      told_row t = record {
        within = omega arith;
        told = told_as (rows_more f i) (told_then (joins (text_of (lined i f)) (text_of (f i))) space_both h.told t);
      }

    -- the buffer keeps its length
    pub rows_length : Space on (text_of (lined c f)) o n → length p ≡ length o
    rows_length s = told_room (space_less (rows_long f i c h.within) s) h.told

    pub told_rows : c ≤ i → Told on (text_of (lined c f)) o p n k
    told_rows l = rw (le_antisymm l h.within) h.told
