-- From the lines of a plan to its items, part by part, and the items with a mark.
use Rattle.std.specs.Prelude.{ℕ, suc, ◌+◌, ◌≡◌, Bool, true, false, cond, not, eqb, Some}
use Rattle.std.proofs.Math.Path.{refl, ap}
use Rattle.std.proofs.Common.{◌∙◌, length-append}
use mathlib.Core.List.{List, [], ◌∷◌, ◌++◌}
use native.Mathlib.Omega.{arith}
use Rattle.std.proofs.Math.ListN.{length}
use Rattle.std.proofs.lemmas.Bool.{not-true}
use Rattle.laws.specs.Sums.{flat, Each}
use Rattle.laws.specs.Bytes.{pieces}
use Rattle.laws.specs.BytesLaws.{pieces_ended}
use Rattle.plan.specs.Limits.{lf}
use Rattle.plan.specs.declared.Kind.{Kind}
use Rattle.plan.specs.declared.Kind.TheVariants.{VcpuLine, MutexG, MutexL, OpenLine, GuestLine, TaskLine, RunLine, LockLine, EndLine}
use Rattle.plan.specs.Line.{Item, shape, written, line_of}
use Rattle.plan.specs.declared.Policy.{Policy}
use Rattle.plan.specs.declared.Policy.TheVariants.{Periodic, Deferrable}
use Rattle.plan.specs.declared.OverrunChoice.{OverrunChoice}
use Rattle.plan.specs.declared.OverrunChoice.TheVariants.{WithOverrun, WithoutOverrun}
use Rattle.plan.specs.declared.Lock.{Lock}
use Rattle.plan.specs.Plan.{Vcpu, Owner, Global, Local, Mutex, Open, Task, Section, Plan, tasks_of}
use Rattle.plan.specs.Text.{item, policy_kind, vcpu_item, owned_item, open_item, run_item, vcpu_items, mutex_items, open_items, lock_items, task_items, section_items, items_of, lines_of, text_of}
use Rattle.plan.specs.Rules.{Known}
use Rattle.plan.specs.Reading.{Passes, rules}
use Rattle.plan.specs.ListLaws.{append_some}
use Rattle.plan.specs.LineLaws.{item_line}
use Rattle.plan.specs.JudgeLaws.{fault_written, lines_lack}
use Rattle.text_lines.specs.declared.Said.{Said}
use Rattle.text_lines.specs.Said.{said_as, said_of}
use Rattle.text_lines.specs.SaidLaws.{item_is}
use Rattle.read_tally.specs.Tally.{Tally, mark_of, tally_by, tallied}

-- FROM LINES TO ITEMS

-- what an item says
abbrev pub say_of : Item → Said
say_of i = said_as (Some i.kind) i.nums

unfoldable pub tallied_items : Tally → List Item → Tally
tallied_items t [] = t
tallied_items t (i ∷ is) = tallied_items (tally_by t (mark_of i.kind)) is

abbrev pub WrittenItem : Item → Type 0
WrittenItem i = written (shape i.kind) i.nums ≡ true

pub said_line : (i : Item) → WrittenItem i → said_of (line_of i) ≡ say_of i
said_line i w = item_is (line_of i) i (item_line i w)

pub lines_tallied : (t : Tally) (is : List Item) → Each WrittenItem is → tallied t (lines_of is ++ ([] ∷ [])) ≡ tallied_items t is
unfolding tallied tallied_items lines_of
lines_tallied t [] h = refl
lines_tallied t (i ∷ is) h = simp (append_some (lines_of is) [] [], said_line i h.0) (lines_tallied (tally_by t (mark_of i.kind)) is h.1)

pub text_pieces : (is : List Item) → pieces lf (text_of is) ≡ lines_of is ++ ([] ∷ [])
unfolding text_of
text_pieces is = pieces_ended lf (lines_of is) (lines_lack is)

pub passes_written : (t : Known) (is : List Item) → Passes rules t is → Each WrittenItem is
passes_written t [] h = tt
passes_written t (i ∷ is) h = (fault_written rules t i h.0, passes_written (rules.next t i) is h.1)

-- THE ITEMS OF A PLAN, part by part: what holds of the rest, and of one item more, holds with the part before it
module _ (K : List Item → Type 0) (ok : Kind → Bool) (step : (k : Kind) (ns : List ℕ) (is : List Item) → ok k ≡ true → K is → K (item k ns ∷ is)) where
  pub over_vcpus : ok VcpuLine ≡ true → (rs : List Vcpu) (is : List Item) → K is → K (vcpu_items rs is)
  unfolding vcpu_items
  over_vcpus o [] is h = h
  over_vcpus o (r ∷ rs) is h = step VcpuLine (vcpu_item r).nums (vcpu_items rs is) o (over_vcpus o rs is h)

  pub over_mutexes : ok MutexG ≡ true → ok MutexL ≡ true → (rs : List Mutex) (is : List Item) → K is → K (mutex_items rs is)
  unfolding mutex_items
  over_mutexes g l [] is h = h
  over_mutexes g l (r ∷ rs) is h = go r.owner (over_mutexes g l rs is h)
    where
      go : (o : Owner) → K (mutex_items rs is) → K (owned_item r.m o ∷ mutex_items rs is)
      go Global x = step MutexG (r.m ∷ []) (mutex_items rs is) g x
      go (Local v) x = step MutexL (r.m ∷ v ∷ []) (mutex_items rs is) l x

  pub over_opens : ok OpenLine ≡ true → (rs : List Open) (is : List Item) → K is → K (open_items rs is)
  unfolding open_items
  over_opens o [] is h = h
  over_opens o (r ∷ rs) is h = step OpenLine (open_item r).nums (open_items rs is) o (over_opens o rs is h)

  pub over_locks : ok LockLine ≡ true → ok RunLine ≡ true → (rs : List Lock) (is : List Item) → K is → K (lock_items rs is)
  unfolding lock_items
  over_locks o u [] is h = h
  over_locks o u (r ∷ rs) is h =
      step LockLine (r.m ∷ r.ticks ∷ []) (run_item r.after ∷ lock_items rs is) o (step RunLine (r.after ∷ []) (lock_items rs is) u (over_locks o u rs is h))

  module _ (gu : ok GuestLine ≡ true) (ta : ok TaskLine ≡ true) (lo : ok LockLine ≡ true) (ru : ok RunLine ≡ true) where
    over_tasks : (rs : List Task) (is : List Item) → K is → K (task_items rs is)
    unfolding task_items
    over_tasks [] is h = h
    over_tasks (r ∷ rs) is h =
        step TaskLine (r.v ∷ r.n ∷ r.period ∷ []) (run_item r.first ∷ lock_items r.locks (task_items rs is)) ta
        (step RunLine (r.first ∷ []) (lock_items r.locks (task_items rs is)) ru (over_locks lo ru r.locks (task_items rs is) (over_tasks rs is h)))

    pub over_sections : (rs : List Section) (is : List Item) → K is → K (section_items rs is)
    unfolding section_items
    over_sections [] is h = h
    over_sections (r ∷ rs) is h =
        step GuestLine (r.guest ∷ []) (task_items r.tasks (section_items rs is)) gu (over_tasks r.tasks (section_items rs is) (over_sections rs is h))

-- the items from each part on
abbrev pub from_sections : Plan → List Item
from_sections p = section_items p.sections (item EndLine [] ∷ [])

abbrev pub from_opens : Plan → List Item
from_opens p = open_items p.opens (from_sections p)

abbrev pub from_mutexes : Plan → List Item
from_mutexes p = mutex_items p.mutexes (from_opens p)

abbrev pub from_vcpus : Plan → List Item
from_vcpus p = vcpu_items p.vcpus (from_mutexes p)

-- THE ITEMS WITH A MARK
unfoldable pub pick : ℕ → List Item → List Item
pick q [] = []
pick q (i ∷ is) = cond (eqb (mark_of i.kind) q) (i ∷ pick q is) (pick q is)

abbrev other : ℕ → Kind → Bool
other q k = not (eqb (mark_of k) q)

pick_skip : (q : ℕ) (base : List Item) (k : Kind) (ns : List ℕ) (is : List Item) → other q k ≡ true → pick q is ≡ base → pick q (item k ns ∷ is) ≡ base
unfolding pick
pick_skip q base k ns is o h = simp (not-true (eqb (mark_of k) q) o) h

pick_vcpus : (rs : List Vcpu) (is : List Item) → pick 5 (vcpu_items rs is) ≡ vcpu_items rs (pick 5 is)
unfolding pick vcpu_items mark_of
pick_vcpus [] is = refl
pick_vcpus (r ∷ rs) is = ap (λ x. vcpu_item r ∷ x) (pick_vcpus rs is)

pick_mutexes : (rs : List Mutex) (is : List Item) → pick 6 (mutex_items rs is) ≡ mutex_items rs (pick 6 is)
unfolding pick mutex_items mark_of
pick_mutexes [] is = refl
pick_mutexes (r ∷ rs) is = go r.owner (pick_mutexes rs is)
  where
    go :
        (o : Owner) → pick 6 (mutex_items rs is) ≡ mutex_items rs (pick 6 is) →
        pick 6 (owned_item r.m o ∷ mutex_items rs is) ≡ owned_item r.m o ∷ mutex_items rs (pick 6 is)
    go Global e = ap (λ x. owned_item r.m Global ∷ x) e
    go (Local v) e = ap (λ x. owned_item r.m (Local v) ∷ x) e

pick_opens : (rs : List Open) (is : List Item) → pick 7 (open_items rs is) ≡ open_items rs (pick 7 is)
unfolding pick open_items mark_of
pick_opens [] is = refl
pick_opens (r ∷ rs) is = ap (λ x. open_item r ∷ x) (pick_opens rs is)

pick_tasks : (rs : List Task) (is : List Item) → length (pick 8 (task_items rs is)) ≡ length rs + length (pick 8 is)
unfolding pick task_items mark_of
pick_tasks [] is = omega arith
pick_tasks (r ∷ rs) is =
    let e : pick 8 (lock_items r.locks (task_items rs is)) ≡ pick 8 (task_items rs is) =
    over_locks (λ x. pick 8 x ≡ pick 8 (task_items rs is)) (other 8) (pick_skip 8 (pick 8 (task_items rs is))) refl refl r.locks (task_items rs is) refl in
    omega (arith, ap length e, pick_tasks rs is)

pick_sections : (rs : List Section) (is : List Item) → length (pick 8 (section_items rs is)) ≡ length (tasks_of rs) + length (pick 8 is)
unfolding pick section_items mark_of tasks_of flat
pick_sections [] is = omega arith
pick_sections (r ∷ rs) is =
    omega (arith, pick_tasks r.tasks (section_items rs is), pick_sections rs is, length-append r.tasks (flat (λ s. s.tasks) rs))

-- before the VCPUs
pick_head : (q : ℕ) (p : Plan) → eqb 0 q ≡ false → eqb 1 q ≡ false → eqb 2 q ≡ false → eqb 3 q ≡ false → eqb 4 q ≡ false → pick q (items_of p) ≡ pick q (from_vcpus p)
unfolding items_of pick mark_of
pick_head q p a b c d e = simp a (go p.policy p.overrun)
  where
    go :
        (x : Policy) (y : OverrunChoice) →
        cond (eqb (mark_of (policy_kind x y)) q) (item (policy_kind x y) [] ∷ pick q (from_vcpus p)) (pick q (from_vcpus p)) ≡ pick q (from_vcpus p)
    go Periodic WithOverrun = simp b
    go Periodic WithoutOverrun = simp c
    go Deferrable WithOverrun = simp d
    go Deferrable WithoutOverrun = simp e

module _ (p : Plan) where
  pub vcpus_picked : pick 5 (items_of p) ≡ vcpu_items p.vcpus []
  unfolding mark_of pick
  vcpus_picked =
      let K : List Item → Type 0 = λ x. pick 5 x ≡ [] in
      let s = pick_skip 5 [] in
      pick_head 5 p refl refl refl refl refl
      ∙ pick_vcpus p.vcpus (from_mutexes p)
      ∙ ap (vcpu_items p.vcpus)
      (over_mutexes K (other 5) s refl refl p.mutexes (from_opens p)
      (over_opens K (other 5) s refl p.opens (from_sections p)
      (over_sections K (other 5) s refl refl refl refl p.sections (item EndLine [] ∷ []) refl)))

  pub mutexes_picked : pick 6 (items_of p) ≡ mutex_items p.mutexes []
  unfolding mark_of pick
  mutexes_picked =
      let K : List Item → Type 0 = λ x. pick 6 x ≡ [] in
      let s = pick_skip 6 [] in
      pick_head 6 p refl refl refl refl refl
      ∙ over_vcpus (λ x. pick 6 x ≡ pick 6 (from_mutexes p)) (other 6) (pick_skip 6 (pick 6 (from_mutexes p))) refl p.vcpus (from_mutexes p) refl
      ∙ pick_mutexes p.mutexes (from_opens p)
      ∙ ap (mutex_items p.mutexes)
      (over_opens K (other 6) s refl p.opens (from_sections p)
      (over_sections K (other 6) s refl refl refl refl p.sections (item EndLine [] ∷ []) refl))

  pub opens_picked : pick 7 (items_of p) ≡ open_items p.opens []
  unfolding mark_of pick
  opens_picked =
      let K : List Item → Type 0 = λ x. pick 7 x ≡ pick 7 (from_opens p) in
      let s = pick_skip 7 (pick 7 (from_opens p)) in
      pick_head 7 p refl refl refl refl refl
      ∙ over_vcpus K (other 7) s refl p.vcpus (from_mutexes p) (over_mutexes K (other 7) s refl refl p.mutexes (from_opens p) refl)
      ∙ pick_opens p.opens (from_sections p)
      ∙ ap (open_items p.opens)
      (over_sections (λ x. pick 7 x ≡ []) (other 7) (pick_skip 7 []) refl refl refl refl p.sections (item EndLine [] ∷ []) refl)

  pub tasks_picked : length (pick 8 (items_of p)) ≡ length (tasks_of p.sections)
  unfolding mark_of pick
  tasks_picked =
      let K : List Item → Type 0 = λ x. pick 8 x ≡ pick 8 (from_sections p) in
      let s = pick_skip 8 (pick 8 (from_sections p)) in
      ap length
      (pick_head 8 p refl refl refl refl refl
      ∙ over_vcpus K (other 8) s refl p.vcpus (from_mutexes p)
      (over_mutexes K (other 8) s refl refl p.mutexes (from_opens p) (over_opens K (other 8) s refl p.opens (from_sections p) refl)))
      ∙ pick_sections p.sections (item EndLine [] ∷ [])
      ∙ omega arith

-- as many items as rows
pub vcpus_long : (rs : List Vcpu) → length (vcpu_items rs []) ≡ length rs
unfolding vcpu_items
vcpus_long [] = refl
vcpus_long (r ∷ rs) = ap suc (vcpus_long rs)

pub mutexes_long : (rs : List Mutex) → length (mutex_items rs []) ≡ length rs
unfolding mutex_items
mutexes_long [] = refl
mutexes_long (r ∷ rs) = ap suc (mutexes_long rs)

pub opens_long : (rs : List Open) → length (open_items rs []) ≡ length rs
unfolding open_items
opens_long [] = refl
opens_long (r ∷ rs) = ap suc (opens_long rs)
