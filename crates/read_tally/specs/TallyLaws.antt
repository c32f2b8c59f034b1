-- What the items of a plan tally, and the lines of a valid plan's text: its record.
use Rattle.std.specs.Prelude.{ℕ, zero, suc, ◌+◌, ◌≤◌, ◌<◌, ◌≡◌, Bool, true, false, cond, eqb, ltb, length}
use Rattle.std.proofs.Math.Path.{refl}
use Rattle.std.proofs.Common.{ap, ◌∙◌, lt-ltb, ne_eqb}
use mathlib.Core.List.{List, [], ◌∷◌}
use Rattle.std.proofs.lemmas.Bool.{false≢true}
use native.Mathlib.Omega.{arith}
use Rattle.laws.specs.Sums.{Each}
use Rattle.laws.specs.Bytes.{pieces}
use Rattle.plan.specs.Limits.{lf}
use Rattle.plan.specs.declared.Kind.{Kind}
use Rattle.plan.specs.declared.Kind.TheVariants.{EndLine}
use Rattle.plan.specs.Line.{Item}
use Rattle.plan.specs.declared.Policy.{Policy}
use Rattle.plan.specs.declared.Policy.TheVariants.{Periodic, Deferrable}
use Rattle.plan.specs.declared.OverrunChoice.{OverrunChoice}
use Rattle.plan.specs.declared.OverrunChoice.TheVariants.{WithOverrun, WithoutOverrun}
use Rattle.plan.specs.Plan.{Plan, tasks_of}
use Rattle.plan.specs.Text.{item, policy_kind, items_of, text}
use Rattle.plan.specs.Rules.{start}
use Rattle.plan.specs.Valid.{Valid}
use Rattle.plan.proofs.ValidLaws.{valid_passes}
use Rattle.plan_tables.specs.Layout.{record_of}
use Rattle.plan_tables.proofs.Sound.{valid_vcpus, valid_mutexes, valid_opens}
use Rattle.plan_tables.specs.RowPlaces.{most}
use Rattle.read_tally.specs.Tally.{Tally, mark_of, bumped, policy_by, overrun_by, tally_by, tallied, blank, record_in}
use Rattle.read_tally.specs.ItemLaws.{tallied_items, WrittenItem, lines_tallied, text_pieces, passes_written, over_vcpus, over_mutexes, over_opens, over_sections, from_sections, from_opens, from_mutexes, from_vcpus, pick, vcpus_picked, mutexes_picked, opens_picked, tasks_picked, vcpus_long, mutexes_long, opens_long}

-- THE TALLY OF ITEMS

pub bumped_more : (n : ℕ) → n < most → bumped true n ≡ n + 1
unfolding bumped
bumped_more n h = simp (lt-ltb n most h)

module _ (q : ℕ) (get : Tally → ℕ) (moves : (t : Tally) (m : ℕ) → get (tally_by t m) ≡ bumped (eqb m q) (get t)) where
  counted : (is : List Item) (t : Tally) → get t + length (pick q is) ≤ most → get (tallied_items t is) ≡ get t + length (pick q is)
  unfolding tallied_items pick
  counted [] t h = omega arith
  counted (i ∷ is) t h = go (eqb (mark_of i.kind) q) (moves t (mark_of i.kind)) (counted is u) h
    where
      u : Tally
      u = tally_by t (mark_of i.kind)

      go :
          (b : Bool) → get u ≡ bumped b (get t) →
          (get u + length (pick q is) ≤ most → get (tallied_items u is) ≡ get u + length (pick q is)) →
          get t + length (cond b (i ∷ pick q is) (pick q is)) ≤ most →
          get (tallied_items u is) ≡ get t + length (cond b (i ∷ pick q is) (pick q is))
      go true e ih h = let f : get u ≡ get t + 1 = e ∙ bumped_more (get t) (omega arith) in omega (arith, f, ih (omega (arith, f)))
      go false e ih h = let f : get u ≡ get t = e ∙ unfold bumped in refl in omega (arith, f, ih (omega (arith, f)))

-- only a policy's line changes the policy and the overrun choice
abbrev Kept : List Item → Type 0
Kept is = (t : Tally) → ((tallied_items t is).policy ≡ t.policy) × ((tallied_items t is).overrun ≡ t.overrun)

abbrev row_kind : Kind → Bool
row_kind k = cond (eqb (mark_of k) 0) true (ltb 4 (mark_of k))

by_plain : (m : ℕ) (p : Policy) (o : OverrunChoice) → cond (eqb m 0) true (ltb 4 m) ≡ true → (policy_by m p ≡ p) × (overrun_by m o ≡ o)
unfolding policy_by overrun_by
by_plain zero p o h = (refl, refl)
by_plain (suc zero) p o h = absurd (false≢true h)
by_plain (suc (suc zero)) p o h = absurd (false≢true h)
by_plain (suc (suc (suc zero))) p o h = absurd (false≢true h)
by_plain (suc (suc (suc (suc zero)))) p o h = absurd (false≢true h)
by_plain (suc (suc (suc (suc (suc m))))) p o h =
    let a = ne_eqb (suc (suc (suc (suc (suc m))))) 1 (λ e. omega arith) in
    let b = ne_eqb (suc (suc (suc (suc (suc m))))) 2 (λ e. omega arith) in
    let c = ne_eqb (suc (suc (suc (suc (suc m))))) 3 (λ e. omega arith) in
    let d = ne_eqb (suc (suc (suc (suc (suc m))))) 4 (λ e. omega arith) in
    (simp (a, b, c, d), simp (a, b, c, d))

kept_step : (k : Kind) (ns : List ℕ) (is : List Item) → row_kind k ≡ true → Kept is → Kept (item k ns ∷ is)
unfolding tallied_items tally_by
kept_step k ns is o h t =
    let e = h (tally_by t (mark_of k)) in
    let b = by_plain (mark_of k) t.policy t.overrun o in
    (e.0 ∙ b.0, e.1 ∙ b.1)

policy_first : (x : Policy) (y : OverrunChoice) (t : Tally) → ((tally_by t (mark_of (policy_kind x y))).policy ≡ x) × ((tally_by t (mark_of (policy_kind x y))).overrun ≡ y)
unfolding tally_by mark_of policy_by overrun_by
policy_first Periodic WithOverrun t = (refl, refl)
policy_first Periodic WithoutOverrun t = (refl, refl)
policy_first Deferrable WithOverrun t = (refl, refl)
policy_first Deferrable WithoutOverrun t = (refl, refl)

module _ (p : Plan) (t : Tally) where
  policies : ((tallied_items t (items_of p)).policy ≡ p.policy) × ((tallied_items t (items_of p)).overrun ≡ p.overrun)
  unfolding items_of tallied_items mark_of tally_by policy_by overrun_by
  policies =
      let k : Kept (from_vcpus p) =
      over_vcpus Kept row_kind kept_step refl p.vcpus (from_mutexes p)
      (over_mutexes Kept row_kind kept_step refl refl p.mutexes (from_opens p)
      (over_opens Kept row_kind kept_step refl p.opens (from_sections p)
      (over_sections Kept row_kind kept_step refl refl refl refl p.sections (item EndLine [] ∷ []) (λ t. (refl, refl))))) in
      let u : Tally = tally_by t 0 in
      let e = k (tally_by u (mark_of (policy_kind p.policy p.overrun))) in
      let f = policy_first p.policy p.overrun u in
      (e.0 ∙ f.0, e.1 ∙ f.1)

-- no table has more rows than are counted
pub record Countable (p : Plan) : Type 0 where
  pub vcpus : length p.vcpus ≤ most
  pub mutexes : length p.mutexes ≤ most
  pub opens : length p.opens ≤ most
  pub tasks : length (tasks_of p.sections) ≤ most

-- WHAT A PLAN'S ITEMS TALLY IS ITS RECORD
pub items_record : (p : Plan) → Countable p → record_in (tallied_items blank (items_of p)) ≡ record_of p
unfolding record_of tally_by
items_record p h =
    let v : length (pick 5 (items_of p)) ≡ length p.vcpus = ap length (vcpus_picked p) ∙ vcpus_long p.vcpus in
    let m : length (pick 6 (items_of p)) ≡ length p.mutexes = ap length (mutexes_picked p) ∙ mutexes_long p.mutexes in
    let o : length (pick 7 (items_of p)) ≡ length p.opens = ap length (opens_picked p) ∙ opens_long p.opens in
    let k : length (pick 8 (items_of p)) ≡ length (tasks_of p.sections) = tasks_picked p in
    let is : List Item = items_of p in
    let a : (tallied_items blank is).vcpus ≡ length p.vcpus =
    counted 5 (λ t. t.vcpus) (λ t m. refl) is blank (omega (arith, v, h.vcpus)) ∙ omega (arith, v) in
    let b : (tallied_items blank is).mutexes ≡ length p.mutexes =
    counted 6 (λ t. t.mutexes) (λ t m. refl) is blank (omega (arith, m, h.mutexes)) ∙ omega (arith, m) in
    let c : (tallied_items blank is).opens ≡ length p.opens =
    counted 7 (λ t. t.opens) (λ t m. refl) is blank (omega (arith, o, h.opens)) ∙ omega (arith, o) in
    let d : (tallied_items blank is).tasks ≡ length (tasks_of p.sections) =
    counted 8 (λ t. t.tasks) (λ t m. refl) is blank (omega (arith, k, h.tasks)) ∙ omega (arith, k) in
    let e = policies p blank in
    λ i. record { policy = e.0 i; overrun = e.1 i; vcpus = a i; mutexes = b i; opens = c i; tasks = d i }

-- THE LINES OF A VALID PLAN'S TEXT TALLY ITS RECORD
module _ (p : Plan) (h : Valid p) where
  pub countable : Countable p
  countable =
      record {
        vcpus = omega (arith, valid_vcpus h);
        mutexes = omega (arith, valid_mutexes h);
        opens = omega (arith, valid_opens h);
        tasks = omega (arith, h.few_tasks);
      }

  pub items_written : Each WrittenItem (items_of p)
  items_written = passes_written start (items_of p) (valid_passes p h)

  pub text_record : record_in (tallied blank (pieces lf (text p))) ≡ record_of p
  text_record = ap (λ l. record_in (tallied blank l)) (text_pieces (items_of p)) ∙ ap record_in (lines_tallied blank (items_of p) items_written) ∙ items_record p countable
