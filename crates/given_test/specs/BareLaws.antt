-- No line before the tasks begins a section or counts a task.
use Rattle.std.specs.Prelude.{ℕ, zero, suc, ◌≡◌, refl, List, [], ◌∷◌}
use Rattle.std.proofs.Common.{arith}
use Rattle.plan.specs.declared.Policy.{Policy}
use Rattle.plan.specs.declared.Policy.TheVariants.{Periodic, Deferrable}
use Rattle.plan.specs.declared.OverrunChoice.{OverrunChoice}
use Rattle.plan.specs.declared.OverrunChoice.TheVariants.{WithOverrun, WithoutOverrun}
use Rattle.plan.specs.declared.Kind.TheVariants.{PlanLine}
use Rattle.plan.specs.Line.{Item}
use Rattle.plan.specs.Plan.{Owner, Global, Local}
use Rattle.plan.specs.Rules.{phase}
use Rattle.plan.specs.Text.{item, policy_kind, owned_item}
use Rattle.judge_coded.specs.Coded.{placed, seen_by, after_vcpu, after_mutex, after_open}
use Rattle.plan_tables.specs.declared.PlanRecord.{PlanRecord}
use Rattle.plan_tables.specs.Layout.{mutex_row}
use Rattle.given_test.specs.Feed.{Run, fresh, feed, feeds, Bare, lined, vcpu_lines, mutex_lines, open_lines}
use Rattle.given_test.specs.FeedLaws.{feeds_append}
use Rattle.given_test.specs.Tests.{front_items}

-- rows of such lines
bare_rows : (f : ℕ → List Item) → ((r : Run) (i : ℕ) → Bare r → Bare (feeds r (f i))) → (r : Run) (n : ℕ) → Bare r → Bare (feeds r (lined n f))
unfolding lined
bare_rows f k r zero h = unfold feeds in h
bare_rows f k r (suc n) h = rw (feeds_append r (lined n f) (f n)) (k (feeds r (lined n f)) n (bare_rows f k r n h))

bare_vcpu : (t : List ℕ) (r : Run) (i : ℕ) → Bare r → Bare (feeds r (vcpu_lines t i))
unfolding feeds feed vcpu_lines seen_by after_vcpu phase
bare_vcpu t r i h = record { guest = h.guest; tasks = h.tasks; early = omega arith }

bare_owned : (r : Run) (m : ℕ) (o : Owner) → Bare r → Bare (feeds r (owned_item m o ∷ []))
unfolding feeds feed seen_by after_mutex phase
bare_owned r m Global h = record { guest = h.guest; tasks = h.tasks; early = omega arith }
bare_owned r m (Local v) h = record { guest = h.guest; tasks = h.tasks; early = omega arith }

bare_mutex : (t : List ℕ) (r : Run) (i : ℕ) → Bare r → Bare (feeds r (mutex_lines t i))
unfolding mutex_lines
bare_mutex t r i h = bare_owned r (mutex_row t i).m (mutex_row t i).owner h

bare_open : (t : List ℕ) (r : Run) (i : ℕ) → Bare r → Bare (feeds r (open_lines t i))
unfolding feeds feed open_lines seen_by after_open phase
bare_open t r i h = record { guest = h.guest; tasks = h.tasks; early = omega arith }

bare_policy : (p : Policy) (o : OverrunChoice) (r : Run) → Bare r → Bare (feeds r (item (policy_kind p o) [] ∷ []))
unfolding feeds feed seen_by placed phase
bare_policy Periodic WithOverrun r h = record { guest = h.guest; tasks = h.tasks; early = omega arith }
bare_policy Periodic WithoutOverrun r h = record { guest = h.guest; tasks = h.tasks; early = omega arith }
bare_policy Deferrable WithOverrun r h = record { guest = h.guest; tasks = h.tasks; early = omega arith }
bare_policy Deferrable WithoutOverrun r h = record { guest = h.guest; tasks = h.tasks; early = omega arith }

-- the lines before the tasks, part by part
pub front_bare : (r : PlanRecord) {a : Run} → a ≡ feeds fresh (front_items r []) → Bare a
unfolding feeds feed seen_by placed phase
front_bare r e =
    rw e
    (bare_policy r.policy r.overrun (feed fresh (item PlanLine [])) (record { guest = refl; tasks = refl; early = omega arith }))

module _ (t : List ℕ) (n : ℕ) {a b : Run} where
  pub vcpus_bare : b ≡ feeds a (lined n (vcpu_lines t)) → Bare a → Bare b
  vcpus_bare e h = rw e (bare_rows (vcpu_lines t) (bare_vcpu t) a n h)

  pub mutexes_bare : b ≡ feeds a (lined n (mutex_lines t)) → Bare a → Bare b
  mutexes_bare e h = rw e (bare_rows (mutex_lines t) (bare_mutex t) a n h)

  pub opens_bare : b ≡ feeds a (lined n (open_lines t)) → Bare a → Bare b
  opens_bare e h = rw e (bare_rows (open_lines t) (bare_open t) a n h)
