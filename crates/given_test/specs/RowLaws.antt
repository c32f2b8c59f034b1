-- What the judge is fed of a row, from its cells.
use Rattle.std.specs.Prelude.{ℕ, zero, suc, ◌≡◌, refl, List, []}
use Rattle.std.proofs.Common.{ap, ◌∙◌}
use Rattle.plan.specs.declared.Kind.{Kind}
use Rattle.plan.specs.declared.Kind.TheVariants.{PlanLine, MutexL}
use Rattle.plan.specs.Line.{shape, size, nums_of}
use Rattle.plan.specs.declared.Policy.{Policy}
use Rattle.plan.specs.declared.Policy.TheVariants.{Periodic, Deferrable}
use Rattle.plan.specs.declared.OverrunChoice.{OverrunChoice}
use Rattle.plan.specs.declared.OverrunChoice.TheVariants.{WithOverrun, WithoutOverrun}
use Rattle.plan.specs.Text.{policy_kind, owned_item}
use Rattle.plan.specs.Text as text
use Rattle.judge_coded.specs.Coded.{item}
use Rattle.plan_tables.specs.declared.PlanRecord.{PlanRecord}
use Rattle.plan_tables.specs.Layout.{mutex_width, cell, owner_of, mutex_row}
use Rattle.given_test.specs.Feed.{Run, fresh, feed, feeds, owner_kind, mutex_lines}
use Rattle.given_test.specs.Tests.{front_items}

-- an owner that is not 0
pub owner_some : (o : ℕ) → (o ≡ 0 → ⊥) → MutexL ≡ owner_kind o
owner_some zero h = absurd (h refl)
owner_some (suc v) h = refl

owner_item : (m o : ℕ) → item (owner_kind o) m o 0 0 0 ≡ owned_item m (owner_of o)
unfolding nums_of size shape
owner_item m zero = refl
owner_item m (suc v) = refl

-- a mutex
pub mutex_fed :
    (run : Run) (t : List ℕ) (i : ℕ) {m o : ℕ} {k : Kind} {r : Run} → m ≡ cell t mutex_width i 0 → o ≡ cell t mutex_width i 1 → k ≡ owner_kind o →
    r ≡ feed run (item k m o 0 0 0) → r ≡ feeds run (mutex_lines t i)
unfolding feeds mutex_lines mutex_row
mutex_fed run t i a b c h = rw (h, c, b, a) (ap (feed run) (owner_item (cell t mutex_width i 0) (cell t mutex_width i 1)))

policy_item : (p : Policy) (o : OverrunChoice) → item (policy_kind p o) 0 0 0 0 0 ≡ text.item (policy_kind p o) []
unfolding nums_of size shape
policy_item Periodic WithOverrun = refl
policy_item Periodic WithoutOverrun = refl
policy_item Deferrable WithOverrun = refl
policy_item Deferrable WithoutOverrun = refl

-- the first two lines
pub front_fed :
    (r : PlanRecord) {k : Kind} {a b s : Run} → k ≡ policy_kind r.policy r.overrun → a ≡ fresh → b ≡ feed a (item PlanLine 0 0 0 0 0) →
    s ≡ feed b (item k 0 0 0 0 0) → s ≡ feeds fresh (front_items r [])
unfolding feeds nums_of size shape
front_fed r {b = b} e f g h =
    h ∙ ap (λ x. feed b (item x 0 0 0 0 0)) e ∙ ap (feed b) (policy_item r.policy r.overrun)
    ∙ ap (λ x. feed x (text.item (policy_kind r.policy r.overrun) [])) (g ∙ ap (λ x. feed x (text.item PlanLine [])) f)
