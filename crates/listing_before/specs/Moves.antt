-- REQUEST (iii): "show that no row that failed before now fits". What `verdict` prints beside what it printed: one frame with the same lines of VCPUs and waits; a task's line moves only where a section below it has its n
-- for a ceiling, and never from late to fits; the last line never from late to fits.
use Rattle.std.specs.Prelude.{◌≡◌, false, ◌↔◌, ◌⊎◌}
use mathlib.Core.List.{Memᴰ}
use Rattle.plan.specs.Plan.{Task}
use Rattle.figures.specs.System.{System}
use Rattle.figures.specs.declared.TaskAnswer.TheVariants.{NoWait, Held}
use Rattle.figures.specs.Answers.{task_fits, task_answer, all_fit}
use Rattle.listing.specs.Listing.{task_line, all_line, listing}
use Rattle.listing_before.specs.Former.{former_answer, former_fit, frame, former_task_line, former_all_line, former_listing, EqualBelow}
use Rattle.listing_before.specs.NoLater.{TaskNoLater}

pub record NoneNowFits (p : System) : Type 0 where
  -- VCPU and wait rows are the same, since no equation of theirs reads a ceiling: both listings are one frame with their lines, around the lines of tasks and the last one
  pub framed : listing p ≡ frame p (task_line p) (all_line p)
  pub framed_before : former_listing p ≡ frame p (former_task_line p) (former_all_line p)
  -- a task that fits now with w fitted before with v ≤ w
  pub fitted : (k : Task) → TaskNoLater (task_answer p k) (former_answer p k)
  -- one that failed before fails now
  pub fails : (k : Task) → task_fits (former_answer p k) ≡ false → task_fits (task_answer p k) ≡ false
  -- `nowait` and `held` are said of the tasks they were said of
  pub nowait : (k : Task) → (task_answer p k ≡ NoWait) ↔ (former_answer p k ≡ NoWait)
  pub held : (k : Task) → (task_answer p k ≡ Held) ↔ (former_answer p k ≡ Held)
  -- a row moves only where a lower task of the VCPU has a local section whose ceiling is exactly n
  pub moves : (k : Task) → (task_answer p k ≡ former_answer p k) ⊎ EqualBelow p k
  -- `all late` stays
  pub last : former_fit p ≡ false → all_fit p ≡ false
  -- and where no task has such a section below it, all that is printed is what was printed
  pub same : ((k : Task) → Memᴰ k p.tasks → ¬ EqualBelow p k) → listing p ≡ former_listing p
