-- `records_read::read_in` meets its contract.
use Prim.Native.Nat.{ℕ, ◌*◌}
use mathlib.Core.Path.{◌≡◌, ap, sym, ◌∙◌}
use mathlib.Core.List.{◌++◌}
use native.Mathlib.Omega.{arith}
use lib.ListN.{take, drop}
use lib.Seq.{length-take-le}
use Rattle.plan_tables.specs.Layout.{Tables, lent, task_width}
use Rattle.read_answer.specs.Into.{plan_answer, tables_after}
use Rattle.records_read.specs.After.{nums_for}
use Rattle.records_read.proofs.read_in.Goals as goal

pub slice_bounds-read_plan-end-2 : goal.slice_bounds-read_plan-end-2
slice_bounds-read_plan-end-2 c =
    let p = c.requires in
    let w = c.width-k.ensures in
    let f = c.few.ensures in
    sym (length-take-le _ _ (omega arith))

pub returns : goal.returns
returns c =
    let a = c.args in
    let s = a.src.now in
    let t : ℕ → Tables = λ k. lent a.vt.now a.mt.now a.ot.now (take k a.rows.now) in
    let r = c.read_plan.ensures in
    let k : ℕ = c.width-k.result in
    let w : k ≡ nums_for a.n = c.width-k.ensures ∙ ap (λ m. m * task_width) c.few.ensures in (
      r.value ∙ ap (λ m. plan_answer s (t m)) w,
      (
        r.vt_after ∙ ap (λ m. (tables_after s (t m)).vcpus) w,
        (
          r.mt_after ∙ ap (λ m. (tables_after s (t m)).mutexes) w,
          (
            r.ot_after ∙ ap (λ m. (tables_after s (t m)).opens) w,
            ap (λ u. u ++ drop k a.rows.now) r.kt_after ∙ ap (λ m. (tables_after s (t m)).tasks ++ drop m a.rows.now) w,
          ),
        ),
      ),
    )
