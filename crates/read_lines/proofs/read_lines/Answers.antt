-- `read_lines::read_lines` meets its contract.
use Rattle.std.specs.Prelude.{◌≡◌, true, is_ok, Err}
use mathlib.Core.Path.{refl, sym, ap, ◌∙◌}
use native.Mathlib.Omega.{arith}
use borrow.Author.Tests.{not-true, not-false}
use Rattle.plan.specs.Refusals.{Fault}
use Rattle.read_fill.specs.Fill.{vcpu_put, mutex_put, open_put, task_put}
use Rattle.read_answer.specs.LoopLaws.{read_fits, read_few, read_end, read_bad, read_next, left_end, left_bad, left_next}
use Rattle.read_lines.proofs.read_lines.Goals as goal

pub loop-r-init : goal.loop-r-init
loop-r-init c =
    let e = c.start-t.ensures in
    let f = c.blank-c.ensures in
    (omega arith, omega arith, refl, refl, refl, refl, rw (e, f) refl, rw (e, f) refl, rw (e, f) refl, rw (e, f) refl, rw (e, f) refl)

pub read_line-r-requires : goal.read_line-r-requires
read_line-r-requires c = let l = c.loop-r in omega (arith, l.invariant.0, l.invariant.1)

pub returns-then-not-l : goal.returns-then-not-l
returns-then-not-l c =
    let s = c.args.src.now in
    let l = c.loop-r in
    let x = c.read_line-r in
    let h = not-true x.result.line.ended c.if-not-l.true in
    let y = c.ready in
    let z = c.finish in record { value = read_end s l.at l.n x.result x.ensures l.t l.c y.result z.result h y.ensures z.ensures ∙ sym l.invariant.6; vt_after = left_end s l.at l.n x.result x.ensures l.t l.c vcpu_put l.vt h ∙ sym l.invariant.7; mt_after = left_end s l.at l.n x.result x.ensures l.t l.c mutex_put l.mt h ∙ sym l.invariant.8; ot_after = left_end s l.at l.n x.result x.ensures l.t l.c open_put l.ot h ∙ sym l.invariant.9; kt_after = left_end s l.at l.n x.result x.ensures l.t l.c task_put l.kt h ∙ sym l.invariant.10 }

pub returns-in-Err : goal.returns-in-Err
returns-in-Err c =
    let s = c.args.src.now in
    let l = c.loop-r in
    let x = c.read_line-r in
    let h = not-false x.result.line.ended c.if-not-l.false in
    let r : Fault = Err c.in-Err.r in
    let f = c.in-Err.ensures in
    let k = c.field_said in
    let z = c.refuse in record { value = read_bad s l.at l.n x.result x.ensures l.t l.c r h f k.result z.result refl k.ensures z.ensures ∙ sym l.invariant.6; vt_after = left_bad s l.at l.n x.result x.ensures l.t l.c vcpu_put l.vt r h f refl ∙ sym l.invariant.7; mt_after = left_bad s l.at l.n x.result x.ensures l.t l.c mutex_put l.mt r h f refl ∙ sym l.invariant.8; ot_after = left_bad s l.at l.n x.result x.ensures l.t l.c open_put l.ot r h f refl ∙ sym l.invariant.9; kt_after = left_bad s l.at l.n x.result x.ensures l.t l.c task_put l.kt r h f refl ∙ sym l.invariant.10 }

pub loop-r-smaller : goal.loop-r-smaller
loop-r-smaller c =
    let l = c.loop-r in
    let x = c.read_line-r in
    let z = read_fits c.args.src.now l.at l.n x.result x.ensures l.t l.c (not-false x.result.line.ended c.if-not-l.false) in
    omega (arith, z.0, z.1)

pub loop-r-preserved : goal.loop-r-preserved
loop-r-preserved c =
    let s = c.args.src.now in
    let l = c.loop-r in
    let x = c.read_line-r in
    let h = not-false x.result.line.ended c.if-not-l.false in
    let f = c.fault_in in
    let q : is_ok f.result ≡ true = ap is_ok c.in_default.is in
    let p = c.put_line.ensures in
    let u = c.seen_in-u in
    let v = c.tally_after-v in (
      (read_fits s l.at l.n x.result x.ensures l.t l.c h).1,
      read_few s l.at l.n x.result x.ensures l.t l.c f.result h f.ensures q l.invariant.1,
      omega (arith, l.invariant.2),
      omega (arith, l.invariant.3),
      omega (arith, l.invariant.4),
      omega (arith, l.invariant.5),
      l.invariant.6 ∙ read_next s l.at l.n x.result x.ensures l.t l.c f.result h f.ensures u.result v.result q u.ensures v.ensures,
      l.invariant.7 ∙ left_next s l.at l.n x.result x.ensures l.t l.c vcpu_put l.vt f.result h f.ensures u.result v.result _ q u.ensures v.ensures p.vt_after,
      l.invariant.8 ∙ left_next s l.at l.n x.result x.ensures l.t l.c mutex_put l.mt f.result h f.ensures u.result v.result _ q u.ensures v.ensures p.mt_after,
      l.invariant.9 ∙ left_next s l.at l.n x.result x.ensures l.t l.c open_put l.ot f.result h f.ensures u.result v.result _ q u.ensures v.ensures p.ot_after,
      l.invariant.10 ∙ left_next s l.at l.n x.result x.ensures l.t l.c task_put l.kt f.result h f.ensures u.result v.result _ q u.ensures v.ensures p.kt_after,
    )
