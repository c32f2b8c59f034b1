-- `put_wait` meets its contract.
use Prim.Native.Nat.{◌*◌, ◌+◌, ◌/◌}
use Rattle.figures_slices.specs.Filled.{answer_row}
use Rattle.figures_slices.specs.Places.{place_none, place_section, same_place, section_global}
use Rattle.search.specs.Row.{pushed}
use mathlib.Core.Path.{◌∙◌, ap}
use native.Mathlib.Omega.{arith}
use Rattle.answers_waits.proofs.put_wait.Goals as goal

pub push_row-requires : goal.push_row-requires
push_row-requires c = let h = c.requires in omega (arith, h.2, h.4)

pub returns-then-not-is_section : goal.returns-then-not-is_section
returns-then-not-is_section c = c.push_row.ensures ∙ ap (pushed _ _) (place_none _ _ _ _ c.is_section.ensures c.if-not-is_section.true)

pub copy_answer-requires : goal.copy_answer-requires
copy_answer-requires c = let h = c.requires in (omega (arith, h.2, h.4, c.if-e-j.true), omega (arith, h.2, h.4))

pub returns-then-e-j : goal.returns-then-e-j
returns-then-e-j c = let h = c.requires in
    let e = c.same_before-e in
    c.copy_answer.ensures
    ∙ ap (pushed _ _)
    (h.5 (c.args.k / 8 * 8 + e.result) (omega (arith, c.if-e-j.true))
    ∙ same_place _ _ _ _ _ c.is_section.ensures c.if-not-is_section.false e.ensures.0 (omega arith) e.ensures.1)

pub wait_at-a-requires : goal.wait_at-a-requires
wait_at-a-requires c = let h = c.requires in (
  h.0,
  h.1,
  omega (arith, h.2),
  omega arith,
  section_global _ _ _ _ c.is_section.ensures c.if-not-is_section.false,
  h.3,
)

pub put_answer-requires : goal.put_answer-requires
put_answer-requires c = let h = c.requires in omega (arith, h.2, h.4)

pub returns : goal.returns
returns c = c.put_answer.ensures
    ∙ ap (pushed _ _) (ap answer_row c.wait_at-a.ensures ∙ place_section _ _ _ _ c.is_section.ensures c.if-not-is_section.false)
