-- `log_answers::answers` meets its contract.
use Prim.Native.Nat.{ℕ, ◌+◌, ◌≤◌}
use mathlib.Core.Path.{◌≡◌, refl}
use mathlib.Core.List.{List, [], ◌++◌}
use native.Mathlib.Omega.{arith}
use lib.ListN.{length, drop}
use Rattle.laws.specs.Steps.{take_rest, head_count}
use Rattle.plan.specs.Limits.{lf}
use Rattle.listing.specs.Listing.{line}
use Rattle.plan.specs.declared.OverrunChoice.{OverrunChoice}
use Rattle.plan.specs.declared.Policy.{Policy}
use Rattle.board_rules.specs.declared.Board.{Board}
use Rattle.board_rules.specs.View.{facts_in}
use Rattle.board_rules.specs.PlanViews.{facts}
use Rattle.board_events.specs.Events.{answer_fields, replies_to}
use Rattle.log_replies.specs.Parts.{end_text}
use Rattle.log_answers.specs.Stays.{line_stays, marked_by_law}
use Rattle.log_answers.specs.LoopLaws.{line_fits, replies_last, replies_next}
use Rattle.log_answers.specs.TellLaws.{run_none, run_space, run_more, run_all, told_long}
use Rattle.log_answers.proofs.answers.Goals as goal
use Rattle.log_answers.proofs.answers.Goals.{After-on_line-o, Else-k-rest, Then-k-rest}

abbrev replies_at : Policy → OverrunChoice → List ℕ → List ℕ → Board → ℕ → List ℕ
replies_at policy choice view src t at = replies_to (facts_in policy choice view) t (drop at src)

-- the last piece

last : (c : Then-k-rest) →
    replies_at c.args.plan.now.policy c.args.plan.now.overrun c.args.plan.now.view.now c.args.src.now c.loop-rest.t c.loop-rest.at
    ≡ end_text c.cut-k.result ++ []
last c =
    let l = c.loop-rest in
    let a = c.args in
    let k = c.cut-k in
    replies_last a.src.now l.at k.result _ (take_rest l.at a.src.now) k.ensures (facts a.plan.now) l.t l.invariant.0 c.if-k-rest.true

fits : (c : Else-k-rest) → c.loop-rest.at + c.cut-k.result + 1 ≤ length c.args.src.now
fits c =
    let s = c.args.src.now in
    let l = c.loop-rest in
    let k = c.cut-k in
    line_fits s l.at k.result _ (take_rest l.at s) k.ensures c.if-k-rest.false

-- a line, and u the board after it

next : (c : After-on_line-o) (u : Board) → c.on_line-o.result.board ≡ u →
    replies_at c.args.plan.now.policy c.args.plan.now.overrun c.args.plan.now.view.now c.args.src.now c.loop-rest.t c.loop-rest.at
    ≡ line (answer_fields c.on_line-o.result.answer)
    ++ replies_at c.args.plan.now.policy c.args.plan.now.overrun c.args.plan.now.view.now c.args.src.now u (c.loop-rest.at + c.cut-k.result + 1)
next c u e =
    let l = c.loop-rest in
    let a = c.args in
    let k = c.cut-k in
    let o = c.on_line-o in
    replies_next a.src.now l.at k.result _ (take_rest l.at a.src.now) k.ensures (facts a.plan.now) l.t c.if-k-rest.false o.result o.ensures u e

pub loop-rest-init : goal.loop-rest-init
loop-rest-init c = (omega arith, run_none _ _ _, c.requires.2)

-- the answers to the lines from `at` on, on the board t

pub tell_end-requires : goal.tell_end-requires
tell_end-requires c =
    let l = c.loop-rest in
    run_space c.requires.1 l.invariant.1 _ _ (last (goal.at.tell_end-requires c).Then-k-rest) l.invariant.0 c.requires.0

pub shape_of-out-then-k-rest : goal.shape_of-out-then-k-rest
shape_of-out-then-k-rest c =
    let l = c.loop-rest in
    let h = run_all c.args.on (run_more c.requires.1 l.invariant.1 _ _ (last (goal.at.shape_of-out-then-k-rest c).Then-k-rest) 0 c.tell_end.ensures) in
    told_long c.args.on _ _ c.requires.1 h.1

-- the next line begins within the input

pub returns-then-k-rest : goal.returns-then-k-rest
returns-then-k-rest c =
    let l = c.loop-rest in let h = run_all c.args.on (run_more c.requires.1 l.invariant.1 _ _ (last (goal.at.returns-then-k-rest c).Then-k-rest) 0 c.tell_end.ensures) in record { value = h.0; out_after = h.1 }

pub overflow_add-next : goal.overflow_add-next
overflow_add-next c = omega (arith, fits (goal.at.overflow_add-next c).Else-k-rest)

pub overflow_add-next-in-loop-rest : goal.overflow_add-next-in-loop-rest
overflow_add-next-in-loop-rest c = omega (arith, fits (goal.at.overflow_add-next-in-loop-rest c).Else-k-rest)

pub slice_bounds-on_line-end : goal.slice_bounds-on_line-end
slice_bounds-on_line-end c = let k = c.cut-k in head_count lf _ k.result k.ensures

pub tell-m-requires : goal.tell-m-requires
tell-m-requires c =
    let l = c.loop-rest in
    run_space c.requires.1 l.invariant.1 _ _ (next (goal.at.tell-m-requires c).After-on_line-o _ refl) l.invariant.0 c.requires.0

pub loop-rest-smaller-then-moves : goal.loop-rest-smaller-then-moves
loop-rest-smaller-then-moves c = omega (arith, fits (goal.at.loop-rest-smaller-then-moves c).Else-k-rest)

pub loop-rest-preserved-then-moves : goal.loop-rest-preserved-then-moves
loop-rest-preserved-then-moves c =
    let l = c.loop-rest in
    let F = facts c.args.plan.now in (
      fits (goal.at.loop-rest-preserved-then-moves c).Else-k-rest,
      run_more c.requires.1 l.invariant.1 _ _ (next (goal.at.loop-rest-preserved-then-moves c).After-on_line-o _ refl) c.cut-k.result c.tell-m.ensures,
      marked_by_law F l.t l.invariant.2 _ c.on_line-o.result c.on_line-o.ensures,
    )

pub loop-rest-smaller : goal.loop-rest-smaller
loop-rest-smaller c = omega (arith, fits (goal.at.loop-rest-smaller c).Else-k-rest)

-- a refused line leaves the board

pub loop-rest-preserved : goal.loop-rest-preserved
loop-rest-preserved c =
    let l = c.loop-rest in
    let e = line_stays (facts c.args.plan.now) l.t _ c.on_line-o.result c.on_line-o.ensures c.moves.ensures c.if-moves.false in
    (fits (goal.at.loop-rest-preserved c).Else-k-rest, run_more c.requires.1 l.invariant.1 _ _ (next (goal.at.loop-rest-preserved c).After-on_line-o l.t e) c.cut-k.result c.tell-m.ensures, l.invariant.2)
