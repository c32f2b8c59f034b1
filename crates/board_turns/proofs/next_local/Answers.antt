use Prim.Native.Nat.{ℕ}
use mathlib.Core.Path.{◌≡◌, refl, sym, ◌∙◌}
use mathlib.Core.Bool.{Bool, true, false}
use Rattle.std.specs.Prelude.{if◌then◌else◌}
use Rattle.board_seats.specs.Seats.{local_waiter}
use Rattle.board_walks.specs.Walks.{passes}
use Rattle.board_walks.specs.WalkLaws.{under_all}
use borrow.Author.Rules.{rules}
use Rattle.board_turns.proofs.next_local.Goals as goal

none_waits : (c : Bool) → ◌≡◌ {A = ℕ} 0 (if c then 0 else 0)
none_waits true = refl
none_waits false = refl

pub returns-then-n-eq0 : goal.returns-then-n-eq0
returns-then-n-eq0 c = let a = c.args in
    (rw (sym (c.local_under-n.ensures.0 ∙ under_all (local_waiter a.view.now a.waits.now a.v)) ∙ c.if-n-eq0.true) (none_waits (passes a.view.now a.holder.now a.v 0)), search rules)

pub returns-then-passes : goal.returns-then-passes
returns-then-passes c = let a = c.args in
    (rw (← (c.local_under-n.ensures.0 ∙ under_all (local_waiter a.view.now a.waits.now a.v)), sym c.passes.ensures ∙ c.if-passes.true), search rules)

pub returns : goal.returns
returns c = let a = c.args in
    (rw (← (c.local_under-n.ensures.0 ∙ under_all (local_waiter a.view.now a.waits.now a.v)), sym c.passes.ensures ∙ c.if-passes.false), search rules)
