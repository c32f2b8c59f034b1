-- `records_saved::all_kept` meets its contract.
use Prim.Native.Nat.{ℕ, ◌-◌, ◌*◌}
use mathlib.Core.Path.{◌≡◌, ap, ◌∙◌}
use mathlib.Core.List.{List, ◌++◌}
use native.Mathlib.Omega.{arith}
use lib.ListN.{length, take, drop, take-append-drop, length-drop}
use Rattle.plan_tables.specs.Layout.{task_width}
use Rattle.records_saved.proofs.all_kept.Goals as goal

part_back : (k : ℕ) (b c : List ℕ) → c ≡ take (length b - k) (drop k b) → take k b ++ (c ++ drop (length b - k) (drop k b)) ≡ b
part_back k b c e = ap (λ c. take k b ++ (c ++ drop (length b - k) (drop k b))) e ∙ ap (λ d. take k b ++ d) (take-append-drop (length b - k) (drop k b)) ∙ take-append-drop k b

pub kept-requires : goal.kept-requires
kept-requires c =
    let l = c.loop-i in
    let h = c.requires in
    let t = c.loop-i-test.true in
    (omega (arith, c.few_of.ensures), omega (arith, c.few_of.ensures, h.0, h.1, t, l.auto.rows, length-drop (l.i * task_width) l.rows))

pub loop-i-preserved : goal.loop-i-preserved
loop-i-preserved c = let l = c.loop-i in part_back (l.i * task_width) l.rows _ c.kept.ensures ∙ l.invariant

pub returns-2 : goal.returns-2
returns-2 c = let l = c.loop-i in part_back (l.i * task_width) l.rows _ c.kept.ensures ∙ l.invariant
