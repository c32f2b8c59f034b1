-- `clear_marks` meets its contract: every place has 0 before the cores' sets are written.
use Rattle.std.proofs.Common.{ℕ, ◌≡◌, List, get_or, replicate, ap, ◌∙◌, arith, rules}
use Rattle.std.proofs.lemmas.List.{get_or-replicate}
use Rattle.clock_supplies.specs.CoreLaws.{EmptyTo, cleared_is}
use Rattle.clock_supplies.proofs.clear_marks.Goals as goal

zeros_empty : {k : List ℕ} (n : ℕ) → k ≡ replicate n 0 → EmptyTo k n
zeros_empty n e = record { at = λ j h. ap (λ l. get_or l j 0) e ∙ get_or-replicate n j 0 0 h }

pub put_cores-requires : goal.put_cores-requires
put_cores-requires c = c.fill.ensures.len ∙ c.requires

pub returns : goal.returns
returns c =
    let e = c.fill.ensures.after (λ y h. search rules) in
    let l = c.fill.ensures.len ∙ c.requires in
    cleared_is (omega arith) l (zeros_empty 424 (e ∙ ap (λ n. replicate n 0) c.requires)) c.put_cores.ensures
