-- `put_bounds` meets its contract: the cells from 144 to before 162 are 0.
use Rattle.std.proofs.Common.{◌≡◌, ◌-◌, length, get_or, take, drop, replicate, ap, ◌∙◌, arith, rules, length-take-le, length-drop}
use Rattle.std.proofs.lemmas.List.{get_or-replicate}
use Rattle.clock_firsts.proofs.Fills.{part_length, part_in, part_out}
use Rattle.clock_firsts.proofs.put_bounds.Goals as goal

pub returns : goal.returns
returns c =
    let y = c.args.nexts.now in
    let z = c.fill.new.self in
    let p = c.requires in
    let l : length (take 18 (drop 144 y)) ≡ 18 = length-take-le 18 (drop 144 y) (omega (arith, length-drop 144 y)) in
    let e : z ≡ replicate 18 0 = c.fill.ensures.after (λ x h. search rules) ∙ ap (λ n. replicate n 0) l in
    let long : length z ≡ 18 = c.fill.ensures.len ∙ l in
    record {
      length_same = part_length 144 18 y z (omega arith) long;
      new = λ j h m. part_in 144 18 y z (omega arith) long j h m ∙ ap (λ x. get_or x (j - 144) 0) e ∙ get_or-replicate 18 (j - 144) 0 0 (omega arith);
      else_same = λ j h. part_out 144 18 y z (omega arith) long j h;
    }
