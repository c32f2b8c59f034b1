-- `put_lengths` meets its contract: the lengths stand in the marks, all else is as it was.
use Rattle.std.proofs.Common.{ℕ, ◌≡◌, ◌+◌, ◌-◌, length, get_or, take, drop, ap, ◌∙◌, arith, length-take-le, length-drop, get_or-take, get_or-drop}
use Rattle.clock_firsts.proofs.Fills.{part_length, part_in, part_out}
use Rattle.clock_firsts.proofs.put_lengths.Goals as goal

pub returns : goal.returns
returns c =
    let x = c.args.times.now in
    let y = c.args.marks.now in
    let z = c.copy_from_slice.new.self in
    let p = c.requires in
    let e : z ≡ take 128 (drop 160 x) = c.copy_from_slice.ensures.after in
    let long : length z ≡ 128 = ap length e ∙ length-take-le 128 (drop 160 x) (omega (arith, length-drop 160 x)) in
    record {
      within = omega arith;
      length_same = part_length 164 128 y z (omega arith) long;
      new = λ j h.
          part_in 164 128 y z (omega arith) long (164 + j) (omega arith) (omega arith)
          ∙ ap (λ l. get_or l (164 + j - 164) 0) e
          ∙ ap (λ (i : ℕ). get_or (take 128 (drop 160 x)) i 0) {x = 164 + j - 164} {y = j} (omega arith)
          ∙ get_or-take 128 (drop 160 x) j 0 h
          ∙ get_or-drop 160 x j 0;
      else_same = λ j h. part_out 164 128 y z (omega arith) long j h;
    }
