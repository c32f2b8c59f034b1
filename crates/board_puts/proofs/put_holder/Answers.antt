use Prim.Native.Nat.{◌-◌}
use mathlib.Core.Path.{sym}
use native.Mathlib.Omega.{arith}
use lib.Seq.{set_out}
use Rattle.board_puts.proofs.put_holder.Goals as goal

pub returns-then-i-holder : goal.returns-then-i-holder
returns-then-i-holder c = rw c.sub-i.ensures

pub returns-else-i-holder : goal.returns-else-i-holder
returns-else-i-holder c = let a = c.args in
    let s = c.sub-i.ensures in
    sym (set_out a.holder.now (a.m - 1) a.h (omega (arith, c.if-i-holder.false)))
