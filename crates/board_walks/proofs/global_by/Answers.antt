use Rattle.board_walks.proofs.global_by.Goals as goal

pub returns : goal.returns
returns c = rw (c.both.ensures, c.of_vcpu.ensures, c.holder.ensures, c.is_global.ensures)
