-- `read_fill::put_line` meets its contract.
use Rattle.read_fill.proofs.put_line.Goals as goal

pub returns : goal.returns
returns c = record { vt_after = c.put_vcpu.ensures; mt_after = c.put_mutex.ensures; ot_after = c.put_open.ensures; kt_after = c.put_sheet.ensures }
