-- `use_one` meets its contract.
use mathlib.Core.Path.{ap, ◌∙◌}
use Rattle.clock_sets.specs.Sets.{in_set}
use Rattle.clock_uses.specs.Using.{going_marked_any, going_uses, going_holds, use_room, use_result}
use Rattle.clock_uses.proofs.use_one.Goals as goal

pub has-holds-requires : goal.has-holds-requires
has-holds-requires c = let q = c.requires.v_nonzero in (q.0, q.1)

pub use_sure-a-requires : goal.use_sure-a-requires
use_sure-a-requires c =
    let a = c.args in
    let q = c.requires.v_nonzero in
    let g = q.2 in
    let s = g.running.shaped in record { left_len = (s.left_long, s.over_long, s.stopped_long, λ ws. going_marked_any g _ ws); v_value = (going_uses g a.v q.3, c.has-holds.ensures ∙ ap (λ y. in_set y a.v) c.at.ensures ∙ going_holds g a.v (record { from = q.0; to = q.1 })) }

pub after_use-requires : goal.after_use-requires
after_use-requires c = let q = c.requires.v_nonzero in (q.2.mirrors.sized, q.0, q.1)

pub tell-requires : goal.tell-requires
tell-requires c =
    let a = c.args in
    let u = c.use_sure-a in
    use_room c.requires.v_nonzero.2 a.v {y = u.result} (u.ensures a.waits.now) a.on a.t a.out.now a.at c.requires.room_at

pub returns : goal.returns
returns c =
    let a = c.args in
    let l = c.tell.ensures in
    let u = c.use_sure-a in
    let r = use_result c.requires.v_nonzero.2 a.v {y = u.result} (u.ensures a.waits.now) a.on a.t a.out.now a.at c.after_use.ensures l.value l.out_after in
    record { going = r.0; made = r.1.0; marks_unchanged = r.1.1 }
