-- `write_lines::owner_rest` meets its contract.
use Rattle.text_told.proofs.ToldLaws.{space_as, told_as, space_first, space_then, told_then}
use Rattle.write_lines.specs.Texts.{global_rest, local_joins}
use Rattle.write_lines.proofs.owner_rest.Goals as goal

pub tell-requires : goal.tell-requires
tell-requires c = space_as (global_rest c.if-owner-eq0.true) c.requires

pub returns-then-owner-eq0 : goal.returns-then-owner-eq0
returns-then-owner-eq0 c = told_as (global_rest c.if-owner-eq0.true) c.tell.ensures

pub tell-k-requires : goal.tell-k-requires
tell-k-requires c = space_first (local_joins c.args.owner c.if-owner-eq0.false) c.requires

pub tell_last-requires : goal.tell_last-requires
tell_last-requires c =
    space_then (local_joins c.args.owner c.if-owner-eq0.false) c.requires c.tell-k.ensures

pub returns : goal.returns
returns c =
    told_then (local_joins c.args.owner c.if-owner-eq0.false) c.requires c.tell-k.ensures c.tell_last.ensures
