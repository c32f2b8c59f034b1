-- `write_tables::front` meets its contract.
use Rattle.text_told.proofs.ToldLaws.{space_as, told_as}
use Rattle.write_tables.specs.Parts.{front_told}
use Rattle.write_tables.proofs.front.Goals as goal

pub tell-requires : goal.tell-requires
tell-requires c = space_as (front_told c.in-Periodic.is c.in-WithOverrun.is) c.requires

pub tell-requires-in-WithoutOverrun : goal.tell-requires-in-WithoutOverrun
tell-requires-in-WithoutOverrun c = space_as (front_told c.in-Periodic.is c.in-WithoutOverrun.is) c.requires

pub tell-requires-in-WithOverrun-o : goal.tell-requires-in-WithOverrun-o
tell-requires-in-WithOverrun-o c = space_as (front_told c.in-Deferrable.is c.in-WithOverrun-o.is) c.requires

pub tell-requires-in-WithoutOverrun-o : goal.tell-requires-in-WithoutOverrun-o
tell-requires-in-WithoutOverrun-o c = space_as (front_told c.in-Deferrable.is c.in-WithoutOverrun-o.is) c.requires

pub returns-in-WithOverrun : goal.returns-in-WithOverrun
returns-in-WithOverrun c = told_as (front_told c.in-Periodic.is c.in-WithOverrun.is) c.tell.ensures

pub returns-in-WithoutOverrun : goal.returns-in-WithoutOverrun
returns-in-WithoutOverrun c = told_as (front_told c.in-Periodic.is c.in-WithoutOverrun.is) c.tell-in-WithoutOverrun.ensures

pub returns-in-WithOverrun-o : goal.returns-in-WithOverrun-o
returns-in-WithOverrun-o c = told_as (front_told c.in-Deferrable.is c.in-WithOverrun-o.is) c.tell-in-WithOverrun-o.ensures

pub returns-in-WithoutOverrun-o : goal.returns-in-WithoutOverrun-o
returns-in-WithoutOverrun-o c = told_as (front_told c.in-Deferrable.is c.in-WithoutOverrun-o.is) c.tell-in-WithoutOverrun-o.ensures
