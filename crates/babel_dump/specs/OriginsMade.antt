-- How what senders originate is found, one capture after another: this project's own.
use Rattle.std.specs.Prelude.{List}
use Rattle.babel_capture.specs.declared.tallies.Origin.{Origin}
use Rattle.babel_dump.specs.Originated.{TakesMore}
use Rattle.babel_dump.specs.ToldOrigins.{AreAllRead, OwnRoutes, rows_of_all}
use Rattle.babel_dump.specs.ToldPairs.{Heard}
use Rattle.babel_dump.specs.declared.each_sender.EachSender.{EachSender}
use Rattle.babel_dump.specs.declared.filter.Filter.{Filter}
use Rattle.babel_dump.specs.declared.originated.OnSides.{OnSides}
use Rattle.babel_dump.specs.declared.originated.Origination.{Origination}
use Rattle.babel_dump.specs.declared.run_fault.Side.{Side}

-- the rows of all these senders are taken
pub record TakesSenders (filter : Filter) (side : Side) (each : EachSender) (heard : Heard)
    (senders : List Origin) (before after : List (Origination × OnSides)) : Type 0 where
  pub found : List OwnRoutes
  pub are_read : AreAllRead each heard senders found
  pub takes : TakesMore side (rows_of_all filter found) before after

-- those of tables of which this holds are taken
pub record TakesRead (filter : Filter) (side : Side) (AreRead : List OwnRoutes → Type 0)
    (before after : List (Origination × OnSides)) : Type 0 where
  pub found : List OwnRoutes
  pub read : AreRead found
  pub takes : TakesMore side (rows_of_all filter found) before after
