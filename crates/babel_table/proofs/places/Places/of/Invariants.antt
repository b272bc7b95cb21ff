-- The rows so far are listed.
use Rattle.std.proofs.Common.{◌<◌, length}
use Rattle.std.specs.Map.{keys_of}
use Rattle.babel_table.proofs.PlaceLaws.{AreListedBefore}
use Rattle.babel_table.proofs.places.Places.of.Given as goal

abbrev pub invariant-loop-place : goal.invariant-loop-place
invariant-loop-place g l = record {
  room : 8 < length l.places.slots;
  listed : AreListedBefore (keys_of l.rows) l.first l.place l.places;
}
