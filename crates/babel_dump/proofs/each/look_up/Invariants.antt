-- Of the pairs so far there are the places and the statuses.
use Rattle.std.proofs.Common.{◌≡◌, map, take}
use Rattle.std.specs.List.{AllZip}
use Rattle.babel_table.specs.RowFor.{IsPlaceFor}
use Rattle.babel_dump.specs.RunText.{pair_status}
use Rattle.babel_dump.proofs.each.look_up.Given as goal

abbrev pub invariant-loop-pair : goal.invariant-loop-pair
invariant-loop-pair l = record {
  places : AllZip (λ pair place. IsPlaceFor l.table.rows pair.dst pair.src place) (take l.pair-index l.asked) l.places.items;
  statuses : l.statuses.items ≡ map (pair_status l.table) (take l.pair-index l.asked);
}
