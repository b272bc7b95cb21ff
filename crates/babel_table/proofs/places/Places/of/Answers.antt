-- The rows so far stay listed, since no other row has their keys.
use Rattle.std.proofs.Common.{◌≡◌, ℕ, false, sym, subst, arith}
use Rattle.std.specs.BTreeMap.{is_at}
use Rattle.babel_tlv.specs.Route.{RouteKey}
use Rattle.babel_tlv.specs.Keys.{key_cmp}
use Rattle.babel_table.specs.Said.{IsListed}
use Rattle.babel_table.proofs.PlaceLaws.{all_listed, listed_more, place_here}
use Rattle.babel_table.proofs.places.Places.of.Goals as goal

pub add-requires-clause-small : goal.add-requires-clause-small
add-requires-clause-small g c = omega arith

pub add-requires-clause-room : goal.add-requires-clause-room
add-requires-clause-room g c = c.loop-place.invariant.room

pub loop-place-preserved : goal.loop-place-preserved
loop-place-preserved g c =
    let here = place_here c.args.rows.now c.loop-place.place c.index-rows-place.result c.loop-place-test.true c.index-rows-place.is in
    record {
      room = omega (arith, c.add.ensures.room, c.loop-place.invariant.room);
      listed = listed_more c.args.rows.now c.args.first c.loop-place.place c.loop-place.places c.add.new.self c.index-rows-place.result.0 c.requires.distinct here c.loop-place.invariant.listed
          (subst (λ x. IsListed c.add.new.self x.0 c.loop-place.place) (sym c.index-rows-place.is) c.in_ok-add.ensures.listed)
          (subst (λ x. (other : RouteKey) (at : ℕ) → is_at (key_cmp x.0) other ≡ false → IsListed c.loop-place.places other at
          → IsListed c.add.new.self other at) (sym c.index-rows-place.is) c.in_ok-add.ensures.others);
    }

pub returns-clause-listed : goal.returns-clause-listed
returns-clause-listed g c = all_listed c.args.rows.now c.args.first _ _ c.loop-place-test.false c.loop-place.invariant.listed

pub returns-clause-room : goal.returns-clause-room
returns-clause-room g c = c.loop-place.invariant.room
