-- The rows that were listed stay listed, and the new one is.
use Rattle.std.proofs.Common.{◌<◌, ◌∙◌, refl, sym, subst}
use Rattle.std.specs.Map.{keys_of}
use Rattle.std.proofs.lemmas.Map.Entries.{length-keys_of}
use Rattle.babel_table.specs.Said.{AreListed, IsListed}
use Rattle.babel_table.proofs.SaidLaws.{indexed-behind, listed_besides, on_err, still_indexed}
use Rattle.babel_table.proofs.family_rows.push_placed.Goals as goal

pub returns-then-place-ge-MOST_ROWS-clause-err : goal.returns-then-place-ge-MOST_ROWS-clause-err
returns-then-place-ge-MOST_ROWS-clause-err g c = (refl, c.requires.indexed)

pub make_room-requires-clause-distinct : goal.make_room-requires-clause-distinct
make_room-requires-clause-distinct g c = rw c.deref.ensures.value c.requires.indexed.distinct

pub make_room-requires-clause-few : goal.make_room-requires-clause-few
make_room-requires-clause-few g c = subst (λ n. n < 4294967295) (c.len-place.ensures ∙ sym c.deref.ensures.len) c.if-place-ge-MOST_ROWS.false

pub make_room-requires-clause-inside : goal.make_room-requires-clause-inside
make_room-requires-clause-inside g c = rw (c.deref.ensures.value, ← length-keys_of c.args.rows.now.items) c.requires.indexed.inside

pub make_room-requires-clause-listed : goal.make_room-requires-clause-listed
make_room-requires-clause-listed g c = subst (λ ws. AreListed (keys_of ws) c.args.rising c.args.places.now) (sym c.deref.ensures.value) c.requires.indexed.behind

pub returns-in_err-make_room-clause-err : goal.returns-in_err-make_room-clause-err
returns-in_err-make_room-clause-err g c =
    let listed = subst (λ ws. AreListed (keys_of ws) c.args.rising c.make_room.new.self) c.deref.ensures.value c.make_room.ensures.listed in
    on_err c.from_residual.result _ (refl, still_indexed (keys_of c.args.rows.now.items) c.args.rising c.args.places.now c.make_room.new.self c.requires.indexed listed)

pub add-requires-clause-small : goal.add-requires-clause-small
add-requires-clause-small g c = c.if-place-ge-MOST_ROWS.false

pub add-requires-clause-room : goal.add-requires-clause-room
add-requires-clause-room g c = c.in_ok-make_room.ensures.room

pub returns-in_err-add-clause-err : goal.returns-in_err-add-clause-err
returns-in_err-add-clause-err g c =
    let listed = subst (λ ws. AreListed (keys_of ws) c.args.rising c.make_room.new.self) c.deref.ensures.value c.make_room.ensures.listed in
    let after = listed_besides c.args.rows.now.items c.args.rising c.make_room.new.self c.add.new.self c.args.key c.requires.new listed c.add.ensures.others in
    on_err c.from_residual-in_err-add.result _ (refl, still_indexed (keys_of c.args.rows.now.items) c.args.rising c.args.places.now c.add.new.self c.requires.indexed after)

pub returns-in_err-push-clause-err : goal.returns-in_err-push-clause-err
returns-in_err-push-clause-err g c =
    let listed = subst (λ ws. AreListed (keys_of ws) c.args.rising c.make_room.new.self) c.deref.ensures.value c.make_room.ensures.listed in
    let after = listed_besides c.args.rows.now.items c.args.rising c.make_room.new.self c.add.new.self c.args.key c.requires.new listed c.add.ensures.others in
    on_err c.from_residual-in_err-push.result _ (rw c.in_err-push.ensures.items
    (refl, still_indexed (keys_of c.args.rows.now.items) c.args.rising c.args.places.now c.add.new.self c.requires.indexed after))

pub returns-clause-ok : goal.returns-clause-ok
returns-clause-ok g c =
    let listed = subst (λ ws. AreListed (keys_of ws) c.args.rising c.make_room.new.self) c.deref.ensures.value c.make_room.ensures.listed in
    let before = still_indexed (keys_of c.args.rows.now.items) c.args.rising c.args.places.now c.make_room.new.self c.requires.indexed listed in
    let here = subst (λ n. IsListed c.add.new.self c.args.key n) (c.len-place.ensures ∙ c.args.rows.now.ok.0) c.in_ok-add.ensures.listed in (
      c.in_ok-push.ensures.items,
      rw c.in_ok-push.ensures.items
          (indexed-behind c.args.rows.now.items c.args.rising c.make_room.new.self c.add.new.self c.args.key c.args.stored before c.requires.new here c.add.ensures.others),
    )
