-- The next pair, beside its place.
use Rattle.std.proofs.Common.{◌≡◌, ℕ, ◌<◌, ◌++◌, ◌∷◌, [], List, drop, length, get_or, sym, subst, ap, ◌∙◌, arith, rules, append-nil, length-append}
use Rattle.std.proofs.Math.Seq.{drop-length}
use Rattle.std.specs.List.{zip}
use Rattle.std.specs.Iterator.Adapters.{zip_first, zip_second}
use Rattle.std.specs.Slice.Iter.{iter_rest}
use Rattle.std.proofs.lemmas.Slice.Zip.{get_or-zip, length-zip, zip_end, zip_turn}
use Rattle.babel_prefix.specs.declared.family.Family.{Family}
use Rattle.babel_table.specs.RowFor.{row_at}
use Rattle.babel_table.specs.TableRows.{family_rows}
use Rattle.babel_table.specs.declared.row_place.RowPlace.{RowPlace}
use Rattle.babel_dump.specs.InFormat.{placed_in, placed_line_in}
use Rattle.babel_dump.specs.Run.{output}
use Rattle.babel_dump.specs.Slices.{Took}
use Rattle.babel_dump.specs.declared.addr_pair.AddrPair.{AddrPair}
use Rattle.babel_dump.proofs.SliceLaws.{broke_on, front_at_err, pushed_next, took_more}
use Rattle.babel_dump.proofs.slices.write_answers.Goals as goal

pub returns-in_err-make_room : goal.returns-in_err-make_room
returns-in_err-make_room g c =
    front_at_err _ _ _ c.from_residual.result c.from_residual.ensures.0
    (broke_on _ _ _ _ c.loop-pair.buffer.items _ c.loop-pair.invariant.took c.in_err-make_room.ensures.front)

pub loop-pair-preserved : goal.loop-pair-preserved
loop-pair-preserved g c =
    let table = c.args.answers.now.table in
    let asked : List AddrPair = c.args.answers.now.asked.items in
    let places : List RowPlace = c.args.answers.now.places.items in
    let i = length c.loop-pair.yielded in
    let pair : AddrPair = c.in-Some.pair.now in
    let place : RowPlace = c.in-Some.place.now in
    let first : iter_rest (zip_first c.into_iter-pair-iterator.result) ≡ asked = search rules in
    let second : iter_rest (zip_second c.into_iter-pair-iterator.result) ≡ places = search rules in
    let turn = zip_turn asked places c.loop-pair.yielded c.into_iter-pair-iterator.result c.loop-pair.pair-iterator c.next.new.self _ first second c.loop-pair.yielded_by (c.in-Some.pair, c.in-Some.place) c.in-Some.is c.next.ensures.steps in
    let inside : i < length (zip asked places) = omega (arith, turn.0, turn.1, length-zip asked places) in
    let is : (pair, place) ≡ get_or (zip asked places) i (pair, place) =
    ap (λ (p : AddrPair). (p, place)) (turn.2 pair) ∙ ap (λ (at : RowPlace). (get_or asked i pair, at)) (turn.3 place) ∙ sym (get_or-zip asked places i (pair, place) turn.0 turn.1) in
    let row : c.row_at.result ≡ row_at (family_rows pair.dst.family table.rows) place =
    c.row_at.ensures ∙ ap (λ (family : Family). row_at (family_rows family table.rows) place) c.family.ensures in
    let left = c.make_room.new.buffer.items in
    let took = took_more _ _ _ _ c.loop-pair.buffer.items left _ c.loop-pair.invariant.took c.in_ok-make_room.ensures.front in
    record {
      took = rw (length-append c.loop-pair.yielded ((c.in-Some.pair, c.in-Some.place) ∷ []))
          (pushed_next (placed_line_in c.args.format.now c.args.with_prefix table) (zip asked places) i (pair, place) _ _ left _ took inside is (rw row at c.push_answer.ensures.text));
      room = omega (arith, c.push_answer.ensures.room, c.in_ok-make_room.ensures.room);
    }

pub returns : goal.returns
returns g c =
    let table = c.args.answers.now.table in
    let asked : List AddrPair = c.args.answers.now.asked.items in
    let places : List RowPlace = c.args.answers.now.places.items in
    let left = c.loop-pair.buffer.items in
    let text : List (AddrPair × RowPlace) → List ℕ = placed_in c.args.format.now c.args.with_prefix table in
    let first : iter_rest (zip_first c.into_iter-pair-iterator.result) ≡ asked = search rules in
    let second : iter_rest (zip_second c.into_iter-pair-iterator.result) ≡ places = search rules in
    let ended : length c.loop-pair.yielded ≡ length (zip asked places) =
    zip_end asked places c.loop-pair.yielded c.into_iter-pair-iterator.result c.loop-pair.pair-iterator c.next.new.self c.next.result first second c.loop-pair.yielded_by c.in-None.is c.next.ensures.steps
    ∙ sym (length-zip asked places) in
    let none : drop (length c.loop-pair.yielded) (zip asked places) ≡ [] = ap (λ (n : ℕ). drop n (zip asked places)) ended ∙ drop-length (zip asked places) in
    subst (λ (l : List ℕ). Took (output (g.W.ByteOut.state c.args.writer.now) (g.W.ByteOut.state c.loop-pair.writer)) (text (zip asked places)) l)
    (ap (λ (rest : List (AddrPair × RowPlace)). left ++ text rest) none ∙ append-nil left) c.loop-pair.invariant.took
