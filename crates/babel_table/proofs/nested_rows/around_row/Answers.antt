-- The rows before the next one have lesser keys.
use Rattle.std.proofs.Common.{ℕ, ◌<◌, List, get_or, length, sym, subst, arith}
use Rattle.std.specs.Map.{keys_of}
use Rattle.std.proofs.lemmas.Map.Entries.{length-keys_of}
use Rattle.babel_tlv.specs.Pair.{Pair}
use Rattle.babel_tlv.specs.Route.{RouteKey}
use Rattle.babel_table.specs.Nested.{AreUpTo, LeadsAround, LeadsFrom, NoneWithin}
use Rattle.babel_table.specs.Rows.{IsRising}
use Rattle.babel_table.proofs.NestedLaws.{are_up_to, key_at}
use Rattle.babel_table.proofs.nested_rows.around_row.Goals as goal

before : (rows : List Pair) (place : ℕ) (e : Pair) → IsRising rows → place < length rows → AreUpTo (keys_of rows) place (get_or rows place e).0
before rows place e rising inside =
    let long : place < length (keys_of rows) = omega (arith, inside, length-keys_of rows) in
    are_up_to (keys_of rows) place (get_or rows place e).0 rising long (key_at rows place e inside)

pub dst_around-dst-requires-clause-up_to : goal.dst_around-dst-requires-clause-up_to
dst_around-dst-requires-clause-up_to g c = before c.args.rows.now c.args.place c.index-rows-place.result c.requires.nested.rising c.requires.inside

pub end_from-src-requires-clause-up_to : goal.end_from-src-requires-clause-up_to
end_from-src-requires-clause-up_to g c = before c.args.rows.now c.args.place c.index-rows-place.result c.requires.nested.rising c.requires.inside

pub returns : goal.returns
returns g c =
    let keys = keys_of c.args.rows.now in
    let at = key_at c.args.rows.now c.args.place c.index-rows-place.result c.requires.inside in
    record {
      dst_before = c.dst_around-dst.ensures.within;
      src_before = c.end_from-src.ensures.within;
      dst = λ d. subst (λ (key : RouteKey). NoneWithin (LeadsAround key.dst) keys c.dst_around-dst.result c.args.place) (sym (at d)) c.dst_around-dst.ensures.none;
      src = λ d. subst (λ (key : RouteKey). NoneWithin (LeadsFrom key.dst key.src.address) keys c.end_from-src.result c.args.place) (sym (at d)) c.end_from-src.ensures.none;
    }
