-- A row that does not lead to the address is passed with all between it and those around it.
use Rattle.std.proofs.Common.{◌-◌, ◌<◌, ◌≤◌, IsTrue, get_or, length, sym, subst, arith, rules}
use Rattle.std.specs.Map.{keys_of}
use Rattle.std.proofs.lemmas.Map.Entries.{length-keys_of}
use Rattle.babel_table.specs.Nested.{LeadsTo}
use Rattle.babel_table.specs.declared.nested_rows.Around.{Around}
use Rattle.babel_table.proofs.NestedLaws.{covers_of, key_at, to_skips}
use Rattle.babel_table.proofs.nested_rows.end_to.Goals as goal

pub loop-last-preserved : goal.loop-last-preserved
loop-last-preserved g c =
    let rows = c.args.rows.now in
    let around = c.args.around.now in
    let place = c.loop-last.last - 1 in
    let row = get_or rows place c.index-rows-last.result in
    let within : c.loop-last.last ≤ c.args.end = c.loop-last.invariant.within in
    let some : 0 < c.loop-last.last = c.loop-last-test.true in
    let inside : place < length around = omega (arith, c.requires.inside) in
    let row_in : place < length rows = omega (arith, c.requires.nested.short, length-keys_of rows) in
    let before : place < c.args.end = omega arith in
    let a : Around = record { dst = 0; src = 0 } in
    record {
      within = omega (arith, (c.requires.nested.each place inside a).dst_before);
      none =
          to_skips (keys_of rows) around c.requires.nested c.args.key.now place inside c.args.end before c.requires.up_to row.0 a (key_at rows place c.index-rows-last.result row_in)
          (λ has. let yes = c.has_start_of.ensures.1 (covers_of (sym c.dst.ensures) (sym c.dst-dst.ensures) has) in absurd cc)
          (λ k d low high has. c.loop-last.invariant.none k d (omega (arith, low)) high has);
    }

pub returns-else-not-has_start_of-clause-last : goal.returns-else-not-has_start_of-clause-last
returns-else-not-has_start_of-clause-last g c =
    let rows = c.args.rows.now in
    let place = c.loop-last.last - 1 in
    let some : 0 < c.loop-last.last = c.loop-last-test.true in
    let row_in : place < length rows = omega (arith, c.loop-last.invariant.within, c.requires.inside, c.requires.nested.short, length-keys_of rows) in
    let yes : IsTrue c.has_start_of.result = search rules in
    λ not_zero d. subst (LeadsTo c.args.key.now.dst.address) (sym (key_at rows place c.index-rows-last.result row_in d)) (covers_of c.dst.ensures c.dst-dst.ensures (c.has_start_of.ensures.0 yes))
