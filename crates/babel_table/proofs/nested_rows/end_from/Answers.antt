-- A row from elsewhere is passed with all between it and those around it; one to another destination is past all rows to this one.
use Rattle.std.proofs.Common.{◌≡◌, ◌-◌, ◌<◌, ◌≤◌, IsTrue, get_or, length, true, false, sym, ◌∙◌, ap, subst, arith, rules}
use Rattle.std.specs.Map.{keys_of}
use Rattle.std.specs.Ordering.{eq_by_cmp}
use Rattle.std.proofs.lemmas.Map.Entries.{length-keys_of}
use Rattle.babel_prefix.specs.Covers.{Covers}
use Rattle.babel_prefix.specs.Order.{prefix_cmp}
use Rattle.babel_tlv.specs.Route.{RouteKey}
use Rattle.babel_table.specs.declared.nested_rows.Around.{Around}
use Rattle.babel_table.proofs.NestedLaws.{apart_of, covers_of, from_ends, from_skips, key_at, same_of}
use Rattle.babel_table.proofs.nested_rows.end_from.Goals as goal

pub returns-then-has_start_of-clause-last : goal.returns-then-has_start_of-clause-last
returns-then-has_start_of-clause-last g c =
    let rows = c.args.rows.now in
    let key = c.args.key.now in
    let place = c.loop-last.last - 1 in
    let within : c.loop-last.last ≤ c.args.end = c.loop-last.invariant.within in
    let some : 0 < c.loop-last.last = c.loop-last-test.true in
    let inside : place < length c.args.around.now = omega (arith, c.requires.inside) in
    let row_in : place < length rows = omega (arith, c.requires.nested.short, length-keys_of rows) in
    let row = get_or rows place c.index-rows-last.result in
    let row_src = get_or rows place c.index-rows-last-in-loop-last.result in
    let yes : IsTrue c.has_start_of.result = search rules in
    let equal : eq_by_cmp prefix_cmp c.dst.result c.dst-dst.result ≡ true = search rules in
    let to : row.0.dst ≡ key.dst = sym c.dst.ensures ∙ same_of _ _ equal ∙ c.dst-dst.ensures in
    let from : Covers row_src.0.src key.src.address = covers_of c.src.ensures c.src-src.ensures (c.has_start_of.ensures.0 yes) in
    λ not_zero d. (
      ap (λ (k : RouteKey). k.dst) (key_at rows place c.index-rows-last.result row_in d) ∙ to,
      subst (λ (k : RouteKey). Covers k.src key.src.address) (sym (key_at rows place c.index-rows-last-in-loop-last.result row_in d)) from,
    )

pub loop-last-preserved : goal.loop-last-preserved
loop-last-preserved g c =
    let rows = c.args.rows.now in
    let key = c.args.key.now in
    let place = c.loop-last.last - 1 in
    let within : c.loop-last.last ≤ c.args.end = c.loop-last.invariant.within in
    let some : 0 < c.loop-last.last = c.loop-last-test.true in
    let inside : place < length c.args.around.now = omega (arith, c.requires.inside) in
    let row_in : place < length rows = omega (arith, c.requires.nested.short, length-keys_of rows) in
    let before : place < c.args.end = omega arith in
    let a : Around = record { dst = 0; src = 0 } in
    let row_src = get_or rows place c.index-rows-last-in-loop-last.result in
    let at = key_at rows place c.index-rows-last.result row_in in
    let at_src = key_at rows place c.index-rows-last-in-loop-last.result row_in in
    let equal : eq_by_cmp prefix_cmp c.dst.result c.dst-dst.result ≡ true = search rules in
    let to : row_src.0.dst ≡ key.dst = ap (λ (k : RouteKey). k.dst) (sym (at_src row_src.0) ∙ at row_src.0) ∙ sym c.dst.ensures ∙ same_of _ _ equal ∙ c.dst-dst.ensures in
    record {
      within = omega (arith, (c.requires.nested.each place inside a).src_before);
      none =
          from_skips (keys_of rows) c.args.around.now c.requires.nested key place inside c.args.end before c.requires.up_to row_src.0 a at_src to
          (λ has. let yes = c.has_start_of.ensures.1 (covers_of (sym c.src.ensures) (sym c.src-src.ensures) has) in absurd cc)
          (λ k d low high has. c.loop-last.invariant.none k d (omega (arith, low)) high has);
    }

pub returns-else-eq-clause-none : goal.returns-else-eq-clause-none
returns-else-eq-clause-none g c =
    let rows = c.args.rows.now in
    let key = c.args.key.now in
    let place = c.loop-last.last - 1 in
    let within : c.loop-last.last ≤ c.args.end = c.loop-last.invariant.within in
    let some : 0 < c.loop-last.last = c.loop-last-test.true in
    let inside : place < length c.args.around.now = omega (arith, c.requires.inside) in
    let row_in : place < length rows = omega (arith, c.requires.nested.short, length-keys_of rows) in
    let before : place < c.args.end = omega arith in
    let row = get_or rows place c.index-rows-last.result in
    let other : eq_by_cmp prefix_cmp c.dst.result c.dst-dst.result ≡ false = search rules in
    from_ends (keys_of rows) c.args.around.now c.requires.nested key place inside c.args.end before c.requires.up_to row.0 (key_at rows place c.index-rows-last.result row_in)
    (λ same. apart_of _ _ other (c.dst.ensures ∙ same ∙ sym c.dst-dst.ensures))
    (λ k d low high has. c.loop-last.invariant.none k d (omega (arith, low)) high has)
