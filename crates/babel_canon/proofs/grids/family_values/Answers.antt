-- Each row of the family has its value, and behind the last one the rows are those of the table.
use Rattle.std.proofs.Common.{◌≡◌, ◌++◌, ◌∷◌, List, [], length, append_assoc, arith, ap, subst, sym, ◌∙◌}
use Rattle.std.proofs.lemmas.List.{append-nil, length-append}
use Rattle.babel_prefix.specs.BestRow.{HasDistinctPrefixes}
use Rattle.babel_tlv.specs.Pair.{Pair}
use Rattle.babel_table.specs.Left.{rows_left}
use Rattle.babel_table.specs.TableRows.{family_rows}
use Rattle.babel_canon.specs.declared.values.PackedValue.{PackedValue}
use Rattle.babel_canon.specs.Values.{AreNumberedEntries, packed_entries}
use Rattle.babel_canon.proofs.Entries.{distinct_entries}
use Rattle.babel_canon.proofs.PackedLaws.{packed_more, next_of_family, of_all_rows}
use Rattle.babel_canon.proofs.ValueLists.{distinct_prefixes, kept_by}
use Rattle.babel_canon.proofs.grids.family_values.Goals as goal

-- the rows so far, one more, and those that are left
passes : (rows so_far left rest : List Pair) (row : Pair) → so_far ++ left ≡ rows → left ≡ row ∷ rest → (so_far ++ row ∷ []) ++ rest ≡ rows
passes rows so_far left rest row whole is = append_assoc so_far (row ∷ []) rest ∙ ap (λ (t : List Pair). so_far ++ t) (sym is) ∙ whole

pub loop-key-preserved : goal.loop-key-preserved
loop-key-preserved c =
    let family = c.args.family in
    let all = c.args.table.now.rows in
    let row : Pair = (c.in-Some.key, c.in-Some.held) in
    let so_far = c.loop-key.yielded in
    let old = c.loop-key.packed.items in
    let value = c.in_ok-value.value in
    let left = rows_left c.loop-key.key-iterator in
    let rest = rows_left c.next.new.self in
    let is : left ≡ row ∷ rest = c.in-Some.ensures.steps in
    let here = next_of_family family all so_far rest row (ap (λ (t : List Pair). so_far ++ t) (sym is) ∙ c.loop-key.invariant.whole) in
    let pushed : c.push.new.self.items ≡ old ++ value ∷ [] = c.in_ok-push.ensures.items in
    let new_is : packed_entries (so_far ++ row ∷ []) c.push.new.self.items ≡ packed_entries so_far old ++ (row.0.dst, row.0.src, value) ∷ [] =
    ap (λ (vs : List PackedValue). packed_entries (so_far ++ row ∷ []) vs) pushed ∙ packed_more so_far old row value c.loop-key.invariant.as_many in
    record {
      numbered = c.in_ok-value.ensures.numbered;
      keeps = λ k held at. c.in_ok-value.ensures.keeps k held (c.loop-key.invariant.keeps k held at);
      whole = passes (family_rows family all) so_far left rest row c.loop-key.invariant.whole is;
      as_many = omega (arith, ap length pushed, length-append old (value ∷ []), length-append so_far (row ∷ []), c.loop-key.invariant.as_many);
      entries = kept_by family so_far row c.loop-key.values.list.items c.packed.new.self.list.items value (packed_entries so_far old) (packed_entries (so_far ++ row ∷ []) c.push.new.self.items)
          c.dst-valid.ensures.valid here new_is c.in_ok-value.ensures.keeps c.in_ok-value.ensures.found c.loop-key.invariant.entries;
    }

pub returns-clause-entries : goal.returns-clause-entries
returns-clause-entries c =
    let values = c.loop-key.values.list.items in
    let rows = c.args.table.now.rows in
    let mine = family_rows c.args.family rows in
    let so_far = c.loop-key.yielded in
    let packed = c.loop-key.packed.items in
    let all : so_far ≡ mine = sym (append-nil so_far) ∙ ap (λ (t : List Pair). so_far ++ t) (sym c.in-None.ensures.steps.0) ∙ c.loop-key.invariant.whole in
    of_all_rows c.args.family rows values (packed_entries mine packed)
    (subst (λ (ps : List Pair). AreNumberedEntries c.args.family ps values (packed_entries ps packed)) all c.loop-key.invariant.entries)

pub returns-clause-prefixes : goal.returns-clause-prefixes
returns-clause-prefixes c =
    let values = c.loop-key.values.list.items in
    let rows = c.args.table.now.rows in
    let mine = family_rows c.args.family rows in
    let so_far = c.loop-key.yielded in
    let packed = c.loop-key.packed.items in
    let all : so_far ≡ mine = sym (append-nil so_far) ∙ ap (λ (t : List Pair). so_far ++ t) (sym c.in-None.ensures.steps.0) ∙ c.loop-key.invariant.whole in
    let are : AreNumberedEntries c.args.family rows values (packed_entries mine packed) = of_all_rows c.args.family rows values (packed_entries mine packed)
    (subst (λ (ps : List Pair). AreNumberedEntries c.args.family ps values (packed_entries ps packed)) all c.loop-key.invariant.entries) in
    distinct_prefixes values (packed_entries mine packed) (subst HasDistinctPrefixes (sym are.items) (distinct_entries c.args.family rows c.rows_of-rows.ensures.valid.rising))
