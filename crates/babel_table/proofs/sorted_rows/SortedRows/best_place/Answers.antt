-- The best match among the rows of the addresses' family is that among all.
use Rattle.std.proofs.Common.{◌≡◌, List, ◌++◌, subst}
use Rattle.babel_prefix.specs.declared.family.Family.TheVariants.{V4, V6}
use Rattle.babel_tlv.specs.Pair.{Pair}
use Rattle.babel_table.specs.RowFor.{IsBestOf, row_at}
use Rattle.babel_table.proofs.FamilyLaws.{rows-v4, rows-v6}
use Rattle.babel_table.proofs.KeptLaws.{match-v4, match-v6}
use Rattle.babel_table.proofs.sorted_rows.SortedRows.best_place.Goals as goal

pub returns-in-V4-clause-best : goal.returns-in-V4-clause-best
returns-in-V4-clause-best c =
    let v4 : List Pair = c.self.inside.v4 in
    let v6 : List Pair = c.self.inside.v6 in
    let d = c.args.dst.now in
    let s = c.args.src.now in
    let place = c.best_place.result in
    let of : d.family ≡ V4 = cc in
    let whole = match-v4 (row_at v4 place) v4 v6 d s c.self.invariant.1 of c.best_place.ensures in
    subst (λ (rows : List Pair). IsBestOf c.args.self.now d s (row_at rows place)) (rows-v4 d.family v4 v6 _ of c.self.view_is c.self.invariant.0 c.self.invariant.1)
    (subst (λ (rows : List Pair). IsBestOf rows d s (row_at v4 place)) c.self.view_is whole)

pub returns-in-V6-clause-best : goal.returns-in-V6-clause-best
returns-in-V6-clause-best c =
    let v4 : List Pair = c.self.inside.v4 in
    let v6 : List Pair = c.self.inside.v6 in
    let d = c.args.dst.now in
    let s = c.args.src.now in
    let place = c.best_place-in-V6.result in
    let of : d.family ≡ V6 = cc in
    let whole = match-v6 (row_at v6 place) v4 v6 d s c.self.invariant.0 of c.best_place-in-V6.ensures in
    subst (λ (rows : List Pair). IsBestOf c.args.self.now d s (row_at rows place)) (rows-v6 d.family v4 v6 _ of c.self.view_is c.self.invariant.0 c.self.invariant.1)
    (subst (λ (rows : List Pair). IsBestOf rows d s (row_at v6 place)) c.self.view_is whole)
