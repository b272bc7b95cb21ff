use Rattle.std.proofs.Common.{◌≡◌, ◌++◌, List, arith, sym, ap, append-nil, ◌∙◌}
use Rattle.babel_prefix.specs.Width.{same_family}
use Rattle.babel_table.specs.TableRows.{family_rows}
use Rattle.babel_tlv.specs.Pair.{Pair}
use Rattle.babel_dump.specs.Filter.{is_kept, kept_rows}
use Rattle.babel_dump.specs.Summary.{counts_of, is_source_specific, is_unreachable}
use Rattle.babel_dump.specs.declared.summary.FamilySummary.{FamilySummary}
use Rattle.babel_dump.proofs.FilterLaws.{filter_few, fits}
use Rattle.babel_dump.proofs.SummaryLaws.{filters_swap}
use Rattle.babel_dump.proofs.summary.FamilySummary.of.Goals as goal

pub with-summary-requires-clause-routes : goal.with-summary-requires-clause-routes
with-summary-requires-clause-routes c =
    let before = c.loop-key.invariant in
    omega (arith, ap (λ (s : FamilySummary). s.routes) before.counted, fits c.args.filter.now _ c.loop-key.yielded _ _ _ before.whole c.in-Some.ensures.steps before.few)

pub with-summary-requires-clause-source_specific : goal.with-summary-requires-clause-source_specific
with-summary-requires-clause-source_specific c =
    let before = c.loop-key.invariant in
    omega (
      arith,
      ap (λ (s : FamilySummary). s.source_specific) before.counted,
      filter_few is_source_specific (kept_rows c.args.filter.now c.loop-key.yielded),
      fits c.args.filter.now _ c.loop-key.yielded _ _ _ before.whole c.in-Some.ensures.steps before.few,
    )

pub with-summary-requires-clause-unreachable : goal.with-summary-requires-clause-unreachable
with-summary-requires-clause-unreachable c =
    let before = c.loop-key.invariant in
    omega (
      arith,
      ap (λ (s : FamilySummary). s.unreachable) before.counted,
      filter_few (λ (row : Pair). is_unreachable row.1) (kept_rows c.args.filter.now c.loop-key.yielded),
      fits c.args.filter.now _ c.loop-key.yielded _ _ _ before.whole c.in-Some.ensures.steps before.few,
    )

pub returns : goal.returns
returns c =
    let asked = c.args.filter.now in
    let so_far = c.loop-key.yielded in
    let all : so_far ≡ family_rows c.args.family c.args.table.now.rows =
    sym (append-nil so_far) ∙ ap (λ (t : List Pair). so_far ++ t) (sym c.in-None.ensures.steps.0) ∙ c.loop-key.invariant.whole in
    c.loop-key.invariant.counted ∙ ap (λ (l : List Pair). counts_of (kept_rows asked l)) all
    ∙ ap counts_of (filters_swap (is_kept asked) (λ (row : Pair). same_family row.0.dst.address.family c.args.family) c.args.table.now.rows)
