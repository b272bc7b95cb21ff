use Rattle.std.proofs.Common.{◌≡◌, ◌^◌, ◌<◌, [], length, refl, sym, ap, ◌∙◌, arith}
use Rattle.babel_dump.specs.Filter.{is_kept, keeps_every, kept_rows}
use Rattle.babel_dump.specs.PairLines.{HasCounted}
use Rattle.babel_dump.specs.declared.filter.Filter.{Filter}
use Rattle.babel_dump.specs.declared.kept_count.KeptCount.{KeptCount}
use Rattle.babel_dump.proofs.FilterLaws.{every_kept, filter_few}
use Rattle.babel_dump.proofs.kept_count.kept_count.Goals as goal

begun : (filter : Filter) → HasCounted (record { filter = filter; count = 0 }) (record { filter = filter; count = 0 }) []
begun filter = record { same_filter = refl; count_is = λ small. refl }

pub returns-then-is_every-clause-ok : goal.returns-then-is_every-clause-ok
returns-then-is_every-clause-ok c =
    let pairs = c.in_ok-pairs.pairs in
    let is : c.args.filter ≡ keeps_every = c.is_every.ensures.0 c.if-is_every.true in record {
      pairs = pairs;
      are_canonical = c.in_ok-pairs.ensures.ok;
      count_is = c.count-all.ensures ∙ sym (ap (λ (f : Filter). length (kept_rows f pairs)) is ∙ ap length (every_kept pairs));
    }

pub returns-in_err-put-clause-err : goal.returns-in_err-put-clause-err
returns-in_err-put-clause-err c =
    let begin : KeptCount = record { filter = c.args.filter; count = 0 } in
    absurd (c.in_err-put.ensures.err begin [] (begun c.args.filter)).stopped

pub returns-clause-ok : goal.returns-clause-ok
returns-clause-ok c =
    let begin : KeptCount = record { filter = c.args.filter; count = 0 } in
    let pairs = c.in_ok-pairs.pairs in
    let small : length (kept_rows c.args.filter pairs) < 2 ^ 64 = omega (arith, filter_few (is_kept c.args.filter) pairs, c.count-all.ensures, c.count-all.type_inv) in record {
      pairs = pairs;
      are_canonical = c.in_ok-pairs.ensures.ok;
      count_is = (c.in_ok-put.ensures.ok begin [] (begun c.args.filter)).count_is small;
    }
