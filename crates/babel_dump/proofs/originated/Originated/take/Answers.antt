use Rattle.std.proofs.Common.{[], ◌∷◌, ◌++◌, List, ap, append_assoc, sym, ◌∙◌}
use Rattle.babel_table.specs.Left.{rows_left}
use Rattle.babel_tlv.specs.Pair.{Pair}
use Rattle.babel_dump.proofs.OriginatedLaws.{takes_next}
use Rattle.babel_dump.proofs.originated.Originated.take.Goals as goal

pub loop-key-preserved : goal.loop-key-preserved
loop-key-preserved c =
    let row : Pair = (c.in-Some.key, c.in-Some.held) in
    let rows = c.loop-key.yielded in
    record {
      whole = append_assoc rows (row ∷ []) (rows_left c.next.new.self) ∙ ap (λ (l : List Pair). rows ++ l) (sym c.in-Some.ensures.steps) ∙ c.loop-key.invariant.whole;
      takes = takes_next c.args.side c.args.filter.now rows row c.args.self.now.all.entries c.loop-key.self.all.entries c.take_kept.new.self.all.entries
          c.loop-key.invariant.takes c.in_ok-take_kept.ensures;
    }
