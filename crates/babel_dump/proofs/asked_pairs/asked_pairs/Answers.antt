use Rattle.std.proofs.Common.{◌≡◌, [], ◌∷◌, ◌++◌, rules}
use Rattle.babel_dump.proofs.AskedLaws.{nothing_step, pair_step, wrong_step}
use Rattle.babel_dump.proofs.asked_pairs.asked_pairs.Goals.{in-Nothing, in-Pair+in_ok-map_err-in-Pair}
use Rattle.babel_dump.proofs.asked_pairs.asked_pairs.Goals as goal

pub loop-index-preserved : goal.loop-index-preserved
loop-index-preserved c = record {
  lines_are = c.loop-index.invariant.lines_are;
  asked = elim c.match-branch-4.branch [
    | in-Nothing w ↦ rw w.pairs-is (nothing_step _ _ _ _ _ _ c.loop-index.invariant (search rules) c.in_ok-asked_by.ensures w.in-Nothing.is)
    | in-Pair+in_ok-map_err-in-Pair w ↦
        let items : w.push.new.self.items ≡ c.loop-index.pairs.items ++ w.in-Pair.pair ∷ [] = search rules in
        rw (w.pairs-is, items) (pair_step _ _ _ _ _ _ _ c.loop-index.invariant (search rules) c.in_ok-asked_by.ensures w.in-Pair.is)
  ];
}

pub returns-in-Wrong-clause-fault : goal.returns-in-Wrong-clause-fault
returns-in-Wrong-clause-fault c = wrong_step _ _ _ _ _ _ c.loop-index.invariant (search rules) c.in_ok-asked_by.ensures c.in-Wrong.is
