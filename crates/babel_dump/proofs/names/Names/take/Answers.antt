use Rattle.std.proofs.Common.{rules}
use Rattle.babel_dump.proofs.NamesLaws.{first_unnamed, named_none, taken_more}
use Rattle.babel_dump.proofs.names.Names.take.Goals as goal

pub loop-index-init : goal.loop-index-init
loop-index-init c = record {
  lines_are = search rules;
  named = named_none c.args.self.now c.requires;
}

pub loop-index-preserved : goal.loop-index-preserved
loop-index-preserved c = record {
  lines_are = c.loop-index.invariant.lines_are;
  named = taken_more _ _ _ _ _ _ _ c.loop-index.invariant (search rules) (search rules) c.in_ok-take_line.ensures;
}

pub returns-then-not-branch-clause-fault : goal.returns-then-not-branch-clause-fault
returns-then-not-branch-clause-fault c = first_unnamed _ _ _ _ _ _ _ c.loop-index.invariant (search rules) (search rules) c.in_ok-take_line.ensures
