use Rattle.babel_dump.proofs.tasks.found_of_both.Goals as goal

pub returns-in-First-clause-ok : goal.returns-in-First-clause-ok
returns-in-First-clause-ok c = rw (c.in-Compare.is, c.in-Answers.is, c.in-First.is) c.found_verdict.ensures.ok

pub returns-in-All-clause-ok : goal.returns-in-All-clause-ok
returns-in-All-clause-ok c = rw (c.in-Compare.is, c.in-Answers.is, c.in-All.is) c.found_differences.ensures.ok

pub returns-in-Count-clause-ok : goal.returns-in-Count-clause-ok
returns-in-Count-clause-ok c = rw (c.in-Compare.is, c.in-Answers.is, c.in-Count.is) c.found_differences-in-Count.ensures.ok

pub returns-in-Routes-clause-ok : goal.returns-in-Routes-clause-ok
returns-in-Routes-clause-ok c = rw (c.in-Compare.is, c.in-Routes.is) c.found_route_differences.ensures.ok

pub returns-in-Diff-clause-ok : goal.returns-in-Diff-clause-ok
returns-in-Diff-clause-ok c = rw c.in-Diff.is c.found_diff.ensures.ok
