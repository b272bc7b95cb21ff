use Rattle.babel_dump.proofs.tasks.found_of.Goals as goal

pub returns-in_ok-found_rows-in-Show-clause-ok : goal.returns-in_ok-found_rows-in-Show-clause-ok
returns-in_ok-found_rows-in-Show-clause-ok c = rw c.in-Show.is c.in_ok-found_rows-in-Show.ensures

pub returns-in_ok-found_answer-in-Lookup-clause-ok : goal.returns-in_ok-found_answer-in-Lookup-clause-ok
returns-in_ok-found_answer-in-Lookup-clause-ok c = rw c.in-Lookup.is (rw c.answer_of.ensures at c.in_ok-found_answer-in-Lookup.ensures)

pub returns-in_ok-found_any_source-in-AnySource-clause-ok : goal.returns-in_ok-found_any_source-in-AnySource-clause-ok
returns-in_ok-found_any_source-in-AnySource-clause-ok c = rw c.in-AnySource.is c.in_ok-found_any_source-in-AnySource.ensures

pub returns-in-Key-clause-ok : goal.returns-in-Key-clause-ok
returns-in-Key-clause-ok c = rw c.in-Key.is (rw c.name-name.ensures at c.found_key.ensures.ok)

pub returns-in_ok-found_routes-in-Routes-clause-ok : goal.returns-in_ok-found_routes-in-Routes-clause-ok
returns-in_ok-found_routes-in-Routes-clause-ok c = rw (c.in-Pairs.is, c.in-Routes.is) c.in_ok-found_routes-in-Routes.ensures
