use Rattle.babel_dump.proofs.routes.listed_rows.Goals as goal

pub returns-in_ok-first-in-First : goal.returns-in_ok-first-in-First
returns-in_ok-first-in-First c = rw (c.in-First.is, ← c.in_ok-first-in-First.ensures) c.difference_rows.ensures
