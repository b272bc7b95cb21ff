-- The first row of each list, and the order of their keys, say what comes first.
use Rattle.std.proofs.Common.{sym, ◌∙◌}
use Rattle.babel_canon.proofs.JoinedRows.{first_equal, first_greater, first_left, first_less, first_right}
use Rattle.babel_canon.proofs.differing_routes.RouteDifferences.next_key.Goals as goal

pub returns-in-None-Some : goal.returns-in-None-Some
returns-in-None-Some c = first_right _ _ _ _ (rw c.in-None-Some.is-0 at c.next.ensures.steps).0 c.in-None-Some.ensures.steps

pub returns-in-Some-None : goal.returns-in-Some-None
returns-in-Some-None c = first_left _ _ _ _ c.in-Some-None.ensures.steps (rw c.in-Some-None.is-1 at c.next-2.ensures.steps).0

pub returns-in-Less : goal.returns-in-Less
returns-in-Less c = first_less _ _ _ _ _ _ c.in-Some-Some.ensures.steps c.in-Some-Some.ensures'.steps (sym c.cmp.ensures ∙ c.in-Less.is)

pub returns-in-Equal : goal.returns-in-Equal
returns-in-Equal c = first_equal _ _ _ _ _ _ c.in-Some-Some.ensures.steps c.in-Some-Some.ensures'.steps (sym c.cmp.ensures ∙ c.in-Equal.is)

pub returns-in-Greater : goal.returns-in-Greater
returns-in-Greater c = first_greater _ _ _ _ _ _ c.in-Some-Some.ensures.steps c.in-Some-Some.ensures'.steps (sym c.cmp.ensures ∙ c.in-Greater.is)
