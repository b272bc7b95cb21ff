-- The laws are lemmas of SelectionLaws.
use Rattle.babel_selection.proofs.SelectionLaws.{selected_is_least, selected_is_usable, unfeasible_is_not_selected}
use Rattle.babel_selection.proofs.laws.selected_is_best.Goals as goal

pub returns-clause-usable : goal.returns-clause-usable
returns-clause-usable c = selected_is_usable

pub returns-clause-least : goal.returns-clause-least
returns-clause-least c = selected_is_least

pub returns-clause-unfeasible : goal.returns-clause-unfeasible
returns-clause-unfeasible c = unfeasible_is_not_selected
