use Rattle.babel_selection.proofs.OwnLaws.{heard_one}
use Rattle.babel_selection.proofs.sources.Sources.hear_event.Goals as goal

pub returns-in-Announce : goal.returns-in-Announce
returns-in-Announce c = heard_one _ _ _ _ _ _ _ c.in-Announce.is c.hear.ensures
