-- The laws are lemmas of OneCapture.
use Rattle.babel_capture.proofs.OneCapture.{capture_is_one, cut_capture_is_one}
use Rattle.babel_capture.proofs.laws.capture_is_one.Goals as goal

pub returns-clause-whole : goal.returns-clause-whole
returns-clause-whole c = capture_is_one

pub returns-clause-cut : goal.returns-clause-cut
returns-clause-cut c = cut_capture_is_one
