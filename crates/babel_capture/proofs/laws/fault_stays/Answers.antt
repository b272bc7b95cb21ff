use Rattle.babel_capture.proofs.StreamLaws.{stops-more}
use Rattle.babel_capture.proofs.laws.fault_stays.Goals as goal

pub returns : goal.returns
returns c limit wanted octets more fault stops = stops-more limit wanted octets more fault stops
