use Rattle.babel_dump.proofs.Beginnings.{enough_read}
use Rattle.babel_dump.proofs.begun.Begun.new.Goals as goal

pub returns-clause-begins : goal.returns-clause-begins
returns-clause-begins g c = record {
  first = _;
  rest = g.R.Read.remaining c.read_first-len.new.reader;
  are_first = c.read_first-len.ensures.read;
  has_failed = c.read_first-len.result.1;
  begins_is = c.told_by.ensures;
  enough = λ not_failed. enough_read c.read_first-len.result.0 c.read_first-len.new.first _ c.read_first-len.ensures.same (c.read_first-len.ensures.enough not_failed);
}
