use Rattle.std.proofs.Common.{map}
use Rattle.babel_dump.specs.AskedPairs.{words_of}
use Rattle.babel_dump.proofs.NamesLaws.{takes_line}
use Rattle.babel_dump.proofs.names.Names.take_line.Goals as goal

pub returns : goal.returns
returns c = takes_line (words_of c.args.line.now) (map (λ word. word.now) c.deref.result.now) _ _ c.take_words.result (rw c.deref.ensures.value c.in_ok-words.ensures) c.take_words.ensures
