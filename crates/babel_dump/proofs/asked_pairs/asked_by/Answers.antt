use Rattle.babel_dump.specs.AskedPairs.{words_of}
use Rattle.babel_dump.proofs.AskedLaws.{asks_by_three}
use Rattle.babel_dump.proofs.asked_pairs.asked_by.Goals as goal

pub returns : goal.returns
returns c = asks_by_three (words_of c.args.line.now) c.asked_in.result (rw (← c.in_ok-first_words.ensures, ← c.deref.ensures.value) c.asked_in.ensures)
