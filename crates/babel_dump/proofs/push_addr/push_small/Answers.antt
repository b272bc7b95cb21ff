use Rattle.std.proofs.Common.{rules, arith}
use Rattle.babel_dump.proofs.DigitLaws.{small_one, small_two, small_three}
use Rattle.babel_dump.proofs.push_addr.push_small.Goals as goal

pub returns-then-number-lt10-clause-text : goal.returns-then-number-lt10-clause-text
returns-then-number-lt10-clause-text c = search (rules, small_one c.args.buffer.now.items c.args.number (omega arith))

pub returns-then-number-lt100-clause-text : goal.returns-then-number-lt100-clause-text
returns-then-number-lt100-clause-text c = search (rules, small_two c.args.buffer.now.items c.args.number (omega arith) (omega arith))

pub returns-clause-text : goal.returns-clause-text
returns-clause-text c = search (rules, small_three c.args.buffer.now.items c.args.number (omega arith) (omega arith))
