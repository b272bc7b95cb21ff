use Rattle.std.proofs.Common.{rules, arith}
use Rattle.babel_dump.proofs.DigitLaws.{group_one, group_two, group_three, group_four}
use Rattle.babel_dump.proofs.push_addr.push_group.Goals as goal

pub returns-then-group-lt16-clause-text : goal.returns-then-group-lt16-clause-text
returns-then-group-lt16-clause-text c = search (rules, group_one c.args.buffer.now.items c.args.group (omega arith))

pub returns-then-group-lt256-clause-text : goal.returns-then-group-lt256-clause-text
returns-then-group-lt256-clause-text c = search (rules, group_two c.args.buffer.now.items c.args.group (omega arith) (omega arith))

pub returns-then-group-lt4096-clause-text : goal.returns-then-group-lt4096-clause-text
returns-then-group-lt4096-clause-text c = search (rules, group_three c.args.buffer.now.items c.args.group (omega arith) (omega arith))

pub returns-clause-text : goal.returns-clause-text
returns-clause-text c = search (rules, group_four c.args.buffer.now.items c.args.group (omega arith) (omega arith))
