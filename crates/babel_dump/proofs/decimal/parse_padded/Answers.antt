-- Four digits write a number of 16 bits.
use Rattle.std.proofs.Common.{arith}
use Rattle.babel_dump.proofs.WordLaws.{padded_small}
use Rattle.babel_dump.proofs.decimal.parse_padded.Goals as goal

pub returns-in_err-parse_digits : goal.returns-in_err-parse_digits
returns-in_err-parse_digits c = rw c.from_residual.ensures (λ are.
    let small = padded_small c.args.count c.args.word.now c.requires.few are in
    c.in_err-parse_digits.ensures ((omega (arith, are.0, c.requires.some), are.1), omega arith))

pub overflow_cast-result : goal.overflow_cast-result
overflow_cast-result c =
    let read = c.in_ok-parse_digits.ensures in
    omega (arith, read.1, padded_small c.args.count c.args.word.now c.requires.few (omega arith, read.0.0.1))
