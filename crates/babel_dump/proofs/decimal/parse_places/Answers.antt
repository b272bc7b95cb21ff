-- At most nine digits, and as many zeros as are missing, write a number of 32 bits.
use Rattle.std.proofs.Common.{ℕ, ◌*◌, ◌-◌, ◌^◌, ◌<◌, ◌≤◌, length, arith}
use Rattle.babel_dump.specs.Decimals.{number}
use Rattle.babel_dump.proofs.WordLaws.{digits_small, places_fit}
use Rattle.babel_dump.proofs.decimal.parse_places.Goals as goal

pub returns-in_err-number : goal.returns-in_err-number
returns-in_err-number c = rw c.from_residual-in_err-number.ensures (λ are.
    let small = digits_small c.args.digits.now 9 are.0.1 (omega (arith, are.1, c.requires)) in
    c.in_err-number.ensures (are.0, omega arith))

pub overflow_cast-number : goal.overflow_cast-number
overflow_cast-number c =
    let few : length c.args.digits.now ≤ 9 = omega (arith, c.in_ok-zeros.ensures.0, c.requires) in
    omega (arith, c.in_ok-number.ensures.1, digits_small c.args.digits.now 9 c.in_ok-number.ensures.0.0.1 few)

pub overflow_mul-result : goal.overflow_mul-result
overflow_mul-result c =
    let count : ℕ = length c.args.digits.now in
    let within : count ≤ c.args.most = c.in_ok-zeros.ensures.0 in
    let small = digits_small c.args.digits.now count c.in_ok-number.ensures.0.0.1 (omega arith) in
    let fits : number c.args.digits.now * 10 ^ (c.args.most - count) < 10 ^ 9 = places_fit c.args.most count (number c.args.digits.now) c.requires within small in
    rw (c.pow.ensures, c.in_ok-zeros.ensures.1, c.in_ok-number.ensures.1) (omega arith)
