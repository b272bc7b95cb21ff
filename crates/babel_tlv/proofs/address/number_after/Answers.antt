-- Each octet goes on the number, which has room for all of them.
use Rattle.std.proofs.Common.{◌≡◌, ◌<◌, ◌+◌, ◌*◌, ◌^◌, ◌∙◌, length, get_or, ap, sym, subst, arith, ℕ}
use Rattle.babel_tlv.proofs.FormLaws.{number_after-room, number_after-more, number_after-below}
use Rattle.babel_tlv.proofs.address.number_after.Goals as goal

pub overflow_mul-number : goal.overflow_mul-number
overflow_mul-number c =
    let i = c.loop-octet.octet-index in
    omega (arith, c.loop-octet.invariant, number_after-room c.args.front c.args.octets.now i c.requires.few c.requires.room (λ j. omega (arith, c.type_inv.octets j)) (omega arith))

pub overflow_add-number : goal.overflow_add-number
overflow_add-number c =
    let i = c.loop-octet.octet-index in
    omega (arith, c.loop-octet.invariant, number_after-room c.args.front c.args.octets.now i c.requires.few c.requires.room (λ j. omega (arith, c.type_inv.octets j)) (omega arith))

pub loop-octet-preserved : goal.loop-octet-preserved
loop-octet-preserved c =
    let i = c.loop-octet.octet-index in
    ap (λ (n : ℕ). n * 256 + get_or c.args.octets.now i 0) c.loop-octet.invariant ∙ sym (number_after-more c.args.front c.args.octets.now i (omega arith))

pub returns-clause-fits : goal.returns-clause-fits
returns-clause-fits c = λ a below.
    let all : c.loop-octet.octet-index ≡ length c.args.octets.now = omega arith in
    subst (λ (i : ℕ). c.loop-octet.number < 256 ^ (a + i)) all
    (subst (λ (n : ℕ). n < 256 ^ (a + c.loop-octet.octet-index)) (sym c.loop-octet.invariant)
    (number_after-below a c.args.front c.args.octets.now c.loop-octet.octet-index (omega arith) below (λ j. omega (arith, c.type_inv.octets j))))
