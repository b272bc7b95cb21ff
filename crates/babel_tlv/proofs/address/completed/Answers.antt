-- The omitted octets, those behind them and zeros are the number of the address.
use Rattle.std.proofs.Common.{◌≡◌, ℕ, ◌+◌, ◌-◌, ◌*◌, ◌^◌, ◌≤◌, ◌∙◌, length, take, ap, sym, arith, rules}
use Rattle.std.specs.Int.Digits.{number_from_digits, number_from_digits_after}
use Rattle.babel_prefix.specs.Width.{octet_count}
use Rattle.babel_prefix.specs.Address.{Address}
use Rattle.babel_tlv.specs.Reading.{default_octets}
use Rattle.babel_tlv.proofs.FormLaws.{few_octets, pow_256-le, length-omitted, number-formed}
use Rattle.babel_tlv.proofs.address.completed.Goals as goal

pub number_after-number-requires-clause-room : goal.number_after-number-requires-clause-room
number_after-number-requires-clause-room c =
    let room : 256 ^ c.args.omitted ≤ 256 ^ (16 - length c.args.octets.now) = pow_256-le c.args.omitted (16 - length c.args.octets.now) (omega (arith, few_octets c.args.family)) in
    omega (arith, room, c.omitted_octets-front.ensures.fits)

pub returns : goal.returns
returns c =
    let family = c.args.family in
    let octets = c.args.octets.now in
    let front = take c.args.omitted (default_octets c.args.default) in
    let count = c.args.omitted + length octets in
    let sized : length front ≡ c.args.omitted = length-omitted family c.args.default c.args.omitted (omega arith) c.requires.of_family c.requires.has_default in
    let number : c.number_after-number.result ≡ number_from_digits_after 256 (number_from_digits 256 front) octets =
    c.number_after-number.ensures.value ∙ ap (λ (n : ℕ). number_from_digits_after 256 n octets) c.omitted_octets-front.ensures.value in
    let bits = c.moved_up-bits.ensures.value ∙ ap (λ (n : ℕ). n * 256 ^ (octet_count family - count)) number
    ∙ sym (number-formed (octet_count family) count front octets (omega (arith, sized)) c.requires.few) in
    let addr : c.unwrap.result ≡ record { family = family; bits = c.moved_up-bits.result } = search rules in
    addr ∙ ap (λ (n : ℕ). let a : Address = record { family = family; bits = n } in a) bits
