-- The number is that of the octets so far.
use Rattle.std.proofs.Common.{◌≡◌, take}
use Rattle.std.specs.Int.Digits.{number_from_digits_after}
use Rattle.babel_tlv.proofs.address.number_after.Given as goal

abbrev pub invariant-loop-octet : goal.invariant-loop-octet
invariant-loop-octet l = l.number ≡ number_from_digits_after 256 l.fn.front (take l.octet-index l.octets)
