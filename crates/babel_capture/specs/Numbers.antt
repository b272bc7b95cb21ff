-- Numbers in the octets of a capture, in either byte order: draft-ietf-opsawg-pcap, 4;
-- draft-ietf-opsawg-pcapng, 4.1.
use Rattle.std.specs.Prelude.{ℕ, List, drop}
use Rattle.byteorder.specs.Endian.{big_number, little_number}
use Rattle.babel_capture.specs.declared.order.Order.{Order}
use Rattle.babel_capture.specs.declared.order.Order.TheVariants as orders

-- the number in so many octets from a place on
unfoldable pub number_at : Order → ℕ → List ℕ → ℕ → ℕ
number_at orders.Big count octets place = big_number count (drop place octets)
number_at orders.Little count octets place = little_number count (drop place octets)
