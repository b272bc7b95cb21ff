-- How many Updates a packet has, and at which Intervals they come: RFC 8966, 4.3, 4.6.9.
use Rattle.std.specs.Prelude.{ℕ, Bool, ◌==◌, ◌&&◌, nat_le, nat_lt, if◌then◌else◌, List, length}
use Rattle.std.specs.Prelude.{drop, count_by, fold, Option, None, Some}
use Rattle.std.specs.List.{flat_map}
use Rattle.babel_capture.specs.declared.order.Order.TheVariants as orders
use Rattle.babel_capture.specs.Numbers.{number_at}
use Rattle.babel_capture.specs.Timing.{greatest}
use Rattle.babel_tlv.specs.Framing.{TlvAt, tlv_octets, tlvs_of}

-- RFC 8966, 4.6.9: an Update has type 8
abbrev pub is_update : TlvAt → Bool
is_update tlv = tlv.kind == 8

-- RFC 8966, 4.6.9: the Interval of an Update that announces, in centiseconds: its body has at least
-- 10 octets, and its metric is not FFFF
abbrev pub announces : TlvAt → Bool
announces tlv =
    is_update tlv && (nat_le 10 (length tlv.body)
    && nat_lt (number_at orders.Big 2 tlv.body 8) 0xffff)

abbrev pub announced_interval : TlvAt → Option ℕ
announced_interval tlv =
    if announces tlv then Some (number_at orders.Big 2 tlv.body 4) else None

-- the TLVs that octets are, whatever they hold; none is counted where they are no TLVs to the end
abbrev pub updates_of : List ℕ → List TlvAt → ℕ
updates_of body tlvs =
    if length (flat_map tlv_octets tlvs) == length body then count_by is_update tlvs else 0

-- those of a packet's body, after its header of 4 octets
unfoldable pub updates_in : List ℕ → ℕ
updates_in packet = updates_of (drop 4 packet) (tlvs_of 0 (drop 4 packet))

-- the greatest Interval of those that announce
abbrev pub greatest_of : Option ℕ → List TlvAt → Option ℕ
greatest_of interval tlvs = fold (λ i tlv. greatest i (announced_interval tlv)) interval tlvs

abbrev pub interval_of : List ℕ → List TlvAt → Option ℕ
interval_of body tlvs =
    if length (flat_map tlv_octets tlvs) == length body then greatest_of None tlvs else None

unfoldable pub interval_in : List ℕ → Option ℕ
interval_in packet = interval_of (drop 4 packet) (tlvs_of 0 (drop 4 packet))
