-- What a Hello says, unless it is ignored: RFC 8966, 3.4.1, 4.6.5.
use Rattle.std.specs.Prelude.{◌≡◌, ℕ, ◌+◌, ◌*◌, ◌/◌, ◌%◌, ◌^◌, ◌<◌, Bool, ◌==◌, ◌&&◌, ◌||◌, not}
use Rattle.std.specs.Prelude.{nat_lt, if◌then◌else◌, List, ◌∷◌, ◌++◌, length, drop, slice_index}
use Rattle.std.specs.Prelude.{Option, Some, None, is_ok, true}
use Rattle.std.specs.Int.{w16, to_be_bytes}
use Rattle.babel_tlv.specs.declared.hello.Hello.{Hello}
use Rattle.babel_tlv.specs.declared.place.Place.TheVariants as places
use Rattle.babel_tlv.specs.Framing.{TlvAt}
use Rattle.babel_tlv.specs.SubTlv.{sub_tlvs}

-- RFC 8966, 4.6.5: Flags, of which the first is U (Unicast), Seqno and Interval; nothing where octets
-- are missing, or the sub-TLVs after them can't be read
abbrev pub hello_in : List ℕ → Option Hello
hello_in body =
    if nat_lt (length body) 6 || not (is_ok (sub_tlvs places.Elsewhere (drop 6 body))) then None
    else Some (record {
      is_unicast = slice_index body 0 / 128 % 2 == 1;
      seqno = slice_index body 2 * 256 + slice_index body 3;
      interval = slice_index body 4 * 256 + slice_index body 5;
    })

-- what a TLV says as a Hello
abbrev pub hello_of : TlvAt → Option Hello
hello_of tlv = if tlv.kind == 4 then hello_in tlv.body else None

-- RFC 8966, 3.4.1, 4.6.5: it is multicast, and says when the next one comes
abbrev pub is_scheduled : Hello → Bool
is_scheduled hello = not hello.is_unicast && nat_lt 0 hello.interval

-- ---- a law: a Hello that is written so is read so

-- the U flag, or none
abbrev pub unicast_flag : Bool → ℕ
unicast_flag is_unicast = if is_unicast then 128 else 0

abbrev pub HelloIsRead : Type 0
HelloIsRead = (at : ℕ) (hello : Hello) (octets : List ℕ)
    → hello.seqno < 2 ^ 16 → hello.interval < 2 ^ 16
    → is_ok (sub_tlvs places.Elsewhere octets) ≡ true
    → hello_of (record {
      at = at;
      kind = 4;
      body = unicast_flag hello.is_unicast ∷ 0 ∷ to_be_bytes w16 hello.seqno
          ++ to_be_bytes w16 hello.interval ++ octets;
    }) ≡ Some hello
