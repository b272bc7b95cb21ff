-- Babel packets, end to end: RFC 8966, 4.2.
use Rattle.std.specs.Prelude.{◌≡◌, ℕ, List}
use Rattle.std.specs.List.{All, flat_map}
use Rattle.babel_tlv.specs.Framing.{IsBody, framed}
use Rattle.babel_tlv.specs.declared.fault.Fault.{Fault}
use Rattle.babel_tlv.specs.declared.fault.Fault.TheVariants as faults

-- the octets are headers with their bodies, and nothing else
pub record ArePackets (octets : List ℕ) : Type 0 where
  pub bodies : List (List ℕ)
  pub fit : All IsBody bodies
  pub whole : octets ≡ flat_map framed bodies

-- a TLV runs past the end of its packet's body: RFC 8966, 4.3
abbrev pub IsPastEnd : Fault → Type 0
IsPastEnd (faults.TlvPastEnd at) = Unit {0}
IsPastEnd fault = ⊥
