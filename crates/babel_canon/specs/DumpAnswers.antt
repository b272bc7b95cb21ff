-- What a dump answers for a destination and a source address, by what it tells: RFC 8966, 2.8,
-- 3.5.3, 4.6.9; RFC 9079, 4.
use Rattle.std.specs.Prelude.{◌≡◌, ◌↔◌, Bool, List, Option, IsFalse}
use Rattle.std.specs.List.{flat_map, list_any}
use Rattle.babel_prefix.specs.Address.{Address, IsAddress}
use Rattle.babel_tlv.specs.declared.held.Held.{Held}
use Rattle.babel_tlv.specs.declared.mode.Mode.{Mode}
use Rattle.babel_tlv.specs.Context.{first_context}
use Rattle.babel_tlv.specs.Framing.{TlvAt, ArePackets, packet_octets}
use Rattle.babel_tlv.specs.Says.{refuses, told_by}
use Rattle.babel_table.specs.BestMatch.{IsBestAmong}
use Rattle.babel_table.specs.Holds.{Holds}
use Rattle.babel_canon.specs.Sent.{Sent}

-- The dump, which is packets of which no TLV refuses it, answers this for a destination and a
-- source address, where encoding 4 is read or not: what is held for the most specific key that
-- contains both (RFC 9079, 4), after all that is told, in order, from nothing on (RFC 8966, 3.5.3);
-- the context begins anew with each packet (4.5).
-- This project's own: what a router drops, or skips after a body, refuses the dump; feasibility,
-- seqnos and the time that a route lasts are the receiver's.
pub record DumpAnswers (via_v6 : Bool) (mode : Mode) (one : Sent) (d s : Address)
    (answer : Option Held) : Type 0 where
  pub packets : List (List TlvAt)
  pub whole : one.dump ≡ flat_map packet_octets packets
  pub placed : ArePackets 0 packets
  pub none_refuses : IsFalse (list_any (list_any (refuses via_v6)) packets)
  pub answers : let start = first_context (record { sender = one.sender; via_v6 = via_v6 }) in
      IsBestAmong (Holds mode (flat_map (told_by start) packets)) d s answer

-- the dump has exactly one answer for each destination and source address of one family
abbrev pub IsSettled : Bool → Mode → Sent → Type 0
IsSettled via_v6 mode one =
    (d s : Address) → IsAddress d → IsAddress s → d.family ≡ s.family
    → ((answer : Option Held) × DumpAnswers via_v6 mode one d s answer
    × ((other : Option Held) → DumpAnswers via_v6 mode one d s other → other ≡ answer))

-- two dumps answer the same for each destination and source address of one family
abbrev pub AnswerAlike : Bool → Mode → Sent → Sent → Type 0
AnswerAlike via_v6 mode one other =
    (d s : Address) → IsAddress d → IsAddress s → d.family ≡ s.family → (answer : Option Held)
    → DumpAnswers via_v6 mode one d s answer ↔ DumpAnswers via_v6 mode other d s answer
