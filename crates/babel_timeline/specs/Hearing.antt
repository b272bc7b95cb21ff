-- What of each sender was heard, and the report of its TLVs: this project's own.
use Rattle.std.specs.Prelude.{◌≡◌, ℕ, ◌+◌, List, [], ◌∷◌, ◌++◌, length}
use Rattle.std.specs.declared.cmp.Ordering.{Ordering}
use Rattle.std.specs.BTreeMap.{insert_entry, is_at}
use Rattle.std.specs.Map.{lookup}
use Rattle.std.specs.Option.{unwrap_or}
use Rattle.babel_tlv.specs.declared.start.Start.{Start}
use Rattle.babel_tlv.specs.Framing.{ArePackets, TlvAt, packet_octets}
use Rattle.babel_tlv.specs.Says.{Saying, sayings_after}
use Rattle.babel_table.specs.Counts.{Counts, counts_of}
use Rattle.babel_timeline.specs.declared.heard.Heard.{Heard}

-- a report of some sayings becomes that of these and more
abbrev pub CountsMore : Counts → List Saying → Counts → Type 0
CountsMore old more new =
    (before : List Saying) → old ≡ counts_of before → new ≡ counts_of (before ++ more)

-- the packet, which lies at this offset, is TLVs, and a report comes to count them, too
pub record CountsAt (at : ℕ) (start : Start) (packet : List ℕ) (old new : Counts) : Type 0 where
  pub tlvs : List TlvAt
  pub rest : List ℕ
  pub whole : packet ≡ packet_octets tlvs ++ rest
  pub placed : ArePackets at (tlvs ∷ [])
  pub counts : CountsMore old (sayings_after start [] tlvs) new

abbrev pub nothing_heard : Heard
nothing_heard = record { octets = 0; report = counts_of [] }

module _ {S : Type 0} (cmp : S → S → Ordering) where
  -- what of the sender was heard: how many octets, and the report of their TLVs
  abbrev pub heard_of : List (S × Heard) → S → Heard
  heard_of heard sender = unwrap_or (lookup (is_at (cmp sender)) heard) nothing_heard

  abbrev pub octets_heard : List (S × Heard) → S → ℕ
  octets_heard heard sender = (heard_of heard sender).octets

  abbrev pub report_of : List (S × Heard) → S → Counts
  report_of heard sender = (heard_of heard sender).report

  -- of the sender one packet more was heard, which lies after those before it and whose TLVs are
  -- counted, and of other senders nothing
  pub record CountsPacket (sender : S) (start : Start) (packet : List ℕ)
      (old new : List (S × Heard)) : Type 0 where
    pub report : Counts
    pub counts : CountsAt (octets_heard old sender) start packet (report_of old sender) report
    pub heard : new ≡ insert_entry cmp old sender
        (record { octets = octets_heard old sender + length packet; report = report })
