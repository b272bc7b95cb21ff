-- The Hellos and IHUs of packets, in the order in which they came, and which links these tell of:
-- RFC 8966, 3.4, 4.6.5, 4.6.6.
use Rattle.std.specs.Prelude.{◌≡◌, ℕ, Bool, ◌==◌, if◌then◌else◌, List, [], ◌++◌, length, map}
use Rattle.std.specs.Prelude.{Option}
use Rattle.std.specs.declared.cmp.Ordering.{Ordering}
use Rattle.std.specs.List.{filter_map, flat_map}
use Rattle.std.specs.List.Sorted.{IsStrictlySortedBy}
use Rattle.std.specs.Map.{keys_of}
use Rattle.std.specs.Option.{option_map, option_or}
use Rattle.babel_prefix.specs.Address.{Address}
use Rattle.babel_tlv.specs.Framing.{TlvAt, tlv_octets, tlvs_of}
use Rattle.babel_tlv.specs.Hellos.{hello_of}
use Rattle.babel_tlv.specs.Ihus.{ihu_of}
use Rattle.babel_tlv.specs.declared.hello.Hello.{Hello}
use Rattle.babel_tlv.specs.declared.ihu.Ihu.{Ihu}
use Rattle.babel_timeline.specs.RequestsTold.{body_of, unicast}
use Rattle.babel_selection.specs.declared.ihu_from.IhuFrom.{IhuFrom}
use Rattle.babel_selection.specs.declared.ihu_from.IhuSaid.{IhuSaid}
use Rattle.babel_selection.specs.declared.ihus.Pair.{Pair}
use Rattle.babel_selection.specs.declared.link_hearing.LinkHearing.{LinkHearing}
use Rattle.babel_selection.specs.Hearing.{AreCounts, AreLast, entry_at, pair_cmp, pair_of}
use Rattle.babel_selection.specs.Links.{last_ihu}

-- the TLVs of a packet's body: none where one runs past its end
abbrev pub whole_tlvs : (packet : List ℕ) → List TlvAt
whole_tlvs packet =
    let tlvs = tlvs_of 0 (body_of packet) in
    if length (flat_map tlv_octets tlvs) == length (body_of packet) then tlvs else []

-- the Hellos among these TLVs of a node
abbrev pub hellos_among : {S : Type 0} → S → List TlvAt → List (S × Hello)
hellos_among node tlvs = map (λ hello. (node, hello)) (filter_map hello_of tlvs)

module _ {S : Type 0} (beside : S → Address → S) where
  -- RFC 8966, 4.6.6: whom an IHU of the router names that is sent to this destination: who has its
  -- address, or else the destination, if that is one node's
  abbrev pub named_by : (router : S) → (destination : Address) → Ihu → Option S
  named_by router destination ihu =
      option_map (beside router) (option_or ihu.address (unicast destination))

  abbrev pub ihu_from : (router : S) → (destination : Address) → (time : ℕ) → Ihu → IhuFrom S
  ihu_from router destination time ihu = record {
    router = router;
    neighbour = named_by router destination ihu;
    said = record {
      rxcost = ihu.rxcost;
      when = record { time = time; interval = ihu.interval };
    };
  }

  -- the IHUs among these TLVs of a router, which came at this time
  abbrev pub ihus_among : (router : S) → (destination : Address) → (time : ℕ) → List TlvAt
      → List (IhuFrom S)
  ihus_among router destination time tlvs =
      map (ihu_from router destination time) (filter_map ihu_of tlvs)

module _ {S : Type 0} (cmp : S → S → Ordering) where
  -- with these Hellos and IHUs more what is kept goes from the one to the other
  pub record Hears (hellos : List (S × Hello)) (ihus : List (IhuFrom S))
      (old new : LinkHearing S) : Type 0 where
    pub counts : (before : List (S × Hello)) → AreCounts cmp before old.hellos
        → AreCounts cmp (before ++ hellos) new.hellos
    pub last : (before : List (IhuFrom S)) → AreLast cmp before old.ihus
        → AreLast cmp (before ++ ihus) new.ihus

  -- each pair of a router and a neighbour that an IHU of the router names, with the last such IHU,
  -- by router, then by neighbour; where a router has these nodes beside it that send
  pub record AreLinks (sends : (router neighbour : S) → Bool) (ihus : List (IhuFrom S))
      (links : List (Pair S × IhuSaid)) : Type 0 where
    pub in_order : IsStrictlySortedBy (pair_cmp cmp) (keys_of links)
    pub last : (router neighbour : S)
        → entry_at (pair_cmp cmp) links (pair_of router neighbour)
        ≡ last_ihu cmp ihus router neighbour (sends router neighbour)
