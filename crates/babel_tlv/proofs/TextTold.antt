-- The canonical text of pairs is packets that say what each pair says; and how long it is.
use Rattle.std.proofs.Common.{◌≡◌, ℕ, ◌+◌, ◌*◌, ◌^◌, ◌<◌, ◌≤◌, Bool, true, false, cond, List, [], ◌∷◌, ◌++◌, length, map, drop, Result, refl, sym, ap, subst, ◌∙◌, arith}
use Rattle.std.specs.Prelude.{◌≢◌, ◌==◌}
use Rattle.std.specs.Int.{bytes_high_first}
use Rattle.std.specs.List.{AllByRecursion, flat_map, starts_with}
use Rattle.std.proofs.lemmas.List.{length-append}
use Rattle.babel_prefix.specs.declared.family.Family.{Family}
use Rattle.babel_prefix.specs.declared.family.Family.TheVariants.{V4, V6}
use Rattle.babel_prefix.specs.Width.{octet_count}
use Rattle.babel_tlv.specs.declared.start.Start.{Start}
use Rattle.babel_tlv.specs.declared.event.Event.{Event}
use Rattle.babel_tlv.specs.declared.fault.Fault.{Fault}
use Rattle.babel_tlv.specs.declared.held.Held.{Held}
use Rattle.babel_tlv.specs.declared.held.Held.TheVariants as helds
use Rattle.babel_tlv.specs.Route.{RouteKey}
use Rattle.babel_tlv.specs.Framing.{TlvAt, ArePackets, IsBody, framed, packet_octets, tlv_octets}
use Rattle.babel_tlv.specs.Encodings.{hop_family, number_of}
use Rattle.babel_tlv.specs.Forming.{link_local}
use Rattle.babel_tlv.specs.Context.{context_after}
use Rattle.babel_tlv.specs.Says.{Saying, sayings, sayings_after}
use Rattle.babel_tlv.specs.Group.{pair_encoding, is_id, is_hop, router_id_tlv, next_hop_tlv, next_hop_octets, held_seqno, held_metric}
use Rattle.babel_tlv.specs.Group.{shared_octets, update_tlv, update_body, group, groups_behind, body_of, ArePacked}
use Rattle.babel_tlv.specs.Kept.{kept_for, prefix_for}
use Rattle.babel_tlv.specs.Writing.{route_in, Written, written_after, group_in}
use Rattle.babel_tlv.specs.Pair.{Pair}
use Rattle.babel_tlv.specs.Pairs.{FitsKey, HopFits, IsPair}
use Rattle.babel_tlv.specs.News.{spoken, pair_event}
use Rattle.babel_tlv.proofs.UpdateTold.{length-update}
use Rattle.babel_tlv.proofs.Telling.{as_ok, what_of, spoken-append, oks-append, sayings_after-says_in}
use Rattle.babel_tlv.proofs.WrittenLaws.{group_in-written_after}
use Rattle.babel_tlv.proofs.GroupTold.{Agrees-start, HopsFit, groups_told}

abbrev pub packed : List (List Pair) → List ℕ
packed packets = flat_map (λ packet. framed (body_of packet)) packets

-- octets that are packets, the first at this offset, whose TLVs none refuses, and that say this and nothing else
pub record TellsText (start : Start) (at : ℕ) (octets : List ℕ) (news : List Event) : Type 0 where
  pub packets : List (List TlvAt)
  pub told : List Event
  pub whole : octets ≡ flat_map packet_octets packets
  pub placed : ArePackets at packets
  pub fine : map what_of (sayings start packets) ≡ map as_ok told
  pub news_are : spoken told ≡ news

module _ (P : Pair → Type 0) where
  halves : (front back : List Pair) → AllByRecursion P (front ++ back) → AllByRecursion P front × AllByRecursion P back
  halves [] back all = (tt, all)
  halves (pair ∷ front) back all = let rest = halves front back all.1 in ((all.0, rest.0), rest.1)

pub whats-append : (front back : List Saying) → map what_of (front ++ back) ≡ map what_of front ++ map what_of back
whats-append [] back = refl
whats-append (saying ∷ front) back = ap (λ (rs : List (Result Event Fault)). saying.what ∷ rs) (whats-append front back)

events-append : (front back : List Pair) → map pair_event (front ++ back) ≡ map pair_event front ++ map pair_event back
events-append [] back = refl
events-append (pair ∷ front) back = ap (λ (es : List Event). pair_event pair ∷ es) (events-append front back)

pub text_told : (start : Start) (at body : ℕ) (pairs : List Pair) (packets : List (List Pair)) → body < 2 ^ 16 → ArePacked body pairs packets → AllByRecursion IsPair pairs → HopsFit start.via_v6 pairs
    → TellsText start at (packed packets) (map pair_event pairs)
text_told start at body pairs [] room are_packed fits hops = record {
  packets = [];
  told = [];
  whole = refl;
  placed = tt;
  fine = refl;
  news_are = ap (λ (ps : List Pair). map pair_event ps) (sym are_packed);
}
text_told start at body pairs (packet ∷ packets) room are_packed fits hops =
    let rest = are_packed.0 in
    let parts : pairs ≡ packet ++ rest = are_packed.1 in
    let both = halves IsPair packet rest (subst (λ (ps : List Pair). AllByRecursion IsPair ps) parts fits) in
    let both_hops = halves (λ pair. HopFits start.via_v6 pair.0 pair.1) packet rest (subst (λ (ps : List Pair). HopsFit start.via_v6 ps) parts hops) in
    let groups = (groups_told (context_after start []) (at + 4) [] packet both.0 both_hops.0 (Agrees-start (context_after start []))).1 in
    let framed_is : framed (body_of packet) ≡ packet_octets groups.tlvs = ap framed groups.whole in
    let later = text_told start (at + length (framed (body_of packet))) body rest packets room are_packed.5 both.1 both_hops.1 in
    let in_body : IsBody (flat_map tlv_octets groups.tlvs) = subst (λ (o : List ℕ). length o < 2 ^ 16) groups.whole (let h : length (body_of packet) < 2 ^ 16 = omega (arith, are_packed.3) in h) in
    record {
      packets = groups.tlvs ∷ later.packets;
      told = groups.told ++ later.told;
      whole = ap (λ (o : List ℕ). o ++ packed packets) framed_is ∙ ap (λ (o : List ℕ). packet_octets groups.tlvs ++ o) later.whole;
      placed = (in_body, groups.placed, subst (λ (o : List ℕ). ArePackets (at + length o) later.packets) framed_is later.placed);
      fine = whats-append (sayings_after start [] groups.tlvs) (sayings start later.packets)
          ∙ ap (λ (rs : List (Result Event Fault)). rs ++ map what_of (sayings start later.packets)) (sayings_after-says_in start [] groups.tlvs ∙ groups.fine)
          ∙ ap (λ (rs : List (Result Event Fault)). map as_ok groups.told ++ rs) later.fine
          ∙ sym (oks-append groups.told later.told);
      news_are = spoken-append groups.told later.told
          ∙ ap (λ (es : List Event). es ++ spoken later.told) groups.news_are
          ∙ ap (λ (es : List Event). map pair_event packet ++ es) later.news_are
          ∙ sym (events-append packet rest)
          ∙ ap (λ (ps : List Pair). map pair_event ps) (sym parts);
    }

-- ---- lengths

length-unless : (b : Bool) (octets : List ℕ) → length (cond b [] octets) ≤ length octets
length-unless true octets = omega arith
length-unless false octets = omega arith

length-hop : (family : Family) (bits : ℕ) → length (next_hop_octets family (bytes_high_first (octet_count family) bits)) ≤ 20
length-hop V4 bits = omega arith
length-hop V6 bits = by_test (starts_with ◌==◌ (bytes_high_first 16 bits) link_local)
  where
    by_test : (b : Bool) → length (cond b (7 ∷ 10 ∷ 3 ∷ 0 ∷ drop 8 (bytes_high_first 16 bits)) (7 ∷ 18 ∷ 2 ∷ 0 ∷ bytes_high_first 16 bits)) ≤ 20
    by_test true = omega arith
    by_test false = omega arith

-- a route's Router-Id and Next Hop
length-tlvs : (so_far : Written) (family : Family) (key : RouteKey) (held : Held) → FitsKey key held → length (route_in family so_far held) ≤ 32
length-tlvs so_far family key (helds.Route ann) fits =
    let hop = kept_for family so_far.next_hops in
    let id_octets = cond (is_id so_far.router_id ann.router_id) [] (router_id_tlv ann.router_id) in
    let hop_octets = cond (is_hop hop ann.next_hop) [] (next_hop_tlv ann.next_hop) in
    let id_len : length id_octets ≤ 12 = omega (arith, length-unless (is_id so_far.router_id ann.router_id) (router_id_tlv ann.router_id), fits.0.eight) in
    let hop_len : length hop_octets ≤ 20 = omega (arith, length-unless (is_hop hop ann.next_hop) (next_hop_tlv ann.next_hop), length-hop ann.next_hop.family ann.next_hop.bits) in
    omega (arith, id_len, hop_len, length-append id_octets hop_octets)
length-tlvs so_far family key helds.Unreachable fits = omega arith

-- a pair's group
pub length-group : (so_far : Written) (pair : Pair) → IsPair pair → length (group_in so_far pair) ≤ 79
length-group so_far pair fits =
    let encoding = pair_encoding pair in
    let family = hop_family encoding in
    let omit = shared_octets (prefix_for encoding so_far.dsts) pair.0.dst in
    let route = route_in family so_far pair.1 in
    let update = update_tlv encoding omit pair.0 (held_seqno pair.1) (held_metric pair.1) in
    let body_len : length (update_body encoding omit pair.0 (held_seqno pair.1) (held_metric pair.1)) ≤ 45 =
    length-update pair.0.dst pair.0.src (number_of encoding) omit (held_seqno pair.1) (held_metric pair.1) fits.dst fits.src in
    let update_len : length update ≤ 47 = omega (arith, body_len) in
    omega (arith, length-tlvs so_far family pair.0 pair.1 fits.fits, update_len, length-append route update)

pub length-behind : (earlier : List Pair) (pair : Pair) → IsPair pair → length (group earlier pair) ≤ 79
length-behind earlier pair fits = subst (λ (o : List ℕ). length o ≤ 79) (group_in-written_after earlier pair) (length-group (written_after earlier) pair fits)

length-groups : (earlier pairs : List Pair) → AllByRecursion IsPair pairs → length (groups_behind earlier pairs) ≤ 79 * length pairs
length-groups earlier [] fits = omega arith
length-groups earlier (pair ∷ pairs) fits =
    omega (arith, length-append (group earlier pair) (groups_behind (pair ∷ earlier) pairs), length-behind earlier pair fits.0, length-groups (pair ∷ earlier) pairs fits.1)

some_pairs : (pairs : List Pair) → pairs ≢ [] → 1 ≤ length pairs
some_pairs [] some = absurd (some refl)
some_pairs (pair ∷ pairs) some = omega arith

-- at most 83 octets a pair
pub length-text : (body : ℕ) (pairs : List Pair) (packets : List (List Pair)) → ArePacked body pairs packets → AllByRecursion IsPair pairs → length (packed packets) ≤ 83 * length pairs
length-text body pairs [] are_packed fits = omega arith
length-text body pairs (packet ∷ packets) are_packed fits =
    let rest = are_packed.0 in
    let parts : pairs ≡ packet ++ rest = are_packed.1 in
    let both = halves IsPair packet rest (subst (λ (ps : List Pair). AllByRecursion IsPair ps) parts fits) in
    let len : length pairs ≡ length packet + length rest = ap length parts ∙ length-append packet rest in
    let framed_len : length (framed (body_of packet)) ≤ 4 + 79 * length packet = omega (arith, length-groups [] packet both.0) in
    omega (arith, len, framed_len, some_pairs packet are_packed.2, length-append (framed (body_of packet)) (packed packets), length-text body rest packets are_packed.5 both.1)
