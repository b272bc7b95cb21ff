-- What is seen as a packet is laid out in its frame, after each link header.
use Rattle.std.proofs.Common.{◌≡◌, ℕ, zero, suc, ◌+◌, ◌-◌, ◌*◌, ◌/◌, ◌%◌, ◌^◌, ◌<◌, ◌≤◌, ◌⊎◌, inl, inr, Bool, true, false, List, [], ◌∷◌, ◌++◌, length, take, drop, refl, sym, ap, subst, ◌∙◌}
use Rattle.std.proofs.Common.{length-append, append_assoc, arith, nat_lt, nat_le, slice_index, bit_and, not, ◌==◌, ◌&&◌, ◌||◌, if◌then◌else◌}
use Rattle.std.specs.Prelude.{fold, min, Contains}
use Rattle.std.specs.List.{All}
use Rattle.std.proofs.lemmas.Bool.Decides.{nat_tests}
use Rattle.std.proofs.lemmas.List.{drop-drop, length-drop, length-take-le}
use Rattle.std.proofs.lemmas.List.Elements.{All-cons, All-drop, All-nil}
use Rattle.std.proofs.lemmas.Nat.{and_mask}
use Rattle.byteorder.specs.Endian.{big_bytes, big_number, little_bytes, little_number}
use Rattle.babel_capture.specs.declared.ends.Ends.{Ends}
use Rattle.babel_capture.specs.declared.link.Link.{Link}
use Rattle.babel_capture.specs.declared.link.Link.TheVariants as links
use Rattle.babel_capture.specs.declared.place.Place.{Place}
use Rattle.babel_capture.specs.declared.place.Vlans.{Vlans}
use Rattle.babel_capture.specs.Ethernet.{Payload, in_vlans, ip_sight, is_tag, past_tag, past_tags, tag_number, typed_sight}
use Rattle.babel_capture.specs.Frame.{cooked2_sight, family_sight, frame_sight, header_sight, is_ipv6_family, leads_to_ip, on_link, protocol_family, raw_sight}
use Rattle.babel_capture.specs.InFrame.{AreOctets, IsInFrame}
use Rattle.babel_capture.specs.Ipv4.{ipv4_sight}
use Rattle.babel_capture.specs.Ipv6.{ipv6_sight}
use Rattle.babel_capture.specs.LinkHeaders.{IsCooked2, IsFamily, IsHeader, IsTag, IsTyped, Tag, after_type, first_type}
use Rattle.babel_capture.specs.Octets.{ip_version, network_number}
use Rattle.babel_capture.specs.Place.{no_vlans, place_on, with_vlan}
use Rattle.babel_capture.specs.Sight.{Sight, carries, datagram, other, too_short}
use Rattle.babel_capture.proofs.LaidOutLaws.{after-long, past-first}
use Rattle.babel_capture.proofs.ReadBack.{bytes_of, field_is, front_is, number_fits, octet_is, part_is}
use Rattle.babel_capture.proofs.SeenLaws.{IpSeen, IsIp, OnPacket, choose, ipv4_seen, ipv6_seen, number_is, on-map, room, unless}

-- ---- VLAN tags

module _ (payload : Payload) where
  abbrev tag_next : Payload
  tag_next = record {
    ether_type = network_number 2 2 payload.octets;
    vlans = with_vlan payload.vlans (tag_number payload.octets);
    octets = drop 4 payload.octets;
    whole = payload.whole - 4;
  }

  abbrev Steps : Payload → Type 0
  Steps next = (next ≡ payload) ⊎ ((is_tag payload.ether_type ≡ true) × (nat_le 4 (length payload.octets) ≡ true) × (next ≡ tag_next))

  step_by : (a b : Bool) → is_tag payload.ether_type ≡ a → nat_le 4 (length payload.octets) ≡ b → Steps (if a && b then tag_next else payload)
  step_by true true is_a is_b = inr (is_a, is_b, refl)
  step_by true false is_a is_b = inl refl
  step_by false b is_a is_b = inl refl

  step_of : Steps (past_tag payload)
  unfolding past_tag
  step_of = step_by (is_tag payload.ether_type) (nat_le 4 (length payload.octets)) refl refl

-- the tags between two EtherTypes
record IsPast (n : ℕ) (payload untagged : Payload) : Type 0 where
  tags : List Tag
  few : length tags ≤ n
  are : All IsTag tags
  type : payload.ether_type ≡ first_type tags untagged.ether_type
  laid : payload.octets ≡ after_type tags untagged.ether_type ++ untagged.octets
  vlans : untagged.vlans ≡ fold (λ (v : Vlans) (t : Tag). with_vlan v t.number) payload.vlans tags
  left : untagged.whole ≡ payload.whole - 4 * length tags

four : (a b c d : Bool) → (a || b || c || d) ≡ true → (a ≡ true) ⊎ ((b ≡ true) ⊎ ((c ≡ true) ⊎ (d ≡ true)))
four true b c d is = inl refl
four false true c d is = inr (inl refl)
four false false true d is = inr (inr (inl refl))
four false false false d is = inr (inr (inr is))

is_kind : (kind : ℕ) → is_tag kind ≡ true → Contains (0x8100 ∷ 0x88a8 ∷ 0x9100 ∷ 0x9200 ∷ []) kind
is_kind kind is = by (four (kind == 0x8100) (kind == 0x88a8) (kind == 0x9100) (kind == 0x9200) is)
  where
    by : ((kind == 0x8100) ≡ true) ⊎ (((kind == 0x88a8) ≡ true) ⊎ (((kind == 0x9100) ≡ true) ⊎ ((kind == 0x9200) ≡ true))) → Contains (0x8100 ∷ 0x88a8 ∷ 0x9100 ∷ 0x9200 ∷ []) kind
    by (inl one) = (0, omega arith, sym (number_is kind 0x8100 one))
    by (inr (inl one)) = (1, omega arith, sym (number_is kind 0x88a8 one))
    by (inr (inr (inl one))) = (2, omega arith, sym (number_is kind 0x9100 one))
    by (inr (inr (inr one))) = (3, omega arith, sym (number_is kind 0x9200 one))

tag_past : (n : ℕ) (payload untagged : Payload) → AreOctets payload.octets → is_tag payload.ether_type ≡ true → 4 ≤ length payload.octets → IsPast n (tag_next payload) untagged
    → IsPast (suc n) payload untagged
tag_past n payload untagged are kind long past =
    let octets = payload.octets in
    let control = network_number 0 2 octets in
    let low : bit_and control 0x0fff ≡ control % 2 ^ 12 = and_mask control 12 in
    let fits = number_fits 0 2 octets are in
    let tag : Tag = record { kind = payload.ether_type; priority = control / 2 ^ 12; number = tag_number octets } in
    let control_is : control ≡ control / 2 ^ 12 * 2 ^ 12 + tag_number octets = omega arith in
    let rest : drop 2 octets ≡ big_bytes 2 (first_type past.tags untagged.ether_type) ++ (after_type past.tags untagged.ether_type ++ untagged.octets) =
    field_is 2 2 octets are (omega arith) ∙ ap (λ (t : ℕ). big_bytes 2 t ++ drop 4 octets) past.type
    ∙ ap (λ (t : List ℕ). big_bytes 2 (first_type past.tags untagged.ether_type) ++ t) past.laid in
    record {
      tags = tag ∷ past.tags;
      few = omega (arith, past.few);
      are = All-cons IsTag tag past.tags (record { is_kind = is_kind payload.ether_type kind; priority_fits = omega arith; number_fits = omega arith }) past.are;
      type = refl;
      laid = field_is 0 2 octets are (omega arith) ∙ ap (λ (t : ℕ). big_bytes 2 t ++ drop 2 octets) control_is
          ∙ ap (λ (t : List ℕ). big_bytes 2 (control / 2 ^ 12 * 2 ^ 12 + tag_number octets) ++ t) rest;
      vlans = past.vlans;
      left = omega (arith, past.left);
    }

bytes_after : (payload next : Payload) → Steps payload next → AreOctets payload.octets → AreOctets next.octets
bytes_after payload next (inl is) are = subst (λ (p : Payload). AreOctets p.octets) (sym is) are
bytes_after payload next (inr (kind, long, is)) are = subst (λ (p : Payload). AreOctets p.octets) (sym is) (All-drop (λ (octet : ℕ). octet < 256) 4 payload.octets are)

-- the next tag is passed over, and then those after it
module _ (n : ℕ) (payload : Payload) (are : AreOctets payload.octets) (later : (next : Payload) → AreOctets next.octets → IsPast n next (past_tags n next)) where
  past_by : (next : Payload) → Steps payload next → IsPast (suc n) payload (past_tags n next)
  past_by next (inl is) =
      let past = subst (λ (p : Payload). IsPast n p (past_tags n next)) is (later next (bytes_after payload next (inl is) are)) in
      record { tags = past.tags; few = omega (arith, past.few); are = past.are; type = past.type; laid = past.laid; vlans = past.vlans; left = past.left }
  past_by next (inr (kind, long, is)) =
      let past = subst (λ (p : Payload). IsPast n p (past_tags n next)) is (later next (bytes_after payload next (inr (kind, long, is)) are)) in
      let enough : 4 ≤ length payload.octets = grind (arith, nat_tests, long) in
      tag_past n payload (past_tags n next) are kind enough past

past-in : (n : ℕ) (payload : Payload) → AreOctets payload.octets → IsPast n payload (past_tags n payload)
unfolding past_tags
past-in zero payload are = record { tags = []; few = omega arith; are = All-nil IsTag; type = refl; laid = refl; vlans = refl; left = omega arith }
past-in (suc n) payload are =
    subst (IsPast (suc n) payload) (sym (past-first n payload)) (past_by n payload are (λ next bytes. past-in n next bytes) (past_tag payload) (step_of payload))

past-bytes : (n : ℕ) (payload : Payload) → AreOctets payload.octets → AreOctets (past_tags n payload).octets
unfolding past_tags
past-bytes zero payload are = are
past-bytes (suc n) payload are = bytes_after (past_tags n payload) (past_tag (past_tags n payload)) (step_of (past_tags n payload)) (past-bytes n payload are)

-- an IP packet of this EtherType after tags
abbrev TypedSeen : Place → Payload → Place → Ends → List ℕ → Type 0
TypedSeen place untagged there from payload = (there ≡ in_vlans place untagged.vlans) × IsIp untagged.ether_type from untagged.octets untagged.whole payload

ip_seen : (place : Place) (untagged : Payload) → AreOctets untagged.octets → OnPacket (TypedSeen place untagged) (ip_sight (in_vlans place untagged.vlans) untagged)
ip_seen place untagged are =
    let P = TypedSeen place untagged in
    let there = in_vlans place untagged.vlans in
    let octets = untagged.octets in
    let all = untagged.whole in
    let v4 : Sight = ipv4_sight there octets all in
    let v6 : Sight = ipv6_sight there octets all in
    let none : Sight = if is_tag untagged.ether_type && nat_lt (length octets) 4 then too_short else other in
    let not_v4 : Sight = if untagged.ether_type == 0x86dd then v6 else none in
    choose P (untagged.ether_type == 0x0800) v4 not_v4
    (λ is. on-map (IpSeen there 0x0800 octets all) P (λ at from payload seen. (seen.0, subst (λ (e : ℕ). IsIp e from octets all payload) (sym (number_is untagged.ether_type 0x0800 is)) seen.1)) v4
    (ipv4_seen there octets all are))
    (λ _. choose P (untagged.ether_type == 0x86dd) v6 none
    (λ is. on-map (IpSeen there 0x86dd octets all) P (λ at from payload seen. (seen.0, subst (λ (e : ℕ). IsIp e from octets all payload) (sym (number_is untagged.ether_type 0x86dd is)) seen.1)) v6
    (ipv6_seen there octets all are))
    (λ _. unless P (is_tag untagged.ether_type && nat_lt (length octets) 4) too_short other tt (λ _. tt)))

typed_seen : (place : Place) (payload : Payload) → AreOctets payload.octets → OnPacket (TypedSeen place (past_tags 4 payload)) (typed_sight place payload)
unfolding typed_sight
typed_seen place payload are = ip_seen place (past_tags 4 payload) (past-bytes 4 payload are)

-- ---- link headers

abbrev InFrame : Link → ℕ → List ℕ → ℕ → Place → Ends → List ℕ → Type 0
InFrame link interface octets all there from payload = IsInFrame link interface there from payload octets all

-- a header that ends with an EtherType and tags
module _ (front interface : ℕ) (octets : List ℕ) (all : ℕ) (are : AreOctets octets) where
  abbrev plain : Payload
  plain = record { ether_type = network_number front 2 octets; vlans = no_vlans; octets = drop (front + 2) octets; whole = all - (front + 2) }

  abbrev untagged : Payload
  untagged = past_tags 4 plain

  typed_frame : front + 2 ≤ length octets → (there : Place) (from : Ends) (payload : List ℕ) → TypedSeen (place_on interface) untagged there from payload
      → (header : List ℕ) × IsTyped front interface untagged.ether_type there header × (octets ≡ header ++ untagged.octets) × (untagged.whole ≡ all - length header)
  typed_frame long there from payload seen =
      let past = past-in 4 plain (All-drop (λ (octet : ℕ). octet < 256) (front + 2) octets are) in
      let addresses = take front octets in
      let sized : length addresses ≡ front = length-take-le front octets (omega arith) in
      let next = big_bytes 2 (first_type past.tags untagged.ether_type) in
      let after = after_type past.tags untagged.ether_type in
      let header = addresses ++ (next ++ after) in
      let rest : drop front octets ≡ (next ++ after) ++ untagged.octets =
      field_is front 2 octets are long ∙ ap (λ (t : ℕ). big_bytes 2 t ++ drop (front + 2) octets) past.type ∙ ap (λ (t : List ℕ). next ++ t) past.laid in (
        header,
        record { addresses = addresses; sized = sized; tags = past.tags; few = past.few; are_tags = past.are; is_place = seen.0 ∙ ap (in_vlans (place_on interface)) past.vlans; is_header = refl },
        part_is front octets ∙ ap (λ (t : List ℕ). addresses ++ t) rest ∙ sym (append_assoc addresses (next ++ after) untagged.octets),
        past.left ∙ omega (arith, length-append addresses (next ++ after), sized, after-long past.tags untagged.ether_type),
      )

-- what comes after a link header
in_frame : (link : Link) (interface ether_type : ℕ) (there : Place) (from : Ends) (payload header rest octets : List ℕ) (left all : ℕ) → IsHeader link interface ether_type there header
    → octets ≡ header ++ rest → left ≡ all - length header → IsIp ether_type from rest left payload → IsInFrame link interface there from payload octets all
in_frame link interface ether_type there from payload header rest octets left all is laid is_left ip = record {
  ether_type = ether_type;
  header = header;
  packet = ip.packet;
  after = ip.after;
  more = ip.more;
  is_header = is;
  is_whole = ip.is_whole;
  laid_out = laid ∙ ap (λ (t : List ℕ). header ++ t) ip.whole;
  fits = omega (arith, ip.fits, ip.some, is_left);
}

header_seen : (link : Link) (front interface : ℕ) (octets : List ℕ) (all : ℕ) → AreOctets octets
    → ((there : Place) (header : List ℕ) (ether_type : ℕ) → IsTyped front interface ether_type there header → IsHeader link interface ether_type there header)
    → OnPacket (InFrame link interface octets all) (header_sight front (front + 2) (place_on interface) octets all)
header_seen link front interface octets all are is_link =
    let P = InFrame link interface octets all in
    let payload : Payload = record { ether_type = network_number front 2 octets; vlans = no_vlans; octets = drop (front + 2) octets; whole = all - (front + 2) } in
    let after = past_tags 4 payload in
    unless P (nat_lt (length octets) (front + 2)) too_short (typed_sight (place_on interface) payload) tt (λ long.
    on-map (TypedSeen (place_on interface) after) P
    (λ there from payload seen.
    (let typed = typed_frame front interface octets all are (room (length octets) (front + 2) long) there from payload seen in
    in_frame link interface after.ether_type there from payload typed.0 after.octets octets after.whole all (is_link there typed.0 after.ether_type typed.1) typed.2 typed.3 seen.1))
    (typed_sight (place_on interface) payload) (typed_seen (place_on interface) payload (All-drop (λ (octet : ℕ). octet < 256) (front + 2) octets are)))

cooked2_seen : (interface : ℕ) (octets : List ℕ) (all : ℕ) → AreOctets octets → OnPacket (InFrame links.Cooked2 interface octets all) (cooked2_sight interface octets all)
cooked2_seen interface octets all are =
    let P = InFrame links.Cooked2 interface octets all in
    let linked = on_link interface octets in
    let payload : Payload = record { ether_type = network_number 0 2 octets; vlans = no_vlans; octets = drop 20 octets; whole = all - 20 } in
    let bytes = All-drop (λ (octet : ℕ). octet < 256) 20 octets are in
    let typed : Sight = typed_sight linked payload in
    let header : Sight = header_sight 0 20 linked octets all in
    let is_other = not (leads_to_ip (network_number 0 2 octets)) in
    unless P (nat_lt (length octets) 2) too_short (if is_other then other else header) tt (λ _.
    unless P is_other other header tt (λ _.
    unless P (nat_lt (length octets) 20) too_short typed tt (λ long.
    on-map (TypedSeen linked (past_tags 4 payload)) P (λ there from carried seen. cooked2_frame (room (length octets) 20 long) there from carried seen) typed (typed_seen linked payload bytes))))
  where
    cooked2_frame : 20 ≤ length octets → (there : Place) (from : Ends) (carried : List ℕ)
        → TypedSeen (on_link interface octets) (past_tags 4 (record { ether_type = network_number 0 2 octets; vlans = no_vlans; octets = drop 20 octets; whole = all - 20 })) there from carried
        → InFrame links.Cooked2 interface octets all there from carried
    cooked2_frame long there from carried seen =
        (let payload : Payload = record { ether_type = network_number 0 2 octets; vlans = no_vlans; octets = drop 20 octets; whole = all - 20 } in
        let untagged = past_tags 4 payload in
        let past = past-in 4 payload (All-drop (λ (octet : ℕ). octet < 256) 20 octets are) in
        let next = big_bytes 2 (first_type past.tags untagged.ether_type) in
        let reserved = take 2 (drop 2 octets) in
        let link = network_number 4 4 octets in
        let number = big_bytes 4 link in
        let more = take 12 (drop 8 octets) in
        let after = after_type past.tags untagged.ether_type in
        let reserved_len : length reserved ≡ 2 = length-take-le 2 (drop 2 octets) (omega (arith, length-drop 2 octets)) in
        let more_len : length more ≡ 12 = length-take-le 12 (drop 8 octets) (omega (arith, length-drop 8 octets)) in
        let header = next ++ (reserved ++ (number ++ (more ++ after))) in
        let from_more : drop 8 octets ≡ (more ++ after) ++ untagged.octets =
        part_is 12 (drop 8 octets) ∙ ap (λ (t : List ℕ). more ++ t) (drop-drop 12 8 octets ∙ past.laid) ∙ sym (append_assoc more after untagged.octets) in
        let from_reserved : drop 2 octets ≡ (reserved ++ (number ++ (more ++ after))) ++ untagged.octets =
        part_is 2 (drop 2 octets) ∙ ap (λ (t : List ℕ). reserved ++ t) (drop-drop 2 2 octets ∙ field_is 4 4 octets are (omega arith) ∙ ap (λ (t : List ℕ). number ++ t) from_more)
        ∙ sym (append_assoc reserved (number ++ (more ++ after)) untagged.octets) in
        let laid : octets ≡ header ++ untagged.octets =
        field_is 0 2 octets are (omega arith) ∙ ap (λ (t : ℕ). big_bytes 2 t ++ drop 2 octets) past.type ∙ ap (λ (t : List ℕ). next ++ t) from_reserved in
        let header_len : length header ≡ 20 + 4 * length past.tags =
        omega (arith, length-append reserved (number ++ (more ++ after)), length-append more after, reserved_len, more_len, after-long past.tags untagged.ether_type) in
        let is : IsCooked2 interface untagged.ether_type there header = record {
          reserved = reserved;
          link = link;
          more = more;
          reserved_len = reserved_len;
          link_fits = number_fits 4 4 octets are;
          more_len = more_len;
          tags = past.tags;
          few = past.few;
          are_tags = past.are;
          is_place = seen.0 ∙ ap (in_vlans (on_link interface octets)) past.vlans;
          is_header = refl;
        } in
        in_frame links.Cooked2 interface untagged.ether_type there from carried header untagged.octets octets untagged.whole all is laid (past.left ∙ omega (arith, header_len)) seen.1)

-- ---- protocol families

lower_of : (a b : ℕ) → (min a b ≡ a) ⊎ (min a b ≡ b)
lower_of zero b = inl (omega arith)
lower_of (suc a) zero = inr (omega arith)
lower_of (suc a) (suc b) = elim (lower_of a b) [ inl is ↦ inl (omega (arith, is)) | inr is ↦ inr (omega (arith, is)) ]

little_is : (octets : List ℕ) → AreOctets octets → 4 ≤ length octets → octets ≡ little_bytes 4 (little_number 4 octets) ++ drop 4 octets
little_is octets are long =
    let bytes = bytes_of octets are in
    let a = slice_index octets 0 in
    let b = slice_index octets 1 in
    let c = slice_index octets 2 in
    let d = slice_index octets 3 in
    let number : little_number 4 octets ≡ a + 256 * (b + 256 * (c + 256 * d)) = omega arith in
    octet_is 0 octets (omega arith) ∙ ap (λ (t : List ℕ). a ∷ t) (octet_is 1 octets (omega arith) ∙ ap (λ (t : List ℕ). b ∷ t) (octet_is 2 octets (omega arith)
    ∙ ap (λ (t : List ℕ). c ∷ t) (octet_is 3 octets (omega arith))))
    ∙ ap (λ (t : List ℕ). t ++ drop 4 octets) (sym (little_four (little_number 4 octets) a b c d number (bytes 0) (bytes 1) (bytes 2) (bytes 3)))
  where
    little_four : (x a b c d : ℕ) → x ≡ a + 256 * (b + 256 * (c + 256 * d)) → a < 256 → b < 256 → c < 256 → d < 256 → little_bytes 4 x ≡ a ∷ b ∷ c ∷ d ∷ []
    little_four x a b c d is fa fb fc fd =
        (let first : x % 256 ≡ a = omega arith in
        let second : x / 256 ^ 1 % 256 ≡ b = omega arith in
        let third : x / 256 ^ 2 % 256 ≡ c = omega arith in
        let fourth : x / 256 ^ 3 % 256 ≡ d = omega arith in
        rw (first, second, third, fourth) refl)

-- the octets of a family, in one order or the other
family_header : (octets : List ℕ) → AreOctets octets → 4 ≤ length octets
    → (header : List ℕ) × ((header ≡ big_bytes 4 (protocol_family octets)) ⊎ (header ≡ little_bytes 4 (protocol_family octets))) × (octets ≡ header ++ drop 4 octets) × (length header ≡ 4)
family_header octets are long = by (lower_of (big_number 4 octets) (little_number 4 octets))
  where
    by : (protocol_family octets ≡ big_number 4 octets) ⊎ (protocol_family octets ≡ little_number 4 octets)
        → (header : List ℕ) × ((header ≡ big_bytes 4 (protocol_family octets)) ⊎ (header ≡ little_bytes 4 (protocol_family octets))) × (octets ≡ header ++ drop 4 octets) × (length header ≡ 4)
    by (inl is) = (big_bytes 4 (protocol_family octets), inl refl, front_is 4 octets are long ∙ ap (λ (n : ℕ). big_bytes 4 n ++ drop 4 octets) (sym is), refl)
    by (inr is) = (little_bytes 4 (protocol_family octets), inr refl, little_is octets are long ∙ ap (λ (n : ℕ). little_bytes 4 n ++ drop 4 octets) (sym is), refl)

is_family : (family : ℕ) → is_ipv6_family family ≡ true → Contains (10 ∷ 24 ∷ 28 ∷ 30 ∷ []) family
is_family family is = by (four (family == 10) (family == 24) (family == 28) (family == 30) is)
  where
    by : ((family == 10) ≡ true) ⊎ (((family == 24) ≡ true) ⊎ (((family == 28) ≡ true) ⊎ ((family == 30) ≡ true))) → Contains (10 ∷ 24 ∷ 28 ∷ 30 ∷ []) family
    by (inl one) = (0, omega arith, sym (number_is family 10 one))
    by (inr (inl one)) = (1, omega arith, sym (number_is family 24 one))
    by (inr (inr (inl one))) = (2, omega arith, sym (number_is family 28 one))
    by (inr (inr (inr one))) = (3, omega arith, sym (number_is family 30 one))

family_seen : (link : Link) (interface : ℕ) (octets : List ℕ) (all : ℕ) → AreOctets octets
    → ((there : Place) (header : List ℕ) (ether_type : ℕ) → IsFamily interface ether_type there header → IsHeader link interface ether_type there header)
    → OnPacket (InFrame link interface octets all) (family_sight (place_on interface) octets all)
family_seen link interface octets all are is_link =
    let P = InFrame link interface octets all in
    let place = place_on interface in
    let family = protocol_family octets in
    let rest = drop 4 octets in
    let bytes = All-drop (λ (octet : ℕ). octet < 256) 4 octets are in
    let v4 : Sight = ipv4_sight place rest (all - 4) in
    let v6 : Sight = ipv6_sight place rest (all - 4) in
    let not_v4 : Sight = if is_ipv6_family family then v6 else other in
    unless P (nat_lt (length octets) 4) too_short (if family == 2 then v4 else not_v4) tt (λ long.
    (let header = family_header octets are (room (length octets) 4 long) in
    choose P (family == 2) v4 not_v4
    (λ is. on-map (IpSeen place 0x0800 rest (all - 4)) P (λ there from payload seen. in_frame link interface 0x0800 there from payload header.0 rest octets (all - 4) all
    (is_link there header.0 0x0800 (record { family = family; is_family = inl (refl, number_is family 2 is); is_place = seen.0; is_header = header.1 })) header.2
    (ap (λ (n : ℕ). all - n) (sym header.3)) seen.1) v4 (ipv4_seen place rest (all - 4) bytes))
    (λ _. choose P (is_ipv6_family family) v6 other
    (λ is. on-map (IpSeen place 0x86dd rest (all - 4)) P (λ there from payload seen. in_frame link interface 0x86dd there from payload header.0 rest octets (all - 4) all
    (is_link there header.0 0x86dd (record { family = family; is_family = inr (refl, is_family family is); is_place = seen.0; is_header = header.1 })) header.2
    (ap (λ (n : ℕ). all - n) (sym header.3)) seen.1) v6 (ipv6_seen place rest (all - 4) bytes))
    (λ _. tt))))

-- ---- nothing before the packet

bare : (link : Link) (interface ether_type : ℕ) (octets : List ℕ) (all : ℕ) (sight : Sight)
    → ((there : Place) → there ≡ place_on interface → IsHeader link interface ether_type there [])
    → OnPacket (IpSeen (place_on interface) ether_type octets all) sight → OnPacket (InFrame link interface octets all) sight
bare link interface ether_type octets all sight is_link seen =
    on-map (IpSeen (place_on interface) ether_type octets all) (InFrame link interface octets all)
    (λ there from payload ip. in_frame link interface ether_type there from payload [] octets octets all all (is_link there ip.0) refl (omega arith) ip.1) sight seen

raw_seen : (interface : ℕ) (octets : List ℕ) (all : ℕ) → AreOctets octets → OnPacket (InFrame links.RawIp interface octets all) (raw_sight (place_on interface) octets all)
raw_seen interface octets all are =
    let P = InFrame links.RawIp interface octets all in
    let place = place_on interface in
    let v4 : Sight = ipv4_sight place octets all in
    let v6 : Sight = ipv6_sight place octets all in
    let not_v4 : Sight = if ip_version octets == 6 then v6 else other in
    unless P (nat_lt (length octets) 1) too_short (if ip_version octets == 4 then v4 else not_v4) tt (λ _.
    choose P (ip_version octets == 4) v4 not_v4
    (λ _. bare links.RawIp interface 0x0800 octets all v4 (λ there is. (is, refl)) (ipv4_seen place octets all are))
    (λ _. choose P (ip_version octets == 6) v6 other
    (λ _. bare links.RawIp interface 0x86dd octets all v6 (λ there is. (is, refl)) (ipv6_seen place octets all are))
    (λ _. tt)))

-- ---- frames

frame_seen : (link : Link) (interface : ℕ) (octets : List ℕ) (all : ℕ) → AreOctets octets → OnPacket (InFrame link interface octets all) (frame_sight interface link octets all)
unfolding frame_sight
frame_seen links.Null interface octets all are = family_seen links.Null interface octets all are (λ there header ether_type is. is)
frame_seen links.Ethernet interface octets all are = header_seen links.Ethernet 12 interface octets all are (λ there header ether_type is. is)
frame_seen links.RawIp interface octets all are = raw_seen interface octets all are
frame_seen links.Loop interface octets all are = family_seen links.Loop interface octets all are (λ there header ether_type is. is)
frame_seen links.Cooked interface octets all are = header_seen links.Cooked 14 interface octets all are (λ there header ether_type is. is)
frame_seen links.RawIpv4 interface octets all are =
    bare links.RawIpv4 interface 0x0800 octets all (ipv4_sight (place_on interface) octets all) (λ there is. (refl, is, refl)) (ipv4_seen (place_on interface) octets all are)
frame_seen links.RawIpv6 interface octets all are =
    bare links.RawIpv6 interface 0x86dd octets all (ipv6_sight (place_on interface) octets all) (λ there is. (refl, is, refl)) (ipv6_seen (place_on interface) octets all are)
frame_seen links.Cooked2 interface octets all are = cooked2_seen interface octets all are

pub seen_in_frame : (link : Link) (interface : ℕ) (place : Place) (ends : Ends) (payload octets : List ℕ) (all : ℕ) → AreOctets octets
    → frame_sight interface link octets all ≡ datagram place ends (carries payload) → IsInFrame link interface place ends payload octets all
seen_in_frame link interface place ends payload octets all are is = subst (OnPacket (InFrame link interface octets all)) is (frame_seen link interface octets all are)
