-- What is seen of a frame is in the frame, layer by layer.
use Rattle.std.proofs.Common.{◌≡◌, ℕ, zero, suc, ◌+◌, ◌-◌, ◌<◌, ◌^◌, ◌≤◌, Bool, true, false, List, [], ◌∷◌, ◌++◌, length, take, drop, refl, sym, ap, ◌∙◌, append_assoc, arith, nat_lt, nat_le, slice_index}
use Rattle.std.proofs.Common.{not, ◌&&◌, ◌||◌, ◌==◌, if◌then◌else◌, Option, None}
use Rattle.std.proofs.lemmas.List.{drop-take, length-drop, length-take, length-take-le, take-append-drop}
use Rattle.std.proofs.lemmas.Bool.{cond_both}
use Rattle.std.proofs.lemmas.Bool.Decides.{nat_tests}
use Rattle.babel_prefix.specs.Address.{Address}
use Rattle.babel_capture.specs.declared.ends.Ends.{Ends}
use Rattle.babel_capture.specs.Backing.{StandIn, IsDatagram, Backs, BacksCarried, BacksLack}
use Rattle.babel_capture.specs.declared.lack.Lack.{Lack}
use Rattle.babel_capture.specs.declared.lack.Lack.TheVariants as lacks
use Rattle.babel_capture.specs.declared.link.Link.{Link}
use Rattle.babel_capture.specs.declared.link.Link.TheVariants as links
use Rattle.babel_capture.specs.declared.place.Place.{Place}
use Rattle.babel_capture.specs.Ethernet.{Payload, in_vlans, is_tag, past_tag, past_tags, ip_sight, tag_number, typed_sight}
use Rattle.babel_capture.specs.Frame.{cooked2_sight, header_sight, leads_to_ip, on_link, raw_sight, family_sight, protocol_family, is_ipv6_family, frame_sight}
use Rattle.babel_capture.specs.Headers.{NextHeader, has_len, header_len, is_atomic, is_unkept, past_header, past_headers, telling_len}
use Rattle.babel_capture.specs.declared.fragment.UdpPlace.{UdpPlace}
use Rattle.babel_capture.specs.IpFragments.{IpFragment, first_sight, fragment_sight, is_taken, taken, udp_place_in}
use Rattle.babel_capture.specs.Ipv4.{ipv4_sight, ipv4_carried, ipv4_carried_sight, ipv4_fragment, ipv4_header_len, is_fragment, total_len, ipv4_ends, carries_udp}
use Rattle.babel_capture.specs.Ipv6.{ipv6_sight, ipv6_carried_sight, ipv6_fragment, ipv6_fragment_sight, ipv6_ends, payload_len, first_header, upper_sight}
use Rattle.babel_capture.specs.Octets.{network_number, ip_version}
use Rattle.babel_capture.specs.Place.{no_vlans, place_on, with_vlan}
use Rattle.babel_capture.specs.Sight.{Sight, Carried, other, too_short, fragmented, datagram, other_port, not_link_local, lacking, carries}
use Rattle.babel_capture.specs.Udp.{udp_sight, babel_sight, len_sight, unkept_sight, udp_len, source_port, destination_port, is_babel, is_of_routers, may_send}
use Rattle.babel_capture.proofs.OctetLaws.{number-kept}

-- ---- octets that stand in others

append-empty : (xs : List ℕ) → xs ++ [] ≡ xs
append-empty [] = refl
append-empty (x ∷ xs) = ap (λ (ys : List ℕ). x ∷ ys) (append-empty xs)

pub StandIn-self : (octets : List ℕ) → StandIn octets octets
StandIn-self octets = record { before = []; after = []; joined = sym (append-empty octets) }

pub StandIn-take : (n : ℕ) (octets : List ℕ) → StandIn (take n octets) octets
StandIn-take n octets = record { before = []; after = drop n octets; joined = sym (take-append-drop n octets) }

pub StandIn-drop : (n : ℕ) (octets : List ℕ) → StandIn (drop n octets) octets
StandIn-drop n octets = record {
  before = take n octets;
  after = [];
  joined = sym (append-empty (take n octets ++ drop n octets) ∙ take-append-drop n octets);
}

pub StandIn-in : (a b c : List ℕ) → StandIn a b → StandIn b c → StandIn a c
StandIn-in a b c inner outer = record {
  before = outer.before ++ inner.before;
  after = inner.after ++ outer.after;
  joined = outer.joined ∙ ap (λ (xs : List ℕ). outer.before ++ xs ++ outer.after) inner.joined ∙ simp append_assoc;
}

-- ---- a part of a frame

-- a part of some octets, of which less was kept than it had only if of these less was kept than they had
pub record IsPart (octets : List ℕ) (whole : ℕ) (of : List ℕ) (of_whole : ℕ) : Type 0 where
  pub inside : StandIn octets of
  pub kept : length octets < whole → length of < of_whole

pub IsPart-self : (octets : List ℕ) (whole : ℕ) → IsPart octets whole octets whole
IsPart-self octets whole = record { inside = StandIn-self octets; kept = λ short. short }

pub IsPart-in : (a b c : List ℕ) (k m n : ℕ) → IsPart a k b m → IsPart b m c n → IsPart a k c n
IsPart-in a b c k m n inner outer = record {
  inside = StandIn-in a b c inner.inside outer.inside;
  kept = λ short. outer.kept (inner.kept short);
}

pub IsPart-after : (n : ℕ) (octets : List ℕ) (whole : ℕ) → IsPart (drop n octets) (whole - n) octets whole
IsPart-after n octets whole = record {
  inside = StandIn-drop n octets;
  kept = λ short. omega (arith, length-drop n octets);
}

pub IsPart-first : (n : ℕ) (octets : List ℕ) (whole : ℕ) → n ≤ whole → IsPart (take n octets) n octets whole
IsPart-first n octets whole fits = record {
  inside = StandIn-take n octets;
  kept = λ short. omega (arith, length-take n octets);
}

-- what a part backs, the whole backs
module _ (octets : List ℕ) (all : ℕ) (of : List ℕ) (of_all : ℕ) (part : IsPart octets all of of_all) where
  lack-part : (lack : Lack) → BacksLack octets all lack → BacksLack of of_all lack
  lack-part lacks.Fragment backs = tt
  lack-part lacks.CutShort backs = tt
  lack-part lacks.Snapped backs = part.kept backs

  carried-part : (sender : Address) (carried : Carried) → BacksCarried sender octets all carried → BacksCarried sender of of_all carried
  carried-part sender other_port backs = tt
  carried-part sender not_link_local backs = tt
  carried-part sender (lacking lack) backs = lack-part lack backs
  carried-part sender (carries payload) (udp, is, stands) = (udp, is, StandIn-in udp octets of stands part.inside)

  pub Backs-part : (sight : Sight) → Backs octets all sight → Backs of of_all sight
  Backs-part other backs = tt
  Backs-part too_short backs = tt
  Backs-part (fragmented fragment) (stands, fits) = (StandIn-in fragment.octets octets of stands part.inside, fits)
  Backs-part (datagram place ends carried) backs = carried-part ends.sender carried backs

-- ---- choices

-- whichever of the two is seen, it is backed
either : (octets : List ℕ) (all : ℕ) (b : Bool) (x y : Sight) → Backs octets all x → Backs octets all y → Backs octets all (if b then x else y)
either octets all true x y here there = here
either octets all false x y here there = there

-- what is left is seen where the test fails
unless : (octets : List ℕ) (all : ℕ) (b : Bool) (x y : Sight) → Backs octets all x → (b ≡ false → Backs octets all y) → Backs octets all (if b then x else y)
unless octets all true x y here backed = here
unless octets all false x y here backed = backed refl

-- snapped, where less was kept than there was
unless_snapped : (octets : List ℕ) (all needed : ℕ) (place : Place) (ends : Ends) (y : Sight) → needed ≤ all → (nat_lt (length octets) needed ≡ false → Backs octets all y)
    → Backs octets all (if nat_lt (length octets) needed then datagram place ends (lacking lacks.Snapped) else y)
unless_snapped octets all needed place ends y fits backed =
    let P : Sight → Type 0 = λ sight. Backs octets all sight in
    cond_both (nat_lt (length octets) needed) (datagram place ends (lacking lacks.Snapped)) y P (λ (few : nat_lt (length octets) needed ≡ true). grind (arith, nat_tests)) backed

room : (whole needed : ℕ) → nat_lt whole needed ≡ false → needed ≤ whole
room whole needed enough = grind (arith, nat_tests)

or_right : (a b : Bool) → (a || b) ≡ false → b ≡ false
or_right true b neither = cc
or_right false b neither = neither

-- ---- UDP

-- the datagram ends where its length says
payload_backed : (ends : Ends) (octets : List ℕ) → not (is_of_routers octets) ≡ false → not (may_send ends.sender) ≡ false → 8 ≤ udp_len octets → udp_len octets ≤ length octets
    → IsDatagram ends.sender (take (udp_len octets) octets) (take (udp_len octets - 8) (drop 8 octets))
payload_backed ends octets routers may header kept =
    let len = udp_len octets in
    let source : source_port octets ≡ 6696 = grind (arith, nat_tests, routers) in
    let destination : destination_port octets ≡ 6696 = grind (arith, nat_tests, routers) in
    let after : 8 + (len - 8) ≡ len = omega arith in
    record {
      source = number-kept 0 2 len octets (omega arith) ∙ source;
      destination = number-kept 2 2 len octets (omega arith) ∙ destination;
      len = number-kept 4 2 len octets (omega arith) ∙ sym (length-take-le len octets kept);
      is_sender = sent (may_send ends.sender) may;
      after_header = sym (drop-take 8 (len - 8) octets) ∙ ap (λ (n : ℕ). drop 8 (take n octets)) after;
    }
  where
    sent : (b : Bool) → not b ≡ false → b ≡ true
    sent true is = refl
    sent false is = cc

len_backed : (place : Place) (ends : Ends) (octets : List ℕ) (all : ℕ) → not (is_of_routers octets) ≡ false → not (may_send ends.sender) ≡ false → Backs octets all (len_sight place ends octets all)
len_backed place ends octets all routers may =
    let len = udp_len octets in
    let snapped : Sight = datagram place ends (lacking lacks.Snapped) in
    let payload : Sight = datagram place ends (carries (take (len - 8) (drop 8 octets))) in
    let kept : Sight = if nat_lt (length octets) len then snapped else payload in
    let long : Sight = if nat_lt len 8 then other else kept in
    let fitting : Sight = if nat_lt all len then datagram place ends (lacking lacks.CutShort) else long in
    let told : Sight = if nat_lt (length octets) 6 then snapped else fitting in
    let fitting_backed : Backs octets all fitting = unless octets all (nat_lt all len) (datagram place ends (lacking lacks.CutShort)) long tt (λ fits.
    unless octets all (nat_lt len 8) other kept tt (λ header. unless_snapped octets all len place ends payload (room all len fits) (λ there.
    (take len octets, payload_backed ends octets routers may (room len 8 header) (room (length octets) len there), StandIn-take len octets)))) in
    unless octets all (nat_lt all 6) other told tt (λ fits. unless_snapped octets all 6 place ends fitting (room all 6 fits) (λ _. fitting_backed))

module _ (place : Place) (ends : Ends) (octets : List ℕ) (all : ℕ) where
  abbrev Port : Sight
  Port = datagram place ends other_port

  abbrev NotLocal : Sight
  NotLocal = datagram place ends not_link_local

  -- if IP says no more than its frame had
  babel_backed : Backs octets all (babel_sight place ends false octets all)
  babel_backed =
      let len : Sight = len_sight place ends octets all in
      let local : Sight = if not (may_send ends.sender) then NotLocal else len in
      unless octets all (not (is_of_routers octets)) Port local tt (λ routers.
      unless octets all (not (may_send ends.sender)) NotLocal len tt (λ may. len_backed place ends octets all routers may))

  pub udp_backed : Backs octets all (udp_sight place ends false octets all)
  unfolding udp_sight
  udp_backed =
      let babel : Sight = babel_sight place ends false octets all in
      let ports : Sight = if not (is_babel octets) then other else babel in
      let kept : Sight = if nat_lt (length octets) 4 then too_short else ports in
      either octets all (nat_lt all 4) other kept tt
      (either octets all (nat_lt (length octets) 4) too_short ports tt
      (either octets all (not (is_babel octets)) other babel tt babel_backed))

  -- and if it says more, in any octets
  pub udp_cut_backed : (of : List ℕ) (of_all : ℕ) → Backs of of_all (udp_sight place ends true octets all)
  unfolding udp_sight
  udp_cut_backed of of_all =
      let cut : Sight = datagram place ends (lacking lacks.CutShort) in
      let local : Sight = if not (may_send ends.sender) then NotLocal else cut in
      let babel : Sight = if not (is_of_routers octets) then Port else local in
      let ports : Sight = if not (is_babel octets) then other else babel in
      let kept : Sight = if nat_lt (length octets) 4 then too_short else ports in
      either of of_all (nat_lt all 4) other kept tt
      (either of of_all (nat_lt (length octets) 4) too_short ports tt
      (either of of_all (not (is_babel octets)) other babel tt
      (either of of_all (not (is_of_routers octets)) Port local tt
      (either of of_all (not (may_send ends.sender)) NotLocal cut tt tt))))

-- ---- fragments

taken_fits : (ip : IpFragment) → not (is_taken ip) ≡ false → ip.offset + ip.carried.whole < 2 ^ 16
taken_fits ip is = by (not ip.is_cut) (nat_lt (ip.offset + ip.carried.whole) 65536) _ refl is
  where
    by : (a b c : Bool) → nat_lt (ip.offset + ip.carried.whole) 65536 ≡ b → not (a && b && c) ≡ false → ip.offset + ip.carried.whole < 2 ^ 16
    by false b c told is = absurd cc
    by true false c told is = absurd cc
    by true true c told is = grind (arith, nat_tests, told)

module _ (octets : List ℕ) (all : ℕ) (ip : IpFragment) (stands : StandIn ip.carried.octets octets) where
  first_backed : ip.offset + ip.carried.whole < 2 ^ 16 → (upper : NextHeader) → Backs octets all (first_sight ip upper)
  first_backed fits upper =
      let at : Option UdpPlace = udp_place_in ip upper in
      let ports : Sight = if nat_lt (length upper.octets) 4 then too_short else taken ip at in
      let udp : Sight = if nat_lt upper.whole 8 then taken ip None else ports in
      let again : Sight = if upper.number == 44 then other else taken ip None in
      let others : Sight = if is_unkept upper then too_short else again in
      let both : StandIn ip.carried.octets octets × (ip.offset + ip.carried.whole < 2 ^ 16) = (stands, fits) in
      either octets all (upper.number == 17) udp others
      (either octets all (nat_lt upper.whole 8) (taken ip None) ports both (either octets all (nat_lt (length upper.octets) 4) too_short (taken ip at) tt both))
      (either octets all (is_unkept upper) too_short again tt (either octets all (upper.number == 44) other (taken ip None) tt both))

  fragment_backed : Backs octets all (fragment_sight ip)
  fragment_backed =
      let first : Sight = first_sight ip (past_headers 8 ip.carried) in
      let each : Sight = if ip.offset == 0 then first else taken ip None in
      unless octets all (not (is_taken ip)) other each tt (λ is_one.
      let fits : ip.offset + ip.carried.whole < 2 ^ 16 = taken_fits ip is_one in
      either octets all (ip.offset == 0) first (taken ip None) (first_backed fits (past_headers 8 ip.carried)) (stands, fits))

-- ---- IPv4

ipv4_by_cut : (place : Place) (octets : List ℕ) (all total header : ℕ) (b : Bool) → nat_lt all total ≡ b
    → Backs octets all (udp_sight place (ipv4_ends octets) b (drop header (take total octets)) (total - header))
ipv4_by_cut place octets all total header true cut = udp_cut_backed place (ipv4_ends octets) (drop header (take total octets)) (total - header) octets all
ipv4_by_cut place octets all total header false fits =
    Backs-part (drop header (take total octets)) (total - header) octets all
    (IsPart-in (drop header (take total octets)) (take total octets) octets (total - header) total all (IsPart-after header (take total octets) total)
    (IsPart-first total octets all (room all total fits)))
    (udp_sight place (ipv4_ends octets) false (drop header (take total octets)) (total - header))
    (udp_backed place (ipv4_ends octets) (drop header (take total octets)) (total - header))

ipv4_carried_backed : (place : Place) (octets : List ℕ) (all : ℕ) → Backs octets all (ipv4_carried_sight place octets all)
ipv4_carried_backed place octets all =
    let total = total_len octets in
    let header = ipv4_header_len octets in
    let ip = ipv4_fragment place octets all in
    let stands = StandIn-in (ipv4_carried octets) (take total octets) octets (StandIn-drop header (take total octets)) (StandIn-take total octets) in
    either octets all (is_fragment octets) (fragment_sight ip) (udp_sight place (ipv4_ends octets) (nat_lt all total) (ipv4_carried octets) (total - header))
    (fragment_backed octets all ip stands) (ipv4_by_cut place octets all total header (nat_lt all total) refl)

pub ipv4_backed : (place : Place) (octets : List ℕ) (all : ℕ) → Backs octets all (ipv4_sight place octets all)
unfolding ipv4_sight
ipv4_backed place octets all =
    let carried : Sight = ipv4_carried_sight place octets all in
    let whole_header : Sight = if nat_lt (length octets) 20 then too_short else carried in
    let of_udp : Sight = if not (carries_udp octets) then other else whole_header in
    let told : Sight = if nat_lt (length octets) 10 then too_short else of_udp in
    let is_other = not (ip_version octets == 4) || nat_lt (ipv4_header_len octets) 20 in
    let ip : Sight = if is_other then other else told in
    either octets all (nat_lt (length octets) 1) too_short ip tt
    (either octets all is_other other told tt
    (either octets all (nat_lt (length octets) 10) too_short of_udp tt
    (either octets all (not (carries_udp octets)) other whole_header tt
    (either octets all (nat_lt (length octets) 20) too_short carried tt (ipv4_carried_backed place octets all)))))

-- ---- IPv6

-- a header that is a part of another's octets
record IsPast (next header : NextHeader) : Type 0 where
  part : IsPart next.octets next.whole header.octets header.whole

past_either : (b : Bool) (x y header : NextHeader) → IsPast x header → IsPast y header → IsPast (if b then x else y) header
past_either true x y header here there = here
past_either false x y header here there = there

past_header-part : (header : NextHeader) → IsPast (past_header header) header
unfolding past_header
past_header-part header =
    let octets = header.octets in
    let all = header.whole in
    let same : IsPast header header = record { part = IsPart-self octets all } in
    let options : NextHeader = record { number = slice_index octets 0; octets = drop (header_len octets) octets; whole = all - header_len octets; in_fragment = header.in_fragment } in
    let atomic : NextHeader = record { number = slice_index octets 0; octets = drop 8 octets; whole = all - 8; in_fragment = true } in
    let is_one = header.number == 44 && is_atomic octets && not header.in_fragment in
    let long : NextHeader = if has_len header.number then options else (if is_one then atomic else header) in
    past_either (nat_lt (length octets) (telling_len header.number)) header long header same
    (past_either (has_len header.number) options (if is_one then atomic else header) header (record { part = IsPart-after (header_len octets) octets all })
    (past_either is_one atomic header header (record { part = IsPart-after 8 octets all }) same))

past_headers-part : (n : ℕ) (header : NextHeader)
    → IsPart (past_headers n header).octets (past_headers n header).whole header.octets header.whole
unfolding past_headers
past_headers-part zero header = IsPart-self header.octets header.whole
past_headers-part (suc n) header =
    let before = past_headers n header in
    IsPart-in (past_header before).octets before.octets header.octets (past_header before).whole before.whole header.whole
    (past_header-part before).part (past_headers-part n header)

unkept_backed : (octets : List ℕ) (all carried : ℕ) → Backs octets all (unkept_sight carried)
unkept_backed octets all carried = either octets all (nat_lt carried 4) other too_short tt tt

ipv6_by_cut : (place : Place) (octets : List ℕ) (all len : ℕ) (upper : NextHeader) (b : Bool) → IsPart upper.octets upper.whole (take len (drop 40 octets)) len → nat_lt all (40 + len) ≡ b
    → Backs octets all (udp_sight place (ipv6_ends octets) b upper.octets upper.whole)
ipv6_by_cut place octets all len upper true part cut = udp_cut_backed place (ipv6_ends octets) upper.octets upper.whole octets all
ipv6_by_cut place octets all len upper false part fits =
    let enough : 40 + len ≤ all = room all (40 + len) fits in
    Backs-part upper.octets upper.whole octets all
    (IsPart-in upper.octets (take len (drop 40 octets)) octets upper.whole len all part
    (IsPart-in (take len (drop 40 octets)) (drop 40 octets) octets len (all - 40) all
    (IsPart-first len (drop 40 octets) (all - 40) (omega arith)) (IsPart-after 40 octets all)))
    (udp_sight place (ipv6_ends octets) false upper.octets upper.whole)
    (udp_backed place (ipv6_ends octets) upper.octets upper.whole)

ipv6_carried_backed : (place : Place) (octets : List ℕ) (all : ℕ) → Backs octets all (ipv6_carried_sight place octets all (past_headers 8 (first_header octets)))
ipv6_carried_backed place octets all =
    let len = payload_len octets in
    let upper = past_headers 8 (first_header octets) in
    either octets all (nat_lt (length octets) 40) (unkept_sight upper.whole) (udp_sight place (ipv6_ends octets) (nat_lt all (40 + len)) upper.octets upper.whole)
    (unkept_backed octets all upper.whole)
    (ipv6_by_cut place octets all len upper (nat_lt all (40 + len)) (past_headers-part 8 (first_header octets)) refl)

ipv6_fragment_backed : (place : Place) (octets : List ℕ) (all : ℕ) → Backs octets all (ipv6_fragment_sight place octets all (past_headers 8 (first_header octets)))
ipv6_fragment_backed place octets all =
    let len = payload_len octets in
    let header = past_headers 8 (first_header octets) in
    let ip = ipv6_fragment place octets all header in
    let kept : Sight = if nat_lt (length octets) 40 || nat_lt (length header.octets) 8 then too_short else fragment_sight ip in
    let within = StandIn-in (take len (drop 40 octets)) (drop 40 octets) octets (StandIn-take len (drop 40 octets)) (StandIn-drop 40 octets) in
    let stands = StandIn-in ip.carried.octets header.octets octets (StandIn-drop 8 header.octets)
    (StandIn-in header.octets (take len (drop 40 octets)) octets (past_headers-part 8 (first_header octets)).inside within) in
    either octets all (nat_lt header.whole 8) other kept tt
    (either octets all (nat_lt (length octets) 40 || nat_lt (length header.octets) 8) too_short (fragment_sight ip) tt (fragment_backed octets all ip stands))

pub ipv6_backed : (place : Place) (octets : List ℕ) (all : ℕ) → Backs octets all (ipv6_sight place octets all)
unfolding ipv6_sight
ipv6_backed place octets all =
    let upper = past_headers 8 (first_header octets) in
    let carried : Sight = ipv6_carried_sight place octets all upper in
    let fragment : Sight = ipv6_fragment_sight place octets all upper in
    let unkept : Sight = if is_unkept upper then too_short else other in
    let no_udp : Sight = if upper.number == 44 && not upper.in_fragment then fragment else unkept in
    let of_upper : Sight = upper_sight place octets all upper in
    let told : Sight = if nat_lt (length octets) 7 then too_short else of_upper in
    let ip : Sight = if not (ip_version octets == 6) then other else told in
    either octets all (nat_lt (length octets) 1) too_short ip tt
    (either octets all (not (ip_version octets == 6)) other told tt
    (either octets all (nat_lt (length octets) 7) too_short of_upper tt
    (either octets all (upper.number == 17) carried no_udp (ipv6_carried_backed place octets all)
    (either octets all (upper.number == 44 && not upper.in_fragment) fragment unkept (ipv6_fragment_backed place octets all)
    (either octets all (is_unkept upper) too_short other tt tt)))))

-- ---- EtherTypes

record IsAfter (next payload : Payload) : Type 0 where
  part : IsPart next.octets next.whole payload.octets payload.whole

after_either : (b : Bool) (x y payload : Payload) → IsAfter x payload → IsAfter y payload → IsAfter (if b then x else y) payload
after_either true x y payload here there = here
after_either false x y payload here there = there

past_tag-part : (payload : Payload) → IsAfter (past_tag payload) payload
unfolding past_tag
past_tag-part payload =
    let untagged : Payload = record {
      ether_type = network_number 2 2 payload.octets;
      vlans = with_vlan payload.vlans (tag_number payload.octets);
      octets = drop 4 payload.octets;
      whole = payload.whole - 4;
    } in
    after_either (is_tag payload.ether_type && nat_le 4 (length payload.octets)) untagged payload payload (record { part = IsPart-after 4 payload.octets payload.whole })
    (record { part = IsPart-self payload.octets payload.whole })

past_tags-part : (n : ℕ) (payload : Payload)
    → IsPart (past_tags n payload).octets (past_tags n payload).whole payload.octets payload.whole
unfolding past_tags
past_tags-part zero payload = IsPart-self payload.octets payload.whole
past_tags-part (suc n) payload =
    let before = past_tags n payload in
    IsPart-in (past_tag before).octets before.octets payload.octets (past_tag before).whole before.whole payload.whole
    (past_tag-part before).part (past_tags-part n payload)

-- IPv4 by one test, IPv6 by another, and else what is not read
ip_either : (octets : List ℕ) (all : ℕ) (a b : Bool) (place : Place) (y : Sight) → Backs octets all y
    → Backs octets all (if a then ipv4_sight place octets all else (if b then ipv6_sight place octets all else y))
ip_either octets all true b place y backed = ipv4_backed place octets all
ip_either octets all false true place y backed = ipv6_backed place octets all
ip_either octets all false false place y backed = backed

typed_backed : (place : Place) (payload : Payload) → Backs payload.octets payload.whole (typed_sight place payload)
unfolding typed_sight
typed_backed place payload =
    let untagged = past_tags 4 payload in
    let there : Place = in_vlans place untagged.vlans in
    let unkept : Sight = if is_tag untagged.ether_type && nat_lt (length untagged.octets) 4 then too_short else other in
    Backs-part untagged.octets untagged.whole payload.octets payload.whole (past_tags-part 4 payload) (ip_sight there untagged)
    (ip_either untagged.octets untagged.whole (untagged.ether_type == 0x0800) (untagged.ether_type == 0x86dd) there unkept
    (either untagged.octets untagged.whole (is_tag untagged.ether_type && nat_lt (length untagged.octets) 4) too_short other tt tt))

-- ---- frames

header_backed : (field len : ℕ) (place : Place) (octets : List ℕ) (all : ℕ)
    → Backs octets all (header_sight field len place octets all)
header_backed field len place octets all =
    let payload : Payload = record { ether_type = network_number field 2 octets; vlans = no_vlans; octets = drop len octets; whole = all - len } in
    either octets all (nat_lt (length octets) len) too_short (typed_sight place payload) tt
    (Backs-part (drop len octets) (all - len) octets all (IsPart-after len octets all) (typed_sight place payload) (typed_backed place payload))

cooked2_backed : (interface : ℕ) (octets : List ℕ) (all : ℕ) → Backs octets all (cooked2_sight interface octets all)
cooked2_backed interface octets all =
    let header : Sight = header_sight 0 20 (on_link interface octets) octets all in
    let ip : Sight = if not (leads_to_ip (network_number 0 2 octets)) then other else header in
    either octets all (nat_lt (length octets) 2) too_short ip tt
    (either octets all (not (leads_to_ip (network_number 0 2 octets))) other header tt (header_backed 0 20 (on_link interface octets) octets all))

raw_backed : (place : Place) (octets : List ℕ) (all : ℕ) → Backs octets all (raw_sight place octets all)
raw_backed place octets all =
    let ip : Sight = if ip_version octets == 4 then ipv4_sight place octets all else (if ip_version octets == 6 then ipv6_sight place octets all else other) in
    either octets all (nat_lt (length octets) 1) too_short ip tt
    (ip_either octets all (ip_version octets == 4) (ip_version octets == 6) place other tt)

family_backed : (place : Place) (octets : List ℕ) (all : ℕ) → Backs octets all (family_sight place octets all)
family_backed place octets all =
    let packet = drop 4 octets in
    let ip : Sight = if protocol_family octets == 2 then ipv4_sight place packet (all - 4)
    else (if is_ipv6_family (protocol_family octets) then ipv6_sight place packet (all - 4) else other) in
    either octets all (nat_lt (length octets) 4) too_short ip tt
    (Backs-part packet (all - 4) octets all (IsPart-after 4 octets all) ip
    (ip_either packet (all - 4) (protocol_family octets == 2) (is_ipv6_family (protocol_family octets)) place other tt))

pub frame_backed : (interface : ℕ) (link : Link) (octets : List ℕ) (all : ℕ) → Backs octets all (frame_sight interface link octets all)
unfolding frame_sight
frame_backed interface links.Null octets all = family_backed (place_on interface) octets all
frame_backed interface links.Ethernet octets all = header_backed 12 14 (place_on interface) octets all
frame_backed interface links.RawIp octets all = raw_backed (place_on interface) octets all
frame_backed interface links.Loop octets all = family_backed (place_on interface) octets all
frame_backed interface links.Cooked octets all = header_backed 14 16 (place_on interface) octets all
frame_backed interface links.RawIpv4 octets all = ipv4_backed (place_on interface) octets all
frame_backed interface links.RawIpv6 octets all = ipv6_backed (place_on interface) octets all
frame_backed interface links.Cooked2 octets all = cooked2_backed interface octets all
