-- What is laid out as the headers say is seen as what it carries.
use Rattle.std.proofs.Common.{◌≡◌, ℕ, zero, suc, ◌+◌, ◌-◌, ◌*◌, ◌/◌, ◌^◌, ◌<◌, ◌≤◌, ◌⊎◌, inl, inr, Bool, true, false, List, [], ◌∷◌, ◌++◌, length, take, drop, refl, sym, ap, subst, ◌∙◌, length-append}
use Rattle.std.proofs.Common.{append_assoc, arith, nat_lt, slice_index, bit_and, not, ◌==◌}
use Rattle.std.proofs.Math.Seq.{drop-append_seam, drop-append-add, take-append_seam, take-append-add}
use Rattle.std.proofs.lemmas.List.{drop_at, length-take-le, take_all}
use Rattle.std.proofs.lemmas.Bool.Decides.{nat_tests}
use Rattle.std.proofs.lemmas.Nat.{and_mask}
use Rattle.std.proofs.lemmas.Nat.Bits.{and_high_mask, and_pow}
use Rattle.byteorder.specs.Endian.{big_bytes, big_from, big_number, little_bytes, little_number}
use Rattle.byteorder.specs.Numbers.{big_number-reads_back}
use Rattle.babel_capture.specs.declared.ends.Ends.{Ends}
use Rattle.babel_prefix.specs.declared.family.Family.TheVariants.{V6}
use Rattle.babel_capture.specs.declared.lack.Lack.TheVariants as lacks
use Rattle.babel_capture.specs.declared.link.Link.{Link}
use Rattle.babel_capture.specs.declared.link.Link.TheVariants as links
use Rattle.babel_capture.specs.declared.place.Place.{Place}
use Rattle.babel_capture.specs.declared.place.Vlans.{Vlans}
use Rattle.std.specs.Prelude.{fold, Contains, min, nat_le, Some}
use Rattle.std.specs.List.{All}
use Rattle.std.proofs.lemmas.List.Elements.{All-head, All-tail}
use Rattle.babel_capture.specs.Ethernet.{Payload, in_vlans, is_tag, past_tag, past_tags, ip_sight, typed_sight}
use Rattle.babel_capture.specs.Frame.{family_sight, frame_sight, header_sight, is_ipv6_family, leads_to_ip, protocol_family, raw_sight}
use Rattle.babel_capture.specs.Headers.{NextHeader, has_len, past_header, past_headers}
use Rattle.babel_capture.specs.Ipv4.{ipv4_ends, ipv4_sight, ipv4_header_len, total_len, carries_udp, is_fragment}
use Rattle.babel_capture.specs.Ipv6.{ipv6_ends, ipv6_sight, payload_len, first_header}
use Rattle.babel_capture.specs.LaidOut.{UdpDatagram, ends4, ends6, udp_octets, udp_size, IsBabel, Ipv4Header, ipv4_header, ipv4_octets, IsIpv4, Ipv6Header, ipv6_header, ipv6_octets, IsIpv6}
use Rattle.babel_capture.specs.LaidOut.{AreExtensions, Extension, IsFragment, IsOptions, extensions, extensions_before, first_before, first_number, HasFlags, IsOverIp}
use Rattle.babel_capture.specs.LinkHeaders.{Tag, IsTag, first_type, after_type, vlans_of, IsTyped, IsCooked2, IsFamily, HasEtherType, HasFamily, IsHeader, IsOtherType, IsOtherFamily}
use Rattle.babel_capture.specs.Octets.{network_number, ip_version}
use Rattle.babel_capture.specs.Place.{no_vlans, place_on, with_vlan}
use Rattle.babel_capture.specs.Sight.{Sight, other, datagram, carries, lacking}
use Rattle.babel_capture.specs.Udp.{udp_sight, udp_len, source_port, destination_port, may_send}
use Rattle.babel_capture.proofs.OctetLaws.{big_from-drop, number-kept}

-- a number reads back from where it was written
pub number-back : (before : List ℕ) (n x : ℕ) (after : List ℕ) → x < 256 ^ n → network_number (length before) n (before ++ (big_bytes n x ++ after)) ≡ x
unfolding network_number
number-back before n x after fits =
    let octets = before ++ (big_bytes n x ++ after) in
    let start : length before + 0 ≡ length before = omega arith in
    ap (λ (i : ℕ). big_from i n octets) (sym start) ∙ sym (big_from-drop 0 n (length before) octets)
    ∙ ap (big_from 0 n) (drop-append_seam before (big_bytes n x ++ after)) ∙ big_number-reads_back n x after fits

-- ---- UDP

udp_seen : (place : Place) (ends : Ends) (octets payload : List ℕ) (all : ℕ) → source_port octets ≡ 6696 → destination_port octets ≡ 6696 → may_send ends.sender ≡ true
    → udp_len octets ≡ 8 + length payload
    → 8 + length payload ≤ length octets → 8 + length payload ≤ all → take (length payload) (drop 8 octets) ≡ payload
    → udp_sight place ends false octets all ≡ datagram place ends (carries payload)
unfolding udp_sight
udp_seen place ends octets payload all source destination may len kept there carried =
    let count : udp_len octets - 8 ≡ length payload = omega arith in
    let ports : nat_lt all 4 ≡ false = grind (arith, nat_tests) in
    let ports_kept : nat_lt (length octets) 4 ≡ false = grind (arith, nat_tests) in
    let field : nat_lt all 6 ≡ false = grind (arith, nat_tests) in
    let field_kept : nat_lt (length octets) 6 ≡ false = grind (arith, nat_tests) in
    let fits : nat_lt all (8 + length payload) ≡ false = grind (arith, nat_tests) in
    let header : nat_lt (8 + length payload) 8 ≡ false = grind (arith, nat_tests) in
    let all_kept : nat_lt (length octets) (8 + length payload) ≡ false = grind (arith, nat_tests) in
    let same : 8 + length payload - 8 ≡ length payload = omega arith in
    rw (ports, ports_kept, source, destination, may, field, field_kept, len, fits, header, all_kept, same, carried) refl

-- a datagram's header before these octets
abbrev pub header_before : UdpDatagram → List ℕ → List ℕ
header_before udp rest = big_bytes 2 udp.source ++ (big_bytes 2 udp.destination ++ (big_bytes 2 (udp_size udp) ++ (big_bytes 2 udp.checksum ++ rest)))

at_source : (udp : UdpDatagram) (rest : List ℕ) → IsBabel udp → source_port (header_before udp rest) ≡ 6696
at_source udp rest is =
    let fits : udp.source < 2 ^ 16 = omega (arith, is.source) in
    number-back [] 2 udp.source (big_bytes 2 udp.destination ++ (big_bytes 2 (udp_size udp) ++ (big_bytes 2 udp.checksum ++ rest))) fits ∙ is.source

at_destination : (udp : UdpDatagram) (rest : List ℕ) → IsBabel udp → destination_port (header_before udp rest) ≡ 6696
at_destination udp rest is =
    let fits : udp.destination < 2 ^ 16 = omega (arith, is.destination) in
    number-back (big_bytes 2 udp.source) 2 udp.destination (big_bytes 2 (udp_size udp) ++ (big_bytes 2 udp.checksum ++ rest)) fits ∙ is.destination

at_len : (udp : UdpDatagram) (rest : List ℕ) → IsBabel udp → udp_len (header_before udp rest) ≡ udp_size udp
at_len udp rest is = number-back (big_bytes 2 udp.source ++ big_bytes 2 udp.destination) 2 (udp_size udp) (big_bytes 2 udp.checksum ++ rest) is.len_fits

pub udp_laid_out : (place : Place) (ends : Ends) (udp : UdpDatagram) (rest : List ℕ) (all : ℕ) → IsBabel udp → may_send ends.sender ≡ true → udp_size udp ≤ all
    → udp_sight place ends false (udp_octets udp ++ rest) all ≡ datagram place ends (carries udp.payload)
udp_laid_out place ends udp rest all is may there =
    let behind = udp.payload ++ rest in
    udp_seen place ends (udp_octets udp ++ rest) udp.payload all (at_source udp behind is) (at_destination udp behind is) may (at_len udp behind is)
    (omega (arith, length-append udp.payload rest)) there (take-append_seam udp.payload rest)

-- a part of it, ports within
udp_snapped : (place : Place) (ends : Ends) (octets : List ℕ) (size all : ℕ) → source_port octets ≡ 6696 → destination_port octets ≡ 6696 → may_send ends.sender ≡ true → 4 ≤ length octets
    → 8 ≤ size
    → length octets < size → size ≤ all → (6 ≤ length octets → udp_len octets ≡ size) → udp_sight place ends false octets all ≡ datagram place ends (lacking lacks.Snapped)
unfolding udp_sight
udp_snapped place ends octets size all source destination may some header less there len =
    let ports : nat_lt all 4 ≡ false = grind (arith, nat_tests) in
    let ports_kept : nat_lt (length octets) 4 ≡ false = grind (arith, nat_tests) in
    let field : nat_lt all 6 ≡ false = grind (arith, nat_tests) in
    let fits : nat_lt all size ≡ false = grind (arith, nat_tests) in
    let long : nat_lt size 8 ≡ false = grind (arith, nat_tests) in
    let cut : nat_lt (length octets) size ≡ true = grind (arith, nat_tests) in
    by_field (nat_lt (length octets) 6) refl ports ports_kept field fits long cut
  where
    by_field : (short : Bool) → nat_lt (length octets) 6 ≡ short → nat_lt all 4 ≡ false → nat_lt (length octets) 4 ≡ false → nat_lt all 6 ≡ false → nat_lt all size ≡ false → nat_lt size 8 ≡ false
        → nat_lt (length octets) size ≡ true → udp_sight place ends false octets all ≡ datagram place ends (lacking lacks.Snapped)
    by_field true kept ports ports_kept field fits long cut = rw (ports, ports_kept, source, destination, may, field, kept) refl
    by_field false kept ports ports_kept field fits long cut =
        (let said : udp_len octets ≡ size = len (grind (arith, nat_tests)) in
        rw (ports, ports_kept, source, destination, may, field, kept, said, fits, long, cut) refl)

udp_cut : (place : Place) (ends : Ends) (udp : UdpDatagram) (n all : ℕ) → IsBabel udp → may_send ends.sender ≡ true → 4 ≤ n → n < udp_size udp → udp_size udp ≤ all
    → udp_sight place ends false (take n (udp_octets udp)) all ≡ datagram place ends (lacking lacks.Snapped)
udp_cut place ends udp n all is may some less there =
    let octets = udp_octets udp in
    let count : length (take n octets) ≡ n = length-take-le n octets (omega arith) in
    udp_snapped place ends (take n octets) (udp_size udp) all (number-kept 0 2 n octets (omega arith) ∙ at_source udp udp.payload is)
    (number-kept 2 2 n octets (omega arith) ∙ at_destination udp udp.payload is) may
    (omega arith) (omega arith) (omega arith) there (λ (long : 6 ≤ length (take n octets)). number-kept 4 2 n octets (omega arith) ∙ at_len udp udp.payload is)

-- ---- extension headers

past_udp : (header : NextHeader) → header.number ≡ 17 → past_header header ≡ header
unfolding past_header
past_udp header udp =
    let long : nat_lt (length header.octets) 0 ≡ false = grind (arith, nat_tests) in
    rw (udp, long) refl

past-udp : (n : ℕ) (header : NextHeader) → header.number ≡ 17 → past_headers n header ≡ header
unfolding past_headers
past-udp zero header udp = refl
past-udp (suc n) header udp = ap past_header (past-udp n header udp) ∙ past_udp header udp

-- the first of them first
pub past-first_header : (n : ℕ) (header : NextHeader) → past_headers (suc n) header ≡ past_headers n (past_header header)
unfolding past_headers
past-first_header zero header = refl
past-first_header (suc n) header = ap past_header (past-first_header n header)

abbrev pub header_of : ℕ → List ℕ → ℕ → Bool → NextHeader
header_of number octets all in_fragment = record { number = number; octets = octets; whole = all; in_fragment = in_fragment }

has_len_of : (number : ℕ) → Contains (0 ∷ 43 ∷ 60 ∷ []) number → has_len number ≡ true
has_len_of number one = grind (arith, nat_tests, one)

past_options : (number units next : ℕ) (more rest : List ℕ) (all : ℕ) (b : Bool) → Contains (0 ∷ 43 ∷ 60 ∷ []) number → length more ≡ 6 + 8 * units
    → past_header (header_of number (next ∷ units ∷ (more ++ rest)) all b) ≡ header_of next rest (all - (2 + length more)) b
unfolding past_header
past_options number units next more rest all b one sized =
    let octets = next ∷ units ∷ (more ++ rest) in
    let has = has_len_of number one in
    let long : nat_lt (length octets) 2 ≡ false = grind (arith, nat_tests) in
    let front : 8 * (units + 1) ≡ 2 + length more = omega (arith, sized) in
    let at_rest : drop (2 + length more) octets ≡ rest = drop_at (next ∷ units ∷ more) rest (2 + length more) (omega arith) in
    rw (has, long, front, at_rest) refl

past_fragment : (bits reserved next : ℕ) (id rest : List ℕ) (all : ℕ) → bits < 2 ^ 16 → (bit_and bits 0xfff8 == 0) ≡ true → not (bit_and bits 0x0001 == 0) ≡ false → length id ≡ 4
    → past_header (header_of 44 (next ∷ reserved ∷ (big_bytes 2 bits ++ (id ++ rest))) all false) ≡ header_of next rest (all - 8) true
unfolding past_header
past_fragment bits reserved next id rest all fits offset last sized =
    let front = next ∷ reserved ∷ (big_bytes 2 bits ++ id) in
    let octets = next ∷ reserved ∷ (big_bytes 2 bits ++ (id ++ rest)) in
    let long : nat_lt (length octets) 4 ≡ false = grind (arith, nat_tests) in
    let at_bits : network_number 2 2 octets ≡ bits = number-back (next ∷ reserved ∷ []) 2 bits (id ++ rest) fits in
    let eight : length front ≡ 8 = omega (arith, sized) in
    let at_rest : drop 8 octets ≡ rest = drop_at front rest 8 eight in
    rw (long, at_bits, offset, last, at_rest) refl

-- the offset and the flag of a fragment header
offset_in : (bits flag : ℕ) → bits < 2 ^ 2 → flag < 2 → (bit_and (2 * bits + flag) 0xfff8 == 0) ≡ true
offset_in bits flag fits low =
    let none : bit_and (2 * bits + flag) 0xfff8 ≡ 0 = and_high_mask 16 3 (omega arith) (2 * bits + flag) (omega arith) ∙ omega arith in
    rw none refl

last_in : (bits : ℕ) → not (bit_and (2 * bits + 0) 0x0001 == 0) ≡ false
last_in bits =
    let none : bit_and (2 * bits + 0) 0x0001 ≡ 0 = and_mask (2 * bits + 0) 1 ∙ omega arith in
    rw none refl

past_option : (header : Extension) (next : ℕ) (rest : List ℕ) (all : ℕ) (b : Bool) → IsOptions header
    → past_header (header_of header.number (next ∷ (header.holds ++ rest)) all b) ≡ header_of next rest (all - (1 + length header.holds)) b
past_option header next rest all b is =
    let count : length header.holds ≡ 1 + length is.more = ap length is.is_held ∙ omega arith in
    let same : all - (2 + length is.more) ≡ all - (1 + length header.holds) = omega arith in
    ap (λ (holds : List ℕ). past_header (header_of header.number (next ∷ (holds ++ rest)) all b)) is.is_held
    ∙ past_options header.number is.units next is.more rest all b is.is_number is.sized ∙ ap (λ (n : ℕ). header_of next rest n b) same

past_atomic : (header : Extension) (next : ℕ) (rest : List ℕ) (all : ℕ) → IsFragment 0 header
    → past_header (header_of header.number (next ∷ (header.holds ++ rest)) all false) ≡ header_of next rest (all - (1 + length header.holds)) true
past_atomic header next rest all is =
    let count : length header.holds ≡ 7 = ap length is.is_held ∙ omega (arith, is.sized) in
    let same : all - 8 ≡ all - (1 + length header.holds) = omega arith in
    ap (λ (number : ℕ). past_header (header_of number (next ∷ (header.holds ++ rest)) all false)) is.is_number
    ∙ ap (λ (holds : List ℕ). past_header (header_of 44 (next ∷ (holds ++ rest)) all false)) is.is_held
    ∙ past_fragment (2 * is.bits + 0) is.reserved next is.id rest all (omega (arith, is.bits_fit)) (offset_in is.bits 0 is.bits_fit (omega arith)) (last_in is.bits) is.sized
    ∙ ap (λ (n : ℕ). header_of next rest n true) same

-- whether a fragment header is among them, or came before
in_after : (b : Bool) (headers : List Extension) → AreExtensions b headers → Bool
in_after b [] are = b
in_after b (header ∷ headers) (inl is) = in_after b headers is.1
in_after b (header ∷ headers) (inr is) = in_after true headers is.2

-- headers before what comes after them
abbrev headers_of : List Extension → List ℕ → ℕ → NextHeader
headers_of headers rest all = header_of (first_number headers) (extensions headers ++ rest) all false

-- past the first of them, then past the others
past-one : (header : Extension) (headers : List Extension) (last n : ℕ) (rest : List ℕ) (all : ℕ) (b c d : Bool)
    → past_header (header_of header.number (first_before headers last ∷ (header.holds ++ (extensions_before headers last ++ rest))) all b)
    ≡ header_of (first_before headers last) (extensions_before headers last ++ rest) (all - (1 + length header.holds)) c
    → past_headers n (header_of (first_before headers last) (extensions_before headers last ++ rest) (all - (1 + length header.holds)) c)
    ≡ past_headers (n - length headers) (header_of last rest (all - (1 + length header.holds) - length (extensions_before headers last)) d)
    → past_headers (suc n) (header_of header.number (extensions_before (header ∷ headers) last ++ rest) all b)
    ≡ past_headers (suc n - length (header ∷ headers)) (header_of last rest (all - length (extensions_before (header ∷ headers) last)) d)
past-one header headers last n rest all b c d first others =
    let inner = extensions_before headers last in
    let long : length (extensions_before (header ∷ headers) last) ≡ 1 + length header.holds + length inner = omega (arith, length-append header.holds inner) in
    let less : suc n - length (header ∷ headers) ≡ n - length headers = omega arith in
    let left : all - (1 + length header.holds) - length inner ≡ all - length (extensions_before (header ∷ headers) last) = omega (arith, long) in
    past-first_header n (header_of header.number (extensions_before (header ∷ headers) last ++ rest) all b)
    ∙ ap (λ (octets : List ℕ). past_headers n (past_header (header_of header.number octets all b))) (ap (λ (more : List ℕ). first_before headers last ∷ more) (append_assoc header.holds inner rest))
    ∙ ap (past_headers n) first
    ∙ others
    ∙ ap (λ (m : ℕ). past_headers (n - length headers) (header_of last rest m d)) left
    ∙ ap (λ (m : ℕ). past_headers m (header_of last rest (all - length (extensions_before (header ∷ headers) last)) d)) (sym less)

-- past the headers before what is of another number
past-before : (b : Bool) (headers : List Extension) (last n : ℕ) (rest : List ℕ) (all : ℕ) → length headers ≤ n → (are : AreExtensions b headers)
    → past_headers n (header_of (first_before headers last) (extensions_before headers last ++ rest) all b)
    ≡ past_headers (n - length headers) (header_of last rest (all - length (extensions_before headers last)) (in_after b headers are))
unfolding in_after
past-before b [] last n rest all few are =
    let count : n ≡ n - 0 = omega arith in
    let left : all ≡ all - 0 = omega arith in
    ap (λ (m : ℕ). past_headers m (header_of last rest all b)) count ∙ ap (λ (m : ℕ). past_headers (n - 0) (header_of last rest m b)) left
past-before b (header ∷ headers) last zero rest all few are = absurd (omega arith)
past-before b (header ∷ headers) last (suc n) rest all few (inl is) =
    past-one header headers last n rest all b b (in_after b headers is.1) (past_option header (first_before headers last) (extensions_before headers last ++ rest) all b is.0)
    (past-before b headers last n rest (all - (1 + length header.holds)) (omega arith) is.1)
past-before b (header ∷ headers) last (suc n) rest all few (inr is) =
    past-one header headers last n rest all b true (in_after true headers is.2)
    (ap (λ (c : Bool). past_header (header_of header.number (first_before headers last ∷ (header.holds ++ (extensions_before headers last ++ rest))) all c)) is.1
    ∙ past_atomic header (first_before headers last) (extensions_before headers last ++ rest) all is.0)
    (past-before true headers last n rest (all - (1 + length header.holds)) (omega arith) is.2)

-- where all of them are options
are-extensions : (headers : List Extension) → All IsOptions headers → AreExtensions false headers
are-extensions [] are = tt
are-extensions (header ∷ headers) are = inl (All-head IsOptions header headers are, are-extensions headers (All-tail IsOptions header headers are))

in-none : (headers : List Extension) (are : All IsOptions headers) → in_after false headers (are-extensions headers are) ≡ false
unfolding in_after are-extensions
in-none [] are = refl
in-none (header ∷ headers) are = in-none headers (All-tail IsOptions header headers are)

pub past-options : (headers : List Extension) (last n : ℕ) (rest : List ℕ) (all : ℕ) → length headers ≤ n → All IsOptions headers
    → past_headers n (header_of (first_before headers last) (extensions_before headers last ++ rest) all false)
    ≡ past_headers (n - length headers) (header_of last rest (all - length (extensions_before headers last)) false)
past-options headers last n rest all few are =
    past-before false headers last n rest all few (are-extensions headers are)
    ∙ ap (λ (b : Bool). past_headers (n - length headers) (header_of last rest (all - length (extensions_before headers last)) b)) (in-none headers are)

past-extensions : (headers : List Extension) (n : ℕ) (rest : List ℕ) (all : ℕ) → length headers ≤ n → (are : AreExtensions false headers)
    → past_headers n (headers_of headers rest all) ≡ header_of 17 rest (all - length (extensions headers)) (in_after false headers are)
past-extensions headers n rest all few are =
    let b = in_after false headers are in
    past-before false headers 17 n rest all few are ∙ past-udp (n - length headers) (header_of 17 rest (all - length (extensions headers)) b) refl

-- ---- IPv6

ipv6_seen : (place : Place) (octets inner carried : List ℕ) (number total len all : ℕ) (ends : Ends) (b : Bool) → 40 ≤ length octets → ip_version octets ≡ 6 → payload_len octets ≡ total
    → slice_index octets 6 ≡ number → ipv6_ends octets ≡ ends → 40 + total ≤ all → take total (drop 40 octets) ≡ inner
    → past_headers 8 (header_of number inner total false) ≡ header_of 17 carried len b
    → ipv6_sight place octets all ≡ udp_sight place ends false carried len
unfolding ipv6_sight
ipv6_seen place octets inner carried number total len all ends b long version said first from there kept past =
    let upper : past_headers 8 (first_header octets) ≡ header_of 17 carried len b = rw (said, kept, first) past in
    let some : nat_lt (length octets) 1 ≡ false = grind (arith, nat_tests) in
    let is_ip : not (ip_version octets == 6) ≡ false = rw version refl in
    let next : nat_lt (length octets) 7 ≡ false = grind (arith, nat_tests) in
    let header_kept : nat_lt (length octets) 40 ≡ false = grind (arith, nat_tests) in
    let fits : nat_lt all (40 + total) ≡ false = grind (arith, nat_tests) in
    rw (some, is_ip, next, upper, header_kept, said, fits) (ap (λ (e : Ends). udp_sight place e false carried len) from)

pub ipv6_version : (ip : Ipv6Header) (len number : ℕ) (tail : List ℕ) → ip.class < 2 ^ 4 → ip_version (ipv6_header ip len number ++ tail) ≡ 6
ipv6_version ip len number tail fits = let class = ip.class in omega arith

-- a packet that says `len` octets after these headers
ipv6_laid_out : (place : Place) (ip : Ipv6Header) (headers : List Extension) (tail : List ℕ) (len all : ℕ) (b : Bool) → IsIpv6 ip (length (extensions headers) + len)
    → past_headers 8 (headers_of headers (take len tail) (length (extensions headers) + len)) ≡ header_of 17 (take len tail) len b → 40 + (length (extensions headers) + len) ≤ all
    → ipv6_sight place (ipv6_header ip (length (extensions headers) + len) (first_number headers) ++ (extensions headers ++ tail)) all
    ≡ udp_sight place (ends6 ip) false (take len tail) len
ipv6_laid_out place ip headers tail len all b fits past there =
    let inner = extensions headers in
    let total = length inner + len in
    let number = first_number headers in
    let octets = ipv6_header ip total number ++ (inner ++ tail) in
    let class = ip.class in
    let front = (6 * 2 ^ 4 + class) ∷ big_bytes 3 ip.flow in
    let behind = big_bytes 16 ip.destination ++ (inner ++ tail) in
    let at_total : payload_len octets ≡ total = number-back front 2 total (number ∷ ip.hop_limit ∷ (big_bytes 16 ip.sender ++ behind)) fits.len_fits in
    let to_sender = front ++ big_bytes 2 total ++ number ∷ ip.hop_limit ∷ [] in
    let at_sender : network_number 8 16 octets ≡ ip.sender = number-back to_sender 16 ip.sender behind fits.sender_fits in
    let at_destination : network_number 24 16 octets ≡ ip.destination = number-back (to_sender ++ big_bytes 16 ip.sender) 16 ip.destination (inner ++ tail) fits.destination_fits in
    ipv6_seen place octets (inner ++ take len tail) (take len tail) number total len all (ends6 ip) b (omega arith)
    (ipv6_version ip total number (inner ++ tail) fits.class_fits) at_total refl (rw (at_sender, at_destination) refl) there
    (take-append-add inner tail len) past

-- ---- IPv4

ipv4_seen : (place : Place) (octets carried : List ℕ) (header len all : ℕ) (ends : Ends) → 20 ≤ length octets → ip_version octets ≡ 4
    → ipv4_header_len octets ≡ header → 20 ≤ header → total_len octets ≡ header + len → header + len ≤ all
    → carries_udp octets ≡ true → is_fragment octets ≡ false → ipv4_ends octets ≡ ends
    → drop header (take (header + len) octets) ≡ carried
    → ipv4_sight place octets all ≡ udp_sight place ends false carried len
unfolding ipv4_sight
ipv4_seen place octets carried header len all ends long version at_header some_header at_total there of_udp whole from kept =
    let total = header + len in
    let some : nat_lt (length octets) 1 ≡ false = grind (arith, nat_tests) in
    let is_ip : not (ip_version octets == 4) ≡ false = rw version refl in
    let header_fits : nat_lt header 20 ≡ false = grind (arith, nat_tests) in
    let protocol_kept : nat_lt (length octets) 10 ≡ false = grind (arith, nat_tests) in
    let header_kept : nat_lt (length octets) 20 ≡ false = grind (arith, nat_tests) in
    let fits : nat_lt all total ≡ false = grind (arith, nat_tests) in
    let udp : not (carries_udp octets) ≡ false = rw of_udp refl in
    let count : total - header ≡ len = omega arith in
    rw (some, is_ip, at_header, header_fits, protocol_kept, udp, header_kept, whole, at_total, fits, kept, count) (ap (λ (e : Ends). udp_sight place e false carried len) from)

-- what the flags of IPv4 say
flags_fit : (flag flags : ℕ) → flag < 2 → HasFlags flag flags → flags < 2 ^ 16
flags_fit flag flags low has = omega (arith, has.bits_fit, has.are_flags)

offset_of : (flag flags : ℕ) → HasFlags flag flags → not (8 * bit_and flags 0x1fff == 0) ≡ false
offset_of flag flags has =
    let none : bit_and flags 0x1fff ≡ 0 = and_mask flags 13 ∙ omega (arith, has.are_flags) in
    rw none refl

last_of : (flags : ℕ) → HasFlags 0 flags → not (bit_and flags 0x2000 == 0) ≡ false
last_of flags has =
    let none : bit_and flags 0x2000 ≡ 0 = and_pow flags 13 ∙ omega (arith, has.are_flags) in
    rw none refl

pub words_of : (words : ℕ) → words ≤ 10 → bit_and (4 * 2 ^ 4 + (5 + words)) 15 ≡ 5 + words
words_of words few = and_mask (4 * 2 ^ 4 + (5 + words)) 4 ∙ omega arith

pub ipv4_version : (ip : Ipv4Header) (len : ℕ) (tail : List ℕ) → ip.words ≤ 10 → ip_version (ipv4_header ip len ++ tail) ≡ 4
ipv4_version ip len tail few = let words = ip.words in omega arith

-- a packet that says `len` octets after its header
ipv4_laid_out : (place : Place) (ip : Ipv4Header) (tail : List ℕ) (len all : ℕ) → IsIpv4 ip len → 20 + 4 * ip.words + len ≤ all → HasFlags 0 ip.flags
    → ipv4_sight place (ipv4_header ip len ++ tail) all ≡ udp_sight place (ends4 ip) false (take len tail) len
ipv4_laid_out place ip tail len all fits there none =
    let front = ipv4_header ip len in
    let octets = front ++ tail in
    let words = ip.words in
    let header = 20 + 4 * words in
    let total = header + len in
    let few = fits.words_fit in
    let start = (4 * 2 ^ 4 + (5 + words)) ∷ ip.service ∷ [] in
    let to_flags = start ++ big_bytes 2 total ++ big_bytes 2 ip.id in
    let to_sender = to_flags ++ big_bytes 2 ip.flags ++ ip.ttl ∷ 17 ∷ big_bytes 2 ip.checksum in
    let behind = ip.options ++ tail in
    let at_header : ipv4_header_len octets ≡ header = ap (λ (n : ℕ). 4 * n) (words_of words few) ∙ omega arith in
    let at_total : total_len octets ≡ total = number-back start 2 total (big_bytes 2 ip.id ++ big_bytes 2 ip.flags ++ ip.ttl ∷ 17 ∷ big_bytes 2 ip.checksum
    ++ big_bytes 4 ip.sender ++ big_bytes 4 ip.destination ++ behind) fits.len_fits in
    let at_flags : network_number 6 2 octets ≡ ip.flags = number-back to_flags 2 ip.flags (ip.ttl ∷ 17 ∷ big_bytes 2 ip.checksum
    ++ big_bytes 4 ip.sender ++ big_bytes 4 ip.destination ++ behind) (flags_fit 0 ip.flags (omega arith) none) in
    let at_sender : network_number 12 4 octets ≡ ip.sender = number-back to_sender 4 ip.sender (big_bytes 4 ip.destination ++ behind) fits.sender_fits in
    let at_destination : network_number 16 4 octets ≡ ip.destination = number-back (to_sender ++ big_bytes 4 ip.sender) 4 ip.destination behind fits.destination_fits in
    let is_whole : is_fragment octets ≡ false = rw (at_flags, offset_of 0 ip.flags none, last_of ip.flags none) refl in
    let front_len : length front ≡ header = omega (arith, fits.options_len) in
    let taken : take total octets ≡ front ++ take len tail = ap (λ (n : ℕ). take (n + len) octets) (sym front_len) ∙ take-append-add front tail len in
    let kept : drop header (take total octets) ≡ take len tail =
    ap (drop header) taken ∙ ap (λ (n : ℕ). drop n (front ++ take len tail)) (sym front_len) ∙ drop-append_seam front (take len tail) in
    ipv4_seen place octets (take len tail) header len all (ends4 ip) (omega arith) (ipv4_version ip len tail few) at_header (omega arith) at_total there refl is_whole
    (rw (at_sender, at_destination) refl) kept

-- ---- IP packets

-- the octets begin a packet of the version that the EtherType says
abbrev pub BeginsIp : ℕ → List ℕ → Type 0
BeginsIp ether_type octets = ((ether_type ≡ 0x0800) × (ip_version octets ≡ 4)) ⊎ ((ether_type ≡ 0x86dd) × (ip_version octets ≡ 6))

abbrev pub ip_at : Place → ℕ → List ℕ → ℕ → Sight
ip_at place ether_type octets all = ip_sight place (record { ether_type = ether_type; vlans = no_vlans; octets = octets; whole = all })

-- after an EtherType these octets are seen so
abbrev pub SeenIn : Place → ℕ → List ℕ → ℕ → Sight → Type 0
SeenIn place ether_type octets all sight = (1 ≤ length octets) × BeginsIp ether_type octets × (ip_at place ether_type octets all ≡ sight)

pub over_ipv4 : (place : Place) (ether_type : ℕ) (ip : Ipv4Header) (len all : ℕ) (tail octets : List ℕ) (sight : Sight) → ether_type ≡ 0x0800 → ip.words ≤ 10 → octets ≡ ipv4_header ip len ++ tail
    → ipv4_sight place (ipv4_header ip len ++ tail) all ≡ sight → SeenIn place ether_type octets all sight
over_ipv4 place ether_type ip len all tail octets sight type few laid seen =
    let long : 1 ≤ length octets = rw laid (omega arith) in
    let same : ip_at place ether_type octets all ≡ sight = rw (type, laid) seen in
    (long, inl (type, ap ip_version laid ∙ ipv4_version ip len tail few), same)

pub over_ipv6 : (place : Place) (ether_type : ℕ) (ip : Ipv6Header) (len number all : ℕ) (tail octets : List ℕ) (sight : Sight) → ether_type ≡ 0x86dd → ip.class < 2 ^ 4
    → octets ≡ ipv6_header ip len number ++ tail
    → ipv6_sight place (ipv6_header ip len number ++ tail) all ≡ sight → SeenIn place ether_type octets all sight
over_ipv6 place ether_type ip len number all tail octets sight type few laid seen =
    let long : 1 ≤ length octets = rw laid (omega arith) in
    let same : ip_at place ether_type octets all ≡ sight = rw (type, laid) seen in
    (long, inr (type, ap ip_version laid ∙ ipv6_version ip len number tail few), same)

-- what is carried, whole and with octets after it, or its first octets
ipv4_long : (ip : Ipv4Header) (carried : List ℕ) (more : ℕ) → length ip.options ≡ 4 * ip.words → length (ipv4_octets ip carried more) ≡ 20 + 4 * ip.words + length carried
ipv4_long ip carried more sized = omega (arith, length-append ip.options carried, sized)

whole_over_ipv4 : (place : Place) (ether_type : ℕ) (ip : Ipv4Header) (carried after : List ℕ) (more all : ℕ) (sight : Sight) → ether_type ≡ 0x0800
    → IsIpv4 ip (length carried + more) → length (ipv4_octets ip carried more) + more ≤ all → HasFlags 0 ip.flags
    → ((rest : List ℕ) → udp_sight place (ends4 ip) false (carried ++ rest) (length carried + more) ≡ sight)
    → SeenIn place ether_type (ipv4_octets ip carried more ++ after) all sight
whole_over_ipv4 place ether_type ip carried after more all sight type fits there none seen =
    let len = length carried + more in
    let kept : take len (carried ++ after) ≡ carried ++ take more after = take-append-add carried after more in
    let laid = ipv4_laid_out place ip (carried ++ after) len all fits (omega (arith, ipv4_long ip carried more fits.options_len)) none in
    over_ipv4 place ether_type ip len all (carried ++ after) (ipv4_octets ip carried more ++ after) sight type fits.words_fit (append_assoc (ipv4_header ip len) carried after)
    (laid ∙ ap (λ (c : List ℕ). udp_sight place (ends4 ip) false c len) kept ∙ seen (take more after))

cut_over_ipv4 : (place : Place) (ether_type : ℕ) (ip : Ipv4Header) (carried : List ℕ) (more n all : ℕ) (sight : Sight) → ether_type ≡ 0x0800 → IsIpv4 ip (length carried + more)
    → length (ipv4_octets ip carried more) + more ≤ all → HasFlags 0 ip.flags → n ≤ length carried
    → udp_sight place (ends4 ip) false (take n carried) (length carried + more) ≡ sight
    → SeenIn place ether_type (take (20 + 4 * ip.words + n) (ipv4_octets ip carried more)) all sight
cut_over_ipv4 place ether_type ip carried more n all sight type fits there no_fragment less seen =
    let len = length carried + more in
    let front = ipv4_header ip len in
    let front_len : length front ≡ 20 + 4 * ip.words = omega (arith, fits.options_len) in
    let part : take (20 + 4 * ip.words + n) (ipv4_octets ip carried more) ≡ front ++ take n carried = ap (λ (h : ℕ). take (h + n) (front ++ carried)) (sym front_len)
    ∙ take-append-add front carried n in
    let kept : take len (take n carried) ≡ take n carried = take_all len (take n carried) (omega (arith, length-take-le n carried less)) in
    let laid = ipv4_laid_out place ip (take n carried) len all fits (omega (arith, ipv4_long ip carried more fits.options_len)) no_fragment in
    over_ipv4 place ether_type ip len all (take n carried) (take (20 + 4 * ip.words + n) (ipv4_octets ip carried more)) sight type fits.words_fit part
    (laid ∙ ap (λ (c : List ℕ). udp_sight place (ends4 ip) false c len) kept ∙ seen)

ipv6_long : (ip : Ipv6Header) (headers : List Extension) (carried : List ℕ) (more : ℕ) → length (ipv6_octets ip headers carried more) ≡ 40 + (length (extensions headers) + length carried)
ipv6_long ip headers carried more = omega (arith, length-append (extensions headers) carried)

whole_over_ipv6 : (place : Place) (ether_type : ℕ) (ip : Ipv6Header) (headers : List Extension) (carried after : List ℕ) (more all : ℕ) (sight : Sight) (b : Bool) → ether_type ≡ 0x86dd
    → IsIpv6 ip (length (extensions headers) + (length carried + more)) → length (ipv6_octets ip headers carried more) + more ≤ all
    → ((rest : List ℕ) (whole : ℕ) → past_headers 8 (headers_of headers rest whole) ≡ header_of 17 rest (whole - length (extensions headers)) b)
    → ((rest : List ℕ) → udp_sight place (ends6 ip) false (carried ++ rest) (length carried + more) ≡ sight)
    → SeenIn place ether_type (ipv6_octets ip headers carried more ++ after) all sight
whole_over_ipv6 place ether_type ip headers carried after more all sight b type fits there past seen =
    let len = length carried + more in
    let inner = extensions headers in
    let total = length inner + len in
    let front = ipv6_header ip total (first_number headers) in
    let tail = carried ++ after in
    let kept : take len tail ≡ carried ++ take more after = take-append-add carried after more in
    let left : total - length inner ≡ len = omega arith in
    let passed : past_headers 8 (headers_of headers (take len tail) total) ≡ header_of 17 (take len tail) len b = past (take len tail) total ∙ ap
    (λ (n : ℕ). header_of 17 (take len tail) n b) left in
    let laid = ipv6_laid_out place ip headers tail len all b fits passed (omega (arith, ipv6_long ip headers carried more)) in
    let octets_are : ipv6_octets ip headers carried more ++ after ≡ front ++ (inner ++ tail) = append_assoc front (inner ++ carried) after ∙ ap (λ (o : List ℕ). front ++ o)
    (append_assoc inner carried after) in
    over_ipv6 place ether_type ip total (first_number headers) all (inner ++ tail) (ipv6_octets ip headers carried more ++ after) sight type fits.class_fits octets_are
    (laid ∙ ap (λ (c : List ℕ). udp_sight place (ends6 ip) false c len) kept ∙ seen (take more after))

cut_over_ipv6 : (place : Place) (ether_type : ℕ) (ip : Ipv6Header) (headers : List Extension) (carried : List ℕ) (more n all : ℕ) (sight : Sight) → ether_type ≡ 0x86dd
    → IsIpv6 ip (length (extensions headers) + (length carried + more)) → length (ipv6_octets ip headers carried more) + more ≤ all → length headers ≤ 8 → AreExtensions false headers
    → n ≤ length carried
    → udp_sight place (ends6 ip) false (take n carried) (length carried + more) ≡ sight
    → SeenIn place ether_type (take (40 + (length (extensions headers) + n)) (ipv6_octets ip headers carried more)) all sight
cut_over_ipv6 place ether_type ip headers carried more n all sight type fits there few are less seen =
    let b = in_after false headers are in
    let len = length carried + more in
    let inner = extensions headers in
    let total = length inner + len in
    let front = ipv6_header ip total (first_number headers) in
    let tail = take n carried in
    let kept : take len tail ≡ tail = take_all len tail (omega (arith, length-take-le n carried less)) in
    let left : total - length inner ≡ len = omega arith in
    let passed : past_headers 8 (headers_of headers (take len tail) total) ≡ header_of 17 (take len tail) len b = past-extensions headers 8 (take len tail) total few are ∙ ap
    (λ (n : ℕ). header_of 17 (take len tail) n b) left in
    let laid = ipv6_laid_out place ip headers tail len all b fits passed (omega (arith, ipv6_long ip headers carried more)) in
    let part : take (40 + (length inner + n)) (ipv6_octets ip headers carried more) ≡ front ++ (inner ++ tail) = take-append-add front (inner ++ carried) (length inner + n) ∙ ap
    (λ (o : List ℕ). front ++ o) (take-append-add inner carried n) in
    over_ipv6 place ether_type ip total (first_number headers) all (inner ++ tail) (take (40 + (length inner + n)) (ipv6_octets ip headers carried more)) sight type fits.class_fits part
    (laid ∙ ap (λ (c : List ℕ). udp_sight place (ends6 ip) false c len) kept ∙ seen)

-- ---- datagrams over either

local_may : (bits : ℕ) → bits / 2 ^ 118 ≡ 0x3fa → may_send (record { family = V6; bits = bits }) ≡ true
local_may bits local = rw local refl

whole_seen : (place : Place) (ether_type : ℕ) (ends : Ends) (udp : UdpDatagram) (packet after : List ℕ) (more all : ℕ) → IsBabel udp → IsOverIp ether_type ends udp packet more
    → length packet + more ≤ all → SeenIn place ether_type (packet ++ after) all (datagram place ends (carries udp.payload))
whole_seen place ether_type ends udp packet after more all babel (inl over) there =
    let ip = over.ip in
    rw (over.is_packet, over.are_ends)
    (whole_over_ipv4 place ether_type ip (udp_octets udp) after more all (datagram place (ends4 ip) (carries udp.payload)) over.is_type over.fits
    (omega (arith, ap length over.is_packet)) over.no_fragment
    (λ (rest : List ℕ). udp_laid_out place (ends4 ip) udp rest (length (udp_octets udp) + more) babel refl (omega arith)))
whole_seen place ether_type ends udp packet after more all babel (inr over) there =
    let ip = over.ip in
    rw (over.is_packet, over.are_ends)
    (whole_over_ipv6 place ether_type ip over.headers (udp_octets udp) after more all (datagram place (ends6 ip) (carries udp.payload)) (in_after false over.headers over.are_headers) over.is_type over.fits
    (omega (arith, ap length over.is_packet))
    (λ (rest : List ℕ) (whole : ℕ). past-extensions over.headers 8 rest whole over.few over.are_headers)
    (λ (rest : List ℕ). udp_laid_out place (ends6 ip) udp rest (length (udp_octets udp) + more) babel (local_may ip.sender over.fits.link_local) (omega arith)))

cut_seen : (place : Place) (ether_type : ℕ) (ends : Ends) (udp : UdpDatagram) (packet : List ℕ) (more n all : ℕ) → IsBabel udp → IsOverIp ether_type ends udp packet more
    → length packet ≤ n + (4 + length udp.payload) → n < length packet
    → length packet + more ≤ all → SeenIn place ether_type (take n packet) all (datagram place ends (lacking lacks.Snapped))
cut_seen place ether_type ends udp packet more n all babel (inl over) some less there =
    let ip = over.ip in
    let carried = udp_octets udp in
    let count = ap length over.is_packet ∙ ipv4_long ip carried more over.fits.options_len in
    let m = n - (20 + 4 * ip.words) in
    let whole : n ≡ 20 + 4 * ip.words + m = omega arith in
    let seen = cut_over_ipv4 place ether_type ip carried more m all (datagram place (ends4 ip) (lacking lacks.Snapped)) over.is_type over.fits
    (omega (arith, ap length over.is_packet)) over.no_fragment (omega arith)
    (udp_cut place (ends4 ip) udp m (length carried + more) babel refl (omega arith) (omega arith) (omega arith)) in
    rw (over.is_packet, over.are_ends, whole) seen
cut_seen place ether_type ends udp packet more n all babel (inr over) some less there =
    let ip = over.ip in
    let carried = udp_octets udp in
    let inner = length (extensions over.headers) in
    let count = ap length over.is_packet ∙ ipv6_long ip over.headers carried more in
    let m = n - (40 + inner) in
    let whole : n ≡ 40 + (inner + m) = omega arith in
    let seen = cut_over_ipv6 place ether_type ip over.headers carried more m all (datagram place (ends6 ip) (lacking lacks.Snapped)) over.is_type over.fits
    (omega (arith, ap length over.is_packet)) over.few over.are_headers (omega arith)
    (udp_cut place (ends6 ip) udp m (length carried + more) babel (local_may ip.sender over.fits.link_local) (omega arith) (omega arith) (omega arith)) in
    rw (over.is_packet, over.are_ends, whole) seen

-- ---- VLAN tags

ip_plain : (ether_type : ℕ) (octets : List ℕ) → BeginsIp ether_type octets → (is_tag ether_type ≡ false) × (leads_to_ip ether_type ≡ true) × (ether_type < 2 ^ 16)
ip_plain ether_type octets (inl (type, version)) = ((rw type refl), (rw type refl), (omega (arith, type)))
ip_plain ether_type octets (inr (type, version)) = ((rw type refl), (rw type refl), (omega (arith, type)))

-- after this EtherType, which is no tag's, these octets are seen so
abbrev SeenAfter : Place → ℕ → List ℕ → ℕ → Sight → Type 0
SeenAfter place ether_type octets all sight = (is_tag ether_type ≡ false) × (ether_type < 2 ^ 16) × (ip_at place ether_type octets all ≡ sight)

seen_after : (place : Place) (ether_type : ℕ) (octets : List ℕ) (all : ℕ) (sight : Sight) → SeenIn place ether_type octets all sight → SeenAfter place ether_type octets all sight
seen_after place ether_type octets all sight (long, begins, seen) = (let plain = ip_plain ether_type octets begins in (plain.0, plain.2, seen))

past_no_tag : (payload : Payload) → is_tag payload.ether_type ≡ false → past_tag payload ≡ payload
unfolding past_tag
past_no_tag payload plain = rw plain refl

past-no_tag : (n : ℕ) (payload : Payload) → is_tag payload.ether_type ≡ false → past_tags n payload ≡ payload
unfolding past_tags
past-no_tag zero payload plain = refl
past-no_tag (suc n) payload plain = ap past_tag (past-no_tag n payload plain) ∙ past_no_tag payload plain

-- the first of them first
pub past-first : (n : ℕ) (payload : Payload) → past_tags (suc n) payload ≡ past_tags n (past_tag payload)
unfolding past_tags
past-first zero payload = refl
past-first (suc n) payload = ap past_tag (past-first n payload)

kind_of : (kind : ℕ) → Contains (0x8100 ∷ 0x88a8 ∷ 0x9100 ∷ 0x9200 ∷ []) kind → (is_tag kind ≡ true) × (kind < 2 ^ 16)
kind_of kind one = grind (arith, nat_tests, one)

tag_leads : (kind : ℕ) → Contains (0x8100 ∷ 0x88a8 ∷ 0x9100 ∷ 0x9200 ∷ []) kind → leads_to_ip kind ≡ true
tag_leads kind one = grind (arith, nat_tests, one)

first_fits : (tags : List Tag) (ether_type : ℕ) → All IsTag tags → ether_type < 2 ^ 16 → first_type tags ether_type < 2 ^ 16
first_fits [] ether_type are fits = fits
first_fits (tag ∷ tags) ether_type are fits = (kind_of tag.kind (All-head IsTag tag tags are).is_kind).1

first_leads : (tags : List Tag) (ether_type : ℕ) → All IsTag tags → leads_to_ip ether_type ≡ true → leads_to_ip (first_type tags ether_type) ≡ true
first_leads [] ether_type are leads = leads
first_leads (tag ∷ tags) ether_type are leads = tag_leads tag.kind (All-head IsTag tag tags are).is_kind

abbrev payload_of : List Tag → ℕ → List ℕ → Vlans → ℕ → Payload
payload_of tags ether_type octets vlans all = record { ether_type = first_type tags ether_type; vlans = vlans; octets = after_type tags ether_type ++ octets; whole = all }

-- past one tag
past_one : (tag : Tag) (tags : List Tag) (ether_type : ℕ) (octets : List ℕ) (vlans : Vlans) (all : ℕ) → IsTag tag → first_type tags ether_type < 2 ^ 16
    → past_tag (payload_of (tag ∷ tags) ether_type octets vlans all) ≡ payload_of tags ether_type octets (with_vlan vlans tag.number) (all - 4)
unfolding past_tag
past_one tag tags ether_type octets vlans all is fits =
    let rest = after_type tags ether_type ++ octets in
    let next = big_bytes 2 (first_type tags ether_type) in
    let control = tag.priority * 2 ^ 12 + tag.number in
    let after = big_bytes 2 control ++ (next ++ rest) in
    let priority = is.priority_fits in
    let number = is.number_fits in
    let kind = (kind_of tag.kind is.is_kind).0 in
    let long : nat_le 4 (length after) ≡ true = grind (arith, nat_tests) in
    let at_control : network_number 0 2 after ≡ control = number-back [] 2 control (next ++ rest) (omega arith) in
    let at_type : network_number 2 2 after ≡ first_type tags ether_type = number-back (big_bytes 2 control) 2 (first_type tags ether_type) rest fits in
    let at_number : bit_and control 0x0fff ≡ tag.number = and_mask control 12 ∙ omega arith in
    rw (kind, long, at_type, at_control, at_number) refl

past-tags : (tags : List Tag) (n : ℕ) (ether_type : ℕ) (octets : List ℕ) (vlans : Vlans) (all : ℕ) → length tags ≤ n → All IsTag tags → ether_type < 2 ^ 16 → is_tag ether_type ≡ false
    → past_tags n (payload_of tags ether_type octets vlans all)
    ≡ payload_of [] ether_type octets (fold (λ (v : Vlans) (t : Tag). with_vlan v t.number) vlans tags) (all - 4 * length tags)
past-tags [] n ether_type octets vlans all few are fits plain =
    past-no_tag n (payload_of [] ether_type octets vlans all) plain ∙ ap (payload_of [] ether_type octets vlans) (omega arith)
past-tags (tag ∷ tags) zero ether_type octets vlans all few are fits plain = absurd (omega arith)
past-tags (tag ∷ tags) (suc n) ether_type octets vlans all few are fits plain =
    let later = All-tail IsTag tag tags are in
    past-first n (payload_of (tag ∷ tags) ether_type octets vlans all)
    ∙ ap (past_tags n) (past_one tag tags ether_type octets vlans all (All-head IsTag tag tags are) (first_fits tags ether_type later fits))
    ∙ past-tags tags n ether_type octets (with_vlan vlans tag.number) (all - 4) (omega arith) later fits plain
    ∙ ap (payload_of [] ether_type octets (fold (λ (v : Vlans) (t : Tag). with_vlan v t.number) (with_vlan vlans tag.number) tags)) (omega arith)

pub after-long : (tags : List Tag) (ether_type : ℕ) → length (after_type tags ether_type) ≡ 4 * length tags
after-long [] ether_type = omega arith
after-long (tag ∷ tags) ether_type = (let later = after-long tags ether_type in omega (arith, length-append (big_bytes 2 (first_type tags ether_type)) (after_type tags ether_type)))

-- ---- link headers

-- what follows an EtherType and up to four tags
typed_seen : (place : Place) (tags : List Tag) (ether_type : ℕ) (octets : List ℕ) (all : ℕ) (sight : Sight) → length tags ≤ 4 → All IsTag tags
    → SeenAfter (in_vlans place (vlans_of tags)) ether_type octets (all - 4 * length tags) sight
    → typed_sight place (payload_of tags ether_type octets no_vlans all) ≡ sight
unfolding typed_sight
typed_seen place tags ether_type octets all sight few are (plain, fits, seen) =
    let past = past-tags tags 4 ether_type octets no_vlans all few are fits plain in
    ap (λ (p : Payload). ip_sight (in_vlans place p.vlans) p) past ∙ seen

-- a header that ends with an EtherType and tags
typed_in : (front interface ether_type : ℕ) (place : Place) (header octets : List ℕ) (all : ℕ) (sight : Sight) → (is : IsTyped front interface ether_type place header)
    → SeenAfter place ether_type octets (all - length header) sight
    → header_sight front (front + 2) (place_on interface) (header ++ octets) all ≡ sight
typed_in front interface ether_type place header octets all sight is (plain, fits, seen) =
    let tags = is.tags in
    let next = big_bytes 2 (first_type tags ether_type) in
    let after = after_type tags ether_type in
    let rest = after ++ octets in
    let frame = is.addresses ++ (next ++ rest) in
    let frame_is : header ++ octets ≡ frame = ap (λ (h : List ℕ). h ++ octets) is.is_header ∙ append_assoc is.addresses (next ++ after) octets in
    let header_long : length header ≡ front + 2 + 4 * length tags = ap length is.is_header ∙ omega (arith, length-append is.addresses (next ++ after), is.sized, after-long tags ether_type) in
    let at_type : network_number front 2 frame ≡ first_type tags ether_type =
    ap (λ (field : ℕ). network_number field 2 frame) (sym is.sized) ∙ number-back is.addresses 2 (first_type tags ether_type) rest (first_fits tags ether_type is.are_tags fits) in
    let at_rest : drop (front + 2) frame ≡ rest = ap (λ (n : ℕ). drop (n + 2) frame) (sym is.sized) ∙ drop-append-add is.addresses (next ++ rest) 2 in
    let kept : nat_lt (length frame) (front + 2) ≡ false =
    let count = length-append is.addresses (next ++ rest) in
    let sized = is.sized in grind (arith, nat_tests) in
    let same : header_sight front (front + 2) (place_on interface) frame all ≡ typed_sight (place_on interface) (payload_of tags ether_type octets no_vlans (all - (front + 2))) = rw
    (kept, at_type, at_rest) refl in
    let left : all - length header ≡ all - (front + 2) - 4 * length tags = omega arith in
    let there : SeenAfter (in_vlans (place_on interface) (vlans_of tags)) ether_type octets (all - (front + 2) - 4 * length tags) sight =
    (plain, fits, ap (λ (p : Place). ip_at p ether_type octets (all - (front + 2) - 4 * length tags)) (sym is.is_place) ∙ ap (ip_at place ether_type octets) (sym left) ∙ seen) in
    ap (λ (o : List ℕ). header_sight front (front + 2) (place_on interface) o all) frame_is ∙ same
    ∙ typed_seen (place_on interface) tags ether_type octets (all - (front + 2)) sight is.few is.are_tags there

cooked2_in : (interface ether_type : ℕ) (place : Place) (header octets : List ℕ) (all : ℕ) (sight : Sight) → (is : IsCooked2 interface ether_type place header)
    → leads_to_ip (first_type is.tags ether_type) ≡ true → SeenAfter place ether_type octets (all - length header) sight
    → frame_sight interface links.Cooked2 (header ++ octets) all ≡ sight
unfolding frame_sight
cooked2_in interface ether_type place header octets all sight is leads (plain, fits, seen) =
    let tags = is.tags in
    let next = big_bytes 2 (first_type tags ether_type) in
    let number = big_bytes 4 is.link in
    let after = after_type tags ether_type in
    let rest = after ++ octets in
    let to_link = next ++ is.reserved in
    let front = (to_link ++ number) ++ is.more in
    let frame = next ++ (is.reserved ++ (number ++ (is.more ++ rest))) in
    let header_is : header ≡ front ++ after = is.is_header ∙ sym (append_assoc to_link number (is.more ++ after)) ∙ sym (append_assoc (to_link ++ number) is.more after) in
    let frame_is : header ++ octets ≡ front ++ rest = ap (λ (h : List ℕ). h ++ octets) header_is ∙ append_assoc front after octets in
    let to_frame : front ++ rest ≡ to_link ++ (number ++ (is.more ++ rest)) = append_assoc (to_link ++ number) is.more rest ∙ append_assoc to_link number (is.more ++ rest) in
    let four : length to_link ≡ 4 = omega (arith, is.reserved_len) in
    let front_long : length front ≡ 20 = omega (arith, length-append (to_link ++ number) is.more, length-append to_link number, four, is.more_len) in
    let header_long : length header ≡ 20 + 4 * length tags = ap length header_is ∙ omega (arith, length-append front after, front_long, after-long tags ether_type) in
    let octets_are = front ++ rest in
    let at_type : network_number 0 2 octets_are ≡ first_type tags ether_type =
    ap (network_number 0 2) to_frame ∙ number-back [] 2 (first_type tags ether_type) (is.reserved ++ (number ++ (is.more ++ rest))) (first_fits tags ether_type is.are_tags fits) in
    let at_link : network_number 4 4 octets_are ≡ is.link =
    ap (network_number 4 4) to_frame ∙ ap (λ (field : ℕ). network_number field 4 (to_link ++ (number ++ (is.more ++ rest)))) (sym four) ∙ number-back to_link 4 is.link
    (is.more ++ rest) is.link_fits in
    let at_rest : drop 20 octets_are ≡ rest = ap (λ (n : ℕ). drop n octets_are) (sym front_long) ∙ drop-append_seam front rest in
    let count : length octets_are ≡ 20 + length rest = length-append front rest ∙ ap (λ (n : ℕ). n + length rest) front_long in
    let some : nat_lt (length octets_are) 2 ≡ false = grind (arith, nat_tests) in
    let kept : nat_lt (length octets_are) 20 ≡ false = grind (arith, nat_tests) in
    let linked : Place = record (place_on interface) { link = Some is.link } in
    let left : all - length header ≡ all - 20 - 4 * length tags = omega arith in
    let there : SeenAfter (in_vlans linked (vlans_of tags)) ether_type octets (all - 20 - 4 * length tags) sight =
    (plain, fits, ap (λ (p : Place). ip_at p ether_type octets (all - 20 - 4 * length tags)) (sym is.is_place) ∙ ap (ip_at place ether_type octets) (sym left) ∙ seen) in
    let same : frame_sight interface links.Cooked2 octets_are all ≡ typed_sight linked (payload_of tags ether_type octets no_vlans (all - 20)) = rw
    (some, at_type, leads, kept, at_link, at_rest) refl in
    ap (λ (o : List ℕ). frame_sight interface links.Cooked2 o all) frame_is ∙ same ∙ typed_seen linked tags ether_type octets (all - 20) sight is.few is.are_tags there

-- the family is the lower one of its two numbers
family_of : (family : ℕ) → Contains (10 ∷ 24 ∷ 28 ∷ 30 ∷ []) family → (family ≡ 10) ⊎ ((family ≡ 24) ⊎ ((family ≡ 28) ⊎ (family ≡ 30)))
family_of family one = grind (arith, one)

reads_family : (family : ℕ) (header rest : List ℕ) → (family ≡ 2) ⊎ ((family ≡ 10) ⊎ ((family ≡ 24) ⊎ ((family ≡ 28) ⊎ (family ≡ 30))))
    → (header ≡ big_bytes 4 family) ⊎ (header ≡ little_bytes 4 family)
    → (protocol_family (header ++ rest) ≡ family) × (length header ≡ 4) × (drop 4 (header ++ rest) ≡ rest)
reads_family family header rest (inl two) (inl is) = rw (is, two) (refl, refl, refl)
reads_family family header rest (inl two) (inr is) = rw (is, two) (refl, refl, refl)
reads_family family header rest (inr (inl ten)) (inl is) = rw (is, ten) (refl, refl, refl)
reads_family family header rest (inr (inl ten)) (inr is) = rw (is, ten) (refl, refl, refl)
reads_family family header rest (inr (inr (inl netbsd))) (inl is) = rw (is, netbsd) (refl, refl, refl)
reads_family family header rest (inr (inr (inl netbsd))) (inr is) = rw (is, netbsd) (refl, refl, refl)
reads_family family header rest (inr (inr (inr (inl freebsd)))) (inl is) = rw (is, freebsd) (refl, refl, refl)
reads_family family header rest (inr (inr (inr (inl freebsd)))) (inr is) = rw (is, freebsd) (refl, refl, refl)
reads_family family header rest (inr (inr (inr (inr macos)))) (inl is) = rw (is, macos) (refl, refl, refl)
reads_family family header rest (inr (inr (inr (inr macos)))) (inr is) = rw (is, macos) (refl, refl, refl)

is_ipv6 : (family : ℕ) → Contains (10 ∷ 24 ∷ 28 ∷ 30 ∷ []) family → ((family == 2) ≡ false) × (is_ipv6_family family ≡ true)
is_ipv6 family one = grind (arith, nat_tests, one)

-- the same at the interface's own place, and for the EtherType that it is
at_own : (interface ether_type number : ℕ) (place : Place) (octets : List ℕ) (all : ℕ) (sight : Sight) → ether_type ≡ number → place ≡ place_on interface → ip_at place ether_type octets all ≡ sight
    → ip_at (place_on interface) number octets all ≡ sight
at_own interface ether_type number place octets all sight type is_place seen =
    ap (λ (e : ℕ). ip_at (place_on interface) e octets all) (sym type) ∙ ap (λ (p : Place). ip_at p ether_type octets all) (sym is_place) ∙ seen

family_in : (interface ether_type : ℕ) (place : Place) (header octets : List ℕ) (all : ℕ) (sight : Sight) → (is : IsFamily interface ether_type place header)
    → SeenIn place ether_type octets (all - length header) sight
    → family_sight (place_on interface) (header ++ octets) all ≡ sight
family_in interface ether_type place header octets all sight is (long, begins, seen) = by_type is.is_family
  where
    four : (length header ≡ 4) → nat_lt (length (header ++ octets)) 4 ≡ false
    four sized = let count = length-append header octets in grind (arith, nat_tests)

    by_type : ((ether_type ≡ 0x0800) × (is.family ≡ 2)) ⊎ ((ether_type ≡ 0x86dd) × Contains (10 ∷ 24 ∷ 28 ∷ 30 ∷ []) is.family) → family_sight (place_on interface) (header ++ octets) all ≡ sight
    by_type (inl (type, two)) =
        (let reads = reads_family is.family header octets (inl two) is.is_header in
        let told : ipv4_sight (place_on interface) octets (all - 4) ≡ sight =
        at_own interface ether_type 0x0800 place octets (all - 4) sight type is.is_place (ap (λ (n : ℕ). ip_at place ether_type octets (all - n)) (sym reads.1) ∙ seen) in
        let kept = four reads.1 in
        rw (kept, reads.0, two, reads.2) told)
    by_type (inr (type, one)) =
        (let reads = reads_family is.family header octets (inr (family_of is.family one)) is.is_header in
        let v6 = is_ipv6 is.family one in
        let told : ipv6_sight (place_on interface) octets (all - 4) ≡ sight =
        at_own interface ether_type 0x86dd place octets (all - 4) sight type is.is_place (ap (λ (n : ℕ). ip_at place ether_type octets (all - n)) (sym reads.1) ∙ seen) in
        let kept = four reads.1 in
        rw (kept, reads.0, v6.0, v6.1, reads.2) told)

raw_in : (interface ether_type : ℕ) (place : Place) (octets : List ℕ) (all : ℕ) (sight : Sight) → place ≡ place_on interface → SeenIn place ether_type octets all sight
    → raw_sight (place_on interface) octets all ≡ sight
raw_in interface ether_type place octets all sight is_place (long, inl (type, version), seen) =
    let kept : nat_lt (length octets) 1 ≡ false = grind (arith, nat_tests) in
    let told : ipv4_sight (place_on interface) octets all ≡ sight = at_own interface ether_type 0x0800 place octets all sight type is_place seen in
    rw (kept, version) told
raw_in interface ether_type place octets all sight is_place (long, inr (type, version), seen) =
    let kept : nat_lt (length octets) 1 ≡ false = grind (arith, nat_tests) in
    let told : ipv6_sight (place_on interface) octets all ≡ sight = at_own interface ether_type 0x86dd place octets all sight type is_place seen in
    rw (kept, version) told

-- an IP packet in a frame of each link type
pub in_frame : (link : Link) (interface ether_type : ℕ) (place : Place) (header octets : List ℕ) (all : ℕ) (sight : Sight) → IsHeader link interface ether_type place header
    → SeenIn place ether_type octets (all - length header) sight
    → frame_sight interface link (header ++ octets) all ≡ sight
unfolding frame_sight
in_frame links.Null interface ether_type place header octets all sight is seen = family_in interface ether_type place header octets all sight is seen
in_frame links.Loop interface ether_type place header octets all sight is seen = family_in interface ether_type place header octets all sight is seen
in_frame links.Ethernet interface ether_type place header octets all sight is seen =
    typed_in 12 interface ether_type place header octets all sight is (seen_after place ether_type octets (all - length header) sight seen)
in_frame links.Cooked interface ether_type place header octets all sight is seen =
    typed_in 14 interface ether_type place header octets all sight is (seen_after place ether_type octets (all - length header) sight seen)
in_frame links.Cooked2 interface ether_type place header octets all sight is seen =
    cooked2_in interface ether_type place header octets all sight is (first_leads is.tags ether_type is.are_tags (ip_plain ether_type octets seen.1).1)
    (seen_after place ether_type octets (all - length header) sight seen)
in_frame links.RawIp interface ether_type place header octets all sight (is_place, none) seen =
    let left : all - length header ≡ all = omega (arith, ap length none) in
    let bare : SeenIn place ether_type octets all sight = subst (λ (n : ℕ). SeenIn place ether_type octets n sight) left seen in
    rw none (raw_in interface ether_type place octets all sight is_place bare)
in_frame links.RawIpv4 interface ether_type place header octets all sight (type, is_place, none) (long, begins, seen) =
    rw none (at_own interface ether_type 0x0800 place octets all sight type is_place (ap (ip_at place ether_type octets) (omega (arith, ap length none)) ∙ seen))
in_frame links.RawIpv6 interface ether_type place header octets all sight (type, is_place, none) (long, begins, seen) =
    rw none (at_own interface ether_type 0x86dd place octets all sight type is_place (ap (ip_at place ether_type octets) (omega (arith, ap length none)) ∙ seen))

pub seen_in_frame : (link : Link) (interface ether_type : ℕ) (place : Place) (ends : Ends) (udp : UdpDatagram) (header packet after : List ℕ) (more all : ℕ)
    → IsHeader link interface ether_type place header → IsBabel udp → IsOverIp ether_type ends udp packet more → length header + (length packet + more) ≤ all
    → frame_sight interface link (header ++ (packet ++ after)) all ≡ datagram place ends (carries udp.payload)
seen_in_frame link interface ether_type place ends udp header packet after more all is babel over there =
    in_frame link interface ether_type place header (packet ++ after) all (datagram place ends (carries udp.payload)) is
    (whole_seen place ether_type ends udp packet after more (all - length header) babel over (omega arith))

pub cut_in_frame : (link : Link) (interface ether_type : ℕ) (place : Place) (ends : Ends) (udp : UdpDatagram) (header packet : List ℕ) (more n all : ℕ)
    → IsHeader link interface ether_type place header → IsBabel udp → IsOverIp ether_type ends udp packet more → length packet ≤ n + (4 + length udp.payload) → n < length packet
    → length header + (length packet + more) ≤ all → frame_sight interface link (header ++ take n packet) all ≡ datagram place ends (lacking lacks.Snapped)
cut_in_frame link interface ether_type place ends udp header packet more n all is babel over some less there =
    in_frame link interface ether_type place header (take n packet) all (datagram place ends (lacking lacks.Snapped)) is
    (cut_seen place ether_type ends udp packet more n (all - length header) babel over some less (omega arith))

-- ---- what is no IP

other_type : (ether_type : ℕ) → IsOtherType ether_type → ((ether_type == 0x0800) ≡ false) × ((ether_type == 0x86dd) ≡ false) × (is_tag ether_type ≡ false) × (leads_to_ip ether_type ≡ false)
other_type ether_type (fits, v4, v6, customer, service, old, other_old) =
    let no_v4 : (ether_type == 0x0800) ≡ false = grind (arith, nat_tests, v4) in
    let no_v6 : (ether_type == 0x86dd) ≡ false = grind (arith, nat_tests, v6) in
    let no_tag : is_tag ether_type ≡ false = grind (arith, nat_tests, customer, service, old, other_old) in
    (no_v4, no_v6, no_tag, rw (no_v4, no_v6) no_tag)

other_after : (place : Place) (ether_type : ℕ) (octets : List ℕ) (all : ℕ) → IsOtherType ether_type → SeenAfter place ether_type octets all other
other_after place ether_type octets all is =
    let none = other_type ether_type is in
    (none.2, is.0, rw (none.0, none.1, none.2) refl)

-- in Linux cooked, version 2, the EtherType of a frame without tags comes first
other_in_cooked2 : (interface ether_type : ℕ) (place : Place) (header octets : List ℕ) (all : ℕ) (is : IsCooked2 interface ether_type place header) → IsOtherType ether_type
    → (tags : List Tag) → is.tags ≡ tags → frame_sight interface links.Cooked2 (header ++ octets) all ≡ other
unfolding frame_sight
other_in_cooked2 interface ether_type place header octets all is none [] same =
    let next = big_bytes 2 (first_type is.tags ether_type) in
    let later = is.reserved ++ (big_bytes 4 is.link ++ (is.more ++ after_type is.tags ether_type)) in
    let frame_is : header ++ octets ≡ next ++ (later ++ octets) = ap (λ (h : List ℕ). h ++ octets) is.is_header ∙ append_assoc next later octets in
    let type : first_type is.tags ether_type ≡ ether_type = ap (λ (t : List Tag). first_type t ether_type) same in
    let fits : first_type is.tags ether_type < 2 ^ 16 = omega (arith, type, none.0) in
    let at_type : network_number 0 2 (next ++ (later ++ octets)) ≡ first_type is.tags ether_type = number-back [] 2 (first_type is.tags ether_type) (later ++ octets) fits in
    let leads : leads_to_ip (first_type is.tags ether_type) ≡ false = ap leads_to_ip type ∙ (other_type ether_type none).3 in
    let some : nat_lt (length (next ++ (later ++ octets))) 2 ≡ false = grind (arith, nat_tests) in
    ap (λ (o : List ℕ). frame_sight interface links.Cooked2 o all) frame_is ∙ rw (some, at_type, leads) refl
other_in_cooked2 interface ether_type place header octets all is none (tag ∷ tags) same =
    let kind = (All-head IsTag tag tags (subst (All IsTag) same is.are_tags)).is_kind in
    let leads : leads_to_ip (first_type is.tags ether_type) ≡ true = ap (λ (t : List Tag). leads_to_ip (first_type t ether_type)) same ∙ tag_leads tag.kind kind in
    cooked2_in interface ether_type place header octets all other is leads (other_after place ether_type octets (all - length header) none)

pub other_in_frame : (link : Link) (interface ether_type : ℕ) (place : Place) (header octets : List ℕ) (all : ℕ) → HasEtherType link → IsHeader link interface ether_type place header
    → IsOtherType ether_type → frame_sight interface link (header ++ octets) all ≡ other
unfolding frame_sight
other_in_frame link interface ether_type place header octets all has is none = by has
  where
    at : (l : Link) → link ≡ l → (IsHeader l interface ether_type place header → frame_sight interface l (header ++ octets) all ≡ other) → frame_sight interface link (header ++ octets) all ≡ other
    at l same seen =
        ap (λ (k : Link). frame_sight interface k (header ++ octets) all) same ∙ seen (subst (λ (k : Link). IsHeader k interface ether_type place header) same is)

    after : SeenAfter place ether_type octets (all - length header) other
    after = other_after place ether_type octets (all - length header) none

    by : (link ≡ links.Ethernet) ⊎ (link ≡ links.Cooked) ⊎ (link ≡ links.Cooked2) → frame_sight interface link (header ++ octets) all ≡ other
    by (inl ethernet) = at links.Ethernet ethernet (λ typed. typed_in 12 interface ether_type place header octets all other typed after)
    by (inr (inl cooked)) = at links.Cooked cooked (λ typed. typed_in 14 interface ether_type place header octets all other typed after)
    by (inr (inr cooked2)) = at links.Cooked2 cooked2 (λ typed. other_in_cooked2 interface ether_type place header octets all typed none typed.tags refl)

-- a number of 16 bits is the lower one of those that its four octets are
lower_big : (family : ℕ) (rest : List ℕ) → family < 2 ^ 16 → protocol_family (big_bytes 4 family ++ rest) ≡ family
lower_big family rest fits =
    let own : big_number 4 (big_bytes 4 family ++ rest) ≡ family = big_number-reads_back 4 family rest (omega arith) in
    let other : family ≤ little_number 4 (big_bytes 4 family ++ rest) = omega arith in
    ap (λ (n : ℕ). min n (little_number 4 (big_bytes 4 family ++ rest))) own ∙ omega arith

lower_little : (family : ℕ) (rest : List ℕ) → family < 2 ^ 16 → protocol_family (little_bytes 4 family ++ rest) ≡ family
lower_little family rest fits =
    let own : little_number 4 (little_bytes 4 family ++ rest) ≡ family = omega arith in
    let other : family ≤ big_number 4 (little_bytes 4 family ++ rest) = omega arith in
    ap (min (big_number 4 (little_bytes 4 family ++ rest))) own ∙ omega arith

other_family : (place : Place) (family : ℕ) (octets : List ℕ) (all : ℕ) → IsOtherFamily family → 4 ≤ length octets → protocol_family octets ≡ family → family_sight place octets all ≡ other
other_family place family octets all (fits, v4, linux, netbsd, freebsd, macos) long is =
    let kept : nat_lt (length octets) 4 ≡ false = grind (arith, nat_tests) in
    let no_v4 : (family == 2) ≡ false = grind (arith, nat_tests, v4) in
    let no_v6 : is_ipv6_family family ≡ false = grind (arith, nat_tests, linux, netbsd, freebsd, macos) in
    rw (kept, is, no_v4, no_v6) refl

pub other_in_family : (link : Link) (interface family : ℕ) (header octets : List ℕ) (all : ℕ) → HasFamily link → IsOtherFamily family → (header ≡ big_bytes 4 family) ⊎ (header ≡ little_bytes 4 family)
    → frame_sight interface link (header ++ octets) all ≡ other
unfolding frame_sight
other_in_family link interface family header octets all has none laid = by has
  where
    told : (header ≡ big_bytes 4 family) ⊎ (header ≡ little_bytes 4 family) → (4 ≤ length (header ++ octets)) × (protocol_family (header ++ octets) ≡ family)
    told (inl is) = rw is ((omega arith), lower_big family octets none.0)
    told (inr is) = rw is ((omega arith), lower_little family octets none.0)

    seen : family_sight (place_on interface) (header ++ octets) all ≡ other
    seen = other_family (place_on interface) family (header ++ octets) all none (told laid).0 (told laid).1

    by : (link ≡ links.Null) ⊎ (link ≡ links.Loop) → frame_sight interface link (header ++ octets) all ≡ other
    by (inl null) = ap (λ (k : Link). frame_sight interface k (header ++ octets) all) null ∙ seen
    by (inr loop) = ap (λ (k : Link). frame_sight interface k (header ++ octets) all) loop ∙ seen
