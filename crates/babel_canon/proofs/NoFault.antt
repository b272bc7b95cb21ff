-- Octets that tell what pairs say, and nothing else, have no fault where a table has room for the pairs.
use Rattle.std.proofs.Common.{◌≡◌, ℕ, Bool, ◌+◌, ◌≤◌, List, [], ◌∷◌, ◌++◌, length, map, Result, Ok, refl, sym, ap, subst, ◌∙◌, append_assoc, arith, inl, inr}
use Rattle.std.specs.List.{flat_map}
use Rattle.std.proofs.lemmas.List.{append-nil, take_all}
use Rattle.std.proofs.lemmas.List.Concat.{flat_map-append}
use Rattle.babel_prefix.specs.Address.{Address}
use Rattle.babel_tlv.specs.declared.event.Event.{Event}
use Rattle.babel_tlv.specs.declared.fault.Fault.{Fault}
use Rattle.babel_tlv.specs.declared.mode.Mode.{Mode}
use Rattle.babel_tlv.specs.declared.start.Start.{Start}
use Rattle.babel_tlv.specs.Framing.{ArePackets, packet_octets}
use Rattle.babel_tlv.specs.Says.{Saying, sayings, sayings_after}
use Rattle.babel_tlv.specs.Pair.{Pair}
use Rattle.babel_tlv.specs.News.{spoken, pair_event}
use Rattle.babel_tlv.proofs.Telling.{as_ok, what_of}
use Rattle.babel_tlv.proofs.OneReading.{go_on, packets_fine}
use Rattle.babel_table.specs.Bounds.{Bounds, start_of}
use Rattle.babel_table.specs.TableOf.{AreFine}
use Rattle.babel_table.specs.DumpFault.{Refuses, RefusedBy, StreamFault, HasNoFault}
use Rattle.babel_canon.specs.RoundTrip.{TellsPairs}
use Rattle.babel_canon.proofs.PairRows.{few_hold}

-- ---- what the sayings are

pub oks_one : (xs ys : List Event) → map as_ok xs ≡ map as_ok ys → xs ≡ ys
oks_one [] [] e = refl
oks_one [] (y ∷ ys) e = absurd cc
oks_one (x ∷ xs) [] e = absurd cc
oks_one (x ∷ xs) (y ∷ ys) e =
    let heads : x ≡ y = cc in
    let tails : map as_ok xs ≡ map as_ok ys = cc in
    ap (λ (z : Event). z ∷ xs) heads ∙ ap (λ (zs : List Event). y ∷ zs) (oks_one xs ys tails)

-- sayings that are fine are the events that they say
pub record AreSaid (before : List Event) (front : List Saying) (said : List Event) : Type 0 where
  pub told : List Event
  pub whats : map what_of front ≡ map as_ok told
  pub parts : said ≡ before ++ told

pub AreFine-said : (mode : Mode) (entries : ℕ) (before : List Event) (front : List Saying) (said : List Event) → AreFine mode entries before front said → AreSaid before front said
AreFine-said mode entries before [] said fine = record { told = []; whats = refl; parts = fine ∙ sym (append-nil before) }
AreFine-said mode entries before (saying ∷ later) said fine =
    let event = fine.0 in
    let rest = AreFine-said mode entries (before ++ event ∷ []) later said fine.3 in
    record {
      told = event ∷ rest.told;
      whats = ap (λ (r : Result Event Fault). r ∷ map what_of later) fine.1 ∙ ap (λ (rs : List (Result Event Fault)). as_ok event ∷ rs) rest.whats;
      parts = rest.parts ∙ append_assoc before (event ∷ []) rest.told;
    }

-- where all sayings are events, so is each of them
pub record SplitAt (front : List Saying) (saying : Saying) (told : List Event) : Type 0 where
  pub first : List Event
  pub event : Event
  pub rest : List Event
  pub parts : told ≡ first ++ event ∷ rest
  pub whats : map what_of front ≡ map as_ok first
  pub is_event : saying.what ≡ Ok event

pub split_at : (front : List Saying) (saying : Saying) (later : List Saying) (told : List Event) → map what_of (front ++ saying ∷ later) ≡ map as_ok told → SplitAt front saying told
split_at [] saying later [] e = absurd cc
split_at [] saying later (event ∷ told) e = record { first = []; event = event; rest = told; parts = refl; whats = refl; is_event = cc }
split_at (one ∷ front) saying later [] e = absurd cc
split_at (one ∷ front) saying later (event ∷ told) e =
    let heads : one.what ≡ as_ok event = cc in
    let tails : map what_of (front ++ saying ∷ later) ≡ map as_ok told = cc in
    let rest = split_at front saying later told tails in
    record {
      first = event ∷ rest.first;
      event = rest.event;
      rest = rest.rest;
      parts = ap (λ (es : List Event). event ∷ es) rest.parts;
      whats = ap (λ (r : Result Event Fault). r ∷ map what_of front) heads ∙ ap (λ (rs : List (Result Event Fault)). as_ok event ∷ rs) rest.whats;
      is_event = rest.is_event;
    }

-- ---- no TLV refuses

not_refused : (mode : Mode) (entries : ℕ) (before told rest : List Event) (at : ℕ) (event : Event) (what_is : Result Event Fault) (fault : Fault) (pairs : List Pair) → what_is ≡ Ok event
    → spoken told ≡ map pair_event pairs → told ≡ (before ++ event ∷ []) ++ rest → length pairs ≤ entries → Refuses mode entries before at what_is fault → ⊥
not_refused mode entries before told rest at event what_is fault pairs is_event news parts room refuses =
    let here : Refuses mode entries before at (as_ok event) fault = subst (λ (r : Result Event Fault). Refuses mode entries before at r fault) is_event refuses in
    few_hold mode entries told rest (before ++ event ∷ []) pairs news parts room here.1

none_refuses : (mode : Mode) (entries : ℕ) (said more : List Saying) (told : List Event) (pairs : List Pair) (fault : Fault)
    → map what_of (said ++ more) ≡ map as_ok told → spoken told ≡ map pair_event pairs
    → length pairs ≤ entries → RefusedBy mode entries said fault → ⊥
none_refuses mode entries said more told pairs fault fine news room refused =
    let front = refused.0 in
    let saying = refused.1 in
    let later = refused.2 in
    let before = refused.3 in
    let whole : said ++ more ≡ front ++ saying ∷ (later ++ more) = ap (λ (ss : List Saying). ss ++ more) refused.4 ∙ append_assoc front (saying ∷ later) more in
    let split = split_at front saying (later ++ more) told (ap (λ (ss : List Saying). map what_of ss) (sym whole) ∙ fine) in
    let said_front = AreFine-said mode entries [] front before refused.5 in
    let first_is : split.first ≡ before = oks_one split.first said_front.told (sym split.whats ∙ said_front.whats) ∙ sym said_front.parts in
    let parts : told ≡ (before ++ split.event ∷ []) ++ split.rest =
    split.parts ∙ ap (λ (es : List Event). es ++ split.event ∷ split.rest) first_is ∙ sym (append_assoc before (split.event ∷ []) split.rest) in
    not_refused mode entries before told split.rest saying.at split.event saying.what fault pairs split.is_event news parts room refused.6

-- ---- no fault

no_stream_fault : (mode : Mode) (entries : ℕ) (start : Start) (octets : List ℕ) (pairs : List Pair) (fault : Fault) → TellsPairs start octets pairs → length pairs ≤ entries
    → StreamFault mode entries start octets fault → ⊥
no_stream_fault mode entries start octets pairs fault tells room faulty =
    let front = faulty.0 in
    let rest = faulty.1 in
    let reads = faulty.2 in
    let same : flat_map packet_octets tells.packets ≡ flat_map packet_octets front ++ rest = sym (append-nil (flat_map packet_octets tells.packets)) ∙ sym tells.reads.whole ∙ reads.whole in
    let on = go_on 0 tells.packets front rest tells.reads.placed reads.placed same in
    let place : length (flat_map packet_octets front) ≡ 0 + length (flat_map packet_octets front) = omega arith in
    let placed : ArePackets (length (flat_map packet_octets front)) on.later = subst (λ (a : ℕ). ArePackets a on.later) (sym place) on.placed in
    let all : sayings start tells.packets ≡ sayings start front ++ sayings start on.later =
    ap (sayings start) on.parts ∙ flat_map-append (sayings_after start []) front on.later in
    let fine : map what_of (sayings start front ++ sayings start on.later) ≡ map as_ok tells.said = ap (λ (ss : List Saying). map what_of ss) (sym all) ∙ tells.fine in
    elim (faulty.3) as (λ _. ⊥) [
      | inl framing ↦ packets_fine (length (flat_map packet_octets front)) on.later rest fault placed on.rest_is framing.2 framing.3
      | inr refused ↦ none_refuses mode entries (sayings start front) (sayings start on.later) tells.said pairs fault fine tells.news room refused
    ]

-- the packets of a dump begin as is asked, where encoding 4 is read as there
pub begins_so : (limits : Bounds) (start : Start) → limits.via_v6 ≡ start.via_v6 → start_of limits start.sender ≡ start
begins_so limits start same = ap (λ (b : Bool). record { sender = start.sender; via_v6 = b }) same

pub no_fault : (mode : Mode) (limits : Bounds) (sender : Address) (octets : List ℕ) (pairs : List Pair) → TellsPairs (start_of limits sender) octets pairs → length pairs ≤ limits.entries
    → length octets ≤ limits.bytes → HasNoFault limits mode sender octets
no_fault mode limits sender octets pairs tells room short fault faulty =
    elim faulty as (λ _. ⊥) [
      | inl seen ↦ no_stream_fault mode limits.entries (start_of limits sender) octets pairs fault tells room
          (subst (λ (o : List ℕ). StreamFault mode limits.entries (start_of limits sender) o fault) (take_all limits.bytes octets short) seen.0)
      | inr long ↦ omega (arith, long.0)
    ]
