-- What was taken of a dump, and which fault it has.
use Rattle.std.proofs.Common.{◌≡◌, ◌≢◌, ℕ, ◌+◌, ◌≤◌, true, false, List, [], ◌∷◌, ◌++◌, length, refl, sym, ap, subst, ◌∙◌, append_assoc, inl, inr, arith}
use Rattle.std.specs.Prelude.{◌⊎◌, slice_index, Result, Ok, Err, OnOk, IfErr, ◌==◌}
use Rattle.std.specs.List.{flat_map, Contains}
use Rattle.std.proofs.lemmas.Bool.{eqb-true, false≢true}
use Rattle.std.proofs.lemmas.List.{append-nil, length-append}
use Rattle.std.proofs.lemmas.List.Concat.{flat_map-append}
use Rattle.std.proofs.lemmas.List.Elements.{Contains-append_right}
use Rattle.babel_tlv.specs.declared.start.Start.{Start}
use Rattle.babel_tlv.specs.declared.event.Event.{Event}
use Rattle.babel_tlv.specs.declared.fault.Fault.{Fault}
use Rattle.babel_tlv.specs.declared.fault.Fault.TheVariants as faults
use Rattle.babel_tlv.specs.declared.mode.Mode.{Mode}
use Rattle.babel_tlv.specs.FrameFaults.{TlvPastEndAt, HasNoTlvAt, BeginsPacket, HasHeader, HeaderFault, PacketFault, body_len}
use Rattle.babel_tlv.specs.Framing.{TlvAt, ArePackets, ArePlaced, IsBody, ReadsAs, tlv_octets, framed, packet_octets, tlvs_of}
use Rattle.babel_tlv.specs.Says.{Saying, sayings, sayings_after}
use Rattle.babel_table.specs.DumpFault.{RefusedBy, StreamFault, IsTruncated}
use Rattle.babel_table.specs.Feeding.{StandsBehind, Takes, Fails, TookPackets, StopsAt, StopsBehind, IsPartial, IsReady, IsLasting, NeedsMemory}
use Rattle.babel_table.specs.Rows.{Routes}
use Rattle.babel_table.specs.TableOf.{AreFine}
use Rattle.babel_table.proofs.FineLaws.{fine-not-refused}
use Rattle.babel_table.proofs.ReadingLaws.{body_len-framed, length-framed, partial-no_packet, partial-stuck, placed-drop, one_body, packets_one}
use Rattle.babel_tlv.proofs.OneReading.{whole-no_stop}

-- ---- packets behind packets

flat-append : (a b : List (List TlvAt)) → flat_map packet_octets (a ++ b) ≡ flat_map packet_octets a ++ flat_map packet_octets b
flat-append a b = flat_map-append packet_octets a b

length-flat : (a b : List (List TlvAt)) → length (flat_map packet_octets (a ++ b)) ≡ length (flat_map packet_octets a) + length (flat_map packet_octets b)
length-flat a b = ap length (flat-append a b) ∙ length-append (flat_map packet_octets a) (flat_map packet_octets b)

pub sayings-append : (start : Start) (a b : List (List TlvAt)) → sayings start (a ++ b) ≡ sayings start a ++ sayings start b
sayings-append start a b = flat_map-append (sayings_after start []) a b

pub placed-append : (at place : ℕ) (a b : List (List TlvAt)) → ArePackets at a → place ≡ at + length (flat_map packet_octets a) → ArePackets place b → ArePackets at (a ++ b)
placed-append at place [] b placed here later = subst (λ (n : ℕ). ArePackets n b) (omega (arith, here)) later
placed-append at place (tlvs ∷ a) b placed here later =
    (placed.0, placed.1, placed-append (at + length (packet_octets tlvs)) place a b placed.2 (omega (arith, here, length-append (packet_octets tlvs) (flat_map packet_octets a))) later)

whole-append : (octets more rest behind : List ℕ) (a b : List (List TlvAt)) → octets ≡ flat_map packet_octets a ++ rest
    → rest ++ more ≡ flat_map packet_octets b ++ behind → octets ++ more ≡ flat_map packet_octets (a ++ b) ++ behind
whole-append octets more rest behind a b first second =
    ap (λ (t : List ℕ). t ++ more) first ∙ append_assoc (flat_map packet_octets a) rest more ∙ ap (λ (t : List ℕ). flat_map packet_octets a ++ t) second
    ∙ sym (append_assoc (flat_map packet_octets a) (flat_map packet_octets b) behind) ∙ ap (λ (t : List ℕ). t ++ behind) (sym (flat-append a b))

-- ---- octets that go on

pub header-more : (place : ℕ) (rest more : List ℕ) (fault : Fault) → HeaderFault place rest fault → HeaderFault place (rest ++ more) fault
header-more place [] more (faults.BadMagic at) (is, long, wrong) = absurd (omega (arith, long))
header-more place (a ∷ rest) more (faults.BadMagic at) (is, long, wrong) = (is, omega (arith, long, length-append rest more), wrong)
header-more place [] more (faults.BadVersion at) (is, long, magic, wrong) = absurd (omega (arith, long))
header-more place (a ∷ []) more (faults.BadVersion at) (is, long, magic, wrong) = absurd (omega (arith, long))
header-more place (a ∷ b ∷ rest) more (faults.BadVersion at) (is, long, magic, wrong) = (is, omega (arith, long, length-append rest more), magic, wrong)
header-more place rest more (faults.Truncated at) none = absurd none
header-more place rest more (faults.TlvPastEnd at) none = absurd none
header-more place rest more (faults.EncodingSetsRouterId at) none = absurd none
header-more place rest more (faults.TooManyRoutes at) none = absurd none
header-more place rest more faults.TooLong none = absurd none
header-more place rest more faults.TooManyPairs none = absurd none
header-more place rest more faults.Memory none = absurd none

pub header-long : (place : ℕ) (rest : List ℕ) (fault : Fault) → HeaderFault place rest fault → HasHeader rest
header-long place rest (faults.BadMagic at) (is, long, wrong) = long
header-long place rest (faults.BadVersion at) (is, long, magic, wrong) = long
header-long place rest (faults.Truncated at) none = absurd none
header-long place rest (faults.TlvPastEnd at) none = absurd none
header-long place rest (faults.EncodingSetsRouterId at) none = absurd none
header-long place rest (faults.TooManyRoutes at) none = absurd none
header-long place rest faults.TooLong none = absurd none
header-long place rest faults.TooManyPairs none = absurd none
header-long place rest faults.Memory none = absurd none

pub header-lasts : (place : ℕ) (rest : List ℕ) (fault : Fault) → HeaderFault place rest fault → IsLasting fault
header-lasts place rest (faults.BadMagic at) is = tt
header-lasts place rest (faults.BadVersion at) is = tt
header-lasts place rest (faults.Truncated at) none = absurd none
header-lasts place rest (faults.TlvPastEnd at) none = absurd none
header-lasts place rest (faults.EncodingSetsRouterId at) none = absurd none
header-lasts place rest (faults.TooManyRoutes at) none = absurd none
header-lasts place rest faults.TooLong none = absurd none
header-lasts place rest faults.TooManyPairs none = absurd none
header-lasts place rest faults.Memory none = absurd none

-- a good header has no fault
pub header-good : (place : ℕ) (rest : List ℕ) (fault : Fault) → HeaderFault place rest fault → slice_index rest 0 ≡ 42 → slice_index rest 1 ≡ 2 → ⊥
header-good place rest (faults.BadMagic at) (is, long, wrong) magic version = wrong magic
header-good place rest (faults.BadVersion at) (is, long, m, wrong) magic version = wrong version
header-good place rest (faults.Truncated at) none magic version = none
header-good place rest (faults.TlvPastEnd at) none magic version = none
header-good place rest (faults.EncodingSetsRouterId at) none magic version = none
header-good place rest (faults.TooManyRoutes at) none magic version = none
header-good place rest faults.TooLong none magic version = none
header-good place rest faults.TooManyPairs none magic version = none
header-good place rest faults.Memory none magic version = none

pub begins-more : (rest more body : List ℕ) → BeginsPacket rest body → BeginsPacket (rest ++ more) body
begins-more rest more body (fits, behind, is) = (fits, behind ++ more, ap (λ (t : List ℕ). t ++ more) is ∙ append_assoc (framed body) behind more)

-- ---- taking on

module _ (mode : Mode) (entries : ℕ) (start : Start) where
  takes-then : (a b : List (List TlvAt)) (old mid new : Routes) → Takes mode entries (sayings start a) old mid
      → Takes mode entries (sayings start b) mid new → Takes mode entries (sayings start (a ++ b)) old new
  takes-then a b old mid new first second before stands =
      subst (λ (s : List Saying). StandsBehind mode entries new s)
      (append_assoc before (sayings start a) (sayings start b) ∙ ap (λ (s : List Saying). before ++ s) (sym (sayings-append start a b)))
      (second (before ++ sayings start a) (first before stands))

  -- whole packets, and then more of them
  pub took-on : (at place end : ℕ) (octets rest left : List ℕ) (old mid new : Routes) → TookPackets mode entries start at octets old mid rest place
      → TookPackets mode entries start place rest mid new left end
      → TookPackets mode entries start at octets old new left end
  took-on at place end octets rest left old mid new first second = record {
    packets = first.packets ++ second.packets;
    whole = sym (append-nil octets) ∙ whole-append octets [] rest left first.packets second.packets first.whole (append-nil rest ∙ second.whole);
    placed = placed-append at place first.packets second.packets first.placed first.here second.placed;
    here = omega (arith, first.here, second.here, length-flat first.packets second.packets);
    takes = takes-then first.packets second.packets old mid new first.takes second.takes;
  }

  pub stops-on : (at place : ℕ) (octets rest : List ℕ) (old mid : Routes) (fault : Fault)
      → TookPackets mode entries start at octets old mid rest place → StopsBehind mode entries start place rest mid fault
      → StopsBehind mode entries start at octets old fault
  stops-on at place octets rest old mid fault first stops = record {
    now = stops.now;
    rest = stops.rest;
    place = stops.place;
    took = took-on at place stops.place octets rest stops.rest old mid stops.now first stops.took;
    stops = stops.stops;
  }

  -- octets behind those that were looked at change nothing
  pub took-more : (at place : ℕ) (octets rest more : List ℕ) (old new : Routes) → TookPackets mode entries start at octets old new rest place
      → TookPackets mode entries start at (octets ++ more) old new (rest ++ more) place
  took-more at place octets rest more old new took = record {
    packets = took.packets;
    whole = ap (λ (t : List ℕ). t ++ more) took.whole ∙ append_assoc (flat_map packet_octets took.packets) rest more;
    placed = took.placed;
    here = took.here;
    takes = took.takes;
  }

  stops_at-more : (now : Routes) (rest more : List ℕ) (place : ℕ) (fault : Fault) → StopsAt mode entries start now rest place fault → StopsAt mode entries start now (rest ++ more) place fault
  stops_at-more now rest more place fault (inl header) = inl (header-more place rest more fault header)
  stops_at-more now rest more place fault (inr (body, begins, why)) = inr (body, begins-more rest more body begins, why)

  pub stops-more : (at : ℕ) (octets more : List ℕ) (old : Routes) (fault : Fault) → StopsBehind mode entries start at octets old fault → StopsBehind mode entries start at (octets ++ more) old fault
  stops-more at octets more old fault stops = record {
    now = stops.now;
    rest = stops.rest ++ more;
    place = stops.place;
    took = took-more at stops.place octets stops.rest more old stops.now stops.took;
    stops = stops_at-more stops.now stops.rest more stops.place fault stops.stops;
  }

  pub took-end : (at place : ℕ) (octets rest : List ℕ) (old new : Routes) → TookPackets mode entries start at octets old new rest place → place + length rest ≡ at + length octets
  took-end at place octets rest old new took = omega (arith, took.here, ap length took.whole, length-append (flat_map packet_octets took.packets) rest)

  -- of octets that are one packet at most, if any are taken then all are
  pub one-taken : (at used : ℕ) (octets rest : List ℕ) (old new : Routes) → TookPackets mode entries start at octets old new rest (at + used)
      → (HasHeader octets → length octets ≤ 4 + body_len octets) → used ≢ 0 → rest ≡ []
  one-taken at used octets rest old new took one some = by took.packets took.whole took.placed took.here
    where
      by : (packets : List (List TlvAt)) → octets ≡ flat_map packet_octets packets ++ rest → ArePackets at packets → at + used ≡ at + length (flat_map packet_octets packets) → rest ≡ []
      by [] whole placed here = absurd (some (omega (arith, here)))
      by (tlvs ∷ packets) whole placed here =
          let behind : List ℕ = flat_map packet_octets packets ++ rest in
          let is : octets ≡ framed (flat_map tlv_octets tlvs) ++ behind = whole ∙ append_assoc (packet_octets tlvs) (flat_map packet_octets packets) rest in
          let long : length octets ≡ 4 + (length (flat_map tlv_octets tlvs) + length behind) = ap length is ∙ length-framed (flat_map tlv_octets tlvs) behind in
          let len : body_len octets ≡ length (flat_map tlv_octets tlvs) = ap body_len is ∙ body_len-framed (flat_map tlv_octets tlvs) behind placed.0 in
          let few : length octets ≤ 4 + body_len octets = one (omega (arith, long)) in
          empty rest (omega (arith, long, len, few, length-append (flat_map packet_octets packets) rest))
        where
          empty : (xs : List ℕ) → length xs ≡ 0 → xs ≡ []
          empty [] none = refl
          empty (x ∷ xs) none = absurd (omega (arith, none))

-- the rest of the octets, taken or not in a second step
module _ (mode m : Mode) (entries e : ℕ) (start s : Start) (settings : (m ≡ mode) × (e ≡ entries) × (s ≡ start)) where
  pub took-last : (r : Result (Unit {0}) Fault) (at place end : ℕ) (octets front rest left : List ℕ) (old mid new : Routes)
      → TookPackets mode entries start at octets old mid (front ++ rest) place → front ≡ []
      → OnOk r (TookPackets m e s place rest mid new left end) → OnOk r (TookPackets mode entries start at octets old new left end)
  took-last (Err fault) at place end octets front rest left old mid new first none second = tt
  took-last (Ok u) at place end octets front rest left old mid new first none second =
      let at_mode = subst (λ (x : Mode). TookPackets x e s place rest mid new left end) settings.0 second in
      let at_entries = subst (λ (x : ℕ). TookPackets mode x s place rest mid new left end) settings.1 at_mode in
      let at_sender = subst (λ (x : Start). TookPackets mode entries x place rest mid new left end) settings.2 at_entries in
      took-on mode entries start at place end octets rest left old mid new
      (subst (λ (t : List ℕ). TookPackets mode entries start at octets old mid (t ++ rest) place) none first) at_sender

  pub stops-last : (r : Result (Unit {0}) Fault) (at place : ℕ) (octets front rest : List ℕ) (old mid : Routes) → TookPackets mode entries start at octets old mid (front ++ rest) place → front ≡ []
      → IfErr r (StopsBehind m e s place rest mid) → IfErr r (StopsBehind mode entries start at octets old)
  stops-last (Ok u) at place octets front rest old mid first none stops = tt
  stops-last (Err fault) at place octets front rest old mid first none stops =
      let at_mode = subst (λ (x : Mode). StopsBehind x e s place rest mid fault) settings.0 stops in
      let at_entries = subst (λ (x : ℕ). StopsBehind mode x s place rest mid fault) settings.1 at_mode in
      let at_sender = subst (λ (x : Start). StopsBehind mode entries x place rest mid fault) settings.2 at_entries in
      stops-on mode entries start at place octets rest old mid fault
      (subst (λ (t : List ℕ). TookPackets mode entries start at octets old mid (t ++ rest) place) none first) at_sender

pub ready-next : (mode : Mode) (entries : ℕ) (start : Start) (r : Result (Unit {0}) Fault) (bytes tlvs count at place : ℕ)
    (pending rest octets : List ℕ) (old new : Routes) → IsReady bytes tlvs at pending
    → OnOk r (count ≤ place) → OnOk r (IsPartial rest) → OnOk r (TookPackets mode entries start at (pending ++ octets) old new rest place) → at + (length pending + length octets) ≤ bytes
    → OnOk r (IsReady bytes count place rest)
ready-next mode entries start (Err fault) bytes tlvs count at place pending rest octets old new ready counted partial took fits = tt
ready-next mode entries start (Ok u) bytes tlvs count at place pending rest octets old new ready counted partial took fits = record {
  counted = counted;
  in_limit = omega (arith, fits, took-end mode entries start at place (pending ++ octets) rest old new took, length-append pending octets);
  partial = partial;
}

-- ---- lists that are empty or not, as `is_empty` says

pub is_none : (xs : List ℕ) → true ≡ (length xs == 0) → xs ≡ []
is_none [] is = refl
is_none (x ∷ xs) is = absurd (let none = eqb-true (length (x ∷ xs)) 0 (sym is) in omega (arith, none))

pub is_some : (xs : List ℕ) → false ≡ (length xs == 0) → xs ≢ []
is_some [] is none = false≢true is
is_some (x ∷ xs) is none = absurd cc

pub none_left : (rest pending : List ℕ) → (rest ≢ [] → pending ≡ []) → pending ≢ [] → rest ≡ []
none_left [] pending whole some = refl
none_left (x ∷ rest) pending whole some = absurd (some (whole (λ e. absurd cc)))

-- ---- from the table to the dump

-- the octets are whole packets that the table has taken, and less than another, which begins at this place
pub record HasTakenTo (mode : Mode) (entries : ℕ) (start : Start) (table : Routes) (at : ℕ) (pending octets : List ℕ) : Type 0 where
  pub packets : List (List TlvAt)
  pub reads : ReadsAs octets packets pending
  pub partial : IsPartial pending
  pub place : at ≡ length (flat_map packet_octets packets)
  pub stands : StandsBehind mode entries table (sayings start packets)

-- want of memory, or a fault that the octets keep however they go on
abbrev pub HasStopped : Mode → ℕ → Start → List ℕ → Fault → Type 0
HasStopped mode entries start octets fault =
    ((fault ≡ faults.Memory) × NeedsMemory mode start octets)
    ⊎ (IsLasting fault × ((more : List ℕ) → StreamFault mode entries start (octets ++ more) fault))

module _ (mode : Mode) (entries : ℕ) (start : Start) where
  pub taken-then : (old new : Routes) (at place : ℕ) (pending rest octets more : List ℕ) → HasTakenTo mode entries start old at pending octets
      → TookPackets mode entries start at (pending ++ more) old new rest place → IsPartial rest → HasTakenTo mode entries start new place rest (octets ++ more)
  taken-then old new at place pending rest octets more taken took partial = record {
    packets = taken.packets ++ took.packets;
    reads = record {
      whole = whole-append octets more pending rest taken.packets took.packets taken.reads.whole took.whole;
      placed = placed-append 0 at taken.packets took.packets taken.reads.placed (omega (arith, taken.place)) took.placed;
    };
    partial = partial;
    place = omega (arith, taken.place, took.here, length-flat taken.packets took.packets);
    stands = subst (λ (s : List Saying). StandsBehind mode entries new s) (sym (sayings-append start taken.packets took.packets)) (took.takes (sayings start taken.packets) taken.stands);
  }

  reads-next : (octets rest : List ℕ) (packets : List (List TlvAt)) (tlvs : List TlvAt) (body behind : List ℕ) → ReadsAs octets packets rest
      → body ≡ flat_map tlv_octets tlvs → rest ≡ framed body ++ behind → ArePackets (length (flat_map packet_octets packets)) (tlvs ∷ []) → ReadsAs octets (packets ++ tlvs ∷ []) behind
  reads-next octets rest packets tlvs body behind reads is_body is_rest placed = record {
    whole = sym (append-nil octets) ∙ whole-append octets [] rest behind packets (tlvs ∷ []) reads.whole
        (append-nil rest ∙ is_rest ∙ ap (λ (b : List ℕ). framed b ++ behind) is_body ∙ ap (λ (t : List ℕ). t ++ behind) (sym (append-nil (packet_octets tlvs))));
    placed = placed-append 0 (length (flat_map packet_octets packets)) packets (tlvs ∷ []) reads.placed (omega arith) placed;
  }

  -- the table's fault is one of the octets
  stops-stream : (table : Routes) (at : ℕ) (rest octets : List ℕ) (packets : List (List TlvAt)) (fault : Fault) → ReadsAs octets packets rest → at ≡ length (flat_map packet_octets packets)
      → StandsBehind mode entries table (sayings start packets) → StopsAt mode entries start table rest at fault → HasStopped mode entries start octets fault
  stops-stream table at rest octets packets fault reads here stands (inl header) =
      inr (
        header-lasts at rest fault header,
        λ more. (
          packets,
          rest ++ more,
          record { whole = ap (λ (t : List ℕ). t ++ more) reads.whole ∙ append_assoc (flat_map packet_octets packets) rest more; placed = reads.placed },
          inl (
            stands.events,
            stands.fine,
            (λ none. absurd (omega (arith, header-long at rest fault header, ap length none, length-append rest more))),
            inr (inl (subst (λ (n : ℕ). HeaderFault n (rest ++ more) fault) here (header-more at rest more fault header))),
          ),
        ),
      )
  stops-stream table at rest octets packets fault reads here stands (inr (body, begins, inl past)) =
      inr (
        subst IsLasting (sym past.2) tt,
        λ more. (
          packets,
          rest ++ more,
          record { whole = ap (λ (t : List ℕ). t ++ more) reads.whole ∙ append_assoc (flat_map packet_octets packets) rest more; placed = reads.placed },
          inl (
            stands.events,
            stands.fine,
            (λ none. absurd (omega (arith, ap length none, length-append rest more, ap length begins.2, length-framed body begins.1))),
            inr (inr (body, begins-more rest more body begins, subst (λ (n : ℕ). TlvPastEndAt (n + 4) body fault) here past)),
          ),
        ),
      )
  stops-stream table at rest octets packets fault reads here stands (inr (body, begins, inr (parts, fails))) =
      let tlvs : List TlvAt = tlvs_of (at + 4) body in
      let said : List Saying = sayings_after start [] tlvs in
      let more_read : ReadsAs octets (packets ++ tlvs ∷ []) begins.1 =
      reads-next octets rest packets tlvs body begins.1 reads parts.whole begins.2
      (subst IsBody parts.whole begins.0, subst (λ (n : ℕ). ArePlaced (n + 4) tlvs) here parts.placed, tt) in
      by tlvs begins.1 more_read fails
    where
      by : (tlvs : List TlvAt) (behind : List ℕ) → ReadsAs octets (packets ++ tlvs ∷ []) behind
          → Fails mode entries (sayings_after start [] tlvs) table fault → HasStopped mode entries start octets fault
      by tlvs behind reads_on (inl (lasting, refuses)) =
          inr (
            lasting,
            λ more. (
              packets ++ tlvs ∷ [],
              behind ++ more,
              record { whole = ap (λ (t : List ℕ). t ++ more) reads_on.whole ∙ append_assoc (flat_map packet_octets (packets ++ tlvs ∷ [])) behind more; placed = reads_on.placed },
              inr (subst (λ (s : List Saying). RefusedBy mode entries s fault)
                  (append_assoc (sayings start packets) (sayings_after start [] tlvs) [] ∙ sym (sayings-append start packets (tlvs ∷ [])))
                  (refuses (sayings start packets) [] stands)),
            ),
          )
      by tlvs behind reads_on (inr (memory, (saying, is_said, grows))) =
          inl (
            memory,
            (
              packets ++ tlvs ∷ [],
              behind,
              reads_on,
              (
                saying,
                subst (λ (s : List Saying). Contains s saying) (sym (sayings-append start packets (tlvs ∷ [])))
                    (Contains-append_right (sayings start packets) (sayings_after start [] tlvs ++ []) saying
                    (subst (λ (s : List Saying). Contains s saying) (sym (append-nil (sayings_after start [] tlvs))) is_said)),
                grows,
              ),
            ),
          )

  pub stopped-then : (old : Routes) (at : ℕ) (pending octets more : List ℕ) (fault : Fault) → HasTakenTo mode entries start old at pending octets
      → StopsBehind mode entries start at (pending ++ more) old fault → HasStopped mode entries start (octets ++ more) fault
  stopped-then old at pending octets more fault taken stops =
      stops-stream stops.now stops.place stops.rest (octets ++ more) (taken.packets ++ stops.took.packets) fault
      (record {
        whole = whole-append octets more pending stops.rest taken.packets stops.took.packets taken.reads.whole stops.took.whole;
        placed = placed-append 0 at taken.packets stops.took.packets taken.reads.placed (omega (arith, taken.place)) stops.took.placed;
      })
      (omega (arith, taken.place, stops.took.here, length-flat taken.packets stops.took.packets))
      (subst (λ (s : List Saying). StandsBehind mode entries stops.now s) (sym (sayings-append start taken.packets stops.took.packets)) (stops.took.takes (sayings start taken.packets) taken.stands))
      stops.stops

-- ---- octets that were taken have no fault, or are truncated

partial-truncated : (place : ℕ) (rest : List ℕ) (fault : Fault) → IsPartial rest → PacketFault place rest fault → IsTruncated fault
partial-truncated place rest fault partial (inl (is, short)) = subst IsTruncated (sym is) tt
partial-truncated place rest fault (inl short) (inr (inl header)) = absurd (omega (arith, short, header-long place rest fault header))
partial-truncated place rest fault (inr lacks) (inr (inl header)) = absurd (header-good place rest fault header lacks.1 lacks.2)
partial-truncated place rest fault partial (inr (inr (body, begins, past))) = absurd (partial-no_packet rest body partial begins)

pub packet-no_fault : (place : ℕ) (rest behind : List ℕ) (tlvs : List TlvAt) (fault : Fault) → IsBody (flat_map tlv_octets tlvs) → ArePlaced (place + 4) tlvs
    → rest ≡ framed (flat_map tlv_octets tlvs) ++ behind → PacketFault place rest fault → ⊥
packet-no_fault place rest behind tlvs fault fits placed is (inl (is_fault, partial)) = partial-no_packet rest (flat_map tlv_octets tlvs) partial (fits, behind, is)
packet-no_fault place rest behind tlvs fault fits placed is (inr (inl header)) =
    header-good place rest fault header (ap (λ (t : List ℕ). slice_index t 0) is) (ap (λ (t : List ℕ). slice_index t 1) is)
packet-no_fault place rest behind tlvs fault fits placed is (inr (inr (body, begins, past))) =
    let same : body ≡ flat_map tlv_octets tlvs = (one_body body (flat_map tlv_octets tlvs) begins.1 behind begins.0 fits (sym begins.2 ∙ is)).0 in
    whole-no_stop (place + 4) past.0 tlvs placed (subst (λ (b : List ℕ). HasNoTlvAt (place + 4) b past.0) same past.1)

module _ (mode : Mode) (entries : ℕ) (start : Start) (table : Routes) (at : ℕ) (pending octets : List ℕ) (taken : HasTakenTo mode entries start table at pending octets) where
  pub only_truncated : (fault : Fault) → StreamFault mode entries start octets fault → IsTruncated fault × (pending ≢ [])
  only_truncated fault (packets, rest, reads, why) =
      let one = packets_one 0 at taken.packets packets pending rest (omega (arith, taken.place)) taken.reads.placed reads.placed
      (partial-stuck at pending taken.partial) (sym taken.reads.whole ∙ reads.whole) in
      by packets rest one.0 one.1 one.2 why
    where
      by : (packets : List (List TlvAt)) (rest : List ℕ) (more : List (List TlvAt)) → taken.packets ≡ packets ++ more → rest ≡ flat_map packet_octets more ++ pending
          → (((said : List Event) × AreFine mode entries [] (sayings start packets) said × (rest ≢ [])
          × PacketFault (length (flat_map packet_octets packets)) rest fault) ⊎ RefusedBy mode entries (sayings start packets) fault)
          → IsTruncated fault × (pending ≢ [])
      by packets rest more is is_rest (inr refused) =
          absurd (fine-not-refused mode entries (sayings start packets) (sayings start more) taken.stands.events fault
          (subst (λ (s : List Saying). AreFine mode entries [] s taken.stands.events) (ap (sayings start) is ∙ sayings-append start packets more) taken.stands.fine) refused)
      by packets rest [] is is_rest (inl (said, fine, some, why)) =
          (partial-truncated (length (flat_map packet_octets packets)) rest fault (subst IsPartial (sym is_rest) taken.partial) why, λ none. some (is_rest ∙ none))
      by packets rest (tlvs ∷ more) is is_rest (inl (said, fine, some, why)) =
          let placed : ArePackets (0 + length (flat_map packet_octets packets)) (tlvs ∷ more) = placed-drop 0 packets (tlvs ∷ more) (subst (ArePackets 0) is taken.reads.placed) in
          absurd (packet-no_fault (length (flat_map packet_octets packets)) rest (flat_map packet_octets more ++ pending) tlvs fault placed.0
          (subst (λ (n : ℕ). ArePlaced (n + 4) tlvs) (omega arith) placed.1) (is_rest ∙ append_assoc (packet_octets tlvs) (flat_map packet_octets more) pending) why)

  -- they end within a packet
  pub truncated : pending ≢ [] → StreamFault mode entries start octets (faults.Truncated at)
  truncated some =
      (taken.packets, pending, taken.reads, inl (taken.stands.events, taken.stands.fine, some, inl (ap (λ (n : ℕ). faults.Truncated n) taken.place, taken.partial)))
