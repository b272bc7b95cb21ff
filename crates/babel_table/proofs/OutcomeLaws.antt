-- A dump has one fault at most and one table at most, and a fault stays.
use Rattle.std.proofs.Common.{◌≡◌, ◌≢◌, ℕ, zero, suc, ◌+◌, ◌-◌, List, [], ◌∷◌, ◌++◌, length, take, refl, sym, ap, subst, ◌∙◌, append_assoc, inl, inr, arith}
use Rattle.std.specs.Prelude.{◌⊎◌, slice_index, Result, Ok, Err, IfErr}
use Rattle.std.specs.List.{flat_map, AllByRecursion}
use Rattle.std.proofs.lemmas.List.{length-append, take-append-le}
use Rattle.babel_prefix.specs.Address.{Address}
use Rattle.babel_tlv.specs.declared.event.Event.{Event}
use Rattle.babel_tlv.specs.declared.event.Event.TheVariants as events
use Rattle.babel_tlv.specs.declared.fault.Fault.{Fault}
use Rattle.babel_tlv.specs.declared.fault.Fault.TheVariants as faults
use Rattle.babel_tlv.specs.declared.mode.Mode.{Mode}
use Rattle.babel_tlv.specs.declared.mode.Mode.TheVariants as modes
use Rattle.babel_tlv.specs.declared.start.Start.{Start}
use Rattle.babel_tlv.specs.FrameFaults.{HeaderFault, PacketFault, HasNoTlvAt, BeginsPacket}
use Rattle.babel_tlv.specs.Framing.{TlvAt, ReadsAs, packet_octets}
use Rattle.babel_tlv.specs.Route.{RouteKey, Announcement}
use Rattle.babel_tlv.specs.Says.{Saying, sayings, sayings_after}
use Rattle.babel_table.specs.Bounds.{Bounds, start_of}
use Rattle.babel_table.specs.Counts.{Counts, counts_of}
use Rattle.babel_table.specs.DumpFault.{Refuses, RefusedBy, StreamFault, DumpFault, IsTruncated}
use Rattle.babel_table.specs.Feeding.{IsPartial, IsLasting, MayGrowAt}
use Rattle.babel_table.specs.Holds.{HoldsAtMost, AreRowsOf, Names}
use Rattle.babel_table.specs.OneOutcome.{FaultIsOne, FaultIsOfOctets, FaultStays, TableIsOne, RoutesNeedMemory, KeysNeedMemory}
use Rattle.babel_table.specs.TableOf.{AreFine}
use Rattle.babel_table.proofs.DumpLaws.{sayings-append, header-more, header-long, header-lasts, header-good, begins-more, packet-no_fault}
use Rattle.babel_table.proofs.FineLaws.{one_event, refuses-not, fine-not-refused, routes}
use Rattle.babel_table.proofs.ReadingLaws.{BeginsNoPacket, partial-no_packet, one_body, stop_one, either_on, packets_one, readings_one, framed_one}
use Rattle.babel_table.proofs.RowsLaws.{rows-one}
use Rattle.babel_table.proofs.TookLaws.{said_lasts}

-- ---- the fault of octets that begin with no packet

-- why a header is bad
header_is : (at : ℕ) (octets : List ℕ) (fault : Fault) → HeaderFault at octets fault
    → ((fault ≡ faults.BadMagic at) × (slice_index octets 0 ≢ 42)) ⊎ ((fault ≡ faults.BadVersion at) × (slice_index octets 0 ≡ 42))
header_is at octets (faults.BadMagic place) (is, long, wrong) = inl (ap (λ (n : ℕ). faults.BadMagic n) is, wrong)
header_is at octets (faults.BadVersion place) (is, long, magic, wrong) = inr (ap (λ (n : ℕ). faults.BadVersion n) is, magic)
header_is at octets (faults.Truncated place) none = absurd none
header_is at octets (faults.TlvPastEnd place) none = absurd none
header_is at octets (faults.EncodingSetsRouterId place) none = absurd none
header_is at octets (faults.TooManyRoutes place) none = absurd none
header_is at octets faults.TooLong none = absurd none
header_is at octets faults.TooManyPairs none = absurd none
header_is at octets faults.Memory none = absurd none

header_one : (at : ℕ) (octets : List ℕ) (fault other : Fault) → HeaderFault at octets fault → HeaderFault at octets other → fault ≡ other
header_one at octets fault other bad other_bad = by (header_is at octets fault bad) (header_is at octets other other_bad)
  where
    by : ((fault ≡ faults.BadMagic at) × (slice_index octets 0 ≢ 42)) ⊎ ((fault ≡ faults.BadVersion at) × (slice_index octets 0 ≡ 42))
        → ((other ≡ faults.BadMagic at) × (slice_index octets 0 ≢ 42)) ⊎ ((other ≡ faults.BadVersion at) × (slice_index octets 0 ≡ 42)) → fault ≡ other
    by (inl magic) (inl again) = magic.0 ∙ sym again.0
    by (inl magic) (inr version) = absurd (magic.1 version.1)
    by (inr version) (inl magic) = absurd (magic.1 version.1)
    by (inr version) (inr again) = version.0 ∙ sym again.0

-- less than a packet has no bad header
partial-no_header : (at : ℕ) (octets : List ℕ) (fault : Fault) → IsPartial octets → HeaderFault at octets fault → ⊥
partial-no_header at octets fault (inl short) header = absurd (omega (arith, short, header-long at octets fault header))
partial-no_header at octets fault (inr lacks) header = header-good at octets fault header lacks.1 lacks.2

packet-no_header : (at : ℕ) (octets body : List ℕ) (fault : Fault) → BeginsPacket octets body → HeaderFault at octets fault → ⊥
packet-no_header at octets body fault begins header =
    header-good at octets fault header (ap (λ (t : List ℕ). slice_index t 0) begins.2) (ap (λ (t : List ℕ). slice_index t 1) begins.2)

packet_fault-one : (at : ℕ) (octets : List ℕ) (fault other : Fault) → PacketFault at octets fault → PacketFault at octets other → fault ≡ other
packet_fault-one at octets fault other (inl cut) (inl again) = cut.0 ∙ sym again.0
packet_fault-one at octets fault other (inl cut) (inr (inl header)) = absurd (partial-no_header at octets other cut.1 header)
packet_fault-one at octets fault other (inl cut) (inr (inr (body, begins, past))) = absurd (partial-no_packet octets body cut.1 begins)
packet_fault-one at octets fault other (inr (inl header)) (inl cut) = absurd (partial-no_header at octets fault cut.1 header)
packet_fault-one at octets fault other (inr (inl header)) (inr (inl again)) = header_one at octets fault other header again
packet_fault-one at octets fault other (inr (inl header)) (inr (inr (body, begins, past))) = absurd (packet-no_header at octets body fault begins header)
packet_fault-one at octets fault other (inr (inr (body, begins, past))) (inl cut) = absurd (partial-no_packet octets body cut.1 begins)
packet_fault-one at octets fault other (inr (inr (body, begins, past))) (inr (inl header)) = absurd (packet-no_header at octets body other begins header)
packet_fault-one at octets fault other (inr (inr (body, begins, past))) (inr (inr (again, begins_again, past_again))) =
    let same : body ≡ again = (one_body body again begins.1 begins_again.1 begins.0 begins_again.0 (sym begins.2 ∙ begins_again.2)).0 in
    past.2
    ∙ ap (λ (n : ℕ). faults.TlvPastEnd n) (stop_one (at + 4) past.0 past_again.0 again (subst (λ (b : List ℕ). HasNoTlvAt (at + 4) b past.0) same past.1) past_again.1)
    ∙ sym past_again.2

fault-stuck : (at : ℕ) (octets : List ℕ) (fault : Fault) → PacketFault at octets fault → BeginsNoPacket at octets
fault-stuck at octets fault why tlvs behind fits placed is = packet-no_fault at octets behind tlvs fault fits placed is why

-- it stays, if the octets don't just end too soon
packet_fault-more : (at : ℕ) (octets more : List ℕ) (fault : Fault) → PacketFault at octets fault → ¬ IsTruncated fault → PacketFault at (octets ++ more) fault
packet_fault-more at octets more fault (inl cut) whole = absurd (whole (subst IsTruncated (sym cut.0) tt))
packet_fault-more at octets more fault (inr (inl header)) whole = inr (inl (header-more at octets more fault header))
packet_fault-more at octets more fault (inr (inr (body, begins, past))) whole = inr (inr (body, begins-more octets more body begins, past))

-- ---- the first TLV that refuses a dump

heads : (x y : Saying) (xs ys : List Saying) → x ∷ xs ≡ y ∷ ys → x ≡ y
heads x y xs ys same = cc

tails : (x y : Saying) (xs ys : List Saying) → x ∷ xs ≡ y ∷ ys → xs ≡ ys
tails x y xs ys same = cc

module _ (mode : Mode) (entries : ℕ) where
  -- fine sayings are the events that they are
  pub fine_one : (before : List Event) (said : List Saying) (one other : List Event) → AreFine mode entries before said one → AreFine mode entries before said other → one ≡ other
  fine_one before [] one other fine other_fine = fine ∙ sym other_fine
  fine_one before (saying ∷ later) one other (e, is, few, fine) (d, is_d, few_d, other_fine) =
      fine_one (before ++ e ∷ []) later one other fine
      (subst (λ (x : Event). AreFine mode entries (before ++ x ∷ []) later other) (one_event d e saying.what is_d is) other_fine)

  refuses-one : (before : List Event) (at : ℕ) (what : Result Event Fault) (fault other : Fault) → Refuses mode entries before at what fault → Refuses mode entries before at what other → fault ≡ other
  refuses-one before at (Err refused) fault other why again = why ∙ sym again
  refuses-one before at (Ok event) fault other why again = why.0 ∙ sym again.0

  -- behind these events, fine sayings, and then one that refuses the dump for this fault
  record Stops (before : List Event) (front : List Saying) (one : Saying) (fault : Fault) : Type 0 where
    events : List Event
    fine : AreFine mode entries before front events
    why : Refuses mode entries events one.at one.what fault

  -- a saying that refuses the dump is not fine
  stops-not_fine : (before : List Event) (one : Saying) (fault : Fault) (event : Event) → Stops before [] one fault → one.what ≡ Ok event → HoldsAtMost mode entries (before ++ event ∷ []) → ⊥
  stops-not_fine before one fault event stops is few =
      refuses-not mode entries before one.at one.what event fault is few (subst (λ (es : List Event). Refuses mode entries es one.at one.what fault) stops.fine stops.why)

  stops-one : (before : List Event) (front others : List Saying) (one other : Saying) (later behind : List Saying) (fault other_fault : Fault) → front ++ one ∷ later ≡ others ++ other ∷ behind
      → Stops before front one fault → Stops before others other other_fault → fault ≡ other_fault
  stops-one before [] [] one other later behind fault other_fault same stops again =
      let is : one ≡ other = heads one other later behind same in
      refuses-one before other.at other.what fault other_fault
      (subst (λ (s : Saying). Refuses mode entries before s.at s.what fault) is (subst (λ (es : List Event). Refuses mode entries es one.at one.what fault) stops.fine stops.why))
      (subst (λ (es : List Event). Refuses mode entries es other.at other.what other_fault) again.fine again.why)
  stops-one before [] (x ∷ others) one other later behind fault other_fault same stops again =
      let is : one ≡ x = heads one x later (others ++ other ∷ behind) same in
      absurd (stops-not_fine before one fault again.fine.0 stops (ap (λ (s : Saying). s.what) is ∙ again.fine.1) again.fine.2)
  stops-one before (x ∷ front) [] one other later behind fault other_fault same stops again =
      let is : x ≡ other = heads x other (front ++ one ∷ later) behind same in
      absurd (stops-not_fine before other other_fault stops.fine.0 again (ap (λ (s : Saying). s.what) (sym is) ∙ stops.fine.1) stops.fine.2)
  stops-one before (x ∷ front) (y ∷ others) one other later behind fault other_fault same stops again =
      let is : x ≡ y = heads x y (front ++ one ∷ later) (others ++ other ∷ behind) same in
      let event : again.fine.0 ≡ stops.fine.0 = one_event again.fine.0 stops.fine.0 x.what (ap (λ (s : Saying). s.what) is ∙ again.fine.1) stops.fine.1 in
      stops-one (before ++ stops.fine.0 ∷ []) front others one other later behind fault other_fault (tails x y (front ++ one ∷ later) (others ++ other ∷ behind) same)
      (record { events = stops.events; fine = stops.fine.3; why = stops.why })
      (record { events = again.events; fine = subst (λ (e : Event). AreFine mode entries (before ++ e ∷ []) others again.events) event again.fine.3; why = again.why })

  refused-one : (said : List Saying) (fault other : Fault) → RefusedBy mode entries said fault → RefusedBy mode entries said other → fault ≡ other
  refused-one said fault other (front, one, later, before, is, fine, why) (others, another, behind, stood, is_again, fine_again, why_again) =
      stops-one [] front others one another later behind fault other (sym is ∙ is_again)
      (record { events = before; fine = fine; why = why }) (record { events = stood; fine = fine_again; why = why_again })

  refused-more : (said more : List Saying) (fault : Fault) → RefusedBy mode entries said fault → RefusedBy mode entries (said ++ more) fault
  refused-more said more fault (front, one, later, before, is, fine, why) =
      (front, one, later ++ more, before, ap (λ (s : List Saying). s ++ more) is ∙ append_assoc front (one ∷ later) more, fine, why)

-- ---- the fault of octets

module _ (mode : Mode) (entries : ℕ) (start : Start) where
  -- the same where one reading goes on
  refused-on : (packets others more : List (List TlvAt)) (fault other : Fault) → packets ≡ others ++ more
      → RefusedBy mode entries (sayings start packets) fault → RefusedBy mode entries (sayings start others) other → fault ≡ other
  refused-on packets others more fault other is refused again =
      refused-one mode entries (sayings start packets) fault other refused
      (subst (λ (s : List Saying). RefusedBy mode entries s other) (sym (ap (sayings start) is ∙ sayings-append start others more))
      (refused-more mode entries (sayings start others) (sayings start more) other again))

  -- where a fault of framing stands behind TLVs that are all fine, none of them refuses the dump
  framed-not_refused : (octets rest behind : List ℕ) (packets others : List (List TlvAt)) (said : List Event) (fault other : Fault) → ReadsAs octets packets rest → ReadsAs octets others behind
      → AreFine mode entries [] (sayings start packets) said → PacketFault (length (flat_map packet_octets packets)) rest fault → RefusedBy mode entries (sayings start others) other → ⊥
  framed-not_refused octets rest behind packets others said fault other reads other_reads fine why refused =
      let at : ℕ = length (flat_map packet_octets packets) in
      let on = packets_one 0 at packets others rest behind (omega arith) reads.placed other_reads.placed (fault-stuck at rest fault why) (sym reads.whole ∙ other_reads.whole) in
      fine-not-refused mode entries (sayings start others) (sayings start on.0) said other
      (subst (λ (s : List Saying). AreFine mode entries [] s said) (ap (sayings start) on.1 ∙ sayings-append start others on.0) fine) refused

  stream-one : (octets : List ℕ) (fault other : Fault) → StreamFault mode entries start octets fault → StreamFault mode entries start octets other → fault ≡ other
  stream-one octets fault other (packets, rest, reads, inl (said, fine, some, why)) (others, behind, other_reads, inl (other_said, other_fine, other_some, other_why)) =
      let at : ℕ = length (flat_map packet_octets packets) in
      let other_at : ℕ = length (flat_map packet_octets others) in
      let one = readings_one octets rest behind packets others reads other_reads (fault-stuck at rest fault why) (fault-stuck other_at behind other other_why) in
      packet_fault-one other_at behind fault other
      (subst (λ (t : List ℕ). PacketFault other_at t fault) one.1 (subst (λ (ps : List (List TlvAt)). PacketFault (length (flat_map packet_octets ps)) rest fault) one.0 why)) other_why
  stream-one octets fault other (packets, rest, reads, inl (said, fine, some, why)) (others, behind, other_reads, inr refused) =
      absurd (framed-not_refused octets rest behind packets others said fault other reads other_reads fine why refused)
  stream-one octets fault other (packets, rest, reads, inr refused) (others, behind, other_reads, inl (said, fine, some, why)) =
      absurd (framed-not_refused octets behind rest others packets said other fault other_reads reads fine why refused)
  stream-one octets fault other (packets, rest, reads, inr refused) (others, behind, other_reads, inr again) =
      elim (either_on 0 packets others rest behind reads.placed other_reads.placed (sym reads.whole ∙ other_reads.whole)) [
        | inl on ↦ refused-on packets others on.0 fault other on.1 refused again
        | inr on ↦ sym (refused-on others packets on.0 other fault on.1 again refused)
      ]

  stream-more : (octets more : List ℕ) (fault : Fault) → StreamFault mode entries start octets fault → ¬ IsTruncated fault → StreamFault mode entries start (octets ++ more) fault
  stream-more octets more fault (packets, rest, reads, why) whole = (
    packets,
    rest ++ more,
    record { whole = ap (λ (t : List ℕ). t ++ more) reads.whole ∙ append_assoc (flat_map packet_octets packets) rest more; placed = reads.placed },
    by why,
  )
    where
      some_more : (xs : List ℕ) → xs ≢ [] → (xs ++ more) ≢ []
      some_more [] some = absurd (some refl)
      some_more (x ∷ xs) some = λ none. absurd cc

      by : (((said : List Event) × AreFine mode entries [] (sayings start packets) said × (rest ≢ [])
          × PacketFault (length (flat_map packet_octets packets)) rest fault) ⊎ RefusedBy mode entries (sayings start packets) fault)
          → (((said : List Event) × AreFine mode entries [] (sayings start packets) said × ((rest ++ more) ≢ [])
          × PacketFault (length (flat_map packet_octets packets)) (rest ++ more) fault) ⊎ RefusedBy mode entries (sayings start packets) fault)
      by (inl (said, fine, some, framing)) = inl (said, fine, some_more rest some, packet_fault-more (length (flat_map packet_octets packets)) rest more fault framing whole)
      by (inr refused) = inr refused

-- ---- what a TLV refuses a dump for

abbrev Lasting : Saying → Type 0
Lasting saying = IfErr saying.what IsLasting

all_append : (xs ys : List Saying) → AllByRecursion Lasting xs → AllByRecursion Lasting ys → AllByRecursion Lasting (xs ++ ys)
all_append [] ys left right = right
all_append (x ∷ xs) ys left right = (left.0, all_append xs ys left.1 right)

all_middle : (xs : List Saying) (x : Saying) (ys : List Saying) → AllByRecursion Lasting (xs ++ x ∷ ys) → Lasting x
all_middle [] x ys all = all.0
all_middle (z ∷ xs) x ys all = all_middle xs x ys all.1

packet_lasts : (start : Start) (earlier tlvs : List TlvAt) → AllByRecursion Lasting (sayings_after start earlier tlvs)
packet_lasts start earlier [] = tt
packet_lasts start earlier (tlv ∷ tlvs) = ((said_lasts _ tlv).lasts, packet_lasts start (tlv ∷ earlier) tlvs)

packets_last : (start : Start) (packets : List (List TlvAt)) → AllByRecursion Lasting (sayings start packets)
packets_last start [] = tt
packets_last start (packet ∷ packets) = all_append (sayings_after start [] packet) (sayings start packets) (packet_lasts start [] packet) (packets_last start packets)

refuses-lasting : (mode : Mode) (entries : ℕ) (before : List Event) (at : ℕ) (what : Result Event Fault) (fault : Fault) → IfErr what IsLasting
    → Refuses mode entries before at what fault → IsLasting fault
refuses-lasting mode entries before at (Ok event) fault lasts why = subst IsLasting (sym why.0) tt
refuses-lasting mode entries before at (Err refused) fault lasts why = subst IsLasting (sym why) lasts

-- octets are cut off, or have a fault that lasts
stream_kinds : (mode : Mode) (entries : ℕ) (start : Start) (octets : List ℕ) (fault : Fault) → StreamFault mode entries start octets fault → IsTruncated fault ⊎ IsLasting fault
stream_kinds mode entries start octets fault (packets, rest, reads, inl (said, fine, some, inl cut)) = inl (subst IsTruncated (sym cut.0) tt)
stream_kinds mode entries start octets fault (packets, rest, reads, inl (said, fine, some, inr (inl header))) = inr (header-lasts (length (flat_map packet_octets packets)) rest fault header)
stream_kinds mode entries start octets fault (packets, rest, reads, inl (said, fine, some, inr (inr (body, begins, past)))) = inr (subst IsLasting (sym past.2) tt)
stream_kinds mode entries start octets fault (packets, rest, reads, inr (front, saying, later, before, is, fine, why)) =
    inr (refuses-lasting mode entries before saying.at saying.what fault
    (all_middle front saying later (subst (λ (s : List Saying). AllByRecursion Lasting s) is (packets_last start packets))) why)

dump_kinds : (limits : Bounds) (mode : Mode) (sender : Address) (dump : List ℕ) (fault : Fault) → DumpFault limits mode sender dump fault → IsTruncated fault ⊎ IsLasting fault
dump_kinds limits mode sender dump fault (inl (stream, whole)) = stream_kinds mode limits.entries (start_of limits sender) (take limits.bytes dump) fault stream
dump_kinds limits mode sender dump fault (inr (past, is, cut)) = inr (subst IsLasting (sym is) tt)

-- ---- the laws

pub fault_is_one : FaultIsOne
fault_is_one limits mode sender dump fault other (inl (stream, whole)) (inl (other_stream, other_whole)) =
    stream-one mode limits.entries (start_of limits sender) (take limits.bytes dump) fault other stream other_stream
fault_is_one limits mode sender dump fault other (inl (stream, whole)) (inr (past, is, cut)) = absurd (omega (arith, past, whole (cut fault stream)))
fault_is_one limits mode sender dump fault other (inr (past, is, cut)) (inl (stream, whole)) = absurd (omega (arith, past, whole (cut other stream)))
fault_is_one limits mode sender dump fault other (inr (past, is, cut)) (inr (again, other_is, other_cut)) = is ∙ sym other_is

pub fault_is_of_octets : FaultIsOfOctets
fault_is_of_octets limits mode sender dump fault refused = by (dump_kinds limits mode sender dump fault refused)
  where
    by : IsTruncated fault ⊎ IsLasting fault → (fault ≢ faults.TooManyPairs) × (fault ≢ faults.Memory)
    by (inl cut) = (λ is. subst IsTruncated is cut, λ is. subst IsTruncated is cut)
    by (inr lasting) = (λ is. subst IsLasting is lasting, λ is. subst IsLasting is lasting)

take-more : (n : ℕ) (xs ys : List ℕ) → take n (xs ++ ys) ≡ take n xs ++ take (n - length xs) ys
take-more zero xs ys = ap (λ (m : ℕ). take m ys) (let none : 0 ≡ 0 - length xs = omega arith in none)
take-more (suc n) [] ys = ap (λ (m : ℕ). take m ys) (let all : suc n ≡ suc n - 0 = omega arith in all)
take-more (suc n) (x ∷ xs) ys =
    ap (λ (l : List ℕ). x ∷ l) (take-more n xs ys ∙ ap (λ (m : ℕ). take n xs ++ take m ys) (let left : n - length xs ≡ suc n - suc (length xs) = omega arith in left))

pub fault_stays : FaultStays
fault_stays limits mode sender given more fault (inl (stream, whole)) lasts = inl (
  subst (λ (t : List ℕ). StreamFault mode limits.entries (start_of limits sender) t fault) (sym (take-more limits.bytes given more))
      (stream-more mode limits.entries (start_of limits sender) (take limits.bytes given) (take (limits.bytes - length given) more) fault stream lasts),
  λ cut. absurd (lasts cut),
)
fault_stays limits mode sender given more fault (inr (past, is, cut)) lasts = inr (
  omega (arith, past, length-append given more),
  is,
  λ other stream. cut other (subst (λ (t : List ℕ). StreamFault mode limits.entries (start_of limits sender) t other) (take-append-le limits.bytes given more (omega (arith, past))) stream),
)

-- the events of a table are those of its packets
pub table_is_one : TableIsOne
table_is_one limits mode sender dump table other is_table is_other =
    let packets : is_table.packets ≡ is_other.packets = framed_one dump is_table.packets is_other.packets is_table.reads is_other.reads in
    let said : is_table.said ≡ is_other.said =
    fine_one mode limits.entries [] (sayings (start_of limits sender) is_other.packets) is_table.said is_other.said
    (subst (λ (ps : List (List TlvAt)). AreFine mode limits.entries [] (sayings (start_of limits sender) ps) is_table.said) packets is_table.fine) is_other.fine in
    let rows : table.rows ≡ other.rows =
    rows-one mode is_other.said table.rows other.rows (subst (λ (es : List Event). AreRowsOf mode es table.rows) said is_table.rows) is_other.rows in
    let report : table.report ≡ other.report = is_table.report ∙ ap (λ (ps : List (List TlvAt)). counts_of (sayings (start_of limits sender) ps)) packets ∙ sym is_other.report in
    ap (λ rows. routes rows table.report) rows ∙ ap (λ (counts : Counts). routes other.rows counts) report

-- what may grow in each mode
plain_grows : (what : Result Event Fault) → MayGrowAt modes.Plain what → (event : Event) × (what ≡ Ok event) × (key : RouteKey) × (ann : Announcement) × (event ≡ events.Announce key ann)
plain_grows (Ok (events.Announce key ann)) grows = (events.Announce key ann, refl, key, ann, refl)
plain_grows (Ok (events.Retract key)) grows = absurd grows
plain_grows (Ok events.RetractAll) grows = absurd grows
plain_grows (Ok events.Nothing) grows = absurd grows
plain_grows (Ok (events.Ignored reason)) grows = absurd grows
plain_grows (Err fault) grows = absurd grows

hold_grows : (what : Result Event Fault) → MayGrowAt modes.Hold what → (event : Event) × (what ≡ Ok event) × (key : RouteKey) × Names key event
hold_grows (Ok (events.Announce key ann)) grows = (events.Announce key ann, refl, key, refl)
hold_grows (Ok (events.Retract key)) grows = (events.Retract key, refl, key, refl)
hold_grows (Ok events.RetractAll) grows = absurd grows
hold_grows (Ok events.Nothing) grows = absurd grows
hold_grows (Ok (events.Ignored reason)) grows = absurd grows
hold_grows (Err fault) grows = absurd grows

pub routes_need_memory : RoutesNeedMemory
routes_need_memory start octets (packets, rest, reads, (saying, is_in, grows)) =
    let grown = plain_grows saying.what grows in
    (packets, rest, saying, grown.0, reads, is_in, grown.1, (grown.2, grown.3, grown.4))

pub keys_need_memory : KeysNeedMemory
keys_need_memory start octets (packets, rest, reads, (saying, is_in, grows)) =
    let grown = hold_grows saying.what grows in
    (packets, rest, saying, grown.0, reads, is_in, grown.1, (grown.2, grown.3))
