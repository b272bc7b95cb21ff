-- A feeder that is fed the packets of a capture hears them, each with its time.
use Rattle.std.proofs.Common.{◌≡◌, ◌≢◌, ℕ, List, [], ◌∷◌, ◌++◌, Option, None, Some, refl, sym, ap, subst, ◌∙◌, append_assoc, append-nil}
use Rattle.std.specs.Prelude.{Result, Ok, Err, IfErr, IfOk}
use Rattle.std.specs.Option.{unwrap_or}
use Rattle.std.proofs.lemmas.List.Concat.{flat_map-append}
use Rattle.babel_tlv.specs.declared.fault.Fault.{Fault}
use Rattle.babel_tlv.specs.declared.fault.Fault.TheVariants as faults
use Rattle.babel_table.specs.DumpFault.{DumpFault, IsTruncated}
use Rattle.babel_table.specs.Feeding.{HasHeard, HasRead, Progress}
use Rattle.babel_table.specs.Moments.{dump_of}
use Rattle.babel_capture.specs.Counts.{Made}
use Rattle.babel_capture.specs.Findings.{Found, found, left, passed, refused, untold}
use Rattle.babel_capture.specs.Packets.{ArePackets}
use Rattle.babel_capture.specs.Sinking.{IsPacketOf, IsTold, packet_said}
use Rattle.babel_capture.specs.Times.{time_of}
use Rattle.babel_capture.specs.declared.sink.BabelPacket.{BabelPacket}
use Rattle.babel_capture.specs.declared.sink.Record.{Record}
use Rattle.babel_capture.specs.declared.sink.Said.{Said}
use Rattle.babel_capture.specs.declared.sink.Said.TheVariants as saids
use Rattle.babel_dump.specs.Fed.{AreWhole, HearsMore}
use Rattle.babel_dump.specs.Packets.{packets_made, timed_found}
use Rattle.babel_dump.proofs.WholePackets.{not_truncated, whole_dump, whole_front}

-- ---- the packet that is told

pub packet_told : (what : Found) (packet : BabelPacket) (time : Option ℕ) → IsPacketOf what (Some packet) → timed_found time what ≡ (unwrap_or time 0, packet.octets.now) ∷ []
packet_told passed packet time is = absurd (let bad = is.0 in cc)
packet_told untold packet time is = absurd (let bad = is.0 in cc)
packet_told (left reason missed) packet time is = absurd (let bad = is.0 in cc)
packet_told (refused lack) packet time is = absurd (let bad = is.0 in cc)
packet_told (found place ends octets has_trailer) packet time is = ap (λ (t : List ℕ). (unwrap_or time 0, t) ∷ []) is.1

none_told : (what : Found) (time : Option ℕ) → IsPacketOf what None → timed_found time what ≡ []
none_told passed time is = refl
none_told untold time is = refl
none_told (left reason missed) time is = refl
none_told (refused lack) time is = refl
none_told (found place ends octets has_trailer) time is = absurd (let bad = is.0 in cc)

pub none_said : (said : Said) → ((packet : BabelPacket) → said ≡ saids.Packet packet → ⊥) → packet_said said ≡ None
none_said saids.Nothing not = refl
none_said (saids.Packet packet) not = absurd (not packet refl)
none_said (saids.Missed missed) not = refl
none_said (saids.LeftOut origin reason) not = refl

-- what is told of the next record is the packet that is made of it, or none
pub made_more : (made : List Made) (one : Made) → packets_made (made ++ one ∷ []) ≡ packets_made made ++ timed_found (time_of one.came) one.what
made_more made one =
    flat_map-append (λ (m : Made). timed_found (time_of m.came) m.what) made (one ∷ []) ∙ ap (λ (t : List (ℕ × List ℕ)). packets_made made ++ t) (append-nil (timed_found (time_of one.came) one.what))

pub packet_more : (made : List Made) (one : Made) (told : Record) (packet : BabelPacket) → IsTold one told → packet_said told.said ≡ Some packet
    → packets_made (made ++ one ∷ []) ≡ packets_made made ++ (unwrap_or told.time 0, packet.octets.now) ∷ []
packet_more made one told packet is some =
    made_more made one ∙ ap (λ (t : List (ℕ × List ℕ)). packets_made made ++ t) (ap (λ (t : Option ℕ). timed_found t one.what) (sym is.time)
    ∙ packet_told one.what packet told.time (subst (IsPacketOf one.what) some is.packet))

pub none_more : (made : List Made) (one : Made) (told : Record) → IsTold one told → packet_said told.said ≡ None → packets_made (made ++ one ∷ []) ≡ packets_made made
none_more made one told is none =
    made_more made one ∙ ap (λ (t : List (ℕ × List ℕ)). packets_made made ++ t) (none_told one.what (time_of one.came) (subst (IsPacketOf one.what) none is.packet)) ∙ append-nil (packets_made made)

-- and so for their octets, end to end
pub octets_more : (made : List Made) (one : Made) (told : Record) (packet : BabelPacket) → IsTold one told → packet_said told.said ≡ Some packet
    → dump_of (packets_made (made ++ one ∷ [])) ≡ dump_of (packets_made made) ++ packet.octets.now
octets_more made one told packet is some =
    ap dump_of (packet_more made one told packet is some)
    ∙ flat_map-append (λ (piece : ℕ × List ℕ). piece.1) (packets_made made) ((unwrap_or told.time 0, packet.octets.now) ∷ [])
    ∙ ap (λ (t : List ℕ). dump_of (packets_made made) ++ t) (append-nil packet.octets.now)

-- ---- what a feeder hears

pub hears_none : (feeder : Progress) → HearsMore feeder feeder []
hears_none feeder = record {
  limits = refl;
  mode = refl;
  sender = refl;
  factor = refl;
  heard = λ given are heard. subst (HasHeard feeder) (sym (append-nil given)) heard;
}

pub hears_both : (a b c : Progress) (first more : List (ℕ × List ℕ)) → HearsMore a b first → HearsMore b c more → HearsMore a c (first ++ more)
hears_both a b c first more one two = record {
  limits = two.limits ∙ one.limits;
  mode = two.mode ∙ one.mode;
  sender = two.sender ∙ one.sender;
  factor = two.factor ∙ one.factor;
  heard = λ given are heard.
      let whole : AreWhole ((given ++ first) ++ more) = subst AreWhole (sym (append_assoc given first more)) are in
      subst (HasHeard c) (append_assoc given first more) (two.heard (given ++ first) whole (one.heard given (whole_front (given ++ first) more whole) heard));
}

not_cut : (old : Progress) (time : ℕ) (packet : List ℕ) (given : List (ℕ × List ℕ)) → AreWhole (given ++ (time, packet) ∷ []) → HasHeard old given → (result : Result (Unit {0}) Fault)
    → IfErr result (λ fault. IsTruncated fault → (given : List (ℕ × List ℕ)) → HasHeard old given → DumpFault old.limits old.mode old.sender (dump_of given ++ packet) fault)
    → IfErr result (λ fault. ¬ IsTruncated fault)
not_cut old time packet given are heard (Ok done) truncated = tt
not_cut old time packet given are heard (Err fault) truncated =
    let whole : ArePackets (dump_of given ++ packet) = subst ArePackets
    (flat_map-append (λ (piece : ℕ × List ℕ). piece.1) given ((time, packet) ∷ []) ∙ ap (λ (t : List ℕ). dump_of given ++ t) (append-nil packet)) (whole_dump (given ++ (time, packet) ∷ []) are) in
    λ cut. not_truncated old.limits old.mode old.sender (dump_of given ++ packet) whole fault (truncated cut given heard) cut

-- whole packets are not truncated, so that they are heard
pub hears_packet : (old new : Progress) (time : ℕ) (packet : List ℕ) (result : Result (Unit {0}) Fault)
    → (new.limits ≡ old.limits) × (new.mode ≡ old.mode) × (new.sender ≡ old.sender) × (new.factor ≡ old.factor)
    → (IfErr result (λ fault. ¬ IsTruncated fault) → (given : List (ℕ × List ℕ)) → HasHeard old given → HasHeard new (given ++ (time, packet) ∷ []))
    → IfErr result (λ fault. IsTruncated fault → (given : List (ℕ × List ℕ)) → HasHeard old given → DumpFault old.limits old.mode old.sender (dump_of given ++ packet) fault)
    → HearsMore old new ((time, packet) ∷ [])
hears_packet old new time packet result same heard truncated = record {
  limits = same.0;
  mode = same.1;
  sender = same.2;
  factor = same.3;
  heard = λ given are was. heard (not_cut old time packet given are was result truncated) given was;
}

-- what holds of all octets that a feeder was fed holds of what it heard
pub heard_whole : {T E : Type 0} (A : Type 0) (P : List ℕ → T → Type 0) (f : Progress) (result : Result T E) → IfOk result (λ value. (fed : List ℕ) → HasRead f fed → P fed value)
    → IfOk result (λ value. A → (packets : List (ℕ × List ℕ)) → HasHeard f packets → P (dump_of packets) value)
heard_whole A P f (Ok value) has = λ asked packets heard. has (dump_of packets) heard.read
heard_whole A P f (Err fault) has = tt

-- the fault of what a feeder was fed is that of what it heard
pub heard_fault : {T : Type 0} (f : Progress) (result : Result T Fault)
    → IfErr result (λ fault. fault ≢ faults.Memory → (fed : List ℕ) → HasRead f fed → DumpFault f.limits f.mode f.sender fed fault)
    → IfErr result (λ fault. fault ≢ faults.Memory → (packets : List (ℕ × List ℕ)) → HasHeard f packets → DumpFault f.limits f.mode f.sender (dump_of packets) fault)
heard_fault f (Ok value) has = tt
heard_fault f (Err fault) has = λ not_memory packets heard. has not_memory (dump_of packets) heard.read
