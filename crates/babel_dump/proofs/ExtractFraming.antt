-- What `extract` writes has no fault of framing but a TLV past the end of its packet.
use Rattle.std.proofs.Common.{Bool, true, false, ◌≡◌, ◌≢◌, ℕ, List, [], ◌∷◌, ◌++◌, refl, sym, subst, ◌∙◌}
use Rattle.std.proofs.lemmas.List.{append_cancel_left}
use Rattle.babel_tlv.specs.declared.fault.Fault.{Fault}
use Rattle.babel_tlv.specs.declared.fault.Fault.TheVariants as faults
use Rattle.babel_table.specs.Moments.{dump_of}
use Rattle.babel_capture.specs.Blocks.{sightings_to_end}
use Rattle.babel_capture.specs.Packets.{ArePackets}
use Rattle.babel_dump.specs.CaptureGiven.{made_in}
use Rattle.babel_dump.specs.CaptureText.{dump_text}
use Rattle.babel_dump.specs.ExtractLaws.{Extracted, ExtractedIsFramed, IsOfFraming}
use Rattle.babel_dump.specs.Given.{wanted_by}
use Rattle.babel_dump.specs.OneOutcome.{IsFaultOfOctets, octets_at}
use Rattle.babel_dump.specs.Packets.{packets_made}
use Rattle.babel_dump.specs.declared.reading.Reading.{Reading}
use Rattle.babel_dump.proofs.Outcomes.{appended, dump_fault_of_run}
use Rattle.babel_dump.proofs.WholePackets.{dump_framed, whole_dump, whole_made}

-- ---- what `extract` writes

as_it_is : (dump : List ℕ) → dump_text false dump ≡ dump
as_it_is [] = refl
as_it_is (octet ∷ octets) = refl

extracted_packets : (dump : List ℕ) → Extracted dump → ArePackets dump
extracted_packets dump done =
    let (text, says, wrote) = done.ran.ran.ran.wrote in
    let given = says.gave.given in
    let made = made_in given in
    let gathered : text ≡ dump_of (packets_made made) = says.text_is ∙ as_it_is (dump_of (packets_made made)) in
    let same : text ≡ dump = append_cancel_left done.before text dump (sym (appended _ _ done.before (done.before ++ dump) text done.ran.took done.ran.takes wrote)) in
    subst ArePackets (sym gathered ∙ same) (whole_dump (packets_made made)
    (whole_made says.gathering.wanted (sightings_to_end given.is_read.is_read.blocks) made given.is_read.is_read.gathered.taken.are_made))

not_memory : (fault : Fault) → IsOfFraming fault → fault ≢ faults.Memory
not_memory fault framing is = subst IsOfFraming is framing

not_pairs : (fault : Fault) → IsOfFraming fault → fault ≢ faults.TooManyPairs
not_pairs fault framing is = subst IsOfFraming is framing

-- read as they are, or as a capture, of which packets are whole
not_framing : (is_capture : Bool) (reading : Reading) (octets : List ℕ) (fault : Fault) → ArePackets octets → IsFaultOfOctets is_capture reading octets fault → ¬ IsOfFraming fault
not_framing false reading octets fault are has = dump_framed reading.limits reading.mode reading.sender octets are fault has
not_framing true reading octets fault are has =
    let whole = whole_made (wanted_by reading) has.0.begins.front has.0.made has.0.begins.are_made in
    dump_framed reading.limits reading.mode reading.sender (dump_of (packets_made has.0.made)) (whole_dump (packets_made has.0.made) whole) fault has.0.refused

pub extracted_is_framed : ExtractedIsFramed
extracted_is_framed job side octets other before after fault done ran framing =
    let found = dump_fault_of_run job side octets other before after fault ran (not_memory fault framing) (not_pairs fault framing) in
    not_framing found.reading.is_capture found.reading (octets_at side octets other) fault (extracted_packets (octets_at side octets other) done) found.has framing
