-- What a sink is told, and what it took.
use Rattle.std.proofs.Common.{◌≡◌, ℕ, List, [], ◌∷◌, ◌++◌, refl, sym, ap, subst, ◌∙◌, append_assoc}
use Rattle.std.specs.Prelude.{Err, IfErr, None, Ok, OnOk, Option, Result, Some}
use Rattle.std.specs.List.{flat_map}
use Rattle.std.proofs.lemmas.List.{append-nil}
use Rattle.std.proofs.lemmas.List.Concat.{flat_map-append}
use Rattle.babel_capture.specs.declared.fault.Fault.{Fault}
use Rattle.babel_capture.specs.declared.sink.BabelPacket.{BabelPacket}
use Rattle.babel_capture.specs.declared.sink.Record.{Record}
use Rattle.babel_capture.specs.Counts.{Made}
use Rattle.babel_capture.specs.Dumps.{dump_of, packets_made, timed_found}
use Rattle.babel_capture.specs.Findings.{Found, found, left, octets_found, passed, refused, untold}
use Rattle.babel_capture.specs.Sinking.{IsPacketOf, IsTold, Sinks, packet_said}
use Rattle.babel_capture.specs.Times.{Came, time_of}

-- what comes after one another
pub sinks-both : {S : Type 0} (has : S → S → List Made → Type 0) (old next new : S) (P Q R : List Made → Type 0) → ((one two : List Made) → P one → Q two → R (one ++ two)) → Sinks has old next P
    → Sinks has next new Q → Sinks has old new R
sinks-both has old next new P Q R joins one two = record {
  more = one.more ++ two.more;
  took = λ start made has_so. subst (has start new) (append_assoc made one.more two.more) (two.took start (made ++ one.more) (one.took start made has_so));
  are_read = joins one.more two.more one.are_read two.are_read;
}

-- where there are no packets
pub sinks-none : {S : Type 0} (has : S → S → List Made → Type 0) (sink : S) (P : List Made → Type 0) → P [] → Sinks has sink sink P
sinks-none has sink P holds = record {
  more = [];
  took = λ start made has_so. subst (has start sink) (sym (append-nil made)) has_so;
  are_read = holds;
}

-- or one, which it was told
pub sinks-told : {S : Type 0} (has : S → S → List Made → Type 0) (old new : S) (P : List Made → Type 0) (told : Record) (one : Made) → IsTold one told
    → ((start : S) (made : List Made) (one : Made) → IsTold one told → has start old made → has start new (made ++ one ∷ [])) → P (one ∷ []) → Sinks has old new P
sinks-told has old new P told one is_told took holds = record {
  more = one ∷ [];
  took = λ start made has_so. took start made one is_told has_so;
  are_read = holds;
}

-- and where they are the same by another name
pub sinks-as : {S : Type 0} (has : S → S → List Made → Type 0) (old new : S) (P Q : List Made → Type 0) → ((more : List Made) → P more → Q more) → Sinks has old new P → Sinks has old new Q
sinks-as has old new P Q goes sinks = record { more = sinks.more; took = sinks.took; are_read = goes sinks.more sinks.are_read }

pub any-ok : {A P : Type 0} (r : Result A Fault) → P → OnOk r P
any-ok (Ok value) holds = holds
any-ok (Err fault) holds = tt

pub any-err : {A P : Type 0} (r : Result A Fault) → P → IfErr r (λ fault. P)
any-err (Ok value) holds = tt
any-err (Err fault) holds = holds

pub ok-both : {A P Q R : Type 0} (r : Result A Fault) → (P → Q → R) → OnOk r P → OnOk r Q → OnOk r R
ok-both (Ok value) goes one two = goes one two
ok-both (Err fault) goes one two = tt

-- ---- the dump, as a sink that keeps it meets it

pub packets-append : (made more : List Made) → packets_made (made ++ more) ≡ packets_made made ++ packets_made more
packets-append made more = flat_map-append (λ (one : Made). timed_found one.came one.what) made more

pub dump-append : (made more : List Made) → dump_of (made ++ more) ≡ dump_of made ++ dump_of more
dump-append made more =
    ap (flat_map (λ (packet : Option ℕ × List ℕ). packet.1)) (packets-append made more) ∙ flat_map-append (λ (packet : Option ℕ × List ℕ). packet.1) (packets_made made) (packets_made more)

pub packets-one : (one : Made) → packets_made (one ∷ []) ≡ timed_found one.came one.what
packets-one one = append-nil (timed_found one.came one.what)

octets_one : (came : Came) (what : Found) → flat_map (λ (packet : Option ℕ × List ℕ). packet.1) (timed_found came what) ≡ octets_found what
octets_one came passed = refl
octets_one came untold = refl
octets_one came (left reason missed) = refl
octets_one came (refused lack) = refl
octets_one came (found place ends packet has_trailer) = append-nil packet

pub dump-one : (one : Made) → dump_of (one ∷ []) ≡ octets_found one.what
dump-one one = ap (flat_map (λ (packet : Option ℕ × List ℕ). packet.1)) (packets-one one) ∙ octets_one one.came one.what

-- the packet that is told is the one that is found, with its time; and where none is told, none is
found-told : (came : Came) (what : Found) (packet : BabelPacket) → IsPacketOf what (Some packet) → timed_found came what ≡ (time_of came, packet.octets.now) ∷ []
found-told came passed packet is = absurd cc
found-told came untold packet is = absurd cc
found-told came (left reason missed) packet is = absurd cc
found-told came (refused lack) packet is = absurd cc
found-told came (found place ends octets has_trailer) packet is = ap (λ (t : List ℕ). (time_of came, t) ∷ []) is.1

none-told : (came : Came) (what : Found) → IsPacketOf what None → timed_found came what ≡ []
none-told came passed is = refl
none-told came untold is = refl
none-told came (left reason missed) is = refl
none-told came (refused lack) is = refl
none-told came (found place ends octets has_trailer) is = absurd cc

pub told-found : (one : Made) (told : Record) (packet : BabelPacket) → IsTold one told → packet_said told.said ≡ Some packet → packets_made (one ∷ []) ≡ (told.time, packet.octets.now) ∷ []
told-found one told packet is_told says =
    packets-one one ∙ found-told one.came one.what packet (subst (IsPacketOf one.what) says is_told.packet) ∙ ap (λ (t : Option ℕ). (t, packet.octets.now) ∷ []) (sym is_told.time)

pub told-none : (one : Made) (told : Record) → IsTold one told → packet_said told.said ≡ None → packets_made (one ∷ []) ≡ []
told-none one told is_told says = packets-one one ∙ none-told one.came one.what (subst (IsPacketOf one.what) says is_told.packet)
