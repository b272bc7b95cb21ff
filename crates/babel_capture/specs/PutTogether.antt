-- A law of the definitions: a datagram that came in fragments, in whatever order, is read as the
-- same datagram sent whole: RFC 791, 3.2; RFC 8200, 4.5.
use Rattle.std.specs.Prelude.{◌≡◌, ℕ, ◌+◌, ◌-◌, ◌<◌, ◌≤◌, ◌⊎◌, Bool, true, false, ◌==◌, nat_lt}
use Rattle.std.specs.Prelude.{if◌then◌else◌, List, [], ◌∷◌, ◌++◌, drop, length, take, sum_by}
use Rattle.std.specs.Prelude.{None, Some}
use Rattle.std.specs.List.{All}
use Rattle.babel_capture.specs.declared.datagram.Datagram.{Datagram}
use Rattle.babel_capture.specs.declared.datagram.Step.TheVariants as steps
use Rattle.babel_capture.specs.declared.fragment.UdpPlace.{UdpPlace}
use Rattle.babel_capture.specs.Contents.{Captured}
use Rattle.babel_capture.specs.Fragments.{begins, ends_of, of_id, step_in, stepped, whole_sight}
use Rattle.babel_capture.specs.LaidOut.{IsBabel, UdpDatagram, udp_octets}
use Rattle.babel_capture.specs.Passage.{Passage, seen_at}
use Rattle.babel_capture.specs.Pieces.{Fragment}
use Rattle.babel_capture.specs.Sight.{carries, datagram, fragmented}
use Rattle.babel_capture.specs.Udp.{may_send, udp_sight}

-- one fragment of what was sent, in which UDP begins there: all its octets were kept, and it says
-- that more come after it where they do
pub record IsPart (sent : List ℕ) (udp : UdpPlace) (fragment : Fragment) : Type 0 where
  pub some : 0 < fragment.len
  pub within : fragment.offset + fragment.len ≤ length sent
  pub octets : fragment.octets ≡ take fragment.len (drop fragment.offset sent)
  pub more : fragment.more ≡ nat_lt (fragment.offset + fragment.len) (length sent)
  pub first : fragment.udp ≡ (if fragment.offset == 0 then Some udp else None)

-- no octet is of both
abbrev pub AreApart : Fragment → Fragment → Type 0
AreApart one other =
    (one.offset + one.len ≤ other.offset) ⊎ (other.offset + other.len ≤ one.offset)

-- they are parts of what was sent, in whatever order, and apart
abbrev pub ArePartsApart : List ℕ → UdpPlace → List Fragment → Type 0
ArePartsApart sent udp [] = Unit {0}
ArePartsApart sent udp (fragment ∷ later) =
    IsPart sent udp fragment × All (AreApart fragment) later × ArePartsApart sent udp later

-- and each octet of what was sent is of one of them
pub record AreAllParts (sent : List ℕ) (udp : UdpPlace) (fragments : List Fragment) : Type 0 where
  pub parts : ArePartsApart sent udp fragments
  pub all : sum_by (λ fragment. fragment.len) fragments ≡ length sent

-- the datagram that these fragments are taken to, one after another
abbrev pub after_fragments : Datagram → List Fragment → Datagram
after_fragments so_far [] = so_far
after_fragments so_far (fragment ∷ later) =
    after_fragments (stepped so_far fragment (step_in so_far fragment)) later

-- The last one makes the datagram whole, whichever that is; and the datagram is then seen as UDP in
-- the octets that were sent, as one that was sent whole is.
abbrev pub PutTogetherIsWhole : Type 0
PutTogetherIsWhole =
    (sent : List ℕ) (udp : UdpPlace) (at came : ℕ) (ends_within : Bool) (first : Fragment)
    (between : List Fragment) (last : Fragment)
    → AreAllParts sent udp (first ∷ (between ++ last ∷ []))
    → let before : Datagram = after_fragments (begins at came ends_within first) between in
    (step_in before last ≡ steps.Completes)
    × (whole_sight (stepped before last steps.Completes)
    ≡ udp_sight first.id.origin.place (ends_of first.id) false (drop udp.at sent)
    (length sent - udp.at))

-- And where it is a datagram of Babel, after these octets of extension headers, if any, the record
-- of the last one is read as one that has the datagram whole, as `laid_out_is_seen` says what that
-- is seen as: by its number, its place in order and its time, too.
abbrev pub PutTogetherIsRead : Type 0
PutTogetherIsRead =
    (headers : List ℕ) (babel : UdpDatagram) (udp : UdpPlace) (at came : ℕ) (ends_within : Bool)
    (first : Fragment) (between : List Fragment) (last : Fragment)
    → IsBabel babel → may_send first.id.origin.sender ≡ true → udp.at ≡ length headers
    → AreAllParts (headers ++ udp_octets babel) udp (first ∷ (between ++ last ∷ []))
    → (before : Passage) (number block : ℕ) (packet : Captured)
    → of_id last.id before.known.unfinished
    ≡ Some (number, after_fragments (begins at came ends_within first) between)
    → seen_at before block packet (fragmented last) ≡ seen_at before block packet
    (datagram first.id.origin.place (ends_of first.id) (carries babel.payload))
