-- What a captured frame is to us.
use Rattle.std.specs.Prelude.{List, ℕ}
use Rattle.babel_capture.specs.declared.ends.Ends.{Ends}
use Rattle.babel_capture.specs.declared.flaw.Flaw.{Flaw}
use Rattle.babel_capture.specs.declared.flaw.Flaw.TheVariants as flaws
use Rattle.babel_capture.specs.declared.lack.Lack.{Lack}
use Rattle.babel_capture.specs.declared.place.Place.{Place}
use Rattle.babel_capture.specs.declared.seen.Seen.{Seen}
use Rattle.babel_capture.specs.declared.seen.Seen.TheVariants as seens
use Rattle.babel_capture.specs.Pieces.{Fragment, fragment_of}

-- what there is of a datagram from or to the port of Babel: it is none that a router reads, for its
-- ports or its sender; or it lacks something; or it is whole, with its payload
pub data Carried : Type 0 where
  other_port : Carried
  not_link_local : Carried
  lacking : (lack : Lack) → Carried
  carries : (payload : List ℕ) → Carried

-- nothing of Babel; too short to tell; a fragment of a datagram that may be Babel's; or a datagram
-- from or to the port of Babel, captured at this place, and between which addresses
pub data Sight : Type 0 where
  other : Sight
  too_short : Sight
  fragmented : (fragment : Fragment) → Sight
  datagram : (place : Place) (ends : Ends) (carried : Carried) → Sight

-- what `look` answers, without where the payload lies in memory
abbrev pub flaw_of : Flaw → Carried
flaw_of flaws.OtherPort = other_port
flaw_of flaws.NotLinkLocal = not_link_local
flaw_of (flaws.Lacking lack) = lacking lack

abbrev pub sight_of : Seen → Sight
sight_of seens.Other = other
sight_of seens.Short = too_short
sight_of (seens.Fragment fragment) = fragmented (fragment_of fragment)
sight_of (seens.Flawed place ends flaw) = datagram place ends (flaw_of flaw)
sight_of (seens.Datagram place ends payload) = datagram place ends (carries payload.now)
