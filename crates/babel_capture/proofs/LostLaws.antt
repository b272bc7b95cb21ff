-- What is made of a datagram of which fragments are missing does not count for its sender.
use Rattle.std.proofs.Common.{Bool, true, false, not, ◌&&◌, if◌then◌else◌, inl, inr, subst, sym}
use Rattle.std.specs.Prelude.{Option, None, Some}
use Rattle.babel_prefix.specs.Address.{Address}
use Rattle.babel_capture.specs.declared.datagram.Datagram.{Datagram}
use Rattle.babel_capture.specs.declared.ends.Ends.{Ends}
use Rattle.babel_capture.specs.declared.fragment.UdpPlace.{UdpPlace}
use Rattle.babel_capture.specs.declared.lack.Lack.{Lack}
use Rattle.babel_capture.specs.declared.lack.Lack.TheVariants as lacks
use Rattle.babel_capture.specs.declared.place.Place.{Place}
use Rattle.babel_capture.specs.declared.wanted.Wanted.{Wanted}
use Rattle.babel_capture.specs.Findings.{Finds, Found, left, missed_found}
use Rattle.babel_capture.specs.Fragments.{ends_of, lost_by, lost_sight}
use Rattle.babel_capture.specs.Gathering.{IsTaken, IsUncounted}
use Rattle.babel_capture.specs.Lack.{lack_reason, lacks_fragments}
use Rattle.babel_capture.specs.Sight.{Sight, other, too_short, fragmented, datagram, other_port, not_link_local, lacking, carries}
use Rattle.babel_capture.specs.Udp.{may_send, missing_sight}

abbrev IsLost : Sight → Type 0
IsLost other = Unit {0}
IsLost (datagram place ends (carries payload)) = ⊥
IsLost (datagram place ends carried) = Unit {0}
IsLost sight = ⊥

either : (b : Bool) (x y : Sight) → IsLost x → IsLost y → IsLost (if b then x else y)
either true x y is is_too = is
either false x y is is_too = is_too

missing-lost : (place : Place) (ends : Ends) (routers : Bool) → IsLost (missing_sight place ends routers)
missing-lost place ends routers =
    let lost : Sight = datagram place ends (lacking lacks.Fragment) in
    let local : Sight = if not (may_send ends.sender) then datagram place ends not_link_local else lost in
    either (not routers) (datagram place ends other_port) local tt (either (not (may_send ends.sender)) (datagram place ends not_link_local) lost tt tt)

lost-is : (one : Datagram) (udp : Option UdpPlace) → IsLost (lost_by one udp)
lost-is one None = either one.is_to_group (missing_sight one.id.origin.place (ends_of one.id) true) other (missing-lost one.id.origin.place (ends_of one.id) true) tt
lost-is one (Some udp) = missing-lost one.id.origin.place (ends_of one.id) udp.is_of_routers

lack-uncounted : (accepted : Bool) (named : Option Address) (place : Place) (sender : Address) (lack : Lack)
    → IsTaken (if accepted then left (lack_reason lack) None else missed_found named place sender lack)
    → IsUncounted (if accepted then left (lack_reason lack) None else missed_found named place sender lack)
lack-uncounted true named place sender lack is_taken = tt
lack-uncounted false None place sender lack is_taken = tt
lack-uncounted false (Some address) place sender lack is_taken = is_taken

uncounted : (wanted : Wanted) (sight : Sight) (what : Found) → IsLost sight → Finds wanted sight what → IsTaken what → IsUncounted what
uncounted wanted other what lost is is_taken = subst IsUncounted (sym is) tt
uncounted wanted too_short what lost is is_taken = absurd lost
uncounted wanted (fragmented fragment) what lost is is_taken = absurd lost
uncounted wanted (datagram place ends (carries payload)) what lost is is_taken = absurd lost
uncounted wanted (datagram place ends other_port) what lost (inl (wants, is)) is_taken = subst IsUncounted (sym is) tt
uncounted wanted (datagram place ends other_port) what lost (inr (not_wanted, is)) is_taken = subst IsUncounted (sym is) tt
uncounted wanted (datagram place ends not_link_local) what lost (inl (wants, is)) is_taken = subst IsUncounted (sym is) tt
uncounted wanted (datagram place ends not_link_local) what lost (inr (not_wanted, is)) is_taken = subst IsUncounted (sym is) tt
uncounted wanted (datagram place ends (lacking lack)) what lost (inl (wants, is)) is_taken =
    subst IsUncounted (sym is) (lack-uncounted (wanted.accepts_missing && lacks_fragments lack) wanted.sender place ends.sender lack (subst IsTaken is is_taken))
uncounted wanted (datagram place ends (lacking lack)) what lost (inr (not_wanted, is)) is_taken = subst IsUncounted (sym is) tt

pub lost-uncounted : (wanted : Wanted) (one : Datagram) (what : Found) → Finds wanted (lost_sight one) what → IsTaken what → IsUncounted what
lost-uncounted wanted one what finds is_taken = uncounted wanted (lost_sight one) what (lost-is one one.udp) finds is_taken
