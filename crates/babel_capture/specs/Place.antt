-- Where a packet was captured. It is this project's own, but for the numbers of tags: IEEE 802.1Q,
-- 9.
use Rattle.std.specs.Prelude.{ℕ, not, ◌==◌, if◌then◌else◌, List, [], ◌∷◌, None}
use Rattle.std.specs.List.{filter}
use Rattle.babel_capture.specs.declared.place.Place.{Place}
use Rattle.babel_capture.specs.declared.place.Vlans.{Vlans}

-- no VLAN: 0 stands where there are no more numbers
abbrev pub no_vlans : Vlans
no_vlans = record { first = 0; second = 0; third = 0; fourth = 0 }

-- the numbers, the outer one first
abbrev pub vlan_fields : Vlans → List ℕ
vlan_fields vlans = vlans.first ∷ vlans.second ∷ vlans.third ∷ vlans.fourth ∷ []

abbrev pub vlan_numbers : Vlans → List ℕ
vlan_numbers vlans = filter (λ number. not (number == 0)) (vlan_fields vlans)

-- IEEE 802.1Q, 9.6: with the number of the next tag, of which there are four at most; 0 is for
-- priority and names no VLAN
unfoldable pub with_vlan : Vlans → ℕ → Vlans
with_vlan vlans number =
    if vlans.first == 0 then record vlans { first = number }
    else if vlans.second == 0 then record vlans { second = number }
    else if vlans.third == 0 then record vlans { third = number }
    else if vlans.fourth == 0 then record vlans { fourth = number }
    else vlans

-- the place on an interface that names no link and no VLAN besides
abbrev pub place_on : ℕ → Place
place_on interface = record { interface = interface; link = None; vlans = no_vlans }
