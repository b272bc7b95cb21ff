-- Numbers in octets.
use Rattle.std.specs.Prelude.{ℕ, ◌/◌, ◌^◌, List, slice_index}
use Rattle.byteorder.specs.Endian.{big_from}

-- the number in this many octets from a place on, the highest first: network_number PLACE COUNT
-- OCTETS
unfoldable pub network_number : ℕ → ℕ → List ℕ → ℕ
network_number place count octets = big_from place count octets

-- RFC 791, 3.1; RFC 8200, 3: the version of an IP packet, the highest four bits
abbrev pub ip_version : List ℕ → ℕ
ip_version octets = slice_index octets 0 / 2 ^ 4
