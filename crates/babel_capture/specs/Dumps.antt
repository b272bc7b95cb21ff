-- The dump that a capture has: its Babel packets, in order. It is this project's own.
use Rattle.std.specs.Prelude.{ℕ, List, [], ◌∷◌, Option}
use Rattle.std.specs.List.{flat_map}
use Rattle.babel_capture.specs.Counts.{Made}
use Rattle.babel_capture.specs.Findings.{Found, found}
use Rattle.babel_capture.specs.Times.{Came, time_of}

-- the packet, if one was found, and the time of its record, if that has one
abbrev pub timed_found : Came → Found → List (Option ℕ × List ℕ)
timed_found came (found place ends packet has_trailer) = (time_of came, packet) ∷ []
timed_found came what = []

-- all packets that were found, each with its time
abbrev pub packets_made : List Made → List (Option ℕ × List ℕ)
packets_made made = flat_map (λ one. timed_found one.came one.what) made

-- and their octets, end to end
abbrev pub dump_of : List Made → List ℕ
dump_of made = flat_map (λ packet. packet.1) (packets_made made)
