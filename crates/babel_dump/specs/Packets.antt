-- The packets of a capture, which a dump is made of: this project's own.
use Rattle.std.specs.Prelude.{ℕ, List, [], ◌∷◌, Option}
use Rattle.std.specs.List.{flat_map}
use Rattle.std.specs.Option.{unwrap_or}
use Rattle.babel_capture.specs.Counts.{Made}
use Rattle.babel_capture.specs.Findings.{Found, found}
use Rattle.babel_capture.specs.Times.{time_of}

-- the packet, if one was found, with the time of its record, or the first time where it has none
abbrev pub timed_found : Option ℕ → Found → List (ℕ × List ℕ)
timed_found time (found place ends packet has_trailer) = (unwrap_or time 0, packet) ∷ []
timed_found time what = []

-- all packets that were found, each with its time
abbrev pub packets_made : List Made → List (ℕ × List ℕ)
packets_made made = flat_map (λ one. timed_found (time_of one.came) one.what) made
