-- Laws of the definitions: octets are one capture. These are this project's own.
use Rattle.std.specs.Prelude.{◌≡◌, ℕ, List, Option}
use Rattle.babel_capture.specs.Capture.{IsRead, IsReadToCut}
use Rattle.babel_capture.specs.Gathering.{Gathering}
use Rattle.babel_capture.specs.Window.{Extent}

-- of the same wanted datagrams, one list is made of its packets, and one report and one list of
-- senders are given
abbrev pub CaptureIsOne : Type 0
CaptureIsOne =
    (limit : Extent) (octets : List ℕ) (one other : Gathering) → (read : IsRead limit octets one)
    → (again : IsRead limit octets other) → one.wanted ≡ other.wanted
    → (one ≡ other) × (read.gathered.made ≡ again.gathered.made)

-- so does one that may be cut short, and it is cut at one place
abbrev pub CutCaptureIsOne : Type 0
CutCaptureIsOne =
    (limit : Extent) (octets : List ℕ) (one other : Gathering) (cut other_cut : Option ℕ)
    → (read : IsReadToCut limit octets one cut) → (again : IsReadToCut limit octets other other_cut)
    → one.wanted ≡ other.wanted → (one ≡ other) × (cut ≡ other_cut)
    × (read.is_read.gathered.made ≡ again.is_read.gathered.made)
