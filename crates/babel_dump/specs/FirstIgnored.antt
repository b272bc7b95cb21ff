-- Laws of the definitions: which TLVs a report says were ignored, by what TLVs say. These are this
-- project's own.
use Rattle.std.specs.Prelude.{◌≡◌, ◌↔◌, ℕ, ◌<◌, List, AllPairs, Ok, Some}
use Rattle.babel_tlv.specs.declared.event.Event.TheVariants as events
use Rattle.babel_tlv.specs.declared.reason.Reason.{Reason}
use Rattle.babel_tlv.specs.declared.start.Start.{Start}
use Rattle.babel_tlv.specs.Framing.{TlvAt, ReadsAs}
use Rattle.babel_tlv.specs.Says.{Saying, sayings}
use Rattle.babel_table.specs.Counts.{counts_of}
use Rattle.babel_dump.specs.ByReason.{HasNone, IsFirst}
use Rattle.babel_dump.specs.Ignored.{IgnoresNone, first_ignored}
use Rattle.babel_dump.specs.declared.ignored.IgnoredTlv.{IgnoredTlv}

-- the TLV that says this is ignored for the reason
abbrev pub IsIgnoredFor : Reason → Saying → Type 0
IsIgnoredFor reason saying = saying.what ≡ Ok (events.Ignored reason)

-- each TLV lies at a higher offset than those before it
abbrev pub OffsetsRise : List Saying → Type 0
OffsetsRise told = AllPairs (λ saying later. saying.at < later.at) told

-- by the counts of TLVs none was ignored exactly where none of them is
abbrev pub NoneIsNone : Type 0
NoneIsNone =
    (told : List Saying) → IgnoresNone (counts_of told) ↔ HasNone IsIgnoredFor told

-- by the counts of TLVs at rising offsets this one was ignored first exactly where it is the first
-- of them that is ignored
abbrev pub FirstIsFirst : Type 0
FirstIsFirst =
    (told : List Saying) → OffsetsRise told → (tlv : IgnoredTlv)
    → (first_ignored (counts_of told) ≡ Some tlv)
    ↔ IsFirst (λ saying. saying.at) IsIgnoredFor told tlv.at tlv.reason

-- the TLVs of a dump lie at rising offsets
abbrev pub OffsetsOfDumpsRise : Type 0
OffsetsOfDumpsRise =
    (start : Start) (dump : List ℕ) (packets : List (List TlvAt)) (rest : List ℕ)
    → ReadsAs dump packets rest → OffsetsRise (sayings start packets)
