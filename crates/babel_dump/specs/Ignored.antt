-- Which TLVs of a dump were ignored, by its report: this project's own.
use Rattle.std.specs.Prelude.{ℕ, nat_le, Option, None, Some, if◌then◌else◌}
use Rattle.std.specs.Option.{option_map}
use Rattle.babel_tlv.specs.declared.reason.Reason.{Reason}
use Rattle.babel_table.specs.Counts.{Counts, all_reasons, count_at, reason_place}
use Rattle.babel_dump.specs.ByReason.{CountsNone, first_of}
use Rattle.babel_dump.specs.declared.ignored.IgnoredTlv.{IgnoredTlv}

-- how many TLVs were ignored for a reason, and where the first lies
abbrev pub ignored_for : Counts → Reason → Option (ℕ × ℕ)
ignored_for counts reason = count_at counts.ignored (reason_place reason)

-- the first TLV that was ignored
abbrev pub first_ignored : Counts → Option IgnoredTlv
first_ignored counts =
    option_map (λ first. record { at = first.0; reason = first.1 })
    (first_of (ignored_for counts) all_reasons)

-- the first TLV that was ignored for a reason, where it lies at this offset or behind it
abbrev first_from : ℕ → Reason → Option (ℕ × ℕ) → Option IgnoredTlv
first_from from reason None = None
first_from from reason (Some counted) =
    if nat_le from counted.1 then Some (record { at = counted.1; reason = reason }) else None

abbrev pub newly_ignored : ℕ → Counts → Reason → Option IgnoredTlv
newly_ignored from counts reason = first_from from reason (ignored_for counts reason)

-- no TLV was ignored
abbrev pub IgnoresNone : Counts → Type 0
IgnoresNone counts = CountsNone (ignored_for counts) all_reasons
