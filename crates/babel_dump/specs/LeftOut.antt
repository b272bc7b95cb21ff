-- Which datagrams of a capture were left out, by its report: this project's own.
use Rattle.std.specs.Prelude.{ℕ, Bool, true, false, List, [], ◌∷◌, Option, codes}
use Rattle.std.specs.Option.{option_map}
use Rattle.babel_capture.specs.Counts.{Counts, all_reasons, count_at, reason_place}
use Rattle.babel_capture.specs.declared.reason.Reason.{Reason}
use Rattle.babel_capture.specs.declared.reason.Reason.TheVariants as reasons
use Rattle.babel_dump.specs.ByReason.{CountsNone, first_of}
use Rattle.babel_dump.specs.declared.left_out.LeftOutDatagram.{LeftOutDatagram}
use Rattle.babel_dump.specs.declared.left_out.ToldLeftOut.{ToldLeftOut}
use Rattle.babel_dump.specs.declared.left_out.ToldLeftOut.TheVariants as told_ones

-- the name of a reason
abbrev pub left_out_name : Reason → List ℕ
left_out_name reasons.Truncated = codes "truncated"
left_out_name reasons.BadMagic = codes "bad-magic"
left_out_name reasons.BadVersion = codes "bad-version"
left_out_name reasons.Fragment = codes "fragment"
left_out_name reasons.Snapped = codes "snapped"
left_out_name reasons.CutShort = codes "cut-short"
left_out_name reasons.OtherPort = codes "other-port"
left_out_name reasons.NotLinkLocal = codes "not-link-local"

-- the reasons of datagrams that are left out and not missed: nothing of them is missing, or, where
-- that is accepted, fragments are
abbrev pub unmissed_reasons : (accepts_missing : Bool) → List Reason
unmissed_reasons false = reasons.Truncated ∷ reasons.BadMagic ∷ reasons.BadVersion
    ∷ reasons.OtherPort ∷ reasons.NotLinkLocal ∷ []
unmissed_reasons true = reasons.Truncated ∷ reasons.BadMagic ∷ reasons.BadVersion
    ∷ reasons.Fragment ∷ reasons.OtherPort ∷ reasons.NotLinkLocal ∷ []

-- the reasons that a note tells
abbrev pub told_reasons : ToldLeftOut → List Reason
told_reasons told_ones.All = all_reasons
told_reasons (told_ones.Unmissed accepts_missing) = unmissed_reasons accepts_missing

-- how many datagrams were left out for a reason, and the number of the first's packet
abbrev pub left_out_for : Counts → Reason → Option (ℕ × ℕ)
left_out_for counts reason = count_at counts.left_out (reason_place reason)

-- the first datagram that was left out for one of these reasons
abbrev pub first_among : Counts → List Reason → Option LeftOutDatagram
first_among counts reasons =
    option_map (λ first. record { packet = first.0; reason = first.1 })
    (first_of (left_out_for counts) reasons)

-- the first datagram that was left out
abbrev pub first_left_out : Counts → Option LeftOutDatagram
first_left_out counts = first_among counts all_reasons

-- the first datagram that was left out and is not missed
abbrev pub first_unmissed : (accepts_missing : Bool) → Counts → Option LeftOutDatagram
first_unmissed accepts_missing counts = first_among counts (unmissed_reasons accepts_missing)

-- no datagram was left out
abbrev pub LeavesNoneOut : Counts → Type 0
LeavesNoneOut counts = CountsNone (left_out_for counts) all_reasons
