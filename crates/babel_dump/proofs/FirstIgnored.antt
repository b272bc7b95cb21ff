-- The first TLV that a report says was ignored is the first that is.
use Rattle.std.proofs.Common.{◌≡◌, ℕ, Bool, true, None, Some, refl, ap, eqb-true, eq-eqb}
use Rattle.std.specs.Prelude.{Result, Ok, Err, slice_get}
use Rattle.std.specs.Option.{option_map}
use Rattle.babel_tlv.specs.declared.event.Event.{Event}
use Rattle.babel_tlv.specs.declared.event.Event.TheVariants as events
use Rattle.babel_tlv.specs.declared.fault.Fault.{Fault}
use Rattle.babel_tlv.specs.declared.reason.Reason.{Reason}
use Rattle.babel_tlv.specs.declared.reason.Reason.TheVariants as reasons
use Rattle.babel_tlv.specs.Says.{Saying}
use Rattle.babel_table.specs.Counts.{Counts, all_reasons, counts_of, is_ignored_for, reason_place}
use Rattle.babel_dump.specs.ByReason.{first_of}
use Rattle.babel_dump.specs.FirstIgnored.{FirstIsFirst, IsIgnoredFor, NoneIsNone}
use Rattle.babel_dump.specs.Ignored.{IgnoresNone, first_ignored, ignored_for}
use Rattle.babel_dump.specs.declared.ignored.IgnoredTlv.{IgnoredTlv}
use Rattle.babel_dump.proofs.ByReason.{first_is, first_none, is_first, mapped_some, none_first, none_is_none as none_by_reason, one_place}

placed : (reason : Reason) → slice_get all_reasons (reason_place reason) ≡ Some reason
placed reasons.Short = refl
placed reasons.UnknownEncoding = refl
placed reasons.WildcardFinite = refl
placed reasons.WildcardPrefix = refl
placed reasons.BadPlen = refl
placed reasons.BadOmitted = refl
placed reasons.NoDefault = refl
placed reasons.ShortPrefix = refl
placed reasons.BadSub = refl
placed reasons.UnknownMandatory = refl
placed reasons.TwoSources = refl
placed reasons.BadSource = refl
placed reasons.WildcardSource = refl
placed reasons.NoRouterId = refl
placed reasons.ReservedRouterId = refl
placed reasons.NoNextHop = refl

abbrev place : Saying → ℕ
place saying = saying.at

abbrev tests : Reason → Saying → Bool
tests reason saying = is_ignored_for reason saying.what

passes : (reason : Reason) (saying : Saying) → IsIgnoredFor reason saying → tests reason saying ≡ true
passes reason saying is = rw is (eq-eqb (reason_place reason) (reason_place reason) refl)

what_is : (reason : Reason) (what : Result Event Fault) → is_ignored_for reason what ≡ true → what ≡ Ok (events.Ignored reason)
what_is reason (Ok (events.Ignored other)) is =
    ap (λ (r : Reason). Ok (events.Ignored r)) (one_place all_reasons reason_place placed reason other (eqb-true (reason_place other) (reason_place reason) is))
what_is reason (Ok (events.Announce key ann)) is = absurd cc
what_is reason (Ok (events.Retract key)) is = absurd cc
what_is reason (Ok events.RetractAll) is = absurd cc
what_is reason (Ok events.Nothing) is = absurd cc
what_is reason (Err fault) is = absurd cc

is_for : (reason : Reason) (saying : Saying) → tests reason saying ≡ true → IsIgnoredFor reason saying
is_for reason saying is = what_is reason saying.what is

-- ---- by the counts

pub ignores_none : (counts : Counts) → first_of (ignored_for counts) all_reasons ≡ None → IgnoresNone counts
ignores_none counts = none_first (ignored_for counts) all_reasons

pub none_is_first : (counts : Counts) → IgnoresNone counts → first_ignored counts ≡ None
none_is_first counts none = rw (first_none (ignored_for counts) all_reasons none) refl

-- ---- the laws

pub none_is_none : NoneIsNone
none_is_none = none_by_reason all_reasons reason_place placed place tests IsIgnoredFor passes is_for

abbrev tlv_of : ℕ × Reason → IgnoredTlv
tlv_of first = record { at = first.0; reason = first.1 }

pub first_is_first : FirstIsFirst
first_is_first told rises tlv = (
  (λ e. first_is all_reasons reason_place placed place tests IsIgnoredFor passes is_for told rises (tlv.at, tlv.reason)
      (mapped_some tlv_of (λ t. (t.at, t.reason)) (λ first. refl) (first_of (ignored_for (counts_of told)) all_reasons) tlv e)),
  (λ first. ap (option_map tlv_of) (is_first all_reasons reason_place placed place tests IsIgnoredFor passes is_for told rises (λ reason other saying is said. cc) tlv.at tlv.reason first)),
)
