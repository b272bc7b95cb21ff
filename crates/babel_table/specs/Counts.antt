-- What a report says of the TLVs of a dump (RFC 8966, 4.3). It is this project's own: it counts
-- what RFC 8966, 4.4 to 4.6, and RFC 9079, 5 have a reader ignore.
use Rattle.std.specs.Prelude.{ℕ, Bool, false, ◌==◌, ◌&&◌, List, [], ◌∷◌, length, map}
use Rattle.std.specs.Prelude.{Option, Result, Ok, slice_get, count_by}
use Rattle.std.specs.List.{find, list_any}
use Rattle.std.specs.Option.{option_map, option_flatten}
use Rattle.babel_tlv.specs.declared.reason.Reason.{Reason}
use Rattle.babel_tlv.specs.declared.reason.Reason.TheVariants as reasons
use Rattle.babel_tlv.specs.declared.event.Event.{Event}
use Rattle.babel_tlv.specs.declared.event.Event.TheVariants as events
use Rattle.babel_tlv.specs.declared.fault.Fault.{Fault}
use Rattle.babel_tlv.specs.Says.{Saying}

-- how many TLVs there are, how many of them are Updates, whether one of these was ignored because
-- its encoding is 4 (RFC 9229), and for each reason, in the order of the reasons, how many were
-- ignored for it and where the first lies
pub record Counts : Type 0 where
  pub tlvs : ℕ
  pub updates : ℕ
  pub ignores_4 : Bool
  pub ignored : List (Option (ℕ × ℕ))

-- the place of a reason in their order
abbrev pub reason_place : Reason → ℕ
reason_place reasons.Short = 0
reason_place reasons.UnknownEncoding = 1
reason_place reasons.WildcardFinite = 2
reason_place reasons.WildcardPrefix = 3
reason_place reasons.BadPlen = 4
reason_place reasons.BadOmitted = 5
reason_place reasons.NoDefault = 6
reason_place reasons.ShortPrefix = 7
reason_place reasons.BadSub = 8
reason_place reasons.UnknownMandatory = 9
reason_place reasons.TwoSources = 10
reason_place reasons.BadSource = 11
reason_place reasons.WildcardSource = 12
reason_place reasons.NoRouterId = 13
reason_place reasons.ReservedRouterId = 14
reason_place reasons.NoNextHop = 15

abbrev pub all_reasons : List Reason
all_reasons =
    reasons.Short ∷ reasons.UnknownEncoding ∷ reasons.WildcardFinite ∷ reasons.WildcardPrefix
    ∷ reasons.BadPlen ∷ reasons.BadOmitted ∷ reasons.NoDefault ∷ reasons.ShortPrefix
    ∷ reasons.BadSub ∷ reasons.UnknownMandatory ∷ reasons.TwoSources ∷ reasons.BadSource
    ∷ reasons.WildcardSource ∷ reasons.NoRouterId ∷ reasons.ReservedRouterId ∷ reasons.NoNextHop
    ∷ []

abbrev pub count_at : List (Option (ℕ × ℕ)) → ℕ → Option (ℕ × ℕ)
count_at counts place = option_flatten (slice_get counts place)

-- the TLV was ignored for this reason
abbrev pub is_ignored_for : Reason → Result Event Fault → Bool
is_ignored_for reason (Ok (events.Ignored other)) = reason_place other == reason_place reason
is_ignored_for reason what = false

-- how many TLVs were ignored for the reason, and where the first lies
abbrev pub ignored_in : List Saying → Reason → Option (ℕ × ℕ)
ignored_in sayings reason =
    let is_one : Saying → Bool = λ saying. is_ignored_for reason saying.what in
    option_map (λ saying. (count_by is_one sayings, saying.at)) (find is_one sayings)

-- RFC 8966, 4.6.9: an Update, whatever it holds
abbrev pub is_update : Saying → Bool
is_update saying = saying.kind == 8

-- RFC 8966, 4.6.9: an Update begins with the number of its encoding
abbrev pub begins_with_4 : List ℕ → Bool
begins_with_4 [] = false
begins_with_4 (encoding ∷ rest) = encoding == 4

-- a TLV of this type and body, which says this: an Update in encoding 4 (RFC 9229) that was ignored
-- because that encoding is not read
abbrev pub is_unread_4 : ℕ → List ℕ → Result Event Fault → Bool
is_unread_4 kind body what =
    kind == 8 && begins_with_4 body && is_ignored_for reasons.UnknownEncoding what

abbrev pub counts_of : List Saying → Counts
counts_of sayings = record {
  tlvs = length sayings;
  updates = count_by is_update sayings;
  ignores_4 = list_any (λ saying. is_unread_4 saying.kind saying.body saying.what) sayings;
  ignored = map (ignored_in sayings) all_reasons;
}
