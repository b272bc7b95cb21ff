-- The counts of sayings and one more.
use Rattle.std.proofs.Common.{◌≡◌, ℕ, ◌+◌, Bool, ◌||◌, cond, List, [], ◌∷◌, ◌++◌, length, map, Option, Some, None, refl, ap, ◌∙◌, arith}
use Rattle.std.specs.Prelude.{Ok, count_by}
use Rattle.std.specs.List.{list_any}
use Rattle.std.proofs.lemmas.List.Folds.{list_any-append}
use Rattle.std.proofs.Math.Bool.{or-false}
use Rattle.std.proofs.lemmas.List.{length-append}
use Rattle.babel_prefix.proofs.Counted.{count-push, counted-push, map-same}
use Rattle.babel_tlv.specs.declared.event.Event.{Event}
use Rattle.babel_tlv.specs.declared.event.Event.TheVariants as events
use Rattle.babel_tlv.specs.declared.reason.Reason.{Reason}
use Rattle.babel_tlv.specs.declared.reason.Reason.TheVariants as reasons
use Rattle.babel_tlv.specs.Framing.{TlvAt}
use Rattle.babel_tlv.specs.Says.{Saying}
use Rattle.babel_table.specs.Counts.{Counts, all_reasons, is_ignored_for, is_update, is_unread_4, ignored_in, counts_of}
use Rattle.babel_table.specs.Counting.{one_more, ignored_with, counted_with}
use Rattle.babel_table.specs.Feeding.{event_at}

abbrev Count : Type 0
Count = Option (ℕ × ℕ)

abbrev bumped : Bool → ℕ → Count → Count
bumped b at old = cond b (one_more at old) old

-- one more ignored TLV changes the place of its reason
set_one : (f : Reason → Count) (at : ℕ) (reason : Reason) → map (λ (r : Reason). bumped (is_ignored_for r (Ok (events.Ignored reason))) at (f r))
    all_reasons ≡ ignored_with (map f all_reasons) (events.Ignored reason) at
set_one f at reasons.Short = refl
set_one f at reasons.UnknownEncoding = refl
set_one f at reasons.WildcardFinite = refl
set_one f at reasons.WildcardPrefix = refl
set_one f at reasons.BadPlen = refl
set_one f at reasons.BadOmitted = refl
set_one f at reasons.NoDefault = refl
set_one f at reasons.ShortPrefix = refl
set_one f at reasons.BadSub = refl
set_one f at reasons.UnknownMandatory = refl
set_one f at reasons.TwoSources = refl
set_one f at reasons.BadSource = refl
set_one f at reasons.WildcardSource = refl
set_one f at reasons.NoRouterId = refl
set_one f at reasons.ReservedRouterId = refl
set_one f at reasons.NoNextHop = refl

by_event : (f : Reason → Count) (at : ℕ) (event : Event) → map (λ (r : Reason). bumped (is_ignored_for r (Ok event)) at (f r)) all_reasons ≡ ignored_with (map f all_reasons) event at
by_event f at (events.Announce key ann) = refl
by_event f at (events.Retract key) = refl
by_event f at events.RetractAll = refl
by_event f at events.Nothing = refl
by_event f at (events.Ignored reason) = set_one f at reason

abbrev counts : ℕ → ℕ → Bool → List Count → Counts
counts tlvs updates ignores_4 ignored = record { tlvs = tlvs; updates = updates; ignores_4 = ignores_4; ignored = ignored }

abbrev is_4 : Saying → Bool
is_4 saying = is_unread_4 saying.kind saying.body saying.what

any-push : (said : List Saying) (s : Saying) → list_any is_4 (said ++ s ∷ []) ≡ (list_any is_4 said || is_4 s)
any-push said s = list_any-append is_4 said (s ∷ []) ∙ ap (λ (b : Bool). list_any is_4 said || b) (or-false (is_4 s))

pub counts-push : (said : List Saying) (tlv : TlvAt) (event : Event) → counts_of (said ++ event_at tlv event ∷ []) ≡ counted_with (counts_of said) tlv event
counts-push said tlv event =
    let one : Saying = event_at tlv event in
    let all : List Saying = said ++ one ∷ [] in
    let more : length all ≡ length said + 1 = length-append said (one ∷ []) in
    let updates : count_by is_update all ≡ count_by is_update said + cond (is_update one) 1 0 = count-push is_update said one in
    let each : map (ignored_in all) all_reasons ≡ ignored_with (map (ignored_in said) all_reasons) event tlv.at =
    map-same (ignored_in all) (λ r. bumped (is_ignored_for r (Ok event)) tlv.at (ignored_in said r)) (λ r. counted-push (λ s. s.at) one_more (λ at. refl) (λ at n here. refl) (λ s. is_ignored_for r s.what) said one) all_reasons
    ∙ by_event (ignored_in said) tlv.at event in
    ap (λ (n : ℕ). counts n (count_by is_update all) (list_any is_4 all) (map (ignored_in all) all_reasons)) more
    ∙ ap (λ (n : ℕ). counts (length said + 1) n (list_any is_4 all) (map (ignored_in all) all_reasons)) updates
    ∙ ap (λ (b : Bool). counts (length said + 1) (count_by is_update said + cond (is_update one) 1 0) b (map (ignored_in all) all_reasons)) (any-push said one)
    ∙ ap (λ (t : List Count). counts (length said + 1) (count_by is_update said + cond (is_update one) 1 0) (list_any is_4 said || is_4 one) t) each
