-- Which senders are followed: record by record.
use Rattle.std.proofs.Common.{◌≡◌, ◌≤◌, ◌+◌, ℕ, Bool, true, false, cond, List, [], ◌∷◌, ◌++◌, Option, None, Some, length, refl, sym, ap, subst, ◌∙◌, arith}
use Rattle.std.specs.Prelude.{◌||◌, ◌&&◌, nat_lt, fold, if◌then◌else◌}
use Rattle.std.specs.declared.cmp.Ordering.{Ordering}
use Rattle.std.specs.BTreeMap.{insert_entry, is_at}
use Rattle.std.specs.Cmp.{IsTotalOrder}
use Rattle.std.specs.List.{filter}
use Rattle.std.specs.List.Sorted.{IsStrictlySortedBy}
use Rattle.std.specs.Map.{keys_of, lookup, set_value}
use Rattle.std.specs.Option.{is_some, unwrap_or}
use Rattle.std.proofs.lemmas.Bool.{lt-ltb, ltb-true}
use Rattle.std.proofs.lemmas.List.Sums.{fold-append}
use Rattle.std.proofs.lemmas.Map.{length-set_value}
use Rattle.babel_prefix.proofs.Insertion.{lookup-insert, sorted-insert}
use Rattle.babel_capture.specs.declared.sink.Record.{Record}
use Rattle.babel_capture.specs.declared.sink.Said.TheVariants as saids
use Rattle.babel_capture.specs.declared.tallies.Origin.{Origin}
use Rattle.babel_capture.specs.Counts.{Made}
use Rattle.babel_capture.specs.Findings.{octets_found, passed}
use Rattle.babel_capture.specs.Sinking.{IsTold}
use Rattle.babel_capture.specs.Tallies.{origin_cmp}
use Rattle.babel_capture.specs.contracts.tallies.OriginOrd.TheImpl.{ghosts}
use Rattle.babel_capture.proofs.Entries.{insert-longer, insert-new, set_value-insert}
use Rattle.babel_capture.proofs.TallyLaws.{origin_order, origin_total}
use Rattle.babel_dump.specs.EventsRun.{since_in}
use Rattle.babel_dump.specs.Followed.{HasHeard, HasHeardFollowed, HearsOthers, HearsTold, KnowsOthers}
use Rattle.babel_dump.specs.FollowedSenders.{FewAreFollowed, Senders, WhoAnnouncesIsFollowed, followed, followed_after, followed_of, follows, follows_any, has_room, has_update, is_followed, sender_of, senders_announcing, senders_followed, with_followed, with_sender}
use Rattle.babel_dump.specs.declared.events_job.Events.{Events}
use Rattle.babel_dump.specs.declared.follower.Follower.{Follower}
use Rattle.babel_dump.specs.declared.hearing.Hearing.{Hearing}
use Rattle.babel_dump.specs.declared.speaker.Speaker.{Speaker}
use Rattle.babel_timeline.specs.declared.telling.Telling.{Telling}

-- ---- as the code has them

pub put_so : (senders after : Senders) (origin : Origin) (is : Bool) → after ≡ insert_entry ghosts.cmp senders origin is → after ≡ insert_entry origin_cmp senders origin is
put_so senders after origin is put = put ∙ ap (λ (k : Origin → Origin → Ordering). insert_entry k senders origin is) origin_order

module _ (senders : Senders) (origin : Origin) (known : Option Bool) (is : lookup (is_at (ghosts.cmp origin)) senders ≡ known) where
  there : lookup (is_at (origin_cmp origin)) senders ≡ known
  there = subst (λ (k : Origin → Origin → Ordering). lookup (is_at (k origin)) senders ≡ known) origin_order is

  pub had_so : unwrap_or known false ≡ unwrap_or (lookup (is_at (origin_cmp origin)) senders) false
  had_so = ap (λ (k : Option Bool). unwrap_or k false) (sym there)

  pub follows_so : (octets : List ℕ) (room : Bool) → room ≡ has_room senders octets → is_some known || room ≡ follows senders origin octets
  follows_so octets room is_room = ap (λ (b : Bool). is_some known || b) is_room ∙ ap (λ (k : Option Bool). is_some k || has_room senders octets) (sym there)

-- a sender that is followed is noted in its place
pub met_again : (senders after : Senders) (origin : Origin) (octets : List ℕ) (is_packet had noted_as : Bool) → noted_as ≡ is_packet || had
    → lookup (is_at (ghosts.cmp origin)) senders ≡ Some had → IsStrictlySortedBy ghosts.cmp (keys_of senders) → after ≡ set_value (is_at (ghosts.cmp origin)) senders noted_as
    → (true ≡ follows senders origin octets) × (after ≡ with_sender senders (Some (origin, is_packet)))
met_again senders after origin octets is_packet had noted_as is there sorted written = (
  follows_so senders origin (Some had) there octets _ refl,
  put_so senders after origin _ (written ∙ set_value-insert (subst IsTotalOrder (sym origin_order) origin_total) origin noted_as had senders sorted there)
      ∙ ap (insert_entry origin_cmp senders origin) (is ∙ ap (λ (b : Bool). is_packet || b) (had_so senders origin (Some had) there)),
)

-- ---- one record more

abbrev after : Senders → List Made → Senders
after senders made = fold (λ (s : Senders) (one : Made). with_followed s one.what) senders made

after-push : (senders : Senders) (made : List Made) (one : Made) → followed_after senders (made ++ one ∷ []) ≡ followed_after senders made ++ followed_of (after senders made) one ∷ []
after-push senders [] one = refl
after-push senders (first ∷ made) one =
    ap (λ (l : List Made). followed_of senders first ∷ l) (after-push (with_followed senders first.what) made one)

pub followed-push : (made : List Made) (one : Made) → followed (made ++ one ∷ []) ≡ followed made ++ followed_of (senders_followed made) one ∷ []
followed-push made one = after-push [] made one

pub senders-push : (made : List Made) (one : Made) → senders_followed (made ++ one ∷ []) ≡ with_followed (senders_followed made) one.what
senders-push made one = fold-append (λ (s : Senders) (m : Made). with_followed s m.what) [] made (one ∷ [])

-- ---- of nobody

-- of a record of nobody no more is told than that it came
pub told_nothing : (told : Record) (one : Made) → IsTold one told → IsTold (record one { what = passed }) (record told { said = saids.Nothing })
told_nothing told one is = record { number = is.number; time = is.time; packet = (refl, refl); missed = refl; left = refl }

-- ---- where few are met, all are followed

room : (senders : Senders) (sender : Option (Origin × Bool)) (octets : List ℕ) → length (with_sender senders sender) ≤ 65536 → follows_any senders sender octets ≡ true
room senders None octets few = refl
room senders (Some sender) octets few = by (lookup (is_at (origin_cmp sender.0)) senders) refl
  where
    by : (known : Option Bool) → lookup (is_at (origin_cmp sender.0)) senders ≡ known → is_some known || has_room senders octets ≡ true
    by (Some had) is = refl
    by None is =
        let longer = insert-new origin_cmp sender.0 (sender.1 || unwrap_or (lookup (is_at (origin_cmp sender.0)) senders) false) senders is in
        ap (λ (b : Bool). b || (has_update octets && nat_lt (length senders) 131072)) (lt-ltb (length senders) 65536 (omega (arith, longer, few)))

abbrev met : Senders → List Made → Senders
met senders made = fold (λ (s : Senders) (one : Made). with_sender s (sender_of one.what)) senders made

with-longer : (senders : Senders) (sender : Option (Origin × Bool)) → length senders ≤ length (with_sender senders sender)
with-longer senders None = omega arith
with-longer senders (Some sender) = insert-longer origin_cmp sender.0 (sender.1 || unwrap_or (lookup (is_at (origin_cmp sender.0)) senders) false) senders

met-longer : (senders : Senders) (made : List Made) → length senders ≤ length (met senders made)
met-longer senders [] = omega arith
met-longer senders (one ∷ made) =
    let here = with-longer senders (sender_of one.what) in
    let later = met-longer (with_sender senders (sender_of one.what)) made in
    omega (arith, here, later)

few_from : (senders : Senders) (made : List Made) → length (met senders made) ≤ 65536 → followed_after senders made ≡ made
few_from senders [] few = refl
few_from senders (one ∷ made) few =
    let sender = sender_of one.what in
    let next = with_sender senders sender in
    let longer = met-longer next made in
    let follows : is_followed senders one.what ≡ true = room senders sender (octets_found one.what) (omega (arith, longer, few)) in
    let here : followed_of senders one ≡ one = ap (λ (b : Bool). if b then one else record one { what = passed }) follows in
    let with : with_followed senders one.what ≡ next = ap (λ (b : Bool). if b then next else senders) follows in
    ap (λ (o : Made). o ∷ followed_after (with_followed senders one.what) made) here
    ∙ ap (λ (s : Senders). one ∷ followed_after s made) with
    ∙ ap (λ (l : List Made). one ∷ l) (few_from next made few)

pub few_are_followed : FewAreFollowed
few_are_followed made few = few_from [] made few

-- ---- who announces is followed

abbrev is_known : Senders → Origin → Bool
is_known senders origin = is_some (lookup (is_at (origin_cmp origin)) senders)

-- of those who are followed, and those who announce
record Keeps (senders announcing : Senders) : Type 0 where
  sorted : IsStrictlySortedBy origin_cmp (keys_of senders)
  few : length senders ≤ 65536 + length announcing
  each : (origin : Origin) → is_known announcing origin ≡ true → is_known senders origin ≡ true

module _ (senders announcing : Senders) (keeps : Keeps senders announcing) (origin : Origin) (v w : Bool) where
  abbrev put : Senders
  put = insert_entry origin_cmp senders origin v

  put_sorted : IsStrictlySortedBy origin_cmp (keys_of put)
  put_sorted = sorted-insert origin_total origin v senders keeps.sorted

  put_each : (other : Origin) → is_known announcing other ≡ true → is_known put other ≡ true
  put_each other is = rw (lookup-insert origin_total other origin v senders) (by (is_at (origin_cmp origin) other))
    where
      by : (b : Bool) → is_some (cond b (Some v) (lookup (is_at (origin_cmp other)) senders)) ≡ true
      by true = refl
      by false = keeps.each other is

  put_both : (other : Origin) → is_known (insert_entry origin_cmp announcing origin w) other ≡ true → is_known put other ≡ true
  put_both other is = rw (lookup-insert origin_total other origin v senders) (by (is_at (origin_cmp origin) other) (rw (sym (lookup-insert origin_total other origin w announcing)) is))
    where
      by : (b : Bool) → is_some (cond b (Some w) (lookup (is_at (origin_cmp other)) announcing)) ≡ true → is_some (cond b (Some v) (lookup (is_at (origin_cmp other)) senders)) ≡ true
      by true found = refl
      by false found = keeps.each other found

  longer : (known : Option Bool) → lookup (is_at (origin_cmp origin)) senders ≡ known → length put ≤ length senders + (if is_some known then 0 else 1)
  longer None is = (let new = insert-new origin_cmp origin v senders is in omega (arith, new))
  longer (Some had) is =
      let same : length put ≡ length senders =
      ap length (sym (set_value-insert origin_total origin v had senders keeps.sorted is)) ∙ length-set_value (is_at (origin_cmp origin)) senders v in
      omega (arith, same)

none_of : (known : Option Bool) → (is_some known ≡ true → ⊥) → known ≡ None
none_of None unknown = refl
none_of (Some had) unknown = absurd (unknown refl)

or_true : (b c : Bool) → c ≡ true → b || c ≡ true
or_true true c is = refl
or_true false c is = is

module _ (senders announcing : Senders) (keeps : Keeps senders announcing) (sender : Origin × Bool) (octets : List ℕ) where
  abbrev had : Senders → Bool
  had of = sender.1 || unwrap_or (lookup (is_at (origin_cmp sender.0)) of) false

  abbrev next : Senders → Senders
  next of = with_sender of (Some sender)

  kept_both : length (next senders) ≤ 65536 + length (next announcing) → Keeps (next senders) (next announcing)
  kept_both few = record {
    sorted = put_sorted senders announcing keeps sender.0 (had senders) (had announcing);
    few = few;
    each = put_both senders announcing keeps sender.0 (had senders) (had announcing);
  }

  kept_one : length (next senders) ≤ 65536 + length announcing → Keeps (next senders) announcing
  kept_one few = record {
    sorted = put_sorted senders announcing keeps sender.0 (had senders) (had announcing);
    few = few;
    each = put_each senders announcing keeps sender.0 (had senders) (had announcing);
  }

  kept : (known : Option Bool) → lookup (is_at (origin_cmp sender.0)) senders ≡ known → (updates : Bool) → length (if updates then next announcing else announcing) ≤ 65536
      → Keeps (if is_some known || (nat_lt (length senders) 65536 || (updates && nat_lt (length senders) 131072)) then next senders else senders) (if updates then next announcing else announcing)
  kept (Some is_had) is true few =
      let put = longer senders announcing keeps sender.0 (had senders) (had announcing) (Some is_had) is in
      let more = insert-longer origin_cmp sender.0 (had announcing) announcing in
      let before = keeps.few in
      kept_both (omega (arith, put, more, before))
  kept (Some is_had) is false few =
      let put = longer senders announcing keeps sender.0 (had senders) (had announcing) (Some is_had) is in
      let before = keeps.few in
      kept_one (omega (arith, put, before))
  kept None is true few =
      let none : lookup (is_at (origin_cmp sender.0)) announcing ≡ None =
      none_of (lookup (is_at (origin_cmp sender.0)) announcing) (λ there. let wrong = keeps.each sender.0 there in cc) in
      let more = insert-new origin_cmp sender.0 (had announcing) announcing none in
      let put = longer senders announcing keeps sender.0 (had senders) (had announcing) None is in
      let before = keeps.few in
      let within : length (next announcing) ≤ 65536 = few in
      let room : nat_lt (length senders) 65536 || nat_lt (length senders) 131072 ≡ true =
      or_true (nat_lt (length senders) 65536) (nat_lt (length senders) 131072) (lt-ltb (length senders) 131072 (omega (arith, more, within, before))) in
      subst (λ (b : Bool). Keeps (if b then next senders else senders) (next announcing)) (sym room) (kept_both (omega (arith, put, more, before)))
  kept None is false few = by (nat_lt (length senders) 65536) refl
    where
      by : (room : Bool) → nat_lt (length senders) 65536 ≡ room → Keeps (if room || false then next senders else senders) announcing
      by false none = keeps
      by true some =
          let put = longer senders announcing keeps sender.0 (had senders) (had announcing) None is in
          let room = ltb-true (length senders) 65536 some in
          kept_one (omega (arith, put, room))

none_kept : Keeps [] []
unfolding IsStrictlySortedBy
none_kept = record { sorted = tt; few = omega arith; each = λ origin is. absurd cc }

kept_next : (senders announcing : Senders) (sender : Option (Origin × Bool)) (octets : List ℕ) → Keeps senders announcing
    → length (if has_update octets then with_sender announcing sender else announcing) ≤ 65536
    → Keeps (if follows_any senders sender octets then with_sender senders sender else senders) (if has_update octets then with_sender announcing sender else announcing)
kept_next senders announcing None octets keeps few = by (has_update octets)
  where
    by : (updates : Bool) → Keeps senders (if updates then announcing else announcing)
    by true = keeps
    by false = keeps
kept_next senders announcing (Some sender) octets keeps few =
    kept senders announcing keeps sender octets (lookup (is_at (origin_cmp sender.0)) senders) refl (has_update octets) few

abbrev updating : List Made → List Made
updating made = filter (λ (one : Made). has_update (octets_found one.what)) made

abbrev with_update : Senders → Made → Senders
with_update announcing one = if has_update (octets_found one.what) then with_sender announcing (sender_of one.what) else announcing

met-next : (announcing : Senders) (one : Made) (made : List Made) → met announcing (updating (one ∷ made)) ≡ met (with_update announcing one) (updating made)
met-next announcing one made = by (has_update (octets_found one.what))
  where
    by : (updates : Bool) → met announcing (cond updates (one ∷ updating made) (updating made)) ≡ met (if updates then with_sender announcing (sender_of one.what) else announcing) (updating made)
    by true = refl
    by false = refl

kept_from : (senders announcing : Senders) (made : List Made) → Keeps senders announcing → length (met announcing (updating made)) ≤ 65536
    → Keeps (after senders made) (met announcing (updating made))
kept_from senders announcing [] keeps few = keeps
kept_from senders announcing (one ∷ made) keeps few =
    let next = met-next announcing one made in
    let still : length (met (with_update announcing one) (updating made)) ≤ 65536 = subst (λ (s : Senders). length s ≤ 65536) next few in
    let grows = met-longer (with_update announcing one) (updating made) in
    let here = kept_next senders announcing (sender_of one.what) (octets_found one.what) keeps (omega (arith, grows, still)) in
    subst (Keeps (after (with_followed senders one.what) made)) (sym next) (kept_from (with_followed senders one.what) (with_update announcing one) made here still)

pub who_announces_is_followed : WhoAnnouncesIsFollowed
who_announces_is_followed made one sender few is announced = by (is_followed senders one.what) refl there
  where
    senders : Senders
    senders = senders_followed made

    keeps : Keeps (senders_followed (made ++ one ∷ [])) (senders_announcing (made ++ one ∷ []))
    keeps = kept_from [] [] (made ++ one ∷ []) none_kept few

    there : is_known (with_followed senders one.what) sender.0 ≡ true
    there = subst (λ (s : Senders). is_known s sender.0 ≡ true) (senders-push made one) (keeps.each sender.0 announced)

    by : (follows : Bool) → is_followed senders one.what ≡ follows → is_known (if follows then with_sender senders (sender_of one.what) else senders) sender.0 ≡ true → is_followed senders one.what ≡ true
    by true follows known = follows
    by false follows known =
        ap (λ (s : Option (Origin × Bool)). follows_any senders s (octets_found one.what)) is ∙ ap (λ (b : Bool). b || has_room senders (octets_found one.what)) known

-- ---- a record more

-- the records of followed senders were heard before, and this one as it is taken
pub heard_followed : (events : Events) (told front : Record) (made : List Made) (one : Made) (before : List (Telling Speaker)) (old mid new : Follower)
    → (follows : Bool) → follows ≡ is_followed (senders_followed made) one.what
    → IsTold (if follows then one else record one { what = passed }) front
    → mid.senders.senders.entries ≡ with_followed (senders_followed made) one.what → new.senders ≡ mid.senders
    → mid.hearing ≡ old.hearing → mid.told ≡ old.told → HearsTold events front mid new
    → HasHeard events (followed made) (before ++ old.told.items) old.hearing → mid.other_sources ≡ old.other_sources → HearsOthers events front new.hearing.since.moment mid.other_sources new.other_sources
    → KnowsOthers events (followed made) old.other_sources → HasHeardFollowed events (made ++ one ∷ []) before new
heard_followed events told front made one before old mid new follows is is_told senders same hearing same_told hears was same_others hears_others others =
    let taken = followed_of (senders_followed made) one in
    let here : IsTold taken front = subst (λ (b : Bool). IsTold (if b then one else record one { what = passed }) front) is is_told in
    let still : HasHeard events (followed made) (before ++ mid.told.items) mid.hearing =
    subst (λ (h : Hearing). HasHeard events (followed made) (before ++ mid.told.items) h) (sym hearing)
    (subst (λ t. HasHeard events (followed made) (before ++ t.items) old.hearing) (sym same_told) was) in
    let heard = hears (followed made) taken before here still in (
      ap (λ s. s.senders.entries) same ∙ senders ∙ sym (senders-push made one),
      subst (λ (m : List Made). HasHeard events m (before ++ new.told.items) new.hearing) (sym (followed-push made one)) heard,
      subst (λ (m : List Made). KnowsOthers events m new.other_sources) (sym (followed-push made one))
          (hears_others (followed made) taken here (heard.awaits.moment ∙ ap (since_in events.since) heard.are_made) (subst (KnowsOthers events (followed made)) (sym same_others) others)),
    )
