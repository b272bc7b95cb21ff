-- A sender's answer is what it announces for its best match.
use Rattle.std.proofs.Common.{◌≡◌, ℕ, ◌-◌, ◌*◌, ◌/◌, ◌^◌, Bool, true, false, cond, List, [], ◌∷◌, map, Option, Some, None, refl, sym, ap, subst, ◌∙◌, arith, eqb-true, eq-eqb}
use Rattle.std.specs.Prelude.{IsSome, ◌==◌}
use Rattle.std.specs.List.{AllByRecursion, filter}
use Rattle.std.specs.Option.{option_and_then, option_map}
use Rattle.std.specs.declared.cmp.Ordering.{Ordering}
use Rattle.std.specs.declared.cmp.Ordering.TheVariants.{Less, Equal, Greater}
use Rattle.std.specs.Ordering.{is_gt, is_le}
use Rattle.std.specs.Cmp.{IsTotalOrder}
use Rattle.std.specs.BTreeMap.{is_at}
use Rattle.std.proofs.Math.Nat.{div-one}
use Rattle.std.proofs.lemmas.Bool.{and_from, and_parts, false≢true}
use Rattle.std.proofs.lemmas.Map.Lookups.{CmpEqualImpliesEq}
use Rattle.babel_prefix.specs.declared.family.Family.{Family}
use Rattle.babel_prefix.specs.Address.{Address, AddressPrefix, prefix_at, prefix_of}
use Rattle.babel_prefix.specs.Block.{Block, leading_bits}
use Rattle.babel_prefix.specs.Covers.{Covers}
use Rattle.babel_prefix.specs.Width.{same_family, width_of}
use Rattle.babel_prefix.proofs.EntryLaws.{same_family-is, same_family-refl}
use Rattle.babel_tlv.specs.declared.event.Event.{Event}
use Rattle.babel_tlv.specs.declared.event.Event.TheVariants as events
use Rattle.babel_tlv.specs.declared.held.Held.{Held}
use Rattle.babel_tlv.specs.declared.held.Held.TheVariants as helds
use Rattle.babel_tlv.specs.declared.mode.Mode.{Mode}
use Rattle.babel_tlv.specs.declared.mode.Mode.TheVariants as modes
use Rattle.babel_tlv.specs.declared.view.View.{View}
use Rattle.babel_tlv.specs.Keys.{IsKey, key_cmp}
use Rattle.babel_tlv.specs.Route.{Announcement, RouteKey}
use Rattle.babel_tlv.specs.Views.{seen_announcement}
use Rattle.babel_table.specs.BestMatch.{ContainsBoth}
use Rattle.babel_table.specs.Holds.{same_key}
use Rattle.babel_table.specs.Moments.{Told, Stamp, Word, last_word, left_at, word, word_after}
use Rattle.babel_table.proofs.EntryLaws.{key_of}
use Rattle.babel_table.proofs.HoldsLaws.{same_key-decides}
use Rattle.babel_table.proofs.MomentLaws.{words_from}
use Rattle.babel_table.proofs.NestedLaws.{both_up_to, earlier_not_better, host_of}
use Rattle.babel_timeline.specs.declared.best_match.BestMatch.{BestMatch}
use Rattle.babel_timeline.specs.declared.change.Change.{Change}
use Rattle.babel_timeline.specs.declared.row.Row.{Row}
use Rattle.babel_timeline.specs.declared.subject.Subject.{Subject}
use Rattle.babel_timeline.specs.Accounts.{IsAccount, IsHeldAt, IsLeft, Said, said, said_by, word_on}
use Rattle.babel_timeline.specs.BestAnswers.{AnswersAreBest, IsBest, IsOfTlv, RowsAnswerBest, RowsHave, SaysAt, seen_said}
use Rattle.babel_timeline.specs.Rows.{Rows, row_at, subject_of}
use Rattle.babel_timeline.specs.Telling.{AskedFor, counts, covers, key_alone, seen_event}
use Rattle.babel_timeline.proofs.AccountLaws.{say_held}
use Rattle.babel_timeline.proofs.ToldKeys.{AnnouncesFor, AreCut, cut_key, tells_cut}
use Rattle.babel_timeline.proofs.WordLaws.{next, none_left}

-- ---- keys that count

le_of : (o : Ordering) → is_gt o ≡ false → is_le o ≡ true
le_of Less e = refl
le_of Equal e = refl
le_of Greater e = absurd cc

not_gt : (o : Ordering) → is_le o ≡ true → is_gt o ≡ false
not_gt Less e = refl
not_gt Equal e = refl
not_gt Greater e = absurd cc

has_of : (p : AddressPrefix) (a : Address) → covers p a ≡ true → Covers p a
has_of p a e =
    let w = width_of p.address.family in
    let both = and_parts (same_family p.address.family a.family) (leading_bits w p.len a.bits == leading_bits w p.len p.address.bits) e in
    (same_family-is p.address.family a.family both.0, eqb-true (leading_bits w p.len a.bits) (leading_bits w p.len p.address.bits) both.1)

of_has : (p : AddressPrefix) (a : Address) → Covers p a → covers p a ≡ true
of_has p a has =
    let w = width_of p.address.family in
    and_from (same_family p.address.family a.family) (leading_bits w p.len a.bits == leading_bits w p.len p.address.bits)
    (ap (λ (f : Family). same_family p.address.family f) (sym has.0) ∙ same_family-refl p.address.family)
    (eq-eqb (leading_bits w p.len a.bits) (leading_bits w p.len p.address.bits) has.1)

module _ (pair : Address × Address) where
  both_of : (key : RouteKey) → counts (Some pair) key ≡ true → ContainsBoth pair.0 pair.1 key
  both_of key e =
      let parts = and_parts (covers key.dst pair.0) (covers key.src pair.1) e in
      (has_of key.dst pair.0 parts.0, has_of key.src pair.1 parts.1)

  of_both : (key : RouteKey) → ContainsBoth pair.0 pair.1 key → counts (Some pair) key ≡ true
  of_both key both = and_from (covers key.dst pair.0) (covers key.src pair.1) (of_has key.dst pair.0 both.0) (of_has key.src pair.1 both.1)

-- all bits of a number are the number
all_bits : (w n : ℕ) → n / 2 ^ (w - w) * 2 ^ (w - w) ≡ n
all_bits w n =
    let none : 0 ≡ w - w = omega arith in
    let whole : n / 2 ^ 0 ≡ n = div-one n in
    subst (λ (k : ℕ). n / 2 ^ k * 2 ^ k ≡ n) none (omega (arith, whole))

alone_is : (a : Address) → prefix_at (width_of a.family) a ≡ host_of a
alone_is a =
    let of_start : ℕ → AddressPrefix = λ n. let b : Block = record { start = n; len = width_of a.family } in prefix_of a.family b in
    ap of_start (all_bits (width_of a.family) a.bits)

key_alone_is : (pair : Address × Address) → key_alone pair ≡ key_of (host_of pair.0) (host_of pair.1)
key_alone_is pair =
    ap (λ (p : AddressPrefix). key_of p (prefix_at (width_of pair.1.family) pair.1)) (alone_is pair.0)
    ∙ ap (λ (p : AddressPrefix). key_of (host_of pair.0) p) (alone_is pair.1)

near_alone : (pair : Address × Address) (key : RouteKey) → IsKey key → ContainsBoth pair.0 pair.1 key → is_gt (key_cmp key (key_alone pair)) ≡ false
near_alone pair key is both =
    subst (λ (most : RouteKey). is_gt (key_cmp key most) ≡ false) (sym (key_alone_is pair))
    (not_gt (key_cmp key (key_of (host_of pair.0) (host_of pair.1))) (both_up_to key pair.0 pair.1 is both))

-- ---- the best match among rows

some_row : (row : Option Row) (held : Held) → option_map (λ (r : Row). helds.Route r.ann) row ≡ Some held → IsSome row
some_row None held e = absurd cc
some_row (Some row) held e = refl

is_some : (row : Option Row) (is : Row) → row ≡ Some is → IsSome row
is_some None is e = absurd cc
is_some (Some row) is e = refl

no_some : {X : Type 0} (x : Option X) → x ≡ None → ¬ IsSome x
no_some None e = λ bad. absurd cc
no_some (Some x) e = absurd cc

module _ {S : Type 0} (cmp : S → S → Ordering) where
  pub best_row : RowsAnswerBest cmp
  best_row pair rows sender None each none = λ key held has both.
      let some = some_row (row_at cmp rows (subject_of sender key)) held has in
      let near = near_alone pair key (each (subject_of sender key) some).0 both in
      no_some (row_at cmp rows (subject_of sender key)) (none key near) some
  best_row pair rows sender (Some best) each (row, last, same) =
      let at : RouteKey → Option Row = λ key. row_at cmp rows (subject_of sender key) in
      let is = each (subject_of sender best.key) (is_some (at best.key) row last.held) in
      let both = both_of pair best.key is.1 in (
        ap (option_map (λ (r : Row). helds.Route r.ann)) last.held ∙ ap (λ (a : Announcement). Some (helds.Route a)) same,
        both,
        λ other its has in_other better.
            let some = some_row (at other) its has in
            let other_is = (each (subject_of sender other) some).0 in
            earlier_not_better other best.key pair.0 pair.1 other_is is.0 in_other both (le_of (key_cmp other best.key) (last.last other (near_alone pair other other_is in_other) some)) better,
      )

-- ---- the rows of an account are of keys that count

module _ (Is : RouteKey → Type 0) (key : RouteKey) where
  -- there is no word on a key but where it was announced
  next_is : (when : Stamp) (event : Event) (old : Option Word) → AnnouncesFor Is event → (IsSome old → Is key) → IsSome (next key when event old) → Is key
  next_is when (events.Announce other ann) old here was = by (same_key other key) refl
    where
      by : (same : Bool) → same_key other key ≡ same → IsSome (cond same (Some (word when (helds.Route ann))) old) → Is key
      by true e some = subst Is ((same_key-decides other key).0 e) here
      by false e some = was some
  next_is when (events.Retract other) old here was = by (same_key other key)
    where
      by : (same : Bool) → IsSome (cond same None old) → Is key
      by true some = absurd cc
      by false some = was some
  next_is when events.RetractAll old here was = λ some. absurd (no_some (next key when events.RetractAll old) (none_left key when old) some)
  next_is when events.Nothing old here was = was
  next_is when (events.Ignored reason) old here was = was

  words_are : (told : List Told) (old : Option Word) → AllByRecursion (λ one. AnnouncesFor Is one.event) told → (IsSome old → Is key) → IsSome (words_from modes.Plain 0 key old told) → Is key
  words_are [] old each was = was
  words_are (one ∷ told) old each was = words_are told (next key one.when one.event old) each.1 (next_is one.when one.event old each.0 was)

left_some : (factor : Option ℕ) (moment : ℕ) (row : Option Row) (word : Option Word) → IsLeft factor moment row word → IsSome row → IsSome word
left_some factor moment None word left = λ some. absurd cc
left_some factor moment (Some row) word left = λ some. subst (λ (w : Option Word). IsSome w) left refl

module _ {S : Type 0} (cmp : S → S → Ordering) where
  all_by : (Has : Told → Type 0) (sender : S) (all : List (Said S)) → AllByRecursion (λ one. Has one.told) all → AllByRecursion Has (said_by cmp sender all)
  all_by Has sender [] each = tt
  all_by Has sender (one ∷ all) each = by (is_at (cmp sender) one.sender) (all_by Has sender all each.1)
    where
      mine : List (Said S)
      mine = filter (λ (o : Said S). is_at (cmp sender) o.sender) all

      by : (own : Bool) → AllByRecursion Has (map (λ (o : Said S). o.told) mine) → AllByRecursion Has (map (λ (o : Said S). o.told) (cond own (one ∷ mine) mine))
      by true later = (each.0, later)
      by false later = later

  rows_are : (Is : RouteKey → Type 0) (factor : Option ℕ) (all : List (Said S)) (moment : ℕ) (changes : List (Change S)) (rows : Rows S) → AllByRecursion (λ one. AnnouncesFor Is one.told.event) all
      → IsAccount cmp factor None all moment changes rows → (subject : Subject S) → IsSome (row_at cmp rows subject) → Is subject.key
  rows_are Is factor all moment changes rows each account subject some =
      words_are Is subject.key (said_by cmp subject.sender all) None (all_by (λ (one : Told). AnnouncesFor Is one.event) subject.sender all each) (λ bad. absurd cc)
      (left_some factor moment (row_at cmp rows subject) (word_on cmp all subject) (account.left subject (λ gone. gone)) some)

module _ (pair : Address × Address) (view : View) where
  abbrev CutCounts : RouteKey → Type 0
  CutCounts key = AreCut key × (counts (Some pair) key ≡ true)

  seen_counts : (event : Event) → AnnouncesFor AreCut event → AnnouncesFor CutCounts (seen_event (Some pair) view event)
  seen_counts (events.Announce key ann) cut = by (counts (Some pair) key) refl
    where
      by : (counted : Bool) → counts (Some pair) key ≡ counted
          → AnnouncesFor CutCounts (cond counted (events.Announce key (seen_announcement view key.dst.address.family ann)) events.Nothing)
      by true e = (cut, e)
      by false e = tt
  seen_counts (events.Retract key) cut = tt
  seen_counts events.RetractAll cut = tt
  seen_counts events.Nothing cut = tt
  seen_counts (events.Ignored reason) cut = tt

  all_count : {S : Type 0} (all : List (Said S)) → AllByRecursion (λ one. IsOfTlv one.told) all → AllByRecursion (λ one. AnnouncesFor CutCounts one.told.event) (seen_said (Some pair) view all)
  all_count [] each = tt
  all_count (one ∷ all) each =
      let (time, context, tlv, is) = each.0 in
      let cut : AnnouncesFor AreCut one.told.event = subst (λ (t : Told). AnnouncesFor AreCut t.event) (sym is) (tells_cut context tlv) in
      (seen_counts one.told.event cut, all_count all each.1)

  -- ---- the word on a key that counts is the one on it among all

  module _ (key : RouteKey) (is : counts (Some pair) key ≡ true) (mode : Mode) (factor : ℕ) where
    same_next : (when : Stamp) (event : Event) (old : Option Word)
        → word_after mode factor key when (seen_event None view event) old ≡ word_after mode factor key when (seen_event (Some pair) view event) old
    same_next when (events.Announce other ann) old = by (counts (Some pair) other) refl
      where
        seen : Announcement
        seen = seen_announcement view other.dst.address.family ann

        miss : (same : Bool) → same_key other key ≡ same → counts (Some pair) other ≡ false → cond same (Some (word when (helds.Route seen))) old ≡ old
        miss true at e = absurd (false≢true (sym e ∙ ap (λ (k : RouteKey). counts (Some pair) k) ((same_key-decides other key).0 at) ∙ is))
        miss false at e = refl

        by : (counted : Bool) → counts (Some pair) other ≡ counted
            → cond (same_key other key) (Some (word when (helds.Route seen))) old ≡ word_after mode factor key when (cond counted (events.Announce other seen) events.Nothing) old
        by true e = refl
        by false e = miss (same_key other key) refl e
    same_next when (events.Retract other) old = refl
    same_next when events.RetractAll old = refl
    same_next when events.Nothing old = refl
    same_next when (events.Ignored reason) old = refl

    module _ {S : Type 0} (cmp : S → S → Ordering) (sender : S) where
      abbrev own_words : AskedFor → List (Said S) → Option Word → Option Word
      own_words asked all old = words_from mode factor key old (said_by cmp sender (seen_said asked view all))

      abbrev mine : AskedFor → List (Said S) → List (Said S)
      mine asked all = filter (λ (o : Said S). is_at (cmp sender) o.sender) (seen_said asked view all)

      abbrev words_with : AskedFor → Said S → List (Said S) → Option Word → Bool → Option Word
      words_with asked one all old own =
          let here : Said S = said one.sender one.told.when (seen_event asked view one.told.event) in
          words_from mode factor key old (map (λ (o : Said S). o.told) (cond own (here ∷ mine asked all) (mine asked all)))

      same_with : (one : Said S) (all : List (Said S)) (old : Option Word) (own : Bool) → ((before : Option Word) → own_words None all before ≡ own_words (Some pair) all before)
          → words_with None one all old own ≡ words_with (Some pair) one all old own
      same_with one all old true again =
          again (word_after mode factor key one.told.when (seen_event None view one.told.event) old)
          ∙ ap (λ (w : Option Word). own_words (Some pair) all w) (same_next one.told.when one.told.event old)
      same_with one all old false again = again old

      same_words : (all : List (Said S)) (old : Option Word) → own_words None all old ≡ own_words (Some pair) all old
      same_words [] old = refl
      same_words (one ∷ all) old = same_with one all old (is_at (cmp sender) one.sender) (same_words all)

-- ---- the best match among all that is said

same_held : (factor : Option ℕ) (moment : ℕ) (told other : List Told) (key : RouteKey) (ann : Announcement)
    → ((mode : Mode) (times : ℕ) → last_word mode times told key ≡ last_word mode times other key) → IsHeldAt factor moment other key ann → IsHeldAt factor moment told key ann
same_held None moment told other key ann same held = ap (option_map (λ (w : Word). w.held)) (same modes.Plain 0) ∙ held
same_held (Some factor) moment told other key ann same held = ap (option_and_then (left_at modes.Plain factor moment)) (same modes.Plain factor) ∙ held

best_by : (Has Other : RouteKey → Held → Type 0) (pair : Address × Address) (answer : Option BestMatch) → ((key : RouteKey) (held : Held) → ContainsBoth pair.0 pair.1 key → Has key held → Other key held)
    → ((key : RouteKey) (held : Held) → ContainsBoth pair.0 pair.1 key → Other key held → Has key held) → IsBest Has pair answer → IsBest Other pair answer
best_by Has Other pair None to back best = λ key held other both. best key held (back key held both other) both
best_by Has Other pair (Some best) to back (has, both, none) =
    (to best.key (helds.Route best.ann) both has, both, λ other its there both_too. none other its (back other its both_too there) both_too)

announced : (row : Option Row) (held : Held) → option_map (λ (r : Row). helds.Route r.ann) row ≡ Some held
    → (ann : Announcement) × (held ≡ helds.Route ann) × (option_map (λ (r : Row). r.ann) row ≡ Some ann)
announced None held e = absurd cc
announced (Some row) held e = let same : helds.Route row.ann ≡ held = cc in (row.ann, sym same, refl)

has_row : (row : Option Row) (held : Held) (ann : Announcement) → held ≡ helds.Route ann → option_map (λ (r : Row). r.ann) row ≡ Some ann
    → option_map (λ (r : Row). helds.Route r.ann) row ≡ Some held
has_row None held ann is e = absurd cc
has_row (Some row) held ann is e = let same : row.ann ≡ ann = cc in ap (λ (a : Announcement). Some (helds.Route a)) same ∙ ap (λ (h : Held). Some h) (sym is)

module _ {S : Type 0} (cmp : S → S → Ordering) (total : IsTotalOrder cmp) (exact : CmpEqualImpliesEq cmp) where
  pub best_said : (factor : Option ℕ) → AnswersAreBest cmp factor
  best_said factor pair view all moment later changes rows sender answer are of_tlvs account le last is =
      let counted : List (Said S) = seen_said (Some pair) view all in
      let at : RouteKey → Option Row = λ key. row_at cmp rows (subject_of sender key) in
      let told = λ (key : RouteKey) (ann : Announcement). say_held cmp total exact factor counted moment later changes rows (subject_of sender key) ann account (le, last) in
      let same = λ (key : RouteKey) (both : ContainsBoth pair.0 pair.1 key) (mode : Mode) (times : ℕ). same_words pair view key (of_both pair key both) mode times cmp sender all None in
      best_by (RowsHave cmp rows sender) (SaysAt cmp factor later (seen_said None view all) sender) pair answer
      (λ key held both has.
      let (ann, is_ann, row) = announced (at key) held has in (
        ann,
        is_ann,
        same_held factor later (said_by cmp sender (seen_said None view all)) (said_by cmp sender counted) key ann (same key both)
            ((told key ann).0 (account.told (subject_of sender key) ∙ row)),
      ))
      (λ key held both has.
      has_row (at key) held has.0 has.1
      (sym (account.told (subject_of sender key)) ∙ (told key has.0).1
      (same_held factor later (said_by cmp sender counted) (said_by cmp sender (seen_said None view all)) key has.0 (λ mode times. sym (same key both mode times)) has.2)))
      (best_row cmp pair rows sender answer
      (λ subject some.
      let (cut, counts_for) = rows_are cmp (CutCounts pair view) factor counted moment changes rows (all_count pair view all of_tlvs) account subject some in
      (cut_key subject.key pair.0 pair.1 cut are.dst are.src are.one_family (both_of pair subject.key counts_for), counts_for))
      is)
