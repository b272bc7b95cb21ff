-- What is held for a key at a moment, word by word.
use Rattle.std.proofs.Common.{◌≡◌, ℕ, Bool, true, false, cond, List, [], ◌∷◌, Option, Some, None, refl, sym, ap, subst, ◌∙◌}
use Rattle.std.specs.Prelude.{fold, is_none}
use Rattle.std.specs.List.Sorted.{IsStrictlySortedBy}
use Rattle.std.specs.Option.{option_and_then, option_map}
use Rattle.std.specs.Map.{keys_of, lookup}
use Rattle.std.specs.BTreeMap.{is_at}
use Rattle.std.proofs.lemmas.Cmp.{eq_by_cmp_equiv}
use Rattle.std.proofs.lemmas.Map.Keys.{IsDistinct-from_sorted}
use Rattle.std.proofs.lemmas.Map.Views.{Contains-from_lookup, lookup-from_Contains}
use Rattle.babel_prefix.proofs.Insertion.{lookup-insert, sorted-insert}
use Rattle.babel_tlv.specs.declared.event.Event.{Event}
use Rattle.babel_tlv.specs.declared.event.Event.TheVariants as events
use Rattle.babel_tlv.specs.declared.held.Held.{Held}
use Rattle.babel_tlv.specs.declared.held.Held.TheVariants as helds
use Rattle.babel_tlv.specs.declared.mode.Mode.{Mode}
use Rattle.babel_tlv.specs.declared.mode.Mode.TheVariants as modes
use Rattle.babel_tlv.specs.Route.{RouteKey}
use Rattle.babel_tlv.specs.Keys.{key_cmp}
use Rattle.babel_tlv.proofs.OrderLaws.{key_total}
use Rattle.babel_table.specs.Moments.{AreRowsAt, Told, Stamp, Word, last_word, left_at, word, word_after}
use Rattle.babel_table.specs.Rows.{IsRising}
use Rattle.babel_table.specs.Words.{TimedRows, after_all, after_event, after_told, rows_at, wiped}
use Rattle.babel_table.proofs.Entries.{lookup-remove, sorted-remove}
use Rattle.babel_table.proofs.HoldsLaws.{same-is, same_key-is}
use Rattle.babel_table.proofs.ReplacedLaws.{lookup-replaced, rising-replaced}

-- ---- one word more

abbrev word_at : TimedRows → RouteKey → Option Word
word_at words key = lookup (is_at (key_cmp key)) words

rising-event : (mode : Mode) (factor : ℕ) (when : Stamp) (event : Event) (words : TimedRows) → IsRising words → IsRising (after_event mode factor when event words)
unfolding IsStrictlySortedBy
rising-event mode factor when (events.Announce key ann) words rising = sorted-insert key_total key (word when (helds.Route ann)) words rising
rising-event modes.Plain factor when (events.Retract key) words rising = sorted-remove key_total (is_at (key_cmp key)) words rising
rising-event modes.Hold factor when (events.Retract key) words rising = sorted-insert key_total key (word when helds.Unreachable) words rising
rising-event modes.Plain factor when events.RetractAll words rising = tt
rising-event modes.Hold factor when events.RetractAll words rising = rising-replaced (wiped factor when) words rising
rising-event mode factor when events.Nothing words rising = rising
rising-event mode factor when (events.Ignored reason) words rising = rising

pub none_either : (b : Bool) (old : Option Word) → old ≡ cond b old old
none_either true old = refl
none_either false old = refl

wiped-is : (factor : ℕ) (when : Stamp) (old : Option Word) → option_and_then (wiped factor when) old
    ≡ cond (is_none (option_and_then (left_at modes.Hold factor when.time) old)) None (Some (word when helds.Unreachable))
wiped-is factor when None = refl
wiped-is factor when (Some said) = by (left_at modes.Hold factor when.time said)
  where
    by : (o : Option Held) → option_map (λ (held : Held). word when helds.Unreachable) o ≡ cond (is_none o) None (Some (word when helds.Unreachable))
    by None = refl
    by (Some held) = refl

at-event : (mode : Mode) (factor : ℕ) (key : RouteKey) (when : Stamp) (event : Event) (words : TimedRows) → IsRising words
    → word_at (after_event mode factor when event words) key ≡ word_after mode factor key when event (word_at words key)
at-event mode factor key when (events.Announce other ann) words rising =
    lookup-insert key_total key other (word when (helds.Route ann)) words
    ∙ ap (λ (b : Bool). cond b (Some (word when (helds.Route ann))) (word_at words key)) (sym (same_key-is other key))
at-event modes.Plain factor key when (events.Retract other) words rising =
    lookup-remove key_total key other words rising ∙ ap (λ (b : Bool). cond b None (word_at words key)) (sym (same_key-is other key))
at-event modes.Hold factor key when (events.Retract other) words rising =
    lookup-insert key_total key other (word when helds.Unreachable) words
    ∙ ap (λ (b : Bool). cond b (Some (word when helds.Unreachable)) (word_at words key)) (sym (same_key-is other key))
at-event modes.Plain factor key when events.RetractAll words rising = none_either (is_none (option_and_then (left_at modes.Plain factor when.time) (word_at words key))) None
at-event modes.Hold factor key when events.RetractAll words rising = lookup-replaced (wiped factor when) key words rising ∙ wiped-is factor when (word_at words key)
at-event mode factor key when events.Nothing words rising = refl
at-event mode factor key when (events.Ignored reason) words rising = refl

-- ---- all words

rising-all : (mode : Mode) (factor : ℕ) (told : List Told) (words : TimedRows) → IsRising words → IsRising (after_all mode factor told words)
rising-all mode factor [] words rising = rising
rising-all mode factor (one ∷ later) words rising = rising-all mode factor later (after_told mode factor one words) (rising-event mode factor one.when one.event words rising)

abbrev pub words_from : Mode → ℕ → RouteKey → Option Word → List Told → Option Word
words_from mode factor key old told = fold (λ old one. word_after mode factor key one.when one.event old) old told

at-all : (mode : Mode) (factor : ℕ) (key : RouteKey) (told : List Told) (words : TimedRows) → IsRising words
    → word_at (after_all mode factor told words) key ≡ words_from mode factor key (word_at words key) told
at-all mode factor key [] words rising = refl
at-all mode factor key (one ∷ later) words rising =
    at-all mode factor key later (after_told mode factor one words) (rising-event mode factor one.when one.event words rising)
    ∙ ap (λ (o : Option Word). words_from mode factor key o later) (at-event mode factor key one.when one.event words rising)

-- ---- the rows

module _ (mode : Mode) (factor moment : ℕ) (told : List Told) (words : TimedRows) (is : words ≡ after_all mode factor told []) where
  rising : IsRising words
  unfolding IsStrictlySortedBy
  rising = subst (λ (w : TimedRows). IsRising w) (sym is) (rising-all mode factor told [] tt)

  at-rows : (key : RouteKey) → lookup (is_at (key_cmp key)) (rows_at mode factor moment words) ≡ option_and_then (left_at mode factor moment) (last_word mode factor told key)
  unfolding IsStrictlySortedBy
  at-rows key =
      lookup-replaced (left_at mode factor moment) key words rising
      ∙ ap (option_and_then (left_at mode factor moment)) (ap (λ (w : TimedRows). word_at w key) is ∙ at-all mode factor key told [] tt)

  pub rows-held : AreRowsAt mode factor moment told (rows_at mode factor moment words)
  rows-held =
      let rows : List (RouteKey × Held) = rows_at mode factor moment words in
      let all_rise : IsRising rows = rising-replaced (left_at mode factor moment) words rising in
      record {
        rising = all_rise;
        held = λ key held c. sym (at-rows key) ∙ lookup-from_Contains (eq_by_cmp_equiv key_total) key held rows (IsDistinct-from_sorted key_cmp (keys_of rows) all_rise) c;
        all = λ key held holds. Contains-from_lookup same-is key held rows (at-rows key ∙ holds);
      }
