-- Where the events are what pairs say, what stands behind them is the pairs.
use Rattle.std.proofs.Common.{◌≡◌, ℕ, ◌≤◌, Bool, true, false, cond, List, [], ◌∷◌, ◌++◌, length, map, Option, Some, None, refl, sym, ap, subst, ◌∙◌, arith, inl, inr, Contains}
use Rattle.std.specs.Prelude.{◌↔◌, ◌⊎◌, IsSome, fold}
use Rattle.std.specs.List.{AllByRecursion, IsDistinct}
use Rattle.std.specs.Map.{keys_of}
use Rattle.std.specs.Option.{option_or}
use Rattle.std.specs.Ordering.{eq_by_cmp}
use Rattle.std.proofs.lemmas.Cmp.{eq_by_cmp_equiv}
use Rattle.std.proofs.lemmas.List.Elements.{Contains-append_left}
use Rattle.std.proofs.lemmas.Map.Entries.{length-keys_of}
use Rattle.std.proofs.lemmas.Map.Keys.{IsDistinct-from_sorted, IsDistinct-head, IsDistinct-tail}
use Rattle.std.proofs.lemmas.Map.Made.{IsDistinct-from_AllPairs, AllPairs-from_IsDistinct}
use Rattle.std.proofs.lemmas.Map.Steps.{length-le_from_keys}
use Rattle.std.proofs.lemmas.Map.Views.{Contains-from_any, Contains-from_lookup, lookup-from_Contains, IsSome-lookup_from_Contains}
use Rattle.babel_prefix.proofs.EntryLaws.{Listed-map}
use Rattle.babel_prefix.proofs.Members.{Listed, Listed-from_Contains, Contains-from_Listed}
use Rattle.babel_tlv.specs.declared.event.Event.{Event}
use Rattle.babel_tlv.specs.declared.event.Event.TheVariants as events
use Rattle.babel_tlv.specs.declared.held.Held.{Held}
use Rattle.babel_tlv.specs.declared.held.Held.TheVariants as helds
use Rattle.babel_tlv.specs.declared.mode.Mode.{Mode}
use Rattle.babel_tlv.specs.declared.mode.Mode.TheVariants as modes
use Rattle.babel_tlv.specs.Route.{RouteKey}
use Rattle.babel_tlv.specs.Keys.{key_cmp}
use Rattle.babel_tlv.specs.Pair.{Pair}
use Rattle.babel_tlv.specs.News.{spoken, held_event, pair_event}
use Rattle.babel_table.specs.Holds.{Names, Holds, held_after, retracted, same_key}
use Rattle.babel_table.specs.DumpFault.{HoldsMoreThan}
use Rattle.babel_table.specs.Rows.{IsRising}
use Rattle.babel_tlv.proofs.OrderLaws.{key_total}
use Rattle.babel_table.proofs.HoldsLaws.{same, same-is, same-of, same_key-decides, next, stands, stands_from, Holds-stands, stands-Holds}
use Rattle.babel_table.proofs.RowsLaws.{row_at}
use Rattle.babel_canon.specs.RoundTrip.{HaveDistinctKeys, IsRoute, AreReadableIn}

-- ---- keys that differ

abbrev Distinct : List Pair → Type 0
Distinct pairs = IsDistinct (eq_by_cmp key_cmp) (keys_of pairs)

decides : (a b : RouteKey) → (eq_by_cmp key_cmp a b ≡ true → a ≡ b) × (a ≡ b → eq_by_cmp key_cmp a b ≡ true)
decides a b = (same-is a b, same-of a b)

pub distinct : (pairs : List Pair) → HaveDistinctKeys pairs → Distinct pairs
distinct pairs apart = IsDistinct-from_AllPairs decides (keys_of pairs) apart

pub rising-apart : (pairs : List Pair) → IsRising pairs → HaveDistinctKeys pairs
rising-apart pairs rising = AllPairs-from_IsDistinct decides (keys_of pairs) (IsDistinct-from_sorted key_cmp (keys_of pairs) rising)

row_at-none : (key : RouteKey) (pairs : List Pair) → AllByRecursion (λ y. eq_by_cmp key_cmp key y ≡ false) (keys_of pairs) → row_at pairs key ≡ None
row_at-none key [] apart = refl
row_at-none key (pair ∷ pairs) apart = ap (λ (b : Bool). cond b (Some pair.1) (row_at pairs key)) apart.0 ∙ row_at-none key pairs apart.1

-- ---- what is told

stands-spoken : (mode : Mode) (key : RouteKey) (old : Option Held) (told : List Event) → stands_from mode key old (spoken told) ≡ stands_from mode key old told
stands-spoken mode key old [] = refl
stands-spoken mode key old (events.Announce other ann ∷ later) = stands-spoken mode key (next mode key old (events.Announce other ann)) later
stands-spoken mode key old (events.Retract other ∷ later) = stands-spoken mode key (next mode key old (events.Retract other)) later
stands-spoken mode key old (events.RetractAll ∷ later) = stands-spoken mode key (next mode key old events.RetractAll) later
stands-spoken mode key old (events.Nothing ∷ later) = stands-spoken mode key old later
stands-spoken mode key old (events.Ignored reason ∷ later) = stands-spoken mode key old later

-- a pair that can be read stands behind its event
abbrev ReadableIn : Mode → Held → Type 0
ReadableIn modes.Plain held = IsRoute held
ReadableIn modes.Hold held = Unit {0}

readable-head : (mode : Mode) (pair : Pair) (pairs : List Pair) → AreReadableIn mode (pair ∷ pairs) → ReadableIn mode pair.1
readable-head modes.Plain pair pairs readable = readable.0
readable-head modes.Hold pair pairs readable = tt

readable-tail : (mode : Mode) (pair : Pair) (pairs : List Pair) → AreReadableIn mode (pair ∷ pairs) → AreReadableIn mode pairs
readable-tail modes.Plain pair pairs readable = readable.1
readable-tail modes.Hold pair pairs readable = tt

next-pair : (mode : Mode) (key other : RouteKey) (held : Held) (old : Option Held) → ReadableIn mode held → next mode key old (held_event other held) ≡ cond (same other key) (Some held) old
next-pair mode key other (helds.Route ann) old readable = refl
next-pair modes.Plain key other helds.Unreachable old readable = absurd readable
next-pair modes.Hold key other helds.Unreachable old readable = refl

same-turned : (key other : RouteKey) → same other key ≡ same key other
same-turned key other = (eq_by_cmp_equiv key_total).symm other key

-- what stands is what the pairs have for the key
stands-pairs : (mode : Mode) (key : RouteKey) (old : Option Held) (pairs : List Pair) → Distinct pairs → AreReadableIn mode pairs
    → stands_from mode key old (map pair_event pairs) ≡ option_or (row_at pairs key) old
stands-pairs mode key old [] apart readable = refl
stands-pairs mode key old (pair ∷ pairs) apart readable =
    ap (λ (o : Option Held). stands_from mode key o (map pair_event pairs)) (next-pair mode key pair.0 pair.1 old (readable-head mode pair pairs readable)
    ∙ ap (λ (b : Bool). cond b (Some pair.1) old) (same-turned key pair.0))
    ∙ stands-pairs mode key (cond (same key pair.0) (Some pair.1) old) pairs (IsDistinct-tail (eq_by_cmp key_cmp) pair.0 (keys_of pairs) apart) (readable-tail mode pair pairs readable)
    ∙ by (same key pair.0) refl
  where
    by : (b : Bool) → same key pair.0 ≡ b → option_or (row_at pairs key) (cond b (Some pair.1) old) ≡ option_or (cond b (Some pair.1) (row_at pairs key)) old
    by false is = refl
    by true is =
        let here : key ≡ pair.0 = same-is key pair.0 is in
        let none : row_at pairs key ≡ None = ap (row_at pairs) here ∙ row_at-none pair.0 pairs (IsDistinct-head (eq_by_cmp key_cmp) pair.0 (keys_of pairs) apart) in
        ap (λ (o : Option Held). option_or o (Some pair.1)) none

or_none : (o : Option Held) → option_or o None ≡ o
or_none None = refl
or_none (Some h) = refl

stands-told : (mode : Mode) (told : List Event) (pairs : List Pair) (key : RouteKey) → HaveDistinctKeys pairs → AreReadableIn mode pairs → spoken told ≡ map pair_event pairs
    → stands mode key told ≡ row_at pairs key
stands-told mode told pairs key apart readable news =
    sym (stands-spoken mode key None told) ∙ ap (stands_from mode key None) news ∙ stands-pairs mode key None pairs (distinct pairs apart) readable ∙ or_none (row_at pairs key)

-- exactly the pairs hold
pub pairs_hold : (mode : Mode) (told : List Event) (pairs : List Pair) → HaveDistinctKeys pairs → AreReadableIn mode pairs → spoken told ≡ map pair_event pairs
    → (key : RouteKey) (held : Held) → Holds mode told key held ↔ Contains pairs (key, held)
pairs_hold mode told pairs apart readable news key held = (
  (λ holds. Contains-from_lookup same-is key held pairs (sym (stands-told mode told pairs key apart readable news) ∙ Holds-stands mode told key held holds)),
  (λ member. stands-Holds mode told key held (stands-told mode told pairs key apart readable news ∙ lookup-from_Contains (eq_by_cmp_equiv key_total) key held pairs (distinct pairs apart) member)),
)

-- ---- how many keys hold behind the first of these events

-- some event names the key
record IsNamed (said : List Event) (key : RouteKey) : Type 0 where
  event : Event
  is_said : Contains said event
  names : Names key event

abbrev NamedIn : List Event → RouteKey → Type 0
NamedIn said key = (event : Event) × Listed said event × Names key event

after-named : (mode : Mode) (key : RouteKey) (old : Option Held) (event : Event) → IsSome (held_after mode key old event) → IsSome old ⊎ Names key event
after-named mode key old (events.Announce other ann) some = by (same_key other key) refl some
  where
    by : (b : Bool) → same_key other key ≡ b → IsSome (cond b (Some (helds.Route ann)) old) → IsSome old ⊎ (other ≡ key)
    by true is some = inr ((same_key-decides other key).0 is)
    by false is some = inl some
after-named mode key old (events.Retract other) some = by (same_key other key) refl some
  where
    by : (b : Bool) → same_key other key ≡ b → IsSome (cond b (retracted mode) old) → IsSome old ⊎ (other ≡ key)
    by true is some = inr ((same_key-decides other key).0 is)
    by false is some = inl some
after-named mode key None events.RetractAll some = absurd cc
after-named mode key (Some held) events.RetractAll some = inl refl
after-named mode key old events.Nothing some = inl some
after-named mode key old (events.Ignored reason) some = inl some

named_from : (mode : Mode) (key : RouteKey) (old : Option Held) (said : List Event) → IsSome (fold (held_after mode key) old said) → IsSome old ⊎ NamedIn said key
named_from mode key old [] some = inl some
named_from mode key old (event ∷ later) some = by (named_from mode key (held_after mode key old event) later some)
  where
    here : IsSome old ⊎ Names key event → IsSome old ⊎ NamedIn (event ∷ later) key
    here (inl before) = inl before
    here (inr names) = inr (event, inl refl, names)

    by : IsSome (held_after mode key old event) ⊎ NamedIn later key → IsSome old ⊎ NamedIn (event ∷ later) key
    by (inl after) = here (after-named mode key old event after)
    by (inr (named, at, names)) = inr (named, inr at, names)

holds-named : (mode : Mode) (said : List Event) (key : RouteKey) (held : Held) → Holds mode said key held → IsNamed said key
holds-named mode said key held holds = by (named_from mode key None said (subst IsSome (sym holds) refl))
  where
    by : IsSome {T = Held} None ⊎ NamedIn said key → IsNamed said key
    by (inl none) = absurd cc
    by (inr (event, at, names)) = record { event = event; is_said = Contains-from_Listed said event at; names = names }

-- an event that names a key is no silence
listed-spoken : (told : List Event) (key : RouteKey) (event : Event) → Names key event → Listed told event → Listed (spoken told) event
listed-spoken [] key event names none = none
listed-spoken (events.Announce other ann ∷ later) key event names (inl e) = inl e
listed-spoken (events.Announce other ann ∷ later) key event names (inr at) = inr (listed-spoken later key event names at)
listed-spoken (events.Retract other ∷ later) key event names (inl e) = inl e
listed-spoken (events.Retract other ∷ later) key event names (inr at) = inr (listed-spoken later key event names at)
listed-spoken (events.RetractAll ∷ later) key event names (inl e) = inl e
listed-spoken (events.RetractAll ∷ later) key event names (inr at) = inr (listed-spoken later key event names at)
listed-spoken (events.Nothing ∷ later) key event names (inl e) = absurd (subst (Names key) (sym e) names)
listed-spoken (events.Nothing ∷ later) key event names (inr at) = listed-spoken later key event names at
listed-spoken (events.Ignored reason ∷ later) key event names (inl e) = inl e
listed-spoken (events.Ignored reason ∷ later) key event names (inr at) = inr (listed-spoken later key event names at)

event-key : (key other : RouteKey) (held : Held) → Names key (held_event other held) → other ≡ key
event-key key other (helds.Route ann) names = names
event-key key other helds.Unreachable names = names

-- an event of the pairs names one of their keys
listed-key : (pairs : List Pair) (key : RouteKey) (event : Event) → Names key event → Listed (map pair_event pairs) event → Listed (keys_of pairs) key
listed-key [] key event names none = none
listed-key (pair ∷ pairs) key event names (inl e) = inl (event-key key pair.0 pair.1 (subst (Names key) (sym e) names))
listed-key (pair ∷ pairs) key event names (inr at) = inr (listed-key pairs key event names at)

held_key : (mode : Mode) (told behind first : List Event) (pairs : List Pair) (key : RouteKey) (held : Held) → spoken told ≡ map pair_event pairs → told ≡ first ++ behind
    → Holds mode first key held → Contains (keys_of pairs) key
held_key mode told behind first pairs key held news parts holds =
    let named = holds-named mode first key held holds in
    let in_told : Contains told named.event = subst (λ (es : List Event). Contains es named.event) (sym parts) (Contains-append_left first behind named.event named.is_said) in
    let heard : Listed (map pair_event pairs) named.event = subst (λ (es : List Event). Listed es named.event) news
    (listed-spoken told key named.event named.names (Listed-from_Contains told named.event in_told)) in
    Contains-from_Listed (keys_of pairs) key (listed-key pairs key named.event named.names heard)

pub few_hold : (mode : Mode) (entries : ℕ) (told behind first : List Event) (pairs : List Pair) → spoken told ≡ map pair_event pairs → told ≡ first ++ behind → length pairs ≤ entries
    → HoldsMoreThan mode entries first → ⊥
few_hold mode entries told behind first pairs news parts room more =
    let rows = more.0 in
    let laws = eq_by_cmp_equiv key_total in
    let few = length-le_from_keys laws (keys_of rows) pairs (IsDistinct-from_sorted key_cmp (keys_of rows) more.1.rising) (λ q in_rows.
    let from = Listed-map (λ (pair : Pair). pair.0) rows q (Listed-from_Contains (keys_of rows) q (Contains-from_any same-is q (keys_of rows) in_rows)) in
    let member : Contains rows (q, from.0.1) = subst (λ (k : RouteKey). Contains rows (k, from.0.1)) from.2 (Contains-from_Listed rows from.0 from.1) in
    IsSome-lookup_from_Contains laws q pairs (held_key mode told behind first pairs q from.0.1 news parts (more.1.held q from.0.1 member))) in
    omega (arith, more.2, room, few, length-keys_of rows)
