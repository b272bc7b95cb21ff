-- Where the places of keys are listed: what a search passes by, and what one more place leaves.
use Rattle.std.proofs.Common.{◌≡◌, ℕ, ◌+◌, ◌-◌, ◌%◌, ◌<◌, ◌≤◌, List, length, set, get_or, Some, None, Option, refl, sym, ap, subst, ◌∙◌, inl, inr, cond, false, arith}
use Rattle.std.specs.List.{HoldsAt}
use Rattle.std.specs.BTreeMap.{insert_entry, is_at}
use Rattle.std.specs.Map.{keys_of, lookup}
use Rattle.std.proofs.Math.Nat.{eq-or-lt_of_le}
use Rattle.std.proofs.lemmas.Bool.{cases_eq, cases_lt}
use Rattle.std.specs.Ordering.{eq_by_cmp, is_eq}
use Rattle.std.proofs.lemmas.Cmp.{tied_itself}
use Rattle.babel_table.specs.Live.{Kept}
use Rattle.std.proofs.lemmas.Map.Entries.{length-keys_of}
use Rattle.std.proofs.lemmas.Map.Keys.{apart_from_distinct}
use Rattle.std.proofs.lemmas.List.{get_or_default, get_or-set_same, get_or-set_other, length-set}
use Rattle.babel_tlv.specs.Route.{RouteKey}
use Rattle.babel_tlv.specs.Keys.{key_cmp}
use Rattle.babel_tlv.proofs.OrderLaws.{key_total}
use Rattle.babel_table.specs.Said.{AreDistinct, AreListed, IsListed, IsPlace, IsTaken, IsUnlisted, Places, Words, start_of, tag_of}
use Rattle.babel_prefix.proofs.Insertion.{is_at-sym, lookup-insert}
use Rattle.babel_table.proofs.SaidLaws.{at_itself, place-read}

-- the slot has another place than the key's
abbrev pub IsPassed : List RouteKey → Places → RouteKey → ℕ → Type 0
IsPassed keys places key at =
    HoldsAt (λ slot. (slot.1 < 4294967295) × ((place : ℕ) → slot ≡ (tag_of places.seed key, place) → IsPlace keys key place → ⊥)) places.slots at

pub below_more : (P : ℕ → Type 0) (n : ℕ) → ((m : ℕ) → m < n → P m) → P n → (m : ℕ) → m < n + 1 → P m
below_more P n below here m lt = elim (cases_lt m n) [
  | inl less ↦ below m less
  | inr le ↦ let is : n ≡ m = omega (arith, le, lt) in subst P is here
]

-- what is so of the item that is read is so at its place
pub holds_at : (P : ℕ × ℕ → Type 0) (slots : List (ℕ × ℕ)) (at : ℕ) (x d : ℕ × ℕ) → at < length slots → x ≡ get_or slots at d → P x → HoldsAt P slots at
holds_at P slots at x d inside is p e = subst P (is ∙ get_or_default slots at d e inside) p

pub start_is : (places : Places) (key : RouteKey) (tag len : ℕ) → tag ≡ tag_of places.seed key → len ≡ length places.slots → start_of places key ≡ tag % (len - 8)
start_is places key tag len t l = cc

-- ---- a search

module _ (keys : List RouteKey) (places : Places) (key : RouteKey) where
  -- what a search is past is not the key's slot
  not_passed : (step place : ℕ) → ((before : ℕ) → before < step → IsPassed keys places key (start_of places key + before))
      → IsPlace keys key place → (listed : IsListed places key place) → step ≤ 8 → listed.far < step → ⊥
  not_passed step place passed at listed near lt = elim listed.here [
    | inl here ↦ (passed listed.far lt (0, 0)).1 place (here.1 (0, 0)) at
    | inr over ↦ omega (arith, over.0, lt, near)
  ]

  -- a slot that has no place ends a search
  pub ends_at_free : (step : ℕ) → ((before : ℕ) → before < step → IsPassed keys places key (start_of places key + before)) → step < 8
      → HoldsAt (λ slot. slot.1 ≡ 4294967295) places.slots (start_of places key + step)
      → IsUnlisted keys places key
  ends_at_free step passed near free place at listed = elim (cases_lt listed.far step) [
    | inl lt ↦ not_passed step place passed at listed (omega (arith, near)) lt
    | inr le ↦ elim (eq-or-lt_of_le le) [
      | inl is ↦ elim listed.here [
        | inl here ↦
            let slot : get_or places.slots (start_of places key + step) (0, 0) ≡ (tag_of places.seed key, place) =
            subst (λ n. get_or places.slots (start_of places key + n) (0, 0) ≡ (tag_of places.seed key, place)) (sym is) (here.1 (0, 0)) in
            let none : place ≡ 4294967295 = sym (ap (λ (s : ℕ × ℕ). s.1) slot) ∙ free (0, 0) in
            omega (arith, none, listed.small)
        | inr over ↦ omega (arith, over.0, is, near)
      ]
      | inr lt ↦ let taken = listed.passed step lt (0, 0) in omega (arith, taken, free (0, 0))
    ]
  ]

  -- behind the last slot
  pub ends_at_map : ((before : ℕ) → before < 8 → IsPassed keys places key (start_of places key + before)) → lookup (is_at (key_cmp key)) places.overflow ≡ None → IsUnlisted keys places key
  ends_at_map passed none place at listed = elim (cases_lt listed.far 8) [
    | inl lt ↦ not_passed 8 place passed at listed (omega arith) lt
    | inr le ↦ elim listed.here [
      | inl here ↦ omega (arith, here.0, le)
      | inr over ↦ let is = over.1 in absurd cc
    ]
  ]

  pub ends_at_other : (other : ℕ) → ((before : ℕ) → before < 8 → IsPassed keys places key (start_of places key + before))
      → lookup (is_at (key_cmp key)) places.overflow ≡ Some other → (IsPlace keys key other → ⊥)
      → IsUnlisted keys places key
  ends_at_other other passed some apart place at listed = elim (cases_lt listed.far 8) [
    | inl lt ↦ not_passed 8 place passed at listed (omega arith) lt
    | inr le ↦ elim listed.here [
      | inl here ↦ omega (arith, here.0, le)
      | inr over ↦ let is = over.1 in let same : place ≡ other = cc in apart (subst (λ n. IsPlace keys key n) same at)
    ]
  ]

-- ---- one more place

module _ (seed : ℕ) (slots : List (ℕ × ℕ)) (overflow : List (RouteKey × ℕ)) (key : RouteKey) (place : ℕ) (room : 8 < length slots) (small : place < 4294967295) where
  abbrev old : Places
  old = record { seed = seed; slots = slots; overflow = overflow }

  module _ (step : ℕ) (at : ℕ) (is : at ≡ start_of old key + step) (near : step < 8) (inside : at < length slots)
      (passed : (before : ℕ) → before < step → IsTaken slots (start_of old key + before)) (free : HoldsAt (λ slot. slot.1 ≡ 4294967295) slots at) where
    abbrev slotted : Places
    slotted = record { seed = seed; slots = set slots at (tag_of seed key, place); overflow = overflow }

    taken : (n : ℕ) → IsTaken slots n → IsTaken (set slots at (tag_of seed key, place)) n
    taken n was d = elim (cases_eq n at) [
      | inl same ↦ let here : get_or (set slots at (tag_of seed key, place)) n d ≡ (tag_of seed key, place) =
          ap (λ m. get_or (set slots at (tag_of seed key, place)) m d) same ∙ get_or-set_same slots at (tag_of seed key, place) d inside in
          omega (arith, ap (λ (s : ℕ × ℕ). s.1) here, small)
      | inr apart ↦ let here = get_or-set_other slots at n (tag_of seed key, place) d apart in
          omega (arith, ap (λ (s : ℕ × ℕ). s.1) here, was d)
    ]

    start : (q : RouteKey) → start_of slotted q ≡ start_of old q
    start q = ap (λ n. tag_of seed q % (n - 8)) (length-set slots at (tag_of seed key, place))

    pub slot_listed : IsListed slotted key place
    slot_listed = record {
      room = omega (arith, room, length-set slots at (tag_of seed key, place));
      small = small;
      far = step;
      near = omega (arith, near);
      passed = λ before lt. subst (λ n. IsTaken slotted.slots (n + before)) (sym (start key)) (taken _ (passed before lt));
      here = inl (near, λ d. ap (λ n. get_or slotted.slots n d) (ap (λ n. n + step) (start key) ∙ sym is) ∙ get_or-set_same slots at (tag_of seed key, place) d inside);
    }

    pub slot_others : (other : RouteKey) (n : ℕ) → IsListed old other n → IsListed slotted other n
    slot_others other n listed = record {
      room = omega (arith, room, length-set slots at (tag_of seed key, place));
      small = listed.small;
      far = listed.far;
      near = listed.near;
      passed = λ before lt. subst (λ m. IsTaken slotted.slots (m + before)) (sym (start other)) (taken _ (listed.passed before lt));
      here = elim listed.here [
        | inl here ↦ inl (
          here.0,
          λ d.
              let kept : start_of old other + listed.far ≡ at → ⊥ = λ same.
              let slot : (get_or slots at d).1 ≡ n = ap (λ m. (get_or slots m d).1) (sym same) ∙ ap (λ (s : ℕ × ℕ). s.1) (here.1 d) in
              omega (arith, slot, free d, listed.small) in
              ap (λ m. get_or slotted.slots (m + listed.far) d) (start other) ∙ get_or-set_other slots at (start_of old other + listed.far) (tag_of seed key, place) d kept ∙ here.1 d,
        )
        | inr over ↦ inr over
      ];
    }

  abbrev mapped : List (RouteKey × ℕ) → Places
  mapped entries = record { seed = seed; slots = slots; overflow = entries }

  pub map_listed : (entries : List (RouteKey × ℕ)) → ((before : ℕ) → before < 8 → IsTaken slots (start_of old key + before))
      → entries ≡ insert_entry key_cmp overflow key place → IsListed (mapped entries) key place
  map_listed entries passed is = record {
    room = room;
    small = small;
    far = 8;
    near = omega arith;
    passed = passed;
    here = inr (
      refl,
      ap (λ t. lookup (is_at (key_cmp key)) t) is ∙ lookup-insert key_total key key place overflow
          ∙ ap (λ b. cond b (Some place) (lookup (is_at (key_cmp key)) overflow)) (at_itself key),
    );
  }

  pub map_others : (entries : List (RouteKey × ℕ)) (other : RouteKey) (n : ℕ) → entries ≡ insert_entry key_cmp overflow key place
      → is_at (key_cmp key) other ≡ false → IsListed old other n → IsListed (mapped entries) other n
  map_others entries other n is apart listed = record {
    room = room;
    small = listed.small;
    far = listed.far;
    near = listed.near;
    passed = listed.passed;
    here = elim listed.here [
      | inl here ↦ inl here
      | inr over ↦ inr (
        over.0,
        ap (λ t. lookup (is_at (key_cmp other)) t) is ∙ lookup-insert key_total other key place overflow
            ∙ ap (λ b. cond b (Some place) (lookup (is_at (key_cmp other)) overflow)) apart ∙ over.1,
      )
    ];
  }

-- ---- one place after another

abbrev pub AreListedBefore : List RouteKey → ℕ → ℕ → Places → Type 0
AreListedBefore keys first last places = (key : RouteKey) (place : ℕ) → first ≤ place → place < last → IsPlace keys key place → IsListed places key place

pub none_listed : (keys : List RouteKey) (first : ℕ) (places : Places) → AreListedBefore keys first first places
none_listed keys first places key place from to at = absurd (omega (arith, from, to))

pub all_listed : (ws : Words) (first last : ℕ) (places : Places) → length ws ≤ last → AreListedBefore (keys_of ws) first last places → AreListed (keys_of ws) first places
all_listed ws first last places whole listed key place from at = listed key place from (omega (arith, at.inside, whole, length-keys_of ws)) at

pub listed_more : (ws : Words) (first last : ℕ) (old new : Places) (k : RouteKey) → AreDistinct (keys_of ws) → IsPlace (keys_of ws) k last
    → AreListedBefore (keys_of ws) first last old → IsListed new k last
    → ((other : RouteKey) (at : ℕ) → is_at (key_cmp k) other ≡ false → IsListed old other at → IsListed new other at) → AreListedBefore (keys_of ws) first (last + 1) new
listed_more ws first last old new k distinct here listed one others key place from to at = elim (cases_lt place last) [
  | inl lt ↦ others key place (apart_places k key (keys_of ws) place last distinct lt at here) (listed key place from lt at)
  | inr le ↦
      let is : place ≡ last = omega (arith, le, to) in
      let same : key ≡ k = sym (at.at_key k) ∙ ap (λ n. get_or (keys_of ws) n k) is ∙ here.at_key k in
      subst (λ q. IsListed new q place) (sym same) (subst (λ n. IsListed new k n) (sym is) one)
]
  where
    apart_places : (k q : RouteKey) (ks : List RouteKey) (i j : ℕ) → AreDistinct ks → i < j → IsPlace ks q i → IsPlace ks k j → is_at (key_cmp k) q ≡ false
    apart_places k q ks i j distinct lt at here =
        let apart : eq_by_cmp key_cmp (get_or ks i k) (get_or ks j k) ≡ false = apart_from_distinct (eq_by_cmp key_cmp) ks i j k distinct lt here.inside in
        let one : get_or ks i k ≡ q = at.at_key k in
        let other : get_or ks j k ≡ k = here.at_key k in
        is_at-sym key_total k q ∙ ap (λ x. is_at (key_cmp q) x) (sym other) ∙ ap (λ x. is_at (key_cmp x) (get_or ks j k)) (sym one) ∙ apart

-- a row's key is at its place
pub place_here : (ws : Words) (i : ℕ) (x : RouteKey × Option Kept) → i < length ws → x ≡ get_or ws i x → IsPlace (keys_of ws) x.0 i
place_here ws i x inside is = place-read ws x.0 i x inside (ap is_eq (ap (λ (y : RouteKey × Option Kept). key_cmp y.0 x.0) (sym is) ∙ tied_itself key_total x.0))
