-- Pairs have one canonical text, and valid pairs have one where a body takes any group.
use Rattle.std.proofs.Common.{◌≡◌, ℕ, ◌<◌, ◌≤◌, List, [], ◌∷◌, ◌++◌, length, drop, refl, sym, ap, subst, ◌∙◌, append_assoc, arith, inl, inr}
use Rattle.std.specs.Prelude.{◌≢◌, ◌⊎◌}
use Rattle.std.specs.List.{AllByRecursion}
use Rattle.std.proofs.lemmas.Bool.{cases_lt}
use Rattle.std.proofs.lemmas.List.{length-append, drop_at}
use Rattle.babel_tlv.specs.Pair.{Pair}
use Rattle.babel_tlv.specs.Pairs.{IsPair}
use Rattle.babel_tlv.specs.Group.{group, groups_behind, body_of, IsFull, ArePacked, IsCanonicalText}
use Rattle.babel_tlv.proofs.TextTold.{packed, length-behind}

-- ---- one text

length-more : (earlier front back : List Pair) → length (groups_behind earlier front) ≤ length (groups_behind earlier (front ++ back))
length-more earlier [] back = omega arith
length-more earlier (pair ∷ front) back =
    let octets = group earlier pair in
    omega (arith, length-append octets (groups_behind (pair ∷ earlier) front), length-append octets (groups_behind (pair ∷ earlier) (front ++ back)), length-more (pair ∷ earlier) front back)

-- the first list goes on in the second
record GoesOn (front other behind : List Pair) : Type 0 where
  pub next : Pair
  pub more : List Pair
  pub rest : List Pair
  pub other_is : other ≡ (front ++ next ∷ []) ++ more
  pub behind_is : behind ≡ next ∷ rest

first_differ : (one other behind_one behind_other : List Pair) → one ++ behind_one ≡ other ++ behind_other → (one ≡ other) ⊎ GoesOn one other behind_one ⊎ GoesOn other one behind_other
first_differ [] [] behind_one behind_other e = inl refl
first_differ [] (pair ∷ other) behind_one behind_other e = inr (inl (record { next = pair; more = other; rest = other ++ behind_other; other_is = refl; behind_is = e }))
first_differ (pair ∷ one) [] behind_one behind_other e = inr (inr (record { next = pair; more = one; rest = one ++ behind_one; other_is = refl; behind_is = sym e }))
first_differ (pair ∷ one) (first ∷ other) behind_one behind_other e =
    let heads : pair ≡ first = cc in
    let tails : one ++ behind_one ≡ other ++ behind_other = cc in
    elim (first_differ one other behind_one behind_other tails) as (λ _. ((pair ∷ one) ≡ (first ∷ other))
    ⊎ GoesOn (pair ∷ one) (first ∷ other) behind_one ⊎ GoesOn (first ∷ other) (pair ∷ one) behind_other) [
      | inl same ↦ inl (ap (λ (p : Pair). p ∷ one) heads ∙ ap (λ (ps : List Pair). first ∷ ps) same)
      | inr differ ↦ elim differ as (λ _. ((pair ∷ one) ≡ (first ∷ other)) ⊎ GoesOn (pair ∷ one) (first ∷ other) behind_one ⊎ GoesOn (first ∷ other) (pair ∷ one) behind_other) [
        | inl on ↦ inr (inl (record {
          next = on.next;
          more = on.more;
          rest = on.rest;
          other_is = ap (λ (p : Pair). p ∷ other) (sym heads)
              ∙ ap (λ (ps : List Pair). pair ∷ ps) on.other_is;
          behind_is = on.behind_is;
        }))
        | inr on ↦ inr (inr (record {
          next = on.next;
          more = on.more;
          rest = on.rest;
          other_is = ap (λ (p : Pair). p ∷ one) heads
              ∙ ap (λ (ps : List Pair). first ∷ ps) on.other_is;
          behind_is = on.behind_is;
        }))
      ]
    ]

-- a full packet doesn't go on in one that fits
full_ends : (body : ℕ) (front other behind : List Pair) → GoesOn front other behind → IsFull body front behind → length (body_of other) ≤ body → ⊥
full_ends body front other behind on full fits =
    let over : body < length (body_of (front ++ on.next ∷ [])) = subst (λ (ps : List Pair). IsFull body front ps) on.behind_is full in
    let fits_too : length (body_of ((front ++ on.next ∷ []) ++ on.more)) ≤ body = subst (λ (ps : List Pair). length (body_of ps) ≤ body) on.other_is fits in
    omega (arith, over, fits_too, length-more [] (front ++ on.next ∷ []) on.more)

none_left : (pairs packet rest : List Pair) → pairs ≡ [] → pairs ≡ packet ++ rest → packet ≢ [] → ⊥
none_left pairs [] rest none parts some = some refl
none_left pairs (pair ∷ packet) rest none parts some = nothing (sym none ∙ parts)
  where
    nothing : [] ≡ pair ∷ (packet ++ rest) → ⊥
    nothing e = cc

pub packed_one : (body : ℕ) (pairs : List Pair) (packets others : List (List Pair)) → ArePacked body pairs packets → ArePacked body pairs others → packets ≡ others
packed_one body pairs [] [] one other = refl
packed_one body pairs [] (packet ∷ others) one other = absurd (none_left pairs packet other.0 one other.1 other.2)
packed_one body pairs (packet ∷ packets) [] one other = absurd (none_left pairs packet one.0 other one.1 one.2)
packed_one body pairs (packet ∷ packets) (first ∷ others) one other =
    let joined : packet ++ one.0 ≡ first ++ other.0 = sym one.1 ∙ other.1 in
    let heads : packet ≡ first = elim (first_differ packet first one.0 other.0 joined) as (λ _. packet ≡ first) [
      | inl same ↦ same
      | inr differ ↦ elim differ as (λ _. packet ≡ first) [
        | inl on ↦ absurd (full_ends body packet first one.0 on one.4 other.3)
        | inr on ↦ absurd (full_ends body first packet other.0 on other.4 one.3)
      ]
    ] in
    let rests : other.0 ≡ one.0 =
    sym (drop_at first other.0 (length first) refl) ∙ ap (λ (ps : List Pair). drop (length first) ps) (sym joined) ∙ drop_at packet one.0 (length first) (ap length heads) in
    ap (λ (p : List Pair). p ∷ packets) heads
    ∙ ap (λ (ps : List (List Pair)). first ∷ ps) (packed_one body one.0 packets others one.5 (subst (λ (r : List Pair). ArePacked body r others) rests other.5))

pub text_one : (body : ℕ) (pairs : List Pair) (octets others : List ℕ) → IsCanonicalText body pairs octets → IsCanonicalText body pairs others → octets ≡ others
text_one body pairs octets others one other =
    one.2 ∙ ap packed (packed_one body pairs one.0 other.0 one.1 other.1) ∙ sym other.2

-- ---- a text

length-alone : (pair : Pair) → IsPair pair → length (body_of (pair ∷ [])) ≤ 79
length-alone pair fits = omega (arith, length-append (group [] pair) [], length-behind [] pair fits)

pushed_some : (front : List Pair) (pair : Pair) → front ++ pair ∷ [] ≢ []
pushed_some [] pair e = cc
pushed_some (first ∷ front) pair e = cc

fill : (body : ℕ) → 79 ≤ body → (packet pairs : List Pair) → packet ≢ [] → length (body_of packet) ≤ body → AllByRecursion IsPair pairs
    → (packets : List (List Pair)) × ArePacked body (packet ++ pairs) packets
fill body room packet [] some fits all = (packet ∷ [], ([], refl, some, fits, tt, refl))
fill body room packet (pair ∷ pairs) some fits all =
    elim (cases_lt body (length (body_of (packet ++ pair ∷ [])))) as (λ _. (packets : List (List Pair)) × ArePacked body (packet ++ pair ∷ pairs) packets) [
      | inl full ↦
          let later = fill body room (pair ∷ []) pairs (λ e. absurd cc) (omega (arith, room, length-alone pair all.0)) all.1 in
          (packet ∷ later.0, (pair ∷ pairs, refl, some, fits, full, later.1))
      | inr takes ↦
          let on = fill body room (packet ++ pair ∷ []) pairs (pushed_some packet pair) takes all.1 in
          (on.0, subst (λ (ps : List Pair). ArePacked body ps on.0) (append_assoc packet (pair ∷ []) pairs) on.1)
    ]

pub text_exists : (body : ℕ) → 79 ≤ body → (pairs : List Pair) → AllByRecursion IsPair pairs → (octets : List ℕ) × IsCanonicalText body pairs octets
text_exists body room [] all = ([], ([], refl, refl))
text_exists body room (pair ∷ pairs) all =
    let filled = fill body room (pair ∷ []) pairs (λ e. absurd cc) (omega (arith, room, length-alone pair all.0)) all.1 in
    (packed filled.0, (filled.0, filled.1, refl))
