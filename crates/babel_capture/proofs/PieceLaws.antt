-- The fragments of one datagram, with one more: what is kept of them.
use Rattle.std.proofs.Common.{◌≡◌, ◌≤◌, ◌<◌, ◌+◌, ◌^◌, ℕ, ◌⊎◌, inl, inr, Bool, true, false, not, ◌||◌, ◌&&◌, cond, Option, None, Some, List, [], ◌∷◌, ◌++◌, arith, refl, sym, ap, subst, ◌∙◌, max}
use Rattle.std.specs.Prelude.{nat_lt, IsSome}
use Rattle.std.specs.Cmp.{nat_cmp_is, ranked}
use Rattle.std.specs.declared.ops.Bound.TheVariants.{Excluded, Unbounded}
use Rattle.std.specs.declared.cmp.Ordering.{Ordering}
use Rattle.std.specs.declared.cmp.Ordering.TheVariants.{Less, Equal, Greater}
use Rattle.std.specs.BTreeMap.{BTreeMap, get, insert_entry, is_at}
use Rattle.std.specs.BTreeMap.Range.{IsRangeOf}
use Rattle.std.specs.List.{AllByRecursion, list_any}
use Rattle.std.specs.List.Sorted.{IsStrictlySortedBy}
use Rattle.std.specs.Map.{keys_of, lookup, values_of}
use Rattle.std.specs.Option.{option_map, unwrap_or}
use Rattle.std.specs.Ordering.{is_eq, is_lt, match_ordering, nat_cmp}
use Rattle.std.proofs.lemmas.Bool.{cases_lt, ltb-false, ltb-true}
use Rattle.std.proofs.lemmas.Bool.Decides.{nat_tests}
use Rattle.std.proofs.lemmas.Cmp.{nat_cmp_total}
use Rattle.std.proofs.lemmas.List.Sums.{sum_by-cons}
use Rattle.std.proofs.lemmas.Map.Entries.{sum_by-insert_entry}
use Rattle.std.proofs.lemmas.Map.Lookups.{exact_unsigned}
use Rattle.babel_prefix.proofs.Insertion.{equal_of, lookup-insert, sorted-insert}
use Rattle.babel_capture.specs.Keeping.{AreKept}
use Rattle.babel_capture.specs.Pieces.{KeptPiece, KeptPieces, end_of, furthest, is_last, is_same, len_of, meeting_with, overlaps, share}
use Rattle.babel_capture.specs.declared.pieces.Meeting.TheVariants as meetings

le_cases : (k n : ℕ) → k ≤ n → (k < n) ⊎ (k ≡ n)
le_cases k n le = elim (cases_lt k n) [ inl lt ↦ inl lt | inr ge ↦ inr (omega arith) ]

-- ---- entries by number

pub self-at : (k : ℕ) → is_at (nat_cmp k) k ≡ true
self-at k = grind (arith, nat_tests)

apart-at : (k l : ℕ) → k < l → is_at (nat_cmp l) k ≡ false
apart-at k l less = grind (arith, nat_tests)

module _ {X : Type 0} where
  pub none_some : {P : Type 0} (x : X) → None ≡ Some x → P
  none_some x e = absurd cc

  -- a number that is found is one of those that are there
  above : (least k : ℕ) (v : X) (es : List (ℕ × X)) → AllByRecursion (λ y. nat_cmp least y ≡ Less) (keys_of es) → lookup (is_at (nat_cmp k)) es ≡ Some v → least < k
  above least k v [] all found = none_some v found
  above least k v (e ∷ es) all found = by (above least k v es all.1) (is_at (nat_cmp k) e.0) refl found
    where
      by : (lookup (is_at (nat_cmp k)) es ≡ Some v → least < k) → (b : Bool) → is_at (nat_cmp k) e.0 ≡ b → cond b (Some e.1) (lookup (is_at (nat_cmp k)) es) ≡ Some v → least < k
      by again true at f = subst (λ (n : ℕ). least < n) (sym (exact_unsigned k e.0 (equal_of (nat_cmp k e.0) at))) (ranked least e.0 Less (sym all.0))
      by again false at f = again f

  -- what holds of each that is found holds of each
  pub none-of : (test : ℕ × X → Bool) (es : List (ℕ × X)) → IsStrictlySortedBy nat_cmp (keys_of es) → ((k : ℕ) (v : X) → lookup (is_at (nat_cmp k)) es ≡ Some v → test (k, v) ≡ false) → list_any test es ≡ false
  unfolding IsStrictlySortedBy
  none-of test [] rising each = refl
  none-of test (e ∷ es) rising each =
      let head : test e ≡ false = each e.0 e.1 (rw (self-at e.0) refl) in
      let tail : list_any test es ≡ false =
      none-of test es rising.1 (λ k v found. each k v (rw (apart-at e.0 k (above e.0 k v es rising.0 found)) found)) in
      rw (head, tail) refl

  pub any-of : (test : ℕ × X → Bool) (k : ℕ) (v : X) (es : List (ℕ × X)) → lookup (is_at (nat_cmp k)) es ≡ Some v → test (k, v) ≡ true → list_any test es ≡ true
  any-of test k v [] found holds = none_some v found
  any-of test k v (e ∷ es) found holds = by (λ f. any-of test k v es f holds) (is_at (nat_cmp k) e.0) refl found
    where
      or-true : (b : Bool) → (b || true) ≡ true
      or-true true = refl
      or-true false = refl

      by : (lookup (is_at (nat_cmp k)) es ≡ Some v → list_any test es ≡ true) → (b : Bool) → is_at (nat_cmp k) e.0 ≡ b → cond b (Some e.1) (lookup (is_at (nat_cmp k)) es) ≡ Some v
          → (test e || list_any test es) ≡ true
      by again true at f =
          let same : k ≡ e.0 = exact_unsigned k e.0 (equal_of (nat_cmp k e.0) at) in
          let here : test e ≡ true = (let value : e.1 ≡ v = cc in subst (λ (n : ℕ). test (n, e.1) ≡ true) same (subst (λ (x : X). test (k, x) ≡ true) (sym value) holds)) in
          rw here refl
      by again false at f = rw (again f) (or-true (test e))

  -- one more passes a test, or one of the others does
  pub any-insert : (test : ℕ × X → Bool) (k : ℕ) (v : X) (es : List (ℕ × X)) → lookup (is_at (nat_cmp k)) es ≡ None → list_any test (insert_entry nat_cmp es k v) ≡ (list_any test es || test (k, v))
  any-insert test k v [] none = by (test (k, v))
    where
      by : (b : Bool) → (b || false) ≡ b
      by true = refl
      by false = refl
  any-insert test k v (e ∷ es) none = by (nat_cmp k e.0) none (any-insert test k v es)
    where
      turned : (a b c : Bool) → (a || (b || c)) ≡ ((b || c) || a)
      turned true true c = refl
      turned true false true = refl
      turned true false false = refl
      turned false true c = refl
      turned false false true = refl
      turned false false false = refl

      grouped : (a b c : Bool) → (a || (b || c)) ≡ ((a || b) || c)
      grouped true b c = refl
      grouped false b c = refl

      by : (r : Ordering) → cond (is_eq r) (Some e.1) (lookup (is_at (nat_cmp k)) es) ≡ None
          → (lookup (is_at (nat_cmp k)) es ≡ None → list_any test (insert_entry nat_cmp es k v) ≡ (list_any test es || test (k, v)))
          → list_any test (match_ordering r ((k, v) ∷ e ∷ es) ((e.0, v) ∷ es) (e ∷ insert_entry nat_cmp es k v)) ≡ ((test e || list_any test es) || test (k, v))
      by Less is again = turned (test (k, v)) (test e) (list_any test es)
      by Equal is again = none_some e.1 (sym is)
      by Greater is again = ap (λ (b : Bool). test e || b) (again is) ∙ grouped (test e) (list_any test es) (test (k, v))

-- ---- where they end

pub furthest-insert : (at : ℕ) (piece : KeptPiece) (pieces : KeptPieces) → lookup (is_at (nat_cmp at)) pieces ≡ None → furthest (insert_entry nat_cmp pieces at piece) ≡ max (furthest pieces) (at + piece.len)
furthest-insert at piece [] none = omega arith
furthest-insert at piece (e ∷ es) none = by (nat_cmp at e.0) none (furthest-insert at piece es)
  where
    by : (r : Ordering) → cond (is_eq r) (Some e.1) (lookup (is_at (nat_cmp at)) es) ≡ None
        → (lookup (is_at (nat_cmp at)) es ≡ None → furthest (insert_entry nat_cmp es at piece) ≡ max (furthest es) (at + piece.len))
        → furthest (match_ordering r ((at, piece) ∷ e ∷ es) ((e.0, piece) ∷ es) (e ∷ insert_entry nat_cmp es at piece)) ≡ max (max (end_of e) (furthest es)) (at + piece.len)
    by Less is again = omega arith
    by Equal is again = none_some e.1 (sym is)
    by Greater is again = (let more = again is in omega (arith, more))

pub len-insert : (at : ℕ) (piece : KeptPiece) (pieces : KeptPieces) → IsStrictlySortedBy nat_cmp (keys_of pieces) → lookup (is_at (nat_cmp at)) pieces ≡ None
    → len_of (insert_entry nat_cmp pieces at piece) ≡ len_of pieces + piece.len
len-insert at piece pieces rising none =
    let f : KeptPiece → ℕ = λ p. p.len in
    let sum = sum_by-insert_entry f nat_cmp_total pieces at piece rising in
    let zero : unwrap_or (option_map f (lookup (is_at (nat_cmp at)) pieces)) 0 ≡ 0 = ap (λ (o : Option KeptPiece). unwrap_or (option_map f o) 0) none in
    omega (arith, sum, zero)

-- each ends before those after it begin
abbrev pub AreApart : KeptPieces → Type 0
AreApart pieces = (at further : ℕ) (one other : KeptPiece) → lookup (is_at (nat_cmp at)) pieces ≡ Some one → lookup (is_at (nat_cmp further)) pieces ≡ Some other → at < further → at + one.len ≤ further

pub tail-found : {X : Type 0} (e : ℕ × X) (es : List (ℕ × X)) → IsStrictlySortedBy nat_cmp (keys_of (e ∷ es)) → (k : ℕ) (v : X) → lookup (is_at (nat_cmp k)) es ≡ Some v
    → (e.0 < k) × (lookup (is_at (nat_cmp k)) (e ∷ es) ≡ Some v)
unfolding IsStrictlySortedBy
tail-found e es rising k v found =
    let less = above e.0 k v es rising.0 found in
    (less, rw (apart-at e.0 k less) found)

pub head-found : {X : Type 0} (e : ℕ × X) (es : List (ℕ × X)) → lookup (is_at (nat_cmp e.0)) (e ∷ es) ≡ Some e.1
head-found e es = rw (self-at e.0) refl

-- so they have no more octets than the datagram up to where the furthest ends
fills : (from : ℕ) (pieces : KeptPieces) → IsStrictlySortedBy nat_cmp (keys_of pieces) → AreApart pieces → ((at : ℕ) (one : KeptPiece) → lookup (is_at (nat_cmp at)) pieces ≡ Some one → from ≤ at)
    → from + len_of pieces ≤ max from (furthest pieces)
unfolding IsStrictlySortedBy
fills from [] rising apart begin = omega arith
fills from (e ∷ es) rising apart begin =
    let first : from ≤ e.0 = begin e.0 e.1 (head-found e es) in
    let rest : end_of e + len_of es ≤ max (end_of e) (furthest es) =
    fills (end_of e) es rising.1 (λ at further one other here there. apart at further one other (tail-found e es rising at one here).1 (tail-found e es rising further other there).1)
    (λ at one found. let later = tail-found e es rising at one found in apart e.0 at e.1 one (head-found e es) later.1 later.0) in
    let lens : len_of (e ∷ es) ≡ e.1.len + len_of es = sum_by-cons (λ (p : KeptPiece). p.len) e.1 (values_of es) in
    let ends : furthest (e ∷ es) ≡ max (end_of e) (furthest es) = refl in
    omega (arith, first, rest, lens, ends)

pub len-within : (pieces : KeptPieces) → IsStrictlySortedBy nat_cmp (keys_of pieces) → AreApart pieces → len_of pieces ≤ furthest pieces
len-within pieces rising apart = (let filled = fills 0 pieces rising apart (λ at one found. omega arith) in omega (arith, filled))

-- ---- one more that shares octets with none

tests-apart : (one other : ℕ × KeptPiece) → share one other ≡ false → (other.0 < one.0 → end_of other ≤ one.0) × (one.0 < other.0 → end_of one ≤ other.0)
tests-apart one other none = (λ before. grind (arith, nat_tests), λ after. grind (arith, nat_tests))

unshared : (one : ℕ × KeptPiece) (pieces : KeptPieces) → list_any (share one) pieces ≡ false → (at : ℕ) (other : KeptPiece) → lookup (is_at (nat_cmp at)) pieces ≡ Some other → share one (at, other) ≡ false
unshared one pieces none at other found = by (share one (at, other)) refl
  where
    by : (b : Bool) → share one (at, other) ≡ b → b ≡ false
    by true is = (let any = any-of (share one) at other pieces found is in absurd cc)
    by false is = refl

pub apart-insert : (at : ℕ) (piece : KeptPiece) (pieces : KeptPieces) → AreApart pieces → list_any (share (at, piece)) pieces ≡ false → AreApart (insert_entry nat_cmp pieces at piece)
apart-insert at piece pieces apart none here there one other first second less =
    by (is_at (nat_cmp at) here) (is_at (nat_cmp at) there) refl refl (sym (lookup-insert nat_cmp_total here at piece pieces) ∙ first) (sym (lookup-insert nat_cmp_total there at piece pieces) ∙ second)
  where
    same : (k : ℕ) → is_at (nat_cmp at) k ≡ true → at ≡ k
    same k is = exact_unsigned at k (equal_of (nat_cmp at k) is)

    by : (a b : Bool) → is_at (nat_cmp at) here ≡ a → is_at (nat_cmp at) there ≡ b → cond a (Some piece) (lookup (is_at (nat_cmp here)) pieces) ≡ Some one
        → cond b (Some piece) (lookup (is_at (nat_cmp there)) pieces) ≡ Some other → here + one.len ≤ there
    by true true is_here is_there f s = absurd (let p = same here is_here in let q = same there is_there in omega (arith, p, q))
    by true false is_here is_there f s =
        let p = same here is_here in
        let value : piece.len ≡ one.len = (let whole : piece ≡ one = cc in ap (λ (k : KeptPiece). k.len) whole) in
        let free = (tests-apart (at, piece) (there, other) (unshared (at, piece) pieces none there other s)).1 (omega (arith, p)) in
        omega (arith, p, value, free)
    by false true is_here is_there f s =
        let q = same there is_there in
        let free = (tests-apart (at, piece) (here, one) (unshared (at, piece) pieces none here one f)).0 (omega (arith, q)) in
        omega (arith, q, free)
    by false false is_here is_there f s = apart here there one other f s less

-- ---- the last that begins before the end of one more

pub last-of : (m : BTreeMap ℕ KeptPiece) (end : ℕ) (range : KeptPieces) (last : ℕ × KeptPiece) (rest : KeptPieces) → IsRangeOf nat_cmp Unbounded (Excluded end) m range → range ≡ rest ++ last ∷ []
    → (at : ℕ) → at < end → IsSome (get nat_cmp m at) → at ≤ last.0
last-of m end range last rest is whole at less there =
    let before : is_lt (nat_cmp last.0 at) ≡ false = is.4 last rest whole at (tt, sym (nat_cmp_is at end Less less)) there in
    grind (arith, nat_tests)

pub share-none : (one : ℕ × KeptPiece) (pieces : KeptPieces) → IsStrictlySortedBy nat_cmp (keys_of pieces) → ((at : ℕ) → at < end_of one → lookup (is_at (nat_cmp at)) pieces ≡ None)
    → list_any (share one) pieces ≡ false
share-none one pieces rising none = none-of (share one) pieces rising each
  where
    each : (k : ℕ) (v : KeptPiece) → lookup (is_at (nat_cmp k)) pieces ≡ Some v → share one (k, v) ≡ false
    each k v found = by (nat_lt k (end_of one)) refl
      where
        and-false : (b : Bool) → (b && false) ≡ false
        and-false true = refl
        and-false false = refl

        by : (b : Bool) → nat_lt k (end_of one) ≡ b → (nat_lt one.0 (end_of (k, v)) && b) ≡ false
        by true is = (let less : k < end_of one = ltb-true k (end_of one) is in none_some v (sym (none k less) ∙ found))
        by false is = and-false (nat_lt one.0 (end_of (k, v)))

pub share-last : (one : ℕ × KeptPiece) (pieces : KeptPieces) → IsStrictlySortedBy nat_cmp (keys_of pieces) → AreApart pieces → (at : ℕ) (last : KeptPiece) → at < end_of one
    → lookup (is_at (nat_cmp at)) pieces ≡ Some last → ((k : ℕ) → k < end_of one → IsSome (lookup (is_at (nat_cmp k)) pieces) → k ≤ at) → nat_lt one.0 (at + last.len) ≡ list_any (share one) pieces
share-last one pieces rising apart at last before found greatest = by (nat_lt one.0 (at + last.len)) refl
  where
    by : (b : Bool) → nat_lt one.0 (at + last.len) ≡ b → b ≡ list_any (share one) pieces
    by true is = (let both : share one (at, last) ≡ true = grind (arith, nat_tests) in sym (any-of (share one) at last pieces found both))
    by false is = sym (none-of (share one) pieces rising each)
      where
        behind : at + last.len ≤ one.0
        behind = ltb-false one.0 (at + last.len) is

        is_some-of : {X : Type 0} (o : Option X) (x : X) → o ≡ Some x → IsSome o
        is_some-of (Some y) x e = refl
        is_some-of None x e = none_some x e

        ended : (k : ℕ) (v : KeptPiece) → lookup (is_at (nat_cmp k)) pieces ≡ Some v → k < end_of one → k + v.len ≤ one.0
        ended k v there less =
            elim (le_cases k at (greatest k less (is_some-of (lookup (is_at (nat_cmp k)) pieces) v there))) [
              | inl strict ↦ (let before_last = apart k at v last there found strict in let far = behind in omega (arith, before_last, far))
              | inr same ↦
                  let value : v ≡ last = (let here = subst (λ (n : ℕ). lookup (is_at (nat_cmp n)) pieces ≡ Some v) same there in cc) in
                  let len : v.len ≡ last.len = ap (λ (p : KeptPiece). p.len) value in
                  let far = behind in omega (arith, len, same, far)
            ]

        and-false : (b : Bool) → (b && false) ≡ false
        and-false true = refl
        and-false false = refl

        each : (k : ℕ) (v : KeptPiece) → lookup (is_at (nat_cmp k)) pieces ≡ Some v → share one (k, v) ≡ false
        each k v there = near (nat_lt k (end_of one)) refl
          where
            near : (b : Bool) → nat_lt k (end_of one) ≡ b → (nat_lt one.0 (end_of (k, v)) && b) ≡ false
            near true before_end = (let far : k + v.len ≤ one.0 = ended k v there (ltb-true k (end_of one) before_end) in grind (arith, nat_tests))
            near false before_end = and-false (nat_lt one.0 (end_of (k, v)))

-- ---- what is kept, with one more

apart-means : (pieces : KeptPieces) (one : ℕ × KeptPiece) (found : Option KeptPiece) → meeting_with pieces one found ≡ meetings.Apart → (found ≡ None) × (overlaps pieces one ≡ false)
apart-means pieces one (Some other) is = absurd (by (is_same other one.1) is)
  where
    by : (b : Bool) → cond b meetings.Repeats meetings.Overlaps ≡ meetings.Apart → ⊥
    by true e = cc
    by false e = cc
apart-means pieces one None is = (refl, by (overlaps pieces one) is)
  where
    by : (b : Bool) → cond b meetings.Overlaps meetings.Apart ≡ meetings.Apart → b ≡ false
    by true e = absurd cc
    by false e = refl

or-first : (a b : Bool) → (a || b) ≡ false → a ≡ false
or-first true b e = absurd cc
or-first false b e = refl

module _ (pieces : KeptPieces) (len end : ℕ) (has_last : Bool) (at : ℕ) (piece : KeptPiece) (kept : AreKept pieces len end has_last) (fits : at + piece.len < 2 ^ 16)
    (is : meeting_with pieces (at, piece) (lookup (is_at (nat_cmp at)) pieces) ≡ meetings.Apart) where
  kept-insert : AreKept (insert_entry nat_cmp pieces at piece) (len + piece.len) (max end (at + piece.len)) (has_last || not piece.more)
  kept-insert =
      let means = apart-means pieces (at, piece) (lookup (is_at (nat_cmp at)) pieces) is in
      record {
        rising = sorted-insert nat_cmp_total at piece pieces kept.rising;
        apart = apart-insert at piece pieces kept.apart (or-first (list_any (share (at, piece)) pieces) _ means.1);
        lens = (let more = len-insert at piece pieces kept.rising means.0 in let was = kept.lens in omega (arith, more, was));
        ends = (let more = furthest-insert at piece pieces means.0 in let was = kept.ends in omega (arith, more, was));
        fits = (let was = kept.fits in omega (arith, was, fits));
        last = sym (any-insert is_last at piece pieces means.0 ∙ ap (λ (b : Bool). b || not piece.more) (sym kept.last));
      }

  pub kept-fits : len + piece.len < 2 ^ 16
  kept-fits =
      let more = kept-insert in
      let within = len-within _ more.rising more.apart in
      let lens = more.lens in let ends = more.ends in let fits = more.fits in omega (arith, within, lens, ends, fits)

  -- by the names that the code has for them
  pub kept-as : (entries : KeptPieces) (held : KeptPiece) (end_now : ℕ) (last_now : Bool) → entries ≡ insert_entry nat_cmp pieces at held → held ≡ piece → end_now ≡ max end (at + piece.len)
      → last_now ≡ (has_last || not piece.more) → AreKept entries (len + piece.len) end_now last_now
  kept-as entries held end_now last_now put same ends last =
      let by_end = subst (λ (n : ℕ). AreKept (insert_entry nat_cmp pieces at piece) (len + piece.len) n (has_last || not piece.more)) (sym ends) kept-insert in
      let by_last = subst (λ (b : Bool). AreKept (insert_entry nat_cmp pieces at piece) (len + piece.len) end_now b) (sym last) by_end in
      subst (λ (e : KeptPieces). AreKept e (len + piece.len) end_now last_now) (ap (insert_entry nat_cmp pieces at) (sym same) ∙ sym put) by_last

  pub kept-len : (entries : KeptPieces) (held : KeptPiece) → entries ≡ insert_entry nat_cmp pieces at held → held ≡ piece → len_of entries ≡ len_of pieces + piece.len
  kept-len entries held put same =
      let means = apart-means pieces (at, piece) (lookup (is_at (nat_cmp at)) pieces) is in
      ap len_of (put ∙ ap (insert_entry nat_cmp pieces at) same) ∙ len-insert at piece pieces kept.rising means.0

pub or-last : (has_last more : Bool) → more ≡ false → true ≡ (has_last || not more)
or-last true more e = refl
or-last false true e = absurd cc
or-last false false e = refl

pub or-not-last : (has_last more : Bool) → more ≡ true → has_last ≡ (has_last || not more)
or-not-last true more e = refl
or-not-last false true e = refl
or-not-last false false e = absurd cc
