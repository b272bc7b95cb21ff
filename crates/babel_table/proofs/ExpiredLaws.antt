-- What was said, and what is left of it.
use Rattle.std.proofs.Common.{◌≡◌, ℕ, zero, suc, ◌+◌, Bool, true, false, cond, List, [], ◌∷◌, ◌++◌, length, map, take, drop, refl, sym, ap, subst, ◌∙◌, arith, length-append}
use Rattle.std.proofs.Common.{Option, Some, None, ◌<◌, get_or, slice_set, slice_index_or}
use mir.Val.{bool_byte}
use Rattle.std.specs.Prelude.{not, count_by}
use Rattle.std.proofs.lemmas.List.Sums.{count_by_more_no, count_by_more_yes}
use Rattle.std.proofs.lemmas.List.{length-map}
use Rattle.std.proofs.lemmas.List.Elements.{filter-append}
use Rattle.std.proofs.lemmas.List.Recursion.{is_count_by}
use Rattle.std.proofs.Math.Seq.{take-append_seam}
use Rattle.std.specs.List.{AllByRecursion, IsDistinct, filter}
use Rattle.std.specs.Option.{is_some, option_and_then, option_map}
use Rattle.std.specs.Ordering.{eq_by_cmp}
use Rattle.std.specs.Map.{keys_of}
use Rattle.std.specs.BTreeMap.{is_at}
use Rattle.std.proofs.lemmas.Map.Made.{keys_of-map_values, lookup-map_values}
use Rattle.babel_tlv.specs.Route.{RouteKey}
use Rattle.babel_tlv.specs.Keys.{key_cmp}
use Rattle.babel_table.specs.Live.{Asked, Kept, lasting, is_expired}
use Rattle.babel_table.specs.Said.{AreCounted, AreDistinct, AreIndexed, Places, Words, is_said, said_as, said_count, say, standing}
use Rattle.babel_table.specs.Words.{replaced}
use Rattle.babel_table.proofs.ReplacedLaws.{lookup-replaced, replaced-fewer, replaced-filter, rising-replaced}
use Rattle.babel_table.proofs.SaidLaws.{found, found-standing, length-said, length-unsaid, same_entries, sorted-standing, word_of}

-- ---- what stands once something else is said

pub standing-said : (give : Kept → Option Kept) (ws : Words) → standing (said_as give ws) ≡ replaced give (standing ws)
standing-said give ws =
    same_entries (standing (said_as give ws)) (replaced give (standing ws)) (sorted-standing (said_as give ws)) (rising-replaced give (standing ws) (sorted-standing ws))
    (λ q. found-standing q (said_as give ws)
    ∙ ap word_of (lookup-map_values (option_and_then give) (is_at (key_cmp q)) ws)
    ∙ by (found q ws)
    ∙ sym (ap (option_and_then give) (found-standing q ws))
    ∙ sym (lookup-replaced give q (standing ws) (sorted-standing ws)))
  where
    by : (x : Option (Option Kept)) → word_of (option_map (option_and_then give) x) ≡ option_and_then give (word_of x)
    by None = refl
    by (Some None) = refl
    by (Some (Some v)) = refl

-- ---- how many

abbrev one_if : Bool → ℕ
one_if b = cond b 1 0

module _ (test : Kept → Bool) where
  said_first : Words → ℕ
  said_first [] = 0
  said_first (w ∷ ws) = one_if (is_said test w.1) + said_first ws

  said-first : (ws : Words) → said_count test ws ≡ said_first ws
  unfolding said_first
  said-first ws = sym (is_count_by said_first (λ (w : RouteKey × Option Kept). is_said test w.1) refl (λ w later. by (is_said test w.1) (said_first later)) ws)
    where
      by : (b : Bool) (n : ℕ) → one_if b + n ≡ cond b (1 + n) n
      by true n = omega arith
      by false n = omega arith

abbrev any : Kept → Bool
any said = true

absent-found : (k : RouteKey) (ws : Words) → AllByRecursion (λ y. eq_by_cmp key_cmp k y ≡ false) (keys_of ws) → found k ws ≡ None
absent-found k [] apart = refl
absent-found k (w ∷ ws) apart = rw apart.0 (absent-found k ws apart.1)

one-said : (o : Option Kept) (n m : ℕ) → o ≡ None → n ≡ m + cond (is_some o) 0 1 → n ≡ m + 1
one-said o n m none is = is ∙ ap (λ (t : Option Kept). m + cond (is_some t) 0 1) none

none-unsaid : (o : Option Kept) (n m : ℕ) → o ≡ None → n + cond (is_some o) 1 0 ≡ m → n + 0 ≡ m
none-unsaid o n m none is = ap (λ (t : Option Kept). n + cond (is_some t) 1 0) (sym none) ∙ is

length-standing : (ws : Words) → AreDistinct (keys_of ws) → length (standing ws) ≡ said_first any ws
unfolding IsDistinct said_first
length-standing [] distinct = refl
length-standing (w ∷ ws) distinct = by (length-standing ws distinct.1) w.1
  where
    none : found w.0 (standing ws) ≡ None
    none = found-standing w.0 ws ∙ ap word_of (absent-found w.0 ws distinct.0)

    by : length (standing ws) ≡ said_first any ws → (o : Option Kept) → length (say w.0 o (standing ws)) ≡ one_if (is_said any o) + said_first any ws
    by again (Some v) =
        let one = one-said (found w.0 (standing ws)) (length (say w.0 (Some v) (standing ws))) (length (standing ws)) none (length-said w.0 v (standing ws) (sorted-standing ws)) in
        omega (arith, one, again)
    by again None =
        let same = none-unsaid (found w.0 (standing ws)) (length (say w.0 None (standing ws))) (length (standing ws)) none (length-unsaid w.0 (standing ws)) in
        omega (arith, same, again)

some-first : (ws : Words) → count_by (λ w. is_some w.1) ws ≡ said_first any ws
unfolding said_first
some-first ws = sym (is_count_by (said_first any) (λ (w : RouteKey × Option Kept). is_some w.1) refl (λ w later. by w.1 (said_first any later)) ws)
  where
    by : (o : Option Kept) (n : ℕ) → one_if (is_said any o) + n ≡ cond (is_some o) (1 + n) n
    by None n = omega arith
    by (Some v) n = omega arith

count-standing : (ws : Words) → AreDistinct (keys_of ws) → count_by (λ w. is_some w.1) ws ≡ length (standing ws)
count-standing ws distinct = some-first ws ∙ sym (length-standing ws distinct)

module _ (test : Kept → Bool) where
  unless : Kept → Option Kept
  unless said = cond (test said) None (Some said)

  split-count : (ws : Words) → said_first test ws + said_first any (said_as unless ws) ≡ said_first any ws
  unfolding said_first unless
  split-count [] = refl
  split-count (w ∷ ws) = by (split-count ws) w.1
    where
      at_test : said_first test ws + said_first any (said_as unless ws) ≡ said_first any ws → (b : Bool) (v : Kept)
          → (one_if b + said_first test ws) + (one_if (is_said any (cond b None (Some v))) + said_first any (said_as unless ws)) ≡ 1 + said_first any ws
      at_test again true v = omega (arith, again)
      at_test again false v = omega (arith, again)

      by : said_first test ws + said_first any (said_as unless ws) ≡ said_first any ws → (o : Option Kept)
          → (one_if (is_said test o) + said_first test ws) + (one_if (is_said any (option_and_then unless o)) + said_first any (said_as unless ws)) ≡ one_if (is_said any o) + said_first any ws
      by again None = omega (arith, again)
      by again (Some v) = at_test again (test v) v

  pub count-said : (ws : Words) → AreDistinct (keys_of ws) → said_count test ws + length (filter (λ e. not (test e.1)) (standing ws)) ≡ length (standing ws)
  unfolding unless
  count-said ws distinct =
      let keys : keys_of (said_as unless ws) ≡ keys_of ws = keys_of-map_values (option_and_then unless) ws in
      let still : length (standing (said_as unless ws)) ≡ said_first any (said_as unless ws) = length-standing (said_as unless ws) (subst AreDistinct (sym keys) distinct) in
      let is : standing (said_as unless ws) ≡ filter (λ e. not (test e.1)) (standing ws) = standing-said unless ws ∙ replaced-filter test (standing ws) in
      omega (arith, said-first test ws, split-count ws, length-standing ws distinct, still, ap (λ (t : List (RouteKey × Kept)). length t) is)

pub counted-said : (give : Kept → Option Kept) (n m : ℕ) (ws : Words) (rising : ℕ) (places : Places) → m ≡ count_by (λ w. is_some w.1) (said_as give ws) → AreCounted n ws rising places
    → AreCounted m (said_as give ws) rising places
counted-said give n m ws rising places is all =
    let keys : keys_of (said_as give ws) ≡ keys_of ws = keys_of-map_values (option_and_then give) ws in
    let count : m ≡ length (standing (said_as give ws)) = is ∙ count-standing (said_as give ws) (subst AreDistinct (sym keys) all.indexed.distinct) in
    record {
      indexed = subst (λ ks. AreIndexed ks rising places) (sym keys) all.indexed;
      count = count;
      small = omega (arith, count, all.small, all.count, ap (λ (t : List (RouteKey × Kept)). length t) (standing-said give ws), replaced-fewer give (standing ws));
    }

-- ---- row by row

-- one row more is counted
pub counted-more : {X : Type 0} (p : X → Bool) (xs : List X) (i n m : ℕ) (d : X) → i < length xs → n ≡ count_by p (take i xs) → m ≡ bool_byte (p (get_or xs i d)) → n + m ≡ count_by p (take (i + 1) xs)
counted-more p xs i n m d inside is byte = by (p (get_or xs i d)) refl
  where
    by : (b : Bool) → p (get_or xs i d) ≡ b → n + m ≡ count_by p (take (i + 1) xs)
    by true e = let one : m ≡ 1 = byte ∙ ap bool_byte e in omega (arith, one, is, count_by_more_yes p xs i d inside e)
    by false e = let none : m ≡ 0 = byte ∙ ap bool_byte e in omega (arith, none, is, count_by_more_no p xs i d inside e)

-- one row more is changed
pub changed-more : {A : Type 0} (f : A → A) (all : List A) (i : ℕ) (d : A) → i < length all
    → slice_set (map f (take i all) ++ drop i all) i (f (slice_index_or (map f (take i all) ++ drop i all) i d)) ≡ map f (take (suc i) all) ++ drop (suc i) all
changed-more f [] i d within = absurd (omega (arith, within))
changed-more f (x ∷ all) zero d within = refl
changed-more f (x ∷ all) (suc i) d within = ap (λ l. f x ∷ l) (changed-more f all i d (omega (arith, within)))

-- all rows of a vector are changed
pub changed-whole : {A : Type 0} (f : A → A) (rows now was : List A) (len : ℕ) → now ≡ map f was → was ≡ rows → length was ≡ len
    → take len (now ++ drop (length now) rows) ≡ map f rows
changed-whole {A} f rows now was len now_is was_is long =
    let same : len ≡ length now = sym long ∙ sym (length-map was f) ∙ ap length (sym now_is) in
    ap (λ (n : ℕ). take n (now ++ drop (length now) rows)) same ∙ take-append_seam now (drop (length now) rows) ∙ now_is ∙ ap (λ (t : List A). map f t) was_is

pub length-lasting : (asked : Asked) (a b : List (RouteKey × Kept)) → length (lasting asked (a ++ b)) ≡ length (lasting asked a) + length (lasting asked b)
length-lasting asked a b =
    ap (λ (t : List (RouteKey × Kept)). length t) (filter-append (λ (e : RouteKey × Kept). not (is_expired asked e.1)) a b) ∙ length-append (lasting asked a) (lasting asked b)
