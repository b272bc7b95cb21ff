-- The rows that are listed: what each key holds that is not retracted, in the order in which the keys came, and then sorted.
use Rattle.std.proofs.Common.{◌≡◌, ℕ, ◌+◌, ◌<◌, ◌≤◌, length, take, get_or, Bool, true, false, cond, List, [], ◌∷◌, ◌++◌, Option, Some, None, refl, sym, ap, subst, ◌∙◌, append_assoc, append-nil}
use Rattle.std.specs.Option.{option_map}
use Rattle.std.specs.Ordering.{eq_by_cmp}
use Rattle.std.specs.List.{AllByRecursion, IsDistinct, filter}
use Rattle.std.specs.List.Sorted.{IsPermutation, IsStrictlySortedBy}
use Rattle.std.specs.Map.{keys_of}
use Rattle.std.specs.BTreeMap.{is_at}
use Rattle.std.proofs.lemmas.List.{take_all, take_more}
use Rattle.std.proofs.lemmas.List.Elements.{filter-append}
use Rattle.babel_tlv.specs.declared.held.Held.{Held}
use Rattle.babel_tlv.specs.Keys.{key_cmp}
use Rattle.babel_tlv.specs.Route.{RouteKey}
use Rattle.babel_table.specs.Live.{Kept, current, live_rows}
use Rattle.babel_table.specs.Rows.{IsRising}
use Rattle.babel_table.specs.Said.{Words, standing, AreDistinct}
use Rattle.babel_table.proofs.LiveLaws.{keys-live_rows, live_rows-lookup}
use Rattle.babel_table.proofs.SaidLaws.{is_said, found, found-same, found-standing, same_entries, same_key, sorted-standing, word_of}

-- with the row of a word, if there is one
abbrev pub with_word : ℕ → RouteKey → Option Kept → List (RouteKey × Held) → List (RouteKey × Held)
with_word wipes key (Some said) rows = (key, current wipes said) ∷ rows
with_word wipes key None rows = rows

abbrev pub listing : ℕ → Words → List (RouteKey × Held)
listing wipes [] = []
listing wipes (w ∷ ws) = with_word wipes w.0 w.1 (listing wipes ws)

-- the rows that are listed so far, and those to come
pub record IsListing (wipes : ℕ) (rows : List (RouteKey × Held)) (rest : Words) (whole : List (RouteKey × Kept)) : Type 0 where
  pub words : Words
  pub distinct : AreDistinct (keys_of words)
  pub stands : standing words ≡ whole
  pub listed : rows ++ listing wipes rest ≡ listing wipes words

pub lists-said : (wipes : ℕ) (rows : List (RouteKey × Held)) (w : RouteKey × Option Kept) (ws : Words) (whole : List (RouteKey × Kept)) (v : Kept) → IsListing wipes rows (w ∷ ws) whole
    → w.1 ≡ Some v → IsListing wipes (rows ++ (w.0, current wipes v) ∷ []) ws whole
lists-said wipes rows w ws whole v so_far is = record {
  words = so_far.words;
  distinct = so_far.distinct;
  stands = so_far.stands;
  listed = append_assoc rows ((w.0, current wipes v) ∷ []) (listing wipes ws) ∙ sym (ap (λ o. rows ++ with_word wipes w.0 o (listing wipes ws)) is) ∙ so_far.listed;
}

pub lists-retracted : (wipes : ℕ) (rows : List (RouteKey × Held)) (w : RouteKey × Option Kept) (ws : Words) (whole : List (RouteKey × Kept)) → IsListing wipes rows (w ∷ ws) whole
    → w.1 ≡ None → IsListing wipes rows ws whole
lists-retracted wipes rows w ws whole so_far is = record {
  words = so_far.words;
  distinct = so_far.distinct;
  stands = so_far.stands;
  listed = sym (ap (λ o. rows ++ with_word wipes w.0 o (listing wipes ws)) is) ∙ so_far.listed;
}

-- ---- what is found in them

found-nowhere : {X : Type 0} (q k : RouteKey) (es : List (RouteKey × X)) → is_at (key_cmp q) k ≡ true → AllByRecursion (λ y. eq_by_cmp key_cmp k y ≡ false) (keys_of es) → found q es ≡ None
found-nowhere q k [] at apart = refl
found-nowhere q k (e ∷ es) at apart =
    let other : is_at (key_cmp q) e.0 ≡ false = ap (λ x. is_at (key_cmp x) e.0) (sym (same_key q k at)) ∙ apart.0 in
    rw other (found-nowhere q k es at apart.1)

found-listing : (wipes : ℕ) (q : RouteKey) (ws : Words) → AreDistinct (keys_of ws) → found q (listing wipes ws) ≡ option_map (current wipes) (word_of (found q ws))
unfolding IsDistinct
found-listing wipes q [] distinct = refl
found-listing wipes q (w ∷ ws) distinct = by w.1 (found-listing wipes q ws distinct.1)
  where
    said : (v : Kept) (b : Bool) → found q (listing wipes ws) ≡ option_map (current wipes) (word_of (found q ws))
        → cond b (Some (current wipes v)) (found q (listing wipes ws)) ≡ option_map (current wipes) (word_of (cond b (Some (Some v)) (found q ws)))
    said v true again = refl
    said v false again = again

    retracted : (b : Bool) → is_at (key_cmp q) w.0 ≡ b → found q (listing wipes ws) ≡ option_map (current wipes) (word_of (found q ws))
        → found q (listing wipes ws) ≡ option_map (current wipes) (word_of (cond b (Some None) (found q ws)))
    retracted true at again = again ∙ ap (λ (o : Option (Option Kept)). option_map (current wipes) (word_of o)) (found-nowhere q w.0 ws at distinct.0)
    retracted false at again = again

    by : (o : Option Kept) → found q (listing wipes ws) ≡ option_map (current wipes) (word_of (found q ws))
        → found q (with_word wipes w.0 o (listing wipes ws)) ≡ option_map (current wipes) (word_of (cond (is_at (key_cmp q) w.0) (Some o) (found q ws)))
    by (Some v) again = said v (is_at (key_cmp q) w.0) again
    by None again = retracted (is_at (key_cmp q) w.0) refl again

apart-listing : (wipes : ℕ) (k : RouteKey) (ws : Words) → AllByRecursion (λ y. eq_by_cmp key_cmp k y ≡ false) (keys_of ws)
    → AllByRecursion (λ y. eq_by_cmp key_cmp k y ≡ false) (keys_of (listing wipes ws))
apart-listing wipes k [] apart = tt
apart-listing wipes k (w ∷ ws) apart = by w.1 (apart-listing wipes k ws apart.1)
  where
    by : (o : Option Kept) → AllByRecursion (λ y. eq_by_cmp key_cmp k y ≡ false) (keys_of (listing wipes ws))
        → AllByRecursion (λ y. eq_by_cmp key_cmp k y ≡ false) (keys_of (with_word wipes w.0 o (listing wipes ws)))
    by (Some v) again = (apart.0, again)
    by None again = again

pub distinct-listing : (wipes : ℕ) (ws : Words) → AreDistinct (keys_of ws) → AreDistinct (keys_of (listing wipes ws))
unfolding IsDistinct
distinct-listing wipes [] distinct = tt
distinct-listing wipes (w ∷ ws) distinct = by w.1 (distinct-listing wipes ws distinct.1)
  where
    by : (o : Option Kept) → AreDistinct (keys_of (listing wipes ws)) → AreDistinct (keys_of (with_word wipes w.0 o (listing wipes ws)))
    by (Some v) again = (apart-listing wipes w.0 ws distinct.0, again)
    by None again = again

-- what is found in them is what is found in the rows that stand
pub found-listed : (wipes : ℕ) (q : RouteKey) (ws : Words) → AreDistinct (keys_of ws) → found q (listing wipes ws) ≡ found q (live_rows wipes (standing ws))
found-listed wipes q ws distinct =
    found-listing wipes q ws distinct
    ∙ sym (live_rows-lookup wipes (standing ws) (is_at (key_cmp q)) ∙ ap (option_map (current wipes)) (found-standing q ws))

-- ---- all of them

module _ (wipes : ℕ) (rows : List (RouteKey × Held)) (rest : Words) (whole : List (RouteKey × Kept)) (all : IsListing wipes rows rest whole) (none : rest ≡ []) where
  complete : rows ≡ listing wipes all.words
  complete = sym (append-nil rows) ∙ subst (λ ws. rows ++ listing wipes ws ≡ listing wipes all.words) none all.listed

  pub distinct-listed : AreDistinct (keys_of rows)
  distinct-listed = subst (λ es. AreDistinct (keys_of es)) (sym complete) (distinct-listing wipes all.words all.distinct)

  pub listed-sorted : (sorted : List (RouteKey × Held)) → IsRising sorted → IsPermutation rows sorted → sorted ≡ live_rows wipes whole
  listed-sorted sorted rising permuted =
      same_entries sorted (live_rows wipes (standing all.words)) rising (subst (λ ks. IsStrictlySortedBy key_cmp ks) (sym (keys-live_rows wipes (standing all.words))) (sorted-standing all.words))
      (λ q. found-same sorted rows q permuted distinct-listed
      ∙ ap (λ es. found q es) complete
      ∙ found-listed wipes q all.words all.distinct)
      ∙ ap (live_rows wipes) all.stands

-- ---- the words that are not retracted, in the order in which they came

module _ (all rows : Words) (i : ℕ) (so_far : rows ≡ filter is_said (take i all)) where
  pub whole-said : length all ≤ i → rows ≡ filter is_said all
  whole-said past = so_far ∙ ap (filter is_said) (take_all i all past)

  module _ (word : RouteKey × Option Kept) (inside : i < length all) (at : word ≡ get_or all i word) where
    more : take (i + 1) all ≡ take i all ++ word ∷ []
    more = take_more all i word inside ∙ ap (λ (w : RouteKey × Option Kept). take i all ++ w ∷ []) (sym at)

    split : filter is_said (take (i + 1) all) ≡ filter is_said (take i all) ++ filter is_said ((word.0, word.1) ∷ [])
    split = ap (filter is_said) more ∙ filter-append is_said (take i all) (word ∷ [])

    pub said-next : (v : Kept) → word.1 ≡ Some v → rows ++ (word.0, Some v) ∷ [] ≡ filter is_said (take (i + 1) all)
    said-next v is =
        ap (λ (ws : Words). ws ++ (word.0, Some v) ∷ []) so_far
        ∙ sym (split ∙ ap (λ (o : Option Kept). filter is_said (take i all) ++ filter is_said ((word.0, o) ∷ [])) is)

    pub skipped-next : word.1 ≡ None → rows ≡ filter is_said (take (i + 1) all)
    skipped-next is =
        so_far
        ∙ sym (split ∙ ap (λ (o : Option Kept). filter is_said (take i all) ++ filter is_said ((word.0, o) ∷ [])) is ∙ append-nil (filter is_said (take i all)))
