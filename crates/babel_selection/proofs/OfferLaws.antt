-- Routes in their order, a list for each key.
use Rattle.std.proofs.Common.{◌≡◌, ℕ, suc, ◌+◌, ◌<◌, ◌≤◌, Bool, true, false, cond, List, [], ◌∷◌, ◌++◌, flat_map, length, get_or, take, drop, refl, sym, ap, ◌∙◌, add-one, arith, append_assoc}
use Rattle.std.specs.BTreeMap.{is_at}
use Rattle.std.proofs.Math.Seq.{take-suc, drop-cons}
use Rattle.std.proofs.lemmas.List.{drop_all, take-append-drop}
use Rattle.babel_tlv.specs.Keys.{key_cmp}
use Rattle.babel_selection.specs.declared.distance.Distance.{Distance}
use Rattle.babel_selection.specs.declared.offer.Offer.{Offer}
use Rattle.babel_selection.specs.declared.offers.ChosenRoute.{ChosenRoute}
use Rattle.babel_selection.specs.declared.source.Source.{Source}
use Rattle.babel_selection.specs.Offers.{before_keys, by_key, chosen_of, chosen_rows}

module _ {S : Type 0} where
  -- these are before the first of the lists
  abbrev pub joined : List (Offer S) → List (List (Offer S)) → List (List (Offer S))
  joined front [] = front ∷ []
  joined front (list ∷ lists) = (front ++ list) ∷ lists

  abbrev pub are_alike : Offer S → Offer S → Bool
  are_alike one next = is_at (key_cmp one.key) next.key

  -- the first list begins with the first route
  pub record BeginsWith (offer : Offer S) (lists : List (List (Offer S))) : Type 0 where
    pub others : List (Offer S)
    pub later : List (List (Offer S))
    pub is : lists ≡ (offer ∷ others) ∷ later

  begins_if : (offer next : Offer S) (others : List (Offer S)) (lists : List (List (Offer S))) (b : Bool)
      → BeginsWith offer (cond b ((offer ∷ next ∷ others) ∷ lists) ((offer ∷ []) ∷ (next ∷ others) ∷ lists))
  begins_if offer next others lists true = record { others = next ∷ others; later = lists; is = refl }
  begins_if offer next others lists false = record { others = []; later = (next ∷ others) ∷ lists; is = refl }

  begins_before : (offer : Offer S) (lists : List (List (Offer S))) → BeginsWith offer (before_keys offer lists)
  begins_before offer [] = record { others = []; later = []; is = refl }
  begins_before offer ([] ∷ lists) = record { others = []; later = lists; is = refl }
  begins_before offer ((next ∷ others) ∷ lists) =
      begins_if offer next others lists (are_alike offer next)

  begins : (offer : Offer S) (offers : List (Offer S)) → BeginsWith offer (by_key (offer ∷ offers))
  unfolding by_key
  begins offer offers = begins_before offer (by_key offers)

  -- a route before lists of which the first begins with one for its key, or for another
  before_alike : (one next : Offer S) (others : List (Offer S)) (lists : List (List (Offer S))) (b : Bool) → b ≡ true
      → cond b ((one ∷ next ∷ others) ∷ lists) ((one ∷ []) ∷ (next ∷ others) ∷ lists)
      ≡ joined (one ∷ []) ((next ∷ others) ∷ lists)
  before_alike one next others lists true e = refl
  before_alike one next others lists false e = absurd cc

  before_apart : (one next : Offer S) (others : List (Offer S)) (lists : List (List (Offer S))) (b : Bool) → b ≡ false
      → cond b ((one ∷ next ∷ others) ∷ lists) ((one ∷ []) ∷ (next ∷ others) ∷ lists)
      ≡ (one ∷ []) ∷ (next ∷ others) ∷ lists
  before_apart one next others lists true e = absurd cc
  before_apart one next others lists false e = refl

  alike_joined : (one next : Offer S) (offers : List (Offer S)) → are_alike one next ≡ true
      → by_key (one ∷ next ∷ offers) ≡ joined (one ∷ []) (by_key (next ∷ offers))
  unfolding by_key
  alike_joined one next offers e =
      let with_next = begins_before next (by_key offers) in
      ap (before_keys one) with_next.is
      ∙ before_alike one next with_next.others with_next.later (are_alike one next) e
      ∙ ap (joined (one ∷ [])) (sym with_next.is)

  apart_begun : (one next : Offer S) (offers : List (Offer S)) → are_alike one next ≡ false
      → by_key (one ∷ next ∷ offers) ≡ (one ∷ []) ∷ by_key (next ∷ offers)
  unfolding by_key
  apart_begun one next offers e =
      let with_next = begins_before next (by_key offers) in
      ap (before_keys one) with_next.is
      ∙ before_apart one next with_next.others with_next.later (are_alike one next) e
      ∙ ap (λ lists. (one ∷ []) ∷ lists) (sym with_next.is)

  alone : (one : Offer S) → by_key (one ∷ []) ≡ (one ∷ []) ∷ []
  unfolding by_key
  alone one = refl

  none : by_key {S = S} [] ≡ []
  unfolding by_key
  none = refl

  joined_twice : (front : List (Offer S)) (one : Offer S) (lists : List (List (Offer S)))
      → joined front (joined (one ∷ []) lists) ≡ joined (front ++ one ∷ []) lists
  joined_twice front one [] = refl
  joined_twice front one (list ∷ lists) = ap (λ l. l ∷ lists) (sym (append_assoc front (one ∷ []) list))

  -- so far all are for one key
  pub record AreOne (offers : List (Offer S)) (last : ℕ) : Type 0 where
    pub within : last < length offers
    pub is : by_key offers ≡ joined (take last offers) (by_key (drop last offers))

  pub first_is_one : (offers : List (Offer S)) → 0 < length offers → AreOne offers 0
  first_is_one [] some = absurd (omega arith)
  first_is_one (one ∷ offers) some =
      let with_one = begins one offers in
      record { within = some; is = with_one.is ∙ ap (joined []) (sym with_one.is) }

  from_here : (offers : List (Offer S)) (at : ℕ) (one : Offer S) → at < length offers → one ≡ get_or offers at one
      → drop at offers ≡ one ∷ drop (at + 1) offers
  from_here offers at one within is =
      rw add-one (drop-cons offers at one within ∙ ap (λ o. o ∷ drop (suc at) offers) (sym is))

  up_to_here : (offers : List (Offer S)) (at : ℕ) (one : Offer S) → at < length offers → one ≡ get_or offers at one
      → take (at + 1) offers ≡ take at offers ++ one ∷ []
  up_to_here offers at one within is =
      rw add-one (take-suc offers at one within ∙ ap (λ o. take at offers ++ o ∷ []) (sym is))

  -- with one more for the same key
  pub next_is_one : (offers : List (Offer S)) (last : ℕ) (one next : Offer S) → AreOne offers last → last + 1 < length offers
      → one ≡ get_or offers last one → next ≡ get_or offers (last + 1) next → are_alike one next ≡ true → AreOne offers (last + 1)
  next_is_one offers last one next are more one_is next_is alike =
      let rest : List (Offer S) = drop (last + 1 + 1) offers in
      let from_next : drop (last + 1) offers ≡ next ∷ rest = from_here offers (last + 1) next more next_is in
      let from_one : drop last offers ≡ one ∷ next ∷ rest =
      from_here offers last one are.within one_is ∙ ap (λ l. one ∷ l) from_next in
      record {
        within = more;
        is = are.is
            ∙ ap (λ l. joined (take last offers) (by_key l)) from_one
            ∙ ap (joined (take last offers)) (alike_joined one next rest alike)
            ∙ joined_twice (take last offers) one (by_key (next ∷ rest))
            ∙ ap (λ l. joined (take last offers ++ one ∷ []) (by_key l)) (sym from_next)
            ∙ ap (λ l. joined l (by_key (drop (last + 1) offers))) (sym (up_to_here offers last one are.within one_is));
      }

  -- one for another key is the first of the next list
  pub split_before : (offers : List (Offer S)) (last : ℕ) (one next : Offer S) → AreOne offers last → last + 1 < length offers
      → one ≡ get_or offers last one → next ≡ get_or offers (last + 1) next → are_alike one next ≡ false
      → by_key offers ≡ take (last + 1) offers ∷ by_key (drop (last + 1) offers)
  split_before offers last one next are more one_is next_is apart =
      let rest : List (Offer S) = drop (last + 1 + 1) offers in
      let from_next : drop (last + 1) offers ≡ next ∷ rest = from_here offers (last + 1) next more next_is in
      let from_one : drop last offers ≡ one ∷ next ∷ rest =
      from_here offers last one are.within one_is ∙ ap (λ l. one ∷ l) from_next in
      are.is
      ∙ ap (λ l. joined (take last offers) (by_key l)) from_one
      ∙ ap (joined (take last offers)) (apart_begun one next rest apart)
      ∙ ap (λ l. (take last offers ++ one ∷ []) ∷ by_key l) (sym from_next)
      ∙ ap (λ l. l ∷ by_key (drop (last + 1) offers)) (sym (up_to_here offers last one are.within one_is))

  -- at the end all are in one list
  last_alone : (offers rest : List (Offer S)) (last : ℕ) (d : Offer S) → last < length offers → length offers ≤ last + 1 → rest ≡ drop last offers
      → by_key rest ≡ rest ∷ []
  last_alone offers rest last d within end is =
      let from : drop last offers ≡ get_or offers last d ∷ drop (suc last) offers = drop-cons offers last d within in
      let none_left : drop (suc last) offers ≡ [] = drop_all (suc last) offers (omega arith) in
      let one : rest ≡ get_or offers last d ∷ [] = is ∙ from ∙ ap (λ l. get_or offers last d ∷ l) none_left in
      ap by_key one ∙ alone (get_or offers last d) ∙ ap (λ l. l ∷ []) (sym one)

  pub all_are_one : (offers : List (Offer S)) (last : ℕ) → AreOne offers last → length offers ≤ last + 1 → by_key offers ≡ offers ∷ by_key []
  all_are_one [] last are end = absurd (omega (arith, are.within))
  all_are_one (first ∷ offers) last are end =
      are.is
      ∙ ap (joined (take last (first ∷ offers))) (last_alone (first ∷ offers) (drop last (first ∷ offers)) last first are.within end refl)
      ∙ ap (λ l. l ∷ []) (take-append-drop last (first ∷ offers))
      ∙ ap (λ l. (first ∷ offers) ∷ l) (sym none)

  -- ---- what they are to the router

  pub none_chosen : (moment : ℕ) (sources : List (Source × Distance)) → chosen_rows {S = S} moment sources [] ≡ []
  none_chosen moment sources = ap (flat_map (chosen_of moment sources)) none

  pub first_chosen : (moment : ℕ) (sources : List (Source × Distance)) (offers alike after : List (Offer S)) (routes more all : List (ChosenRoute S))
      → by_key offers ≡ alike ∷ by_key after → more ≡ routes ++ chosen_of moment sources alike
      → routes ++ chosen_rows moment sources offers ≡ all → more ++ chosen_rows moment sources after ≡ all
  first_chosen moment sources offers alike after routes more all split is before =
      ap (λ l. l ++ chosen_rows moment sources after) is
      ∙ append_assoc routes (chosen_of moment sources alike) (chosen_rows moment sources after)
      ∙ ap (λ lists. routes ++ flat_map (chosen_of moment sources) lists) (sym split)
      ∙ before
