-- Who is silent is told among what ends, and changes nothing of it.
use Rattle.std.proofs.Common.{◌≡◌, ℕ, ◌≤◌, Bool, true, false, cond, List, [], ◌∷◌, ◌++◌, map, Option, Some, None, refl, sym, ap, subst, ◌∙◌, arith, append_assoc}
use Rattle.std.specs.declared.cmp.Ordering.{Ordering}
use Rattle.std.specs.Cmp.{IsTotalOrder}
use Rattle.std.specs.List.{filter}
use Rattle.std.proofs.lemmas.List.{append-nil}
use Rattle.std.proofs.lemmas.Map.Lookups.{CmpEqualImpliesEq}
use Rattle.babel_tlv.specs.declared.start.Start.{Start}
use Rattle.babel_tlv.specs.declared.view.View.{View}
use Rattle.babel_timeline.specs.declared.change.Change.{Change}
use Rattle.babel_timeline.specs.declared.telling.Telling.{Telling}
use Rattle.babel_timeline.specs.declared.telling.Telling.TheVariants as tellings
use Rattle.babel_timeline.specs.Accounts.{Said}
use Rattle.babel_timeline.specs.Laws.{without}
use Rattle.babel_timeline.specs.Rows.{Rows}
use Rattle.babel_timeline.specs.Telling.{AllEnd, AskedFor, Hears, IsTold, Tells, TellsEnds, is_of_rows, of_rows}
use Rattle.babel_timeline.proofs.TellingLaws.{EndsTo, ends_tell, is_told-then, tells_then}

module _ {S : Type 0} where
  filter-append : (p : Telling S → Bool) (xs ys : List (Telling S)) → filter p (xs ++ ys) ≡ filter p xs ++ filter p ys
  filter-append p [] ys = refl
  filter-append p (x ∷ xs) ys = by (p x) (filter-append p xs ys)
    where
      by : (b : Bool) → filter p (xs ++ ys) ≡ filter p xs ++ filter p ys → cond b (x ∷ filter p (xs ++ ys)) (filter p (xs ++ ys)) ≡ cond b (x ∷ filter p xs) (filter p xs) ++ filter p ys
      by true again = ap (λ (t : List (Telling S)). x ∷ t) again
      by false again = again

  changes_stay : (changes : List (Change S)) → filter is_of_rows (map tellings.Change changes) ≡ map tellings.Change changes
  changes_stay [] = refl
  changes_stay (told ∷ changes) = ap (λ (t : List (Telling S)). tellings.Change told ∷ t) (changes_stay changes)

  -- who is silent or returns is not told of rows
  pub silent_adds : (told : List (Telling S)) (time : ℕ) (sender : S) (since routes : ℕ) → of_rows None (told ++ tellings.Silent time sender since routes ∷ []) ≡ of_rows None told
  silent_adds told time sender since routes = filter-append is_of_rows told (tellings.Silent time sender since routes ∷ []) ∙ append-nil (filter is_of_rows told)

  pub return_adds : (told : List (Telling S)) (time : ℕ) (sender : S) → of_rows None (told ++ tellings.Returns time sender ∷ []) ≡ of_rows None told
  return_adds told time sender = filter-append is_of_rows told (tellings.Returns time sender ∷ []) ∙ append-nil (filter is_of_rows told)

module _ {S : Type 0} (cmp : S → S → Ordering) where
  told_of_rows : (asked : AskedFor) (changes : List (Change S)) (rows after : Rows S) (old new : List (Telling S)) → IsTold cmp asked changes rows after old new
      → IsTold cmp asked changes rows after (of_rows asked old) (of_rows asked new)
  told_of_rows None changes rows after old new told =
      ap (filter is_of_rows) told ∙ filter-append is_of_rows old (map tellings.Change changes) ∙ ap (λ (t : List (Telling S)). filter is_of_rows old ++ t) (changes_stay changes)
  told_of_rows (Some pair) changes rows after old new told = told

  module _ (factor : Option ℕ) (asked : AskedFor) where
    pub ends_of_rows : (until : ℕ) (rows after : Rows S) (old new : List (Telling S)) → TellsEnds cmp factor asked until rows after old new
        → TellsEnds cmp factor asked until rows after (of_rows asked old) (of_rows asked new)
    ends_of_rows until rows after old new ends =
        record { changes = ends.changes; ends = ends.ends; told = told_of_rows asked ends.changes rows after old new ends.told }

    pub tells_of_rows : (more : List (Said S)) (time : ℕ) (rows after : Rows S) (old new : List (Telling S)) → Tells cmp factor asked more time rows after old new
        → Tells cmp factor asked more time rows after (of_rows asked old) (of_rows asked new)
    tells_of_rows more time rows after old new tells =
        record { changes = tells.changes; account = tells.account; said_last = tells.said_last; told = told_of_rows asked tells.changes rows after old new tells.told }

  all_end-then : (factor : Option ℕ) (earlier until : ℕ) → earlier ≤ until → (rows mid after : Rows S) (changes later : List (Change S)) → AllEnd cmp factor earlier rows changes mid
      → AllEnd cmp factor until mid later after → AllEnd cmp factor until rows (changes ++ later) after
  all_end-then factor earlier until le rows mid after [] later ends rest = subst (λ (r : Rows S). AllEnd cmp factor until r later after) (sym ends.0) rest
  all_end-then factor earlier until le rows mid after (told ∷ changes) later ends rest =
      (ends.0, omega (arith, le, ends.1), ends.2, all_end-then factor earlier until le (without cmp told.subject rows) mid after changes later ends.3 rest)

module _ {S : Type 0} (cmp : S → S → Ordering) (total : IsTotalOrder cmp) (exact : CmpEqualImpliesEq cmp) (factor : Option ℕ) (asked : AskedFor) where
  pub ends_to-then : (earlier until : ℕ) → earlier ≤ until → (rows mid after : Rows S) (a b c : List (Telling S)) → EndsTo cmp factor asked until rows mid a b
      → TellsEnds cmp factor asked earlier mid after b c → EndsTo cmp factor asked until rows after a c
  ends_to-then earlier until le rows mid after a b c to ends = record {
    changes = to.changes ++ ends.changes;
    leads = λ later last rest. subst (λ (cs : List (Change S)). AllEnd cmp factor until rows cs last) (sym (append_assoc to.changes ends.changes later))
        (to.leads (ends.changes ++ later) last (all_end-then cmp factor earlier until le mid after last ends.changes later ends.ends rest));
    told = is_told-then cmp total exact factor asked asked rows mid after to.changes ends.changes a b c to.told ends.told;
  }

  pub ends_all : (until : ℕ) (rows mid after : Rows S) (a b c : List (Telling S)) → EndsTo cmp factor asked until rows mid a b
      → TellsEnds cmp factor asked until mid after b c → TellsEnds cmp factor asked until rows after a c
  ends_all until rows mid after a b c to ends = record {
    changes = to.changes ++ ends.changes;
    ends = to.leads ends.changes after ends.ends;
    told = is_told-then cmp total exact factor asked asked rows mid after to.changes ends.changes a b c to.told ends.told;
  }

  -- what ends by the time of a packet is told before it
  pub hears_then : (view : View) (sender : S) (start : Start) (time at : ℕ) (packet : List ℕ) (rows mid after : Rows S) (a b c : List (Telling S))
      → TellsEnds cmp factor asked time rows mid (of_rows asked a) (of_rows asked b) → Hears cmp factor asked view sender start time at packet mid after b c
      → Hears cmp factor asked view sender start time at packet rows after (of_rows asked a) (of_rows asked c)
  hears_then view sender start time at packet rows mid after a b c ends hears = record {
    tlvs = hears.tlvs;
    rest = hears.rest;
    whole = hears.whole;
    placed = hears.placed;
    tells = tells_then cmp total exact factor asked [] _ time rows mid after (of_rows asked a) (of_rows asked b) (of_rows asked c)
        (ends_tell cmp total exact factor asked time rows mid (of_rows asked a) (of_rows asked b) ends) (tells_of_rows cmp factor asked _ time mid after b c hears.tells);
  }
