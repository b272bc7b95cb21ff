-- Rows laid over an answer, part by part.
use Rattle.std.proofs.Common.{◌≡◌, inl, inr, ℕ, List, [], ◌++◌, Option, Some, None, refl, sym, ◌∙◌, ap, subst}
use Rattle.babel_prefix.specs.Best.{Row, answer}
use Rattle.babel_prefix.specs.BestRow.{Matches, IsNoLonger, IsTable}
use Rattle.babel_prefix.specs.Covers.{BlockCovers}
use Rattle.babel_prefix.proofs.Members.{Listed}
use Rattle.babel_trie.specs.Rows.{NoneMatches, Overlays}
use Rattle.babel_prefix.proofs.Members.{Contains-from_Listed, Listed-append_left, Listed-append_right, Listed-append_cases}
use Rattle.babel_prefix.proofs.AnswerLaws.{IsTop, answer-top, top-from_answer, top_is_one}
use Rattle.babel_prefix.proofs.BestLaws.{best_from_top, none-matches, top_from_best}

module _ {V : Type 0} where
  -- the value of a matching row than which no matching row is longer
  pub overlays_top : (w : ℕ) (rows : List (Row V)) (d s : ℕ) (old new : Option V) (row : Row V) → IsTop w rows d s row → new ≡ Some row.value → Overlays w rows d s old new
  overlays_top w rows d s old new row top is = inl (row, best_from_top w rows d s row top, is)

  -- no rows change nothing
  pub overlays_none : (w : ℕ) (d s : ℕ) (old : Option V) → Overlays w [] d s old old
  overlays_none w d s old = inr ((λ row none m. none), refl)

  -- rows that do not match change nothing
  pub overlays_left : (w : ℕ) (xs ys : List (Row V)) (d s : ℕ) (old new : Option V) → NoneMatches w ys d s → Overlays w xs d s old new → Overlays w (xs ++ ys) d s old new
  overlays_left w xs ys d s old new never (inl (row, best, is)) =
      let top = top_from_best w xs d s row best in
      overlays_top w (xs ++ ys) d s old new row (record {
        listed = Listed-append_left xs ys row top.listed;
        matching = top.matching;
        longest = λ other t m. elim (Listed-append_cases xs ys other t) [ inl u ↦ top.longest other u m | inr u ↦ absurd (never other u m) ];
      }) is
  overlays_left w xs ys d s old new never (inr (none, is)) =
      inr ((λ row t m. elim (Listed-append_cases xs ys row t) [ inl u ↦ none row u m | inr u ↦ never row u m ]), is)

  pub overlays_right : (w : ℕ) (xs ys : List (Row V)) (d s : ℕ) (old new : Option V) → NoneMatches w xs d s → Overlays w ys d s old new → Overlays w (xs ++ ys) d s old new
  overlays_right w xs ys d s old new never (inl (row, best, is)) =
      let top = top_from_best w ys d s row best in
      overlays_top w (xs ++ ys) d s old new row (record {
        listed = Listed-append_right xs ys row top.listed;
        matching = top.matching;
        longest = λ other t m. elim (Listed-append_cases xs ys other t) [ inl u ↦ absurd (never other u m) | inr u ↦ top.longest other u m ];
      }) is
  overlays_right w xs ys d s old new never (inr (none, is)) =
      inr ((λ row t m. elim (Listed-append_cases xs ys row t) [ inl u ↦ never row u m | inr u ↦ none row u m ]), is)

  -- rows laid over what shorter rows made
  pub overlays_then : (w : ℕ) (xs ys : List (Row V)) (d s : ℕ) (old mid new : Option V) → ((x y : Row V) → Listed xs x → Listed ys y → Matches w d s x → Matches w d s y → IsNoLonger x y) →
      Overlays w xs d s old mid → Overlays w ys d s mid new → Overlays w (xs ++ ys) d s old new
  overlays_then w xs ys d s old mid new shorter first (inl (row, best, is)) =
      let top = top_from_best w ys d s row best in
      overlays_top w (xs ++ ys) d s old new row (record {
        listed = Listed-append_right xs ys row top.listed;
        matching = top.matching;
        longest = λ other t m. elim (Listed-append_cases xs ys other t) [ inl u ↦ shorter other row u top.listed m top.matching | inr u ↦ top.longest other u m ];
      }) is
  overlays_then w xs ys d s old mid new shorter first (inr (none, is)) =
      overlays_left w xs ys d s old new none (subst (Overlays w xs d s old) (sym is) first)

  -- what rows of a table make of no answer is their answer
  pub answer-overlays : (w : ℕ) (rows : List (Row V)) (d s : ℕ) (new : Option V) → IsTable w rows → Overlays w rows d s None new → new ≡ answer w rows d s
  answer-overlays w rows d s new t (inl (row, best, is)) =
      let top = top_from_best w rows d s row best in
      is ∙ sym (answer-top w rows d s row top (λ other too. ap (λ (r : Row V). r.value) (top_is_one w rows d s row other t top too)))
  answer-overlays w rows d s new t (inr (none, is)) = is ∙ sym (no_answer (answer w rows d s) refl)
    where
      no_answer : (o : Option V) → answer w rows d s ≡ o → o ≡ None
      no_answer None e = refl
      no_answer (Some v) e = let top = top-from_answer w rows d s v e in absurd (none top.0 top.1.listed top.1.matching)

  -- rows that say what is answered already change nothing
  pub overlays_same : (w : ℕ) (rows : List (Row V)) (d s : ℕ) (old : Option V) → IsTable w rows →
      ((row : Row V) → Listed rows row → BlockCovers w row.src s → old ≡ Some row.value) → Overlays w rows d s old old
  overlays_same w rows d s old t says = by (answer w rows d s) refl
    where
      by : (o : Option V) → answer w rows d s ≡ o → Overlays w rows d s old old
      by None e = inr ((λ row m. none-matches w rows d s row t e (Contains-from_Listed rows row m)), refl)
      by (Some v) e = let top = top-from_answer w rows d s v e in overlays_top w rows d s old old top.0 top.1 (says top.0 top.1.listed top.1.matching.1)
