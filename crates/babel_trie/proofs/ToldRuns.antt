-- What two passes have come to, told apart, is what their rows answer differently.
use Rattle.std.proofs.Common.{◌≡◌, inl, inr, ℕ, ◌^◌, ◌<◌, ◌≤◌, List, Option, Some, None, refl, sym, subst, arith}
use Rattle.babel_prefix.specs.Best.{Row}
use Rattle.babel_trie.specs.Boxes.{Answers, HasEqualityTest, IsBoxList, SameAnswers}
use Rattle.babel_trie.specs.Differences.{TellsApart, IsDifference, AreDifferences}
use Rattle.babel_trie.specs.Pass.{IsFilled}
use Rattle.babel_trie.specs.Shape.{value_at}
use Rattle.babel_trie.specs.Sound.{KeepsNodes}
use Rattle.babel_trie.specs.Told.{AreTold}
use Rattle.babel_trie.specs.declared.differing.Differing.{Differing}
use Rattle.babel_trie.specs.declared.runs.Change.{Change}
use Rattle.babel_trie.specs.declared.table.Node.{Node}
use Rattle.babel_trie.specs.declared.table.Sources.{Sources}
use Rattle.babel_trie.proofs.BoxesExist.{boxes_exist}
use Rattle.babel_trie.proofs.BoxLaws.{same_option}
use Rattle.babel_trie.proofs.Decided.{Decided}
use Rattle.babel_trie.proofs.DifferenceLaws.{differing_test}
use Rattle.babel_trie.proofs.AgreeLaws.{IsAt}
use Rattle.babel_trie.proofs.RunLaws.{HasValues, Says, says-more}
use Rattle.babel_trie.proofs.TellLaws.{one_told}

module _ {V : Type 0} where
  tell : (left right : Option V) → Decided (left ≡ right) → (told : Option (Differing V)) × TellsApart left right told
  tell left right (inl same) = (None, same)
  tell left right (inr differ) = (Some (record { left = left; right = right }), (differ, refl, refl))

  -- functions that agree with two others differ as those do
  pub difference-same : (w : ℕ) (f g f' g' : Answers V) (h : Answers (Differing V)) → SameAnswers w f f' → SameAnswers w g g' → IsDifference w f g h → IsDifference w f' g' h
  difference-same w f g f' g' h p q is d s d_in s_in =
      subst (λ v. TellsApart v (g' d s) (h d s)) (p d s d_in s_in) (subst (λ v. TellsApart (f d s) v (h d s)) (q d s d_in s_in) (is d s d_in s_in))

  module _ (test : HasEqualityTest V) (f g : Answers V) where
    -- what two functions answer differently, as a function
    pub apart : Answers (Differing V)
    apart d s = (tell (f d s) (g d s) (same_option test (f d s) (g d s))).0

    pub is_apart : (w : ℕ) → IsDifference w f g apart
    unfolding apart
    is_apart w d s d_in s_in = (tell (f d s) (g d s) (same_option test (f d s) (g d s))).1

    -- it has boxes
    pub boxes_apart : (w : ℕ) → (boxes : List (Row (Differing V))) × IsBoxList w apart boxes
    boxes_apart w = boxes_exist (differing_test test) w apart

    -- so there are differences
    pub differences_exist : (w : ℕ) → (boxes : List (Row (Differing V))) × AreDifferences w f g boxes
    differences_exist w = let boxes = boxes_apart w in (boxes.0, record { difference = apart; is_difference = is_apart w; box_list = boxes.1 })

  module _ {w at : ℕ} {f g : Answers V} {nodes : List (Node (Option V))} {here there : Sources (Option V)} {Quiet OtherQuiet : ℕ → Type 0}
      (l : IsAt w at f nodes here Quiet) (r : IsAt w at g nodes there OtherQuiet) where
    -- what tells apart what both passes have come to is what the rows answer differently, up to the next change of either
    pub told-values : (h : Answers (Differing V)) → IsDifference w f g h →
        (differing : List (Node (Option (Differing V)))) (s : Sources (Option (Differing V))) →
        AreTold nodes here there differing s → (d : ℕ) → at ≤ d → d < 2 ^ w → Quiet d → OtherQuiet d → HasValues w (h d) differing s
    told-values h is differing s told d le d_in quiet other_quiet =
        let at = told l.held.trie r.held.trie l.held.stands r.held.stands in
        record {
          held = record { trie = at.0; stands = at.1; fits = at.2.fits w l.held.fits r.held.fits; reduced = at.2.reduced };
          values_are = λ src src_in.
              let here = subst (λ v. TellsApart v (value_at r.held.trie w src) (value_at at.0 w src)) (sym (l.answers d le d_in quiet src src_in)) (at.2.values w src) in
              let both = subst (λ v. TellsApart (f d src) v (value_at at.0 w src)) (sym (r.answers d le d_in other_quiet src src_in)) here in
              one_told (f d src) (g d src) (value_at at.0 w src) (h d src) both (is d src d_in src_in);
        }

    -- so the list says it up to there, once it says what tells them apart
    pub told-more : (h : Answers (Differing V)) → IsDifference w f g h →
        (to : ℕ) (old new : List (Node (Option (Differing V)))) (list after : List (Change (Sources (Option (Differing V))))) (s : Sources (Option (Differing V))) →
        KeepsNodes old new → AreTold nodes here there new s → IsFilled at to s list after → to ≤ 2 ^ w →
        ((d : ℕ) → d < to → Quiet d × OtherQuiet d) → Says w at h old list → Says w to h new after
    told-more h is to old new list after s keeps told filled to_in quiet says =
        says-more w at to h old new list after s keeps filled (λ d le lt. told-values h is new s told d le (omega (arith, to_in)) (quiet d lt).0 (quiet d lt).1) says
