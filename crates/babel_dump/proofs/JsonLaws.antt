-- Lists of JSON values, one after the other.
use Rattle.std.proofs.Common.{◌≡◌, ℕ, ◌+◌, ◌<◌, List, [], ◌∷◌, ◌++◌, length, take, get_or, Option, arith, refl, ap, ◌∙◌, sym}
use Rattle.std.proofs.lemmas.Grind.{common_steps}
use Rattle.std.proofs.lemmas.List.{take_more}
use Rattle.std.proofs.lemmas.List.Elements.{filter_map-append}
use Rattle.std.specs.Prelude.{codes}
use Rattle.std.specs.List.{filter_map}
use Rattle.std.specs.Option.{option_map}
use Rattle.babel_dump.specs.JsonText.{comma_separated, counted_object, counted_objects}

-- what stands between these values and one more
abbrev pub comma_after : List (List ℕ) → List ℕ
comma_after [] = []
comma_after (value ∷ values) = codes ","

pub comma_separated-more : (values : List (List ℕ)) (value : List ℕ)
    → comma_separated (values ++ value ∷ []) ≡ (comma_separated values ++ comma_after values) ++ value
comma_separated-more [] value = grind (arith, common_steps)
comma_separated-more (first ∷ values) value = grind (arith, common_steps)

pub comma_after-more : (values : List (List ℕ)) (value : List ℕ) → comma_after (values ++ value ∷ []) ≡ codes ","
comma_after-more [] value = refl
comma_after-more (first ∷ values) value = refl

-- the text of one value more
pub text_more : (before text comma value after : List ℕ) (values more : List (List ℕ)) → text ≡ before ++ comma_separated values
    → comma ≡ comma_after values → more ≡ values ++ value ∷ [] → after ≡ text ++ (comma ++ value) → after ≡ before ++ comma_separated more
text_more before text comma value after values more is_text is_comma is_more is_after =
    let separated = comma_separated-more values value in
    grind (arith, common_steps)

-- one reason more, for which something is counted or nothing is
pub objects_more : {R : Type 0} (name : R → List ℕ) (counted : R → Option (ℕ × ℕ)) (reasons : List R) (i : ℕ) (reason : R) (count : Option (ℕ × ℕ)) → i < length reasons
    → reason ≡ get_or reasons i reason → count ≡ counted reason
    → counted_objects name counted (take (i + 1) reasons)
    ≡ counted_objects name counted (take i reasons) ++ filter_map (λ found. found) (option_map (counted_object (name reason)) count ∷ [])
objects_more {R} name counted reasons i reason count within reason_is is =
    let object : R → Option (List ℕ) = λ r. option_map (counted_object (name r)) (counted r) in
    ap (filter_map object) (take_more reasons i reason within ∙ ap (λ (r : R). take i reasons ++ r ∷ []) (sym reason_is))
    ∙ filter_map-append object (take i reasons) (reason ∷ [])
    ∙ ap (λ (found : Option (ℕ × ℕ)). counted_objects name counted (take i reasons) ++ filter_map (λ value. value) (option_map (counted_object (name reason)) found ∷ [])) (sym is)
