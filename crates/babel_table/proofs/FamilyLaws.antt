-- The rows of one family among those of both.
use Rattle.std.proofs.Common.{◌≡◌, Bool, true, false, cond, List, [], ◌∷◌, ◌++◌, refl, sym, ap, ◌∙◌}
use Rattle.std.proofs.lemmas.List.{append-nil}
use Rattle.std.proofs.lemmas.List.Elements.{filter-append}
use Rattle.babel_prefix.specs.declared.family.Family.{Family}
use Rattle.babel_prefix.specs.declared.family.Family.TheVariants.{V4, V6}
use Rattle.babel_prefix.specs.Width.{same_family}
use Rattle.babel_tlv.specs.Pair.{Pair}
use Rattle.babel_table.specs.Compact.{AreOf}
use Rattle.babel_table.specs.TableRows.{family_rows}

abbrev is_of : Family → Pair → Bool
is_of family row = same_family row.0.dst.address.family family

all_of : (family : Family) (rows : List Pair) → same_family family family ≡ true → AreOf family rows → family_rows family rows ≡ rows
all_of family [] same are = refl
all_of family (row ∷ rows) same are =
    ap (λ (f : Family). cond (same_family f family) (row ∷ family_rows family rows) (family_rows family rows)) are.0
    ∙ ap (λ (b : Bool). cond b (row ∷ family_rows family rows) (family_rows family rows)) same
    ∙ ap (λ (rs : List Pair). row ∷ rs) (all_of family rows same are.1)

none_of : (family other : Family) (rows : List Pair) → same_family other family ≡ false → AreOf other rows → family_rows family rows ≡ []
none_of family other [] apart are = refl
none_of family other (row ∷ rows) apart are =
    ap (λ (f : Family). cond (same_family f family) (row ∷ family_rows family rows) (family_rows family rows)) are.0
    ∙ ap (λ (b : Bool). cond b (row ∷ family_rows family rows) (family_rows family rows)) apart
    ∙ none_of family other rows apart are.1

pub of_v4 : (v4 v6 : List Pair) → AreOf V4 v4 → AreOf V6 v6 → v4 ++ [] ≡ family_rows V4 (v4 ++ v6)
of_v4 v4 v6 first second =
    sym (filter-append (is_of V4) v4 v6 ∙ ap (λ (rs : List Pair). rs ++ family_rows V4 v6) (all_of V4 v4 refl first) ∙ ap (λ (rs : List Pair). v4 ++ rs) (none_of V4 V6 v6 refl second))

pub of_v6 : (v4 v6 : List Pair) → AreOf V4 v4 → AreOf V6 v6 → v6 ≡ family_rows V6 (v4 ++ v6)
of_v6 v4 v6 first second =
    sym (filter-append (is_of V6) v4 v6 ∙ ap (λ (rs : List Pair). rs ++ family_rows V6 v6) (none_of V6 V4 v4 refl first) ∙ all_of V6 v6 refl second)

-- the rows of either family are those of the family among all
pub rows-v4 : (family : Family) (v4 v6 rows : List Pair) → family ≡ V4 → v4 ++ v6 ≡ rows → AreOf V4 v4 → AreOf V6 v6 → v4 ≡ family_rows family rows
rows-v4 family v4 v6 rows is all first second = rw (is, ← all) (sym (append-nil v4) ∙ of_v4 v4 v6 first second)

pub rows-v6 : (family : Family) (v4 v6 rows : List Pair) → family ≡ V6 → v4 ++ v6 ≡ rows → AreOf V4 v4 → AreOf V6 v6 → v6 ≡ family_rows family rows
rows-v6 family v4 v6 rows is all first second = rw (is, ← all) (of_v6 v4 v6 first second)
