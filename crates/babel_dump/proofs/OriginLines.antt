-- The lines of what senders originate, one after another.
use Rattle.std.proofs.Common.{◌≡◌, ℕ, Bool, true, cond, List, [], ◌∷◌, ◌++◌, flat_map, sym, ap, ◌∙◌, append_assoc}
use Rattle.babel_dump.specs.OriginText.{changes_of, differs}
use Rattle.babel_dump.proofs.OriginatedLaws.{All}
use Rattle.babel_dump.specs.declared.originated.OnSides.{OnSides}
use Rattle.babel_dump.specs.declared.originated.Origination.{Origination}

-- the lines so far, and those of what is left
pub lines_next : {A : Type 0} (line_of : A → List ℕ) (one : A) (left rest : List A) (text after all : List ℕ) → left ≡ one ∷ rest → text ++ flat_map line_of left ≡ all → after ≡ text ++ line_of one
    → after ++ flat_map line_of rest ≡ all
lines_next line_of one left rest text after all steps so_far pushed =
    ap (λ (t : List ℕ). t ++ flat_map line_of rest) pushed ∙ append_assoc text (line_of one) (flat_map line_of rest)
    ∙ ap (λ l. text ++ flat_map line_of l) (sym steps) ∙ so_far

-- a change that is kept
pub changes_next : (has_metric : Bool) (one : Origination × OnSides) (left rest list after all : All) → left ≡ one ∷ rest → list ++ changes_of has_metric left ≡ all
    → differs has_metric one.1 ≡ true → after ≡ list ++ one ∷ [] → after ++ changes_of has_metric rest ≡ all
changes_next has_metric one left rest list after all steps so_far kept pushed =
    ap (λ (l : All). l ++ changes_of has_metric rest) pushed ∙ append_assoc list (one ∷ []) (changes_of has_metric rest)
    ∙ ap (λ (b : Bool). list ++ cond b (one ∷ changes_of has_metric rest) (changes_of has_metric rest)) (sym kept)
    ∙ ap (λ (l : All). list ++ changes_of has_metric l) (sym steps) ∙ so_far
