-- A packet that is put after others (RFC 8966, 4.2), and the laws of the text, which is this
-- project's own.
use Rattle.std.specs.Prelude.{◌≡◌, ℕ, List, ◌∷◌, ◌++◌, length}
use Rattle.std.specs.Int.{w16, to_be_bytes}
use Rattle.std.specs.List.{AllByRecursion}
use Rattle.babel_tlv.specs.Pair.{Pair}
use Rattle.babel_tlv.specs.Pairs.{IsPair}
use Rattle.babel_tlv.specs.Group.{IsCanonicalText}
use Rattle.babel_canon.specs.Sizes.{IsBodySize}

-- a header that says this length, and a body
abbrev pub headed : ℕ → List ℕ → List ℕ
headed len body = 42 ∷ 2 ∷ to_be_bytes w16 len ++ body

-- a header at this offset that says some length, with a body after it, now says this length
abbrev pub HasLength : ℕ → ℕ → List ℕ → List ℕ → Type 0
HasLength at len old new =
    (front body : List ℕ) (before : ℕ) → length front ≡ at → old ≡ front ++ headed before body →
    new ≡ front ++ headed len body

-- pairs have exactly one text
pub record HaveOneText (body : ℕ) (pairs : List Pair) : Type 0 where
  pub text : List ℕ
  pub is_text : IsCanonicalText body pairs text
  pub one : (other : List ℕ) → IsCanonicalText body pairs other → other ≡ text

abbrev pub TextIsOne : Type 0
TextIsOne = (body : ℕ) (pairs : List Pair) → IsBodySize body → AllByRecursion IsPair pairs →
    HaveOneText body pairs
