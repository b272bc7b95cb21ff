-- The pairs of addresses that a text asks for, one on a line. No RFC speaks of such a text: it is
-- this project's own.
use Rattle.std.specs.Prelude.{ℕ, ◌≡◌, ◌+◌, ◌==◌, Bool, true, false, not, nat_lt, List, [], ◌∷◌}
use Rattle.std.specs.Prelude.{◌++◌, length, map, filter, slice_index}
use Rattle.std.specs.Char.{is_ascii_whitespace}
use Rattle.std.specs.List.{AllZip, slice_split}
use Rattle.std.specs.Str.{IsUtf8}
use Rattle.babel_prefix.specs.Text.{AddressText}
use Rattle.babel_dump.specs.declared.addr_pair.AddrPair.{AddrPair}
use Rattle.babel_dump.specs.declared.asked_pairs.Asked.{Asked}
use Rattle.babel_dump.specs.declared.asked_pairs.Asked.TheVariants as asks

-- the lines of a text: what is between its line feeds
abbrev pub lines_of : List ℕ → List (List ℕ)
lines_of text = slice_split (λ octet. octet == 10) text

-- the words of a line: what is between its blanks
abbrev pub words_of : List ℕ → List (List ℕ)
words_of line = filter (λ word. nat_lt 0 (length word)) (slice_split is_ascii_whitespace line)

-- a line is skipped that has no words, or whose first begins with `#`
abbrev pub is_passed_over : List (List ℕ) → Bool
is_passed_over [] = true
is_passed_over (word ∷ rest) = slice_index word 0 == 35

-- two words say a pair, the destination's address and the source's, of one family
pub record SaysPair (words : List (List ℕ)) (pair : AddrPair) : Type 0 where
  pub dst : List ℕ
  pub src : List ℕ
  pub are : words ≡ dst ∷ src ∷ []
  pub are_texts : IsUtf8 dst × IsUtf8 src
  pub is_dst : AddressText dst pair.dst
  pub is_src : AddressText src pair.src

-- what the words of a line ask for
abbrev pub AsksBy : List (List ℕ) → Asked → Type 0
AsksBy words asks.Nothing = is_passed_over words ≡ true
AsksBy words (asks.Pair pair) = (is_passed_over words ≡ false) × SaysPair words pair
AsksBy words asks.Wrong =
    (is_passed_over words ≡ false) × ((pair : AddrPair) → SaysPair words pair → ⊥)

-- the words of each line that is not skipped
abbrev pub asking : List (List ℕ) → List (List (List ℕ))
asking lines = filter (λ words. not (is_passed_over words)) (map words_of lines)

-- lines ask for these pairs: each that is not skipped says one, in this order
abbrev pub AskFor : List (List ℕ) → List AddrPair → Type 0
AskFor lines pairs = AllZip SaysPair (asking lines) pairs

-- of the lines that are not skipped this is the first that says no pair, counted from 1
pub record IsFirstWrong (lines : List (List ℕ)) (at : ℕ) : Type 0 where
  pub before : List (List ℕ)
  pub line : List ℕ
  pub after : List (List ℕ)
  pub cut : lines ≡ before ++ line ∷ after
  pub counted : at ≡ length before + 1
  pub pairs : List AddrPair
  pub asked : AskFor before pairs
  pub wrong : AsksBy (words_of line) asks.Wrong
