-- A canonical text that is being written, a pair at a time: this project's own.
use Rattle.std.specs.Prelude.{◌≡◌, ℕ, ◌≤◌, List, [], ◌∷◌, ◌++◌, length}
use Rattle.std.specs.List.{flat_map}
use Rattle.babel_tlv.specs.Framing.{framed}
use Rattle.babel_tlv.specs.Pair.{Pair}
use Rattle.babel_tlv.specs.Group.{body_of, ArePacked, IsCanonicalText}
use Rattle.babel_tlv.specs.Writing.{written_after}
use Rattle.babel_canon.specs.declared.text.Text.{Text}

-- the earlier pairs, the latest first, after further ones
abbrev pub latest_first : List Pair → List Pair → List Pair
latest_first earlier [] = earlier
latest_first earlier (pair ∷ pairs) = latest_first (pair ∷ earlier) pairs

-- The text has these pairs: packets that are closed, and after them the last one, which can take
-- more. Whatever pairs come next, what the last packet's pairs and these are packed into makes the
-- text of all.
pub record IsTextOf (body : ℕ) (text : Text) (pairs : List Pair) : Type 0 where
  pub front : List ℕ
  pub last : List Pair
  pub limit : text.body ≡ body
  pub octets : text.octets.items ≡ front ++ framed (body_of last)
  pub at : text.at ≡ length front
  pub long : text.len ≡ length (body_of last)
  pub fits : length (body_of last) ≤ body
  pub writing : text.writing ≡ written_after (latest_first [] last)
  pub none : last ≡ [] → (front ≡ []) × (pairs ≡ [])
  pub goes_on :
      (more : List Pair) (packets : List (List Pair)) → ArePacked body (last ++ more) packets
      → IsCanonicalText body (pairs ++ more)
      (front ++ flat_map (λ packet. framed (body_of packet)) packets)
