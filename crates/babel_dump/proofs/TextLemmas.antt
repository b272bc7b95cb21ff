-- Pieces of a text, one after the other.
use Rattle.std.proofs.Common.{ℕ, List, ◌++◌, ◌∙◌, ap, append_assoc, ◌≡◌}

-- two pieces that were appended one after the other
pub appended : (a b c x y : List ℕ) → b ≡ a ++ x → c ≡ b ++ y → c ≡ a ++ (x ++ y)
appended a b c x y first next = next ∙ ap (λ (l : List ℕ). l ++ y) first ∙ append_assoc a x y
