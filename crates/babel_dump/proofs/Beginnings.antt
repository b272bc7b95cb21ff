-- What an input is, by its first octets.
use Rattle.std.proofs.Common.{◌≡◌, ◌⊎◌, ℕ, List, length, take, Option, ap, ◌∙◌, inl, inr}
use Rattle.std.specs.Io.KnownBytes.{IsAtEnd}
use Rattle.std.proofs.Math.Seq.{take-length}

-- where as many were read as there is room for, the octets that were read are so many
pub enough_read : (n : ℕ) (first : List ℕ) (rest : Option (List ℕ)) → length first ≡ 64 → (n ≡ length first) ⊎ IsAtEnd rest → (length (take n first) ≡ 64) ⊎ IsAtEnd rest
enough_read n first rest size (inl all) = inl (ap (λ (k : ℕ). length (take k first)) all ∙ ap (λ (xs : List ℕ). length xs) (take-length first) ∙ size)
enough_read n first rest size (inr end) = inr end
