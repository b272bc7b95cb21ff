-- Router-ids in words, as `--id` and the text of `--names` have them: this project's own.
use Rattle.std.specs.Prelude.{ℕ, Bool, ◌==◌, ◌&&◌, if◌then◌else◌, List, [], ◌∷◌, length, map}
use Rattle.std.specs.Prelude.{slice_index, Option, None, Some}
use Rattle.std.specs.Result.{result_ok}
use Rattle.hex.specs.Hex.{decode_sized}

-- 8 pairs with `:` between each two
abbrev pub is_divided : List ℕ → Bool
is_divided word = length word == 23 && slice_index word 2 == 58 && slice_index word 5 == 58
    && slice_index word 8 == 58 && slice_index word 11 == 58 && slice_index word 14 == 58
    && slice_index word 17 == 58 && slice_index word 20 == 58

-- the digits of these
abbrev pub undivided : List ℕ → Option (List ℕ)
undivided word = if is_divided word then Some (map (slice_index word)
    (0 ∷ 1 ∷ 3 ∷ 4 ∷ 6 ∷ 7 ∷ 9 ∷ 10 ∷ 12 ∷ 13 ∷ 15 ∷ 16 ∷ 18 ∷ 19 ∷ 21 ∷ 22 ∷ [])) else None

-- all digits of a word
abbrev pub digits_in : Option (List ℕ) → (word : List ℕ) → List ℕ
digits_in None word = word
digits_in (Some digits) word = digits

-- 16 hexadecimal digits in either case are a router-id, and 8 pairs with `:` between each two
abbrev pub router_id_of : List ℕ → Option (List ℕ)
router_id_of word = result_ok (decode_sized (digits_in (undivided word) word) 8)
