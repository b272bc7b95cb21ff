-- How names are written, of interfaces and of addresses and router-ids: this project's own.
use Rattle.std.specs.Prelude.{ℕ, Bool, ◌==◌, ◌||◌, if◌then◌else◌, List, [], ◌∷◌, ◌++◌, codes}
use Rattle.std.specs.List.{flat_map}
use Rattle.std.specs.Char.{is_ascii_alphanumeric}
use Rattle.hex.specs.Hex.{encode_lower}

-- the octet of a name stands for itself: a letter, a digit, `.`, `-` or `_`
abbrev pub is_plain : ℕ → Bool
is_plain octet = is_ascii_alphanumeric octet || octet == 46 || octet == 45 || octet == 95

-- each octet of a name, as it is or as two lower-case hexadecimal digits after an escape
abbrev pub octet_text : (escape : List ℕ) → ℕ → List ℕ
octet_text escape octet = if is_plain octet then octet ∷ [] else escape ++ encode_lower (octet ∷ [])

abbrev pub escaped : (escape : List ℕ) → List ℕ → List ℕ
escaped escape name = flat_map (octet_text escape) name

-- `\x`, whose backslash is two in JSON
abbrev pub text_escape : List ℕ
text_escape = codes "\\x"

abbrev pub json_escape : List ℕ
json_escape = codes "\\\\x"

-- ` (NAME)`, or nothing where there is none
abbrev pub name_text : List ℕ → List ℕ
name_text [] = []
name_text (octet ∷ octets) =
    codes " (" ++ escaped text_escape (octet ∷ octets) ++ codes ")"

-- `"NAME"`, or `null`
abbrev pub name_json : List ℕ → List ℕ
name_json [] = codes "null"
name_json (octet ∷ octets) =
    codes "\"" ++ escaped json_escape (octet ∷ octets) ++ codes "\""
