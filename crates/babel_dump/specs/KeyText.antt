-- The line of a key, as `sha256sum` writes it, or as JSON (RFC 8259): this project's own. The
-- digest is FIPS 180-4's.
use Rattle.std.specs.Prelude.{ℕ, Bool, ◌==◌, nat_lt, if◌then◌else◌, List, [], ◌∷◌, ◌++◌, codes}
use Rattle.std.specs.Prelude.{Option, None, Some}
use Rattle.std.specs.List.{flat_map, list_any}
use Rattle.std.specs.Option.{is_some, unwrap_or}
use Rattle.hex.specs.Hex.{encode_lower}
use Rattle.sha2.specs.Sha256.{sha256}
use Rattle.babel_dump.specs.InFormat.{in_format}
use Rattle.babel_dump.specs.JsonText.{quoted}
use Rattle.babel_dump.specs.RunText.{newline}
use Rattle.babel_dump.specs.declared.format.Format.{Format}

-- what stands for a backslash, a line feed and a carriage return of a file's name
abbrev pub name_escape : ℕ → Option (List ℕ)
name_escape octet =
    if octet == 92 then Some (codes "\\\\")
    else (if octet == 10 then Some (codes "\\n")
    else (if octet == 13 then Some (codes "\\r") else None))

-- the name with these escaped
abbrev pub file_text : List ℕ → List ℕ
file_text file = flat_map (λ octet. unwrap_or (name_escape octet) (octet ∷ [])) file

-- it has one of these
abbrev pub has_escape : List ℕ → Bool
has_escape file = list_any (λ octet. is_some (name_escape octet)) file

-- `HEX  FILE`: the key of these octets, after a backslash where the name has an escape
abbrev pub key_line : (octets file : List ℕ) → List ℕ
key_line octets file =
    (if has_escape file then codes "\\" else [])
    ++ encode_lower (sha256 octets) ++ codes "  " ++ file_text file ++ newline

-- RFC 8259, 7: a quotation mark, a backslash and control characters are escaped
abbrev pub json_octet : ℕ → List ℕ
json_octet octet =
    if octet == 34 then codes "\\\""
    else (if octet == 92 then codes "\\\\"
    else (if nat_lt octet 32 then codes "\\u00" ++ encode_lower (octet ∷ []) else octet ∷ []))

-- `"file":"FILE"`
abbrev pub file_member : List ℕ → List ℕ
file_member file = codes "\"file\":" ++ quoted (flat_map json_octet file)

-- `{"key":"HEX",..}`, with these members after it
abbrev pub key_json : (octets members : List ℕ) → List ℕ
key_json octets members =
    codes "{\"key\":\"" ++ encode_lower (sha256 octets) ++ codes "\"," ++ members ++ codes "}"
    ++ newline

-- what names a file, and the line of a key of what is named so
abbrev pub file_in : Format → List ℕ → List ℕ
file_in format file = in_format format file (file_member file)

abbrev pub key_in : Format → (octets named : List ℕ) → List ℕ
key_in format octets named = in_format format (key_line octets named) (key_json octets named)
