-- Parts of texts that functions inside make: this project's own.
use Rattle.std.specs.Prelude.{ℕ, not, ◌==◌, List, [], ◌∷◌, ◌++◌, codes}
use Rattle.std.specs.List.{filter, flat_map}
use Rattle.hex.specs.Hex.{encode_lower}
use Rattle.babel_capture.specs.declared.tallies.Origin.{Origin}
use Rattle.babel_capture.specs.declared.tallies.Tally.{Tally}
use Rattle.babel_tlv.specs.declared.reason.Reason.{Reason}
use Rattle.babel_table.specs.Counts.{Counts}
use Rattle.babel_dump.specs.CaptureText.{sender_end, sender_end_json, sender_front}
use Rattle.babel_dump.specs.CaptureText.{sender_front_json}
use Rattle.babel_dump.specs.Ignored.{ignored_for}
use Rattle.babel_dump.specs.InFormat.{in_format}
use Rattle.babel_dump.specs.JsonText.{same_json}
use Rattle.babel_dump.specs.RunText.{ignored_line, newline, same_text}
use Rattle.babel_dump.specs.declared.format.Format.{Format}
use Rattle.babel_dump.specs.declared.format.Format.TheVariants as formats

-- two lower-case hexadecimal digits for each octet
abbrev pub hex_digits : List ℕ → List ℕ
hex_digits octets = encode_lower octets

-- the octets in hexadecimal, on a line
abbrev pub hex_text : List ℕ → List ℕ
hex_text octets = hex_digits octets ++ newline

-- a line for each of these reasons that occurred
abbrev pub ignored_lines : Counts → List Reason → List ℕ
ignored_lines counts reasons =
    flat_map (λ reason. ignored_line reason (ignored_for counts reason)) reasons

-- those that are not 0
abbrev pub nonzero : List ℕ → List ℕ
nonzero numbers = filter (λ number. not (number == 0)) numbers

-- what stands before the octets of a name, or in place of one, and after them
abbrev pub opening : Format → (name : List ℕ) → List ℕ
opening format [] = in_format format [] (codes "null")
opening format (octet ∷ octets) = in_format format (codes " (") (codes "\"")

abbrev pub closing : Format → (name : List ℕ) → List ℕ
closing format [] = []
closing format (octet ∷ octets) = in_format format (codes ")") (codes "\"")

-- the parts of a sender's line before the octets of the name and after them
abbrev pub to_name : Format → Origin → (name : List ℕ) → List ℕ
to_name (formats.Text style) origin name =
    sender_front style.spelling origin ++ opening (formats.Text style) name
to_name (formats.Json style) origin name =
    sender_front_json style.spelling origin ++ opening (formats.Json style) name

abbrev pub after_name : Format → Origin × Tally → (name : List ℕ) → List ℕ
after_name format sender name =
    closing format name
    ++ in_format format (sender_end sender.0.place sender.1) (sender_end_json sender.1)

-- `same`
abbrev pub same_in : Format → List ℕ
same_in format = in_format format same_text same_json
