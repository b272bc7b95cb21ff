-- The line of a sender, part by part.
use Rattle.std.proofs.Common.{◌≡◌, refl, ℕ, List, [], ◌∷◌, ◌++◌, ap, subst, sym, ◌∙◌, append_assoc, arith}
use Rattle.std.proofs.lemmas.Grind.{common_steps}
use Rattle.std.specs.Prelude.{codes}
use Rattle.babel_capture.specs.declared.tallies.Origin.{Origin}
use Rattle.babel_capture.specs.declared.tallies.Tally.{Tally}
use Rattle.babel_dump.specs.CaptureText.{escape, sender_end, sender_end_json, sender_front, sender_front_json, sender_in}
use Rattle.babel_dump.specs.NameText.{escaped, json_escape, text_escape}
use Rattle.babel_dump.specs.Device.{OutputState}
use Rattle.babel_dump.specs.Run.{Output, output}
use Rattle.babel_dump.specs.Slices.{Broke, Took}
use Rattle.babel_dump.specs.TextParts.{after_name, to_name}
use Rattle.babel_dump.specs.declared.format.Format.{Format}
use Rattle.babel_dump.specs.declared.format.Format.TheVariants as formats
use Rattle.babel_dump.proofs.SliceLaws.{broke_on, pushed, took_more}

pub name_between : (front before octets after end : List ℕ) → front ++ (before ++ octets ++ after) ++ end ≡ (front ++ before) ++ (octets ++ (after ++ end))
name_between front before octets after end = grind (arith, common_steps)

-- the parts before the octets of the name, these, and those after them are the line
pub line_parts : (format : Format) (name : List ℕ) (origin : Origin) (tally : Tally)
    → sender_in format name (origin, tally) ≡ to_name format origin name ++ (escaped (escape format) name ++ after_name format (origin, tally) name)
line_parts (formats.Text style) [] origin tally = name_between (sender_front style.spelling origin) [] [] [] (sender_end origin.place tally)
line_parts (formats.Text style) (octet ∷ octets) origin tally =
    name_between (sender_front style.spelling origin) (codes " (") (escaped text_escape (octet ∷ octets)) (codes ")") (sender_end origin.place tally)
line_parts (formats.Json style) [] origin tally = name_between (sender_front_json style.spelling origin) (codes "null") [] [] (sender_end_json tally)
line_parts (formats.Json style) (octet ∷ octets) origin tally =
    name_between (sender_front_json style.spelling origin) (codes "\"") (escaped json_escape (octet ∷ octets)) (codes "\"") (sender_end_json tally)

-- the text has more, which is not written yet
pub took_with : (writer : Output) (text left more : List ℕ) → Took writer text left → Took writer (text ++ more) (left ++ more)
took_with writer text left more first = record {
  front = first.front;
  took = first.took;
  parts = ap (λ (l : List ℕ). l ++ more) first.parts ∙ append_assoc first.front left more;
  no_failure = first.no_failure;
  no_flush = first.no_flush;
}

-- what is left begins with a line, which was written after what the buffer had
pub took_line : (a b c : OutputState) (text left left_then more line rest : List ℕ) → Took (output a b) text (left ++ more) → more ≡ line ++ rest
    → Took (output b c) (left ++ line) left_then → Took (output a c) text (left_then ++ rest)
took_line a b c text left left_then more line rest first is next =
    took_more a b c text (left ++ line) left_then rest
    (subst (λ (l : List ℕ). Took (output a b) text l) (ap (λ (l : List ℕ). left ++ l) is ∙ sym (append_assoc left line rest)) first) next

-- a write of it failed
pub broke_at_line : (a b c : OutputState) (text left more line rest : List ℕ) → Took (output a b) text (left ++ more) → more ≡ line ++ rest
    → Broke (output b c) (left ++ line) → Broke (output a c) text
broke_at_line a b c text left more line rest first is broke =
    broke_on a b c text (left ++ line) rest
    (subst (λ (l : List ℕ). Took (output a b) text l) (ap (λ (l : List ℕ). left ++ l) is ∙ sym (append_assoc left line rest)) first) broke

-- a line of three parts
module _ (a b c : OutputState) (had line front middle end : List ℕ) (is : line ≡ front ++ (middle ++ end)) (left now : List ℕ)
    (room : Took (output a b) had left) (put : now ≡ left ++ front) where
  -- the first part was put after what the buffer had
  front_took : Took (output a b) (had ++ line) (now ++ (middle ++ end))
  front_took = pushed (output a b) (had ++ line) left front now line (middle ++ end) (took_with (output a b) had left line room) put is

  pub broke_in_middle : Broke (output b c) (now ++ middle) → Broke (output a c) (had ++ line)
  broke_in_middle broke = broke_at_line a b c (had ++ line) now (middle ++ end) middle end front_took refl broke

  module _ (left_then : List ℕ) (took : Took (output b c) (now ++ middle) left_then) where
    middle_took : Took (output a c) (had ++ line) (left_then ++ end)
    middle_took = took_line a b c (had ++ line) now left_then (middle ++ end) middle end front_took refl took

    pub broke_before_end : (d : OutputState) → Broke (output c d) left_then → Broke (output a d) (had ++ line)
    broke_before_end d broke = broke_on a c d (had ++ line) left_then end middle_took broke

    pub took_whole : (d : OutputState) (left_last last : List ℕ) → Took (output c d) left_then left_last → last ≡ left_last ++ end → Took (output a d) (had ++ line) last
    took_whole d left_last last more put_last =
        subst (λ (l : List ℕ). Took (output a d) (had ++ line) l) (sym put_last) (took_more a c d (had ++ line) left_then left_last end middle_took more)
