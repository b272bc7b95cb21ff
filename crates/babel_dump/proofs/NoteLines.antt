-- The object of a note about a sender, part by part.
use Rattle.std.proofs.Common.{◌≡◌, ℕ, List, [], ◌∷◌, ◌++◌, append-nil, subst, sym, Result, Ok, Err}
use Rattle.std.specs.Prelude.{codes}
use Rattle.babel_capture.specs.declared.tallies.Origin.{Origin}
use Rattle.babel_dump.specs.CaptureText.{escape}
use Rattle.babel_dump.specs.NameText.{escaped, json_escape}
use Rattle.babel_dump.specs.Device.{OutputState}
use Rattle.babel_dump.specs.Names.{plain}
use Rattle.babel_dump.specs.NoteJson.{note_front, note_of_sender, note_rest}
use Rattle.babel_dump.specs.Run.{output}
use Rattle.babel_dump.specs.Slices.{Took, WroteFront}
use Rattle.babel_dump.specs.TextParts.{closing, opening}
use Rattle.babel_dump.specs.declared.format.Format.TheVariants as formats
use Rattle.babel_dump.specs.declared.note.SideNote.{SideNote}
use Rattle.babel_dump.specs.declared.spelling.Spelling.{Spelling}
use Rattle.babel_dump.proofs.SenderLines.{name_between}
use Rattle.babel_dump.proofs.SliceLaws.{broke_on, took_more}

-- the parts before the octets of the name, these, and those after them are the object
pub note_parts : (spelling : Spelling) (name : List ℕ) (origin : Origin) (told : SideNote)
    → note_of_sender spelling origin name told
    ≡ (note_front spelling origin told.note ++ opening (formats.Json (plain spelling)) name)
    ++ (escaped (escape (formats.Json (plain spelling))) name ++ (closing (formats.Json (plain spelling)) name ++ note_rest told))
note_parts spelling [] origin told = name_between (note_front spelling origin told.note) (codes "null") [] [] (note_rest told)
note_parts spelling (octet ∷ octets) origin told =
    name_between (note_front spelling origin told.note) (codes "\"") (escaped json_escape (octet ∷ octets)) (codes "\"") (note_rest told)

-- what was left was written, or the write failed
pub wrote_rest : {T E : Type 0} (a b c : OutputState) (text left : List ℕ) (r : Result T E) → Took (output a b) text left → WroteFront (output b c) left [] r
    → WroteFront (output a c) text [] r
wrote_rest a b c text left (Ok t) first next = took_more a b c text left [] [] (subst (λ (l : List ℕ). Took (output a b) text l) (sym (append-nil left)) first) next
wrote_rest a b c text left (Err e) first broke = broke_on a b c text left [] (subst (λ (l : List ℕ). Took (output a b) text l) (sym (append-nil left)) first) broke
