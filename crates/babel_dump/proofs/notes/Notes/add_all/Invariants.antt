-- The notes so far.
use Rattle.std.proofs.Common.{◌≡◌, ◌++◌, take}
use Rattle.std.specs.List.{flat_map}
use Rattle.babel_dump.specs.Notes.{told}
use Rattle.babel_dump.proofs.notes.Notes.add_all.Given as goal

abbrev pub invariant-loop-note : goal.invariant-loop-note
invariant-loop-note l = l.self.list.items ≡ l.initial.self.list.items ++ flat_map (told l.side) (take l.note-index l.notes)
