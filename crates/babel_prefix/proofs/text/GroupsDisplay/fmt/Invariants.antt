-- What is written, and the text of the groups that are left, are the whole text.
use Rattle.std.proofs.Common.{◌≡◌, ◌-◌, ℕ, List, ◌++◌, take}
use Rattle.std.specs.Fmt.{HasWritten, IsPlainFormatter}
use Rattle.babel_prefix.specs.Text.{groups_from, groups_text}
use Rattle.babel_prefix.proofs.text.GroupsDisplay.fmt.Given as goal

abbrev pub invariant-loop-place : goal.invariant-loop-place
invariant-loop-place g l =
    IsPlainFormatter l.fn.out → (written : List ℕ) × HasWritten g.W.Write.write_str_gives l.fn.out written l.out
    × (written ++ groups_text (take (l.place - l.last) (groups_from l.place l.self.bits))
    ≡ groups_text (take l.self.count (groups_from l.self.below l.self.bits)))
