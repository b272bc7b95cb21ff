-- The last change says it already, or one more does.
use Rattle.std.proofs.Common.{◌≡◌, ◌≢◌, ◌-◌, List, length, Some, subst}
use Rattle.std.specs.List.{slice_get}
use Rattle.babel_trie.specs.declared.runs.Change.{Change}
use Rattle.babel_trie.proofs.PassLaws.{filled-same, filled-push}
use Rattle.babel_trie.proofs.pass.say.Goals as goal

pub returns-then-ends_with-clause-filled : goal.returns-then-ends_with-clause-filled
returns-then-ends_with-clause-filled g c to lt =
    let a = c.args in
    let last = c.ends_with.ensures.same c.if-ends_with.true in
    let at = subst (λ (xs : List (Change g.row.F.Denot)). slice_get xs (length xs - 1) ≡ Some last.0) c.deref.ensures.value last.1 in
    filled-same a.out.now.items last.0 a.change.sources a.change.start to lt c.requires.runs c.requires.below at last.2

pub returns-clause-filled : goal.returns-clause-filled
returns-clause-filled g c to lt =
    let a = c.args in
    let other = subst (λ (xs : List (Change g.row.F.Denot)). (y : Change g.row.F.Denot) → slice_get xs (length xs - 1) ≡ Some y
    → y.sources ≢ a.change.sources) c.deref.ensures.value (c.ends_with.ensures.other c.if-ends_with.false) in
    filled-push a.out.now.items c.push.new.self.items a.change to c.in_ok-push.ensures.items lt c.requires.runs c.requires.below other
