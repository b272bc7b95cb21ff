-- The last of the changes comes first of those ahead.
use Rattle.std.proofs.Common.{inl, List, reverse, refl, sym, subst}
use Rattle.babel_prefix.proofs.Members.{Listed}
use Rattle.babel_trie.specs.declared.runs.Change.{Change}
use Rattle.babel_trie.proofs.PassLaws.{nearest, nearest-behind}
use Rattle.babel_trie.proofs.pass.last_start.Goals as goal

pub returns-clause-nearest : goal.returns-clause-nearest
returns-clause-nearest g c at =
    let list = c.args.ahead.now in
    let next = c.in_ok-next.next.now in
    let popped = nearest list list next refl c.in_ok-next.ensures.value in (
      λ behind. behind next (subst (λ (xs : List (Change g.row.F.Denot)). Listed xs next) (sym popped.1) (inl refl)),
      λ lt. nearest-behind (reverse list) (reverse popped.0) next at popped.1 c.requires lt,
    )

pub returns-clause-one : goal.returns-clause-one
returns-clause-one g c =
    let list = c.args.ahead.now in
    let next = c.in_ok-next.next.now in
    let popped = nearest list list next refl c.in_ok-next.ensures.value in
    (next, subst (λ (xs : List (Change g.row.F.Denot)). Listed xs next) (sym popped.1) (inl refl), refl)
