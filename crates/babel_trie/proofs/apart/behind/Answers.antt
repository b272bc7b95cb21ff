-- The first change starts at the address or behind it, and all others behind the first.
use Rattle.std.proofs.Common.{◌<◌, get_or, subst}
use Rattle.babel_prefix.proofs.Members.{Listed-get_or}
use Rattle.babel_trie.proofs.PointLaws.{not_empty}
use Rattle.babel_trie.proofs.ApartLaws.{first-lowest, tail-behind}
use Rattle.babel_trie.proofs.apart.behind.Goals as goal

pub returns-then-at-change-clause-behind : goal.returns-then-at-change-clause-behind
returns-then-at-change-clause-behind g c =
    let other = c.index-list-0.result in
    let list = c.args.list.now in
    first-lowest list other c.args.at (not_empty list c.is_empty.result c.is_empty.ensures c.if-is_empty.false) c.requires.runs (subst (λ x. c.args.at < x.start) c.index-list-0.is c.if-at-change.true)

pub returns-clause-behind : goal.returns-clause-behind
returns-clause-behind g c =
    let other = c.index-list-0.result in
    let list = c.args.list.now in
    let some = not_empty list c.is_empty.result c.is_empty.ensures c.if-is_empty.false in
    tail-behind list other c.args.at some c.requires.runs (c.requires.from (get_or list 0 other) (Listed-get_or list 0 other some))
