-- The first change starts behind the address, and is the lowest.
use Rattle.std.proofs.Common.{◌-◌, ◌<◌, get_or, arith, ap}
use Rattle.babel_prefix.proofs.Members.{Listed-get_or}
use Rattle.babel_trie.proofs.PointLaws.{not_empty}
use Rattle.babel_trie.proofs.ApartLaws.{first-lowest}
use Rattle.babel_trie.proofs.apart.last_before.Goals as goal

pub overflow_sub-result : goal.overflow_sub-result
overflow_sub-result g c =
    let other = c.index-list-0.result in
    let list = c.args.list.now in
    let some = not_empty list c.is_empty.result c.is_empty.ensures c.if-is_empty.false in
    let above : c.args.at < (get_or list 0 other).start = c.requires.behind (get_or list 0 other) (Listed-get_or list 0 other some) in
    omega (arith, above, ap (λ x. x.start) c.index-list-0.is)

pub returns-clause-from : goal.returns-clause-from
returns-clause-from g c =
    let other = c.index-list-0.result in
    let list = c.args.list.now in
    let some = not_empty list c.is_empty.result c.is_empty.ensures c.if-is_empty.false in
    let above : c.args.at < (get_or list 0 other).start = c.requires.behind (get_or list 0 other) (Listed-get_or list 0 other some) in
    omega (arith, above, ap (λ x. x.start) c.index-list-0.is)

pub returns-clause-behind : goal.returns-clause-behind
returns-clause-behind g c =
    let other = c.index-list-0.result in
    let list = c.args.list.now in
    let some = not_empty list c.is_empty.result c.is_empty.ensures c.if-is_empty.false in
    let above : c.args.at < (get_or list 0 other).start = c.requires.behind (get_or list 0 other) (Listed-get_or list 0 other some) in
    first-lowest list other ((get_or list 0 other).start - 1) some c.requires.runs (omega (arith, above, ap (λ x. x.start) c.index-list-0.is))
