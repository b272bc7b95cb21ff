-- Each row that is passed over stands in both lists.
use Rattle.std.proofs.Common.{List, [], ◌∷◌, ◌++◌, sym, ◌∙◌, ap, subst}
use Rattle.babel_prefix.specs.Entries.{Entry}
use Rattle.babel_trie.specs.Front.{ShareFront}
use Rattle.babel_trie.specs.Held.{RowOrder}
use Rattle.babel_trie.specs.Rows.{InOrder}
use Rattle.babel_trie.proofs.FrontLaws.{if_some, if_none, split_rows, StartsFirst, from_nearer, none_nearer}
use Rattle.babel_trie.proofs.Lists.{one_more}
use Rattle.babel_trie.proofs.PlaceLaws.{InOrder-right}
use Rattle.babel_trie.proofs.front.first_unshared.Goals as goal

pub loop-row-preserved : goal.loop-row-preserved
loop-row-preserved g c =
    let so = c.loop-row.invariant in
    let row = c.in-Some-Some.row in
    let others = g.R.Rows.rows c.in-Some-Some.other_later in
    let same = c.are_one.ensures c.if-not-are_one.false in
    record {
      front = so.front ++ row ∷ [];
      whole = one_more (g.L.Rows.rows c.args.left) so.front (g.L.Rows.rows c.loop-row.rest) (g.L.Rows.rows c.in-Some-Some.later) row so.whole c.in-Some-Some.ensures;
      other_whole = one_more (g.R.Rows.rows c.args.right) so.front (g.R.Rows.rows c.loop-row.other_rest) others row so.other_whole
          (c.in-Some-Some.ensures' ∙ ap (λ (x : Entry g.row.V.Denot). x ∷ others) (sym same));
    }

pub first_start-requires : goal.first_start-requires
first_start-requires g c =
    let so = c.loop-row.invariant in
    let rest = g.L.Rows.rows c.loop-row.rest in
    subst (InOrder RowOrder) (sym (split_rows g.L.Rows.rows c.loop-row.rest c.split-2.result c.split-2.ensures))
    (InOrder-right RowOrder so.front rest (subst (InOrder RowOrder) so.whole c.requires.left_order))

pub first_start-requires-2 : goal.first_start-requires-2
first_start-requires-2 g c =
    let so = c.loop-row.invariant in
    let rest = g.R.Rows.rows c.loop-row.other_rest in
    subst (InOrder RowOrder) (sym (split_rows g.R.Rows.rows c.loop-row.other_rest c.split-3.result c.split-3.ensures))
    (InOrder-right RowOrder so.front rest (subst (InOrder RowOrder) so.other_whole c.requires.right_order))

pub returns-clause-none : goal.returns-clause-none
returns-clause-none g c =
    let so = c.loop-row.invariant in
    let rest = g.L.Rows.rows c.loop-row.rest in
    let other = g.R.Rows.rows c.loop-row.other_rest in
    let starts : StartsFirst rest c.first_start.result = subst (λ (rows : List (Entry g.row.V.Denot)). StartsFirst rows c.first_start.result)
    (split_rows g.L.Rows.rows c.loop-row.rest c.split-2.result c.split-2.ensures) c.first_start.ensures.first in
    let other_starts : StartsFirst other c.first_start-2.result =
    subst (λ (rows : List (Entry g.row.V.Denot)). StartsFirst rows c.first_start-2.result)
    (split_rows g.R.Rows.rows c.loop-row.other_rest c.split-3.result c.split-3.ensures) c.first_start-2.ensures.first in
    if_none c.nearer_start.result (λ is.
    let none = none_nearer rest other c.first_start.result c.first_start-2.result c.nearer_start.result starts other_starts c.nearer_start.ensures.behind is in
    so.whole ∙ ap (λ (xs : List (Entry g.row.V.Denot)). so.front ++ xs) (none.0 ∙ sym none.1) ∙ sym so.other_whole)

pub returns-clause-some : goal.returns-clause-some
returns-clause-some g c =
    let rest = g.L.Rows.rows c.loop-row.rest in
    let other = g.R.Rows.rows c.loop-row.other_rest in
    let starts : StartsFirst rest c.first_start.result = subst (λ (rows : List (Entry g.row.V.Denot)). StartsFirst rows c.first_start.result)
    (split_rows g.L.Rows.rows c.loop-row.rest c.split-2.result c.split-2.ensures) c.first_start.ensures.first in
    let other_starts : StartsFirst other c.first_start-2.result =
    subst (λ (rows : List (Entry g.row.V.Denot)). StartsFirst rows c.first_start-2.result)
    (split_rows g.R.Rows.rows c.loop-row.other_rest c.split-3.result c.split-3.ensures) c.first_start-2.ensures.first in
    if_some (ShareFront (g.L.Rows.rows c.args.left) (g.R.Rows.rows c.args.right)) c.nearer_start.result (λ at is.
    let from = from_nearer rest other c.first_start.result c.first_start-2.result c.nearer_start.result starts other_starts c.nearer_start.ensures.behind at is in
    record { rest = rest; other_rest = other; behind = c.loop-row.invariant; from = from.0; other_from = from.1 })
