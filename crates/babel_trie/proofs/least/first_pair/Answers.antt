-- What both lists begin with tells them apart nowhere.
use Rattle.std.proofs.Common.{◌^◌, Result, Ok, Err, map, filter}
use Rattle.std.specs.Result.{IfOk}
use Rattle.babel_prefix.specs.Best.{answer}
use Rattle.babel_prefix.specs.Entries.{row_of}
use Rattle.babel_trie.specs.Front.{reaches, ShareFront}
use Rattle.babel_trie.specs.Held.{RowOrder}
use Rattle.babel_trie.proofs.FrontLaws.{filter-in_order, filter-table, first_pair-by, front-same}
use Rattle.babel_trie.proofs.PartLaws.{some_holds}
use Rattle.babel_trie.proofs.least.first_pair.Goals as goal

if_ok_by : {T E : Type 0} (P Q : T → Type 0) → ((x : T) → P x → Q x) → (r : Result T E) → IfOk r P → IfOk r Q
if_ok_by P Q by (Ok x) p = by x p
if_ok_by P Q by (Err e) p = tt

pub first_pair_passed-requires-clause-left_order : goal.first_pair_passed-requires-clause-left_order
first_pair_passed-requires-clause-left_order g c = filter-in_order RowOrder (reaches c.args.width c.in-Some.at) (g.L.Rows.rows c.args.left) c.requires.left_order

pub first_pair_passed-requires-clause-left_table : goal.first_pair_passed-requires-clause-left_table
first_pair_passed-requires-clause-left_table g c = filter-table c.args.width (reaches c.args.width c.in-Some.at) (g.L.Rows.rows c.args.left) c.requires.left_table

pub first_pair_passed-requires-clause-right_order : goal.first_pair_passed-requires-clause-right_order
first_pair_passed-requires-clause-right_order g c = filter-in_order RowOrder (reaches c.args.width c.in-Some.at) (g.R.Rows.rows c.args.right) c.requires.right_order

pub first_pair_passed-requires-clause-right_table : goal.first_pair_passed-requires-clause-right_table
first_pair_passed-requires-clause-right_table g c = filter-table c.args.width (reaches c.args.width c.in-Some.at) (g.R.Rows.rows c.args.right) c.requires.right_table

pub returns : goal.returns
returns g c =
    let w = c.args.width in
    let at = c.in-Some.at in
    let left = g.L.Rows.rows c.args.left in
    let right = g.R.Rows.rows c.args.right in
    let p = reaches w at in
    let shared = some_holds (ShareFront left right) c.first_unshared.ensures.some c.in-Some.is in
    let f = answer w (map row_of left) in
    let g' = answer w (map row_of right) in
    let f' = answer w (map row_of (filter p left)) in
    let g'' = answer w (map row_of (filter p right)) in
    if_ok_by _ _ (first_pair-by (2 ^ w) (2 ^ w) f g' f' g''
    (λ d s _ _. front-same w at left right c.requires.left_table c.requires.right_table shared d s)) c.first_pair_passed.result c.first_pair_passed.ensures
