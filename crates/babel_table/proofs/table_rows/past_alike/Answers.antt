-- A row more that both have next is passed by.
use Rattle.std.proofs.Common.{◌≡◌, ◌-◌, ◌≤◌, ◌∷◌, ◌++◌, ◌∙◌, [], List, false, refl, ap, sym, arith, append_assoc, get_or, length, take, drop}
use Rattle.std.specs.Prelude.{not}
use Rattle.std.specs.Ordering.{eq_by_cmp, is_eq}
use Rattle.std.specs.declared.cmp.Ordering.{Ordering}
use Rattle.std.specs.declared.cmp.Ordering.TheVariants.{Less, Equal, Greater}
use Rattle.std.proofs.Math.Seq.{take-length}
use Rattle.babel_tlv.specs.Keys.{key_cmp}
use Rattle.babel_tlv.specs.Pair.{Pair}
use Rattle.babel_tlv.specs.Route.{RouteKey}
use Rattle.babel_tlv.specs.declared.held.Held.{Held}
use Rattle.babel_tlv.proofs.OrderLaws.{key_exact}
use Rattle.babel_table.proofs.table_rows.past_alike.Goals as goal

one_more : (rows left alike : List Pair) (row : Pair) → rows ≡ alike ++ left → 1 ≤ length left → row ≡ get_or left 0 row
    → rows ≡ (alike ++ row ∷ []) ++ take (length left - 1) (drop 1 left)
one_more rows [] alike row is some at = absurd (omega arith)
one_more rows (first ∷ rest) alike row is some at =
    let all : length rest ≡ length (first ∷ rest) - 1 = omega arith in
    is ∙ sym (append_assoc alike (first ∷ []) rest) ∙ ap (λ (x : Pair). (alike ++ x ∷ []) ++ rest) (sym at)
    ∙ ap (λ (rs : List Pair). (alike ++ row ∷ []) ++ rs) (sym (take-length rest) ∙ ap (λ n. take n rest) all)

keys_are : (key other : RouteKey) → false ≡ not (eq_by_cmp key_cmp key other) → key ≡ other
keys_are key other is = key_exact key other (by (key_cmp key other) is)
  where
    by : (order : Ordering) → false ≡ not (is_eq order) → order ≡ Equal
    by Less is = absurd cc
    by Equal is = refl
    by Greater is = absurd cc

pub loop-left-preserved : goal.loop-left-preserved
loop-left-preserved g c =
    let left : List Pair = c.loop-left.left.now in
    let right : List Pair = c.loop-left.right.now in
    let row : Pair = c.row-item.result in
    let other : Pair = c.other-item.result in
    let before = c.loop-left.invariant in
    let key : row.0 ≡ other.0 = keys_are row.0 other.0 c.if-ne.ensures in
    let held : row.1 ≡ other.1 = c.is.ensures c.if-not-is.false in
    let same : row ≡ other = ap (λ (k : RouteKey). (k, row.1)) key ∙ ap (λ (h : Held). (other.0, h)) held in (
      before.0 ++ row ∷ [],
      one_more c.args.rows.now left before.0 row before.1 (omega arith) c.row-item.is,
      one_more c.args.others.now right before.0 other before.2 (omega arith) c.other-item.is
          ∙ ap (λ (x : Pair). (before.0 ++ x ∷ []) ++ take (length right - 1) (drop 1 right)) (sym same),
    )
