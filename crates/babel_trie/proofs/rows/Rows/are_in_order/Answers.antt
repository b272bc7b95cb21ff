-- Neighbours are in order, and so all are.
use Rattle.std.proofs.Common.{◌≡◌, inl, inr, ℕ, ◌+◌, [], ◌∷◌, ◌++◌, length, get_or, refl, sym, ◌∙◌, ap, subst, arith, rules}
use Rattle.std.proofs.Math.Seq.{get_or-append_seam}
use Rattle.std.proofs.lemmas.Bool.{cases_lt}
use Rattle.std.proofs.lemmas.List.{length-append}
use Rattle.std.proofs.lemmas.List.Elements.{All-push}
use Rattle.babel_prefix.specs.Entries.{Entry}
use Rattle.babel_prefix.specs.BestRow.{HasPrefixes}
use Rattle.babel_trie.specs.Held.{RowOrder, row_place}
use Rattle.babel_trie.proofs.Lists.{one_more}
use Rattle.babel_trie.proofs.OrderLaws.{InOrder-from_adjacent, RowOrder-trans, order_from_places}
use Rattle.babel_trie.proofs.rows.Rows.are_in_order.Goals as goal

pub loop-row-init : goal.loop-row-init
loop-row-init g c = record { gone = []; parts = refl; adjacent = λ k d lt. absurd (omega arith); last = λ k d e. absurd (omega (arith, e)); prefixes = λ k d lt. absurd (omega arith) }

pub loop-row-preserved : goal.loop-row-preserved
loop-row-preserved g c =
    let xs = g.Self.Rows.rows c.args.self in
    let so = c.loop-row.invariant in
    let gone = so.gone in
    let i = length gone in
    let x = c.in-Some.row in
    let others = g.Self.Rows.rows c.in-Some.others in
    let at : (d : Entry g.row.V.Denot) → x ≡ get_or xs i d = λ d. sym (ap (λ t. get_or t i d) (so.parts ∙ ap (λ t. gone ++ t) c.in-Some.ensures) ∙ get_or-append_seam gone x others d) in
    let here : (d : Entry g.row.V.Denot) → c.place-here.result ≡ row_place (get_or xs i d) = λ d. c.place-here.ensures.place ∙ ap row_place (at d) in
    let longer : length (gone ++ x ∷ []) ≡ i + 1 = length-append gone (x ∷ []) in
    record {
      gone = gone ++ x ∷ [];
      parts = one_more xs gone (g.Self.Rows.rows c.loop-row.left) others x so.parts c.in-Some.ensures;
      adjacent = λ k d lt. elim (cases_lt (k + 1) i) [
        | inl before ↦ so.adjacent k d before
        | inr behind ↦
            let e : i ≡ k + 1 = omega (arith, longer) in
            subst (λ (n : ℕ). RowOrder (get_or xs k d) (get_or xs n d)) e
            (order_from_places (get_or xs k d) (get_or xs i d) c.loop-row.before c.place-here.result (so.last k d (sym e)) (here d) (search rules))
      ];
      last = λ k d e. let same : i ≡ k = omega (arith, e, longer) in here d ∙ ap (λ (n : ℕ). row_place (get_or xs n d)) same;
      prefixes = All-push HasPrefixes gone x so.prefixes c.place-here.ensures.prefixes;
    }

pub returns-clause-in_order : goal.returns-clause-in_order
returns-clause-in_order g c is =
    let xs = g.Self.Rows.rows c.args.self in
    let so = c.loop-row.invariant in
    let left = g.Self.Rows.rows c.loop-row.left in
    InOrder-from_adjacent RowOrder RowOrder-trans xs (λ k d lt. so.adjacent k d (omega (arith, ap length so.parts ∙ length-append so.gone left, ap length c.in_default.ensures)))
