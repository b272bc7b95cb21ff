-- No row stands before the first.
use Rattle.std.proofs.Common.{◌≡◌, ◌∷◌, inl, List, refl, sym, ◌∙◌, ap, subst, arith}
use Rattle.babel_prefix.specs.Address.{Address}
use Rattle.babel_prefix.specs.Entries.{Entry}
use Rattle.babel_prefix.proofs.Members.{Listed}
use Rattle.babel_trie.specs.Split.{rows_of_split}
use Rattle.babel_trie.proofs.PassLaws.{first-least}
use Rattle.babel_trie.proofs.pass.first_start.Goals as goal

pub returns-clause-first : goal.returns-clause-first
returns-clause-first g c at =
    let rows = g.R.Rows.rows in
    let first = c.in_ok-first.first in
    let split : rows_of_split rows c.args.split ≡ first ∷ rows c.in_ok-first.field-0-1 = ap (rows_of_split rows) c.in_ok-first.was in
    let start_is = c.bits.ensures.value ∙ ap (λ (x : Address). x.bits) c.addr.ensures.value in (
      λ behind. omega (arith, start_is, behind first (subst (λ (xs : List (Entry g.row.V.Denot)). Listed xs first) (sym split) (inl refl))),
      λ lt row t. omega (arith, start_is, first-least (rows_of_split rows c.args.split) (rows c.in_ok-first.field-0-1) first split c.requires row t),
    )

pub returns-clause-one : goal.returns-clause-one
returns-clause-one g c =
    let rows = g.R.Rows.rows in
    let first = c.in_ok-first.first in
    let split : rows_of_split rows c.args.split ≡ first ∷ rows c.in_ok-first.field-0-1 = ap (rows_of_split rows) c.in_ok-first.was in
    (first, subst (λ (xs : List (Entry g.row.V.Denot)). Listed xs first) (sym split) (inl refl), sym (c.bits.ensures.value ∙ ap (λ (x : Address). x.bits) c.addr.ensures.value))
