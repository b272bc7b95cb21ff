-- A list of one row is that row.
use Rattle.std.proofs.Common.{◌≡◌, ◌<◌, List, [], ◌∷◌, get_or, length, refl, sym, ap, ◌∙◌, arith}
use Rattle.babel_trie.proofs.overlay.only_value.Goals as goal

only_one : {X : Type 0} (xs : List X) (d : X) → 0 < length xs → length xs < 2 → xs ≡ get_or xs 0 d ∷ []
only_one [] d some one = absurd (omega arith)
only_one (x ∷ []) d some one = refl
only_one (x ∷ y ∷ xs) d some one = absurd (omega arith)

pub returns-in-len1 : goal.returns-in-len1
returns-in-len1 g c =
    let row = c.row-item.result in
    (row, only_one c.args.rows.now row c.in-len1.len_at_least c.in-len1.len_below ∙ ap (λ x. x ∷ []) (sym c.row-item.is), sym c.len.ensures.value ∙ c.if-len.true, refl)
