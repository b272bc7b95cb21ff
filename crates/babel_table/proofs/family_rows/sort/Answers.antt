-- The sorted rows are those rows, and no two have one key.
use Rattle.std.proofs.Common.{◌≡◌, rules}
use Rattle.std.specs.Ordering.{is_lt}
use Rattle.std.proofs.lemmas.Fn.{always_returns_same}
use Rattle.babel_tlv.specs.Keys.{key_cmp}
use Rattle.babel_table.proofs.SaidLaws.{words_weak, rising-permuted}
use Rattle.babel_table.proofs.family_rows.sort.Goals as goal

pub returns-clause-rising : goal.returns-clause-rising
returns-clause-rising g c =
    let sorted = c.sort_unstable_by.ensures.sorted (λ x y. is_lt (key_cmp x.0 y.0)) words_weak
    (always_returns_same _ (λ a r. is_lt r ≡ is_lt (key_cmp a.0.now.0 a.1.0.now.0)) _ (λ a r f q. search rules)) in
    rising-permuted c.sort_unstable_by.new.self.items c.args.rows.now.items c.sort_unstable_by.ensures.permutation c.requires sorted
