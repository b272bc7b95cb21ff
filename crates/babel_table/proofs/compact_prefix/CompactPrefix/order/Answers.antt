-- Addresses of one family are in the order of their words.
use Rattle.std.proofs.Common.{◌≡◌, ℕ, nat_cmp, refl, ◌∙◌}
use Rattle.std.specs.Ordering.{ordering_then}
use Rattle.babel_prefix.specs.declared.family.Family.{Family}
use Rattle.babel_prefix.specs.declared.family.Family.TheVariants.{V4, V6}
use Rattle.babel_prefix.specs.Order.{prefix_cmp}
use Rattle.babel_table.specs.Compact.{prefix_in}
use Rattle.babel_table.proofs.compact_prefix.CompactPrefix.order.Goals as goal

in_family : (f : Family) (a b x y : ℕ) → ordering_then (nat_cmp a b) (nat_cmp x y) ≡ prefix_cmp (prefix_in f a x) (prefix_in f b y)
in_family V4 _ _ _ _ = refl
in_family V6 _ _ _ _ = refl

pub returns : goal.returns
returns g c =
    let a = c.self.inside in
    let b = c.other.inside in
    rw (← c.self.view_is, ← c.other.view_is)
    (c.order.ensures ∙ in_family g.W.Word.family (g.W.Word.number a.word) (g.W.Word.number b.word) a.len b.len)
