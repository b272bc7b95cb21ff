use Rattle.std.proofs.Common.{◌≡◌, ℕ, suc, zero, ◌<◌, List, [], ◌∷◌, ◌++◌, map, take, drop, length, slice_set, slice_index_or, refl, ap, sym, subst, ◌∙◌, arith, add-one}
use Rattle.babel_tlv.specs.Views.{no_address}
use Rattle.babel_table.specs.Seen.{seen_row}
use Rattle.babel_table.proofs.nested_rows.see_rows.Goals as goal

-- one more row is changed
one_more : {A : Type 0} → (f : A → A) (all : List A) (i : ℕ) (d : A) → i < length all
    → slice_set (map f (take i all) ++ drop i all) i (f (slice_index_or (map f (take i all) ++ drop i all) i d))
    ≡ map f (take (suc i) all) ++ drop (suc i) all
one_more f [] i d within = absurd (omega (arith, within))
one_more f (x ∷ all) zero d within = refl
one_more f (x ∷ all) (suc i) d within = ap (λ l. f x ∷ l) (one_more f all i d (omega (arith, within)))

pub see-requires : goal.see-requires
see-requires g c = subst (λ family. g.H.Hop.fits (no_address family)) (sym c.family.ensures.value) c.requires

pub loop-row-preserved : goal.loop-row-preserved
loop-row-preserved g c =
    rw (c.see.ensures, c.family.ensures.value ∙ sym c.family.ensures.of_key, c.loop-row.invariant, add-one)
    (one_more (seen_row c.args.view) c.args.rows.now c.loop-row.row-index c.row-item.result c.loop-row-test.true)
