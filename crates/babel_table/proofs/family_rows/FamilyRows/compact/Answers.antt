-- What was retracted says nothing, and the order of rows is no part of what stands.
use Rattle.std.proofs.Common.{◌∙◌, ap, subst, sym, rules}
use Rattle.std.specs.Map.{keys_of}
use Rattle.std.proofs.lemmas.Fn.{filter_same}
use Rattle.babel_table.specs.Said.{standing, AreDistinct}
use Rattle.babel_table.proofs.SaidLaws.{is_said, distinct-filter, standing-filter, standing-permuted, counted-sorted}
use Rattle.babel_table.proofs.family_rows.FamilyRows.compact.Goals as goal

pub sort-requires : goal.sort-requires
sort-requires g c =
    let left = filter_same _ is_said _ (λ x b f r. search rules) _ _ c.retain.ensures.filtered in
    rw left (distinct-filter c.self.inside.rows.items c.self.invariant.indexed.distinct)

pub invariant_of-self : goal.invariant_of-self
invariant_of-self g c =
    let left = filter_same _ is_said _ (λ x b f r. search rules) _ _ c.retain.ensures.filtered in
    let distinct = subst (λ ws. AreDistinct (keys_of ws)) (sym left) (distinct-filter c.self.inside.rows.items c.self.invariant.indexed.distinct) in
    let same = standing-permuted c.sort.new.rows.items _ c.sort.ensures.same distinct in
    rw (c.len-self-inside.ensures ∙ c.sort.new.rows.ok.0)
    (counted-sorted c.self.inside.count c.self.inside.rows.items c.sort.new.rows.items c.self.inside.rising c.self.inside.places _ c.self.invariant c.sort.ensures.rising (same ∙ ap standing left))

pub returns-then-saturating_add-len : goal.returns-then-saturating_add-len
returns-then-saturating_add-len g c =
    let left = filter_same _ is_said _ (λ x b f r. search rules) _ _ c.retain.ensures.filtered in
    let distinct = subst (λ ws. AreDistinct (keys_of ws)) (sym left) (distinct-filter c.self.inside.rows.items c.self.invariant.indexed.distinct) in
    let same = standing-permuted c.sort.new.rows.items _ c.sort.ensures.same distinct in
    same ∙ ap standing left ∙ standing-filter c.self.inside.rows.items c.self.invariant.indexed.distinct ∙ c.self.view_is
