-- What is not retracted is listed, and sorted by its keys.
use Rattle.std.proofs.Common.{◌≡◌, ◌∙◌, [], sym, refl, subst}
use Rattle.babel_table.proofs.ListLaws.{IsListing, distinct-listed, listed-sorted, lists-said, lists-retracted}
use Rattle.babel_table.proofs.SaidLaws.{no_more}
use Rattle.babel_table.proofs.family_rows.FamilyRows.listed.Goals as goal

pub loop-key-init : goal.loop-key-init
loop-key-init g c =
    rw (c.in_ok-listed.ensures.items, c.into_iter-key-iterator.ensures.into_iter_gives.0)
    (record { words = c.self.inside.rows.items; distinct = c.self.invariant.indexed.distinct; stands = c.self.view_is; listed = refl })

pub loop-key-preserved-in-Continue-branch-2 : goal.loop-key-preserved-in-Continue-branch-2
loop-key-preserved-in-Continue-branch-2 g c =
    let listing = subst (λ ws. IsListing c.args.wipes c.loop-key.listed.items ws c.args.self) c.in-Some.ensures.steps.0 c.loop-key.invariant in
    rw (c.in_ok-push.ensures.items, c.current.ensures)
    (lists-said c.args.wipes c.loop-key.listed.items (c.in-Some.key, c.in-Some.said) c.next.new.self.rest.items c.args.self c.in-Some-said.stored listing c.in-Some-said.is)

pub loop-key-preserved : goal.loop-key-preserved
loop-key-preserved g c =
    let listing = subst (λ ws. IsListing c.args.wipes c.loop-key.listed.items ws c.args.self) c.in-Some.ensures.steps.0 c.loop-key.invariant in
    lists-retracted c.args.wipes c.loop-key.listed.items (c.in-Some.key, c.in-Some.said) c.next.new.self.rest.items c.args.self listing c.in_default.is

pub sort-requires : goal.sort-requires
sort-requires g c =
    let none : c.loop-key.key-iterator.rest.items ≡ [] = no_more _ (sym c.loop-key.key-iterator.rest.ok.0 ∙ c.in-None.ensures.steps.0) in
    distinct-listed c.args.wipes c.loop-key.listed.items c.loop-key.key-iterator.rest.items c.args.self c.loop-key.invariant none

pub returns : goal.returns
returns g c =
    let none : c.loop-key.key-iterator.rest.items ≡ [] = no_more _ (sym c.loop-key.key-iterator.rest.ok.0 ∙ c.in-None.ensures.steps.0) in
    listed-sorted c.args.wipes c.loop-key.listed.items c.loop-key.key-iterator.rest.items c.args.self c.loop-key.invariant none c.sort.new.rows.items c.sort.ensures.rising c.sort.ensures.same
