use Rattle.std.proofs.Common.{◌≡◌, ℕ, length, rules, ◌++◌, ◌∷◌, [], List, ap, sym, subst, ◌∙◌}
use Rattle.std.specs.BTreeMap.{get}
use Rattle.std.specs.List.{slice_get}
use Rattle.std.specs.Option.{unwrap_or}
use Rattle.babel_tlv.specs.declared.held.Held.{Held}
use Rattle.babel_tlv.specs.contracts.held.HeldOrd.TheImpl.{ghosts}
use Rattle.babel_trie.proofs.NumberLaws.{slice_get-push, slice_get-kept}
use Rattle.babel_canon.specs.Values.{AreNumbered}
use Rattle.babel_canon.proofs.ValueLists.{numbered_again, numbered_next}
use Rattle.babel_canon.proofs.values.Values.number_in_map.Goals as goal

pub returns-then-number-next-clause-numbered : goal.returns-then-number-next-clause-numbered
returns-then-number-next-clause-numbered c =
    (numbered_again c.args.self.now.list.items c.args.self.now.numbers c.number_or.new.numbers c.args.origin c.in_ok-number.number c.in-Ok.next c.requires
    c.in_ok-number.ensures.number c.if-number-next.true c.in_ok-number.ensures.updates.0).0

pub returns-then-number-next-clause-found : goal.returns-then-number-next-clause-found
returns-then-number-next-clause-found c =
    (numbered_again c.args.self.now.list.items c.args.self.now.numbers c.number_or.new.numbers c.args.origin c.in_ok-number.number c.in-Ok.next c.requires
    c.in_ok-number.ensures.number c.if-number-next.true c.in_ok-number.ensures.updates.0).1

pub returns-clause-numbered : goal.returns-clause-numbered
returns-clause-numbered c =
    let next : c.in-Ok.next ≡ length c.args.self.now.list.items = search rules in
    subst (λ (l : List Held). AreNumbered l c.number_or.new.numbers) (sym c.in_ok-push.ensures.items)
    (numbered_next c.args.self.now.list.items c.args.self.now.numbers c.number_or.new.numbers c.args.origin c.in_ok-number.number c.requires
    (c.if-number-next.false ∙ next)
    (c.in_ok-number.ensures.number ∙ ap (λ (n : ℕ). unwrap_or (get ghosts.cmp c.args.self.now.numbers c.args.origin) n) next)
    c.in_ok-number.ensures.updates.0)

pub returns-clause-found : goal.returns-clause-found
returns-clause-found c =
    let next : c.in-Ok.next ≡ length c.args.self.now.list.items = search rules in
    ap (λ (l : List Held). slice_get l c.in_ok-number.number) c.in_ok-push.ensures.items
    ∙ ap (slice_get (c.args.self.now.list.items ++ c.args.origin ∷ [])) (c.if-number-next.false ∙ next)
    ∙ slice_get-push c.args.self.now.list.items c.args.origin

pub returns-clause-keeps : goal.returns-clause-keeps
returns-clause-keeps c i held e = ap (λ (l : List Held). slice_get l i) c.in_ok-push.ensures.items ∙ slice_get-kept c.args.self.now.list.items c.args.origin i held e
