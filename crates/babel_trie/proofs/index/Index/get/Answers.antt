-- Where a slot is free the map has no number of the element, and else not another one.
use Rattle.std.proofs.Common.{◌≡◌, Some, None, refl, sym, ◌∙◌, ap, subst}
use Rattle.std.specs.List.{slice_get}
use Rattle.std.specs.Option.{IfNone}
use Rattle.babel_trie.specs.Index.{IsAbsent}
use Rattle.babel_trie.specs.declared.table.NodeNumber.{NodeNumber}
use Rattle.babel_trie.proofs.IndexLaws.{absent_of}
use Rattle.babel_trie.proofs.index.Index.get.Goals as goal

pub returns-in-Free-clause-none : goal.returns-in-Free-clause-none
returns-in-Free-clause-none g c =
    let free = c.in-Free.ensures.free refl in
    absent_of g.K.Ord.cmp g.K.LawfulOrd.mark c.args.list.now c.args.self.now c.args.element.now c.deref.result.now c.args.mark c.first_slot.result
    c.deref.ensures.value c.requires.mark c.first_slot.ensures c.requires.indexed free.1 (λ n is full there. free.0 full)

pub returns-else-is_number_of-clause-none : goal.returns-else-is_number_of-clause-none
returns-else-is_number_of-clause-none g c =
    absent_of g.K.Ord.cmp g.K.LawfulOrd.mark c.args.list.now c.args.self.now c.args.element.now c.deref.result.now c.args.mark c.first_slot.result
    c.deref.ensures.value c.requires.mark c.first_slot.ensures c.requires.indexed (c.in-Full.ensures.full refl)
    (λ n is full there.
    let kept = c.in_ok-kept-in-Full.field-0.now in
    let same : Some kept ≡ Some n = c.in_ok-kept-in-Full.ensures.value ∙ there in
    let here : slice_get c.args.list.now kept.0 ≡ Some c.args.element.now = (let e : kept ≡ n = cc in ap (λ (m : NodeNumber). slice_get c.args.list.now m.0) e ∙ is) in
    let yes = c.is_number_of.ensures.1 here in
    let no = c.if-is_number_of.false in
    absurd cc)

pub returns-in_err-kept-in-Full-clause-none : goal.returns-in_err-kept-in-Full-clause-none
returns-in_err-kept-in-Full-clause-none g c =
    subst (λ o. IfNone o (IsAbsent c.args.list.now c.args.element.now)) (sym c.from_residual.ensures)
    (absent_of g.K.Ord.cmp g.K.LawfulOrd.mark c.args.list.now c.args.self.now c.args.element.now c.deref.result.now c.args.mark c.first_slot.result
    c.deref.ensures.value c.requires.mark c.first_slot.ensures c.requires.indexed (c.in-Full.ensures.full refl)
    (λ n is full there. let no : None ≡ Some n = c.in_err-kept-in-Full.ensures.value ∙ there in absurd cc))

pub returns-then-is_number_of-clause-some : goal.returns-then-is_number_of-clause-some
returns-then-is_number_of-clause-some g c = c.is_number_of.ensures.0 c.if-is_number_of.true

pub returns-in-Number-clause-some : goal.returns-in-Number-clause-some
returns-in-Number-clause-some g c = c.in-Number.ensures.number c.in-Number.number refl
