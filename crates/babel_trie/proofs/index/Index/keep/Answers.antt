-- The free slot has the number, or where none is free the map has it; what was found stays found.
use Rattle.std.proofs.Common.{rules, ◌≡◌, ◌∙◌, ◌<◌, ℕ, List, Some, inl, inr, ap, subst, arith}
use Rattle.std.specs.BTreeMap.{get}
use Rattle.babel_trie.specs.Index.{IsFreeAmong, IsFull, window, first_slot, slot_of}
use Rattle.babel_trie.proofs.IndexLaws.{free_slot, still_found, still_full, newly_found, kept_in_map}
use Rattle.babel_trie.proofs.index.Index.keep.Goals as goal

pub returns-in_default-clause-kept : goal.returns-in_default-clause-kept
returns-in_default-clause-kept g c =
    let slots = c.args.self.now.slots.items in
    let first : c.first_slot-first.result ≡ first_slot slots (g.K.LawfulOrd.mark c.args.element.now) = c.first_slot-first.ensures ∙ ap (first_slot slots) c.requires in
    let full : IsFull slots window c.first_slot-first.result = subst (λ (xs : List ℕ). IsFull xs window c.first_slot-first.result) c.deref.ensures.value c.in_default.ensures.none in
    let there : get g.K.Ord.cmp c.insert.new.self c.args.element.now ≡ Some c.args.number = search rules in
    inr (subst (λ (at : ℕ). IsFull slots window at) first full, there)

pub returns-in_default-clause-others : goal.returns-in_default-clause-others
returns-in_default-clause-others g c x n same found = elim found [
  | inl among ↦ inl among
  | inr there ↦ inr (
    there.0,
    kept_in_map g.K.Ord.cmp g.met.K.LawfulOrd.exact c.args.self.now.crowded c.insert.new.self c.args.element.now x c.args.number n c.in_ok-insert.ensures.updates.0 same there.1,
  )
]

pub index_mut-requires : goal.index_mut-requires
index_mut-requires g c =
    let slots = c.args.self.now.slots in
    let near = (free_slot slots.items window c.first_slot-first.result c.in-Some.place
    (subst (λ (xs : List ℕ). IsFreeAmong xs window c.first_slot-first.result c.in-Some.place) c.deref.ensures.value c.in-Some.ensures.some)).0 in
    omega (arith, near, slots.ok.0)

pub returns-clause-kept : goal.returns-clause-kept
returns-clause-kept g c =
    let slots = c.args.self.now.slots.items in
    let mark = g.K.LawfulOrd.mark c.args.element.now in
    let at_result = subst (λ (xs : List ℕ). IsFreeAmong xs window c.first_slot-first.result c.in-Some.place) c.deref.ensures.value c.in-Some.ensures.some in
    let first : c.first_slot-first.result ≡ first_slot slots mark = c.first_slot-first.ensures ∙ ap (first_slot slots) c.requires in
    let free = subst (λ (at : ℕ). IsFreeAmong slots window at c.in-Some.place) first at_result in
    let is : c.in-Some-slot_of.slot ≡ slot_of mark c.args.number.0 = c.in-Some-slot_of.ensures.1 ∙ ap (λ (m : ℕ). slot_of m c.args.number.0) c.requires in
    inl (c.in-Some-slot_of.ensures.0, newly_found slots c.in-Some.place c.in-Some-slot_of.slot mark (slot_of mark c.args.number.0) is (omega arith) free)

pub returns-clause-others : goal.returns-clause-others
returns-clause-others g c x n same found =
    let slots = c.args.self.now.slots.items in
    let mark = g.K.LawfulOrd.mark x in
    let free = free_slot slots window c.first_slot-first.result c.in-Some.place
    (subst (λ (xs : List ℕ). IsFreeAmong xs window c.first_slot-first.result c.in-Some.place) c.deref.ensures.value c.in-Some.ensures.some) in
    let some : 0 < c.in-Some-slot_of.slot = (let is = c.in-Some-slot_of.ensures.1 in omega (arith, is)) in
    elim found [
      | inl among ↦ inl (among.0, still_found slots c.in-Some.place c.in-Some-slot_of.slot mark (slot_of mark n.0) free.1 among.1)
      | inr there ↦ inr (still_full slots c.in-Some.place c.in-Some-slot_of.slot mark free.0 free.1 some there.0, there.1)
    ]
