-- The number is later than those that are known, and they are not too many octets.
use Rattle.std.proofs.Common.{◌<◌, ◌≡◌, false, arith, sym, subst}
use Rattle.std.specs.BTreeMap.{insert_entry}
use Rattle.std.specs.Ordering.{nat_cmp}
use Rattle.babel_capture.specs.Fragments.{Known, Reassembly, is_past}
use Rattle.babel_capture.specs.Indexing.{AreNumbered}
use Rattle.babel_capture.proofs.FragmentLaws.{few-octets, free-after, numbered-both, numbered-later, numbered-one, numbered-other, octets-forgotten, put-or-not}
use Rattle.babel_capture.proofs.fragments.Fragments.begin.Goals as goal

pub invariant_of-self : goal.invariant_of-self
invariant_of-self c =
    numbered-both c.self.inside.last c.self.inside.unfinished c.self.inside.others c.self.invariant c.args.fragment.now.id c.forget.new.self c.forget-2.new.self c.forget.ensures.after c.forget-2.ensures.after

pub add-requires-clause-number : goal.add-requires-clause-number
add-requires-clause-number c =
    let f = c.self.inside in
    let both = numbered-both f.last f.unfinished f.others c.self.invariant c.args.fragment.now.id c.forget.new.self c.forget-2.new.self c.forget.ensures.after c.forget-2.ensures.after in
    free-after f.last c.args.number c.forget-2.new.self both.1 (subst (λ (r : Reassembly). r.last < c.args.number) (sym c.self.view_is) c.requires.later)

pub add-requires-clause-room : goal.add-requires-clause-room
add-requires-clause-room c =
    let room = subst (λ (r : Reassembly). is_past r.clock r.known.others ≡ false) (sym c.self.view_is) c.requires.few in
    let few = few-octets c.self.inside.clock c.self.inside.others room in
    let fewer = octets-forgotten c.args.fragment.now.id c.self.inside.others in
    rw c.forget-2.ensures.after (omega (arith, few, fewer))

pub add-requires-else-is_of_another-clause-number : goal.add-requires-else-is_of_another-clause-number
add-requires-else-is_of_another-clause-number c =
    let f = c.self.inside in
    let both = numbered-both f.last f.unfinished f.others c.self.invariant c.args.fragment.now.id c.forget.new.self c.forget-2.new.self c.forget.ensures.after c.forget-2.ensures.after in
    free-after f.last c.args.number c.forget.new.self both.0 (subst (λ (r : Reassembly). r.last < c.args.number) (sym c.self.view_is) c.requires.later)

pub add-requires-else-is_of_another-clause-room : goal.add-requires-else-is_of_another-clause-room
add-requires-else-is_of_another-clause-room c =
    let room = subst (λ (r : Reassembly). is_past r.clock r.known.unfinished ≡ false) (sym c.self.view_is) c.requires.room in
    let few = few-octets c.self.inside.clock c.self.inside.unfinished room in
    let fewer = octets-forgotten c.args.fragment.now.id c.self.inside.unfinished in
    rw c.forget.ensures.after (omega (arith, few, fewer))

pub invariant_of-self-then-is_of_another : goal.invariant_of-self-then-is_of_another
invariant_of-self-then-is_of_another c =
    let f = c.self.inside in
    let number = c.args.number in
    let one = c.in_ok-datagram.datagram in
    let some = c.forget.new.self in
    let others = c.forget-2.new.self in
    let both = numbered-both f.last f.unfinished f.others c.self.invariant c.args.fragment.now.id some others c.forget.ensures.after c.forget-2.ensures.after in
    let later = subst (λ (r : Reassembly). r.last < number) (sym c.self.view_is) c.requires.later in
    put-or-not c.add.result (AreNumbered number some) c.add.new.self (insert_entry nat_cmp others number one) others c.add.ensures.ok c.add.ensures.err
    (numbered-other f.last some others both number one later) (numbered-later f.last some others both number later)

pub invariant_of-self-else-is_of_another : goal.invariant_of-self-else-is_of_another
invariant_of-self-else-is_of_another c =
    let f = c.self.inside in
    let number = c.args.number in
    let one = c.in_ok-datagram.datagram in
    let some = c.forget.new.self in
    let others = c.forget-2.new.self in
    let both = numbered-both f.last f.unfinished f.others c.self.invariant c.args.fragment.now.id some others c.forget.ensures.after c.forget-2.ensures.after in
    let later = subst (λ (r : Reassembly). r.last < number) (sym c.self.view_is) c.requires.later in
    put-or-not c.add-else-is_of_another.result (λ (u : Known). AreNumbered number u others) c.add-else-is_of_another.new.self (insert_entry nat_cmp some number one) some c.add-else-is_of_another.ensures.ok c.add-else-is_of_another.ensures.err
    (numbered-one f.last some others both number one later) (numbered-later f.last some others both number later)
