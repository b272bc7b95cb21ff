-- The one that is settled has a number of its own, and those of the others are not too many octets.
use Rattle.std.proofs.Common.{◌≡◌, false, None, arith, sym, subst}
use Rattle.std.specs.BTreeMap.{insert_entry, is_at}
use Rattle.std.specs.Map.{lookup}
use Rattle.std.specs.Ordering.{nat_cmp}
use Rattle.babel_capture.specs.Fragments.{Known, Reassembly, forgotten, is_past}
use Rattle.babel_capture.specs.Indexing.{AreNumbered}
use Rattle.babel_capture.proofs.FragmentLaws.{few-octets, free-other, numbered-both, numbered-forgotten-other, numbered-settled, octets-forgotten, put-or-not}
use Rattle.babel_capture.proofs.fragments.Fragments.settle.Goals as goal

pub add-requires-clause-number : goal.add-requires-clause-number
add-requires-clause-number c =
    let f = c.self.inside in
    let id = c.args.id.now in
    subst (λ (o : Known). lookup (is_at (nat_cmp c.in-Some.number)) o ≡ None) (sym c.forget.ensures.after)
    (free-other f.last f.unfinished (forgotten id f.others) (numbered-forgotten-other f.last f.unfinished f.others c.self.invariant id) c.in-Some.number c.in-Some.datagram c.in-Some.ensures.held)

pub add-requires-clause-room : goal.add-requires-clause-room
add-requires-clause-room c =
    let room = subst (λ (r : Reassembly). is_past r.clock r.known.others ≡ false) (sym c.self.view_is) c.requires.few in
    let few = few-octets c.self.inside.clock c.self.inside.others room in
    let fewer = octets-forgotten c.args.id.now c.self.inside.others in
    rw c.forget.ensures.after (omega (arith, few, fewer))

pub invariant_of-self : goal.invariant_of-self
invariant_of-self c =
    let f = c.self.inside in
    let id = c.args.id.now in
    let number = c.in-Some.number in
    let one = c.in-Some.datagram in
    let numbered = numbered-forgotten-other f.last f.unfinished f.others c.self.invariant id in
    let gone = subst (λ (u : Known). lookup (is_at (nat_cmp number)) u ≡ None) c.forget-2.ensures.after c.in-Some.ensures.gone in
    let settled = numbered-settled f.last id f.unfinished (forgotten id f.others) numbered number one c.in-Some.ensures.held gone in
    put-or-not c.add.result (AreNumbered f.last c.forget-2.new.self) c.add.new.self (insert_entry nat_cmp c.forget.new.self number one) c.forget.new.self c.add.ensures.ok c.add.ensures.err
    (subst (λ (u : Known). AreNumbered f.last u (insert_entry nat_cmp c.forget.new.self number one)) (sym c.forget-2.ensures.after)
    (subst (λ (o : Known). AreNumbered f.last (forgotten id f.unfinished) (insert_entry nat_cmp o number one)) (sym c.forget.ensures.after) settled))
    (numbered-both f.last f.unfinished f.others c.self.invariant id c.forget-2.new.self c.forget.new.self c.forget-2.ensures.after c.forget.ensures.after)

pub invariant_of-self-in-None : goal.invariant_of-self-in-None
invariant_of-self-in-None c =
    numbered-both c.self.inside.last c.self.inside.unfinished c.self.inside.others c.self.invariant c.args.id.now c.forget-2.new.self c.forget.new.self c.forget-2.ensures.after c.forget.ensures.after
