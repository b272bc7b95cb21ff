-- With one more they are indexed, and so they are where there is no memory for it.
use Rattle.std.proofs.Common.{rules, ◌≡◌, ◌+◌, ◌∙◌, ℕ, None, ap, sym, subst}
use Rattle.std.specs.BTreeMap.{insert_entry, is_at}
use Rattle.std.specs.Map.{lookup, remove_entry}
use Rattle.std.specs.Ordering.{nat_cmp}
use Rattle.babel_capture.specs.Fragments.{Known, of_id}
use Rattle.babel_capture.specs.Indexing.{IsIndexed}
use Rattle.babel_capture.specs.contracts.fragment.DatagramIdOrd.TheImpl.{ghosts}
use Rattle.babel_capture.proofs.KnownLaws.{found-with, indexed-back, indexed-with}
use Rattle.babel_capture.proofs.known.Known.add.Goals as goal

pub invariant_of-self-then-is_err-2 : goal.invariant_of-self-then-is_err-2
invariant_of-self-then-is_err-2 c =
    let id = c.args.datagram.id in
    let numbers = c.self.inside.numbers.entries in
    let known = c.self.inside.datagrams.entries in
    let none = subst (λ (k : Known). of_id id k ≡ None) (sym c.self.view_is) c.requires.own in
    let kept : c.insert-2.new.self.entries ≡ known = search rules in
    let named : c.insert.new.self.entries ≡ insert_entry ghosts.cmp numbers id c.args.number = search rules in
    let undone : c.remove.new.self.entries ≡ remove_entry (is_at (ghosts.cmp id)) c.insert.new.self.entries = search rules in
    subst (λ (k : Known). IsIndexed c.remove.new.self.entries k c.self.inside.octets) (sym kept)
    (indexed-back numbers known c.self.inside.octets c.self.invariant id c.args.number c.insert.new.self.entries c.remove.new.self.entries none named undone c.remove.ensures.ordered)

pub invariant_of-self-2 : goal.invariant_of-self-2
invariant_of-self-2 c =
    let id = c.args.datagram.id in
    let numbers = c.self.inside.numbers.entries in
    let known = c.self.inside.datagrams.entries in
    let none = subst (λ (k : Known). of_id id k ≡ None) (sym c.self.view_is) c.requires.own in
    let free = subst (λ (k : Known). lookup (is_at (nat_cmp c.args.number)) k ≡ None) (sym c.self.view_is) c.requires.number in
    let named : c.insert.new.self.entries ≡ insert_entry ghosts.cmp numbers id c.args.number = search rules in
    let put : c.insert-2.new.self.entries ≡ insert_entry nat_cmp known c.args.number c.args.datagram = search rules in
    indexed-with numbers known c.self.inside.octets c.self.invariant c.args.number c.args.datagram c.insert.new.self.entries c.insert-2.new.self.entries (c.self.inside.octets + c.from.result)
    none free named put (ap (λ (n : ℕ). c.self.inside.octets + n) (c.from.ensures ∙ c.len.ensures))

pub returns-clause-found : goal.returns-clause-found
returns-clause-found c =
    let id = c.args.datagram.id in
    let numbers = c.self.inside.numbers.entries in
    let known = c.self.inside.datagrams.entries in
    let none = subst (λ (k : Known). of_id id k ≡ None) (sym c.self.view_is) c.requires.own in
    let free = subst (λ (k : Known). lookup (is_at (nat_cmp c.args.number)) k ≡ None) (sym c.self.view_is) c.requires.number in
    let named : c.insert.new.self.entries ≡ insert_entry ghosts.cmp numbers id c.args.number = search rules in
    let put : c.insert-2.new.self.entries ≡ insert_entry nat_cmp known c.args.number c.args.datagram = search rules in
    found-with numbers known c.self.inside.octets c.self.invariant c.args.number c.args.datagram c.insert.new.self.entries c.insert-2.new.self.entries none free named put
