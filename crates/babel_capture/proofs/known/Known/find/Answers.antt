-- Its number tells it.
use Rattle.std.proofs.Common.{rules, ◌≡◌, ◌∙◌, ℕ, None, Option, Some, sym, subst}
use Rattle.std.specs.BTreeMap.{is_at}
use Rattle.std.specs.Map.{lookup}
use Rattle.std.specs.Ordering.{nat_cmp}
use Rattle.babel_capture.specs.declared.datagram.Datagram.{Datagram}
use Rattle.babel_capture.specs.Fragments.{Known, of_id}
use Rattle.babel_capture.specs.contracts.fragment.DatagramIdOrd.TheImpl.{ghosts}
use Rattle.babel_capture.proofs.KnownLaws.{held-by, known-by, some-lent, unknown-by}
use Rattle.babel_capture.proofs.known.Known.find.Goals as goal

pub returns-in_default : goal.returns-in_default
returns-in_default c =
    let id = c.args.id.now in
    let none : lookup (is_at (ghosts.cmp id)) c.self.inside.numbers.entries ≡ None = sym c.get.ensures.value ∙ sym c.copied.ensures ∙ c.in_default.is in
    let nothing : Option (ℕ × Datagram) = None in
    subst (λ (k : Known). nothing ≡ of_id id k) c.self.view_is (sym (unknown-by c.self.inside.numbers.entries c.self.inside.datagrams.entries c.self.inside.octets c.self.invariant id none))

pub unwrap-datagram-requires : goal.unwrap-datagram-requires
unwrap-datagram-requires c =
    let id = c.args.id.now in
    let named : lookup (is_at (ghosts.cmp id)) c.self.inside.numbers.entries ≡ Some c.in-Some.number = sym c.get.ensures.value ∙ sym c.copied.ensures ∙ c.in-Some.is in
    some-lent c.get-2.result _ c.get-2.ensures.value
    (held-by c.self.inside.numbers.entries c.self.inside.datagrams.entries c.self.inside.octets c.self.invariant id c.in-Some.number named)

pub returns : goal.returns
returns c =
    let id = c.args.id.now in
    let number = c.in-Some.number in
    let known = c.self.inside.datagrams.entries in
    let datagram = c.unwrap-datagram.result.now in
    let named : lookup (is_at (ghosts.cmp id)) c.self.inside.numbers.entries ≡ Some number = sym c.get.ensures.value ∙ sym c.copied.ensures ∙ c.in-Some.is in
    let found : lookup (is_at (nat_cmp number)) known ≡ Some datagram = search rules in
    let one : ℕ × Datagram = (number, datagram) in
    subst (λ (k : Known). Some one ≡ of_id id k) c.self.view_is
    (sym (known-by c.self.inside.numbers.entries known c.self.inside.octets c.self.invariant id number datagram named found))
