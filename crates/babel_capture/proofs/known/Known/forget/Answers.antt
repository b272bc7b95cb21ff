-- The number of the one that is forgotten tells it.
use Rattle.std.proofs.Common.{rules, ◌≡◌, ◌∙◌, ◌-◌, ℕ, None, Option, Some, sym, subst}
use Rattle.std.specs.Prelude.{IsSome}
use Rattle.std.specs.BTreeMap.{is_at}
use Rattle.std.specs.Map.{lookup, remove_entry}
use Rattle.std.specs.Ordering.{nat_cmp}
use Rattle.babel_capture.specs.declared.datagram.Datagram.{Datagram}
use Rattle.babel_capture.specs.Fragments.{Known, forgotten, of_id}
use Rattle.babel_capture.specs.Indexing.{IsIndexed}
use Rattle.babel_capture.specs.contracts.fragment.DatagramIdOrd.TheImpl.{ghosts}
use Rattle.babel_capture.proofs.KnownLaws.{forgotten-named, forgotten-unnamed, held-by, indexed-without, known-by, len-of-found, own-by, unknown-by}
use Rattle.babel_capture.proofs.known.Known.forget.Goals as goal
use Rattle.babel_capture.proofs.known.Known.forget.Goals.{After-from, After-remove-2}

pub returns-in_default-clause-after : goal.returns-in_default-clause-after
returns-in_default-clause-after c =
    let id = c.args.id.now in
    let known = c.self.inside.datagrams.entries in
    let none : lookup (is_at (ghosts.cmp id)) c.self.inside.numbers.entries ≡ None = search rules in
    subst (λ (k : Known). known ≡ forgotten id k) c.self.view_is (forgotten-unnamed c.self.inside.numbers.entries known c.self.inside.octets c.self.invariant id none)

pub returns-in_default-clause-free : goal.returns-in_default-clause-free
returns-in_default-clause-free c =
    let none : lookup (is_at (ghosts.cmp c.args.id.now)) c.self.inside.numbers.entries ≡ None = search rules in
    unknown-by c.self.inside.numbers.entries c.self.inside.datagrams.entries c.self.inside.octets c.self.invariant c.args.id.now none

pub returns-in_default-clause-one : goal.returns-in_default-clause-one
returns-in_default-clause-one c =
    let id = c.args.id.now in
    let none : lookup (is_at (ghosts.cmp id)) c.self.inside.numbers.entries ≡ None = search rules in
    let nothing : Option (ℕ × Datagram) = None in
    subst (λ (k : Known). nothing ≡ of_id id k) c.self.view_is (sym (unknown-by c.self.inside.numbers.entries c.self.inside.datagrams.entries c.self.inside.octets c.self.invariant id none))

-- one is known by this number
named : (c : After-remove-2) → lookup (is_at (ghosts.cmp c.args.id.now)) c.self.inside.numbers.entries ≡ Some c.in-Some.number
named c = search rules

value : (c : After-remove-2) → c.remove-2.result ≡ lookup (is_at (nat_cmp c.in-Some.number)) c.self.inside.datagrams.entries
value c = search rules

removed : (c : After-remove-2) → c.remove-2.new.self.entries ≡ remove_entry (is_at (nat_cmp c.in-Some.number)) c.self.inside.datagrams.entries
removed c = search rules

pub unwrap-datagram-requires : goal.unwrap-datagram-requires
unwrap-datagram-requires c =
    let at = (goal.at.unwrap-datagram-requires c).After-remove-2 in
    subst IsSome (sym (value at)) (held-by c.self.inside.numbers.entries c.self.inside.datagrams.entries c.self.inside.octets c.self.invariant c.args.id.now c.in-Some.number (named at))

pub overflow_sub-self : goal.overflow_sub-self
overflow_sub-self c =
    let found = sym (value (goal.at.overflow_sub-self c).After-remove-2) ∙ c.unwrap-datagram.ensures in
    rw (c.from.ensures, c.len.ensures)
    (len-of-found c.self.inside.numbers.entries c.self.inside.datagrams.entries c.self.inside.octets c.self.invariant c.in-Some.number c.unwrap-datagram.result found)

-- the others are indexed
indexed : (c : After-from) → IsIndexed c.remove.new.self.entries c.remove-2.new.self.entries (c.self.inside.octets - c.from.result)
indexed c =
    let id = c.args.id.now in
    let number = c.in-Some.number in
    let numbers = c.self.inside.numbers.entries in
    let known = c.self.inside.datagrams.entries in
    let named : lookup (is_at (ghosts.cmp id)) numbers ≡ Some number = search rules in
    let found : lookup (is_at (nat_cmp number)) known ≡ Some c.unwrap-datagram.result = search rules in
    let unnamed : c.remove.new.self.entries ≡ remove_entry (is_at (ghosts.cmp id)) numbers = search rules in
    let removed : c.remove-2.new.self.entries ≡ remove_entry (is_at (nat_cmp number)) known = search rules in
    indexed-without numbers known c.self.inside.octets c.self.invariant id number c.unwrap-datagram.result c.remove.new.self.entries c.remove-2.new.self.entries c.from.result
    named found unnamed removed c.remove.ensures.ordered c.remove-2.ensures.ordered (c.from.ensures ∙ c.len.ensures)

pub invariant_of-self-2 : goal.invariant_of-self-2
invariant_of-self-2 c = indexed (goal.at.invariant_of-self-2 c).After-from

pub returns-clause-after : goal.returns-clause-after
returns-clause-after c =
    let id = c.args.id.now in
    let at = (goal.at.returns-clause-after c).After-remove-2 in
    subst (λ (k : Known). c.remove-2.new.self.entries ≡ forgotten id k) c.self.view_is
    (removed at ∙ forgotten-named c.self.inside.numbers.entries c.self.inside.datagrams.entries c.self.inside.octets c.self.invariant id c.in-Some.number c.unwrap-datagram.result
    (named at) (sym (value at) ∙ c.unwrap-datagram.ensures))

pub returns-clause-free : goal.returns-clause-free
returns-clause-free c =
    unknown-by c.remove.new.self.entries c.remove-2.new.self.entries _ (indexed (goal.at.returns-clause-free c).After-from) c.args.id.now c.remove.ensures.updates.1

pub returns-clause-one : goal.returns-clause-one
returns-clause-one c =
    let id = c.args.id.now in
    let number = c.in-Some.number in
    let datagram = c.unwrap-datagram.result in
    let at = (goal.at.returns-clause-one c).After-remove-2 in
    let one : ℕ × Datagram = (number, datagram) in
    subst (λ (k : Known). Some one ≡ of_id id k) c.self.view_is
    (sym (known-by c.self.inside.numbers.entries c.self.inside.datagrams.entries c.self.inside.octets c.self.invariant id number datagram (named at) (sym (value at) ∙ c.unwrap-datagram.ensures)))

pub returns-clause-own : goal.returns-clause-own
returns-clause-own c =
    let at = (goal.at.returns-clause-own c).After-remove-2 in
    own-by c.self.inside.numbers.entries c.self.inside.datagrams.entries c.self.inside.octets c.self.invariant c.args.id.now c.in-Some.number c.unwrap-datagram.result (named at)
    (sym (value at) ∙ c.unwrap-datagram.ensures)
