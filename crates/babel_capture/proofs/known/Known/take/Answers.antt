-- The number of the one that is told tells it, and it is written back in its place.
use Rattle.std.proofs.Common.{rules, ◌≡◌, ◌∙◌, ◌-◌, ◌+◌, arith, None, Option, Some, ap, refl, sym, subst, ℕ}
use Rattle.std.specs.BTreeMap.{is_at}
use Rattle.std.specs.Map.{lookup, set_value}
use Rattle.std.specs.Option.{option_map}
use Rattle.std.specs.Ordering.{nat_cmp}
use Rattle.babel_capture.specs.declared.datagram.Datagram.{Datagram}
use Rattle.babel_capture.specs.declared.datagram.Step.{Step}
use Rattle.babel_capture.specs.declared.datagram.Step.TheVariants as steps
use Rattle.babel_capture.specs.Fragments.{Known, changed, changed_with, step_of, stepped, of_id, of_id_after, step_in}
use Rattle.babel_capture.specs.Indexing.{IsIndexed}
use Rattle.babel_capture.specs.Pieces.{fragment_of, len_of}
use Rattle.babel_capture.specs.contracts.fragment.DatagramIdOrd.TheImpl.{ghosts}
use Rattle.babel_capture.proofs.KnownLaws.{changed-named, found-set, held-by, indexed-stepped, kept-named, known-by, len-of-found, on-err, set_value-same, some-mut, step-named, unknown-by}
use Rattle.babel_capture.proofs.known.Known.take.Goals as goal
use Rattle.babel_capture.proofs.known.Known.take.Goals.{After-from-2, After-take, In_default}

-- none is known
none : (c : In_default) → of_id c.args.fragment.now.id c.self.inside.datagrams.entries ≡ None
none c =
    unknown-by c.self.inside.numbers.entries c.self.inside.datagrams.entries c.self.inside.octets c.self.invariant c.args.fragment.now.id
    (sym c.get.ensures.value ∙ sym c.copied.ensures ∙ c.in_default.is)

pub returns-in_default-clause-step : goal.returns-in_default-clause-step
returns-in_default-clause-step c =
    let fragment = fragment_of c.args.fragment.now in
    let nothing : Option Step = None in
    subst (λ (k : Known). nothing ≡ step_of k fragment) c.self.view_is (ap (option_map (λ (one : ℕ × Datagram). step_in one.1 fragment)) (sym (none (goal.at.returns-in_default-clause-step c).In_default)))

pub returns-in_default-clause-changed : goal.returns-in_default-clause-changed
returns-in_default-clause-changed c =
    let fragment = fragment_of c.args.fragment.now in
    subst (λ (k : Known). k ≡ changed k fragment) c.self.view_is
    (ap (changed_with c.self.inside.datagrams.entries fragment) (sym (none (goal.at.returns-in_default-clause-changed c).In_default)))

pub returns-in_default-clause-kept : goal.returns-in_default-clause-kept
returns-in_default-clause-kept c =
    let fragment = fragment_of c.args.fragment.now in
    let after : ℕ × Datagram → ℕ × Datagram = λ one. (one.0, stepped one.1 fragment (step_in one.1 fragment)) in
    let nothing = none (goal.at.returns-in_default-clause-kept c).In_default in
    subst (λ (k : Known). of_id fragment.id k ≡ of_id_after k fragment) c.self.view_is (nothing ∙ sym (ap (option_map after) nothing))

pub unwrap-datagram-requires : goal.unwrap-datagram-requires
unwrap-datagram-requires c =
    some-mut c.get_mut.result _ c.get_mut.ensures.value
    (held-by c.self.inside.numbers.entries c.self.inside.datagrams.entries c.self.inside.octets c.self.invariant c.args.fragment.now.id c.in-Some.number
    (sym c.get.ensures.value ∙ sym c.copied.ensures ∙ c.in-Some.is))

-- one is known by this number, and is written back there
named : (c : After-take) → lookup (is_at (ghosts.cmp c.args.fragment.now.id)) c.self.inside.numbers.entries ≡ Some c.in-Some.number
named c = sym c.get.ensures.value ∙ sym c.copied.ensures ∙ c.in-Some.is

found : (c : After-take) → lookup (is_at (nat_cmp c.in-Some.number)) c.self.inside.datagrams.entries ≡ Some c.unwrap-datagram.result.now
found c = search rules

written : (c : After-take) → (c.get_mut.follows.lender c.take.new.self).entries ≡ set_value (is_at (nat_cmp c.in-Some.number)) c.self.inside.datagrams.entries c.take.new.self
written c = (c.get_mut.follows.holds c.take.new.self).0

-- so that they are the same where it is
unchanged : (c : After-take) → c.take.new.self ≡ c.unwrap-datagram.result.now → (c.get_mut.follows.lender c.take.new.self).entries ≡ c.self.inside.datagrams.entries
unchanged c same =
    let test = is_at (nat_cmp c.in-Some.number) in
    let known = c.self.inside.datagrams.entries in
    written c ∙ ap (set_value test known) same ∙ set_value-same test c.unwrap-datagram.result.now known (found c)

pub invariant_of-self : goal.invariant_of-self
invariant_of-self c =
    subst (λ (k : Known). IsIndexed c.self.inside.numbers.entries k c.self.inside.octets) (sym (unchanged (goal.at.invariant_of-self c).After-take c.in_err-step.ensures.err)) c.self.invariant

pub returns-in_err-step-clause-err : goal.returns-in_err-step-clause-err
returns-in_err-step-clause-err c = on-err c.from_residual.result _ (unchanged (goal.at.returns-in_err-step-clause-err c).After-take c.in_err-step.ensures.err ∙ c.self.view_is)

-- and the others as before where it has one more
indexed : (c : After-from-2) → IsIndexed c.self.inside.numbers.entries (c.get_mut.follows.lender c.take.new.self).entries (c.self.inside.octets - c.from.result + c.from-2.result)
indexed c =
    let numbers = c.self.inside.numbers.entries in
    let known = c.self.inside.datagrams.entries in
    let octets = c.self.inside.octets in
    let old = c.unwrap-datagram.result.now in
    let new = c.take.new.self in
    let before : c.from.result ≡ len_of old.pieces = c.from.ensures ∙ c.len-before.ensures in
    let later : c.from-2.result ≡ len_of new.pieces = c.from-2.ensures ∙ c.len-after.ensures in
    let there : lookup (is_at (nat_cmp c.in-Some.number)) known ≡ Some old = search rules in
    let within = len-of-found numbers known octets c.self.invariant c.in-Some.number old there in
    indexed-stepped numbers known octets c.self.invariant c.in-Some.number old new (fragment_of c.args.fragment.now) c.in_ok-step.step (c.get_mut.follows.lender new).entries
    (octets - c.from.result + c.from-2.result) there c.in_ok-step.ensures.stepped (c.get_mut.follows.holds new).0 (omega (arith, before, later, within))

pub invariant_of-self-2 : goal.invariant_of-self-2
invariant_of-self-2 c = indexed (goal.at.invariant_of-self-2 c).After-from-2

pub returns-clause-step : goal.returns-clause-step
returns-clause-step c =
    let fragment = fragment_of c.args.fragment.now in
    let at = (goal.at.returns-clause-step c).After-take in
    subst (λ (k : Known). Some c.in_ok-step.step ≡ step_of k fragment) c.self.view_is
    (ap Some c.in_ok-step.ensures.step ∙ step-named c.self.inside.numbers.entries c.self.inside.datagrams.entries c.self.inside.octets c.self.invariant fragment.id c.in-Some.number
    c.unwrap-datagram.result.now (named at) (found at) fragment refl)

pub returns-clause-changed : goal.returns-clause-changed
returns-clause-changed c =
    let fragment = fragment_of c.args.fragment.now in
    let at = (goal.at.returns-clause-changed c).After-take in
    let known = c.self.inside.datagrams.entries in
    let old = c.unwrap-datagram.result.now in
    let after = (c.get_mut.follows.lender c.take.new.self).entries in
    let is : c.take.new.self ≡ stepped old fragment c.in_ok-step.step = c.in_ok-step.ensures.stepped in
    subst (λ (k : Known). after ≡ changed k fragment) c.self.view_is
    (written at ∙ ap (set_value (is_at (nat_cmp c.in-Some.number)) known) (is ∙ ap (stepped old fragment) c.in_ok-step.ensures.step)
    ∙ changed-named c.self.inside.numbers.entries known c.self.inside.octets c.self.invariant fragment.id c.in-Some.number old (named at) (found at) fragment refl)

pub returns-clause-kept : goal.returns-clause-kept
returns-clause-kept c =
    let fragment = fragment_of c.args.fragment.now in
    let at = (goal.at.returns-clause-kept c).After-take in
    let numbers = c.self.inside.numbers.entries in
    let number = c.in-Some.number in
    let known = c.self.inside.datagrams.entries in
    let old = c.unwrap-datagram.result.now in
    let new = c.take.new.self in
    let after = (c.get_mut.follows.lender new).entries in
    let now = known-by numbers after _ (indexed (goal.at.returns-clause-kept c).After-from-2) fragment.id number new (named at) (found-set number old new known after (found at) (written at)) in
    subst (λ (k : Known). of_id fragment.id after ≡ of_id_after k fragment) c.self.view_is
    (kept-named numbers known c.self.inside.octets c.self.invariant number old new fragment c.in_ok-step.step after now (named at) (found at) c.in_ok-step.ensures.stepped c.in_ok-step.ensures.step)

pub returns-clause-anew : goal.returns-clause-anew
returns-clause-anew c anew =
    let old = c.unwrap-datagram.result.now in
    let step : c.in_ok-step.step ≡ steps.Anew = cc in
    unchanged (goal.at.returns-clause-anew c).After-take (c.in_ok-step.ensures.stepped ∙ ap (stepped old (fragment_of c.args.fragment.now)) step) ∙ c.self.view_is
