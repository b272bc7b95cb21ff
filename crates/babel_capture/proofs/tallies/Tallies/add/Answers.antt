-- The sender has one packet more.
use Rattle.std.proofs.Common.{rules, ◌≡◌, ◌≤◌, ◌∙◌, sym, subst, length, inr, refl}
use Rattle.std.specs.Prelude.{None, Option, Some}
use Rattle.std.specs.BTreeMap.{insert_entry, is_at}
use Rattle.std.specs.List.Sorted.{IsStrictlySortedBy}
use Rattle.std.specs.Map.{keys_of, lookup, set_value}
use Rattle.babel_capture.specs.declared.tallies.Tally.{Tally}
use Rattle.babel_capture.specs.Tallies.{Senders, CountNeedsMemory, no_packets, one_more}
use Rattle.babel_capture.specs.contracts.tallies.OriginOrd.TheImpl.{ghosts}
use Rattle.babel_capture.proofs.TallyLaws.{put-by, tallied-as, unknown-by, written-by}
use Rattle.babel_capture.proofs.tallies.Tallies.add.Goals as goal

pub returns-then-len-ge-MAX_SENDERS-clause-err : goal.returns-then-len-ge-MAX_SENDERS-clause-err
returns-then-len-ge-MAX_SENDERS-clause-err c =
    let none : lookup (is_at (ghosts.cmp c.args.origin)) c.args.self.now ≡ None = search rules in
    let many : 65536 ≤ length c.args.self.now = search rules in
    inr (refl, (many, sym (unknown-by c.args.self.now c.args.origin) ∙ none))

pub returns-in-Ok-clause-ok : goal.returns-in-Ok-clause-ok
returns-in-Ok-clause-ok c =
    let none : lookup (is_at (ghosts.cmp c.args.origin)) c.args.self.now ≡ None = search rules in
    let first : c.add.new.self ≡ one_more no_packets c.args.time c.args.packet.now c.args.has_trailer = search rules in
    let put : c.insert.new.self.entries ≡ insert_entry ghosts.cmp c.args.self.now c.args.origin c.add.new.self = search rules in
    tallied-as c.args.self.now c.insert.new.self.entries c.args.origin c.args.time c.args.packet.now c.args.has_trailer None c.add.new.self
    (sym (unknown-by c.args.self.now c.args.origin) ∙ none) first (put ∙ put-by c.args.self.now c.args.origin c.add.new.self)

pub returns-in-Err-clause-memory : goal.returns-in-Err-clause-memory
returns-in-Err-clause-memory c memory =
    let none : lookup (is_at (ghosts.cmp c.args.origin)) c.args.self.now ≡ None = search rules in
    subst (λ (t : Option Tally). CountNeedsMemory t c.args.packet.now c.args.has_trailer) (sym none ∙ unknown-by c.args.self.now c.args.origin) tt

pub returns-in-None-clause-memory : goal.returns-in-None-clause-memory
returns-in-None-clause-memory c memory =
    let found : lookup (is_at (ghosts.cmp c.args.origin)) c.args.self.now ≡ Some c.in-Some.tally.now = search rules in
    subst (λ (t : Option Tally). CountNeedsMemory t c.args.packet.now c.args.has_trailer) (sym found ∙ unknown-by c.args.self.now c.args.origin) (search rules)

pub returns-in-Some-add-2-clause-ok : goal.returns-in-Some-add-2-clause-ok
returns-in-Some-add-2-clause-ok c =
    let found : lookup (is_at (ghosts.cmp c.args.origin)) c.args.self.now ≡ Some c.in-Some.tally.now = search rules in
    let more : c.add-2.new.self ≡ one_more c.in-Some.tally.now c.args.time c.args.packet.now c.args.has_trailer = search rules in
    let sorted : IsStrictlySortedBy ghosts.cmp (keys_of c.args.self.now) = subst (λ (s : Senders). IsStrictlySortedBy ghosts.cmp (keys_of s)) c.self.view_is c.get_mut.ensures.ordered in
    let after = (c.get_mut.follows.lender c.add-2.new.self).entries in
    let written : after ≡ set_value (is_at (ghosts.cmp c.args.origin)) c.args.self.now c.add-2.new.self =
    subst (λ (s : Senders). after ≡ set_value (is_at (ghosts.cmp c.args.origin)) s c.add-2.new.self) c.self.view_is (c.get_mut.follows.holds c.add-2.new.self).0 in
    tallied-as c.args.self.now after c.args.origin c.args.time c.args.packet.now c.args.has_trailer (Some c.in-Some.tally.now) c.add-2.new.self
    (sym (unknown-by c.args.self.now c.args.origin) ∙ found) more (written ∙ written-by c.args.self.now c.args.origin c.in-Some.tally.now c.add-2.new.self found sorted)
