-- The packet is heard behind those before it.
use Rattle.std.proofs.Common.{rules, ◌≡◌, ◌∙◌, None, Option, Some, List, ap, sym}
use Rattle.std.specs.BTreeMap.{insert_entry, is_at}
use Rattle.std.specs.Map.{lookup}
use Rattle.std.specs.Option.{unwrap_or}
use Rattle.babel_timeline.specs.Hearing.{nothing_heard}
use Rattle.babel_timeline.specs.declared.heard.Heard.{Heard}
use Rattle.babel_timeline.proofs.HearingLaws.{counts_if_ok}
use Rattle.babel_timeline.proofs.KeptLaws.{set_is_insert}
use Rattle.babel_timeline.proofs.teller.Teller.hear_packet.Goals as goal

pub returns-in-Some-clause-counts : goal.returns-in-Some-clause-counts
returns-in-Some-clause-counts g c =
    let old = c.args.self.now.heard.entries in
    let there : lookup (is_at (g.S.Ord.cmp c.args.sender)) old ≡ Some c.in-Some.heard.now = search rules in
    counts_if_ok g.S.Ord.cmp c.args.sender c.args.start c.args.packet.now old (c.get_mut.follows.lender c.take.new.heard).entries c.in-Some.heard.now c.take.new.heard c.take.result
    (sym (ap (λ (h : Option Heard). unwrap_or h nothing_heard) there)) c.take.ensures.octets c.take.ensures.counts
    ((c.get_mut.follows.holds c.take.new.heard).0 ∙ set_is_insert g.S.Ord.cmp c.args.sender g.met.S.Ord.total old c.in-Some.heard.now c.take.new.heard c.get_mut.ensures.ordered there)

pub returns-in-Ok-clause-counts : goal.returns-in-Ok-clause-counts
returns-in-Ok-clause-counts g c =
    let old = c.args.self.now.heard.entries in
    let none : lookup (is_at (g.S.Ord.cmp c.args.sender)) old ≡ None = search rules in
    let kept : c.get_mut.follows.lender-at-none.entries ≡ old = search rules in
    let put : c.insert.new.self.entries ≡ insert_entry g.S.Ord.cmp c.get_mut.follows.lender-at-none.entries c.args.sender c.take-taken.new.heard = search rules in
    counts_if_ok g.S.Ord.cmp c.args.sender c.args.start c.args.packet.now old c.insert.new.self.entries c.nothing-heard.result c.take-taken.new.heard c.take-taken.result
    (c.nothing-heard.ensures ∙ sym (ap (λ (h : Option Heard). unwrap_or h nothing_heard) none)) c.take-taken.ensures.octets c.take-taken.ensures.counts
    (put ∙ ap (λ (es : List (g.row.S.Denot × Heard)). insert_entry g.S.Ord.cmp es c.args.sender c.take-taken.new.heard) kept)
