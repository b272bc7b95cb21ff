use Rattle.std.proofs.Common.{◌≡◌, true, false, refl, sym}
use Rattle.babel_dump.proofs.OthersHeld.{others_changed, others_passed, updated_so}
use Rattle.babel_dump.proofs.SpeakerLaws.{speaker_order}
use Rattle.babel_dump.proofs.other_sources.keep_change.Goals as goal

pub returns-then-not-is_source_specific : goal.returns-then-not-is_source_specific
returns-then-not-is_source_specific c told =
    others_passed c.args.dst.now c.args.since.now.moment told c.args.change.now c.args.held.now
    (λ is. let both : false ≡ true = c.if-not-is_source_specific.ensures.1 is in absurd cc)

pub returns-in_ok-insert : goal.returns-in_ok-insert
returns-in_ok-insert c told =
    others_changed c.args.dst.now c.args.since.now.moment told c.args.change.now c.args.held.now c.insert.new.self true (c.if-not-is_source_specific.ensures.0 refl)
    (sym c.if-was_held.ensures) (updated_so _ speaker_order c.args.held.now c.insert.new.self c.args.change.now.subject true c.in_ok-insert.ensures.updates.0)

pub returns-else-was_held : goal.returns-else-was_held
returns-else-was_held c told =
    others_changed c.args.dst.now c.args.since.now.moment told c.args.change.now c.args.held.now c.remove.new.self false (c.if-not-is_source_specific.ensures.0 refl)
    (sym c.if-was_held.ensures) (updated_so _ speaker_order c.args.held.now c.remove.new.self c.args.change.now.subject false c.remove.ensures.updates.0)
