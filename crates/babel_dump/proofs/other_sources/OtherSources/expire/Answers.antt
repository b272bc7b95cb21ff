use Rattle.std.proofs.Common.{[], subst, sym}
use Rattle.std.proofs.lemmas.Result.{on_ok_weaker}
use Rattle.babel_timeline.specs.Telling.{TellsEnds, of_rows}
use Rattle.babel_dump.specs.EventsRun.{asked_by, without_pair}
use Rattle.babel_dump.specs.Speakers.{speaker_cmp}
use Rattle.babel_dump.proofs.EventsFollowed.{ends_tell_so}
use Rattle.babel_dump.proofs.HeardOthers.{others_until}
use Rattle.babel_dump.proofs.SpeakerLaws.{speaker_order}
use Rattle.babel_dump.proofs.other_sources.OtherSources.expire.Goals as goal

pub returns : goal.returns
returns c =
    on_ok_weaker c.keep.result
    (λ held events made moment was.
    let old = c.args.self.now in
    let so = without_pair events in
    let told = c.expire.new.told.items in
    others_until events made c.args.until old c.keep.new.self told c.args.since.now.moment was
    (subst (λ teller. TellsEnds speaker_cmp so.expiry (asked_by so) c.args.until old.teller.timeline.rows teller.timeline.rows [] (of_rows (asked_by so) told)) (sym c.keep.ensures.same.0)
    (ends_tell_so _ speaker_order so old.teller was.suits c.args.until _ _ _ (rw c.clear.ensures.items at c.in_ok-expire.ensures.ok)))
    moment c.keep.ensures.same.1 held) c.keep.ensures.held
