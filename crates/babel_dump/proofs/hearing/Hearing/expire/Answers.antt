use Rattle.std.proofs.Common.{[], subst, sym}
use Rattle.std.proofs.lemmas.Result.{on_ok_weaker}
use Rattle.babel_timeline.specs.Rows.{AllLast}
use Rattle.babel_timeline.specs.declared.teller.Teller.{Teller}
use Rattle.babel_timeline.specs.SilencesTold.{TellsSilences}
use Rattle.babel_timeline.specs.Telling.{TellsEnds, of_rows}
use Rattle.babel_dump.specs.EventsRun.{asked_by}
use Rattle.babel_dump.specs.Speakers.{speaker_cmp}
use Rattle.babel_dump.specs.declared.speaker.Speaker.{Speaker}
use Rattle.babel_dump.proofs.EventsFollowed.{both_ok, counts_told_so, ends_tell_so, same_rows, silences_so}
use Rattle.babel_dump.proofs.SpeakerLaws.{speaker_order}
use Rattle.babel_dump.proofs.TakeLaws.{last_so}
use Rattle.babel_dump.proofs.hearing.Hearing.expire.Goals as goal

pub returns : goal.returns
returns c suits =
    let events = c.args.events.now in
    let teller = c.args.self.now.teller in
    let told = c.expire.new.told.items in
    on_ok_weaker c.tell.result
    (λ both. record {
      ended = told;
      tells = same_rows (λ rows. TellsEnds speaker_cmp events.expiry (asked_by events) c.args.until teller.timeline.rows rows [] (of_rows (asked_by events) told)) _ _ c.tell.ensures.same.0
          (ends_tell_so _ speaker_order events teller suits c.args.until _ _ _ (rw c.clear.ensures.items at c.in_ok-expire.ensures.ok));
      silences = λ watching. subst (λ (t : Teller Speaker). TellsSilences speaker_cmp [] c.args.until [] told teller.watch t.watch) (sym c.tell.ensures.same.0)
          (silences_so _ speaker_order events teller suits [] c.args.until [] told c.expire.new.self.watch (rw c.clear.ensures.items at c.in_ok-expire.ensures.silences) watching);
      counts = counts_told_so _ speaker_order events teller suits [] told (rw c.clear.ensures.items at c.in_ok-expire.ensures.holding);
      last = same_rows (λ rows. AllLast speaker_cmp events.expiry c.args.until rows) _ _ c.tell.ensures.same.0 (last_so _ speaker_order events teller suits c.args.until _ c.in_ok-expire.ensures.last);
      printed = c.tell.new.self.printed.items;
      from = both.0;
      written = both.1;
    }) (both_ok _ _ c.tell.result c.tell.ensures.from c.tell.ensures.told)
