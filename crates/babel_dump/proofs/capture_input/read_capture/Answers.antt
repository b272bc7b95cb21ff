-- What was fed is the whole of what the reader gave, and the sink took the packets of it.
use Rattle.std.proofs.Common.{◌≡◌, rules, ℕ, Option, sym, ap, subst, ◌∙◌, inl, inr}
use Rattle.std.proofs.lemmas.Result.{err_from_is_err_and}
use Rattle.babel_capture.specs.Capture.{IsReadToCut}
use Rattle.babel_capture.specs.Counts.{Counts}
use Rattle.babel_capture.specs.Sinking.{EndMore, Sinks}
use Rattle.babel_dump.specs.LeftOut.{LeavesNoneOut, first_left_out}
use Rattle.babel_dump.proofs.CaptureReads.{feed_cause, given_capture, given_cut, given_fault, given_read, lost_of}
use Rattle.babel_dump.proofs.capture_input.read_capture.Goals as goal

pub returns : goal.returns
returns g c =
    let fed = c.in_ok-feed_all.ensures in
    let f = c.feed_all.new.capture in
    let ended = c.end.new.self in
    let cut = c.in_ok-cut.ensures.ok in
    let report : c.report.result ≡ ended.progress.gathering.report = search rules in
    record {
      made = rw (← c.capture_for-capture.ensures.wanted) (given_read g.S.Sink.has c.args.sink.now c.feed_all.new.sink c.end.new.sink _ f ended
          (record { limit = fed.limit; wanted = fed.wanted }) fed.gathered.made c.end.ensures.same.0 c.end.ensures.same.1 c.end.ensures.wanted _
          (subst (λ (place : Option ℕ). Sinks g.S.Sink.has c.feed_all.new.sink c.end.new.sink (EndMore f.progress f.pending ended.progress.gathering place)) (sym cut.0)
          c.in_ok-end.ensures.sunk)
          c.into_gathered.ensures cut.1 (λ strict. subst (λ (r : Counts). LeavesNoneOut r) report (c.in_ok-refuse_left_out.ensures.none strict)) c.moment-moment.ensures);
      cause = tt;
      called = search rules;
    }

pub returns-in_err-feed_all : goal.returns-in_err-feed_all
returns-in_err-feed_all g c =
    let exit = err_from_is_err_and c.from_residual.result c.from_residual.ensures.1 in record {
      made = search rules;
      cause = rw (exit.1, exit.2, ← c.capture_for-capture.ensures.wanted) (feed_cause _ _ _ c.in_err-feed_all.ensures.gathered.cause);
      called = search rules;
    }

pub returns-in_err-end : goal.returns-in_err-end
returns-in_err-end g c =
    let fed = c.in_ok-feed_all.ensures in
    let f = c.feed_all.new.capture in
    let exit = err_from_is_err_and c.from_residual-in_err-end.result c.from_residual-in_err-end.ensures.1 in record {
      made = search rules;
      cause = rw (exit.1, exit.2, ← c.capture_for-capture.ensures.wanted) (λ not_memory.
          given_fault g.S.Sink.has c.args.sink.now c.feed_all.new.sink _ f (record { limit = fed.limit; wanted = fed.wanted })
          fed.gathered.made _
          (λ given read accepted. elim (c.in_err-end.ensures.not_cut fed.sound) [ inl none ↦ inl none | inr lost ↦ inr (lost_of f _ fed.sound lost given read) ])
          (c.in_err-end.ensures.fault not_memory));
      called = search rules;
    }

pub returns-in_err-cut : goal.returns-in_err-cut
returns-in_err-cut g c =
    let fed = c.in_ok-feed_all.ensures in
    let f = c.feed_all.new.capture in
    let ended = c.end.new.self in
    let short = c.in_err-cut.ensures.err in
    let exit = err_from_is_err_and c.from_residual-in_err-cut.result c.from_residual-in_err-cut.ensures.1 in record {
      made = search rules;
      cause = rw (exit.1, exit.2, ← c.capture_for-capture.ensures.wanted) (λ _.
          given_cut g.S.Sink.has c.args.sink.now c.feed_all.new.sink c.end.new.sink _ f ended (record { limit = fed.limit; wanted = fed.wanted }) fed.gathered.made
          c.end.ensures.same.0 c.end.ensures.same.1 c.end.ensures.wanted short.1.0 _
          (λ given read. subst (λ (place : Option ℕ). IsReadToCut f.limit given ended.progress.gathering place) short.1.1 (c.in_ok-end.ensures.ok given read))
          short.0 short.1.2);
      called = search rules;
    }

pub returns-in_err-refuse_left_out : goal.returns-in_err-refuse_left_out
returns-in_err-refuse_left_out g c =
    let fed = c.in_ok-feed_all.ensures in
    let f = c.feed_all.new.capture in
    let ended = c.end.new.self in
    let cut = c.in_ok-cut.ensures.ok in
    let first = c.in_err-refuse_left_out.ensures.first in
    let report : c.report.result ≡ ended.progress.gathering.report = search rules in
    let exit = err_from_is_err_and c.from_residual-in_err-refuse_left_out.result c.from_residual-in_err-refuse_left_out.ensures.1 in record {
      made = search rules;
      cause = rw (exit.1, exit.2, first.3, ← c.capture_for-capture.ensures.wanted) (record {
        gathering = ended.progress.gathering;
        cut = c.in_ok-cut.cut;
        given = given_capture g.S.Sink.has c.args.sink.now c.feed_all.new.sink c.end.new.sink _ f ended (record { limit = fed.limit; wanted = fed.wanted }) fed.gathered.made
            c.end.ensures.same.0 c.end.ensures.same.1 c.end.ensures.wanted c.in_ok-cut.cut
            (λ given read. subst (λ (place : Option ℕ). IsReadToCut f.limit given ended.progress.gathering place) (sym cut.0) (c.in_ok-end.ensures.ok given read)) cut.1;
        strict = first.0;
        first = ap first_left_out (sym report) ∙ first.2;
      });
      called = search rules;
    }
