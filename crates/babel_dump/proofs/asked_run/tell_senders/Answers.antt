use Rattle.std.proofs.Common.{ap, ◌∙◌}
use Rattle.babel_dump.specs.RunText.{status_of_all}
use Rattle.babel_dump.proofs.AskedRuns.{keeps_itself, keeps_left, wrote_so}
use Rattle.babel_dump.proofs.asked_run.tell_senders.Goals as goal

pub returns : goal.returns
returns g c =
    let other = g.S.Read.remaining c.args.other in
    wrote_so c.args.each.now c.ask.new.self (g.R.Read.remaining c.args.reader) other _ _ _ _ _ _ c.in_ok-read.field-0 c.in_ok-senders.field-0 _ _ c.new-begun.ensures.begins c.begins.ensures
    c.in_default.not-Dump (keeps_left other _ other (ap (λ state. state.left) c.new-pairs.ensures) (keeps_itself other)) c.in_ok-ask.ensures
    (keeps_left _ _ _ c.into_device.ensures.gives c.new-begun.ensures.kept) c.in_ok-read.ensures.made c.in_ok-senders.ensures c.in_ok-done-2.ensures.senders
    c.deref-2.ensures.value c.in_ok-write_text.ensures.whole (c.in_ok-done-2.ensures.status ∙ c.status_of_all.ensures ∙ ap status_of_all c.deref.ensures.value)
