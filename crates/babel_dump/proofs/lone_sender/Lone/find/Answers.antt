-- The sender is the one that announces in what was read.
use Rattle.std.proofs.Common.{rules, ◌∙◌}
use Rattle.babel_dump.proofs.AskedRuns.{keeps_left}
use Rattle.babel_dump.proofs.lone_sender.Lone.find.Goals as goal

pub returns : goal.returns
returns g c = record {
  begins = c.new-begun.result.begins;
  begun = c.new-begun.ensures.begins;
  no_dump = λ dump. c.in_default.not-Dump (c.begins.ensures ∙ dump);
  reader = record { old = _; new = _ };
  keeps = keeps_left _ _ _ c.into_device-device.ensures.gives c.new-begun.ensures.kept;
  gathering = c.in_ok-read.read.gathered;
  cut = c.in_ok-read.read.cut;
  gave = c.in_ok-read.ensures.made.gave;
  sender = c.in_ok-sender.sender;
  is_lone = rw c.spelling.ensures at c.in_ok-sender.ensures;
  found = search rules;
}
