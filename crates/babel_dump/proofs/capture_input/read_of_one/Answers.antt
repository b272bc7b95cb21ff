-- The sender is at one place at most, or at several, which are these.
use Rattle.std.proofs.Common.{rules, arith, ◌≤◌, length, ap, subst, ◌∙◌}
use Rattle.babel_capture.specs.Tallies.{Senders}
use Rattle.babel_dump.specs.CaptureText.{places_of}
use Rattle.babel_dump.proofs.capture_input.read_of_one.Goals as goal

pub returns-then-len-gt1 : goal.returns-then-len-gt1
returns-then-len-gt1 g c = record {
  made = search rules;
  cause = record {
    gathering = c.in_ok-read.read.gathered;
    cut = c.in_ok-read.read.cut;
    gave = c.in_ok-read.ensures.made.gave;
    one_wanted = c.requires.one_wanted;
    several = subst (λ (senders : Senders). 2 ≤ length senders) c.senders-senders.ensures (first_of (omega arith, search (rules, arith)));
    are = c.in_ok-interfaces.ensures ∙ ap places_of c.senders-senders.ensures;
  };
  called = search rules;
}

pub returns : goal.returns
returns g c = record {
  made = (c.in_ok-read.ensures.made, subst (λ (senders : Senders). length senders ≤ 1) c.senders-senders.ensures (first_of (omega arith, search (rules, arith))));
  cause = tt;
  called = search rules;
}
