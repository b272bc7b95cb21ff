-- The lines are those of what was gathered, and nothing comes after them.
use Rattle.std.proofs.Common.{rules, List, ℕ, ◌++◌, ap, append-nil, ◌∙◌}
use Rattle.babel_dump.specs.CaptureText.{senders_in}
use Rattle.babel_dump.proofs.senders.find_senders.Goals as goal

pub returns : goal.returns
returns g c =
    let lines = senders_in c.args.format.now c.in_ok-read.read.gathered in record {
      made = record {
        gathering = c.in_ok-read.read.gathered;
        cut = c.in_ok-read.read.cut;
        gave = rw c.everyone.ensures at c.in_ok-read.ensures.made.gave;
        one_place = λ none. absurd cc;
        text_is = c.or_absence.ensures.text c.args.format.now ∙ c.rows-found.ensures.text c.args.format.now ∙ ap (λ (after : List ℕ). lines ++ after) c.new.ensures.items ∙ append-nil lines;
        outcome_is = search rules;
      };
      cause = search rules;
      called = search rules;
    }
