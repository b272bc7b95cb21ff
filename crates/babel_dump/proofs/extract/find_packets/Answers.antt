-- The dump of a sender at one place at most.
use Rattle.std.proofs.Common.{rules, ◌≡◌, refl, ℕ, false, List, [], ◌++◌, append-nil, ap, sym, ◌∙◌}
use Rattle.babel_capture.specs.Counts.{Made}
use Rattle.babel_table.specs.Moments.{dump_of}
use Rattle.babel_dump.specs.CaptureGiven.{Took, made_in}
use Rattle.babel_dump.specs.CaptureRun.{Copies}
use Rattle.babel_dump.specs.Packets.{packets_made}
use Rattle.babel_dump.specs.declared.extract.PacketCopy.{PacketCopy}
use Rattle.babel_dump.proofs.extract.find_packets.Goals as goal

-- what was copied is the packets of the capture
copied : (first now : PacketCopy) (made : List Made) → first.has_failed ≡ false → first.octets.items ≡ [] → Took Copies first now made → now.has_failed ≡ false
    → now.octets.items ≡ dump_of (packets_made made)
copied first now made sound none took done =
    (took first [] (λ _. (sound, sym (append-nil first.octets.items))) done).1 ∙ ap (λ (t : List ℕ). t ++ dump_of (packets_made made)) none

pub returns : goal.returns
returns g c =
    let read = c.in_ok-read.ensures.made.0 in
    let copy : PacketCopy = record { octets = c.new.result; has_failed = false } in
    let all = copied copy c.read_of_one-read.new.sink (made_in read.gave.given) refl c.new.ensures.items read.took c.if-copy.false in
    record {
      made = record {
        gathering = c.in_ok-read.read.gathered;
        cut = c.in_ok-read.read.cut;
        gave = read.gave;
        one_place = λ _. c.in_ok-read.ensures.made.1;
        text_is = rw (← all) (search rules);
        outcome_is = search rules;
      };
      cause = tt;
      called = search rules;
    }
