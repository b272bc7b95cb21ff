-- The lines are those of the links that were heard.
use Rattle.std.proofs.Common.{rules, ◌≡◌, ℕ, List, Option, ap, sym, subst, ◌∙◌}
use Rattle.std.specs.Option.{unwrap_or}
use Rattle.babel_capture.specs.Gathering.{Gathering}
use Rattle.babel_tlv.specs.declared.hello.Hello.{Hello}
use Rattle.babel_selection.specs.declared.ihu_from.IhuFrom.{IhuFrom}
use Rattle.babel_dump.specs.CaptureGiven.{made_in, moment_in}
use Rattle.babel_dump.specs.CaptureRun.{IsOutcomeOf}
use Rattle.babel_dump.specs.CaptureText.{text_status}
use Rattle.babel_dump.specs.LinksHeard.{hellos_made, ihus_made}
use Rattle.babel_dump.specs.LinksTold.{TellsLinks}
use Rattle.babel_dump.specs.SlicedRows.{found_text}
use Rattle.babel_dump.specs.declared.format.Format.{Format}
use Rattle.babel_dump.specs.declared.node.Node.{Node}
use Rattle.babel_dump.specs.declared.outcome.Outcome.{Outcome}
use Rattle.babel_dump.proofs.LinksHeard.{heard_all}
use Rattle.babel_dump.proofs.links.find_links.Goals as goal

told_so : (format : Format) (factor expiry moment : ℕ) (at : Option ℕ) (gathering : Gathering) (hellos : List (Node × Hello)) (ihus : List (IhuFrom Node)) (text found : List ℕ)
    → factor ≡ expiry → moment ≡ unwrap_or at 0 → found ≡ text → TellsLinks format factor moment gathering hellos ihus text
    → TellsLinks format expiry (unwrap_or at 0) gathering hellos ihus found
told_so format factor expiry moment at gathering hellos ihus text found one then same tells =
    subst (λ (f : ℕ). TellsLinks format f (unwrap_or at 0) gathering hellos ihus found) one (subst (λ (m : ℕ). TellsLinks format factor m gathering hellos ihus found) then
    (subst (λ (t : List ℕ). TellsLinks format factor moment gathering hellos ihus t) (sym same) tells))

outcome_so : (outcome told : Outcome) (text found : List ℕ) (gathering : Gathering) (cut : Option ℕ) → told ≡ outcome → text ≡ found → IsOutcomeOf outcome (text_status text) gathering.report cut
    → IsOutcomeOf told (text_status found) gathering.report cut
outcome_so outcome told text found gathering cut same lines is =
    subst (λ (t : List ℕ). IsOutcomeOf told (text_status t) gathering.report cut) lines (same ∙ is)

pub returns : goal.returns
returns g c =
    let read = c.in_ok-read.ensures.made in
    let gathering = c.in_ok-read.read.gathered in
    let made = made_in read.gave.given in
    let heard = heard_all c.new-sink.result c.read_capture-read.new.sink made c.new-sink.ensures.sound c.new-sink.ensures.hellos c.new-sink.ensures.ihus read.took c.if-sink.false in
    let text = c.in_ok-text.text.items in
    let found = found_text c.args.format.now c.or_absence.result in
    let same : found ≡ text = c.or_absence.ensures.text c.args.format.now ∙ c.text-found.ensures.text c.args.format.now in
    let at : c.unwrap_or.result ≡ unwrap_or c.in_ok-read.read.moment 0 = search rules in
    record {
      made = record {
        gathering = gathering;
        cut = c.in_ok-read.read.cut;
        gave = read.gave;
        one_place = λ none. absurd cc;
        text_is = told_so c.args.format.now c.ten_millionths.result c.args.expiry c.unwrap_or.result (moment_in read.gave.given) gathering (hellos_made made) (ihus_made made) text found
            c.ten_millionths.ensures (at ∙ ap (λ (m : Option ℕ). unwrap_or m 0) read.moment_is) same (c.in_ok-text.ensures (hellos_made made) (ihus_made made) heard.0 heard.1);
        outcome_is = outcome_so c.of_lines-outcome.result c.or_absence.result.outcome c.deref.result.now found gathering c.in_ok-read.read.cut
            (c.or_absence.ensures.outcome ∙ c.text-found.ensures.outcome) (c.deref.ensures.value ∙ sym same) c.of_lines-outcome.ensures;
      };
      cause = tt;
      called = search rules;
    }
