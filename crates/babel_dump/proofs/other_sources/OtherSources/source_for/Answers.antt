use Rattle.std.proofs.Common.{◌≡◌, ◌∙◌, false, true, ap, refl, rules, subst}
use Rattle.babel_dump.specs.contracts.speaker.SpeakerEq.TheImpl.Laws.{laws-law}
use Rattle.babel_dump.specs.contracts.speaker.SpeakerPartialEq.TheImpl.{ghosts}
use Rattle.babel_dump.specs.declared.speaker.Speaker.{Speaker}
use Rattle.babel_dump.proofs.OthersHeld.{HasOne, none_has, one_behind, one_here, one_later}
use Rattle.babel_dump.proofs.other_sources.OtherSources.source_for.Goals as goal

pub returns-then-eq : goal.returns-then-eq
returns-then-eq c =
    let own : c.in-Some.subject.now.sender ≡ c.args.sender = search rules in
    (c.loop-subject.invariant.among (one_here c.args.sender _ _ _ c.in-Some.ensures.steps own), refl)

pub loop-subject-preserved : goal.loop-subject-preserved
loop-subject-preserved c =
    let next = c.in-Some.ensures.steps in
    let other : ¬ (c.in-Some.subject.now.sender ≡ c.args.sender) = λ is.
    let both : false ≡ true = c.if-eq.ensures ∙ ap (λ (s : Speaker). ghosts.eq s c.args.sender) is ∙ laws-law.refl c.args.sender in absurd cc in record {
      all = λ has. one_behind c.args.sender _ _ _ next other (c.loop-subject.invariant.all has);
      among = λ has. c.loop-subject.invariant.among (one_later c.args.sender _ _ _ next has);
    }

pub returns : goal.returns
returns c = λ has. none_has c.args.sender (subst (HasOne c.args.sender) c.in-None.ensures.steps.0 (c.loop-subject.invariant.all has))
