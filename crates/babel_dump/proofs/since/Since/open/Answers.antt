use Rattle.std.proofs.Common.{subst}
use Rattle.std.specs.Map.{keys_of}
use Rattle.std.specs.List.Sorted.{IsStrictlySortedBy}
use Rattle.babel_dump.proofs.SinceLaws.{answers_next}
use Rattle.babel_dump.proofs.SpeakerLaws.{speaker_order}
use Rattle.babel_dump.proofs.since.Since.open.Goals as goal

pub loop-sender-preserved : goal.loop-sender-preserved
loop-sender-preserved c =
    answers_next c.args.moment _ c.loop-sender.told.items c.add_route.new.told.items _ _ _ c.loop-sender.invariant c.in-Some.ensures.steps c.in_ok-add_route.ensures

pub returns-in_err-add_route-clause-rising : goal.returns-in_err-add_route-clause-rising
returns-in_err-add_route-clause-rising c = subst (λ k. IsStrictlySortedBy k (keys_of c.args.self.now.answers.entries)) speaker_order c.iter-sender-items.ensures.ordered

pub returns-clause-rising : goal.returns-clause-rising
returns-clause-rising c = subst (λ k. IsStrictlySortedBy k (keys_of c.args.self.now.answers.entries)) speaker_order c.iter-sender-items.ensures.ordered
