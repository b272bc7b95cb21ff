use Rattle.std.proofs.Common.{sym, subst}
use Rattle.babel_capture.specs.Fragments.{Known}
use Rattle.babel_capture.specs.Indexing.{AreNumbered}
use Rattle.babel_capture.specs.Pieces.{fragment_of}
use Rattle.babel_capture.proofs.FragmentLaws.{numbered-changed}
use Rattle.babel_capture.proofs.fragments.Fragments.step.Goals as goal

pub invariant_of-self-2 : goal.invariant_of-self-2
invariant_of-self-2 c =
    subst (λ (u : Known). AreNumbered c.self.inside.last u c.self.inside.others) (sym c.in_ok-step.ensures.changed)
    (numbered-changed c.self.inside.last c.self.inside.unfinished c.self.inside.others c.self.invariant (fragment_of c.args.fragment.now))
