use Rattle.std.proofs.Common.{sym, subst}
use Rattle.babel_capture.specs.Fragments.{Known}
use Rattle.babel_capture.specs.Indexing.{AreNumbered}
use Rattle.babel_capture.proofs.FragmentLaws.{numbered-left}
use Rattle.babel_capture.proofs.fragments.Fragments.forget_others.Goals as goal

pub invariant_of-self : goal.invariant_of-self
invariant_of-self c =
    subst (λ (o : Known). AreNumbered c.self.inside.last c.self.inside.unfinished o) (sym c.forget_past.ensures.after)
    (numbered-left c.self.inside.last c.self.inside.unfinished c.self.inside.others c.self.invariant c.self.inside.clock)
