use Rattle.babel_capture.proofs.FragmentLaws.{numbered-popped}
use Rattle.babel_capture.proofs.fragments.Fragments.give_up.Goals as goal

pub invariant_of-self : goal.invariant_of-self
invariant_of-self c =
    numbered-popped c.self.inside.last c.self.inside.unfinished c.self.inside.others c.self.invariant c.pop.new.self c.pop.result c.pop.ensures.none c.pop.ensures.some
