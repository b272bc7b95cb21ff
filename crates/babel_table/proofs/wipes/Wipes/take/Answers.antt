-- Of the first ones none or all are left.
use Rattle.std.proofs.Common.{◌≡◌, ℕ, [], ◌≤◌, Bool, true, false, cond, subst, sym}
use Rattle.std.specs.List.{AllByRecursion}
use Rattle.babel_table.specs.Moments.{has_expired}
use Rattle.babel_table.specs.Words.{Wiping, unless_gone}
use Rattle.babel_table.proofs.wipes.Wipes.take.Goals as goal

marks-left : (factor wipes time last : ℕ) (old new : Wiping) → new ≡ unless_gone factor wipes time old → AllByRecursion (λ first. first.0 ≤ last) old.firsts
    → AllByRecursion (λ first. first.0 ≤ last) new.firsts
marks-left factor wipes time last old new is all = subst (λ (w : Wiping). AllByRecursion (λ first. first.0 ≤ last) w.firsts) (sym is) (by (has_expired factor time old.last))
  where
    by : (b : Bool) → AllByRecursion (λ first. first.0 ≤ last) (cond b (record old { firsts = []; gone = wipes }) old).firsts
    by true = tt
    by false = all

pub add-requires-clause-marks : goal.add-requires-clause-marks
add-requires-clause-marks c = marks-left c.args.factor c.args.wipes c.args.time c.args.last c.args.self.now c.drop_gone.new.self c.drop_gone.ensures c.requires.marks
