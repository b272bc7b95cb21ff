-- The first subject from the sender's first key on is the sender's, or none is.
use Rattle.std.proofs.Common.{◌≡◌, ◌∙◌, false, true, sym}
use Rattle.std.specs.BTreeMap.Range.{IsLeBy}
use Rattle.babel_timeline.specs.Places.{rows_of}
use Rattle.babel_timeline.specs.Rows.{subject_cmp, subject_of}
use Rattle.babel_timeline.proofs.EdgeLaws.{first_none, first_other, first_own}
use Rattle.babel_timeline.proofs.KeptLaws.{no_rows, row_there}
use Rattle.babel_timeline.proofs.timeline.Timeline.first_of.Goals as goal

pub returns-in_err-first : goal.returns-in_err-first
returns-in_err-first g c =
    rw (c.from_residual.ensures, ← c.self.view_is)
    (first_none g.S.Ord.cmp g.met.S.Ord.total g.met.S.Sender.exact (rows_of c.self.inside.cells) c.args.sender c.first_key-key.result c.first_key-key.ensures
    (no_rows g.S.Ord.cmp c.self.inside.cells (IsLeBy (subject_cmp g.S.Ord.cmp) (subject_of c.args.sender c.first_key-key.result)) c.in_err-first.ensures.none))

pub returns-then-are_one : goal.returns-then-are_one
returns-then-are_one g c =
    rw (← c.self.view_is)
    (first_own g.S.Ord.cmp g.met.S.Ord.total g.met.S.Sender.exact (rows_of c.self.inside.cells) c.args.sender c.first_key-key.result c.first_key-key.ensures c.in_ok-first.first
    (c.are_one.ensures.0 c.if-are_one.true) (row_there g.S.Ord.cmp c.self.inside.cells c.in_ok-first.first ∙ c.in_ok-first.ensures.some.1)
    (λ other from there. c.in_ok-first.ensures.least other from (sym (row_there g.S.Ord.cmp c.self.inside.cells other) ∙ there)))

pub returns-else-are_one : goal.returns-else-are_one
returns-else-are_one g c =
    rw (← c.self.view_is)
    (first_other g.S.Ord.cmp g.met.S.Ord.total g.met.S.Sender.exact (rows_of c.self.inside.cells) c.args.sender c.first_key-key.result c.first_key-key.ensures c.in_ok-first.first
    (λ same. let yes : false ≡ true = c.if-are_one.ensures.1 same in cc) c.in_ok-first.ensures.some.0
    (λ other from there. c.in_ok-first.ensures.least other from (sym (row_there g.S.Ord.cmp c.self.inside.cells other) ∙ there)))
