-- The last subject up to the sender's key is the sender's, or none is.
use Rattle.std.proofs.Common.{◌≡◌, ◌∙◌, false, true, sym}
use Rattle.std.specs.BTreeMap.Range.{IsLeBy}
use Rattle.babel_timeline.specs.Places.{rows_of}
use Rattle.babel_timeline.specs.Rows.{subject_cmp, subject_of}
use Rattle.babel_timeline.proofs.EdgeLaws.{last_none, last_other, last_own}
use Rattle.babel_timeline.proofs.KeptLaws.{no_rows, row_there}
use Rattle.babel_timeline.proofs.timeline.Timeline.last_of.Goals as goal

pub returns-in_err-last : goal.returns-in_err-last
returns-in_err-last g c =
    rw (c.from_residual.ensures, ← c.self.view_is)
    (last_none g.S.Ord.cmp g.met.S.Ord.total g.met.S.Sender.exact (rows_of c.self.inside.cells) c.args.sender c.args.most.now
    (no_rows g.S.Ord.cmp c.self.inside.cells (λ other. IsLeBy (subject_cmp g.S.Ord.cmp) other (subject_of c.args.sender c.args.most.now)) c.in_err-last.ensures.none))

pub unwrap-requires : goal.unwrap-requires
unwrap-requires g c = rw (c.row.ensures, ← c.self.view_is) (row_there g.S.Ord.cmp c.self.inside.cells c.in_ok-last.last ∙ c.in_ok-last.ensures.some.1)

pub returns-then-are_one : goal.returns-then-are_one
returns-then-are_one g c =
    rw (← c.self.view_is)
    (last_own g.S.Ord.cmp g.met.S.Ord.total g.met.S.Sender.exact (rows_of c.self.inside.cells) c.args.sender c.args.most.now c.in_ok-last.last c.unwrap.result
    (c.are_one.ensures.0 c.if-are_one.true) c.in_ok-last.ensures.some.0 (rw (← c.self.view_is) at (sym c.row.ensures ∙ c.unwrap.ensures))
    (λ other upto there. c.in_ok-last.ensures.greatest other upto (sym (row_there g.S.Ord.cmp c.self.inside.cells other) ∙ there)))

pub returns-else-are_one : goal.returns-else-are_one
returns-else-are_one g c =
    rw (← c.self.view_is)
    (last_other g.S.Ord.cmp g.met.S.Ord.total g.met.S.Sender.exact (rows_of c.self.inside.cells) c.args.sender c.args.most.now c.in_ok-last.last
    (λ same. let yes : false ≡ true = c.if-are_one.ensures.1 same in cc) c.in_ok-last.ensures.some.0
    (λ other upto there. c.in_ok-last.ensures.greatest other upto (sym (row_there g.S.Ord.cmp c.self.inside.cells other) ∙ there)))
