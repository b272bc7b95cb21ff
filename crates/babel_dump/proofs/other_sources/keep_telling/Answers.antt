use Rattle.std.proofs.Common.{◌++◌, ◌∷◌, [], ap, subst, sym}
use Rattle.std.proofs.lemmas.Result.{on_ok_weaker}
use Rattle.babel_timeline.specs.declared.telling.Telling.{Telling}
use Rattle.babel_dump.specs.EventsRun.{AreOthers, change_of}
use Rattle.babel_dump.specs.declared.speaker.Speaker.{Speaker}
use Rattle.babel_dump.proofs.OthersHeld.{others_same}
use Rattle.babel_dump.proofs.other_sources.keep_telling.Goals as goal

pub returns-in-Change : goal.returns-in-Change
returns-in-Change c =
    on_ok_weaker c.keep_change.result
    (λ keeps told was. subst (λ (t : Telling Speaker). AreOthers c.args.dst.now c.args.since.now.moment (told ++ t ∷ []) c.keep_change.new.held) (sym c.in-Change.is) (keeps told was)) c.keep_change.ensures

pub returns-in-Answer : goal.returns-in-Answer
returns-in-Answer c told = others_same c.args.dst.now c.args.since.now.moment told c.args.telling.now c.args.held.now (λ subject specific. ap (change_of subject) c.in-Answer.is)

pub returns-in-Request : goal.returns-in-Request
returns-in-Request c told = others_same c.args.dst.now c.args.since.now.moment told c.args.telling.now c.args.held.now (λ subject specific. ap (change_of subject) c.in-Request.is)

pub returns-in-Silent : goal.returns-in-Silent
returns-in-Silent c told = others_same c.args.dst.now c.args.since.now.moment told c.args.telling.now c.args.held.now (λ subject specific. ap (change_of subject) c.in-Silent.is)

pub returns-in-Returns : goal.returns-in-Returns
returns-in-Returns c told = others_same c.args.dst.now c.args.since.now.moment told c.args.telling.now c.args.held.now (λ subject specific. ap (change_of subject) c.in-Returns.is)
