use Rattle.std.proofs.Common.{◌≡◌, ◌∷◌, map, Option, None, Some, subst, sym, ap, ◌∙◌}
use Rattle.std.specs.Prelude.{OnOk}
use Rattle.std.specs.Option.{option_copied}
use Rattle.babel_dump.specs.AskedRun.{IsReadOn}
use Rattle.babel_dump.specs.OriginsMade.{TakesRead}
use Rattle.babel_dump.specs.OriginText.{captures_on}
use Rattle.babel_dump.specs.declared.each_sender.EachSender.{EachSender}
use Rattle.babel_dump.proofs.OriginsTold.{takes_nothing}
use Rattle.babel_dump.proofs.origins_run.take_on.Goals as goal

pub returns-in-Some-clause-taken : goal.returns-in-Some-clause-taken
returns-in-Some-clause-taken g c =
    let is : Some c.in-Some.each.now ≡ captures_on c.args.side c.args.origins.now = sym (ap option_copied c.in-Some.is) ∙ c.on.ensures in
    subst (λ (each : Option EachSender). OnOk c.take_captures.result (TakesRead c.args.origins.now.filter c.args.side
    (IsReadOn each (g.R.Read.remaining c.args.inputs.now.first ∷ map g.R.Read.remaining c.args.inputs.now.more.items))
    c.args.told.now.originated.all.entries c.take_captures.new.told.originated.all.entries)) is c.take_captures.ensures.taken

pub returns-in-None-clause-taken : goal.returns-in-None-clause-taken
returns-in-None-clause-taken g c =
    let is : None ≡ captures_on c.args.side c.args.origins.now = sym (ap option_copied c.in-None.is) ∙ c.on.ensures in
    takes_nothing c.args.origins.now.filter c.args.side _ (g.R.Read.remaining c.args.inputs.now.first ∷ map g.R.Read.remaining c.args.inputs.now.more.items)
    c.args.told.now.originated.all.entries is
