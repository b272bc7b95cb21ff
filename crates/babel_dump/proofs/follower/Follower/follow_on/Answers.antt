-- What the record tells is put behind what was told before it.
use Rattle.std.proofs.Common.{◌++◌, ◌∷◌, [], ap, rules, refl, inl, inr, subst, sym}
use Rattle.std.specs.Prelude.{IfErr}
use Rattle.std.proofs.lemmas.Result.{on_ok_weaker}
use Rattle.babel_dump.specs.Followed.{StopsFollowed, TellsBehind}
use Rattle.babel_dump.specs.declared.follower.Follower.{Follower}
use Rattle.babel_dump.proofs.EventCauses.{if_err_so}
use Rattle.babel_dump.proofs.EventsRuns.{Tellings}
use Rattle.babel_dump.proofs.StartLaws.{apart, together}
use Rattle.babel_dump.proofs.follower.Follower.follow_on.Goals as goal

pub returns-in-Ok-clause-heard : goal.returns-in-Ok-clause-heard
returns-in-Ok-clause-heard c =
    let old = c.args.self.now in
    let mid : Follower = record old { told = c.replace-before.new.dest } in
    let now = c.follow.new.self in
    let new : Follower = record now { told = c.put_behind-put.new.before } in
    on_ok_weaker c.put_behind-put.result (λ put made one before is was.
    together old.events.now (made ++ one ∷ []) before old.told.items now new refl refl refl (search (rules, put))
    (c.in-Ok.ensures.heard made one (before ++ old.told.items) is (apart old.events.now made before old mid refl refl refl (search rules) was))) c.put_behind-put.ensures.ok

pub returns-in-Ok-clause-behind : goal.returns-in-Ok-clause-behind
returns-in-Ok-clause-behind c =
    subst (λ (t : Tellings). IfErr c.put_behind-put.result (TellsBehind t c.put_behind-put.new.before.items)) (ap (λ v. v.items) c.replace-before.ensures.value) c.put_behind-put.ensures.behind

pub returns-in-Ok-clause-stops : goal.returns-in-Ok-clause-stops
returns-in-Ok-clause-stops c = if_err_so c.put_behind-put.result (λ stop memory made one before is was not_memory. absurd (not_memory memory)) c.put_behind-put.ensures.memory

pub returns-in-Err-clause-behind : goal.returns-in-Err-clause-behind
returns-in-Err-clause-behind c =
    subst (λ (t : Tellings). TellsBehind t c.put_refused-stopped.new.before.items c.put_refused-stopped.result) (ap (λ v. v.items) c.replace-before.ensures.value) c.put_refused-stopped.ensures.behind

pub returns-in-Err-clause-stops : goal.returns-in-Err-clause-stops
returns-in-Err-clause-stops c =
    let old = c.args.self.now in
    let mid : Follower = record old { told = c.replace-before.new.dest } in
    elim c.put_refused-stopped.ensures.why [
      | inl memory ↦ λ made one before is was not_memory. absurd (not_memory memory)
      | inr same ↦ subst (StopsFollowed old.events.now c.args.told.now old) (sym same)
          (λ made one before is was. c.in-Err.ensures.stops made one (before ++ old.told.items) is (apart old.events.now made before old mid refl refl refl (search rules) was))
    ]
