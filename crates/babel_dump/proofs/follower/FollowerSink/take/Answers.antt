-- A record more was heard, after those before it, or is the one for which no more is; or none is heard.
use Rattle.std.proofs.lemmas.Grind.{common_steps}
use Rattle.std.proofs.Common.{arith, ◌≡◌, ◌++◌, ◌∷◌, List, [], None, Some, rules, subst, sym, ◌∙◌, append_assoc}
use Rattle.babel_capture.specs.Counts.{Made}
use Rattle.babel_dump.specs.Followed.{HasHeardFollowed}
use Rattle.babel_dump.specs.declared.events_job.Events.{Events}
use Rattle.babel_dump.proofs.RefusedRecords.{follows_still, follows_stopped}
use Rattle.babel_dump.proofs.follower.FollowerSink.take.Goals as goal

pub returns-in_default : goal.returns-in_default
returns-in_default c start made one told follows =
    let old = c.args.self.now in
    let new = c.follow_on.new.self in
    let none : old.fault ≡ None = search rules in
    let same = c.follow_on.ensures.same in (
      same.0 ∙ follows.0,
      λ sound.
          let begun = follows.1 (sym same.1 ∙ sound) in (
            begun.0,
            λ gone written heard.
                let was = subst (λ (e : Events). HasHeardFollowed e (gone ++ made) written old) (sym follows.0) (begun.1 gone written heard) in
                subst (λ (m : List Made). HasHeardFollowed start.events.now m written new) (append_assoc gone made (one ∷ []))
                (subst (λ (e : Events). HasHeardFollowed e ((gone ++ made) ++ one ∷ []) written new) follows.0 (c.in_default.ensures.heard (gone ++ made) one written told was)),
          ),
      λ stop stopped. absurd (let bad : None ≡ Some stop = sym none ∙ sym same.1 ∙ stopped in cc),
    )

pub returns-in-Err : goal.returns-in-Err
returns-in-Err c start made one told follows =
    let old = c.args.self.now in
    let new = c.follow_on.new.self in
    let none : old.fault ≡ None = search rules in
    let same = c.follow_on.ensures.same in (
      same.0 ∙ follows.0,
      λ sound. absurd (let bad : None ≡ Some c.in-Err.fault = sym sound in cc),
      λ stop stopped begun. follows_stopped start old new made one c.args.told.now told follows none c.in-Err.fault c.in-Err.ensures.behind c.in-Err.ensures.stops stop stopped,
    )

pub returns-else-is_none : goal.returns-else-is_none
returns-else-is_none c start made one told follows = follows_still start c.args.self.now made one follows (λ none. grind (arith, common_steps, none))
