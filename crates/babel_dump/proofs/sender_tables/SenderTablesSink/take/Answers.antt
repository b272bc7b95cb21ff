-- A record is heard, unless memory ran out.
use Rattle.std.proofs.Common.{rules, ◌≡◌, false, List, [], ◌∷◌, ◌++◌, append_assoc, subst, sym, ◌∙◌}
use Rattle.std.specs.Prelude.{is_err}
use Rattle.babel_capture.specs.Counts.{Made}
use Rattle.babel_dump.specs.EachSender.{AreOwn}
use Rattle.babel_dump.specs.declared.each_sender.EachSender.{EachSender}
use Rattle.babel_dump.proofs.OwnTables.{not_err}
use Rattle.babel_dump.proofs.sender_tables.SenderTablesSink.take.Goals as goal

pub returns-then-not-self : goal.returns-then-not-self
returns-then-not-self c start made one is held = (
  c.hear.ensures.same.0 ∙ held.0,
  λ before was done.
      let sound : c.args.self.now.has_failed ≡ false = search rules in
      let ok : is_err c.hear.result ≡ false = search rules in
      let new = c.hear.new.self in
      subst (λ (k : EachSender). AreOwn k (before ++ (made ++ one ∷ [])) new.tables.entries) (sym c.hear.ensures.same.0)
      (subst (λ (m : List Made). AreOwn c.args.self.now.each.now m new.tables.entries) (append_assoc before made (one ∷ []))
      (not_err c.hear.result ok c.hear.ensures.heard (before ++ made) one is (held.1 before was sound))),
)
