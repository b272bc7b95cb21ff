use Rattle.std.proofs.Common.{◌≡◌, ◌+◌, ◌++◌, ℕ, List, [], ◌∷◌, take, ap, subst, sym, ◌∙◌}
use Rattle.std.proofs.lemmas.Fn.{FoldsTo-push}
use Rattle.std.proofs.lemmas.List.{take_more}
use Rattle.babel_dump.specs.Remarks.{SaysRemark, SaysRemarks}
use Rattle.babel_dump.specs.declared.remark.Remark.{Remark}
use Rattle.babel_dump.proofs.remarks.Remarks.say.Goals as goal

pub loop-remark-preserved : goal.loop-remark-preserved
loop-remark-preserved g c =
    let list : List Remark = c.deref-remark-items.result.now in
    let i : ℕ = c.loop-remark.remark-index in
    let one : Remark = c.remark-item.result in
    let more : take (i + 1) list ≡ take i list ++ one ∷ [] = take_more list i one c.loop-remark-test.true ∙ ap (λ (r : Remark). take i list ++ r ∷ []) (sym c.remark-item.is) in
    subst (λ (remarks : List Remark). SaysRemarks g.S.Says.hears c.args.gathered.now c.args.self.now.hint c.args.says.now remarks c.say_remark.new.says) (sym more)
    (FoldsTo-push (SaysRemark g.S.Says.hears c.args.gathered.now c.args.self.now.hint) c.args.says.now (take i list) c.loop-remark.says one c.say_remark.new.says c.loop-remark.invariant c.say_remark.ensures)
