-- One that does not send is one of those that were to.
use Rattle.std.proofs.Common.{List, arith, ap, get_or, refl, subst, sym, ◌∙◌, ◌≡◌, false}
use Rattle.std.specs.List.{list_all}
use Rattle.std.proofs.lemmas.List.Folds.{list_all_at}
use Rattle.babel_prefix.specs.Address.{Address}
use Rattle.babel_dump.specs.SelectHeard.{sends_somewhere}
use Rattle.babel_dump.proofs.selection_read.refuse_silent.Goals as goal

pub returns-then-not-sends-clause-first : goal.returns-then-not-sends-clause-first
returns-then-not-sends-clause-first c =
    let place = c.args.select.now.each.place in
    let senders = c.args.read.now.gathered.senders in
    let items = c.deref-router-items.result.now in
    let silent : sends_somewhere place senders (get_or items c.loop-router.router-index c.router-item.result) ≡ false =
    ap (sends_somewhere place senders) (sym c.router-item.is) ∙ sym c.sends.ensures ∙ c.if-not-sends.true in (
      subst (λ (l : List Address). list_all (sends_somewhere place senders) l ≡ false) c.deref-router-items.ensures.value
          (list_all_at (sends_somewhere place senders) items c.loop-router.router-index c.router-item.result (omega arith) silent),
      c.of_sender-absence.result,
      refl,
    )
