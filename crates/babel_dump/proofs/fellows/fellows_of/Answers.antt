use Rattle.std.proofs.Common.{rules, ◌≡◌, true, List, sym, ap, subst, ◌∙◌}
use Rattle.std.specs.Prelude.{is_none}
use Rattle.std.specs.List.Sorted.{IsPermutation, IsSortedByKey}
use Rattle.std.specs.Map.{keys_of}
use Rattle.std.specs.declared.cmp.Ordering.{Ordering}
use Rattle.std.proofs.lemmas.Fn.{always_returns_same}
use Rattle.babel_capture.specs.declared.tallies.Origin.{Origin}
use Rattle.babel_capture.proofs.TallyLaws.{origin_order}
use Rattle.babel_dump.specs.Fellows.{fellow_of, lead_of}
use Rattle.babel_dump.specs.declared.fellows.Fellows.{Fellows}
use Rattle.babel_dump.proofs.FellowLaws.{rights_all, rights_more}
use Rattle.babel_dump.proofs.fellows.fellows_of.Goals as goal

pub loop-origin-2-preserved-in_ok-push-2 : goal.loop-origin-2-preserved-in_ok-push-2
loop-origin-2-preserved-in_ok-push-2 g c =
    let own = keys_of c.args.left.now.entries in
    let others = keys_of c.args.right.now.entries in
    let is : c.fellow-in-loop-origin-2.result ≡ fellow_of others own c.in-Some-2.origin.now =
    c.fellow-in-loop-origin-2.ensures others own c.in_ok-rights.ensures c.in_ok-lefts.ensures in
    let none : is_none c.fellow-in-loop-origin-2.result ≡ true = search rules in
    rights_more (λ right. is_none (fellow_of others own right)) (c.in-Some-2.origin.now, c.in-Some-2.field-0-1.now) c.loop-origin-2.origin-iterator c.next-in-loop-origin-2.new.self
    c.loop-origin-2.fellows.items _ _ c.in-Some-2.ensures.steps c.loop-origin-2.invariant (ap is_none (sym is) ∙ none) c.in_ok-push-2.ensures.items

pub returns : goal.returns
returns g c =
    let own = keys_of c.args.left.now.entries in
    let others = keys_of c.args.right.now.entries in
    let found = c.loop-origin-2.fellows.items in
    let all = rights_all (λ right. is_none (fellow_of others own right)) c.loop-origin-2.origin-iterator found _ c.in-None-2.ensures.steps.0 c.loop-origin-2.invariant in
    let sorted = c.sort_unstable_by_key.new.self.items in
    record {
      all = subst (λ (xs : List Fellows). IsPermutation xs sorted) all c.sort_unstable_by_key.ensures.permutation;
      in_order = subst (λ (k : Origin → Origin → Ordering). IsSortedByKey lead_of k sorted) origin_order
          (c.sort_unstable_by_key.ensures.sorted lead_of (always_returns_same _ (λ a r. r ≡ lead_of a.0.now) _ (λ a r q k. search rules)));
    }
