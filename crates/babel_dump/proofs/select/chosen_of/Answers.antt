-- They are in their order, and of what was offered.
use Rattle.std.proofs.Common.{◌≡◌, ◌∙◌, ◌++◌, ℕ, List, ap, drop, length, subst, sym, take}
use Rattle.std.proofs.Math.Seq.{take-append_seam}
use Rattle.std.proofs.lemmas.List.Sorted.{length_permutation}
use Rattle.std.proofs.lemmas.Result.{IfOk-weaker}
use Rattle.std.specs.List.Sorted.{IsPermutation, IsSorted}
use Rattle.std.specs.declared.cmp.Ordering.{Ordering}
use Rattle.babel_selection.specs.Offers.{chosen_rows, offer_cmp}
use Rattle.babel_selection.specs.declared.offer.Offer.{Offer}
use Rattle.babel_dump.specs.declared.speaker.Speaker.{Speaker}
use Rattle.babel_dump.proofs.SpeakerLaws.{speaker_order}
use Rattle.babel_dump.proofs.select.chosen_of.Goals as goal

-- all of a vector was put in order
whole : (sorted was rest : List (Offer Speaker)) (len : ℕ) → IsPermutation was sorted → length was ≡ len → take len (sorted ++ drop (length sorted) rest) ≡ sorted
whole sorted was rest len permutes long =
    let same : len ≡ length sorted = sym long ∙ sym (length_permutation was sorted permutes) in
    ap (λ (n : ℕ). take n (sorted ++ drop (length sorted) rest)) same ∙ take-append_seam sorted (drop (length sorted) rest)

pub returns : goal.returns
returns c =
    let sorted = c.sort_offers.new.offers in
    let all = whole sorted c.deref_mut.result.now c.args.offers.items c.args.offers.len c.sort_offers.ensures.permutation c.deref_mut.ensures.len in
    IfOk-weaker c.chosen_routes.result (λ routes. routes.items ≡ chosen_rows c.args.moment c.args.sources.now c.deref.result.now) _ (λ routes rows. record {
      sorted = sorted;
      permutes = subst (λ (l : List (Offer Speaker)). IsPermutation l sorted) c.deref_mut.ensures.value c.sort_offers.ensures.permutation;
      in_order = subst (λ (k : Speaker → Speaker → Ordering). IsSorted (offer_cmp k) sorted) speaker_order c.sort_offers.ensures.sorted;
      rows = rows ∙ ap (λ (l : List (Offer Speaker)). chosen_rows c.args.moment c.args.sources.now l) (c.deref.ensures.value ∙ all);
    }) c.chosen_routes.ensures
