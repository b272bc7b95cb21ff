-- The group goes behind the last packet's, or begins the next one.
use Rattle.std.proofs.Common.{◌≡◌, ◌+◌, ◌<◌, ◌≤◌, [], ℕ, List, length, ap, subst, ◌∙◌, refl, arith}
use Rattle.babel_tlv.specs.Writing.{group_in, written_after}
use Rattle.babel_tlv.specs.Pair.{Pair}
use Rattle.babel_canon.specs.Sizes.{IsBodySize}
use Rattle.babel_canon.proofs.Packets.{Appended, in_last, in_next}
use Rattle.babel_canon.proofs.text.Text.push.Goals as goal

pub returns-then-limit-saturating_add : goal.returns-then-limit-saturating_add
returns-then-limit-saturating_add c body pairs is =
    let old = c.args.self.now in
    let begun = c.begin.new.self in
    let new = c.append.new.self in
    let pair : Pair = (c.args.key.now, c.args.held.now) in
    let first = group_in (written_after []) pair in
    let size : IsBodySize body = subst IsBodySize is.limit c.octets-limit.ensures.valid in
    let group_len : c.len.result ≡ length (group_in old.writing pair) = c.len.ensures.value ∙ ap (λ (o : List ℕ). length o) c.put_group-group.ensures.octets in
    let few : length (group_in old.writing pair) ≤ 96 = subst (λ (o : List ℕ). length o ≤ 96) c.put_group-group.ensures.octets c.put_group-group.ensures.few in
    let past : body < old.len + length (group_in old.writing pair) =
    omega (arith, group_len, size.said, is.limit, c.octets-limit.ensures.value, c.saturating_add.ensures, c.if-limit-saturating_add.true) in
    let again : c.put_group-group-then-limit-saturating_add.result.items ≡ first =
    c.put_group-group-then-limit-saturating_add.ensures.octets ∙ ap (λ w. group_in w pair) c.in_ok-begin.ensures.writing in
    let group_is : c.deref.result.now ≡ first = c.deref.ensures.0 ∙ again in
    let few_more : length first ≤ 96 = subst (λ (o : List ℕ). length o ≤ 96) again c.put_group-group-then-limit-saturating_add.ensures.few in
    let longer : new.len ≡ begun.len + length first = c.in_ok-append.ensures.len ∙ ap (λ (o : List ℕ). begun.len + length o) group_is in
    let octets : Appended begun new first = subst (Appended begun new) group_is c.in_ok-append.ensures.octets in
    in_next body pairs pair old begun new old.writing size is refl past few c.in_ok-begin.ensures.octets c.in_ok-begin.ensures.at c.in_ok-begin.ensures.len c.in_ok-begin.ensures.body
    c.in_ok-append.ensures.body c.in_ok-append.ensures.at longer
    (c.in_ok-append.ensures.writing ∙ c.put_group-group-then-limit-saturating_add.ensures.after [] c.in_ok-begin.ensures.writing) octets few_more

pub returns : goal.returns
returns c body pairs is =
    let old = c.args.self.now in
    let new = c.append-2.new.self in
    let pair : Pair = (c.args.key.now, c.args.held.now) in
    let size : IsBodySize body = subst IsBodySize is.limit c.octets-limit.ensures.valid in
    let group_len : c.len.result ≡ length (group_in old.writing pair) = c.len.ensures.value ∙ ap (λ (o : List ℕ). length o) c.put_group-group.ensures.octets in
    let group_is : c.deref-2.result.now ≡ group_in old.writing pair = c.deref-2.ensures.0 ∙ c.put_group-group.ensures.octets in
    let room : old.len + length (group_in old.writing pair) ≤ body =
    omega (arith, group_len, size.said, is.limit, c.octets-limit.ensures.value, c.saturating_add.ensures, c.if-limit-saturating_add.false) in
    let longer : new.len ≡ old.len + length (group_in old.writing pair) = c.in_ok-append-2.ensures.len ∙ ap (λ (o : List ℕ). old.len + length o) group_is in
    let octets : Appended old new (group_in old.writing pair) = subst (Appended old new) group_is c.in_ok-append-2.ensures.octets in
    in_last body pairs pair old new old.writing is refl c.in_ok-append-2.ensures.body c.in_ok-append-2.ensures.at longer
    (λ earlier e. c.in_ok-append-2.ensures.writing ∙ c.put_group-group.ensures.after earlier e) octets room
