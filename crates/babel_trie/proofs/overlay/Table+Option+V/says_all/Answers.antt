-- The first of the rows that are left lies in a block with its value.
use Rattle.std.proofs.Common.{◌≡◌, inl, inr, ◌-◌, ◌/◌, ◌^◌, ◌≤◌, List, sym, ◌∙◌, ap, subst, arith}
use Rattle.babel_prefix.specs.Address.{Address, block_of}
use Rattle.babel_prefix.specs.Entries.{Entry}
use Rattle.babel_prefix.proofs.BlockLaws.{fewer_bits}
use Rattle.babel_prefix.proofs.Members.{Listed}
use Rattle.babel_trie.specs.Laid.{SaysOf}
use Rattle.babel_trie.proofs.FormLaws.{opened_trie}
use Rattle.babel_trie.proofs.PathLaws.{from_start}
use Rattle.babel_trie.proofs.SpanBlocks.{none_left}
use Rattle.babel_trie.proofs.overlay.Table+Option+V.says_all.Goals as goal

pub get-bits-requires-clause-trie : goal.get-bits-requires-clause-trie
get-bits-requires-clause-trie g c =
    let nodes = c.args.self.now.nodes.items in
    let s = c.args.sources.now in
    let h = c.requires.trie in
    (h.stands.0, from_start nodes s h.stands.0 h.stands.1, opened_trie nodes c.args.width s h.stands.0 h.stands.1 h)

pub loop-row-init : goal.loop-row-init
loop-row-init g c row t = inl t

pub loop-row-preserved : goal.loop-row-preserved
loop-row-preserved g c row t =
    let w = c.args.width in
    let nodes = c.args.self.now.nodes.items in
    let s = c.args.sources.now in
    let x = c.in-Some.row.now in
    let bits = c.get-bits.result.1 in
    let said : SaysOf w nodes s x = λ u a p covers.
    let start_is : c.bits.result ≡ (block_of x.1).start = c.bits.ensures.value ∙ ap (λ (y : Address). y.bits) c.addr.ensures.value in
    let less : w - bits ≤ (block_of x.1).len = omega (arith, c.if-bits-saturating_sub.false, c.saturating_sub.ensures, c.len.ensures.value) in
    let most : w - (w - bits) ≡ bits = omega (arith, c.get-bits.ensures.few) in
    let same : a / 2 ^ bits ≡ c.bits.result / 2 ^ bits = subst (λ n. a / 2 ^ n ≡ c.bits.result / 2 ^ n) most
    (subst (λ n. a / 2 ^ (w - (w - bits)) ≡ n / 2 ^ (w - (w - bits))) (sym start_is) (fewer_bits w (w - bits) (block_of x.1).len a (block_of x.1).start less covers)) in
    sym (c.get-bits.ensures.block a same p.0 u (from_start nodes s p.0 p.1) p.2) ∙ c.are_same.ensures.0 c.if-not-are_same.false in
    elim (c.loop-row.invariant row t) [
      | inl left ↦ elim (subst (λ (xs : List (Entry g.row.V.Denot)). Listed xs row) c.in-Some.ensures.cases.0 left) [ inl is ↦ inr (subst (SaysOf w nodes s) is said) | inr later ↦ inl later ]
      | inr says ↦ inr says
    ]

pub returns : goal.returns
returns g c is row t =
    elim (c.loop-row.invariant row t) [
      | inl left ↦ absurd (none_left c.loop-row.left.now c.in_default.ensures.cases (λ (xs : List (Entry g.row.V.Denot)). Listed xs row) left)
      | inr says ↦ says
    ]
