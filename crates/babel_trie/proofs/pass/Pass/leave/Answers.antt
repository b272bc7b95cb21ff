-- The nearest change ahead is come to.
use Rattle.std.proofs.Common.{◌≡◌, inl, inr, ℕ, ◌<◌, ◌≤◌, ◌-◌, [], ◌∷◌, take, List, get_or, length, reverse, Some, None, refl, sym, ◌∙◌, ap, subst, arith}
use Rattle.std.proofs.lemmas.List.{length-reverse}
use Rattle.std.proofs.lemmas.Option.{slice_get-get_or}
use Rattle.std.specs.List.{slice_get}
use Rattle.std.specs.Vec.{vec_len}
use Rattle.babel_prefix.specs.Address.{block_of}
use Rattle.babel_prefix.specs.Entries.{Entry}
use Rattle.babel_prefix.proofs.Members.{Listed}
use Rattle.babel_trie.specs.Pass.{IsUnderWay}
use Rattle.babel_trie.specs.Runs.{StartAfter}
use Rattle.babel_trie.specs.Split.{rows_of_split}
use Rattle.babel_trie.specs.declared.pass.Reached.{Reached}
use Rattle.babel_trie.specs.declared.runs.Change.{Change}
use Rattle.babel_trie.proofs.PassLaws.{nearest, nearest-behind, reverse-push, split-last, way-back}
use Rattle.babel_trie.proofs.pass.Pass.leave.Goals as goal

pub returns-then-at-next-clause-behind : goal.returns-then-at-next-clause-behind
returns-then-at-next-clause-behind g c =
    let next = c.in-Some.next.now in
    let self = c.loop-next.self in
    let r = c.requires.pass in
    let popped = nearest self.ahead.items c.deref.result.now next c.deref.ensures.value c.in-Some.ensures.value in
    nearest-behind (reverse self.ahead.items) (reverse popped.0) next c.args.at popped.1 (c.loop-next.invariant.pass r.0 r.1 r.2 r.3).in_order.1 c.if-at-next.true

pub returns-then-at-next-clause-fewer : goal.returns-then-at-next-clause-fewer
returns-then-at-next-clause-fewer g c some =
    let next = c.in-Some.next.now in
    let self = c.loop-next.self in
    let r = c.requires.pass in
    let popped = nearest self.ahead.items c.deref.result.now next c.deref.ensures.value c.in-Some.ensures.value in
    elim (c.loop-next.invariant.fewer some) [
      | inl never ↦ absurd (never (nearest-behind (reverse self.ahead.items) (reverse popped.0) next c.args.at popped.1 (c.loop-next.invariant.pass r.0 r.1 r.2 r.3).in_order.1 c.if-at-next.true))
      | inr lt ↦ lt
    ]

pub loop-next-preserved : goal.loop-next-preserved
loop-next-preserved g c =
    let i = c.loop-next.invariant in
    let old = c.loop-next.self in
    let next = c.in-Some.next.now in
    let new = c.pop.new.self in
    let left = rows_of_split g.R.Rows.rows old.rest in
    let last = subst (λ (xs : List (Change (Reached g.row.V.Denot))). slice_get xs (length xs - 1) ≡ Some next) c.deref.ensures.value (sym c.in-Some.ensures.value) in
    let count : vec_len old.ahead ≡ length old.ahead.items = omega (arith, old.ahead.ok.0) in
    let rest : new.items ≡ take (length old.ahead.items - 1) old.ahead.items = c.pop.ensures.rest ∙ ap (λ n. take (n - 1) old.ahead.items) count in
    let popped : reverse old.ahead.items ≡ next ∷ reverse new.items = ap reverse (split-last old.ahead.items next last)
    ∙ reverse-push (take (length old.ahead.items - 1) old.ahead.items) next ∙ ap (λ xs. next ∷ reverse xs) (sym rest) in
    let fewer : length new.items < length old.ahead.items = omega (arith, ap length popped, length-reverse old.ahead.items, length-reverse new.items) in
    let from : (row : Entry g.row.V.Denot) → Listed left row → next.start ≤ (block_of row.0).start =
    λ row t. omega (arith, c.if-at-next.false, c.requires.rows row (subst (λ split. Listed (rows_of_split g.R.Rows.rows split) row) i.rest t)) in
    (record {
      pass = λ w rows nodes p. way-back w rows left nodes old.now next (reverse new.items) from
          (subst (λ (xs : List (Change (Reached g.row.V.Denot))). IsUnderWay w rows nodes old.now xs left) popped (i.pass w rows nodes p));
      reached = c.if-at-next.false;
      rest = i.rest;
      few = omega (arith, i.few, fewer);
      fewer = λ some. inr (omega (arith, i.few, fewer));
    })

pub loop-next-init : goal.loop-next-init
loop-next-init g c = record { pass = λ w rows nodes p. p; reached = c.requires.order; rest = refl; few = omega arith; fewer = λ some. inl some }

pub returns-then-at-next-clause-pass : goal.returns-then-at-next-clause-pass
returns-then-at-next-clause-pass g c = c.loop-next.invariant.pass

pub returns-then-at-next-clause-few : goal.returns-then-at-next-clause-few
returns-then-at-next-clause-few g c = c.loop-next.invariant.few

pub returns-in_default-clause-pass : goal.returns-in_default-clause-pass
returns-in_default-clause-pass g c = c.loop-next.invariant.pass

pub returns-in_default-clause-few : goal.returns-in_default-clause-few
returns-in_default-clause-few g c = c.loop-next.invariant.few

-- nothing is ahead where nothing comes last
none_ahead : {F : Type 0} (list : List (Change F)) (at : ℕ) → None ≡ slice_get list (length list - 1) → StartAfter at (reverse list)
none_ahead [] at none x t = elim t [ ]
none_ahead (y ∷ ys) at none x t =
    let last = length (y ∷ ys) - 1 in
    let same : None ≡ Some (get_or (y ∷ ys) last y) = none ∙ slice_get-get_or (y ∷ ys) last y (omega arith) in absurd cc

pub returns-in_default-clause-behind : goal.returns-in_default-clause-behind
returns-in_default-clause-behind g c =
    none_ahead c.loop-next.self.ahead.items c.args.at (subst (λ (xs : List (Change (Reached g.row.V.Denot))). None ≡ slice_get xs (length xs - 1)) c.deref.ensures.value c.in_default.ensures.value)

pub returns-in_default-clause-fewer : goal.returns-in_default-clause-fewer
returns-in_default-clause-fewer g c some =
    elim (c.loop-next.invariant.fewer some) [
      | inl never ↦ absurd (never (none_ahead c.loop-next.self.ahead.items c.args.at
          (subst (λ (xs : List (Change (Reached g.row.V.Denot))). None ≡ slice_get xs (length xs - 1)) c.deref.ensures.value c.in_default.ensures.value)))
      | inr lt ↦ lt
    ]
