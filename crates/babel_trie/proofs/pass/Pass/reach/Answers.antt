-- Before the first row that is left the changes back up to it are come to.
use Rattle.std.proofs.Common.{◌≡◌, ℕ, ◌<◌, inl, inr, List, ◌∷◌, length, Option, Some, None, refl, sym, ◌∙◌, ap, subst, arith}
use Rattle.babel_prefix.specs.Address.{Address, block_of}
use Rattle.babel_prefix.specs.Entries.{Entry}
use Rattle.babel_prefix.proofs.Members.{Listed}
use Rattle.babel_trie.specs.Held.{RowOrder}
use Rattle.babel_trie.specs.Pass.{IsQuietUpTo, ahead_of, rows_left}
use Rattle.babel_trie.specs.Rows.{InOrder}
use Rattle.babel_trie.specs.Runs.{StartAfter}
use Rattle.babel_trie.specs.Split.{rows_of_split}
use Rattle.babel_trie.proofs.NodeLaws.{sound_by}
use Rattle.babel_trie.proofs.PassLaws.{first-least, left_order}
use Rattle.babel_trie.proofs.pass.Pass.reach.Goals.{in-Some+then-at-start, in_default}
use Rattle.babel_trie.proofs.pass.Pass.reach.Goals as goal

pub loop-self-init : goal.loop-self-init
loop-self-init g c =
    record {
      sound = sound_by (λ _ _. refl) (λ _ _. refl) (λ _ _. refl) (λ _ _. refl) c.requires.sound;
      keeps = λ k node e. e;
      pass = λ rows p. p;
      reached = c.requires.order;
      few = omega arith;
      fewer = λ some. inl some;
    }

pub leave-requires-clause-pass : goal.leave-requires-clause-pass
leave-requires-clause-pass g c =
    let r = c.requires.pass in (c.args.width, r.0, c.loop-self.table.nodes.items, c.loop-self.invariant.pass r.0 r.1)

pub leave-requires-clause-order : goal.leave-requires-clause-order
leave-requires-clause-order g c =
    let r = c.requires.pass in
    let p = c.loop-self.invariant.pass r.0 r.1 in
    let first = c.in-Some.first in
    let here : Listed (rows_left g.R.Rows.rows c.loop-self.self) first = subst (λ split. Listed (rows_of_split g.R.Rows.rows split) first) (sym c.in-Some.is) (inl refl) in
    omega (arith, p.from first here, c.bits-start.ensures.value ∙ ap (λ (x : Address). x.bits) c.addr.ensures.value)

pub leave-requires-clause-rows : goal.leave-requires-clause-rows
leave-requires-clause-rows g c row t =
    let r = c.requires.pass in
    let p = c.loop-self.invariant.pass r.0 r.1 in
    let rows = g.R.Rows.rows in
    let left = rows_left rows c.loop-self.self in
    let split : left ≡ c.in-Some.first ∷ rows c.in-Some.behind = ap (rows_of_split rows) c.in-Some.is in
    omega (arith, first-least left (rows c.in-Some.behind) c.in-Some.first split (left_order p) row t, c.bits-start.ensures.value ∙ ap (λ (x : Address). x.bits) c.addr.ensures.value)

pub enter-requires-clause-sound : goal.enter-requires-clause-sound
enter-requires-clause-sound g c = sound_by (λ _ _. refl) (λ _ _. refl) (λ _ _. refl) (λ _ _. refl) c.loop-self.invariant.sound

pub enter-requires-clause-pass : goal.enter-requires-clause-pass
enter-requires-clause-pass g c =
    let r = c.requires.pass in
    (r.0, c.leave.ensures.pass c.args.width r.0 c.loop-self.table.nodes.items (c.loop-self.invariant.pass r.0 r.1))

pub loop-self-preserved : goal.loop-self-preserved
loop-self-preserved g c =
    let i = c.loop-self.invariant in
    let enter = c.in_ok-enter.ensures in
    let left = ap (λ split. length (rows_of_split g.R.Rows.rows split)) c.leave.ensures.rest in
    let start_is = c.bits-start.ensures.value ∙ ap (λ (x : Address). x.bits) c.addr.ensures.value in
    record {
      sound = sound_by (λ _ _. refl) (λ _ _. refl) (λ _ _. refl) (λ _ _. refl) enter.sound;
      keeps = λ k node e. enter.keeps k node (i.keeps k node e);
      pass = λ rows p. enter.pass rows (c.leave.ensures.pass c.args.width rows c.loop-self.table.nodes.items (i.pass rows p));
      reached = omega (arith, enter.start, start_is, c.if-at-start.false);
      few = omega (arith, i.few, enter.fewer, c.leave.ensures.few, left);
      fewer = λ some. inr (omega (arith, i.few, enter.fewer, c.leave.ensures.few, left));
    }

-- an address before the first row is before all, and any is where there is none
before_some : {V R : Type 0} (rows : R → List (Entry V)) (split : Option (Entry V × R)) (first : Entry V) (behind : R) (at start : ℕ)
    → split ≡ Some (first, behind) → InOrder RowOrder (rows_of_split rows split) →
    start ≡ (block_of first.0).start → at < start → (row : Entry V) → Listed (rows_of_split rows split) row → at < (block_of row.0).start
before_some rows split first behind at start is order start_is lt row t = omega (arith, first-least (rows_of_split rows split) (rows behind) first (ap (rows_of_split rows) is) order row t)

before_none : {V R : Type 0} (rows : R → List (Entry V)) (split : Option (Entry V × R)) (at : ℕ) → split ≡ None → (row : Entry V) → Listed (rows_of_split rows split) row → at < (block_of row.0).start
before_none rows None at is row t = elim t [ ]
before_none rows (Some split) at is row t = cc

pub leave-requires-2-clause-pass : goal.leave-requires-2-clause-pass
leave-requires-2-clause-pass g c =
    let r = c.requires.pass in (c.args.width, r.0, c.loop-self.table.nodes.items, c.loop-self.invariant.pass r.0 r.1)

pub leave-requires-2-clause-rows : goal.leave-requires-2-clause-rows
leave-requires-2-clause-rows g c row t =
    let r = c.requires.pass in
    let at = c.args.at in
    let rows = g.R.Rows.rows in
    let rest = c.loop-self.self.rest in
    let p = c.loop-self.invariant.pass r.0 r.1 in
    let before : (x : Entry g.row.V.Denot) → Listed (rows_of_split rows rest) x → at < (block_of x.0).start = elim c.match-self.branch [
      | in-Some+then-at-start w ↦ before_some rows rest w.in-Some.first w.in-Some.behind at w.bits-start.result w.in-Some.is (left_order p)
          (w.bits-start.ensures.value ∙ ap (λ (x : Address). x.bits) w.addr.ensures.value) w.if-at-start.true
      | in_default w ↦ before_none rows rest at w.in_default.is
    ] in
    omega (arith, before row t)

pub next_start-requires : goal.next_start-requires
next_start-requires g c =
    let r = c.requires.pass in
    record { pass = (c.args.width, r.0, c.loop-self.table.nodes.items, c.leave-2.ensures.pass c.args.width r.0 c.loop-self.table.nodes.items (c.loop-self.invariant.pass r.0 r.1)) }

pub returns-clause-sound : goal.returns-clause-sound
returns-clause-sound g c = sound_by (λ _ _. refl) (λ _ _. refl) (λ _ _. refl) (λ _ _. refl) c.loop-self.invariant.sound

pub returns-clause-behind : goal.returns-clause-behind
returns-clause-behind g c =
    let r = c.requires.pass in
    let at = c.args.at in
    let rows = g.R.Rows.rows in
    let rest = c.loop-self.self.rest in
    let p = c.loop-self.invariant.pass r.0 r.1 in
    let before : (x : Entry g.row.V.Denot) → Listed (rows_of_split rows rest) x → at < (block_of x.0).start = elim c.match-self.branch [
      | in-Some+then-at-start w ↦ before_some rows rest w.in-Some.first w.in-Some.behind at w.bits-start.result w.in-Some.is (left_order p)
          (w.bits-start.ensures.value ∙ ap (λ (x : Address). x.bits) w.addr.ensures.value) w.if-at-start.true
      | in_default w ↦ before_none rows rest at w.in_default.is
    ] in
    let new = c.leave-2.new.self in
    let quiet : IsQuietUpTo at rows new =
    record { changes = c.leave-2.ensures.behind; rows = λ row t. before row (subst (λ split. Listed (rows_of_split rows split) row) c.leave-2.ensures.rest t) } in
    (c.next_start.ensures.next at).0 quiet

pub returns-clause-within : goal.returns-clause-within
returns-clause-within g c =
    let r = c.requires.pass in
    let p = c.leave-2.ensures.pass c.args.width r.0 c.loop-self.table.nodes.items (c.loop-self.invariant.pass r.0 r.1) in
    c.next_start.ensures.within c.args.width r.0 c.loop-self.table.nodes.items p

pub returns-clause-fewer : goal.returns-clause-fewer
returns-clause-fewer g c some =
    let r = c.requires.pass in
    let at = c.args.at in
    let rows = g.R.Rows.rows in
    let rest = c.loop-self.self.rest in
    let p = c.loop-self.invariant.pass r.0 r.1 in
    let before : (x : Entry g.row.V.Denot) → Listed (rows_of_split rows rest) x → at < (block_of x.0).start = elim c.match-self.branch [
      | in-Some+then-at-start w ↦ before_some rows rest w.in-Some.first w.in-Some.behind at w.bits-start.result w.in-Some.is (left_order p)
          (w.bits-start.ensures.value ∙ ap (λ (x : Address). x.bits) w.addr.ensures.value) w.if-at-start.true
      | in_default w ↦ before_none rows rest at w.in_default.is
    ] in
    let left = ap (λ split. length (rows_of_split rows split)) c.leave-2.ensures.rest in
    elim (c.loop-self.invariant.fewer some) [
      | inl never ↦ omega (arith, c.loop-self.invariant.few, left, c.leave-2.ensures.fewer (λ behind. never (record { changes = behind; rows = before })))
      | inr lt ↦ omega (arith, left, c.leave-2.ensures.few)
    ]

pub enter-requires-clause-next : goal.enter-requires-clause-next
enter-requires-clause-next g c = c.leave.ensures.rest ∙ c.in-Some.is

pub enter-requires-clause-reached : goal.enter-requires-clause-reached
enter-requires-clause-reached g c =
    subst (λ start. StartAfter start (ahead_of c.leave.new.self)) (c.bits-start.ensures.value ∙ ap (λ (x : Address). x.bits) c.addr.ensures.value) c.leave.ensures.behind

pub returns-clause-keeps : goal.returns-clause-keeps
returns-clause-keeps g c = c.loop-self.invariant.keeps

pub returns-clause-pass : goal.returns-clause-pass
returns-clause-pass g c rows p = c.leave-2.ensures.pass c.args.width rows c.loop-self.table.nodes.items (c.loop-self.invariant.pass rows p)

pub returns-clause-next : goal.returns-clause-next
returns-clause-next g c = c.next_start.ensures.next

pub returns-clause-few : goal.returns-clause-few
returns-clause-few g c =
    omega (arith, c.loop-self.invariant.few, ap (λ split. length (rows_of_split g.R.Rows.rows split)) c.leave-2.ensures.rest, c.leave-2.ensures.few)
