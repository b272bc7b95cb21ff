-- What is left is enough for the pass, and has the nodes that are kept.
use Rattle.std.proofs.Common.{◌≡◌, ◌≤◌, ◌<◌, inl, inr, length, take, Some, sym, ap, subst, arith}
use Rattle.std.proofs.lemmas.Bool.{cases_lt}
use Rattle.std.proofs.lemmas.List.{length-take}
use Rattle.std.specs.List.{slice_get}
use Rattle.babel_prefix.proofs.Members.{Listed}
use Rattle.babel_trie.specs.Pass.{IsPassOver, IsQuietUpTo, ahead_of}
use Rattle.babel_trie.specs.Runs.{StartAfter}
use Rattle.babel_trie.specs.Split.{rows_of_split}
use Rattle.babel_trie.proofs.NumberLaws.{slice_get-take, slice_get-taken, slice_get_in}
use Rattle.babel_trie.proofs.pass.Pass.reach_keeping.Goals as goal

pub reach-requires-clause-pass : goal.reach-requires-clause-pass
reach-requires-clause-pass g c =
    let w = c.args.width in
    let nodes = c.args.table.now.nodes.items in
    let cut = c.give_up_from.ensures.nodes in
    let r = c.requires.pass in
    let enough : c.made.result ≤ cut.0 = omega (arith, c.max.ensures, cut.1) in
    (r.0, subst (λ xs. IsPassOver w g.R.Rows.rows r.0 xs c.leave.new.self) (sym cut.2) (c.made.ensures.enough w cut.0 r.0 nodes enough (c.leave.ensures.pass w r.0 nodes r.1)))

pub returns-clause-pass : goal.returns-clause-pass
returns-clause-pass g c rows p =
    let w = c.args.width in
    let nodes = c.args.table.now.nodes.items in
    let cut = c.give_up_from.ensures.nodes in
    let enough : c.made.result ≤ cut.0 = omega (arith, c.max.ensures, cut.1) in
    c.in_ok-next.ensures.pass rows
    (subst (λ xs. IsPassOver w g.R.Rows.rows rows xs c.leave.new.self) (sym cut.2) (c.made.ensures.enough w cut.0 rows nodes enough (c.leave.ensures.pass w rows nodes p)))

pub returns-clause-keeps : goal.returns-clause-keeps
returns-clause-keeps g c i node e =
    let nodes = c.args.table.now.nodes.items in
    let kept = c.args.kept in
    let cut = c.give_up_from.ensures.nodes in
    let inside : i < cut.0 = omega (arith, slice_get_in (take kept nodes) i node e, length-take kept nodes, c.max.ensures, cut.1) in
    let there : slice_get (take cut.0 nodes) i ≡ Some node = slice_get-take nodes cut.0 i node inside (slice_get-taken nodes kept i node e) in
    c.in_ok-next.ensures.keeps i node (subst (λ xs. slice_get xs i ≡ Some node) (sym cut.2) there)

pub returns-clause-few : goal.returns-clause-few
returns-clause-few g c =
    omega (arith, c.in_ok-next.ensures.few, c.leave.ensures.few, ap (λ split. length (rows_of_split g.R.Rows.rows split)) c.leave.ensures.rest)

pub returns-clause-fewer : goal.returns-clause-fewer
returns-clause-fewer g c some =
    let at = c.args.at in
    let rows = g.R.Rows.rows in
    let old = c.args.self.now in
    let new = c.leave.new.self in
    let leave = c.leave.ensures in
    let left = ap (λ split. length (rows_of_split rows split)) leave.rest in
    elim (cases_lt (length new.ahead.items) (length old.ahead.items)) [
      | inl lt ↦ omega (arith, lt, left, c.in_ok-next.ensures.few)
      | inr ge ↦
          let never : (StartAfter at (ahead_of old) → ⊥) → ⊥ = λ no. (let lt = leave.fewer no in omega arith) in
          let comes : IsQuietUpTo at rows new → ⊥ = λ q. never
          (λ behind. some (record { changes = behind; rows = λ row t. q.rows row (subst (λ split. Listed (rows_of_split rows split) row) (sym leave.rest) t) })) in
          omega (arith, c.in_ok-next.ensures.fewer comes, leave.few, left)
    ]
