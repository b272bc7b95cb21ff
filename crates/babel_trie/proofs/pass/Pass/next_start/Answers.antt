-- A change comes with the next of those ahead, or with the first row.
use Rattle.std.proofs.Common.{◌≡◌, ℕ, ◌<◌, ◌^◌, List, Option, Some, None, inr, reverse, sym, subst, arith}
use Rattle.std.specs.Option.{IfSome}
use Rattle.babel_prefix.specs.Address.{block_of}
use Rattle.babel_prefix.specs.Entries.{Entry}
use Rattle.babel_prefix.proofs.Members.{Listed}
use Rattle.babel_trie.specs.Pass.{StartInOrder, rows_left}
use Rattle.babel_trie.specs.Runs.{StartAfter}
use Rattle.babel_trie.specs.declared.pass.Reached.{Reached}
use Rattle.babel_trie.specs.declared.runs.Change.{Change}
use Rattle.babel_trie.proofs.PassLaws.{left_order, left_in}
use Rattle.babel_trie.proofs.pass.Pass.next_start.Goals as goal

pub last_start-requires : goal.last_start-requires
last_start-requires g c =
    let r = c.requires.pass in
    subst (λ (xs : List (Change (Reached g.row.V.Denot))). StartInOrder (reverse xs)) (sym c.deref.ensures.value) r.3.in_order.1

pub first_start-requires : goal.first_start-requires
first_start-requires g c = let r = c.requires.pass in left_order r.3

pub returns-clause-next : goal.returns-clause-next
returns-clause-next g c at =
    let Behind = λ (xs : List (Change (Reached g.row.V.Denot))). StartAfter at (reverse xs) in
    let near = c.nearer_start.ensures.behind at in
    let back = c.last_start.ensures.nearest at in
    let row = c.first_start.ensures.first at in (
      λ quiet. near.1 (back.0 (subst Behind (sym c.deref.ensures.value) quiet.changes), row.0 quiet.rows),
      λ some. record { changes = subst Behind c.deref.ensures.value (back.1 (near.0 some).0); rows = row.1 (near.0 some).1 },
    )

-- where one of some starts is below an end that all are below
one_below : {X : Type 0} (P : X → Type 0) (f : X → ℕ) (end : ℕ) (r : Option ℕ) → IfSome r (λ start. (x : X) × P x × (f x ≡ start)) → ((x : X) → P x → f x < end) → IfSome r (λ start. start < end)
one_below P f end None one all = tt
one_below P f end (Some start) one all = let is : f one.0 ≡ start = one.2 in omega (arith, all one.0 one.1)

pub returns-clause-within : goal.returns-clause-within
returns-clause-within g c w rows nodes p =
    let V = g.row.V.Denot in
    let self = c.args.self.now in
    c.nearer_start.ensures.within (2 ^ w)
    (one_below (λ (x : Change (Reached V)). Listed (reverse c.deref.result.now) x) (λ x. x.start) (2 ^ w) c.last_start.result c.last_start.ensures.one
    (λ x t. p.below x (inr (subst (λ (xs : List (Change (Reached V))). Listed (reverse xs) x) c.deref.ensures.value t))))
    (one_below (λ (x : Entry V). Listed (rows_left g.R.Rows.rows self) x) (λ x. (block_of x.0).start) (2 ^ w) c.first_start.result c.first_start.ensures.one (left_in p))
