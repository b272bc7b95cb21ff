-- The rows of the destination are laid over what the pass has come to.
use Rattle.std.proofs.Common.{◌≡◌, ◌+◌, ◌-◌, ◌^◌, ◌<◌, inl, List, [], ◌∷◌, ◌++◌, reverse, length, refl, sym, ◌∙◌, ap, subst, Option, Some, arith}
use Rattle.std.proofs.lemmas.List.{length-append}
use Rattle.std.proofs.Math.Pow.{pow_mono}
use Rattle.babel_prefix.specs.Address.{Address, block_of}
use Rattle.babel_prefix.specs.Block.{Block}
use Rattle.babel_prefix.specs.Entries.{Entry}
use Rattle.babel_prefix.proofs.Members.{Listed, Listed-append_left, Listed-append_right}
use Rattle.babel_trie.specs.Pass.{IsUnderWay, ahead_of, rows_left}
use Rattle.babel_trie.specs.Split.{rows_of_split}
use Rattle.babel_trie.specs.declared.pass.Pass.{Pass}
use Rattle.babel_trie.specs.declared.pass.Reached.{Reached}
use Rattle.babel_trie.specs.declared.runs.Change.{Change}
use Rattle.babel_trie.proofs.FrontLaws.{part_table}
use Rattle.babel_trie.proofs.PassLaws.{IsNext, left_block, reverse-push, sources_in, way-held, way-entered, way-entered_last}
use Rattle.babel_trie.proofs.Ranges.{size, block_ends}
use Rattle.babel_trie.proofs.pass.Pass.enter.Goals.{then-end-last_address+in_ok-push, else-end-last_address}
use Rattle.babel_trie.proofs.pass.Pass.enter.Goals as goal

pub overflow_sub-width : goal.overflow_sub-width
overflow_sub-width g c =
    let first = c.args.first in
    let left = rows_left g.R.Rows.rows c.args.self.now in
    let here : Listed left first = subst (λ split. Listed (rows_of_split g.R.Rows.rows split) first) (sym c.requires.next) (inl refl) in
    omega (arith, (left_block c.requires.pass.1 first here).len_in_range, c.len.ensures.value)

pub last_address-end-requires : goal.last_address-end-requires
last_address-end-requires g c =
    let w = c.args.width in
    let first = c.args.first in
    let left = rows_left g.R.Rows.rows c.args.self.now in
    let here : Listed left first = subst (λ split. Listed (rows_of_split g.R.Rows.rows split) first) (sym c.requires.next) (inl refl) in
    let start_is = c.bits-start.ensures.value ∙ ap (λ (x : Address). x.bits) c.addr.ensures.value in
    omega (arith, block_ends w (block_of first.0) (left_block c.requires.pass.1 first here), start_is, ap (λ k. 2 ^ (w - k)) c.len.ensures.value, pow_mono {i = w} {j = 128} c.requires.width)

pub overlaid-requires-clause-trie : goal.overlaid-requires-clause-trie
overlaid-requires-clause-trie g c =
    let p = c.requires.pass.1 in
    let first = c.args.first in
    let left = rows_left g.R.Rows.rows c.args.self.now in
    let here : Listed left first = subst (λ split. Listed (rows_of_split g.R.Rows.rows split) first) (sym c.requires.next) (inl refl) in
    way-held p (block_of first.0).start (p.from first here) (left_block p first here).start_in_range c.requires.reached

pub overlaid-requires-clause-rows : goal.overlaid-requires-clause-rows
overlaid-requires-clause-rows g c =
    let w = c.args.width in
    let self = c.args.self.now in
    let own = c.deref.result.now in
    let items = c.first_destination.new.own.items in
    let others = rows_of_split g.R.Rows.rows c.in_ok-others.others in
    let same : own ≡ items = c.deref.ensures.value in
    let split = ap (rows_of_split g.R.Rows.rows) c.requires.next ∙ c.in_ok-others.ensures.parts ∙ ap (λ xs. xs ++ others) (sym same) in
    let n : IsNext w own others (block_of c.args.first.0) =
    record { some = omega (arith, ap length same, c.in_ok-others.ensures.some); one = λ x t. c.in_ok-others.ensures.one x (subst (λ xs. Listed xs x) same t) } in
    sources_in n (subst (IsUnderWay w c.requires.pass.0 c.args.table.now.nodes.items self.now (ahead_of self)) split c.requires.pass.1)

pub overlaid-requires-clause-table : goal.overlaid-requires-clause-table
overlaid-requires-clause-table g c =
    let p = c.requires.pass.1 in
    let own = c.deref.result.now in
    let others = rows_of_split g.R.Rows.rows c.in_ok-others.others in
    let left = ap (rows_of_split g.R.Rows.rows) c.requires.next ∙ c.in_ok-others.ensures.parts ∙ ap (λ xs. xs ++ others) (sym c.deref.ensures.value) in
    let whole = p.whole ∙ ap (λ xs. p.gone ++ xs) left in
    part_table c.args.width own c.requires.pass.0 (λ x t. subst (λ xs. Listed xs x) (sym whole) (Listed-append_right p.gone (own ++ others) x (Listed-append_left own others x t))) p.table

pub last_address-requires : goal.last_address-requires
last_address-requires g c = omega (arith, pow_mono {i = c.args.width} {j = 128} c.requires.width)

pub returns-clause-pass : goal.returns-clause-pass
returns-clause-pass g c rows p =
    let V = g.row.V.Denot in
    let w = c.args.width in
    let self = c.args.self.now in
    let own = c.deref.result.now in
    let items = c.first_destination.new.own.items in
    let others = rows_of_split g.R.Rows.rows c.in_ok-others.others in
    let same : own ≡ items = c.deref.ensures.value in
    let split = ap (rows_of_split g.R.Rows.rows) c.requires.next ∙ c.in_ok-others.ensures.parts ∙ ap (λ xs. xs ++ others) (sym same) in
    let b : Block = block_of c.args.first.0 in
    let n : IsNext w own others b =
    record { some = omega (arith, ap length same, c.in_ok-others.ensures.some); one = λ x t. c.in_ok-others.ensures.one x (subst (λ xs. Listed xs x) same t) } in
    let q = subst (IsUnderWay w rows c.args.table.now.nodes.items self.now (ahead_of self)) split p in
    let more = c.overlaid.new.self.nodes.items in
    let new : Change (Reached V) = record { start = c.bits-start.result; sources = record { trie = c.in_ok-trie.trie; made = length c.nodes-made.result.now } } in
    let start_is : c.bits-start.result ≡ b.start = c.bits-start.ensures.value ∙ ap (λ (x : Address). x.bits) c.addr.ensures.value in
    let end_is : c.last_address-end.result + 1 ≡ b.start + size w b = omega (arith, start_is, ap (λ k. 2 ^ (w - k)) c.len.ensures.value, c.last_address-end.ensures) in
    let last_is : c.last_address.result + 1 ≡ 2 ^ w = omega (arith, c.last_address.ensures) in
    let made_is : new.sources.made ≡ length more = ap length c.nodes-made.ensures in
    let Under = λ (xs : List (Change (Reached V))). IsUnderWay w rows more new xs others in
    elim c.if-end-last_address.branch [
      | then-end-last_address+in_ok-push t ↦
          let back : Change (Reached V) = record { start = c.last_address-end.result + 1; sources = self.now.sources } in
          let entered = way-entered n q c.requires.reached more new.sources.trie c.in_ok-trie.ensures.keeps c.in_ok-trie.ensures.overlaid new start_is
          refl made_is back end_is refl (omega (arith, t.if-end-last_address.true, last_is)) in
          let ahead : reverse (self.ahead.items ++ back ∷ []) ≡ back ∷ reverse self.ahead.items = reverse-push self.ahead.items back in
          subst (λ (x : Pass V g.row.R.Denot). Under (reverse x.ahead.items)) (sym t.self-is)
          (subst (λ (xs : List (Change (Reached V))). Under (reverse xs)) (sym t.in_ok-push.ensures.items) (subst Under (sym ahead) entered))
      | else-end-last_address t ↦
          let entered = way-entered_last n q c.requires.reached more new.sources.trie c.in_ok-trie.ensures.keeps c.in_ok-trie.ensures.overlaid new
          start_is refl made_is (omega (arith, t.if-end-last_address.false, last_is, end_is)) in
          subst (λ (x : Pass V g.row.R.Denot). Under (reverse x.ahead.items)) (sym t.self-is) entered
    ]

pub overflow_add-end : goal.overflow_add-end
overflow_add-end g c = omega (arith, c.if-end-last_address.true, c.last_address.type_inv)

pub returns-clause-sound : goal.returns-clause-sound
returns-clause-sound g c = c.in_ok-trie.ensures.sound

pub returns-clause-keeps : goal.returns-clause-keeps
returns-clause-keeps g c = c.in_ok-trie.ensures.keeps

pub returns-clause-start : goal.returns-clause-start
returns-clause-start g c = c.bits-start.ensures.value ∙ ap (λ (x : Address). x.bits) c.addr.ensures.value

fewer_left : {V R : Type 0} (rows : R → List (Entry V)) (rest others : Option (Entry V × R)) (first : Entry V) (behind : R) (own : List (Entry V))
    → rest ≡ Some (first, behind) → first ∷ rows behind ≡ own ++ rows_of_split rows others → 0 < length own
    → length (rows_of_split rows others) < length (rows_of_split rows rest)
fewer_left rows rest others first behind own next parts some =
    omega (arith, ap (λ split. length (rows_of_split rows split)) next, ap length parts, length-append own (rows_of_split rows others), some)

pub returns-clause-fewer : goal.returns-clause-fewer
returns-clause-fewer g c =
    let items = c.args.self.now.ahead.items in
    let fewer = fewer_left g.R.Rows.rows c.args.self.now.rest c.in_ok-others.others c.args.first c.args.behind c.first_destination.new.own.items
    c.requires.next c.in_ok-others.ensures.parts c.in_ok-others.ensures.some in
    elim c.if-end-last_address.branch [
      | then-end-last_address+in_ok-push t ↦ omega (
        arith,
        fewer,
        ap (λ (x : Pass g.row.V.Denot g.row.R.Denot). length x.ahead.items) t.self-is,
        ap length t.in_ok-push.ensures.items ∙ length-append items _,
      )
      | else-end-last_address t ↦ omega (arith, fewer, ap (λ (x : Pass g.row.V.Denot g.row.R.Denot). length x.ahead.items) t.self-is)
    ]

pub returns-clause-rows : goal.returns-clause-rows
returns-clause-rows g c =
    fewer_left g.R.Rows.rows c.args.self.now.rest c.in_ok-others.others c.args.first c.args.behind c.first_destination.new.own.items c.requires.next
    c.in_ok-others.ensures.parts c.in_ok-others.ensures.some
