-- One value is one row, and nothing is none.
use Rattle.std.proofs.Common.{◌≡◌, List, ◌++◌, Option, Some, None, map, sym, ◌∙◌, ap, subst}
use Rattle.std.proofs.lemmas.Result.{err_from_is_err_and}
use Rattle.babel_prefix.specs.Address.{block_of}
use Rattle.babel_prefix.specs.Best.{Row}
use Rattle.babel_prefix.specs.Width.{width_of}
use Rattle.babel_trie.specs.Nested.{entry_at, leaves, rows_at}
use Rattle.babel_trie.specs.Sinks.{StopsAmong}
use Rattle.babel_trie.specs.Shape.{Shape, leaf}
use Rattle.babel_trie.proofs.PutLaws.{put_none, put_one, stops_at_last}
use Rattle.babel_trie.proofs.listing.push_constant.Goals as goal

pub returns-in_default-clause-ok : goal.returns-in_default-clause-ok
returns-in_default-clause-ok g c u is start given has =
    let all : Shape (Option g.row.V.Denot) → List (Row g.row.V.Denot) = λ x. rows_at (block_of c.args.dst) (leaves (width_of c.args.family) c.args.bits c.args.place x) in
    let same : leaf None ≡ u = ap (λ (v : Option g.row.V.Denot). leaf v) (sym c.in_default.is) ∙ is in
    put_none c.args.family (g.S.Sink.has start c.args.out.now) given (all u) (sym (ap all same)) has

pub returns-clause-ok : goal.returns-clause-ok
returns-clause-ok g c u is start given has =
    let all : Shape (Option g.row.V.Denot) → List (Row g.row.V.Denot) = λ x. rows_at (block_of c.args.dst) (leaves (width_of c.args.family) c.args.bits c.args.place x) in
    let Has = g.S.Sink.has start c.put.new.self in
    let v = c.in-Some.value in
    let same : leaf (Some v) ≡ u = ap (λ (w : Option g.row.V.Denot). leaf w) (sym c.in-Some.is) ∙ is in
    subst (λ x. Has (given ++ map (entry_at c.args.family) (all x))) same
    (put_one c.args.family Has given c.args.dst c.node_prefix.result _ v c.requires.dst_family c.node_prefix.ensures.family c.node_prefix.ensures.block (c.in_ok-put.ensures.ok start given has))

pub returns-in_err-put-clause-err : goal.returns-in_err-put-clause-err
returns-in_err-put-clause-err g c = let exit = err_from_is_err_and c.from_residual.result c.from_residual.ensures.1 in rw exit.1 (λ u is start given has.
    let all : Shape (Option g.row.V.Denot) → List (Row g.row.V.Denot) = λ x. rows_at (block_of c.args.dst) (leaves (width_of c.args.family) c.args.bits c.args.place x) in
    let Stopped = g.S.Sink.stopped start c.put.new.self in
    let v = c.in-Some.value in
    let same : leaf (Some v) ≡ u = ap (λ (w : Option g.row.V.Denot). leaf w) (sym c.in-Some.is) ∙ is in
    subst (λ x. StopsAmong Stopped given (map (entry_at c.args.family) (all x))) same
    (stops_at_last Stopped given _
    (put_one c.args.family Stopped given c.args.dst c.node_prefix.result _ v c.requires.dst_family c.node_prefix.ensures.family
    c.node_prefix.ensures.block (c.in_err-put.ensures.err start given has))))
