-- Those so far, and those of the senders that are left, are all.
use Rattle.std.proofs.Common.{◌≡◌, ◌++◌, filter, map}
use Rattle.std.specs.Prelude.{is_none}
use Rattle.std.specs.Map.{keys_of}
use Rattle.babel_dump.specs.Fellows.{fellow_of, fellows_in, left_with}
use Rattle.babel_dump.specs.declared.fellows.Fellows.TheVariants as fellows
use Rattle.babel_dump.proofs.fellows.fellows_of.Given as goal

abbrev pub invariant-loop-origin : goal.invariant-loop-origin
invariant-loop-origin g l =
    let own = keys_of l.left.entries in
    let others = keys_of l.right.entries in
    l.fellows.items ++ map (λ left. left_with left (fellow_of own others left)) (keys_of l.origin-iterator)
    ≡ map (λ left. left_with left (fellow_of own others left)) own

abbrev pub invariant-loop-origin-2 : goal.invariant-loop-origin-2
invariant-loop-origin-2 g l =
    let own = keys_of l.left.entries in
    let others = keys_of l.right.entries in
    l.fellows.items ++ map fellows.Right (filter (λ right. is_none (fellow_of others own right)) (keys_of l.origin-iterator)) ≡ fellows_in own others
