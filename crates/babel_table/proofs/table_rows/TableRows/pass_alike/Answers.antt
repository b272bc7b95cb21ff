-- Where both have no IPv4 row left, rows of IPv6 are passed by, too.
use Rattle.std.proofs.Common.{◌≡◌, ◌==◌, ◌∷◌, ◌++◌, ◌∙◌, [], List, eqb-true, true, length, ap, sym, append_assoc, arith}
use Rattle.std.proofs.lemmas.List.{append-nil}
use Rattle.babel_tlv.specs.Pair.{Pair}
use Rattle.babel_table.proofs.table_rows.TableRows.pass_alike.Goals as goal

joined : (v4 v6 alike more rest left : List Pair) → v4 ≡ alike ++ rest → true ≡ (length rest == 0) → v6 ≡ more ++ left → v4 ++ v6 ≡ (alike ++ more) ++ (rest ++ left)
joined v4 v6 alike more [] left is none also = rw (is, also) (ap (λ (t : List Pair). t ++ (more ++ left)) (append-nil alike) ∙ sym (append_assoc alike more left))
joined v4 v6 alike more (row ∷ rest) left is none also = absurd (let some = eqb-true (length (row ∷ rest)) 0 (sym none) in omega (arith, some))

none_both : (rest left : List Pair) → true ≡ (length rest == 0) → true ≡ (length left == 0) → true ≡ (length (rest ++ left) == 0)
none_both [] left none also = also
none_both (row ∷ rest) left none also = absurd (let some = eqb-true (length (row ∷ rest)) 0 (sym none) in omega (arith, some))

joined_all : (v4 any v6 alike more most rest left last : List Pair) → v4 ≡ alike ++ rest → true ≡ (length rest == 0) → any ≡ more ++ left → true ≡ (length left == 0) → v6 ≡ most ++ last
    → (v4 ++ any) ++ v6 ≡ ((alike ++ more) ++ most) ++ ((rest ++ left) ++ last)
joined_all v4 any v6 alike more most rest left last is none also none_left too =
    joined (v4 ++ any) v6 (alike ++ more) most (rest ++ left) last (joined v4 any alike more rest left is none also) (none_both rest left none none_left) too

joined_some : (v4 any v6 alike more rest left : List Pair) → v4 ≡ alike ++ rest → true ≡ (length rest == 0) → any ≡ more ++ left → (v4 ++ any) ++ v6 ≡ (alike ++ more) ++ ((rest ++ left) ++ v6)
joined_some v4 any v6 alike more rest left is none also =
    ap (λ (t : List Pair). t ++ v6) (joined v4 any alike more rest left is none also) ∙ append_assoc (alike ++ more) (rest ++ left) v6

pub returns-else-is_empty : goal.returns-else-is_empty
returns-else-is_empty c =
    let one = c.past_alike.ensures in
    let two = c.past_alike-2.ensures in (
      one.0 ++ two.0,
      joined_some c.args.self.now.v4.now c.args.self.now.v4_any_hop.now c.args.self.now.v6.now one.0 two.0 c.past_alike.result.0.now c.past_alike-2.result.0.now
          one.1 c.if-not-is_empty.ensures two.1,
      joined_some c.args.other.now.v4.now c.args.other.now.v4_any_hop.now c.args.other.now.v6.now one.0 two.0 c.past_alike.result.1.now c.past_alike-2.result.1.now
          one.2 c.if-not-is_empty-2.ensures two.2,
    )

pub returns-then-is_empty-2 : goal.returns-then-is_empty-2
returns-then-is_empty-2 c =
    let one = c.past_alike.ensures in
    let two = c.past_alike-2.ensures in
    let three = c.past_alike-then-is_empty-2.ensures in (
      (one.0 ++ two.0) ++ three.0,
      joined_all c.args.self.now.v4.now c.args.self.now.v4_any_hop.now c.args.self.now.v6.now one.0 two.0 three.0 c.past_alike.result.0.now c.past_alike-2.result.0.now
          c.past_alike-then-is_empty-2.result.0.now one.1 c.if-not-is_empty.ensures two.1 c.if-is_empty.ensures three.1,
      joined_all c.args.other.now.v4.now c.args.other.now.v4_any_hop.now c.args.other.now.v6.now one.0 two.0 three.0 c.past_alike.result.1.now c.past_alike-2.result.1.now
          c.past_alike-then-is_empty-2.result.1.now one.2 c.if-not-is_empty-2.ensures two.2 c.if-is_empty-2.ensures three.2,
    )
