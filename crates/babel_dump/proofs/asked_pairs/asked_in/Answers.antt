use Rattle.std.proofs.Common.{ℕ, List, arith, rules, subst, sym}
use Rattle.babel_dump.specs.AskedPairs.{SaysPair}
use Rattle.babel_dump.specs.declared.addr_pair.AddrPair.{AddrPair}
use Rattle.babel_dump.proofs.AskedLaws.{two_words}
use Rattle.babel_dump.proofs.asked_pairs.asked_in.Goals as goal

pub returns-in-None : goal.returns-in-None
returns-in-None c =
    let two = two_words c.args.words.now _ _ (omega arith) in
    (search rules, subst (λ (words : List (List ℕ)). (pair : AddrPair) → SaysPair words pair → ⊥) (sym two) c.in-None.ensures.none)
