use Rattle.babel_trie.proofs.comparison.Comparison.+told.Given as goal

-- proposed from what the function passes where it calls itself
abbrev pub decreases-told : goal.decreases-told
decreases-told g l = l.bits
