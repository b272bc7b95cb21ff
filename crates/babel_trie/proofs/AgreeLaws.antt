-- Two that answer as one trie each from an address on: where they agree, and where they differ first.
use Rattle.std.proofs.Common.{◌≡◌, inl, inr, ℕ, ◌^◌, ◌<◌, ◌≤◌, List, Option, sym, ◌∙◌, arith}
use Rattle.std.proofs.lemmas.Bool.{cases_lt}
use Rattle.babel_trie.specs.Boxes.{Answers}
use Rattle.babel_trie.specs.Differs.{AgreeBelow, DifferFirst, AgreeBelowBoth, DifferFirstAt}
use Rattle.babel_trie.specs.Interned.{HasTrie}
use Rattle.babel_trie.specs.Shape.{value_at}
use Rattle.babel_trie.specs.declared.table.Node.{Node}
use Rattle.babel_trie.specs.declared.table.Sources.{Sources}
use Rattle.babel_trie.proofs.RunLaws.{HasValues}

module _ {V : Type 0} where
  -- from an address on the answers are those of these sources, as long as nothing comes
  pub record IsAt (w at : ℕ) (f : Answers V) (nodes : List (Node (Option V))) (here : Sources (Option V)) (Quiet : ℕ → Type 0) : Type 0 where
    pub held : HasTrie w nodes here
    pub quiet : Quiet at
    pub answers : (d : ℕ) → at ≤ d → d < 2 ^ w → Quiet d → (src : ℕ) → src < 2 ^ w → f d src ≡ value_at held.trie w src

  -- so they are its values
  pub at-values : {w at : ℕ} {f : Answers V} {nodes : List (Node (Option V))} {here : Sources (Option V)} {Quiet : ℕ → Type 0} → IsAt w at f nodes here Quiet →
      (d : ℕ) → at ≤ d → d < 2 ^ w → Quiet d → HasValues w (f d) nodes here
  at-values l d le d_in so = record { held = l.held; values_are = λ src src_in. sym (l.answers d le d_in so src src_in) }

  module _ {w at : ℕ} {f g : Answers V} {nodes others : List (Node (Option V))} {here there : Sources (Option V)}
      {Quiet OtherQuiet : ℕ → Type 0} (l : IsAt w at f nodes here Quiet) (r : IsAt w at g others there OtherQuiet) (below : AgreeBelowBoth at (2 ^ w) f g) where
    -- where the tries are equal both answer the same up to the next change
    pub agree-more : (to : ℕ) → to ≤ 2 ^ w → ((d : ℕ) → d < to → Quiet d × OtherQuiet d) → AgreeBelow (2 ^ w) (value_at l.held.trie w) (value_at r.held.trie w) →
        AgreeBelowBoth to (2 ^ w) f g
    agree-more to to_in quiet same d d_in s s_in =
        elim (cases_lt d at) [
          | inl lt ↦ below d lt s s_in
          | inr ge ↦ let so = quiet d d_in in l.answers d ge (omega arith) so.0 s s_in ∙ same s s_in ∙ sym (r.answers d ge (omega arith) so.1 s s_in)
        ]

    -- where the tries differ they answer differently
    pub differ-here : at < 2 ^ w → (src : ℕ) → DifferFirst (2 ^ w) (value_at l.held.trie w) (value_at r.held.trie w) src →
        DifferFirstAt (2 ^ w) (2 ^ w) f g (at, src)
    differ-here at_in src first =
        let src_in : src < 2 ^ w = first.in_range in
        let is = l.answers at (omega arith) at_in l.quiet in
        let other_is = r.answers at (omega arith) at_in r.quiet in
        record {
          in_range = at_in;
          differ = record {
            in_range = src_in;
            differ = λ e. first.differ (sym (is src src_in) ∙ e ∙ other_is src src_in);
            agree_below = λ s lt. let s_in : s < 2 ^ w = omega arith in is s s_in ∙ first.agree_below s lt ∙ sym (other_is s s_in);
          };
          agree_below = below;
        }
