-- What a list of changes says.
use Rattle.std.proofs.Common.{◌≡◌, ◌≢◌, inl, inr, ℕ, suc, ◌-◌, ◌^◌, ◌<◌, ◌≤◌, true, false, cond, List, [], ◌∷◌, ◌++◌, nat_le, length, Option, Some, refl, sym, ◌∙◌, ap, subst, arith, ◌⊎◌, take}
use Rattle.std.specs.List.{slice_get}
use Rattle.std.proofs.lemmas.Bool.{cases_lt}
use Rattle.babel_prefix.proofs.Members.{Listed}
use Rattle.babel_trie.specs.Boxes.{Answers, SameAnswers}
use Rattle.babel_trie.specs.Interned.{HalvesAt, HasTrie, Stands}
use Rattle.babel_trie.specs.Pass.{IsFilled}
use Rattle.babel_trie.specs.Runs.{said_at, AreRuns, StartBelow, HasRuns}
use Rattle.babel_trie.specs.Shape.{Shape, leaf, fork, value_at}
use Rattle.babel_trie.specs.Sound.{KeepsNodes}
use Rattle.babel_trie.specs.declared.runs.Change.{Change}
use Rattle.babel_trie.specs.declared.table.Loose.{Loose}
use Rattle.babel_trie.specs.declared.table.Loose.TheVariants.{Same}
use Rattle.babel_trie.specs.declared.table.Node.{Node}
use Rattle.babel_trie.specs.declared.table.Sources.{Sources}
use Rattle.babel_trie.specs.declared.table.Sources.TheVariants.{Constant}
use Rattle.std.proofs.Math.Seq.{take-length}
use Rattle.std.proofs.lemmas.List.{length-take}
use Rattle.babel_trie.proofs.HeldLaws.{sources_at-stands}
use Rattle.babel_trie.proofs.NumberLaws.{Represents-grows, slice_get-take, slice_get_in}

module _ {F : Type 0} where
  pub reached : (x : Change F) (d : ℕ) → x.start ≤ d → nat_le x.start d ≡ true
  reached x d le = grind arith

  pub above : (x : Change F) (d : ℕ) → d < x.start → nat_le x.start d ≡ false
  above x d lt = grind arith

  -- one list behind the other
  pub said-append : (none : F) (xs ys : List (Change F)) (d : ℕ) → said_at none (xs ++ ys) d ≡ said_at (said_at none xs d) ys d
  said-append none [] ys d = refl
  said-append none (x ∷ xs) ys d = said-append (cond (nat_le x.start d) x.sources none) xs ys d

  -- behind all changes the last one counts
  pub said-last : (none : F) (xs : List (Change F)) (x : Change F) (d : ℕ) → ((y : Change F) → Listed xs y → y.start ≤ d) → slice_get xs (length xs - 1) ≡ Some x → said_at none xs d ≡ x.sources
  said-last none [] x d under at = absurd (cc)
  said-last none (y ∷ []) x d under at =
      let first : length (y ∷ []) - 1 ≡ 0 = omega arith in
      let here : slice_get (y ∷ []) 0 ≡ Some x = subst (λ k. slice_get (y ∷ []) k ≡ Some x) first at in
      let is : y ≡ x = cc in
      ap (λ b. cond b y.sources none) (reached y d (under y (inl refl))) ∙ ap (λ (z : Change F). z.sources) is
  said-last none (y ∷ z ∷ zs) x d under at =
      let next : length (y ∷ z ∷ zs) - 1 ≡ suc (length (z ∷ zs) - 1) = omega arith in
      said-last (cond (nat_le y.start d) y.sources none) (z ∷ zs) x d (λ a t. under a (inr t)) (subst (λ k. slice_get (y ∷ z ∷ zs) k ≡ Some x) next at)

  pub runs-push : (xs : List (Change F)) (x : Change F) → AreRuns xs → StartBelow x.start xs → ((y : Change F) → slice_get xs (length xs - 1) ≡ Some y → y.sources ≢ x.sources) → AreRuns (xs ++ x ∷ [])
  runs-push [] x runs below other = tt
  runs-push (y ∷ []) x runs below other =
      let first : 0 ≡ length (y ∷ []) - 1 = omega arith in
      (below y (inl refl), other y (subst (λ k. slice_get (y ∷ []) k ≡ Some y) first refl), tt)
  runs-push (y ∷ z ∷ zs) x runs below other =
      let next : suc (length (z ∷ zs) - 1) ≡ length (y ∷ z ∷ zs) - 1 = omega arith in
      (runs.0, runs.1, runs-push (z ∷ zs) x runs.2 (λ a t. below a (inr t)) (λ a at. other a (subst (λ k. slice_get (y ∷ z ∷ zs) k ≡ Some a) next at)))

module _ {V : Type 0} where
  -- a list with the answers of one function has those of one that agrees
  pub runs-same : (w : ℕ) (sources : List (Node (Option V))) (list : List (Change (Sources (Option V)))) (f g : Answers V) → SameAnswers w f g → HasRuns w sources list f → HasRuns w sources list g
  runs-same w sources list f g same p =
      record { runs = p.runs; below = p.below; each = p.each; answers = λ none d s d_in s_in. p.answers none d s d_in s_in ∙ same d s d_in s_in }

  -- the sources stand for a trie with these values
  pub record HasValues (w : ℕ) (values : ℕ → Option V) (nodes : List (Node (Option V))) (s : Sources (Option V)) : Type 0 where
    pub held : HasTrie w nodes s
    pub values_are : (src : ℕ) → src < 2 ^ w → value_at held.trie w src ≡ values src

  -- the list says below the address what the function answers
  abbrev pub Says : ℕ → ℕ → Answers V → List (Node (Option V)) → List (Change (Sources (Option V))) → Type 0
  Says w at f nodes list = (none : Sources (Option V)) (d : ℕ) → d < at → HasValues w (f d) nodes (said_at none list d)

  values-grow : (w : ℕ) (values : ℕ → Option V) (nodes more : List (Node (Option V))) (s : Sources (Option V)) → KeepsNodes nodes more → HasValues w values nodes s → HasValues w values more s
  values-grow w values nodes more s keeps v =
      let h = v.held in
      record { held = record { trie = h.trie; stands = Represents-grows nodes more keeps s h.trie h.stands; fits = h.fits; reduced = h.reduced }; values_are = v.values_are }

  -- one more change says it up to another address
  pub says-more : (w at to : ℕ) (f : Answers V) (nodes more : List (Node (Option V))) (list after : List (Change (Sources (Option V))))
      (s : Sources (Option V)) → KeepsNodes nodes more → IsFilled at to s list after →
      ((d : ℕ) → at ≤ d → d < to → HasValues w (f d) more s) → Says w at f nodes list → Says w to f more after
  says-more w at to f nodes more list after s keeps filled here says none d lt = elim (cases_lt d at) [
    | inl under ↦ subst (HasValues w (f d) more) (sym (filled.kept none d under)) (values-grow w (f d) nodes more (said_at none list d) keeps (says none d under))
    | inr ge ↦ subst (HasValues w (f d) more) (sym (filled.said none d ge lt)) (here d ge lt)
  ]

  -- a list that says it of all addresses has the answers of the function
  pub says-all : (w : ℕ) (f : Answers V) (nodes : List (Node (Option V))) (list : List (Change (Sources (Option V)))) → AreRuns list
      → StartBelow (2 ^ w) list → Says w (2 ^ w) f nodes list → HasRuns w nodes list f
  says-all w f nodes list runs below says =
      record {
        runs = runs;
        below = below;
        each = λ none d d_in. (says none d d_in).held;
        answers = λ none d s d_in s_in. ap (λ t. value_at t w s) (sources_at-stands w nodes (said_at none list d) (says none d d_in).held) ∙ (says none d d_in).values_are s s_in;
      }

  -- ---- the nodes that are kept

  keeps-taken : (kept : ℕ) (old new : List (Node (Option V))) → KeepsNodes (take kept old) new → KeepsNodes (take kept old) (take kept new)
  keeps-taken kept old new keeps i node e =
      slice_get-take new kept i node (omega (arith, slice_get_in (take kept old) i node e, length-take kept old)) (keeps i node e)

  stands-constant : (nodes more : List (Node (Option V))) (v : Option V) (x : Loose (Option V)) (t : Shape (Option V)) → x ≡ Same v → Stands nodes x t → Stands more x t
  stands-constant nodes more v x (leaf u) is p = p
  stands-constant nodes more v x (fork low high) is p = absurd (subst (λ y. HalvesAt nodes y p.0 p.1) is p.2)

  -- a constant has its values over whatever nodes
  values-constant : (w : ℕ) (values : ℕ → Option V) (nodes more : List (Node (Option V))) (v : Option V) → HasValues w values nodes (Constant v) → HasValues w values more (Constant v)
  values-constant w values nodes more v p =
      let h = p.held in
      let r = h.stands in
      record {
        held = record { trie = h.trie; stands = (r.0, r.1, stands-constant nodes more v r.0 h.trie r.1 r.2); fits = h.fits; reduced = h.reduced };
        values_are = p.values_are;
      }

  pub says-grows : (w at : ℕ) (f : Answers V) (nodes more : List (Node (Option V))) (list : List (Change (Sources (Option V))))
      → KeepsNodes nodes more → Says w at f nodes list → Says w at f more list
  says-grows w at f nodes more list keeps says none d lt = values-grow w (f d) nodes more (said_at none list d) keeps (says none d lt)

  -- as many nodes are kept as before where the sources are a constant, or all
  abbrev pub IsKeptWith : ℕ → Sources (Option V) → List (Node (Option V)) → ℕ → Type 0
  IsKeptWith kept s more after = ((v : Option V) × (s ≡ Constant v) × (after ≡ kept)) ⊎ (after ≡ length more)

  pub keeps-kept : (kept after : ℕ) (first old more : List (Node (Option V))) (s : Sources (Option V)) → KeepsNodes first (take kept old) → KeepsNodes (take kept old) more
      → IsKeptWith kept s more after → KeepsNodes first (take after more)
  keeps-kept kept after first old more s before keeps (inl c) i node e =
      subst (λ k. slice_get (take k more) i ≡ Some node) (sym c.2) (keeps-taken kept old more keeps i node (before i node e))
  keeps-kept kept after first old more s before keeps (inr all) i node e =
      subst (λ xs. slice_get xs i ≡ Some node) (sym (ap (λ k. take k more) all ∙ take-length more)) (keeps i node (before i node e))

  -- one more change says it up to another address, by the nodes that are kept
  pub says-kept : (w at to : ℕ) (f : Answers V) (kept later : ℕ) (old more : List (Node (Option V))) (list after : List (Change (Sources (Option V))))
      (s : Sources (Option V)) → KeepsNodes (take kept old) more → IsFilled at to s list after → IsKeptWith kept s more later →
      ((d : ℕ) → at ≤ d → d < to → HasValues w (f d) more s) → Says w at f (take kept old) list → Says w to f (take later more) after
  says-kept w at to f kept later old more list after s keeps filled (inl c) here says =
      subst (λ k. Says w to f (take k more) after) (sym c.2)
      (says-more w at to f (take kept old) (take kept more) list after s (keeps-taken kept old more keeps) filled
      (λ d le lt. subst (HasValues w (f d) (take kept more)) (sym c.1) (values-constant w (f d) more (take kept more) c.0 (subst (HasValues w (f d) more) c.1 (here d le lt)))) says)
  says-kept w at to f kept later old more list after s keeps filled (inr all) here says =
      subst (λ xs. Says w to f xs after) (sym (ap (λ k. take k more) all ∙ take-length more))
      (says-more w at to f (take kept old) more list after s keeps filled here says)
