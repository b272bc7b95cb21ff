-- What is answered for two addresses, as rows change.
use Rattle.std.proofs.Common.{◌≡◌, ◌≢◌, ℕ, Bool, true, false, cond, inl, inr, List, [], ◌∷◌, ◌++◌, Option, Some, None}
use Rattle.std.proofs.Common.{refl, sym, ap, subst, ◌∙◌}
use Rattle.std.specs.Prelude.{IfNone, IfSome, IsSome}
use Rattle.std.specs.List.{AllByRecursion}
use Rattle.std.specs.declared.cmp.Ordering.{Ordering}
use Rattle.std.specs.declared.cmp.Ordering.TheVariants.{Less, Equal, Greater}
use Rattle.std.specs.Ordering.{is_gt, ordering_reverse}
use Rattle.std.specs.Cmp.{IsTotalOrder}
use Rattle.std.specs.BTreeMap.{is_at}
use Rattle.std.proofs.lemmas.List.Concat.{flat_map-append}
use Rattle.std.proofs.lemmas.List.{append-nil}
use Rattle.std.proofs.lemmas.List.Sums.{fold-append}
use Rattle.std.proofs.lemmas.Map.Lookups.{CmpEqualImpliesEq}
use Rattle.babel_prefix.specs.Address.{Address}
use Rattle.babel_tlv.specs.Keys.{key_cmp}
use Rattle.babel_tlv.specs.Route.{Announcement, RouteKey}
use Rattle.babel_tlv.proofs.OrderLaws.{key_exact, key_total}
use Rattle.babel_timeline.specs.declared.best_match.BestMatch.{BestMatch}
use Rattle.babel_timeline.specs.declared.change.Change.{Change}
use Rattle.babel_timeline.specs.declared.row.Row.{Row}
use Rattle.babel_timeline.specs.declared.telling.Telling.{Telling}
use Rattle.babel_timeline.specs.declared.telling.Telling.TheVariants as tellings
use Rattle.babel_timeline.specs.Rows.{Rows, row_at, subject_of}
use Rattle.babel_timeline.specs.Taking.{OthersStay, TellsAnswer, changes_told}
use Rattle.babel_timeline.specs.Telling.{AnswersAnew, AreAnswers, AreMadeBy, AskedFor, IsAnswer, IsChangeOf, IsOfOne, IsTold, KeepsRows, Making, Stand, answer_after, answered, answers_in, changes_in}
use Rattle.babel_timeline.proofs.MakingLaws.{no_rows}
use Rattle.babel_timeline.proofs.WordLaws.{all_more, sender_or, sender_same, snoc_split}

le_both : (a b : Ordering) → a ≡ ordering_reverse b → is_gt a ≡ false → is_gt b ≡ false → a ≡ Equal
le_both a Less turned le ge = absurd (let greater : is_gt a ≡ true = ap is_gt turned in cc)
le_both a Equal turned le ge = turned
le_both a Greater turned le ge = absurd cc

abbrev match_of : RouteKey → Announcement → BestMatch
match_of key ann = record { key = key; ann = ann }

module _ {S : Type 0} (cmp : S → S → Ordering) (total : IsTotalOrder cmp) (exact : CmpEqualImpliesEq cmp) (pair : Address × Address) where
  -- a sender has one answer
  answer_one : (rows : Rows S) (sender : S) (a b : Option BestMatch) → IsAnswer cmp pair rows sender a → IsAnswer cmp pair rows sender b → a ≡ b
  answer_one rows sender None None a b = refl
  answer_one rows sender None (Some best) a b = absurd (let bad : None ≡ Some b.0 = sym (a best.key b.1.near) ∙ b.1.held in cc)
  answer_one rows sender (Some best) None a b = absurd (let bad : None ≡ Some a.0 = sym (b best.key a.1.near) ∙ a.1.held in cc)
  answer_one rows sender (Some x) (Some y) a b =
      let le = b.1.last x.key a.1.near (some (row_at cmp rows (subject_of sender x.key)) a.0 a.1.held) in
      let ge = a.1.last y.key b.1.near (some (row_at cmp rows (subject_of sender y.key)) b.0 b.1.held) in
      let same : x.key ≡ y.key = key_exact x.key y.key (le_both (key_cmp x.key y.key) (key_cmp y.key x.key) (key_total.antisymm x.key y.key) le ge) in
      let rows_same : Some a.0 ≡ Some b.0 = sym a.1.held ∙ ap (λ (k : RouteKey). row_at cmp rows (subject_of sender k)) same ∙ b.1.held in
      let row_same : a.0 ≡ b.0 = cc in
      let anns : x.ann ≡ y.ann = sym a.2 ∙ ap (λ (r : Row). r.ann) row_same ∙ b.2 in
      ap (λ (k : RouteKey). Some (match_of k x.ann)) same ∙ ap (λ (n : Announcement). Some (match_of y.key n)) anns
    where
      some : (row : Option Row) (is : Row) → row ≡ Some is → IsSome row
      some None is e = absurd cc
      some (Some row) is e = refl

  -- ---- what makes answers

  no_front : (front back : List (Making S)) → [] ≡ front ++ back → [] ≡ front
  no_front [] back split = refl
  no_front (first ∷ front) back split = absurd (let bad : [] ≡ first ∷ (front ++ back) = split in cc)

  no_one : (front back : List (Telling S)) (one : Telling S) → [] ≡ front ++ one ∷ back → ⊥
  no_one [] back one split = let bad : [] ≡ one ∷ back = split in cc
  no_one (first ∷ front) back one split = let bad : [] ≡ first ∷ (front ++ one ∷ back) = split in cc

  none_stand : Stand cmp pair [] [] []
  none_stand = record { are_rows = no_rows cmp; last = λ sender key near. refl }

  -- nothing changed, and nothing was answered
  pub no_answers : AreAnswers cmp pair [] [] []
  no_answers = record {
    stand = none_stand;
    anew = λ before after one split. absurd (no_one before after one split);
    made = record {
      makings = [];
      changes_are = refl;
      told_are = refl;
      own = tt;
      each = λ front back split. subst (λ (f : List (Making S)). (rows : Rows S) × Stand cmp pair (changes_in f) (answers_in f) rows) (no_front front back split) ([], none_stand);
    };
  }

  made_more : (earlier changes : List (Change S)) (told answers : List (Telling S)) (after : Rows S) → IsOfOne (changes, answers) → Stand cmp pair (earlier ++ changes) (told ++ answers) after
      → AreMadeBy cmp pair earlier told → AreMadeBy cmp pair (earlier ++ changes) (told ++ answers)
  made_more earlier changes told answers after of stand made = record {
    makings = made.makings ++ here ∷ [];
    changes_are = changes_are;
    told_are = told_are;
    own = all_more IsOfOne made.makings here made.own of;
    each = each;
  }
    where
      here : Making S
      here = (changes, answers)

      changes_are : earlier ++ changes ≡ changes_in (made.makings ++ here ∷ [])
      changes_are =
          ap (λ (c : List (Change S)). c ++ changes) made.changes_are ∙ ap (λ (c : List (Change S)). changes_in made.makings ++ c) (sym (append-nil changes))
          ∙ sym (flat_map-append (λ (m : Making S). m.0) made.makings (here ∷ []))

      told_are : told ++ answers ≡ answers_in (made.makings ++ here ∷ [])
      told_are =
          ap (λ (t : List (Telling S)). t ++ answers) made.told_are ∙ ap (λ (t : List (Telling S)). answers_in made.makings ++ t) (sym (append-nil answers))
          ∙ sym (flat_map-append (λ (m : Making S). m.1) made.makings (here ∷ []))

      Stands : List (Making S) → Type 0
      Stands front = (rows : Rows S) × Stand cmp pair (changes_in front) (answers_in front) rows

      whole : Stands (made.makings ++ here ∷ [])
      whole = (
        after,
        subst (λ (c : List (Change S)). Stand cmp pair c (answers_in (made.makings ++ here ∷ [])) after) changes_are
            (subst (λ (t : List (Telling S)). Stand cmp pair (earlier ++ changes) t after) told_are stand),
      )

      each : (front back : List (Making S)) → made.makings ++ here ∷ [] ≡ front ++ back → Stands front
      each front [] split = subst Stands (split ∙ append-nil front) whole
      each front (next ∷ back) split = elim (snoc_split made.makings here front next back split) [
        | inl at ↦ subst Stands (sym at.0) (made.each made.makings [] (sym (append-nil made.makings)))
        | inr inner ↦ made.each front (next ∷ inner.rest) inner.whole
      ]

  module _ (rows after : Rows S) (sender : S) (others : OthersStay cmp sender rows after) where
    -- the answers of other senders stay
    answer_stays : (other : S) (a : Option BestMatch) → other ≢ sender → IsAnswer cmp pair rows other a → IsAnswer cmp pair after other a
    answer_stays other None apart none = λ key le. others (subject_of other key) apart ∙ none key le
    answer_stays other (Some best) apart some = (
      some.0,
      record {
        near = some.1.near;
        held = others (subject_of other best.key) apart ∙ some.1.held;
        last = λ key le there. some.1.last key le (subst (λ (r : Option Row). IsSome r) (others (subject_of other key) apart) there);
      },
      some.2,
    )

    -- the answer that was told last is that before
    module _ (time : ℕ) (earlier changes : List (Change S)) (becomes : KeepsRows cmp rows changes after) (own : AllByRecursion (IsChangeOf time sender) changes) (before answer : Option BestMatch)
        (was : IsAnswer cmp pair rows sender before) (is : IsAnswer cmp pair after sender answer) (told : List (Telling S)) (are : AreAnswers cmp pair earlier told rows) where
      told_last : answered cmp told sender ≡ before
      told_last = answer_one rows sender (answered cmp told sender) before (are.stand.last sender) was

      by_sender : (other : S) → (other ≢ sender → IsAnswer cmp pair after other (answered cmp told other))
      by_sender other apart = answer_stays other (answered cmp told other) apart (are.stand.last other)

      last_stays : answer ≡ before → (other : S) → IsAnswer cmp pair after other (answered cmp told other)
      last_stays same other = elim (sender_or cmp total exact other sender) [
        | inl at ↦
            let here : answer ≡ answered cmp told other = same ∙ sym told_last ∙ ap (answered cmp told) (sym at) in
            subst (λ (a : Option BestMatch). IsAnswer cmp pair after other a) here (subst (λ (s : S). IsAnswer cmp pair after s answer) (sym at) is)
        | inr miss ↦ by_sender other (λ at. let hit : is_at (cmp other) sender ≡ true = sender_same cmp total other sender at in cc)
      ]

      pub answers_stay : answer ≡ before → AreAnswers cmp pair (earlier ++ changes) (told ++ []) after
      answers_stay same =
          let stand : Stand cmp pair (earlier ++ changes) (told ++ []) after = record {
            are_rows = becomes earlier are.stand.are_rows;
            last = λ other. subst (λ (t : List (Telling S)). IsAnswer cmp pair after other (answered cmp t other)) (sym (append-nil told)) (last_stays same other);
          } in
          record {
            stand = stand;
            anew = subst (λ (t : List (Telling S)). (front back : List (Telling S)) (one : Telling S) → t ≡ front ++ one ∷ back → AnswersAnew cmp front one) (sym (append-nil told)) are.anew;
            made = made_more earlier changes told [] after (record { time = time; sender = sender; changes = own; answers = tt }) stand are.made;
          }

      more : (other : S) (at : Bool) → is_at (cmp other) sender ≡ at → answered cmp (told ++ tellings.Answer time sender answer before ∷ []) other ≡ cond at answer (answered cmp told other)
      more other at e =
          fold-append (answer_after cmp other) None told (tellings.Answer time sender answer before ∷ []) ∙ ap (λ (b : Bool). cond b answer (answered cmp told other)) e

      pub answers_anew : answer ≢ before → AreAnswers cmp pair (earlier ++ changes) (told ++ tellings.Answer time sender answer before ∷ []) after
      answers_anew differs =
          let stand : Stand cmp pair (earlier ++ changes) (told ++ tellings.Answer time sender answer before ∷ []) after = record {
            are_rows = becomes earlier are.stand.are_rows;
            last = λ other. elim (sender_or cmp total exact other sender) [
              | inl at ↦
                  subst (λ (a : Option BestMatch). IsAnswer cmp pair after other a) (sym (more other true (sender_same cmp total other sender at)))
                  (subst (λ (s : S). IsAnswer cmp pair after s answer) (sym at) is)
              | inr miss ↦
                  subst (λ (a : Option BestMatch). IsAnswer cmp pair after other a) (sym (more other false miss))
                  (by_sender other (λ at. let hit : is_at (cmp other) sender ≡ true = sender_same cmp total other sender at in cc))
            ];
          } in
          record {
            stand = stand;
            anew = λ front back one split. elim (snoc_split told (tellings.Answer time sender answer before) front one back split) [
              | inl at ↦
                  subst (λ (o : Telling S). AnswersAnew cmp front o) (sym at.1)
                  (ap (λ (f : List (Telling S)). answered cmp f sender) at.0 ∙ told_last, λ bad. differs (sym bad))
              | inr inner ↦ are.anew front inner.rest one inner.whole
            ];
            made = made_more earlier changes told (tellings.Answer time sender answer before ∷ []) after
                (record { time = time; sender = sender; changes = own; answers = ((answer, before, refl), tt) }) stand are.made;
          }

module _ {S : Type 0} (cmp : S → S → Ordering) (total : IsTotalOrder cmp) (exact : CmpEqualImpliesEq cmp) where
  -- after one sender's rows change, its answer is told if it is another one
  pub told_anew : (asked : AskedFor) (changes : List (Change S)) (rows after : Rows S) (time : ℕ) (sender : S) (before : Option BestMatch) (old mid new : List (Telling S))
      → IfNone asked (before ≡ None) → IfSome asked (λ pair. IsAnswer cmp pair rows sender before) → mid ≡ old ++ changes_told asked changes → OthersStay cmp sender rows after
      → KeepsRows cmp rows changes after → AllByRecursion (IsChangeOf time sender) changes
      → TellsAnswer cmp asked after time sender before mid new → IsTold cmp asked changes rows after old new
  told_anew None changes rows after time sender before old mid new none was is others becomes own tells = tells none ∙ is
  told_anew (Some pair) changes rows after time sender before old mid new none was is others becomes own tells = elim tells.2 [
    | inl same ↦ (
      [],
      same.1 ∙ is,
      λ earlier told are. answers_stay cmp total exact pair rows after sender others time earlier changes becomes own before tells.0 was tells.1 told are same.0,
    )
    | inr other ↦ (
      tellings.Answer time sender tells.0 before ∷ [],
      other.1 ∙ ap (λ (t : List (Telling S)). t ++ tellings.Answer time sender tells.0 before ∷ []) (is ∙ append-nil old),
      λ earlier told are. answers_anew cmp total exact pair rows after sender others time earlier changes becomes own before tells.0 was tells.1 told are other.0,
    )
  ]
