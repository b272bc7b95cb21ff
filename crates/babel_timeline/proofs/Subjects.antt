-- Subjects under their order, and what rows become where the row of one changes.
use Rattle.std.proofs.Common.{◌≡◌, Bool, true, false, cond, List, ◌⊎◌, inl, inr, Option, Some, None, refl, sym, ap, ◌∙◌}
use Rattle.std.specs.declared.cmp.Ordering.{Ordering}
use Rattle.std.specs.Ordering.{is_eq}
use Rattle.std.specs.Cmp.{IsTotalOrder}
use Rattle.std.specs.BTreeMap.{insert_entry, is_at}
use Rattle.std.specs.List.Sorted.{IsStrictlySortedBy}
use Rattle.std.specs.Map.{keys_of, lookup, remove_entry}
use Rattle.std.proofs.lemmas.Cmp.{on_total, then_total, tied_itself}
use Rattle.std.proofs.lemmas.Map.Lookups.{CmpEqualImpliesEq}
use Rattle.babel_prefix.proofs.Insertion.{equal_of, lookup-insert}
use Rattle.babel_prefix.proofs.OrderLaws.{then_parts}
use Rattle.babel_tlv.specs.Route.{RouteKey}
use Rattle.babel_tlv.specs.Keys.{key_cmp}
use Rattle.babel_tlv.proofs.OrderLaws.{key_exact, key_total}
use Rattle.babel_table.proofs.Entries.{lookup-remove}
use Rattle.babel_timeline.specs.declared.subject.Subject.{Subject}
use Rattle.babel_timeline.specs.Rows.{subject_cmp, subject_of}

module _ {S X : Type 0} (cmp : S → S → Ordering) where
  abbrev pub what_at : List (Subject S × X) → Subject S → Option X
  what_at rows subject = lookup (is_at (subject_cmp cmp subject)) rows

  -- what there is for one subject is another thing, or nothing
  abbrev pub Becomes : List (Subject S × X) → Subject S → Option X → List (Subject S × X) → Type 0
  Becomes rows subject new after = (other : Subject S) → what_at after other ≡ cond (is_at (subject_cmp cmp subject) other) new (what_at rows other)

module _ {S : Type 0} (cmp : S → S → Ordering) (total : IsTotalOrder cmp) where
  pub subject_total : IsTotalOrder (subject_cmp cmp)
  subject_total = then_total (on_total (λ (s : Subject S). s.sender) total) (on_total (λ (s : Subject S). s.key) key_total)

  pub same_self : (subject : Subject S) → is_at (subject_cmp cmp subject) subject ≡ true
  same_self subject = ap is_eq (tied_itself subject_total subject)

  pub same_of : (a b : Subject S) → a ≡ b → is_at (subject_cmp cmp a) b ≡ true
  same_of a b e = ap (λ (s : Subject S). is_at (subject_cmp cmp a) s) (sym e) ∙ same_self a

  pub becomes_inserted : {X : Type 0} (rows : List (Subject S × X)) (subject : Subject S) (row : X) → Becomes cmp rows subject (Some row) (insert_entry (subject_cmp cmp) rows subject row)
  becomes_inserted rows subject row other = lookup-insert subject_total other subject row rows

  pub becomes_removed : {X : Type 0} (rows : List (Subject S × X)) (subject : Subject S) → IsStrictlySortedBy (subject_cmp cmp) (keys_of rows)
      → Becomes cmp rows subject None (remove_entry (is_at (subject_cmp cmp subject)) rows)
  becomes_removed rows subject rising other = lookup-remove subject_total other subject rows rising

module _ {S : Type 0} (cmp : S → S → Ordering) (exact : CmpEqualImpliesEq cmp) where
  pub subject_exact : CmpEqualImpliesEq (subject_cmp cmp)
  subject_exact a b e =
      let parts = then_parts (cmp a.sender b.sender) (key_cmp a.key b.key) e in
      ap (λ (s : S). subject_of s a.key) (exact a.sender b.sender parts.0) ∙ ap (λ (k : RouteKey). subject_of b.sender k) (key_exact a.key b.key parts.1)

  pub same_or : (a b : Subject S) → (a ≡ b) ⊎ (is_at (subject_cmp cmp a) b ≡ false)
  same_or a b = by (is_at (subject_cmp cmp a) b) refl
    where
      by : (same : Bool) → is_at (subject_cmp cmp a) b ≡ same → (a ≡ b) ⊎ (is_at (subject_cmp cmp a) b ≡ false)
      by true e = inl (subject_exact a b (equal_of (subject_cmp cmp a b) e))
      by false e = inr e

  -- the other subject is this one, with the new row, or it has the row that it had
  pub becomes_cases : {X : Type 0} (rows : List (Subject S × X)) (subject : Subject S) (new : Option X) (after : List (Subject S × X)) → Becomes cmp rows subject new after → (other : Subject S)
      → ((subject ≡ other) × (what_at cmp after other ≡ new)) ⊎ ((is_at (subject_cmp cmp subject) other ≡ false) × (what_at cmp after other ≡ what_at cmp rows other))
  becomes_cases rows subject new after becomes other = by (is_at (subject_cmp cmp subject) other) refl
    where
      now : (same : Bool) → is_at (subject_cmp cmp subject) other ≡ same → what_at cmp after other ≡ cond same new (what_at cmp rows other)
      now same e = becomes other ∙ ap (λ (b : Bool). cond b new (what_at cmp rows other)) e

      by : (same : Bool) → is_at (subject_cmp cmp subject) other ≡ same
          → ((subject ≡ other) × (what_at cmp after other ≡ new)) ⊎ ((is_at (subject_cmp cmp subject) other ≡ false) × (what_at cmp after other ≡ what_at cmp rows other))
      by true e = inl (subject_exact subject other (equal_of (subject_cmp cmp subject other) e), now true e)
      by false e = inr (e, now false e)
