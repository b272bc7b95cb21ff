-- Where the entries of subjects stand, and what they become where one cell changes.
use Rattle.std.proofs.Common.{◌≡◌, ℕ, zero, suc, ◌<◌, ◌⊎◌, inl, inr, Bool, true, false, ◌&&◌, T, cond, Option, Some, None, arith, refl, sym, ap, subst, ◌∙◌}
use Rattle.std.proofs.Common.{List, [], ◌∷◌, ◌++◌, length, map, get_or, set}
use Rattle.std.specs.declared.cmp.Ordering.{Ordering}
use Rattle.std.specs.declared.cmp.Ordering.TheVariants.{Less}
use Rattle.std.specs.declared.result.Result.{Result}
use Rattle.std.specs.declared.result.Result.TheVariants.{Err, Ok}
use Rattle.std.specs.Prelude.{◌↔◌, slice_get, IfNone, IsSome, IsTrue, OnErr}
use Rattle.std.specs.Cmp.{IsEquivalence, IsTotalOrder}
use Rattle.std.specs.Ordering.{eq_by_cmp}
use Rattle.std.specs.Option.{is_some, option_map}
use Rattle.std.specs.BTreeMap.{insert_entry, is_at}
use Rattle.std.specs.FinMap.Entries as finite
use Rattle.std.specs.List.{AllByRecursion}
use Rattle.std.specs.List.Sorted.{IsStrictlySortedBy}
use Rattle.std.specs.Map.{keys_of, lookup, remove_entry, set_value}
use Rattle.std.proofs.lemmas.Bool.{cases_eq}
use Rattle.std.proofs.lemmas.Cmp.{eq_by_cmp_equiv}
use Rattle.std.proofs.lemmas.Map.{keys-set_value, lookup-set_value}
use Rattle.std.proofs.lemmas.Map.Lookups.{CmpEqualImpliesEq}
use Rattle.std.proofs.lemmas.Map.Made.{keys_of-map_values, lookup-map_values}
use Rattle.std.proofs.lemmas.Option.{cond_some, get_or_from_slice_get, none-some, same_Some, slice_get-map, slice_get_read, slice_get_within}
use Rattle.babel_prefix.proofs.Insertion.{lookup-insert, sorted-insert}
use Rattle.babel_table.proofs.Entries.{lookup-remove, sorted-remove}
use Rattle.babel_timeline.specs.declared.cells.Cell.{Cell}
use Rattle.babel_timeline.specs.declared.entry.Entry.{Entry}
use Rattle.babel_timeline.specs.declared.subject.Subject.{Subject}
use Rattle.babel_timeline.specs.Places.{Entries, HasGrown, Holds, IsFree, IsPlaced, entries_of, entry_at}
use Rattle.babel_timeline.specs.Rows.{subject_cmp}
use Rattle.babel_timeline.proofs.Subjects.{same_of, same_or, subject_exact, subject_total}

-- ---- a list with one element more, or with another one

module _ {X : Type 0} (x : X) where
  pub at_end : (xs : List X) → slice_get (xs ++ x ∷ []) (length xs) ≡ Some x
  at_end [] = refl
  at_end (y ∷ ys) = at_end ys

  before_end : (xs : List X) (i : ℕ) (y : X) → slice_get xs i ≡ Some y → slice_get (xs ++ x ∷ []) i ≡ Some y
  before_end [] i y e = absurd (none-some y e)
  before_end (z ∷ zs) zero y e = e
  before_end (z ∷ zs) (suc i) y e = before_end zs i y e

  or_end : (xs : List X) (i : ℕ) (y : X) → slice_get (xs ++ x ∷ []) i ≡ Some y → (slice_get xs i ≡ Some y) ⊎ (x ≡ y)
  or_end [] zero y e = inr (same_Some x y e)
  or_end [] (suc i) y e = absurd (none-some y e)
  or_end (z ∷ zs) zero y e = inl e
  or_end (z ∷ zs) (suc i) y e = or_end zs i y e

  set_same : (xs : List X) (i : ℕ) → i < length xs → slice_get (set xs i x) i ≡ Some x
  set_same [] i within = absurd (omega arith)
  set_same (y ∷ ys) zero within = refl
  set_same (y ∷ ys) (suc i) within = set_same ys i (omega arith)

  set_other : (xs : List X) (i j : ℕ) → (j ≡ i → ⊥) → slice_get (set xs i x) j ≡ slice_get xs j
  set_other [] i j apart = refl
  set_other (y ∷ ys) zero zero apart = absurd (apart refl)
  set_other (y ∷ ys) zero (suc j) apart = refl
  set_other (y ∷ ys) (suc i) zero apart = refl
  set_other (y ∷ ys) (suc i) (suc j) apart = set_other ys i j (λ e. apart (ap suc e))

-- ---- entries in order: equal look-ups give equal entries

both : (a b : Bool) → T a → T b → T (a && b)
both true b s t = t
both false b s t = absurd s

module _ {K X : Type 0} (R : K → K → Ordering) where
  find_lookup : (q : K) (es : List (K × X)) → finite.find R q es ≡ lookup (is_at (R q)) es
  find_lookup q [] = refl
  find_lookup q (e ∷ es) = ap (λ (t : Option X). cond (is_at (R q) e.0) (Some e.1) t) (find_lookup q es)

  test_below : (k : K) (es : List (K × X)) → AllByRecursion (λ y. R k y ≡ Less) (keys_of es) → T (finite.below_all R k es)
  test_below k [] below = tt
  test_below k (e ∷ es) below = rw below.0 (test_below k es below.1)

  test_sorted : (es : List (K × X)) → IsStrictlySortedBy R (keys_of es) → T (finite.is_sorted R es)
  unfolding IsStrictlySortedBy
  test_sorted [] rising = tt
  test_sorted (e ∷ es) rising = both _ _ (test_below e.0 es rising.0) (test_sorted es rising.1)

  same_entries : IsTotalOrder R → CmpEqualImpliesEq R → (es fs : List (K × X)) → IsStrictlySortedBy R (keys_of es) → IsStrictlySortedBy R (keys_of fs)
      → ((q : K) → lookup (is_at (R q)) es ≡ lookup (is_at (R q)) fs) → es ≡ fs
  same_entries total exact es fs s t same = finite.same_entries R total exact es fs (test_sorted es s) (test_sorted fs t) (λ q. find_lookup q es ∙ same q ∙ sym (find_lookup q fs))

-- ---- entries that lack a key

module _ {K X : Type 0} (test : K → Bool) where
  pub none_set : (es : List (K × X)) (w : X) → lookup test es ≡ None → set_value test es w ≡ es
  none_set [] w none = refl
  none_set (e ∷ es) w none = by (test e.0) none (none_set es w)
    where
      by : (b : Bool) → cond b (Some e.1) (lookup test es) ≡ None → (lookup test es ≡ None → set_value test es w ≡ es) → cond b ((e.0, w) ∷ es) (e ∷ set_value test es w) ≡ e ∷ es
      by true n again = absurd (none-some e.1 (sym n))
      by false n again = ap (λ (t : List (K × X)). e ∷ t) (again n)

  pub none_removed : (es : List (K × X)) → lookup test es ≡ None → remove_entry test es ≡ es
  none_removed [] none = refl
  none_removed (e ∷ es) none = by (test e.0) none (none_removed es)
    where
      by : (b : Bool) → cond b (Some e.1) (lookup test es) ≡ None → (lookup test es ≡ None → remove_entry test es ≡ es) → cond b es (e ∷ remove_entry test es) ≡ e ∷ es
      by true n again = absurd (none-some e.1 (sym n))
      by false n again = ap (λ (t : List (K × X)). e ∷ t) (again n)

-- ---- clauses of one variant

pub on_err : {T E P : Type 0} (r : Result T E) → P → OnErr r P
on_err (Ok x) p = tt
on_err (Err e) p = p

pub if_none : {X : Type 0} {P Q : Type 0} (r : Option X) → (P → Q) → IfNone r P → IfNone r Q
if_none None f p = f p
if_none (Some x) f p = tt

-- ---- cells

same_at : (f g : ℕ → Entry) (place : Option ℕ) → ((p : ℕ) → place ≡ Some p → f p ≡ g p) → option_map f place ≡ option_map g place
same_at f g None same = refl
same_at f g (Some p) same = ap Some (same p refl)

module _ {S : Type 0} where
  pub entry_of : (cells : List (Cell S)) (place : ℕ) (cell : Cell S) → slice_get cells place ≡ Some cell → entry_at cells place ≡ cell.entry
  entry_of cells place cell at =
      get_or_from_slice_get (map (λ (c : Cell S). c.entry) cells) place cell.entry _ (slice_get-map (λ (c : Cell S). c.entry) cells place ∙ ap (option_map (λ (c : Cell S). c.entry)) at)

  -- one free cell more
  module _ (old new : List (Cell S)) (cell : Cell S) where
    pub pushed : new ≡ old ++ cell ∷ [] → cell.is_held ≡ false → HasGrown old new
    pushed more free = subst (λ (cells : List (Cell S)). HasGrown old cells) (sym more) (record {
      kept = λ p c at. before_end cell old p c at;
      free = λ p c at held. by p c held (or_end cell old p c at);
    })
      where
        by : (p : ℕ) (c : Cell S) → c.is_held ≡ true → (slice_get old p ≡ Some c) ⊎ (cell ≡ c) → slice_get old p ≡ Some c
        by p c held (inl at) = at
        by p c held (inr e) = absurd cc

    pub pushed_free : (place : ℕ) → new ≡ old ++ cell ∷ [] → place ≡ length old → cell.is_held ≡ false → IsFree new place
    pushed_free place more last free = record { cell = cell; at = rw (more, last) (at_end cell old); free = free }

  pub free_at : (cells : List (Cell S)) (place : ℕ) (cell : Cell S) → slice_get cells place ≡ Some cell → cell ≡ get_or cells place cell
      → (get_or cells place cell).is_held ≡ false → IsFree cells place
  free_at cells place cell at is free = record { cell = cell; at = at; free = ap (λ (c : Cell S). c.is_held) is ∙ free }

  pub holds_at : (cells : List (Cell S)) (subject : Subject S) (place : ℕ) (cell : Cell S) → slice_get cells place ≡ Some cell → cell.is_held ≡ true
      → (result : Bool) → IsTrue result ↔ (cell.subject ≡ subject) → IsTrue result ↔ Holds cells subject place
  holds_at cells subject place cell at held result one = (
    λ t. record { cell = cell; at = at; own = one.0 t; held = held },
    λ h. one.1 (ap (λ (c : Cell S). c.subject) (same_Some cell h.cell (sym at ∙ h.at)) ∙ h.own),
  )

  pub holds_free : (cells : List (Cell S)) (subject : Subject S) (place : ℕ) (cell : Cell S) → slice_get cells place ≡ Some cell → cell.is_held ≡ false
      → IsTrue cell.is_held ↔ Holds cells subject place
  holds_free cells subject place cell at free = (
    λ t. absurd (let e : true ≡ false = sym t ∙ free in cc),
    λ h. absurd (let e : true ≡ false = sym h.held ∙ ap (λ (c : Cell S). c.is_held) (same_Some h.cell cell (sym h.at ∙ at)) ∙ free in cc),
  )

module _ {S : Type 0} {cmp : S → S → Ordering} (total : IsTotalOrder cmp) (exact : CmpEqualImpliesEq cmp) where
  abbrev find : {X : Type 0} → Subject S → List (Subject S × X) → Option X
  find s entries = lookup (is_at (subject_cmp cmp s)) entries

  abbrev IsRising : {X : Type 0} → List (Subject S × X) → Type 0
  IsRising entries = IsStrictlySortedBy (subject_cmp cmp) (keys_of entries)

  -- the cell at a place that is free or the subject's becomes another one of the subject's, which it keeps or not
  pub record Changes (old : List (Cell S)) (places after : List (Subject S × ℕ)) (subject : Subject S) (place : ℕ) (cell : Cell S) (held : Bool) : Type 0 where
    pub own : cell.subject ≡ subject
    pub is_held : cell.is_held ≡ held
    pub within : place < length old
    pub only : (s : Subject S) → Holds old s place → s ≡ subject
    pub one : (p : ℕ) → find subject places ≡ Some p → p ≡ place
    pub rising : IsRising after
    pub looks : (s : Subject S) → find s after ≡ cond (is_at (subject_cmp cmp subject) s) (cond held (Some place) None) (find s places)

  same_looks : (a b : Entries S) → IsRising a → IsRising b → ((s : Subject S) → find s a ≡ find s b) → a ≡ b
  same_looks a b rising up looks = same_entries (subject_cmp cmp) (subject_total cmp total) (subject_exact cmp exact) a b rising up looks

  pub look : (cells : List (Cell S)) (places : List (Subject S × ℕ)) (s : Subject S) → find s (entries_of cells places) ≡ option_map (entry_at cells) (find s places)
  look cells places s = lookup-map_values (entry_at cells) (is_at (subject_cmp cmp s)) places

  pub rising_entries : (cells : List (Cell S)) (places : List (Subject S × ℕ)) → IsRising places → IsRising (entries_of cells places)
  rising_entries cells places rising = subst (IsStrictlySortedBy (subject_cmp cmp)) (sym (keys_of-map_values (entry_at cells) places)) rising

  module _ {cells : List (Cell S)} {places : List (Subject S × ℕ)} (is : IsPlaced cmp cells places) (subject : Subject S) (place : ℕ)
      (found : find subject places ≡ Some place) where
    pub within : place < length cells
    within = let h : Holds cells subject place = (is.held subject place).0 found in slice_get_within cells place h.cell h.at

    pub cell_at : (cell : Cell S) → cell ≡ get_or cells place cell → slice_get cells place ≡ Some cell
    cell_at cell at = slice_get_read cells (length cells) place cell refl within at

  -- what is read of the entries, where they are seen as these
  module _ {cells : List (Cell S)} {places : List (Subject S × ℕ)} (is : IsPlaced cmp cells places) {entries : Entries S} (seen : entries_of cells places ≡ entries) (subject : Subject S) where
    pub absent : find subject places ≡ None → find subject entries ≡ None
    absent none = ap (find subject) (sym seen) ∙ look cells places subject ∙ ap (option_map (entry_at cells)) none

    pub has_none : find subject entries ≡ None → find subject places ≡ None
    has_none none = by (find subject places) (sym (look cells places subject) ∙ ap (find subject) seen ∙ none)
      where
        by : (place : Option ℕ) → option_map (entry_at cells) place ≡ None → place ≡ None
        by None e = refl
        by (Some p) e = absurd (none-some (entry_at cells p) (sym e))

    pub present : (place : ℕ) → find subject places ≡ Some place → (cell : Cell S) → cell ≡ get_or cells place cell → find subject entries ≡ Some cell.entry
    present place found cell at =
        ap (find subject) (sym seen) ∙ look cells places subject ∙ ap (option_map (entry_at cells)) found
        ∙ ap Some (entry_of cells place cell (cell_at is subject place found cell at))

    is_some_same : is_some (find subject places) ≡ is_some (find subject entries)
    is_some_same = by (find subject places) ∙ ap is_some (sym (look cells places subject) ∙ ap (find subject) seen)
      where
        by : (place : Option ℕ) → is_some place ≡ is_some (option_map (entry_at cells) place)
        by None = refl
        by (Some p) = refl

    pub has : IsSome (find subject places) → IsSome (find subject entries)
    has there = sym is_some_same ∙ there

    pub had : IsSome (find subject entries) → IsSome (find subject places)
    had there = is_some_same ∙ there

  module _ {old new : List (Cell S)} {places : List (Subject S × ℕ)} (is : IsPlaced cmp old places) (grown : HasGrown old new) where
    pub grown_placed : IsPlaced cmp new places
    grown_placed = record {
      rising = is.rising;
      held = λ s p. (
        λ e. let h : Holds old s p = (is.held s p).0 e in record { cell = h.cell; at = grown.kept p h.cell h.at; own = h.own; held = h.held },
        λ h. (is.held s p).1 (record { cell = h.cell; at = grown.free p h.cell h.at h.held; own = h.own; held = h.held }),
      );
    }

    pub grown_entries : entries_of new places ≡ entries_of old places
    grown_entries =
        same_looks (entries_of new places) (entries_of old places) (rising_entries new places is.rising) (rising_entries old places is.rising)
        (λ s. look new places s ∙ same_at (entry_at new) (entry_at old) (find s places)
        (λ p e. let h : Holds old s p = (is.held s p).0 e in entry_of new p h.cell (grown.kept p h.cell h.at) ∙ sym (entry_of old p h.cell h.at)) ∙ sym (look old places s))

  module _ (old : List (Cell S)) (places after : List (Subject S × ℕ)) (is : IsPlaced cmp old places) (subject : Subject S) (place : ℕ) (cell : Cell S) (held : Bool)
      (change : Changes old places after subject place cell held) where
    abbrev new : List (Cell S)
    new = set old place cell

    abbrev at_place : slice_get new place ≡ Some cell
    at_place = set_same cell old place change.within

    looks_same : (s : Subject S) → subject ≡ s → find s after ≡ cond held (Some place) None
    looks_same s q = change.looks s ∙ ap (λ b. cond b (cond held (Some place) None) (find s places)) (same_of cmp total subject s q)

    looks_other : (s : Subject S) → is_at (subject_cmp cmp subject) s ≡ false → find s after ≡ find s places
    looks_other s n = change.looks s ∙ ap (λ b. cond b (cond held (Some place) None) (find s places)) n

    not_own : (s : Subject S) → is_at (subject_cmp cmp subject) s ≡ false → s ≡ subject → ⊥
    not_own s n e = let t : is_at (subject_cmp cmp subject) s ≡ true = same_of cmp total subject s (sym e) in absurd cc

    -- what another subject's place holds stays
    stays : (s : Subject S) → is_at (subject_cmp cmp subject) s ≡ false → (p : ℕ) (h : Holds old s p) → slice_get new p ≡ Some h.cell
    stays s n p h = set_other cell old place p (λ k. not_own s n (change.only s (subst (λ (j : ℕ). Holds old s j) k h))) ∙ h.at

    to : (s : Subject S) (p : ℕ) → find s after ≡ Some p → Holds new s p
    to s p e = by (same_or cmp exact subject s)
      where
        by : (subject ≡ s) ⊎ (is_at (subject_cmp cmp subject) s ≡ false) → Holds new s p
        by (inl q) =
            let r = cond_some held place p (sym (looks_same s q) ∙ e) in
            subst (λ (j : ℕ). Holds new s j) r.1 (record { cell = cell; at = at_place; own = change.own ∙ q; held = change.is_held ∙ r.0 })
        by (inr n) = let h : Holds old s p = (is.held s p).0 (sym (looks_other s n) ∙ e) in record { cell = h.cell; at = stays s n p h; own = h.own; held = h.held }

    from : (s : Subject S) (p : ℕ) → Holds new s p → find s after ≡ Some p
    from s p h = by (cases_eq p place) (same_or cmp exact subject s)
      where
        is_cell : p ≡ place → h.cell ≡ cell
        is_cell k = same_Some h.cell cell (sym h.at ∙ ap (slice_get new) k ∙ at_place)

        was : (p ≡ place → ⊥) → find s places ≡ Some p
        was d = (is.held s p).1 (record { cell = h.cell; at = sym (set_other cell old place p d) ∙ h.at; own = h.own; held = h.held })

        by : (p ≡ place) ⊎ (p ≡ place → ⊥) → (subject ≡ s) ⊎ (is_at (subject_cmp cmp subject) s ≡ false) → find s after ≡ Some p
        by (inl k) (inl q) =
            looks_same s q ∙ ap (λ (b : Bool). cond b (Some place) None) (sym change.is_held ∙ ap (λ (c : Cell S). c.is_held) (sym (is_cell k)) ∙ h.held) ∙ ap Some (sym k)
        by (inl k) (inr n) = absurd (not_own s n (sym h.own ∙ ap (λ (c : Cell S). c.subject) (is_cell k) ∙ change.own))
        by (inr d) (inl q) = absurd (d (change.one p (ap (λ (t : Subject S). find t places) q ∙ was d)))
        by (inr d) (inr n) = looks_other s n ∙ was d

    pub changed_placed : IsPlaced cmp new after
    changed_placed = record { rising = change.rising; held = λ s p. (to s p, from s p) }

    pub changed_looks : (s : Subject S) → find s (entries_of new after)
        ≡ cond (is_at (subject_cmp cmp subject) s) (cond held (Some cell.entry) None) (find s (entries_of old places))
    changed_looks s = look new after s ∙ by (same_or cmp exact subject s)
      where
        of_held : (b : Bool) → option_map (entry_at new) (cond b (Some place) None) ≡ cond b (Some cell.entry) None
        of_held true = ap Some (entry_of new place cell at_place)
        of_held false = refl

        by : (subject ≡ s) ⊎ (is_at (subject_cmp cmp subject) s ≡ false) → option_map (entry_at new) (find s after)
            ≡ cond (is_at (subject_cmp cmp subject) s) (cond held (Some cell.entry) None) (find s (entries_of old places))
        by (inl q) = rw (same_of cmp total subject s q) (ap (option_map (entry_at new)) (looks_same s q) ∙ of_held held)
        by (inr n) =
            rw n (ap (option_map (entry_at new)) (looks_other s n) ∙ same_at (entry_at new) (entry_at old) (find s places)
            (λ p e. let h : Holds old s p = (is.held s p).0 e in entry_of new p h.cell (stays s n p h) ∙ sym (entry_of old p h.cell h.at)) ∙ sym (look old places s))

    placed : (entries : Entries S) → IsRising entries → ((s : Subject S) → find s entries
        ≡ cond (is_at (subject_cmp cmp subject) s) (cond held (Some cell.entry) None) (find s (entries_of old places))) → entries_of new after ≡ entries
    placed entries rising looks = same_looks (entries_of new after) entries (rising_entries new after change.rising) rising (λ s. changed_looks s ∙ sym (looks s))

  -- ---- an entry more, another one, and one less

  module _ {old : List (Cell S)} {places : List (Subject S × ℕ)} (is : IsPlaced cmp old places) (subject : Subject S) (place : ℕ) where
    abbrev after_add : List (Subject S × ℕ)
    after_add = insert_entry (subject_cmp cmp) places subject place

    added : IsFree old place → find subject places ≡ None → (entry : Entry)
        → Changes old places after_add subject place (record { subject = subject; entry = entry; is_held = true }) true
    added free none entry = record {
      own = refl;
      is_held = refl;
      within = slice_get_within old place free.cell free.at;
      only = λ s h. absurd (let e : h.cell ≡ free.cell = same_Some h.cell free.cell (sym h.at ∙ free.at) in let a = h.held in let b = free.free in cc);
      one = λ p e. absurd (none-some p (sym none ∙ e));
      rising = sorted-insert (subject_total cmp total) subject place places is.rising;
      looks = λ s. lookup-insert (subject_total cmp total) s subject place places;
    }

    pub added_placed : IsFree old place → find subject places ≡ None → (entry : Entry)
        → IsPlaced cmp (set old place (record { subject = subject; entry = entry; is_held = true })) after_add
    added_placed free none entry = changed_placed old places after_add is subject place _ true (added free none entry)

    pub added_entries : IsFree old place → find subject places ≡ None → (entry : Entry)
        → entries_of (set old place (record { subject = subject; entry = entry; is_held = true })) after_add ≡ insert_entry (subject_cmp cmp) (entries_of old places) subject entry
    added_entries free none entry =
        placed old places after_add is subject place _ true (added free none entry) (insert_entry (subject_cmp cmp) (entries_of old places) subject entry)
        (sorted-insert (subject_total cmp total) subject entry (entries_of old places) (rising_entries old places is.rising))
        (λ s. lookup-insert (subject_total cmp total) s subject entry (entries_of old places))

    module _ (found : find subject places ≡ Some place) (was : Cell S) (read : was ≡ get_or old place was) where
      at : slice_get old place ≡ Some was
      at = cell_at is subject place found was read

      there : Holds old subject place
      there = (is.held subject place).0 found

      is_was : (s : Subject S) (h : Holds old s place) → h.cell ≡ was
      is_was s h = same_Some h.cell was (sym h.at ∙ at)

      owned : was.subject ≡ subject
      owned = ap (λ (c : Cell S). c.subject) (sym (is_was subject there)) ∙ there.own

      kept : was.is_held ≡ true
      kept = ap (λ (c : Cell S). c.is_held) (sym (is_was subject there)) ∙ there.held

      only_own : (s : Subject S) → Holds old s place → s ≡ subject
      only_own s h = sym h.own ∙ ap (λ (c : Cell S). c.subject) (is_was s h) ∙ owned

      replaced : (entry : Entry) → Changes old places places subject place (record was { entry = entry }) true
      replaced entry = record {
        own = owned;
        is_held = kept;
        within = slice_get_within old place was at;
        only = only_own;
        one = λ p e. same_Some p place (sym e ∙ found);
        rising = is.rising;
        looks = λ s. by s (same_or cmp exact subject s);
      }
        where
          by : (s : Subject S) → (subject ≡ s) ⊎ (is_at (subject_cmp cmp subject) s ≡ false)
              → find s places ≡ cond (is_at (subject_cmp cmp subject) s) (Some place) (find s places)
          by s (inl q) = rw (same_of cmp total subject s q) (ap (λ (t : Subject S). find t places) (sym q) ∙ found)
          by s (inr n) = rw n refl

      pub replaced_placed : (entry : Entry) → IsPlaced cmp (set old place (record was { entry = entry })) places
      replaced_placed entry = changed_placed old places places is subject place _ true (replaced entry)

      pub replaced_entries : (entry : Entry) → entries_of (set old place (record was { entry = entry })) places ≡ set_value (is_at (subject_cmp cmp subject)) (entries_of old places) entry
      replaced_entries entry =
          placed old places places is subject place _ true (replaced entry) (set_value (is_at (subject_cmp cmp subject)) (entries_of old places) entry)
          (subst (IsStrictlySortedBy (subject_cmp cmp)) (sym (keys-set_value (is_at (subject_cmp cmp subject)) (entries_of old places) entry)) (rising_entries old places is.rising))
          (λ s. lookup-set_value laws (is_at (subject_cmp cmp subject)) (laws.congr subject) s entry (entries_of old places) some)
        where
          laws : IsEquivalence (eq_by_cmp (subject_cmp cmp))
          laws = eq_by_cmp_equiv (subject_total cmp total)

          some : IsSome (find subject (entries_of old places))
          some = rw (look old places subject ∙ ap (option_map (entry_at old)) found) refl

      abbrev after_take : List (Subject S × ℕ)
      after_take = remove_entry (is_at (subject_cmp cmp subject)) places

      taken : Changes old places after_take subject place (record was { is_held = false }) false
      taken = record {
        own = owned;
        is_held = refl;
        within = slice_get_within old place was at;
        only = only_own;
        one = λ p e. same_Some p place (sym e ∙ found);
        rising = sorted-remove (subject_total cmp total) (is_at (subject_cmp cmp subject)) places is.rising;
        looks = λ s. lookup-remove (subject_total cmp total) s subject places is.rising;
      }

      pub taken_placed : IsPlaced cmp (set old place (record was { is_held = false })) after_take
      taken_placed = changed_placed old places after_take is subject place _ false taken

      pub taken_entries : entries_of (set old place (record was { is_held = false })) after_take ≡ remove_entry (is_at (subject_cmp cmp subject)) (entries_of old places)
      taken_entries =
          placed old places after_take is subject place _ false taken (remove_entry (is_at (subject_cmp cmp subject)) (entries_of old places))
          (sorted-remove (subject_total cmp total) (is_at (subject_cmp cmp subject)) (entries_of old places) (rising_entries old places is.rising))
          (λ s. lookup-remove (subject_total cmp total) s subject (entries_of old places) (rising_entries old places is.rising))
