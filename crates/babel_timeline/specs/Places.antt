-- Where the entries of subjects stand: this project's own.
use Rattle.std.specs.Prelude.{◌≡◌, ◌↔◌, ℕ, true, false, List, [], map, get_or, slice_get}
use Rattle.std.specs.Prelude.{Some, None}
use Rattle.std.specs.declared.cmp.Ordering.{Ordering}
use Rattle.std.specs.List.Sorted.{IsStrictlySortedBy}
use Rattle.std.specs.BTreeMap.{is_at}
use Rattle.std.specs.Map.{keys_of, lookup}
use Rattle.babel_prefix.specs.declared.family.Family.TheVariants.{V4}
use Rattle.babel_timeline.specs.declared.cells.Cell.{Cell}
use Rattle.babel_timeline.specs.declared.entry.Entry.{Entry}
use Rattle.babel_timeline.specs.declared.subject.Subject.{Subject}
use Rattle.babel_timeline.specs.Rows.{Rows, subject_cmp}

-- ---- rows

abbrev pub Entries : Type 0 → Type 0
Entries S = List (Subject S × Entry)

abbrev pub rows_of : {S : Type 0} → Entries S → Rows S
rows_of entries = map (λ e. (e.0, e.1.row)) entries

-- ---- cells

-- what stands past the last cell, which nothing reads
abbrev no_entry : Entry
no_entry = record {
  row = record {
    ann = record {
      router_id = [];
      seqno = 0;
      metric = 0;
      next_hop = record { family = V4; bits = 0 };
    };
    when = record { time = 0; interval = 0 };
  };
  queued = None;
}

module _ {S : Type 0} where
  abbrev pub entry_at : List (Cell S) → ℕ → Entry
  entry_at cells place = get_or (map (λ c. c.entry) cells) place no_entry

  -- the entries of subjects that stand in these places
  abbrev pub entries_of : List (Cell S) → List (Subject S × ℕ) → Entries S
  entries_of cells places = map (λ e. (e.0, entry_at cells e.1)) places

  -- the cell at this place holds an entry of the subject
  pub record Holds (cells : List (Cell S)) (subject : Subject S) (place : ℕ) : Type 0 where
    pub cell : Cell S
    pub at : slice_get cells place ≡ Some cell
    pub own : cell.subject ≡ subject
    pub held : cell.is_held ≡ true

  -- the cell at this place is free
  pub record IsFree (cells : List (Cell S)) (place : ℕ) : Type 0 where
    pub cell : Cell S
    pub at : slice_get cells place ≡ Some cell
    pub free : cell.is_held ≡ false

  -- what cells hold is the same, beside cells that are free
  pub record HasGrown (old new : List (Cell S)) : Type 0 where
    pub kept : (place : ℕ) (cell : Cell S) → slice_get old place ≡ Some cell
        → slice_get new place ≡ Some cell
    pub free : (place : ℕ) (cell : Cell S) → slice_get new place ≡ Some cell
        → cell.is_held ≡ true → slice_get old place ≡ Some cell

-- each subject's place is that of the cell which holds an entry of it
pub record IsPlaced {S : Type 0} (cmp : S → S → Ordering) (cells : List (Cell S))
    (places : List (Subject S × ℕ)) : Type 0 where
  pub rising : IsStrictlySortedBy (subject_cmp cmp) (keys_of places)
  pub held : (subject : Subject S) (place : ℕ)
      → (lookup (is_at (subject_cmp cmp subject)) places ≡ Some place) ↔ Holds cells subject place
