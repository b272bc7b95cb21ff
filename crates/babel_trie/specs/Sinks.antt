-- How far a sink came that stopped: this project's own.
use Rattle.std.specs.Prelude.{◌≡◌, List, ◌++◌}

-- after the earlier rows it was given the first of these, at the last of which it stopped
pub record StopsAmong {A : Type 0} (Stopped : List A → Type 0) (earlier rows : List A) : Type 0
  where
    pub first : List A
    pub rest : List A
    pub whole : rows ≡ first ++ rest
    pub stopped : Stopped (earlier ++ first)

module _ {S A : Type 0} (has : S → S → List A → Type 0) where
  -- whatever a sink was made of, these rows come next
  abbrev pub GoesOn : S → S → List A → Type 0
  GoesOn old new more =
      (start : S) (rows : List A) → has start old rows → has start new (rows ++ more)

  -- whatever it was made of, it stopped among these rows
  abbrev pub StopsIn : (S → S → List A → Type 0) → S → S → List A → Type 0
  StopsIn stopped old new more =
      (start : S) (rows : List A) → has start old rows → StopsAmong (stopped start new) rows more
