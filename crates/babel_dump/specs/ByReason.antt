-- Of what is counted by reason, which comes first: this project's own.
use Rattle.std.specs.Prelude.{◌≡◌, ℕ, ◌≤◌, nat_lt, if◌then◌else◌, List, [], ◌∷◌, Contains}
use Rattle.std.specs.Prelude.{Option, None, Some}
use Rattle.std.specs.List.{AllByRecursion}
use Rattle.std.specs.Option.{option_map}

-- the place of the first for a reason, and that reason, by how many are counted for it and where
-- the first is
abbrev pub first_for : {R : Type 0} → R → Option (ℕ × ℕ) → Option (ℕ × R)
first_for reason counted = option_map (λ count. (count.1, reason)) counted

-- the one at the lower place, if there are two
abbrev pub sooner : {R : Type 0} → Option (ℕ × R) → Option (ℕ × R) → Option (ℕ × R)
sooner None other = other
sooner (Some one) None = Some one
sooner (Some one) (Some other) = if nat_lt other.0 one.0 then Some other else Some one

-- the lowest place for one of these reasons, and that reason, by what is counted for each
abbrev pub first_of : {R : Type 0} → (R → Option (ℕ × ℕ)) → List R → Option (ℕ × R)
first_of counted [] = None
first_of counted (reason ∷ rest) =
    sooner (first_for reason (counted reason)) (first_of counted rest)

-- nothing is counted for these reasons
abbrev pub CountsNone : {R : Type 0} → (R → Option (ℕ × ℕ)) → List R → Type 0
CountsNone counted reasons = AllByRecursion (λ reason. counted reason ≡ None) reasons

-- none of these is counted for a reason
abbrev pub HasNone : {A R : Type 0} → (IsFor : R → A → Type 0) → List A → Type 0
HasNone IsFor all = (one : _) (reason : _) → Contains all one → IsFor reason one → ⊥

-- of these one at the place is counted for the reason, and none at a lower place is for any
pub record IsFirst {A R : Type 0} (place_of : A → ℕ) (IsFor : R → A → Type 0) (all : List A)
    (place : ℕ) (reason : R) : Type 0 where
  pub one : A
  pub listed : Contains all one
  pub at : place_of one ≡ place
  pub is_for : IsFor reason one
  pub first : (other : A) (its : R) → Contains all other → IsFor its other
      → place ≤ place_of other
