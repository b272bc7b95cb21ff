-- Membership in a list, by cases on the list: this project's own.
use Rattle.std.specs.Prelude.{◌≡◌, ◌⊎◌, List, [], ◌∷◌}

-- the list has this member
abbrev pub Listed : {X : Type 0} → List X → X → Type 0
Listed [] x = ⊥
Listed (y ∷ ys) x = (y ≡ x) ⊎ Listed ys x
