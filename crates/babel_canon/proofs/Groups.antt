-- The body of a packet, a pair at a time.
use Rattle.std.proofs.Common.{◌≡◌, ℕ, List, [], ◌∷◌, ◌++◌, refl, sym, ap, ◌∙◌, append_assoc}
use Rattle.std.proofs.lemmas.List.{append-nil}
use Rattle.babel_tlv.specs.Pair.{Pair}
use Rattle.babel_tlv.specs.Group.{group, groups_behind, body_of}
use Rattle.babel_canon.specs.Writing.{latest_first}

pub latest_first-snoc : (earlier front : List Pair) (pair : Pair) → latest_first earlier (front ++ pair ∷ []) ≡ pair ∷ latest_first earlier front
latest_first-snoc earlier [] pair = refl
latest_first-snoc earlier (first ∷ front) pair = latest_first-snoc (first ∷ earlier) front pair

pub groups-append : (earlier front back : List Pair) → groups_behind earlier (front ++ back) ≡ groups_behind earlier front ++ groups_behind (latest_first earlier front) back
groups-append earlier [] back = refl
groups-append earlier (pair ∷ front) back =
    ap (λ (o : List ℕ). group earlier pair ++ o) (groups-append (pair ∷ earlier) front back)
    ∙ sym (append_assoc (group earlier pair) (groups_behind (pair ∷ earlier) front) (groups_behind (latest_first (pair ∷ earlier) front) back))

-- one more pair
pub body-snoc : (front : List Pair) (pair : Pair) → body_of (front ++ pair ∷ []) ≡ body_of front ++ group (latest_first [] front) pair
body-snoc front pair = groups-append [] front (pair ∷ []) ∙ ap (λ (o : List ℕ). body_of front ++ o) (append-nil (group (latest_first [] front) pair))
