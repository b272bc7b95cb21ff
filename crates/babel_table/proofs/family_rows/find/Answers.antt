-- The next row is taken where its whole key is the one looked for; a key past those in front is none of them.
use Rattle.std.proofs.Common.{◌≤◌, sym, subst, rules}
use Rattle.std.proofs.lemmas.Fn.{always_returns_same}
use Rattle.std.proofs.lemmas.List.{length-take-le}
use Rattle.std.proofs.lemmas.Map.Entries.{length-keys_of}
use Rattle.babel_tlv.specs.Keys.{key_cmp}
use Rattle.babel_table.proofs.SaidLaws.{above-behind, front-rising, place-searched, searched-behind}
use Rattle.babel_table.proofs.family_rows.find.Goals.{then-not-is_past+in_default, else-not-is_past}
use Rattle.babel_table.proofs.family_rows.find.Goals as goal

pub returns-then-has_key : goal.returns-then-has_key
returns-then-has_key g c = c.has_key.ensures.0 c.if-has_key.true

pub slice_bounds-front-end : goal.slice_bounds-front-end
slice_bounds-front-end g c = sym (length-take-le c.args.rising c.args.rows.now (subst (λ n. c.args.rising ≤ n) (length-keys_of c.args.rows.now) c.requires.inside))

pub is_past-requires : goal.is_past-requires
is_past-requires g c = front-rising c.args.rows.now c.args.rising c.args.places.now c.requires

pub returns-in-Ok : goal.returns-in-Ok
returns-in-Ok g c =
    let position = c.in-Ok.ensures.position (λ row. key_cmp row.0 c.args.key.now) (always_returns_same _ _ _ (λ a r f q. search rules)) in
    place-searched c.args.rows.now c.args.key.now c.in-Ok.place c.args.rising c.requires.inside c.in-Ok.ensures.bound position

pub returns : goal.returns
returns g c =
    let rows = c.args.rows.now in
    let key = c.args.key.now in
    elim c.if-not-is_past.branch [
      | then-not-is_past+in_default w ↦
          let position = w.in_default.ensures.position (λ row. key_cmp row.0 key) (always_returns_same _ _ _ (λ a r f q. search rules)) in
          searched-behind rows key c.args.rising c.args.places.now w.in_default.field-0 _ c.requires position c.find.ensures
      | else-not-is_past w ↦
          above-behind rows key c.args.rising c.args.places.now _ c.requires (c.is_past.ensures.0 w.if-not-is_past.false) c.find.ensures
    ]
