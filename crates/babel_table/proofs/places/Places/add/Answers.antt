-- The place is in the first free slot, or where there is none in the map; what was listed is listed as before.
use Rattle.std.proofs.Common.{◌≡◌, ℕ, ◌+◌, ◌-◌, ◌%◌, ◌<◌, ◌∙◌, List, length, set, sym, ap, subst, arith}
use Rattle.std.specs.BTreeMap.{insert_entry}
use Rattle.babel_tlv.specs.Route.{RouteKey}
use Rattle.babel_tlv.specs.Keys.{key_cmp}
use Rattle.babel_table.specs.Said.{AreTaken, IsFree, IsListed, Places, start_of}
use Rattle.babel_table.proofs.PlaceLaws.{start_is, slot_others, map_listed, map_others}
use Rattle.babel_table.proofs.places.Places.add.Goals.{in-Ok, in-Err}
use Rattle.babel_table.proofs.places.Places.add.Goals as goal

pub returns-in-Some-clause-others : goal.returns-in-Some-clause-others
returns-in-Some-clause-others g c = λ other at apart listed.
    let seed : ℕ = c.self.inside.seed in
    let slots : List (ℕ × ℕ) = c.self.inside.slots.items in
    let overflow : List (RouteKey × ℕ) = c.self.inside.overflow.entries in
    let old : Places = record { seed = seed; slots = slots; overflow = overflow } in
    let key : RouteKey = c.args.key.now in
    let start : ℕ = c.tag-tag.result % (c.len.result - 8) in
    let len : c.len.result ≡ length slots = c.len.ensures ∙ c.self.inside.slots.ok.0 in
    let begins : start_of old key ≡ start = start_is old key c.tag-tag.result c.len.result c.tag-tag.ensures len in
    let room : 8 < length slots = subst (λ (p : Places). 8 < length p.slots) (sym c.self.view_is) c.requires.room in
    let free : IsFree slots start c.in-Some.step = subst (λ s. IsFree s start c.in-Some.step) c.deref.ensures.value c.in-Some.ensures in
    let inside : start + c.in-Some.step < length slots = omega (arith, len, room, free.0) in
    subst (λ t. IsListed (record { seed = seed; slots = set slots (start + c.in-Some.step) (t, c.args.place); overflow = overflow }) other at) (sym c.tag-tag.ensures)
    (slot_others seed slots overflow key c.args.place room c.requires.small c.in-Some.step (start + c.in-Some.step) (ap (λ n. n + c.in-Some.step) (sym begins)) free.0 inside
    (subst (λ n. AreTaken slots n c.in-Some.step) (sym begins) free.1) free.2 other at (subst (λ (p : Places). IsListed p other at) (sym c.self.view_is) listed))

pub returns-clause-listed : goal.returns-clause-listed
returns-clause-listed g c =
    let seed : ℕ = c.self.inside.seed in
    let slots : List (ℕ × ℕ) = c.self.inside.slots.items in
    let overflow : List (RouteKey × ℕ) = c.self.inside.overflow.entries in
    let old : Places = record { seed = seed; slots = slots; overflow = overflow } in
    let key : RouteKey = c.args.key.now in
    let start : ℕ = c.tag-tag.result % (c.len.result - 8) in
    let len : c.len.result ≡ length slots = c.len.ensures ∙ c.self.inside.slots.ok.0 in
    let begins : start_of old key ≡ start = start_is old key c.tag-tag.result c.len.result c.tag-tag.ensures len in
    let room : 8 < length slots = subst (λ (p : Places). 8 < length p.slots) (sym c.self.view_is) c.requires.room in
    let taken : AreTaken slots start 8 = subst (λ s. AreTaken s start 8) c.deref.ensures.value c.in_default.ensures in
    elim c.match-insert.branch [
      | in-Ok w ↦ rw w.result-is
          (map_listed seed slots overflow key c.args.place room c.requires.small c.insert.new.self.entries (subst (λ n. AreTaken slots n 8) (sym begins) taken)
          (w.in-Ok.ensures.entries ∙ ap (λ (k : RouteKey). insert_entry key_cmp overflow k c.args.place) c.copied.ensures))
      | in-Err w ↦ rw w.result-is tt
    ]

pub returns-clause-others : goal.returns-clause-others
returns-clause-others g c = λ other at apart listed.
    let seed : ℕ = c.self.inside.seed in
    let slots : List (ℕ × ℕ) = c.self.inside.slots.items in
    let overflow : List (RouteKey × ℕ) = c.self.inside.overflow.entries in
    let key : RouteKey = c.args.key.now in
    let room : 8 < length slots = subst (λ (p : Places). 8 < length p.slots) (sym c.self.view_is) c.requires.room in
    let was : IsListed (record { seed = seed; slots = slots; overflow = overflow }) other at = subst (λ (p : Places). IsListed p other at) (sym c.self.view_is) listed in
    elim c.match-insert.branch [
      | in-Ok w ↦
          map_others seed slots overflow key c.args.place room c.requires.small c.insert.new.self.entries other at
          (w.in-Ok.ensures.entries ∙ ap (λ (k : RouteKey). insert_entry key_cmp overflow k c.args.place) c.copied.ensures) apart was
      | in-Err w ↦ subst (λ (es : List (RouteKey × ℕ)). IsListed (record { seed = seed; slots = slots; overflow = es }) other at) (sym w.in-Err.ensures.err) was
    ]
