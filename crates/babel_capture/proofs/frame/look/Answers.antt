-- What is seen of a frame is so, however its length is written.
use Rattle.std.proofs.Common.{◌≡◌, ◌∙◌, inl, inr, arith, ap, length, max, sym}
use Rattle.babel_capture.specs.declared.link.Link.{Link}
use Rattle.babel_capture.specs.declared.place.Place.{Place}
use Rattle.babel_capture.specs.Frame.{cooked2_sight, family_sight, frame_sight}
use Rattle.babel_capture.specs.Place.{place_on}
use Rattle.babel_capture.specs.Sight.{sight_of}
use Rattle.babel_capture.proofs.frame.look.Goals as goal

pub returns-in-Null : goal.returns-in-Null
unfolding frame_sight
returns-in-Null c =
    let octets = c.args.frame.now in
    let all = max c.args.whole_len (length octets) in
    let whole : c.max.result ≡ max c.args.whole_len (length octets) = omega (arith, c.max.ensures) in
    let seen : sight_of c.look_after_family.result ≡ family_sight (place_on c.args.interface) octets all =
    c.look_after_family.ensures ∙ ap (λ (p : Place). family_sight p octets c.max.result) c.on-place.ensures ∙ ap (family_sight (place_on c.args.interface) octets) whole in
    elim c.in-Null.is [
      | inl null ↦ seen ∙ ap (λ (l : Link). frame_sight c.args.interface l octets all) (sym null)
      | inr loop ↦ seen ∙ ap (λ (l : Link). frame_sight c.args.interface l octets all) (sym loop)
    ]

pub returns-in-Cooked2 : goal.returns-in-Cooked2
unfolding frame_sight
returns-in-Cooked2 c =
    let octets = c.args.frame.now in
    let all = max c.args.whole_len (length octets) in
    let whole : c.max.result ≡ max c.args.whole_len (length octets) = omega (arith, c.max.ensures) in
    c.look_into_cooked2.ensures ∙ ap (cooked2_sight c.args.interface octets) whole ∙ ap (λ (l : Link). frame_sight c.args.interface l octets all) (sym c.in-Cooked2.is)
