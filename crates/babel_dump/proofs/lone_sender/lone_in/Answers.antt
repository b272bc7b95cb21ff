-- The one that announces is told.
use Rattle.std.proofs.Common.{◌≡◌, ◌∷◌, ◌∙◌, [], ap, sym}
use Rattle.babel_capture.specs.Gathering.{name_of}
use Rattle.babel_capture.specs.declared.tallies.Origin.{Origin}
use Rattle.babel_dump.specs.LoneSender.{from_note}
use Rattle.babel_dump.proofs.lone_sender.lone_in.Goals as goal

pub returns-in-Some : goal.returns-in-Some
returns-in-Some c =
    let lone = c.in_ok-sender_at-in-Some.field-0 in
    let at : lone.origin ≡ c.in-Some.origin = c.in_ok-sender_at-in-Some.ensures.origin in record {
      alone = sym c.in_ok-origins.ensures ∙ sym c.deref.ensures.value ∙ c.in-Some.ensures ∙ ap (λ (o : Origin). o ∷ []) (sym at);
      name_is = c.in_ok-sender_at-in-Some.ensures.name ∙ ap (λ (o : Origin). name_of c.args.gathered.now o.place.interface) (sym at);
      note_is = c.in_ok-sender_at-in-Some.ensures.note ∙ ap (λ (o : Origin). from_note c.args.spelling o lone.name.items) (sym at);
    }
