-- The order of speakers is the stated one, and total.
use Rattle.std.proofs.Common.{◌≡◌, rules}
use Rattle.std.specs.Cmp.{IsTotalOrder}
use Rattle.std.proofs.Math.Path.{fun_ext}
use Rattle.std.proofs.lemmas.Cmp.{on_total, then_total}
use Rattle.babel_prefix.proofs.OrderLaws.{address_total}
use Rattle.babel_capture.proofs.TallyLaws.{place_total}
use Rattle.babel_dump.specs.Speakers.{speaker_cmp}
use Rattle.babel_dump.specs.contracts.speaker.SpeakerOrd.TheImpl.{ghosts}
use Rattle.babel_dump.specs.declared.speaker.Speaker.{Speaker}

one_order : (a b : Speaker) → ghosts.cmp a b ≡ speaker_cmp a b
one_order a b = search rules

pub speaker_order : ghosts.cmp ≡ speaker_cmp
speaker_order = fun_ext (λ a. fun_ext (λ b. one_order a b))

pub speaker_total : IsTotalOrder speaker_cmp
speaker_total = then_total (on_total (λ (s : Speaker). s.sender) address_total) (on_total (λ (s : Speaker). s.place) place_total)
