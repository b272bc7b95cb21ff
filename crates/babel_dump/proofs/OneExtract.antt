-- A sender at a place that is named is at no other.
use Rattle.std.proofs.Common.{◌∙◌, ◌≤◌, length, arith}
use Rattle.babel_capture.proofs.OneOrigin.{named_is_one}
use Rattle.babel_dump.specs.CaptureGiven.{extent_of}
use Rattle.babel_dump.specs.OneOutcome.{NamedIsNotSeveral}

pub named_is_not_several : NamedIsNotSeveral
named_is_not_several reader sender place accepts interfaces named several =
    let given = several.gave.given in
    let few : length several.gathering.senders ≤ 1 =
    named_is_one (extent_of reader.reading) given.octets several.gathering several.cut accepts (record { place = place; sender = sender }) given.is_read (given.wanted ∙ named) in
    omega (arith, few, several.several)
