use Rattle.std.proofs.Common.{rules, refl, ap, ◌∙◌, SFits}
use Rattle.std.specs.Int.{cast_signed, w64}
use Rattle.std.proofs.lemmas.Int.{to_z-of_z}
use Rattle.babel_capture.proofs.NumberLaws.{read_big, read_little}
use Rattle.babel_capture.proofs.order.Order.i64_at.Goals as goal

pub returns-in-Big : goal.returns-in-Big
returns-in-Big c =
    let fits : SFits w64 c.read_i64.result = search rules in
    to_z-of_z w64 c.read_i64.result fits ∙ c.read_i64.ensures ∙ ap (cast_signed w64) (read_big c.args.self 8 c.args.place c.args.octets.now _ c.in-Big.is refl)

pub returns-in-Little : goal.returns-in-Little
returns-in-Little c =
    let fits : SFits w64 c.read_i64-in-Little.result = search rules in
    to_z-of_z w64 c.read_i64-in-Little.result fits ∙ c.read_i64-in-Little.ensures
    ∙ ap (cast_signed w64) (read_little c.args.self 8 c.args.place c.args.octets.now _ c.in-Little.is refl)
