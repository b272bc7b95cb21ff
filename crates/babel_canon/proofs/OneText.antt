-- Pairs have one text.
use Rattle.std.proofs.Common.{arith}
use Rattle.babel_tlv.proofs.TextOnce.{text_one, text_exists}
use Rattle.babel_canon.specs.Packing.{TextIsOne}

pub text_is_one : TextIsOne
text_is_one body pairs size fits =
    let text = text_exists body (omega (arith, size.room)) pairs fits in
    record { text = text.0; is_text = text.1; one = λ other is_other. text_one body pairs other text.0 is_other text.1 }
