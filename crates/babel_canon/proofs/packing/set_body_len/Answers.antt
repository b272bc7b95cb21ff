use Rattle.std.proofs.Common.{◌≡◌, length, rules}
use Rattle.babel_canon.proofs.Packets.{length_written, length_kept}
use Rattle.babel_canon.proofs.packing.set_body_len.Goals as goal

pub returns-clause-says : goal.returns-clause-says
returns-clause-says c = λ front body before here is.
    let whole : c.deref_mut.result.now ≡ c.args.text.now.items = search rules in
    let long : c.args.text.now.len ≡ length c.args.text.now.items = search rules in
    length_written c.args.at c.args.len c.args.text.now.len before front body c.args.text.now.items c.deref_mut.result.now c.write_u16.new.buf here is whole long c.write_u16.ensures

pub returns-clause-len : goal.returns-clause-len
returns-clause-len c =
    let whole : c.deref_mut.result.now ≡ c.args.text.now.items = search rules in
    let long : c.args.text.now.len ≡ length c.args.text.now.items = search rules in
    length_kept c.args.at c.args.len c.args.text.now.len c.args.text.now.items c.deref_mut.result.now c.write_u16.new.buf c.requires whole long c.write_u16.ensures
