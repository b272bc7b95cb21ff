use Rattle.babel_capture.proofs.NumberLaws.{read_big, read_little}
use Rattle.babel_capture.proofs.order.Order.u16_at.Goals as goal

pub returns-in-Big : goal.returns-in-Big
returns-in-Big c = read_big c.args.self _ c.args.place c.args.octets.now c.read_u16.result c.in-Big.is c.read_u16.ensures

pub returns-in-Little : goal.returns-in-Little
returns-in-Little c = read_little c.args.self _ c.args.place c.args.octets.now c.read_u16-in-Little.result c.in-Little.is c.read_u16-in-Little.ensures
