use Rattle.std.proofs.lemmas.Result.{on_err_weaker, on_ok_weaker}
use Rattle.babel_canon.proofs.every_difference.DifferenceListSinkDifferingPackedValue.TheImpl.Goals as goal

pub put-tells : goal.put-tells
put-tells g c = record {
  can = on_ok_weaker c.result (λ told. tt) c.ensures.ok;
  ok = c.ensures.ok;
  err = on_err_weaker c.result (λ told start rows has. tt) c.ensures.err;
}
