use Rattle.babel_dump.specs.Names.{plain}
use Rattle.babel_dump.specs.declared.format.Format.TheVariants as formats
use Rattle.babel_dump.specs.declared.spelling.Spelling.TheVariants as spellings
use Rattle.babel_tlv.specs.Views.{keeps_all}
use Rattle.babel_dump.proofs.FilterLaws.{lists_every}
use Rattle.babel_dump.proofs.Finishing.{alone_weaker}
use Rattle.babel_dump.proofs.run.run_pairs.Goals as goal

pub returns : goal.returns
returns g c =
    alone_weaker _ _ _ _ _ _ c.run_task.result (λ fault cause. cause) (lists_every c.args.limits keeps_all c.args.count (formats.Text (plain spellings.Long)))
    (rw (c.all.ensures, c.every.ensures) at c.run_task.ensures)
