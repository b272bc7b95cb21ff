use Rattle.babel_dump.specs.Names.{plain}
use Rattle.babel_dump.specs.declared.format.Format.TheVariants as formats
use Rattle.babel_dump.specs.declared.spelling.Spelling.TheVariants as spellings
use Rattle.babel_dump.proofs.FilterLaws.{shows_every}
use Rattle.babel_dump.specs.Given.{input}
use Rattle.babel_dump.proofs.Finishing.{alone_weaker, only_given}
use Rattle.babel_dump.proofs.run.run_show.Goals as goal

pub returns : goal.returns
returns g c =
    let dump = input c.args.limits c.args.mode c.args.sender (g.R.ByteIn.state c.args.reader.now) (g.R.ByteIn.state c.run_task.new.reader) in
    alone_weaker dump _ _ _ _ _ c.run_task.result (only_given dump) (shows_every (formats.Text (plain spellings.Long))) (rw c.every.ensures at c.run_task.ensures)
