use Rattle.babel_dump.specs.Given.{input}
use Rattle.babel_dump.specs.Names.{plain}
use Rattle.babel_dump.specs.declared.format.Format.{Format}
use Rattle.babel_dump.specs.declared.format.Format.TheVariants as formats
use Rattle.babel_dump.specs.declared.spelling.Spelling.TheVariants as spellings
use Rattle.babel_dump.proofs.Finishing.{ran_alone}
use Rattle.babel_dump.proofs.run.run_task.Goals as goal

pub returns : goal.returns
returns g c =
    let format : Format = formats.Text (plain spellings.Long) in
    let reader = input c.args.limits c.args.mode c.args.sender (g.R.ByteIn.state c.args.reader.now) (g.R.ByteIn.state c.find_of_dump-found.new.reader) in
    rw c.status_alone.ensures (ran_alone reader _ _ _ format c.find_of_dump-found.result c.finish.result (rw c.source_of-source.ensures at c.find_of_dump-found.ensures) c.finish.ensures)
