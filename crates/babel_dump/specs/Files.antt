-- What a job reads, and how: this project's own.
use Rattle.std.specs.Prelude.{ℕ, List, codes, Option, None, Some, string_bytes}
use Rattle.babel_dump.specs.declared.job.DumpFile.{DumpFile}
use Rattle.babel_dump.specs.declared.job.DumpFile.TheVariants as files
use Rattle.babel_dump.specs.declared.job.Job.{Job}
use Rattle.babel_dump.specs.declared.job.Work.{Work}
use Rattle.babel_dump.specs.declared.job.Work.TheVariants as works
use Rattle.babel_dump.specs.declared.reading.Reading.{Reading}
use Rattle.babel_dump.specs.declared.run_fault.Side.{Side}
use Rattle.babel_dump.specs.declared.run_fault.Side.TheVariants as sides

-- the name of a file; `-` of standard input
abbrev pub name_of : DumpFile → List ℕ
name_of files.StandardInput = codes "-"
name_of (files.Named name) = string_bytes name

-- where the input is read from, or the first of two
abbrev pub file_of : Work → DumpFile
file_of (works.Dump source task) = source.file
file_of (works.Each source pairs with_prefix) = source.file
file_of (works.Two first other view task) = first.file
file_of (works.Capture reading file task) = file

abbrev pub first_file : Job → DumpFile
first_file job = file_of job.work

-- where the other dump of a comparison is read from, or the pairs of `--each`
abbrev pub other_file_of : Work → Option DumpFile
other_file_of (works.Each source pairs with_prefix) = Some pairs
other_file_of (works.Two first other view task) = Some other.file
other_file_of work = None

abbrev pub other_file : Job → Option DumpFile
other_file job = other_file_of job.work

-- how the dump on a side is read, where one is read there
abbrev pub reading_of : Side → Work → Option Reading
reading_of sides.First (works.Dump source task) = Some source.reading
reading_of sides.First (works.Each source pairs with_prefix) = Some source.reading
reading_of sides.First (works.Two first other view task) = Some first.reading
reading_of sides.Other (works.Two first other view task) = Some other.reading
reading_of side work = None
