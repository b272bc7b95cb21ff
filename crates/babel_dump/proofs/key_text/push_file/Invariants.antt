-- What was appended, and the text of the octets that are left, are all of it.
use Rattle.std.proofs.Common.{◌≡◌, ◌++◌, drop}
use Rattle.babel_dump.specs.KeyText.{file_text}
use Rattle.babel_dump.proofs.key_text.push_file.Given as goal

abbrev pub invariant-loop-octet : goal.invariant-loop-octet
invariant-loop-octet l = record {
  text : l.line.items ++ file_text (drop l.octet-index l.file) ≡ l.initial.line.items ++ file_text l.file;
}
