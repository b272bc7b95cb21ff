-- What was appended, and what the numbers that are left give, are all of it.
use Rattle.std.proofs.Common.{◌≡◌, ◌+◌, ◌*◌, ◌≤◌, ◌++◌, drop, length, vec_len, vec_capacity}
use denote.Shadow.{shadow}
use denote.Text.{Utf8}
use Rattle.babel_dump.specs.CaptureText.{marked}
use Rattle.babel_dump.specs.TextParts.{nonzero}
use Rattle.babel_dump.proofs.push.push_marked.Given as goal

abbrev pub invariant-loop-number : goal.invariant-loop-number
invariant-loop-number l = record {
  text : l.buffer.items ++ marked l.mark l.later (nonzero (drop l.number-index l.numbers))
      ≡ l.initial.buffer.items ++ marked l.first l.later (nonzero l.numbers);
  short : length l.mark ≤ 6;
  took : vec_len l.buffer ≤ vec_len l.initial.buffer + 11 * l.number-index;
  room : vec_capacity l.initial.buffer ≤ vec_capacity l.buffer;
  is_text : shadow (Utf8 l.mark);
}
