-- What `lookup --each` promises: the pairs are read first, and then each is looked up in the dump.
-- No RFC speaks of it: this is the project's own.
use Rattle.std.specs.Prelude.{ℕ, Bool, ◌≡◌, ◌<◌, ◌≤◌, ◌⊎◌, List, length}
use Rattle.babel_table.specs.Rows.{Routes}
use Rattle.babel_dump.specs.AskedPairs.{AskFor, IsFirstWrong, lines_of}
use Rattle.babel_dump.specs.Command.{IsOfMemory, SaysOf, Tells}
use Rattle.babel_dump.specs.Device.{Gave}
use Rattle.babel_dump.specs.Given.{GaveAll, Input, IsFaultOfGiven}
use Rattle.babel_dump.specs.InFormat.{each_in}
use Rattle.babel_dump.specs.Run.{InputCause, OfFirst}
use Rattle.babel_dump.specs.RunText.{each_status}
use Rattle.babel_dump.specs.declared.addr_pair.AddrPair.{AddrPair}
use Rattle.babel_dump.specs.declared.format.Format.{Format}
use Rattle.babel_dump.specs.declared.outcome.Outcome.{Outcome}
use Rattle.babel_dump.specs.declared.pairs_fault.PairsFault.TheVariants as pairs_faults
use Rattle.babel_dump.specs.declared.run_fault.RunFault.{RunFault}
use Rattle.babel_dump.specs.declared.run_fault.RunFault.TheVariants as run_faults

-- the reader gave a text, all that it had, of no more octets than a dump may have
pub record GaveText (reader : Input) (text : List ℕ) : Type 0 where
  pub gave : GaveAll reader text
  pub in_limit : length text ≤ reader.reading.limits.bytes

-- the reader gave more octets than a dump may have
pub record GaveTooMany (reader : Input) : Type 0 where
  pub octets : List ℕ
  pub gave : Gave reader.old reader.new octets
  pub over : reader.reading.limits.bytes < length octets

-- the lines of the text that the reader gave ask for these pairs
pub record GavePairsOf (reader : Input) (pairs : List AddrPair) : Type 0 where
  pub text : List ℕ
  pub gave : GaveText reader text
  pub asked : AskFor (lines_of text) pairs

-- one of the lines that the reader gave is the first that is wrong
pub record GaveWrong (reader : Input) (line : ℕ) : Type 0 where
  pub text : List ℕ
  pub gave : GaveText reader text
  pub wrong : IsFirstWrong (lines_of text) line

-- why the text was not read, by what the reader gave; out of memory has no cause that a contract
-- can see
abbrev pub RefusesText : Input → RunFault → Type 0
RefusesText reader (run_faults.Pairs pairs_faults.TooLong) = GaveTooMany reader
RefusesText reader (run_faults.Pairs pairs_faults.Read) = reader.old.failures < reader.new.failures
RefusesText reader (run_faults.Pairs fault) = ⊥
RefusesText reader fault = IsOfMemory fault

-- why there are no pairs: a line of the text is wrong, or the text was not read
abbrev pub RefusesPairs : Input → RunFault → Type 0
RefusesPairs reader (run_faults.Pairs (pairs_faults.NotAPair line)) = GaveWrong reader line
RefusesPairs reader fault = RefusesText reader fault

-- what a table answers for each of these pairs
abbrev pub LooksUpEach :
    Format → (with_prefix : Bool) → List AddrPair → Routes → List ℕ → Outcome → Type 0
LooksUpEach format with_prefix pairs table =
    Tells table.report (each_in format with_prefix table pairs) (each_status table pairs)

-- what a dump answers for each of the pairs that the reader of pairs gave
pub record LooksUpAsked (reader pairs : Input) (format : Format) (with_prefix : Bool)
    (text : List ℕ) (outcome : Outcome) : Type 0 where
  pub asked : List AddrPair
  pub gave : GavePairsOf pairs asked
  pub answers : SaysOf reader (LooksUpEach format with_prefix asked) text outcome

-- A fault of a lookup of each of the pairs: that of the pairs, and then the dump's reader is as it
-- was; or, where these have none, that of the dump.
abbrev pub EachCause : Input → Input → RunFault → Type 0
EachCause reader pairs fault =
    (RefusesPairs pairs fault × (reader.new ≡ reader.old))
    ⊎ (((asked : List AddrPair) × GavePairsOf pairs asked)
    × (pairs.new.failures ≡ pairs.old.failures)
    × OfFirst (InputCause reader (IsFaultOfGiven reader)) fault)
