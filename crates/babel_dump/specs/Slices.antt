-- How a text is written in slices: from a buffer whose room was taken before. These are this
-- project's own.
use Rattle.std.specs.Prelude.{ℕ, ◌≡◌, ◌+◌, ◌<◌, ◌≤◌, List, ◌++◌, Vec, vec_len}
use Rattle.std.specs.Prelude.{vec_capacity, Result, MatchResult, OnOk, OnErr}
use Rattle.std.specs.Io.KnownBytes.{Appends}
use Rattle.babel_dump.specs.Device.{AppendsPrefix}
use Rattle.babel_dump.specs.Run.{Output}

-- so many octets more fit
abbrev pub HasRoom : {Z : Type 0} → Vec ℕ Z → ℕ → Type 0
HasRoom buffer octets = vec_len buffer + octets ≤ vec_capacity buffer

-- so many octets of the room were taken at most
abbrev pub TookRoom : {Z : Type 0} → (old new : Vec ℕ Z) → ℕ → Type 0
TookRoom old new octets =
    (vec_len new ≤ vec_len old + octets) × (vec_capacity old ≤ vec_capacity new)

-- of a text the writer took all but what is left, and nothing was flushed
pub record Took (writer : Output) (text left : List ℕ) : Type 0 where
  pub front : List ℕ
  pub took : Appends writer.old.taken writer.new.taken front
  pub parts : text ≡ front ++ left
  pub no_failure : writer.new.failures ≡ writer.old.failures
  pub no_flush : writer.new.flushes ≡ writer.old.flushes

-- a write of a text failed, and nothing was flushed
pub record Broke (writer : Output) (text : List ℕ) : Type 0 where
  pub prefix : AppendsPrefix writer.old.taken writer.new.taken text
  pub one_failure : writer.new.failures ≡ writer.old.failures + 1
  pub no_flush : writer.new.flushes ≡ writer.old.flushes

-- what writing a text promises of which this is left where no write fails
abbrev pub WroteFront : {T E : Type 0} → Output → (text left : List ℕ) → Result T E → Type 0
WroteFront writer text left result =
    MatchResult result (λ _. Took writer text left) (λ _. Broke writer text)

-- what writing a text whole promises
pub record WroteText {T E : Type 0} (writer : Output) (text : List ℕ) (result : Result T E) :
    Type 0 where
  pub whole : OnOk result (Appends writer.old.taken writer.new.taken text)
  pub flushed : OnOk result (writer.new.flushes ≡ writer.old.flushes + 1)
  pub no_failure : OnOk result (writer.new.failures ≡ writer.old.failures)
  pub prefix : OnErr result (AppendsPrefix writer.old.taken writer.new.taken text)
  pub cause : OnErr result (writer.old.failures < writer.new.failures)
  pub one_failure : writer.new.failures ≤ writer.old.failures + 1
  pub one_flush : writer.new.flushes ≤ writer.old.flushes + 1
