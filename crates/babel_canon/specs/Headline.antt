-- What canonical octets tell of the tables of the dumps that they were made from: this project's
-- own.
use Rattle.std.specs.Prelude.{◌≡◌, ◌↔◌, ℕ, List}
use Rattle.babel_prefix.specs.Address.{Address}
use Rattle.babel_tlv.specs.declared.fault.Fault.{Fault}
use Rattle.babel_tlv.specs.declared.fault.Fault.TheVariants as faults
use Rattle.babel_tlv.specs.declared.mode.Mode.{Mode}
use Rattle.babel_tlv.specs.Pair.{Pair}
use Rattle.babel_table.specs.Bounds.{Bounds}
use Rattle.babel_table.specs.Rows.{Routes}
use Rattle.babel_table.specs.TableOf.{IsTableOf}
use Rattle.babel_table.specs.DumpFault.{HasNoFault}
use Rattle.babel_canon.specs.Sent.{Sent, sent}

-- With or without a view; in `normalise`, `Same` is `AnswerTheSame`. `Made one octets` holds of the
-- octets that it answers for the dump `one` (*ok*), and `Refused one fault` of its faults (*err*).

-- each table of the one dump and each of the other answer the same (a dump has one table at most,
-- and a dump of which octets are made has one)
abbrev pub DumpsAnswer : (Same : List Pair → List Pair → Type 0) → Bounds → Mode → Sent → Sent
    → Type 0
DumpsAnswer Same limits mode one other =
    (table other_table : Routes) → IsTableOf limits mode one.sender one.dump table
    → IsTableOf limits mode other.sender other.dump other_table → Same table.rows other_table.rows

-- `octets` (made of `one`, by *ok*) are equal to octets made of any dump `other`, under the same
-- limits, mode and body size, exactly where both dumps answer the same
abbrev pub TellsApart : (Same : List Pair → List Pair → Type 0) → (Made : Sent → List ℕ → Type 0)
    → Bounds → Mode → Sent → List ℕ → Type 0
TellsApart Same Made limits mode one octets =
    (other : Sent) (other_octets : List ℕ) → Made other other_octets
    → ((octets ≡ other_octets) ↔ DumpsAnswer Same limits mode one other)

-- These octets of one dump, read with `any` sender, have no fault and answer as the dump does;
-- what is made of them is themselves, and nothing else; and only running out of memory keeps them
-- from it.
pub record ReadsAgain (Same : List Pair → List Pair → Type 0) (Made : Sent → List ℕ → Type 0)
    (Refused : Sent → Fault → Type 0) (limits : Bounds) (mode : Mode) (one : Sent) (octets : List ℕ)
    (any : Address) : Type 0 where
  pub no_fault : HasNoFault limits mode any octets
  pub answers : DumpsAnswer Same limits mode (sent any octets) one
  pub again : Made (sent any octets) octets
  pub unchanged : (other : List ℕ) → Made (sent any octets) other → other ≡ octets
  pub only_memory : (fault : Fault) → Refused (sent any octets) fault → fault ≡ faults.Memory
