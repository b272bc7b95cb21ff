-- The headline, by what dumps answer: this project's own.
use Rattle.std.specs.Prelude.{◌≡◌, ◌↔◌, ℕ, Bool, List}
use Rattle.babel_prefix.specs.Address.{Address}
use Rattle.babel_tlv.specs.declared.fault.Fault.{Fault}
use Rattle.babel_tlv.specs.declared.fault.Fault.TheVariants as faults
use Rattle.babel_tlv.specs.declared.mode.Mode.{Mode}
use Rattle.babel_canon.specs.Sent.{Sent, sent}
use Rattle.babel_canon.specs.DumpAnswers.{IsSettled, AnswerAlike}

-- What octets tell that `normalise` made of the dump `one`. `Made` holds of each dump and the
-- octets that it answers for it (*ok*), `Refused` of each dump and the fault in their place
-- (*err*). Those of another dump are the same exactly where both dumps answer alike. Read with any
-- sender, they answer as the dump does, and are made of themselves again, unless memory runs out.
pub record AnswersTell (Made : Sent → List ℕ → Type 0) (Refused : Sent → Fault → Type 0)
    (via_v6 : Bool) (mode : Mode) (one : Sent) (octets : List ℕ) : Type 0 where
  pub settled : IsSettled via_v6 mode one
  pub tells_apart : (other : Sent) (other_octets : List ℕ) → Made other other_octets
      → ((octets ≡ other_octets) ↔ AnswerAlike via_v6 mode one other)
  pub reads_alike : (any : Address) → AnswerAlike via_v6 mode (sent any octets) one
  pub again : (any : Address) → Made (sent any octets) octets
  pub unchanged : (any : Address) (other : List ℕ) → Made (sent any octets) other → other ≡ octets
  pub only_memory : (any : Address) (fault : Fault) → Refused (sent any octets) fault
      → fault ≡ faults.Memory
