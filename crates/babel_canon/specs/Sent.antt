-- Dumps and their senders: this project's own.
use Rattle.std.specs.Prelude.{ℕ, List}
use Rattle.babel_prefix.specs.Address.{Address}

-- a dump, and who sent it
pub record Sent : Type 0 where
  pub sender : Address
  pub dump : List ℕ

abbrev pub sent : Address → List ℕ → Sent
sent sender dump = record { sender = sender; dump = dump }
