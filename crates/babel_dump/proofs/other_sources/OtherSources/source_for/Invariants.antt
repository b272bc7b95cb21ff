-- A route of the sender is among those that are left, if there is one.
use Rattle.babel_dump.proofs.OthersHeld.{HasOne}
use Rattle.babel_dump.proofs.other_sources.OtherSources.source_for.Given as goal

abbrev pub invariant-loop-subject : goal.invariant-loop-subject
invariant-loop-subject l = record {
  all : HasOne l.sender l.self.held.keys → HasOne l.sender l.subject-iterator;
  among : HasOne l.sender l.subject-iterator → HasOne l.sender l.self.held.keys;
}
