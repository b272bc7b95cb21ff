-- There is room already, or the rows are listed anew.
use Rattle.std.proofs.Common.{◌<◌, length, sym, subst, arith}
use Rattle.std.specs.Map.{keys_of}
use Rattle.babel_table.specs.Said.{AreListed, Places}
use Rattle.babel_table.proofs.places.Places.make_room.Goals as goal

pub returns-then-count-len-clause-listed : goal.returns-then-count-len-clause-listed
returns-then-count-len-clause-listed g c = c.requires.listed

pub returns-then-count-len-clause-room : goal.returns-then-count-len-clause-room
returns-then-count-len-clause-room g c = rw (← c.self.view_is) (omega arith)

pub returns-in_err-self-inside-clause-listed : goal.returns-in_err-self-inside-clause-listed
returns-in_err-self-inside-clause-listed g c = c.requires.listed

pub returns-clause-listed : goal.returns-clause-listed
returns-clause-listed g c =
    subst (λ (p : Places). AreListed (keys_of c.args.rows.now) c.args.first p) (sym c.drop.view_is) c.in_ok-self-inside.ensures.listed

pub returns-clause-room : goal.returns-clause-room
returns-clause-room g c = subst (λ (p : Places). 8 < length p.slots) (sym c.drop.view_is) c.in_ok-self-inside.ensures.room
