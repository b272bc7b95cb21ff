-- The fewer of the zeros and the room.
use Rattle.std.proofs.Common.{arith}
use Rattle.babel_trie.proofs.Zeros.{zeros_fit, room_fits}
use Rattle.babel_trie.proofs.fit.first_bits.Goals as goal

pub returns-then-aligned-room-clause-fit : goal.returns-then-aligned-room-clause-fit
returns-then-aligned-room-clause-fit c =
    let room = c.room_bits-room.ensures in
    zeros_fit c.args.at c.args.last c.room_bits-room.result c.requires (omega arith) room.few room.fits c.if-aligned-room.true

pub returns-else-aligned-room-clause-fit : goal.returns-else-aligned-room-clause-fit
returns-else-aligned-room-clause-fit c =
    let room = c.room_bits-room.ensures in
    room_fits c.args.at c.args.last c.room_bits-room.result c.requires (omega arith) room.fits room.most c.if-aligned-room.false
