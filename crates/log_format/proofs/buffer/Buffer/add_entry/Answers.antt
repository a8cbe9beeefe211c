use Rattle.std.proofs.Common.{refl, arith}
use Rattle.log_format.proofs.Sizes.{have_their_sizes}
use Rattle.log_format.proofs.buffer.Buffer.add_entry.Goals as goal

pub returns-then-room-entry_size : goal.returns-then-room-entry_size
returns-then-room-entry_size c =
    let size = have_their_sizes.entry 0 0 0 c.args.entry.now in
    let told = c.entry_size.ensures in
    let room = c.room.ensures in
    let less = c.if-room-entry_size.true in
    (refl, omega (arith, size, told, room, less))

pub returns : goal.returns
returns c =
    let size = have_their_sizes.entry 0 0 0 c.args.entry.now in
    let told = c.entry_size.ensures in
    let room = c.room.ensures in
    let less = c.if-room-entry_size.false in
    (c.put_entry.ensures, omega (arith, size, told, room, less))
