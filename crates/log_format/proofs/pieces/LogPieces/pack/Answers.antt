use Rattle.std.proofs.Common.{ap, subst, ◌∙◌}
use Rattle.log_format.specs.Pieces.{IsFull, packed, piece_bytes}
use Rattle.log_format.specs.Given.{parts_at}
use Rattle.log_format.proofs.Packed.{ends_by_full, none_by_full}
use Rattle.log_format.proofs.PartsOf.{parts_short}
use Rattle.log_format.proofs.pieces.LogPieces.pack.Goals as goal

pub returns-then-not-add-clause-piece : goal.returns-then-not-add-clause-piece
returns-then-not-add-clause-piece c =
    let log = c.args.l.now in
    let place = c.args.self.now.place in
    let adds = c.if-not-add.ensures.adds in
    let none = none_by_full (parts_at place log) (parts_short log c.requires.at.range place.next place.hart)
    (subst (λ bytes. IsFull bytes (parts_at place log)) c.requires.empty adds.2) in
    (ap (packed piece_bytes) none, ap (packed piece_bytes) (adds.1 ∙ none))

pub returns-clause-piece : goal.returns-clause-piece
returns-clause-piece c =
    let log = c.args.l.now in
    c.loop.invariant.pieces
    ∙ ends_by_full c.loop.self.buffer c.add-in-loop.new.self.buffer (parts_at c.loop.self.place log) (parts_at c.add-in-loop.new.self.place log)
    c.loop-test.ensures.adds
