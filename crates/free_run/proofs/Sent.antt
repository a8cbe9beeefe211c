-- What may go to another thread.
use denote.RattleType.{RattleType}
use denote.Param.Send.{IsSend, recorded_send, struct_send, sendable}
use denote.Struct.Declared.{shape}
use denote.Struct.Tuple.{TupleAt, type_at}
use mir.Syntax.{Sym}
use Rattle.std.proofs.Common.{[], ◌∷◌}
use Rattle.std.proofs.Crossing.{crosses}
use Rattle.outside.specs.declared.console.Console as console
use Rattle.outside.specs.declared.clock.Clock as clock
use Rattle.log_entry.proofs.waits.Waits.TheSendSync as waits
use Rattle.crew_core.proofs.crew.Crew.TheSendSync as crew
use Rattle.crew_core.specs.contracts.row_list.Rows as Rows
use Rattle.crew_core.specs.contracts.row_list.Rows.TheInside as list
use Rattle.crew_core.specs.contracts.board.Board as Board
use Rattle.crew_core.specs.contracts.board.Board.TheInside as parts
use Rattle.free_run.specs.contracts.board.RecordBoard as RecordBoard
use Rattle.free_run.specs.contracts.board.RecordBoard.TheInside as inside

-- two values side by side, and the captures of a closure, under any name
module _ (name : Sym) (A B : RattleType) (a : IsSend A) (b : IsSend B) where
  pub pair_send : IsSend (TupleAt name (A ∷ B ∷ []))
  pair_send = let T = type_at name (A ∷ B ∷ []) in recorded_send _ _ _ T.to_one (struct_send (shape T) (a, (b, tt)))

  pub captures_send : (C D E F : RattleType) → IsSend C → IsSend D → IsSend E → IsSend F → IsSend (TupleAt name (A ∷ B ∷ C ∷ D ∷ E ∷ F ∷ []))
  captures_send C D E F c d e f =
      let T = type_at name (A ∷ B ∷ C ∷ D ∷ E ∷ F ∷ []) in
      recorded_send _ _ _ T.to_one (struct_send (shape T) (a, (b, (c, (d, (e, (f, tt)))))))

  pub more_captures_send : (C D E F G : RattleType) → IsSend C → IsSend D → IsSend E → IsSend F → IsSend G
      → IsSend (TupleAt name (A ∷ B ∷ C ∷ D ∷ E ∷ F ∷ G ∷ []))
  more_captures_send C D E F G c d e f g =
      let T = type_at name (A ∷ B ∷ C ∷ D ∷ E ∷ F ∷ G ∷ []) in
      recorded_send _ _ _ T.to_one (struct_send (shape T) (a, (b, (c, (d, (e, (f, (g, tt))))))))

-- rows of a hart with a number each
module _ (N : RattleType) (n : IsSend N) where
  list_send : IsSend (list.the_row N)
  list_send = recorded_send _ _ _ (list.the_type N).to_one (struct_send (shape (list.the_type N)) (search (sendable, crosses) depth 20, tt))

  pub rows_send : IsSend (Rows.the_row N)
  rows_send = search (sendable, list_send) depth 20

-- a recorder's board
module _ (C K : RattleType) (gc : console.Ghosts C.Denot) (gk : clock.Ghosts K.Denot) (c : IsSend C) (k : IsSend K) where
  parts_send : IsSend (parts.the_row C K gc gk)
  parts_send = recorded_send _ _ _ (parts.the_type C K gc gk).to_one
      (struct_send (shape (parts.the_type C K gc gk)) (
        crew.the_field_send,
        (
          search (sendable, crosses, waits.the_send) depth 20,
          (
            search (sendable, crosses, rows_send) depth 20,
            (
              search (sendable, crosses, rows_send) depth 20,
              (
                search sendable,
                (
                  search sendable,
                  (
                    search sendable depth 20,
                    (
                      search sendable depth 20,
                      (
                        search (sendable, crosses) depth 20,
                        (
                          search (sendable, crosses) depth 20,
                          (search (sendable, crosses) depth 20, tt),
                        ),
                      ),
                    ),
                  ),
                ),
              ),
            ),
          ),
        ),
      ))

  pub board_send : IsSend (Board.the_row C K gc gk)
  board_send = search (sendable, parts_send) depth 20

  inside_send : IsSend (inside.the_row C K gc gk)
  inside_send = recorded_send _ _ _ (inside.the_type C K gc gk).to_one
      (struct_send (shape (inside.the_type C K gc gk)) (search (sendable, board_send) depth 20))

  pub record_board_send : IsSend (RecordBoard.the_row C K gc gk)
  record_board_send = search (sendable, inside_send) depth 20
