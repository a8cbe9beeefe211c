-- The laws of runs, and nothing else.
use Rattle.std.proofs.Common.{refl}
use Rattle.rv_hart.specs.Effects.{fetch_of}
use Rattle.run_model.specs.Laws.{AheadAgrees, StartAgrees, NobodyHolds, NobodyHasRows, MovesAgree, TakesAgree, GivesAgree}
use Rattle.run_model.specs.Laws.{SeesMove, SeesFetched, SeesWord, SeesClaim, SeesPage, SeesHeld}
use Rattle.run_model.specs.Laws.{AsksByWord, DataNotWanted, DataLieAbove, ExclusiveIsHeld}
use Rattle.run_model.specs.Laws.{PlacedAgrees, CountedAgrees, AnswersAgree, KeepsOnMove, StaysOne, StaysOnBoard, StartsLeg, LeadsOn, EndsLeg}
use Rattle.run_model.proofs.AfterMove as after
use Rattle.run_model.proofs.Aheads as aheads
use Rattle.run_model.proofs.Handover as handover
use Rattle.run_model.proofs.Legs as legs
use Rattle.run_model.proofs.Moves as moves
use Rattle.run_model.proofs.Sight as sight
use Rattle.run_model.proofs.Start as start

pub ahead_agrees : AheadAgrees
ahead_agrees = sight.ahead_agrees

pub start_agrees : StartAgrees
start_agrees id harts image s whole l first = start.start_agrees id harts image whole l s first

pub nobody_holds : NobodyHolds
nobody_holds = start.held_of_nobody

pub nobody_has_rows : NobodyHasRows
nobody_has_rows = start.row_of_nobody

pub sees_move : SeesMove
sees_move = moves.next_is

pub sees_fetched : SeesFetched
sees_fetched r h s a n = moves.fetched_where r h s a (fetch_of r.hart) refl n

pub sees_word : SeesWord
sees_word = sight.word_agrees

pub sees_claim : SeesClaim
sees_claim = sight.claim_agrees

pub sees_page : SeesPage
sees_page = sight.frame_agrees

pub sees_held : SeesHeld
sees_held = sight.held_word

pub asks_by_word : AsksByWord
asks_by_word = aheads.ahead_of_word

pub data_not_wanted : DataNotWanted
data_not_wanted = moves.data_not_wanted

pub data_lie_above : DataLieAbove
data_lie_above = moves.data_above

pub exclusive_is_held : ExclusiveIsHeld
exclusive_is_held = moves.exclusive_held

pub moves_agree : MovesAgree
moves_agree r h s a one crew f =
    record {
      goes = moves.can_go r h s a f;
      made = moves.move_made r h s a f;
      agrees = after.agrees_after r h s a one f;
      others = after.differ_after r h s a one crew f;
      crew = after.crew_after r h s a one crew f;
      one = after.one_after r one;
    }

pub keeps_on_move : KeepsOnMove
keeps_on_move = legs.keeps_further

pub stays_one : StaysOne
stays_one = after.one_after

pub stays_on_board : StaysOnBoard
stays_on_board = moves.same_board

pub placed_agrees : PlacedAgrees
placed_agrees = handover.hart_agrees

pub counted_agrees : CountedAgrees
counted_agrees = handover.move_agrees

pub answers_agree : AnswersAgree
answers_agree = handover.answer_agrees

pub starts_leg : StartsLeg
starts_leg = legs.led_nowhere

pub leads_on : LeadsOn
leads_on = legs.led_further

pub ends_leg : EndsLeg
ends_leg = legs.makes_leg

pub takes_agree : TakesAgree
takes_agree r h page s mode store a one l has = handover.take_agrees r h page s mode store a l one.held_size has

pub gives_agree : GivesAgree
gives_agree r h page s left store a one l store_size less = handover.give_agrees r h page s left store a l one.held_size store_size less
