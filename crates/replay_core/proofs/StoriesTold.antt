-- The story of a hart at the end of a replay.
use Rattle.std.proofs.Common.{◌≡◌, ◌≤◌, ℕ, List, [], map, flat_map, length, Option, refl, sym, ap, ◌∙◌, subst, arith}
use Rattle.elf_image.specs.Image.{Image}
use Rattle.log_entry.specs.declared.log.Log.{Log}
use Rattle.log_entry.specs.Parts.{unit_of}
use Rattle.orders_law.specs.Orders.{IsFull}
use Rattle.orders_law.proofs.Least.{least_is_full}
use Rattle.flat_machine.specs.State.{FlatState}
use Rattle.flat_machine.specs.declared.results.Step.{Step}
use Rattle.replay_model.specs.Board.{board}
use Rattle.replay_model.specs.State.{Replay}
use Rattle.replay_model.specs.Items.{IsFullOrder, step}
use Rattle.replay_law.specs.Laws.{first_replay}
use Rattle.replay_law.proofs.Orders.{all_orders_agree, least_ends_there, no_more}
use Rattle.replay_core.specs.declared.notes.Notes.{Notes}
use Rattle.replay_core.specs.declared.replaying.Replaying.{Replaying}
use Rattle.replay_core.specs.Standing.{Begins, CanGoNowhere, IsAt}
use Rattle.replay_core.specs.Stories.{IsStoryOf, moves_between}
use Rattle.replay_core.specs.Telling.{HasNoted, NotesOn, SameAim}
use Rattle.replay_core.proofs.EndsTell.{full_there}
use Rattle.replay_core.proofs.MovesTold.{none_yet}
use Rattle.replay_core.proofs.NotesKept.{nothing_told}
use Rattle.replay_core.proofs.StateAfterItem.{reached}

-- nothing was made yet, and nothing is noted
pub noted_first : (image : Image) (stage : Replaying) (n : Notes) → IsAt image stage (first_replay stage.board.log image) → n.steps.items ≡ []
    → HasNoted image stage n (first_replay stage.board.log image)
noted_first image stage n at none = record { at = at; made = []; leads = refl; steps = none ∙ sym (none_yet n.from n.to [] (omega arith)) }

-- where no hart can go, what an order tells of a hart is what the least order tells
pub story_noted : (image : Image) (stage : Replaying) (n : Notes) (s : Replay FlatState) → CanGoNowhere stage → HasNoted image stage n s
    → IsStoryOf stage.board.log image n.hart n.from n.to n.steps.items
story_noted image stage n s stuck has =
    let log = stage.board.log in
    let st = has.at.stands in
    let there = full_there image stage s has.at (stuck image s has.at) in
    let own : IsFullOrder (board (unit_of stage.board.log)) stage.board.log (first_replay stage.board.log image)
    (map (λ (m : ℕ × Option (List Step)). m.0) has.made) s = (has.made, refl, record { leads = has.leads; over = there.2.over }) in
    let least = least_ends_there stage.board.log image (map (λ (m : ℕ × Option (List Step)). m.0) has.made) s has.at.stands.replayable own in
    let full : IsFull (step (board (unit_of stage.board.log)) stage.board.log) (first_replay stage.board.log image) least.0 s =
    least_is_full (step (board (unit_of stage.board.log)) stage.board.log) (length stage.board.log.streams) (first_replay stage.board.log image) s least.0
    (λ h m. no_more stage.board.log image has.at.stands.replayable h s (reached image stage.board s has.at.stands).going.good m) least.1 in
    let one : IsFullOrder (board (unit_of stage.board.log)) stage.board.log (first_replay stage.board.log image)
    (map (λ (m : ℕ × Option (List Step)). m.0) least.0) s = (least.0, refl, full) in
    let agree = all_orders_agree stage.board.log image (map (λ (m : ℕ × Option (List Step)). m.0) has.made) (map (λ (m : ℕ × Option (List Step)). m.0) least.0)
    s s has.at.stands.replayable own one in (
      least.0,
      (s, least.1, has.steps ∙ ap (λ (zs : List (List Step)). moves_between n.from n.to (flat_map (λ (told : List Step). told) zs)) (agree.1 n.hart)),
    )

-- so it is of the replay that went on until none can
pub story_told : (log : Log) (image : Image) (first now : Replaying) (n m : Notes) → Begins log image first → NotesOn first now n m
    → now.board.log ≡ first.board.log → n.steps.items ≡ [] → SameAim n m → CanGoNowhere now → IsStoryOf log image n.hart n.from n.to m.steps.items
story_told log image first now n m begins on same none aim stuck =
    let at = subst (λ l. IsAt image first (first_replay l image)) (sym begins.0) begins.1 in
    let t = on image (first_replay first.board.log image) (noted_first image first n at none) in
    subst (λ l. IsStoryOf l image n.hart n.from n.to m.steps.items) (same ∙ begins.0)
    (subst (λ k. IsStoryOf now.board.log image n.hart n.from k m.steps.items) aim.to
    (subst (λ k. IsStoryOf now.board.log image n.hart k m.to m.steps.items) aim.from
    (subst (λ k. IsStoryOf now.board.log image k m.from m.to m.steps.items) aim.hart (story_noted image now m t.0 stuck t.1))))

-- and of a hart that the log hasn't there is nothing
pub nobody_told : (log : Log) (image : Image) (first now : Replaying) (n m : Notes) → Begins log image first → NotesOn first now n m
    → now.board.log ≡ first.board.log → n.steps.items ≡ [] → SameAim n m → length log.streams ≤ n.hart → m.steps.items ≡ []
nobody_told log image first now n m begins on same none aim past =
    let at = subst (λ l. IsAt image first (first_replay l image)) (sym begins.0) begins.1 in
    let t = on image (first_replay first.board.log image) (noted_first image first n at none) in
    let number = ap (λ (l : Log). length l.streams) (same ∙ begins.0) in
    let hart = aim.hart in
    nothing_told image now m t.0 t.1 (omega (arith, number, hart, past))
