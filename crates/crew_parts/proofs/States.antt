-- The state that a board's plain data stand for is the one to which the items that were made lead.
use Rattle.std.proofs.Common.{◌≡◌, ℕ, ◌+◌, ◌++◌, List, [], ◌∷◌, map, Option, Some, slice_index, unwrap_or, sym, ap, ap₂, ◌∙◌, refl}
use Rattle.std.specs.List.{enumerate_from}
use Rattle.std.specs.Option.{option_and_then}
use Rattle.rv_words.specs.Limits.{page_bytes}
use Rattle.rv_words.specs.declared.shared.Cause.TheVariants.{Limit}
use Rattle.elf_image.specs.Image.{start_digest}
use Rattle.log_entry.specs.declared.log.Entry.{Entry}
use Rattle.log_entry.specs.declared.log.Entry.TheVariants.{End}
use Rattle.log_entry.specs.declared.log.Log.{Log}
use Rattle.orders_law.specs.Orders.{Leads}
use Rattle.flat_machine.specs.State.{FlatState, flat_at_start}
use Rattle.flat_machine.specs.declared.results.Step.{Step}
use Rattle.replay_model.specs.Items.{Item, step}
use Rattle.replay_model.specs.Journal.{order_of}
use Rattle.replay_model.specs.State.{Replay, start}
use Rattle.crew_recording.specs.Recording.{Records, first_recording, log_of_recording}
use Rattle.crew_recording.specs.Laws.{IsBoard}
use Rattle.crew_recording.proofs.Steady.{runs_are_obeyed}
use Rattle.turn_model.specs.Board.{log_with}
use Rattle.crew_parts.specs.Boards.{Plain, the_board, terms_of, log_now, follow, state_of}

-- an order that can be made leads where it leads
leads_there : (log : Log) (s t : Replay FlatState) (made : List (ℕ × Option (List Step))) → Leads (step the_board log) s made t
    → follow log (map (λ (m : ℕ × Option (List Step)). m.0) made) s ≡ Some t
leads_there log s t [] is = ap Some is
leads_there log s t (x ∷ made) is =
    ap (option_and_then (λ (m : Replay FlatState × Option (List Step)). follow log (map (λ (m : ℕ × Option (List Step)). m.0) made) m.0)) is.1
    ∙ leads_there log is.0 t made is.2

pub ended_alike : (f g : ℕ → ℕ) (n : ℕ) (streams : List (List Entry)) → ((h : ℕ) → f h ≡ g h)
    → map (λ (s : ℕ × List Entry). s.1 ++ End (f s.0) ∷ []) (enumerate_from n streams)
    ≡ map (λ (s : ℕ × List Entry). s.1 ++ End (g s.0) ∷ []) (enumerate_from n streams)
ended_alike f g n [] same = refl
ended_alike f g n (s ∷ streams) same = ap₂ (λ k rest. (s ++ End k ∷ []) ∷ rest) (same n) (ended_alike f g (n + 1) streams same)

pub state_is : (p : Plain) (items : List (ℕ × Item)) (at : Replay FlatState) → IsBoard p.harts (flat_at_start p.image p.harts)
    → Records the_board (first_recording p.image.pages p.harts (flat_at_start p.image p.harts)) items (record { at = at; streams = p.streams })
    → map (λ (x : ℕ × Item). x.0) items ≡ order_of p.journal
    → ((h : ℕ) → slice_index p.counts h ≡ the_board.count at.flat h) → state_of p ≡ at
unfolding state_of
state_is p items at begins records order counts =
    let first = flat_at_start p.image p.harts in
    let log = log_of_recording the_board p.image.pages p.limit (start_digest p.image) Limit (record { at = at; streams = p.streams }) in
    let log_is : log_now p ≡ log = ap (λ (streams : List (List Entry)). log_with (terms_of p) streams Limit)
    (ended_alike (slice_index p.counts) (the_board.count at.flat) 0 p.streams counts) in
    let obeyed =
    (runs_are_obeyed page_bytes p.image.pages p.limit p.harts (start_digest p.image) Limit first items (record { at = at; streams = p.streams })
    begins records).0 in
    let there : follow log (map (λ (x : ℕ × Item). x.0) items) (start log first) ≡ Some at =
    ap (λ order. follow log order (start log first)) (sym obeyed.1) ∙ leads_there log (start log first) at obeyed.0 obeyed.2.leads in
    ap₂ (λ (l : Log) order. unwrap_or (follow l order (start l first)) (start l first)) log_is (sym order)
    ∙ ap (λ o. unwrap_or o (start log first)) there
