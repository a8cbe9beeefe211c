-- What sets nothing but the favoured hart, the cause and the room; and the board before any turn.
use Rattle.std.proofs.Common.{◌≡◌, ℕ, ◌<◌, Bool, [], length, replicate, Option, Some, unwrap_or, refl, sym, ap, ◌∙◌, subst}
use Rattle.std.specs.List.{enumerate_from}
use Rattle.std.proofs.Math.Nat.{mod-eq_of_lt}
use Rattle.std.proofs.lemmas.List.{length-map}
use Rattle.std.proofs.lemmas.List.FromFn.{length-enumerate_from}
use Rattle.rv_words.specs.declared.shared.Cause.{Cause}
use Rattle.elf_image.specs.Image.{Image}
use Rattle.flat_machine.specs.State.{FlatState, flat_at_start}
use Rattle.order_rules.specs.Holders.{nobody}
use Rattle.replay_model.specs.State.{Replay}
use Rattle.turn_model.specs.Board.{Supply, board_at_start}
use Rattle.turn_laws.specs.Reached.{Reached, Begun, Favours, Shut}
use Rattle.crew_parts.specs.Boards.{Plain, World, IsReached, the_machine, board_of, log_now, plain_at_start, spent, state_of, terms_of}
use Rattle.crew_parts.specs.Parts.{KeepsParts}

pub nothing_changed : (p : Plain) (favoured : ℕ) (closed : Option Cause) (abandoned prepared : Bool)
    → KeepsParts p (record p { favoured = favoured; closed = closed; abandoned = abandoned; prepared = prepared })
unfolding state_of
nothing_changed p favoured closed abandoned prepared h = refl

pub favour_set : (p : Plain) (r : ℕ) → IsReached p → r < length p.streams → IsReached (record p { favoured = r })
unfolding state_of
favour_set p r reached l = (
  reached.0,
  subst (λ f. Reached the_machine (terms_of p) p.harts (flat_at_start p.image p.harts) reached.0 (board_of (record p { favoured = f }) spent))
      (mod-eq_of_lt l) (Favours r (board_of p spent) reached.1),
)

pub closing_set : (p : Plain) (cause : Cause) → IsReached p → IsReached (record p { closed = Some (unwrap_or p.closed cause) })
unfolding state_of
closing_set p cause reached = (reached.0, Shut cause (board_of p spent) reached.1)

-- the state before any turn, for so many harts
first_for : Image → ℕ → ℕ → Replay FlatState
first_for image harts k = record {
  flat = flat_at_start image harts;
  cursor = record { places = replicate k 0; numbers = replicate image.pages 0; ordinal = 0 };
  holders = nobody image.pages k;
}

pub first_board : (image : Image) (harts limit log_limit : ℕ) (world : World) (left : Supply)
    → board_of (plain_at_start image harts limit log_limit world) left
    ≡ board_at_start (terms_of (plain_at_start image harts limit log_limit world)) harts (flat_at_start image harts) left
unfolding state_of first_for
first_board image harts limit log_limit world left =
    let p = plain_at_start image harts limit log_limit world in
    let size : length (log_now p).streams ≡ length (replicate harts []) =
    length-map (enumerate_from 0 p.streams) _ ∙ length-enumerate_from 0 p.streams in
    ap (λ k. record (board_at_start (terms_of p) harts (flat_at_start image harts) left) { at = first_for image harts k }) size

pub first_reached : (image : Image) (harts limit log_limit : ℕ) (world : World) → IsReached (plain_at_start image harts limit log_limit world)
first_reached image harts limit log_limit world =
    let p = plain_at_start image harts limit log_limit world in
    (spent, subst (Reached the_machine (terms_of p) harts (flat_at_start image harts) spent) (sym (first_board image harts limit log_limit world spent)) Begun)
