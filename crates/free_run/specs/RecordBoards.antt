-- A recorder's board that turns alone change (docs/threads.md).
use Rattle.std.specs.Prelude.{◌≡◌, true, false, Some, unwrap_or}
use Rattle.rv_words.specs.declared.shared.Cause.TheVariants.{Cut}
use Rattle.turn_model.specs.Laws.{OfHarts}
use Rattle.turn_model.specs.Lists.{listed}
use Rattle.crew_parts.specs.Boards.{Plain, the_machine, plain_at_start, terms_of}
use Rattle.recorded_turns.specs.Takes.{Takes}
use Rattle.recorder.specs.Manned.{HasGiven}

-- the board of the same terms before any turn
abbrev pub start_of : Plain → Plain
start_of p = plain_at_start p.image p.harts p.limit p.log_limit p.first

-- the board closed for want of memory
abbrev pub abandoned_in : Plain → Plain
abandoned_in p = record p { abandoned = true; closed = Some (unwrap_or p.closed Cut) }

-- Console and clock gave something since the board was made, and its turns are of its harts. Unless memory ran out, the list of them leads to
-- it from the board before any turn, with what they gave and whatever they give later.
pub record IsByTurns (p : Plain) : Type 0 where
  pub given : HasGiven p.first p.now
  pub harts : OfHarts p.harts p.turns
  pub turns : p.abandoned ≡ false → Takes (terms_of p) (listed the_machine (terms_of p) p.turns) (start_of p) p
