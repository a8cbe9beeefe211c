-- What a stage's runs and backing have.
use Rattle.std.proofs.Common.{◌∙◌, sym, arith}
use Rattle.elf_image.specs.Image.{Image}
use Rattle.flat_machine.specs.State.{FlatState}
use Rattle.replay_model.specs.State.{Replay}
use Rattle.board_backing.specs.Ends.{Have}
use Rattle.replay_core.specs.declared.replaying.Replaying.{Replaying}
use Rattle.replay_core.specs.Standing.{IsAt}
use Rattle.replay_core.proofs.StateAfterItem.{reached}

-- a stage's runs and backing have its state
pub stage_has : (image : Image) (stage : Replaying) (s : Replay FlatState) → IsAt image stage s → Have stage.runs.items stage.board.backing s
stage_has image stage s at =
    let sound = (reached image stage.board s at.stands).going.good.sound in
    record {
      backs = at.stands.backs;
      number = at.runs ∙ sym sound.sized.harts_size;
      counted = at.runs ∙ sym (sound.sized.counts_size ∙ sound.sized.harts_size);
      rows = λ page l. sound.rows page (let t = sound.table in omega (arith, l, t)) ∙ sym sound.sized.harts_size;
      agree = at.agree;
    }
