use Rattle.std.proofs.Common.{rules, ◌≡◌, ◌∙◌, max, length, refl, ap, subst}
use Rattle.log_entry.specs.declared.log.Log.{Log}
use Rattle.order_rules.specs.Cursor as cursors
use Rattle.device_board.specs.State.{DevicesWithRoom, devices_at_start}
use Rattle.board_backing.specs.declared.backing.Backing.{Backing}
use Rattle.board_backing.specs.Backing.{BacksFirst}
use Rattle.replay_core.specs.Standing.{OrdinalsBelow}
use Rattle.replay_core.proofs.FirstStage.{first_stands, first_roomy, backs_with_room}
use Rattle.replay_core.proofs.position.Position.start.Goals as goal

pub returns : goal.returns
returns c =
    let number : c.harts_of-harts.result ≡ length c.args.log.streams =
    c.harts_of-harts.ensures.number ∙ ap (λ (l : Log). length l.streams) c.log-3.ensures.same in
    let reserved : c.reserve.new.self
    ≡ record { devices = c.in_ok-backing.backing.devices.devices; spare = max c.in_ok-backing.backing.devices.spare c.room_of-room.result } =
    search rules in
    let made : c.reserve.new.self ≡ record { devices = devices_at_start (length c.args.log.streams); spare = max 0 c.room_of-room.result } =
    reserved
    ∙ ap (λ (b : Backing). record { devices = b.devices.devices; spare = max b.devices.spare c.room_of-room.result }) c.in_ok-backing.ensures.backing
    ∙ ap (λ n. record { devices = devices_at_start n; spare = max 0 c.room_of-room.result }) number in (
      refl,
      first_stands c.args.image.now _
          (record { orderly = c.log-2.ensures.orderly; whole = c.pages.ensures.whole; pages = c.requires }) c.log-2.ensures.range
          (c.in_ok-cursor.ensures ∙ ap cursors.start c.log-4.ensures.same)
          (backs_with_room c.args.image.now (length c.args.log.streams) c.in_ok-backing.backing c.reserve.new.self
          (ap (λ (d : DevicesWithRoom). d.devices) reserved)
          (subst (λ n. BacksFirst c.args.image.now n c.in_ok-backing.backing) number c.in_ok-backing.ensures.backs))
          (first_roomy _ c.room_of-room.result made (subst (λ l. OrdinalsBelow l c.room_of-room.result) c.log-2.ensures.same c.room_of-room.ensures)),
    )
