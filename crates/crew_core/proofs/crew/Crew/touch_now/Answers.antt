use Rattle.std.proofs.Common.{◌≡◌, ◌++◌, refl, ap, arith, ◌+◌, List}
use Rattle.log_entry.specs.declared.log.Entry.TheVariants.{Touch}
use Rattle.rv_words.specs.Addresses.{device_word}
use Rattle.crew_core.specs.declared.seat.Seat.{Seat}
use Rattle.crew_core.proofs.Machine.{leads_here}
use Rattle.device_board.specs.Recording.{bytes_given}
use Rattle.crew_core.proofs.SentBytes.{access_sends}
use Rattle.crew_core.proofs.Touching.{touch_enters, if_some, where_some}
use Rattle.crew_core.proofs.Yielding.{seat_count}
use Rattle.crew_core.proofs.crew.Crew.touch_now.Goals as goal

pub touch-requires-in-Ok-clause-count : goal.touch-requires-in-Ok-clause-count
touch-requires-in-Ok-clause-count g c =
    let t = c.requires.tied in
    let same = seat_count c.args.self.now c.args.run.now c.args.hart t.0 t.1 t.2 c.requires.hart in
    omega (arith, same, c.requires.count)

pub returns-in-Ok-clause-enters : goal.returns-in-Ok-clause-enters
returns-in-Ok-clause-enters g c =
    if_some (device_word c.args.self.now.backing.devices.devices.harts c.args.access.at) _ _
    (λ word p. (
      p.0,
      p.2,
      λ b st a.
          touch_enters c.args.self.now _ c.args.run.now _ b c.args.hart c.count-count.result c.args.self.now.ordinal c.args.now word c.args.access.store p.0
          c.in-Ok.input c.touch.new.self st a c.requires.hart c.requires.below c.requires.bytes c.count-count.ensures refl p.1
          (ap (λ (s : List Seat). record c.args.self.now {
            backing = c.touch.new.self;
            ordinal = c.args.self.now.ordinal + 1;
            seats = s;
            size =
                c.args.self.now.size + 22;
          }) c.touch-in-Ok.ensures)
          c.in-Ok.ensures.harts (leads_here c.args.self.now.backing c.touch.new.self _ c.args.hart
          (Touch c.count-count.result c.args.self.now.ordinal c.in-Ok.input) b.at st.unit_is
          (c.in-Ok.ensures.leads c.count-count.result c.args.self.now.ordinal b.at st.backs a)),
    ))
    c.in-Ok.ensures.input

pub returns-in-Ok-clause-sent : goal.returns-in-Ok-clause-sent
returns-in-Ok-clause-sent g c =
    let made = c.in-Ok.ensures.devices in
    where_some (device_word c.args.self.now.backing.devices.devices.harts c.args.access.at)
    (λ word. c.touch.new.self.devices.devices.sent ≡ c.args.self.now.backing.devices.devices.sent ++ bytes_given word c.args.access.store)
    (λ word is. access_sends c.args.self.now.backing.devices.devices c.touch.new.self.devices.devices word c.args.access c.in-Ok.input made.0 is made.1)
