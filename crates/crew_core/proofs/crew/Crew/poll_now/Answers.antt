use Rattle.std.proofs.Common.{refl, ap, ◌+◌, List}
use Rattle.log_entry.specs.declared.log.Entry.TheVariants.{Poll}
use Rattle.board_backing.specs.declared.backing.Backing.{Backing}
use Rattle.crew_core.specs.declared.seat.Seat.{Seat}
use Rattle.crew_core.proofs.Machine.{leads_here}
use Rattle.crew_core.proofs.Polling.{poll_enters}
use Rattle.crew_core.proofs.crew.Crew.poll_now.Goals as goal

pub returns-clause-enters : goal.returns-clause-enters
returns-clause-enters g c = (
  c.now-now.result,
  c.now-now.ensures.answered,
  λ b st a. poll_enters c.args.self.now _ c.args.run.now _ b c.args.hart c.count-count.result c.args.self.now.ordinal c.poll-polled.result.time
      c.poll-polled.result.bits c.now-now.result c.poll-polled.new.self st a c.requires.hart c.requires.bytes c.count-count.ensures refl
      c.poll-polled.ensures.time c.poll-polled.ensures.bits
      (ap (λ (s : List Seat). record c.args.self.now {
        backing = c.poll-polled.new.self;
        ordinal = c.args.self.now.ordinal + 1;
        seats = s;
        size =
            c.args.self.now.size + 22;
      }) c.poll.ensures)
      (ap (λ (z : Backing). z.devices.devices.harts) c.poll-polled.ensures.backing)
      (leads_here c.args.self.now.backing c.poll-polled.new.self _ c.args.hart
      (Poll c.count-count.result c.args.self.now.ordinal c.poll-polled.result.time c.poll-polled.result.bits) b.at st.unit_is
      (c.poll-polled.ensures.leads c.count-count.result c.args.self.now.ordinal b.at st.backs a)),
)
