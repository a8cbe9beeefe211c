use Rattle.std.proofs.Common.{arith, ◌+◌, ◌*◌, length, ap}
use Rattle.log_entry.specs.declared.log.Entry.TheVariants.{Gain}
use Rattle.crew_core.proofs.Gaining.{gain_enters, may_more}
use Rattle.crew_core.proofs.Machine.{leads_here, store_of}
use Rattle.crew_core.proofs.crew.Crew.gain_page.Goals as goal

pub returns-clause-enters : goal.returns-clause-enters
returns-clause-enters c = λ b st a.
    let long = ap length c.items.ensures.list in
    let few = c.items.ensures.bound in
    gain_enters c.args.self.now _ c.args.run.now _ b c.args.hart c.args.page _ _ (17 + 9 * length c.items.result.now) c.args.mode c.gain-seq.new.waits _ _ st
    a c.requires.hart c.requires.page
    (may_more c.args.self.now.directory c.args.hart c.args.page c.args.mode c.requires.allowed) (omega (arith, long))
    (let due = ap length c.gain-seq.ensures.waits in omega (arith, long, due, c.requires.bytes)) c.count-count.ensures c.gain-seq.ensures.number
    c.gain-seq.ensures.directory c.gain-seq.ensures.crew c.gain-seq.ensures.waits c.enter.ensures.frame
    (λ free. leads_here c.args.self.now.backing c.gain.new.self _ c.args.hart
    (Gain c.count-count.result c.args.page c.gain-seq.result c.args.mode (record { items = c.gain-seq.new.waits.items; room = 0 })) b.at st.unit_is
    (c.gain.ensures.leads c.args.hart c.count-count.result c.gain-seq.result (record { items = c.gain-seq.new.waits.items; room = 0 }) b.at st.backs a free))

pub gain-requires-clause-store : goal.gain-requires-clause-store
gain-requires-clause-store c = let t = c.requires.tied in store_of c.args.self.now c.args.run.now c.args.hart t.0 t.1 t.2
