use Rattle.log_entry.specs.declared.log.Entry.TheVariants.{Yield}
use Rattle.crew_core.proofs.Machine.{leads_here, store_of}
use Rattle.crew_core.proofs.Yielding.{yield_enters}
use Rattle.crew_core.proofs.crew.Crew.yield_page.Goals as goal

pub returns-clause-enters : goal.returns-clause-enters
returns-clause-enters c = λ b st a.
    yield_enters c.args.self.now _ c.args.run.now _ b c.args.hart c.args.page _ _ c.args.left _ _ st a c.requires.hart c.requires.page c.requires.less
    c.requires.bytes c.count-count.ensures c.yield_to-seq.ensures.number c.yield_to-seq.ensures.directory c.yield_to-seq.ensures.crew c.enter.ensures.frame
    (λ none. leads_here c.args.self.now.backing c.yield_page.new.self _ c.args.hart (Yield c.count-count.result c.args.page c.yield_to-seq.result c.args.left)
    b.at st.unit_is
    (c.yield_page.ensures.leads c.args.hart c.count-count.result c.yield_to-seq.result b.at st.backs a none))

pub yield_page-requires-clause-store : goal.yield_page-requires-clause-store
yield_page-requires-clause-store c = let t = c.requires.tied in store_of c.args.self.now c.args.run.now c.args.hart t.0 t.1 t.2
