use Rattle.std.proofs.Common.{rules, ◌≡◌, ◌∙◌, true, false, refl, subst}
use Rattle.replay_core.specs.declared.went.Went.TheVariants as wents
use Rattle.replay_core.specs.Entries.{MakesEntry}
use Rattle.replay_core.proofs.EntriesInTurns.{made_all, made_more, none_made, tied_on}
use Rattle.replay_core.proofs.position.Position.make_all.Goals as goal

pub entries-init : goal.entries-init
entries-init c = record {
  comes = λ image s st a. none_made image c.args.self.now c.args.run.now c.args.hart s st a;
  log = refl;
  hart = refl;
}

pub make-went-requires : goal.make-went-requires
make-went-requires c =
    record {
      tied = tied_on c.args.self.now c.entries.self c.args.run.now c.entries.run c.args.hart c.entries.invariant.comes c.requires.tied;
    }

pub returns-then-not-is_entry-clause-makes : goal.returns-then-not-is_entry-clause-makes
returns-then-not-is_entry-clause-makes c =
    let off : c.is_entry.result ≡ false = search rules in
    made_all c.args.self.now c.entries.self c.make-went.new.self c.args.run.now c.entries.run c.make-went.new.run c.args.hart c.make-went.result
    c.entries.invariant.log c.entries.invariant.comes c.make-went.ensures.makes (c.is_entry.ensures.none off)

pub entries-preserved : goal.entries-preserved
entries-preserved c =
    let on : c.is_entry.result ≡ true = search rules in
    let entry : c.make-went.result ≡ wents.Entry = c.is_entry.ensures.made on in
    record {
      comes = made_more c.args.self.now c.entries.self c.make-went.new.self c.args.run.now c.entries.run c.make-went.new.run c.args.hart
          c.entries.invariant.log c.entries.invariant.comes
          (subst (MakesEntry c.entries.self c.make-went.new.self c.entries.run c.make-went.new.run c.args.hart) entry c.make-went.ensures.makes);
      log = c.make-went.ensures.log ∙ c.entries.invariant.log;
      hart = refl;
    }
