use Rattle.std.proofs.Common.{◌≡◌, length}
use Rattle.leg_speed.proofs.start.Given as goal

abbrev pub invariant-loop-page : goal.invariant-loop-page
invariant-loop-page l = record {
  ends : length l.store.pages ≡ l.page-end;
  pages : length l.run.frames.pages ≡ length l.store.pages;
  unit : l.store.unit ≡ l.run.frames.unit;
}
