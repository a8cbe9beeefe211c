use Rattle.std.proofs.Common.{◌≡◌, ◌+◌, drop, take, ◌∷◌, ◌++◌, [], ◌∙◌, ap, sym, arith}
use Rattle.std.proofs.lemmas.List.{map_push}
use Rattle.std.proofs.lemmas.List.Elements.{All-push}
use Rattle.turn_table.specs.Turns.{idle, rest, dealt}
use Rattle.turn_table.proofs.Passes.{splits, next}
use Rattle.turn_table.proofs.table.deal.Goals as goal

pub split_seat-first-requires : goal.split_seat-first-requires
split_seat-first-requires g c = (
  c.loop.invariant.table ∙ c.requires.table,
  c.requires.words,
  splits g.B.Parted.parts c.args.table.now.shared.key.harts c.loop.seat.id c.loop.seat.me.0 (ap (λ m. m.0.holds) c.loop.invariant.seat),
)

pub loop-preserved : goal.loop-preserved
loop-preserved g c =
    let rs = c.args.seat.now.me.0.records in
    let k = c.loop.counter in
    let n = next k rs (omega (arith, c.loop-test.true, c.requires.harts)) in
    let s = c.loop.invariant.seat in
    let records : c.loop.seat.me.0.records ≡ n.0 ∷ drop (k + 1) rs = ap (λ m. m.0.records) s ∙ n.1 in
    record {
      table = c.split_seat-first.ensures.0 ∙ c.loop.invariant.table;
      seat = c.split_seat-first.ensures.2 ∙ (λ i. (idle (s i).0.harts (rest (records i)) (s i).0.found, (s i).1));
      tables = rw c.in-Ok.ensures.items
          (All-push (λ p. p.seat.table_id ≡ c.args.table.now.shared.table_id) c.loop.passes.items (record { seat = c.split_seat-first.result })
          c.loop.invariant.tables (c.split_seat-first.ensures.3 ∙ c.loop.invariant.table ∙ c.requires.table));
      records = rw c.in-Ok.ensures.items
          (map_push _ c.loop.passes.items (record { seat = c.split_seat-first.result })
          ∙ (λ i. c.loop.invariant.records i ++ (c.split_seat-first.ensures.4 ∙ (λ j. (idle (s j).0.harts (take 1 (records j)) [], []))) i ∷ [])
          ∙ sym (map_push _ (take k rs) n.0) ∙ ap (dealt c.args.seat.now.me.0.harts) (sym n.2));
      count = omega (arith, c.in-Ok.ensures.len, c.loop.invariant.count);
      room = omega (arith, c.in-Ok.ensures.capacity, c.loop.invariant.room);
    }
