use Rattle.std.proofs.Common.{◌≡◌, ◌-◌, ◌∷◌, ◌++◌, [], take, drop, length, ap, sym, subst, ◌∙◌, arith, Some, All}
use Rattle.std.specs.List.{enumerate_from}
use Rattle.std.proofs.lemmas.List.Elements.{All-push}
use Rattle.atomic_table.specs.Table.{opening}
use Rattle.turn_table.specs.Turns.{IsRuled, idle, dealt}
use Rattle.turn_table.proofs.Passes.{opened, length_numbered, all_dealt, dealt_all, dealt_each, dealt_every}
use Rattle.turn_table.proofs.table.TurnTable.open.Goals as goal

pub new-requires : goal.new-requires
new-requires g c =
    let parts = g.B.Parted.parts in
    let n = c.args.n in
    let items = c.in_default-push.ensures.items ∙ ap (λ xs. xs ++ Some c.args.board ∷ []) c.new-slots.ensures.items in
    subst (λ xs. IsRuled parts n (opening (1 ∷ []) xs (idle n (enumerate_from 0 (parts c.of.result.value)) []))) (sym items)
    (subst (λ b. IsRuled parts n (opening (1 ∷ []) (Some c.args.board ∷ []) (idle n (enumerate_from 0 (parts b)) []))) (sym c.of.ensures)
    (opened parts c.args.board n c.requires.count))

pub deal-requires-clause-harts : goal.deal-requires-clause-harts
deal-requires-clause-harts g c =
    let parts = g.B.Parted.parts in
    let records = ap (λ m. length m.0.records) c.in-Ok-new.ensures.ok.4 in
    let count = length_numbered 0 (parts c.of.result.value) in
    let same = ap (λ b. length (parts b)) c.of.ensures in
    omega (arith, records, count, same, c.requires.count)

pub returns-in-Ok-new-clause-table : goal.returns-in-Ok-new-clause-table
returns-in-Ok-new-clause-table g c =
    let parts = g.B.Parted.parts in
    let n = c.args.n in
    let rs = enumerate_from 0 (parts c.args.board) in
    let start : c.in-Ok-new.seat.me ≡ (idle n rs [], []) = c.in-Ok-new.ensures.ok.4 ∙ ap (λ b. (idle n (enumerate_from 0 (parts b)) [], [])) c.of.ensures in
    let own : c.deal.new.seat.me ≡ (idle n (drop (n - 1) rs) [], []) = c.deal.ensures.view
    ∙ ap (λ m. (idle m.0.harts (drop (n - 1) m.0.records) [], [])) start in
    let before = c.deal.ensures.records ∙ ap (λ m. dealt m.0.harts (take (n - 1) m.0.records)) start in
    let count : n ≡ length rs = c.requires.count ∙ sym (length_numbered 0 (parts c.args.board)) in
    let all = all_dealt n rs c.deal.new.passes.items c.push-in-Ok-new.new.self.items (record { seat = c.deal.new.seat }) c.requires.some count before own
    c.in-Ok-push.ensures.items in
    let id = c.in-Ok-new.table.shared.table_id in
    let key : c.in-Ok-new.table.shared.key.harts ≡ n = ap (λ k. k.harts) c.in-Ok-new.ensures.ok.5 in
    let tables : All (λ p. p.seat.table_id ≡ id) c.push-in-Ok-new.new.self.items =
    rw c.in-Ok-push.ensures.items
    (All-push (λ p. p.seat.table_id ≡ id) c.deal.new.passes.items (record { seat = c.deal.new.seat }) c.deal.ensures.table
    (c.deal.ensures.seat ∙ c.in-Ok-new.ensures.ok.2)) in
    let each = dealt_all n c.push-in-Ok-new.new.self.items rs all in
    λ k d lt. (record { table = tables k d lt; harts = (each k d lt).harts ∙ sym key }, (each k d lt).idle)

pub returns-in-Ok-new-clause-fresh : goal.returns-in-Ok-new-clause-fresh
returns-in-Ok-new-clause-fresh g c =
    let parts = g.B.Parted.parts in
    let n = c.args.n in
    let rs = enumerate_from 0 (parts c.args.board) in
    let start : c.in-Ok-new.seat.me ≡ (idle n rs [], []) = c.in-Ok-new.ensures.ok.4 ∙ ap (λ b. (idle n (enumerate_from 0 (parts b)) [], [])) c.of.ensures in
    let own : c.deal.new.seat.me ≡ (idle n (drop (n - 1) rs) [], []) = c.deal.ensures.view
    ∙ ap (λ m. (idle m.0.harts (drop (n - 1) m.0.records) [], [])) start in
    let before = c.deal.ensures.records ∙ ap (λ m. dealt m.0.harts (take (n - 1) m.0.records)) start in
    let count : n ≡ length rs = c.requires.count ∙ sym (length_numbered 0 (parts c.args.board)) in
    let all = all_dealt n rs c.deal.new.passes.items c.push-in-Ok-new.new.self.items (record { seat = c.deal.new.seat }) c.requires.some count before own
    c.in-Ok-push.ensures.items in
    λ k d lt. (dealt_all n c.push-in-Ok-new.new.self.items rs all k d lt).fresh

pub returns-in-Ok-new-clause-each : goal.returns-in-Ok-new-clause-each
returns-in-Ok-new-clause-each g c =
    let parts = g.B.Parted.parts in
    let n = c.args.n in
    let rs = enumerate_from 0 (parts c.args.board) in
    let start : c.in-Ok-new.seat.me ≡ (idle n rs [], []) = c.in-Ok-new.ensures.ok.4 ∙ ap (λ b. (idle n (enumerate_from 0 (parts b)) [], [])) c.of.ensures in
    let own : c.deal.new.seat.me ≡ (idle n (drop (n - 1) rs) [], []) = c.deal.ensures.view
    ∙ ap (λ m. (idle m.0.harts (drop (n - 1) m.0.records) [], [])) start in
    let before = c.deal.ensures.records ∙ ap (λ m. dealt m.0.harts (take (n - 1) m.0.records)) start in
    let count : n ≡ length rs = c.requires.count ∙ sym (length_numbered 0 (parts c.args.board)) in
    let all = all_dealt n rs c.deal.new.passes.items c.push-in-Ok-new.new.self.items (record { seat = c.deal.new.seat }) c.requires.some count before own
    c.in-Ok-push.ensures.items in
    λ h p at. let r = dealt_each n 0 c.push-in-Ok-new.new.self.items (parts c.args.board) all h p at in (r.0 ∙ omega arith, r.1)

pub returns-in-Ok-new-clause-every : goal.returns-in-Ok-new-clause-every
returns-in-Ok-new-clause-every g c =
    let parts = g.B.Parted.parts in
    let n = c.args.n in
    let rs = enumerate_from 0 (parts c.args.board) in
    let start : c.in-Ok-new.seat.me ≡ (idle n rs [], []) = c.in-Ok-new.ensures.ok.4 ∙ ap (λ b. (idle n (enumerate_from 0 (parts b)) [], [])) c.of.ensures in
    let own : c.deal.new.seat.me ≡ (idle n (drop (n - 1) rs) [], []) = c.deal.ensures.view
    ∙ ap (λ m. (idle m.0.harts (drop (n - 1) m.0.records) [], [])) start in
    let before = c.deal.ensures.records ∙ ap (λ m. dealt m.0.harts (take (n - 1) m.0.records)) start in
    let count : n ≡ length rs = c.requires.count ∙ sym (length_numbered 0 (parts c.args.board)) in
    let all = all_dealt n rs c.deal.new.passes.items c.push-in-Ok-new.new.self.items (record { seat = c.deal.new.seat }) c.requires.some count before own
    c.in-Ok-push.ensures.items in
    λ h lt. dealt_every n c.push-in-Ok-new.new.self.items (parts c.args.board) all h (omega (arith, lt, c.requires.count))
