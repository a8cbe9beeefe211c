use Rattle.std.proofs.Common.{◌≡◌, ◌∙◌, ◌+◌, ◌*◌, ◌≤◌, ℕ, List, length, sym, ap₂, subst, arith}
use Rattle.rv_words.specs.Memory.{put}
use Rattle.board_backing.proofs.GatheredMemory.{held_page, store_page, put_fits}
use Rattle.board_backing.proofs.ends.put_page.Goals as goal

pub put_bytes-requires : goal.put_bytes-requires
put_bytes-requires c =
    let unit : c.from.result ≡ c.args.backing.now.pages.unit = omega arith in
    subst (λ k. c.args.page * k + length c.bytes.result.now ≤ length c.args.memory.now) (sym unit)
    (put_fits c.args.runs.now c.args.backing.now c.args.page (length c.args.memory.now) c.bytes.result.now c.requires.state c.requires.page c.requires.size
    (λ s have. c.bytes.ensures
    ∙ held_page c.args.runs.now c.args.backing.now s c.args.page c.in-Some.frame.now have c.requires.page c.in-Some.ensures))

pub returns-in-Some : goal.returns-in-Some
returns-in-Some c = λ s have.
    let unit : c.from.result ≡ c.args.backing.now.pages.unit = omega arith in
    c.put_bytes.ensures
    ∙ ap₂ (λ (k : ℕ) (bytes : List ℕ). put c.args.memory.now (c.args.page * k) bytes) unit
    (c.bytes.ensures ∙ held_page c.args.runs.now c.args.backing.now s c.args.page c.in-Some.frame.now have c.requires.page c.in-Some.ensures)

pub put_bytes-requires-in-None : goal.put_bytes-requires-in-None
put_bytes-requires-in-None c =
    let unit : c.from.result ≡ c.args.backing.now.pages.unit = omega arith in
    subst (λ k. c.args.page * k + length c.bytes-in-None.result.now ≤ length c.args.memory.now) (sym unit)
    (put_fits c.args.runs.now c.args.backing.now c.args.page (length c.args.memory.now) c.bytes-in-None.result.now c.requires.state c.requires.page
    c.requires.size
    (λ s have. c.bytes-in-None.ensures
    ∙ store_page c.args.runs.now c.args.backing.now s c.args.page c.page.result.now have c.requires.page c.in-None.ensures c.page.ensures.bytes))

pub returns-in-None : goal.returns-in-None
returns-in-None c = λ s have.
    let unit : c.from.result ≡ c.args.backing.now.pages.unit = omega arith in
    c.put_bytes-in-None.ensures
    ∙ ap₂ (λ (k : ℕ) (bytes : List ℕ). put c.args.memory.now (c.args.page * k) bytes) unit
    (c.bytes-in-None.ensures
    ∙ store_page c.args.runs.now c.args.backing.now s c.args.page c.page.result.now have c.requires.page c.in-None.ensures c.page.ensures.bytes)
