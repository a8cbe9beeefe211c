-- Of each page what a hart holds, with its bytes (docs/pages.md).
use Rattle.std.specs.Prelude.{ℕ, List, map, length, Option, Some, None}
use Rattle.rv_words.specs.declared.shared.Mode.{Mode}
use Rattle.guest_pages.specs.Pages.{page_of}
use Rattle.orders_law.specs.Orders.{below}
use Rattle.order_rules.specs.Holders.{held}
use Rattle.flat_machine.specs.State.{FlatState}
use Rattle.replay_model.specs.State.{Replay}

-- what is held of a page, with its bytes
abbrev pub with_bytes : List ℕ → Option Mode → Option (Mode × List ℕ)
with_bytes bytes None = None
with_bytes bytes (Some mode) = Some (mode, bytes)

-- of each page what a hart holds, and then the memory's bytes
abbrev pub pages_in : ℕ → Replay FlatState → ℕ → List (Option (Mode × List ℕ))
pages_in unit s h = map (λ page. with_bytes (page_of unit s.flat.memory page) (held s.holders page h)) (below (length s.holders))
