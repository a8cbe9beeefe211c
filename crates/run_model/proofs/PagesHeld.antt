-- What a run has of its pages is what its hart holds of them.
use Rattle.std.proofs.Common.{◌≡◌, ℕ, List, [], ◌∷◌, map, length, Option, Some, None, refl, sym, ap, ap₂, ◌∙◌}
use Rattle.std.specs.Prelude.{IsSome}
use Rattle.rv_words.specs.declared.shared.Mode.{Mode}
use Rattle.guest_pages.specs.Pages.{bytes_of, page_of}
use Rattle.orders_law.specs.Orders.{below}
use Rattle.order_rules.specs.Holders.{held}
use Rattle.flat_machine.specs.State.{FlatState}
use Rattle.replay_model.specs.State.{Replay}
use Rattle.run_model.specs.Run.{Run, hold_of}
use Rattle.run_model.specs.Agreement.{Agrees}
use Rattle.run_model.specs.PagesHeld.{pages_in, with_bytes}

-- what a run has of pages
pub pages_by : Run → List (Option (Mode × List ℕ))
pages_by x = map (λ page. with_bytes (bytes_of x.frames page) (hold_of x page)) (below (length x.frames.pages))

map_alike : {X Y : Type 0} (f g : X → Y) (xs : List X) → ((x : X) → f x ≡ g x) → map f xs ≡ map g xs
map_alike f g [] same = refl
map_alike f g (x ∷ xs) same = ap₂ (λ y ys. y ∷ ys) (same x) (map_alike f g xs same)

held_bytes : (mode : Option Mode) (one other : List ℕ) → (IsSome mode → one ≡ other) → with_bytes one mode ≡ with_bytes other mode
held_bytes None one other same = refl
held_bytes (Some m) one other same = ap (λ bytes. with_bytes bytes (Some m)) (same refl)

pub pages_are : (unit : ℕ) (x : Run) (h : ℕ) (s : Replay FlatState) → Agrees x h s → x.frames.unit ≡ unit → pages_in unit s h ≡ pages_by x
unfolding pages_by
pages_are unit x h s a same =
    map_alike (λ page. with_bytes (page_of unit s.flat.memory page) (held s.holders page h)) (λ page. with_bytes (bytes_of x.frames page) (hold_of x page))
    (below (length s.holders)) (λ page. ap (with_bytes (page_of unit s.flat.memory page)) (a.modes page)
    ∙ held_bytes (hold_of x page) (page_of unit s.flat.memory page) (bytes_of x.frames page)
    (λ some. ap (λ u. page_of u s.flat.memory page) (sym same) ∙ a.bytes page some))
    ∙ ap (λ k. map (λ page. with_bytes (bytes_of x.frames page) (hold_of x page)) (below k)) a.table
