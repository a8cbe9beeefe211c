-- The moves along an order are the story of its acts.
use Rattle.std.proofs.Common.{◌≡◌, ℕ, ◌==◌, nat_eq, Bool, true, false, List, [], ◌∷◌, ◌++◌, map, flat_map, Option, Some, None, slice_get, refl, sym}
use Rattle.std.proofs.Common.{ap, ◌∙◌, inl, inr, if◌then◌else◌, append_assoc, append-nil}
use Rattle.std.specs.List.{cons_option}
use Rattle.std.specs.Option.{option_and_then, option_map_or, option_eq}
use Rattle.std.proofs.lemmas.Option.{none-some, same_Some}
use Rattle.std.proofs.lemmas.Bool.Decides.{eqb_tells}
use Rattle.log_entry.specs.declared.log.Entry.TheVariants as entries
use Rattle.log_entry.specs.declared.log.Log.{Log}
use Rattle.flat_machine.specs.State.{FlatState}
use Rattle.flat_machine.specs.Runs as runs
use Rattle.flat_machine.specs.Runs.{run_from, step_between, mover, told}
use Rattle.flat_machine.specs.Acts.{next}
use Rattle.flat_machine.specs.declared.act.Act.{Act}
use Rattle.flat_machine.specs.declared.act.Act.TheVariants.{Run, Touch, Poll, Lose}
use Rattle.flat_machine.specs.declared.results.Step.{Step}
use Rattle.replay_model.specs.Board.{board}
use Rattle.replay_model.specs.State.{Replay}
use Rattle.replay_model.specs.Items.{Item, Ended, Move, Makes, Verdict, HasEnded, Holds, CanGo, HasDiverged, verdict_on, made, acted, past, told_of}
use Rattle.replay_model.specs.Items.{goes, ends_reservation, next_item, story}
use Rattle.replay_model.specs.Acts.{acts_of_item, acts_of}
use Rattle.replay_model.specs.Laws.{OrdersTell}
use Rattle.replay_model.proofs.ActsOfOrders.{mapped, went, one_item, board_runs}

-- what a move of a hart adds to a story
abbrev part : ℕ → ℕ → Option (List Step) → List Step
part h g move = option_map_or (λ steps. steps) (if g == h then move else None) []

no_part : (h g : ℕ) → part h g None ≡ []
no_part h g = of (g == h) where
  of : (b : Bool) → option_map_or (λ (steps : List Step). steps) (if b then None else None) [] ≡ []
  of true = refl
  of false = refl

abbrev between : FlatState → FlatState → ℕ → List Step
between s t h = step_between s.memory (slice_get s.harts h) (slice_get t.harts h)

move_part : (s t : FlatState) (h g : ℕ) → (if g == h then between s t h else []) ≡ part h g (Some (between s t g))
move_part s t h g = elim (eqb_tells g h) [
  | inl (e, same) ↦ ap (λ b. if b then between s t h else []) e ∙ ap (between s t) (sym same)
      ∙ sym (ap (λ b. option_map_or (λ (steps : List Step). steps) (if b then Some (between s t g) else None) []) e)
  | inr (e, n) ↦ ap (λ b. if b then between s t h else []) e
      ∙ sym (ap (λ b. option_map_or (λ (steps : List Step). steps) (if b then Some (between s t g) else None) []) e)
]

story_append : (h : ℕ) (s t : FlatState) (xs ys : List Act) → run_from s xs ≡ Some t → runs.story h s (xs ++ ys) ≡ runs.story h s xs ++ runs.story h t ys
story_append h s t [] ys e = ap (λ u. runs.story h u ys) (same_Some _ _ e)
story_append h s t (act ∷ xs) ys e = of (next act s) e (λ u r. story_append h u t xs ys r) where
  of : (o : Option FlatState) → option_and_then (λ u. run_from u xs) o ≡ Some t
      → ((u : FlatState) → run_from u xs ≡ Some t → runs.story h u (xs ++ ys) ≡ runs.story h u xs ++ runs.story h t ys)
      → option_map_or (λ u. told h act s u ++ runs.story h u (xs ++ ys)) o []
      ≡ option_map_or (λ u. told h act s u ++ runs.story h u xs) o [] ++ runs.story h t ys
  of None r more = absurd (none-some _ r)
  of (Some u) r more = ap (λ zs. told h act s u ++ zs) (more u r) ∙ sym (append_assoc (told h act s u) (runs.story h u xs) (runs.story h t ys))

-- the story of one act that is made
one_told : (h : ℕ) (s t : FlatState) (act : Act) → next act s ≡ Some t → runs.story h s (act ∷ []) ≡ told h act s t
one_told h s t act e = ap (λ o. option_map_or (λ u. told h act s u ++ []) o []) e ∙ append-nil (told h act s t)

silent : (h : ℕ) (s : FlatState) (act : Act) → mover act ≡ None → runs.story h s (act ∷ []) ≡ []
silent h s act m = of (next act s) where
  of : (o : Option FlatState) → option_map_or (λ u. told h act s u ++ []) o [] ≡ []
  of None = refl
  of (Some u) = ap (λ (g : Option ℕ). (if option_eq nat_eq g (Some h) then between s u h else []) ++ []) m

item_part : (unit : ℕ) (h g : ℕ) (s m : Replay FlatState) (item : Item) → made (board unit) s g item ≡ Some m
    → runs.story h s.flat (acts_of_item (board unit) s g item) ≡ part h g (told_of (board unit) s g item m)
item_part unit h g s m Ended is = absurd (none-some _ is)
item_part unit h g s m Move is =
    let a = mapped (λ (f : FlatState). record s { flat = f }) (next (Run g) s.flat) m is in
    one_told h s.flat a.0 (Run g) a.1 ∙ move_part s.flat a.0 h g ∙ ap (λ (x : Replay FlatState). part h g (Some (between s.flat x.flat g))) a.2
item_part unit h g s m (Makes (entries.Touch count ord input)) is =
    let e = entries.Touch count ord input in
    let p = mapped (past (board unit) g e) (acted (board unit) s (Touch g input)) m is in
    let a = mapped (λ (f : FlatState). record s { flat = f }) (next (Touch g input) s.flat) p.0 p.1 in
    one_told h s.flat a.0 (Touch g input) a.1 ∙ move_part s.flat a.0 h g
    ∙ ap (λ (x : Replay FlatState). part h g (Some (between s.flat x.flat g))) (ap (past (board unit) g e) a.2 ∙ p.2)
item_part unit h g s m (Makes (entries.Poll count ord time bits)) is = silent h s.flat (Poll g time) refl ∙ sym (no_part h g)
item_part unit h g s m (Makes (entries.Gain count page seq mode waits)) is = sym (no_part h g)
item_part unit h g s m (Makes (entries.Yield count page seq left)) is = of (ends_reservation (board unit) s g page) ∙ sym (no_part h g) where
  of : (b : Bool) → runs.story h s.flat (if b then Lose g ∷ [] else []) ≡ []
  of true = silent h s.flat (Lose g) refl
  of false = refl
item_part unit h g s m (Makes (entries.End count)) is = absurd (none-some _ is)

-- the first move of an order stands first in the story
first_part : (unit : ℕ) (log : Log) (h g : ℕ) (move : Option (List Step)) (more : List (ℕ × Option (List Step)))
    → flat_map (λ steps. steps) (story (board unit) log h ((g, move) ∷ more)) ≡ part h g move ++ flat_map (λ steps. steps) (story (board unit) log h more)
first_part unit log h g move more = of (if g == h then move else None) where
  of : (o : Option (List Step)) → flat_map (λ steps. steps) (cons_option o (story (board unit) log h more))
      ≡ option_map_or (λ steps. steps) o [] ++ flat_map (λ steps. steps) (story (board unit) log h more)
  of None = refl
  of (Some steps) = refl

went_told : (unit : ℕ) (s m : Replay FlatState) (h : ℕ) (item : Item) (v : Verdict) (w : Option (List Step)) → goes (board unit) s h item v ≡ Some (m, w)
    → w ≡ told_of (board unit) s h item m
went_told unit s m h item CanGo w is =
    let a = mapped (λ (t : Replay FlatState). (t, told_of (board unit) s h item t)) (made (board unit) s h item) (m, w) is in
    sym (ap (λ (x : Replay FlatState × Option (List Step)). x.1) a.2)
    ∙ ap (λ (x : Replay FlatState × Option (List Step)). told_of (board unit) s h item x.0) a.2
went_told unit s m h item HasEnded w is = absurd (none-some _ is)
went_told unit s m h item Holds w is = absurd (none-some _ is)
went_told unit s m h item (HasDiverged rule) w is = absurd (none-some _ is)

pub orders_tell : OrdersTell
orders_tell unit log s t [] h is = refl
orders_tell unit log s t (x ∷ more) h is =
    let order = map (λ (m : ℕ × Option (List Step)). m.0) more in
    let item = next_item (board unit) log s x.0 in
    let acts = acts_of_item (board unit) s x.0 item in
    let makes = went (board unit) s is.0 x.0 item (verdict_on (board unit) s x.0 item) x.1 is.1 in
    let later = flat_map (λ (steps : List Step). steps) (story (board unit) log h more) in
    first_part unit log h x.0 x.1 more
    ∙ ap (λ v. part h x.0 v ++ later) (went_told unit s is.0 x.0 item (verdict_on (board unit) s x.0 item) x.1 is.1)
    ∙ ap (λ zs. zs ++ later) (sym (item_part unit h x.0 s is.0 item makes))
    ∙ ap (λ zs. runs.story h s.flat acts ++ zs) (orders_tell unit log is.0 t more h is.2)
    ∙ sym (story_append h s.flat is.0.flat acts (acts_of (board unit) log is.0 order)
    (board_runs unit s.flat acts ∙ one_item (board unit) s is.0 x.0 item makes))
    ∙ sym (ap (λ o. runs.story h s.flat (option_map_or (λ (m : Replay FlatState × Option (List Step)). acts ++ acts_of (board unit) log m.0 order) o []))
    is.1)
