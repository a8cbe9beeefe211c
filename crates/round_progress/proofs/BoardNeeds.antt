-- On the board, what a hart needs stays while other harts go, where it wants nothing; and so does the first page of every need.
use Rattle.std.proofs.Common.{◌≡◌, ◌≢◌, ℕ, List, [], Option, Some, None, slice_get, refl, ap, ◌∙◌}
use Rattle.std.proofs.Common.{subst}
use Rattle.std.specs.Option.{option_map_or}
use Rattle.std.proofs.lemmas.Option.{same_Some}
use Rattle.rv_hart.specs.State.{Hart}
use Rattle.rv_hart.specs.Needs.{pages_needed}
use Rattle.rv_hart.specs.Effects.{fetch_of}
use Rattle.rv_hart.specs.declared.effect.Fetch.{Fetch}
use Rattle.rv_hart.specs.declared.effect.Fetch.TheVariants as fetch
use Rattle.log_entry.specs.declared.log.Log.{Log}
use Rattle.elf_image.specs.Image.{Image, IsWhole}
use Rattle.flat_machine.specs.State.{FlatState, flat_at_start}
use Rattle.flat_machine.specs.Acts.{next}
use Rattle.flat_machine.specs.Moves.{fetched, fetched_by}
use Rattle.flat_machine.specs.declared.act.Act.{Act}
use Rattle.flat_machine.specs.declared.results.Step.{Step}
use Rattle.replay_model.specs.Board.{board}
use Rattle.turn_model.specs.Board.{Supply, Terms, unit_in}
use Rattle.replay_model.specs.State.{Replay, want}
use Rattle.replay_model.specs.Items.{Item, CanGo, verdict_on, step}
use Rattle.replay_law.proofs.Local.{actor, HasPages}
use Rattle.replay_law.proofs.Steps.{act_of, flat_after, step_went}
use Rattle.replay_law.proofs.Verdicts.{act_is}
use Rattle.replay_law.proofs.Views.{Shape, Sound}
use Rattle.replay_law.proofs.Boards.{made_of, board_local}
use Rattle.turn_laws.proofs.ReachedBoards.{shape_in, known_sound, known_step}
use Rattle.turn_model.specs.Laws.{IsPagedBoard, machine_in}
use Rattle.turn_model.specs.Faithful.{IsFaithful}
use Rattle.round_progress.proofs.OtherHarts.{NeedsStay, first_of}

-- the first page of a need doesn't hang on the fetched word
first_by : (unit : ℕ) (x : Hart) (memory other : List ℕ) (f : Fetch)
    → first_of (pages_needed unit x (fetched_by memory f)) ≡ first_of (pages_needed unit x (fetched_by other f))
first_by unit x memory other fetch.Interrupt = refl
first_by unit x memory other fetch.Fault = refl
first_by unit x memory other (fetch.At at) = refl

first_at : (unit : ℕ) (memory other : List ℕ) (o : Option Hart)
    → first_of (option_map_or (λ x. pages_needed unit x (fetched x memory)) o []) ≡ first_of (option_map_or (λ x. pages_needed unit x (fetched x other)) o [])
first_at unit memory other None = refl
first_at unit memory other (Some x) = first_by unit x memory other (fetch_of x)

module _ (shape : Shape) where
  -- what stays
  abbrev Stays : Replay FlatState → FlatState → ℕ → Type 0
  Stays s t h =
      (want (board shape.unit) s h ≡ None → ((board shape.unit).need t h ≡ (board shape.unit).need s.flat h)
      × ((board shape.unit).is_at_device t h ≡ (board shape.unit).is_at_device s.flat h))
      × (first_of ((board shape.unit).need t h) ≡ first_of ((board shape.unit).need s.flat h))

  act_stays : (s : Replay FlatState) (act : Act) (t : FlatState) (h : ℕ) → Sound shape s → HasPages (board shape.unit) s act → next act s.flat ≡ Some t
      → h ≢ actor act → Stays s t h
  act_stays s act t h sound has did other =
      let u = (board_local shape).undisturbed s act t h sound has did other in
      let m = made_of shape s act t sound has did in (
        λ none. (u.need none, u.at_device none),
        ap (λ o. first_of (option_map_or (λ x. pages_needed shape.unit x (fetched x t.memory)) o [])) (m.done.harts h other)
            ∙ first_at shape.unit t.memory s.flat.memory (slice_get s.flat.harts h),
      )

  acts_stay : (s : Replay FlatState) (g h : ℕ) (item : Item) (p : Option Act) (t : FlatState) → Sound shape s → verdict_on (board shape.unit) s g item ≡ CanGo
      → act_of (board shape.unit) s g item ≡ p → h ≢ g → flat_after (board shape.unit) s.flat p ≡ Some t → Stays s t h
  acts_stay s g h item None t sound go is other after = subst (λ f. Stays s f h) (same_Some _ _ after) (λ none. (refl, refl), refl)
  acts_stay s g h item (Some act) t sound go is other after =
      let a = act_is (board shape.unit) s g item act go is in
      act_stays s act t h sound a.has after (λ e. other (e ∙ a.by))

  step_stays : (log : Log) (s t : Replay FlatState) (g h : ℕ) (w : Option (List Step)) → Sound shape s → h ≢ g → step (board shape.unit) log g s ≡ Some (t, w)
      → Stays s t.flat h
  step_stays log s t g h w sound other is =
      let x = step_went (board shape.unit) log s t g w is in
      acts_stay s g h x.item (act_of (board shape.unit) s g x.item) t.flat sound x.go refl other x.flat_is

pub board_needs_stay : (terms : Terms) (image : Image) (harts : ℕ)
    (faithful : IsFaithful (board (unit_in terms)) harts terms.pages (IsPagedBoard harts terms.pages)) → terms.pages ≡ image.pages
    → IsPagedBoard harts terms.pages (flat_at_start image harts) → IsWhole image
    → NeedsStay (machine_in terms) terms harts (IsPagedBoard harts terms.pages) faithful (flat_at_start image harts)
board_needs_stay terms image harts faithful pages starts whole r m items g h item known one other =
    let nothing : Supply = record { answers = []; takes = 0; times = [] } in
    let next = known_step terms image harts nothing pages r m items g item known one in
    step_stays (shape_in terms harts) next.0 r.at m.at g h next.1.0 (known_sound terms image harts nothing pages whole r items known) other next.1.1
