-- What a hart sees of a sound state: a run that agrees with it.
use Rattle.std.proofs.Common.{◌≡◌, ℕ, ◌*◌, ◌/◌, ◌<◌, ◌≤◌, inl, inr, List, [], map, length, Option, Some, None, slice_get, slice_index, unwrap_or}
use Rattle.std.proofs.Common.{true≢false, refl, sym, ap, ◌∙◌, subst, arith, zero-add}
use Rattle.std.specs.Prelude.{All, IsSome, is_some, slice_index_or}
use Rattle.std.specs.List.{range_with_len}
use Rattle.std.proofs.lemmas.Bool.{cases_lt}
use Rattle.std.proofs.lemmas.List.FromFn.{length-map-range_with_len, get_or-map-range_with_len}
use Rattle.std.proofs.lemmas.Option.{slice_get_past, slice_get-get_or, unwrap_or-slice_get}
use Rattle.rv_words.specs.Limits.{IsUnit, page_bytes}
use Rattle.rv_words.proofs.Units.{at_units}
use Rattle.rv_words.specs.declared.shared.Mode.{Mode}
use Rattle.rv_hart.specs.State.{Hart}
use Rattle.flat_machine.specs.State.{FlatState, OnBoard, FitsTogether}
use Rattle.guest_pages.specs.Pages.{page_of, paged, bytes_of}
use Rattle.log_entry.specs.declared.log.Log.{Log}
use Rattle.log_entry.specs.Parts.{unit_of, units_of}
use Rattle.replay_model.specs.Board.{board}
use Rattle.order_rules.specs.Holders.{Holders, held}
use Rattle.replay_model.specs.State.{Replay}
use Rattle.run_model.specs.Run.{Run, hold_of, IsOneRun}
use Rattle.run_model.specs.Agreement.{Agrees}
use Rattle.std.proofs.lemmas.Option.{slice_get_within}
use Rattle.replay_law.proofs.Local.{IsWellHeld}

-- a state of a board with so many harts and pages
abbrev pub Fits : ℕ → ℕ → FlatState → Type 0
Fits harts pages f = FitsTogether f.harts f.counts f.memory pages harts

-- how large a board is: its harts, its pages of 4,096 bytes, and its units, which are as many bytes
pub record Shape : Type 0 where
  pub unit : ℕ
  pub harts : ℕ
  pub pages : ℕ
  pub units : ℕ
  pub unit_is : IsUnit unit
  pub whole : units * unit ≡ page_bytes * pages

-- of a log
abbrev pub shape_of : Log → Shape
shape_of log =
    record { unit = unit_of log; harts = length log.streams; pages = log.pages; units = units_of log; unit_is = inr (inr refl); whole = omega arith }

abbrev pub view : Shape → Replay FlatState → ℕ → Hart → Run
view shape s h x =
    record {
      hart = x;
      count = slice_index s.flat.counts h;
      held = map (λ page. held s.holders page h) (range_with_len 0 shape.units);
      frames = paged shape.unit s.flat.memory;
    }

beyond_table : (holders : Holders) (page h : ℕ) → length holders ≤ page → held holders page h ≡ None
beyond_table holders page h l = ap (λ o. unwrap_or (slice_get (unwrap_or o []) h) None) (slice_get_past holders page l)

view_holds : (shape : Shape) (s : Replay FlatState) (h : ℕ) (x : Hart) (page : ℕ) → length s.holders ≡ shape.units
    → held s.holders page h ≡ hold_of (view shape s h x) page
view_holds shape s h x page table =
    let f : ℕ → Option Mode = λ k. held s.holders k h in
    elim (cases_lt page shape.units) [
      | inl l ↦ sym (unwrap_or-slice_get (map f (range_with_len 0 shape.units)) page None
          ∙ get_or-map-range_with_len f 0 shape.units page page None l (zero-add page))
      | inr m ↦ beyond_table s.holders page h (omega (arith, m, table))
          ∙ sym (ap (λ o. unwrap_or o None) (slice_get_past (map f (range_with_len 0 shape.units)) page
          (omega (arith, m, length-map-range_with_len f 0 shape.units))))
    ]

held_inside : (holders : Holders) (page h : ℕ) → IsSome (held holders page h) → page < length holders
held_inside holders page h some = elim (cases_lt page (length holders)) [
  | inl l ↦ l
  | inr m ↦ absurd (true≢false (sym some ∙ ap is_some (beyond_table holders page h m)))
]

pub on_board : (n p : ℕ) (xs : List Hart) (h : ℕ) (x : Hart) → All (OnBoard n p) xs → slice_get xs h ≡ Some x → OnBoard n p x
on_board n p xs h x all at =
    let l = slice_get_within xs h x at in
    let is : slice_index_or xs h x ≡ x = sym (unwrap_or-slice_get xs h x) ∙ ap (λ o. unwrap_or o x) at in
    subst (OnBoard n p) is (all h x l)

units_number : (shape : Shape) (size : ℕ) → size ≡ page_bytes * shape.pages → size / shape.unit ≡ shape.units
units_number shape size long =
    at_units (λ u. shape.units * u ≡ page_bytes * shape.pages → size / u ≡ shape.units) shape.unit shape.unit_is
    (λ w. omega (arith, long, w)) (λ w. omega (arith, long, w)) (λ w. omega (arith, long, w)) shape.whole

module _ (shape : Shape) where
  abbrev pub Sound : Replay FlatState → Type 0
  Sound s = IsWellHeld (board shape.unit) (Fits shape.harts shape.pages) shape.harts shape.units s

  number_of_pages : (s : Replay FlatState) → Sound s → length s.flat.memory / shape.unit ≡ shape.units
  number_of_pages s sound = units_number shape (length s.flat.memory) sound.sized.memory_size

  frames_number : (s : Replay FlatState) → Sound s → length (paged shape.unit s.flat.memory).pages ≡ shape.units
  frames_number s sound = length-map-range_with_len (page_of shape.unit s.flat.memory) 0 (length s.flat.memory / shape.unit) ∙ number_of_pages s sound

  frames_size : (s : Replay FlatState) → Sound s → length (paged shape.unit s.flat.memory).pages * shape.unit ≡ page_bytes * shape.pages
  frames_size s sound = ap (λ k. k * shape.unit) (frames_number s sound) ∙ shape.whole

  pub view_is_one : (s : Replay FlatState) (h : ℕ) (x : Hart) → Sound s → slice_get s.flat.harts h ≡ Some x → IsOneRun (view shape s h x)
  view_is_one s h x sound at = record {
    unit = shape.unit_is;
    pages = frames_size s sound ∙ ap (λ k. page_bytes * k) (sym (on_board shape.harts shape.pages s.flat.harts h x sound.sized.same_board at).1);
    held_size = length-map-range_with_len (λ page. held s.holders page h) 0 shape.units ∙ sym (frames_number s sound);
  }

  view_bytes : (s : Replay FlatState) (page : ℕ) → Sound s → page < shape.units
      → page_of shape.unit s.flat.memory page ≡ bytes_of (paged shape.unit s.flat.memory) page
  view_bytes s page sound l =
      let f : ℕ → List ℕ = page_of shape.unit s.flat.memory in
      let n = length s.flat.memory / shape.unit in
      let inside : page < n = (let k = number_of_pages s sound in omega (arith, l, k)) in
      sym (unwrap_or-slice_get (map f (range_with_len 0 n)) page [] ∙ get_or-map-range_with_len f 0 n page page [] inside (zero-add page))

  pub view_agrees : (s : Replay FlatState) (h : ℕ) (x : Hart) → Sound s → slice_get s.flat.harts h ≡ Some x → Agrees (view shape s h x) h s
  view_agrees s h x sound at =
      let board_is = on_board shape.harts shape.pages s.flat.harts h x sound.sized.same_board at in
      let number = frames_number s sound in
      record {
        unit_is = shape.unit_is;
        harts = sound.sized.harts_size ∙ sym board_is.0;
        memory = sound.sized.memory_size ∙ sym (frames_size s sound);
        table = sound.table ∙ sym number;
        rows = λ page l. sound.rows page (let t = sound.table in omega (arith, l, t)) ∙ sym sound.sized.harts_size;
        hart = at;
        count = slice_get-get_or s.flat.counts h 0 (let w = slice_get_within s.flat.harts h x at in let c = sound.sized.counts_size in omega (arith, w, c));
        modes = λ page. view_holds shape s h x page sound.table;
        bytes = λ page some. view_bytes s page sound (
            let i = held_inside s.holders page h (subst IsSome (sym (view_holds shape s h x page sound.table)) some) in
            let t = sound.table in omega (arith, i, t));
      }
