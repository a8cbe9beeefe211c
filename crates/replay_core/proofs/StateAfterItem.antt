-- What a board stands for once a hart had an item.
use Rattle.std.proofs.Common.{◌≡◌, ℕ, ◌≤◌, ◌++◌, List, [], ◌∷◌, map, length, Option, Some, None}
use Rattle.std.proofs.Common.{refl, sym, ap, ap₂, ◌∙◌, subst, arith}
use Rattle.std.proofs.lemmas.Option.{get_or_from_slice_get}
use Rattle.std.specs.Option.{option_map, option_map_or}
use Rattle.elf_image.specs.Image.{Image}
use Rattle.log_entry.specs.declared.log.Entry.{Entry}
use Rattle.log_entry.specs.Parts.{unit_of}
use Rattle.order_rules.specs.Cursor.{Cursor, first_left, taken}
use Rattle.flat_machine.specs.State.{FlatState}
use Rattle.flat_machine.specs.declared.results.Step.{Step}
use Rattle.replay_model.specs.Board.{board}
use Rattle.replay_model.specs.State.{Replay}
use Rattle.replay_model.specs.Items.{Item, Makes, Verdict, CanGo, item_at, next_item, verdict_on, effect, past, made, told_of, goes, step}
use Rattle.run_model.specs.Run.{Run}
use Rattle.run_model.specs.Agreement.{Agrees, IsAhead}
use Rattle.run_model.specs.declared.asked.Ahead.{Ahead}
use Rattle.board_backing.specs.declared.backing.Backing.{Backing}
use Rattle.board_backing.specs.Backing as backings
use Rattle.board_backing.specs.Backing.{Backs}
use Rattle.replay_law.specs.Laws.{first_replay}
use Rattle.replay_law.proofs.Timely.{Timely, timely}
use Rattle.replay_parts.proofs.Advancing.{log_unit}
use Rattle.replay_core.specs.declared.position.Position.{Position}
use Rattle.replay_core.specs.declared.went.Went.{Went}
use Rattle.replay_core.specs.declared.went.Went.TheVariants as went
use Rattle.replay_core.specs.Items.{went_of, after}
use Rattle.replay_core.specs.Standing.{IsRoomy, Stands, Goes, item_of}
use Rattle.orders_law.proofs.Leads.{leads_on}

pub reached : (image : Image) (b : Position) (s : Replay FlatState) → (st : Stands image b s) → Timely b.log image st.replayable s
reached image b s st = timely b.log image st.replayable s st.obeys.0 st.obeys.2

some_page : (image : Image) (b : Position) (s : Replay FlatState) → Stands image b s → 1 ≤ b.log.pages
some_page image b s st = let l = st.replayable.whole.least_pages in let p = st.replayable.pages in omega (arith, l, p)

pub store_unit : (image : Image) (b : Position) (s : Replay FlatState) → Stands image b s → b.backing.pages.unit ≡ unit_of b.log
store_unit image b s st =
    let sound = (reached image b s st).going.good.sound in
    log_unit b.log (length b.backing.pages.pages) (length s.flat.memory) b.backing.pages.unit (some_page image b s st) (st.backs.number ∙ sound.table)
    st.backs.memory sound.sized.memory_size

pub run_unit : (image : Image) (b : Position) (r : Run) (h : ℕ) (s : Replay FlatState) → Stands image b s → Agrees r h s → r.frames.unit ≡ unit_of b.log
run_unit image b r h s st a =
    let sound = (reached image b s st).going.good.sound in
    log_unit b.log (length r.frames.pages) (length s.flat.memory) r.frames.unit (some_page image b s st) (sym a.table ∙ sound.table)
    a.memory sound.sized.memory_size

-- what is ahead of a run, by the log's unit
pub ahead_is : (image : Image) (b : Position) (r : Run) (h : ℕ) (s : Replay FlatState) (ahead : Ahead) → Stands image b s → Agrees r h s
    → IsAhead r.frames.unit h s ahead → IsAhead (unit_of b.log) h s ahead
ahead_is image b r h s ahead st a asks = subst (λ u. IsAhead u h s ahead) (run_unit image b r h s st a) asks

-- the board's item of a run is the state's
pub item_is : (image : Image) (b : Position) (r : Run) (h : ℕ) (s : Replay FlatState) → Stands image b s → Agrees r h s
    → next_item (board (unit_of b.log)) b.log s h ≡ item_of b r h
item_is image b r h s st a = ap₂ (λ n c. item_at n (first_left b.log c h)) (get_or_from_slice_get s.flat.counts h r.count 0 a.count) (sym st.cursor)

pub stands_on : (image : Image) (old : Position) (backing : Backing) (cursor : Cursor) (h : ℕ) (s a : Replay FlatState) (w : Option (List Step))
    → Stands image old s → step (board (unit_of old.log)) old.log h s ≡ Some (a, w) → cursor ≡ a.cursor → Backs backing a
    → IsRoomy (record { log = old.log; backing = backing; cursor = cursor }) → Stands image (record { log = old.log; backing = backing; cursor = cursor }) a
stands_on image old backing cursor h s a w st did cursor_is backs roomy =
    let xs : List (ℕ × Option (List Step)) = st.obeys.0 ++ (h, w) ∷ [] in
    record {
      replayable = st.replayable;
      range = st.range;
      order = map (λ (m : ℕ × Option (List Step)). m.0) (st.obeys.0 ++ (h, w) ∷ []);
      obeys = (
        st.obeys.0 ++ (h, w) ∷ [],
        refl,
        leads_on (step (board (unit_of old.log)) old.log) (first_replay old.log image) s a st.obeys.0 ((h, w) ∷ []) st.obeys.2 (a, did, refl),
      );
      cursor = cursor_is;
      backs = backs;
      roomy = roomy;
    }

pub backs_past : (b : Backing) (c : Cursor) (s : Replay FlatState) → Backs b s → Backs b (record s { cursor = c })
backs_past b c s k = record { unit_is = k.unit_is; memory = k.memory; number = k.number; devices_are = k.devices_are; bytes = k.bytes }

pub agrees_past : (r : Run) (h : ℕ) (c : Cursor) (s : Replay FlatState) → Agrees r h s → Agrees r h (record s { cursor = c })
agrees_past r h c s a =
    record {
      unit_is = a.unit_is;
      harts = a.harts;
      memory = a.memory;
      table = a.table;
      rows = a.rows;
      hart = a.hart;
      count = a.count;
      modes = a.modes;
      bytes = a.bytes;
    }

board_is : (old new : Position) (cursor : Cursor) → new.log ≡ old.log → new.cursor ≡ cursor
    → record { log = old.log; backing = new.backing; cursor = cursor } ≡ new
board_is old new cursor l c = λ i. record { log = sym l i; backing = new.backing; cursor = sym c i }

-- an item was made
pub went_to : (image : Image) (old new : Position) (r : Run) (h : ℕ) (item : Item) (s a : Replay FlatState) (answer : Went) → Stands image old s
    → next_item (board (unit_of old.log)) old.log s h ≡ item → verdict_on (board (unit_of old.log)) s h item ≡ CanGo
    → made (board (unit_of old.log)) s h item ≡ Some a
    → new.log ≡ old.log → new.cursor ≡ a.cursor → Backs new.backing a → IsRoomy new → Agrees r h a → answer ≡ went_of item CanGo
    → Goes image new r old.log h s answer
went_to image old new r h item s a answer st next go is log_is cursor_is backs roomy agrees answer_is =
    let did : step (board (unit_of old.log)) old.log h s ≡ Some (a, told_of (board (unit_of old.log)) s h item a) =
    ap (λ i. goes (board (unit_of old.log)) s h i (verdict_on (board (unit_of old.log)) s h i)) next ∙ ap (goes (board (unit_of old.log)) s h item) go
    ∙ ap (option_map (λ (t : Replay FlatState). (t, told_of (board (unit_of old.log)) s h item t))) is in
    let after_is : a ≡ after old.log h s = sym (ap (λ (o : Option (Replay FlatState × Option (List Step))). option_map_or (λ m. m.0) o s) did) in
    let eq : record { log = old.log; backing = new.backing; cursor = a.cursor } ≡ new = board_is old new a.cursor log_is cursor_is in
    record {
      answer_is = answer_is ∙ sym (ap (λ i. went_of i (verdict_on (board (unit_of old.log)) s h i)) next ∙ ap (went_of item) go);
      stands = subst (Stands image new) after_is
          (subst (λ z. Stands image z a) eq
          (stands_on image old new.backing a.cursor h s a (told_of (board (unit_of old.log)) s h item a) st did refl backs (subst IsRoomy (sym eq) roomy)));
      agrees = subst (Agrees r h) after_is agrees;
    }

-- an entry was made
pub entered : (image : Image) (old new : Position) (r : Run) (h : ℕ) (e : Entry) (s : Replay FlatState) → Stands image old s
    → next_item (board (unit_of old.log)) old.log s h ≡ Makes e → verdict_on (board (unit_of old.log)) s h (Makes e) ≡ CanGo
    → backings.Leads old.backing new.backing r h (effect (board (unit_of old.log)) s h e)
    → new.log ≡ old.log → new.cursor ≡ taken old.cursor h e → IsRoomy new
    → (s_cursor : (t : Replay FlatState) → effect (board (unit_of old.log)) s h e ≡ Some t → t.cursor ≡ s.cursor) → Goes image new r old.log h s went.Entry
entered image old new r h e s st next go leads log_is cursor_is roomy same =
    let t = leads.at in
    let c : Cursor = taken t.cursor h e in
    let cursor_then : new.cursor ≡ taken t.cursor h e = cursor_is ∙ ap (λ z. taken z h e) (st.cursor ∙ sym (same t leads.made)) in
    went_to image old new r h (Makes e) s (past (board (unit_of old.log)) h e t) went.Entry st next go
    (ap (option_map (past (board (unit_of old.log)) h e)) leads.made) log_is cursor_then (backs_past new.backing c t leads.backs) roomy
    (agrees_past r h c t leads.agrees) refl

-- nothing was made
pub stayed : (image : Image) (b : Position) (r : Run) (h : ℕ) (item : Item) (v : Verdict) (s : Replay FlatState) (answer : Went) → Stands image b s
    → Agrees r h s → next_item (board (unit_of b.log)) b.log s h ≡ item → verdict_on (board (unit_of b.log)) s h item ≡ v
    → goes (board (unit_of b.log)) s h item v ≡ None
    → answer ≡ went_of item v → Goes image b r b.log h s answer
stayed image b r h item v s answer st a next is none answer_is =
    let did : step (board (unit_of b.log)) b.log h s ≡ None =
    ap (λ i. goes (board (unit_of b.log)) s h i (verdict_on (board (unit_of b.log)) s h i)) next ∙ ap (goes (board (unit_of b.log)) s h item) is ∙ none in
    let after_is : s ≡ after b.log h s = sym (ap (λ (o : Option (Replay FlatState × Option (List Step))). option_map_or (λ m. m.0) o s) did) in
    record {
      answer_is = answer_is ∙ sym (ap (λ i. went_of i (verdict_on (board (unit_of b.log)) s h i)) next ∙ ap (went_of item) is);
      stands = subst (Stands image b) after_is st;
      agrees = subst (Agrees r h) after_is a;
    }
