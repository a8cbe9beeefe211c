-- A replay whose harts go no further than they have committed: its orders end where the board stands.
use Rattle.std.proofs.Common.{◌≡◌, ◌≢◌, inl, inr, ℕ, zero, suc, ◌+◌, ◌<◌, ◌≤◌, ◌||◌, nat_lt, Bool, true, false, cond, List, [], ◌∷◌, length, Option}
use Rattle.std.proofs.Common.{Some, None, slice_set, slice_index, refl, sym, ap, ap₂, ◌∙◌, subst, arith, if◌then◌else◌}
use Rattle.std.specs.Option.{option_map_or}
use Rattle.std.proofs.lemmas.Bool.{cases_eq, cases_lt, le-ltb, lt-ltb}
use Rattle.std.proofs.lemmas.Option.{none-some, get_or_from_slice_get}
use Rattle.elf_image.specs.Image.{Image}
use Rattle.log_entry.specs.declared.log.Entry.TheVariants as entries
use Rattle.log_entry.specs.declared.log.Log.{Log}
use Rattle.log_entry.specs.Parts.{unit_of}
use Rattle.orders_law.specs.Orders.{Leads, IsFull, IsLeast, Lasts, Commutes, total}
use Rattle.orders_law.proofs.Bounds.{least_there}
use Rattle.orders_law.proofs.Totals.{total_least, total_more}
use Rattle.order_rules.specs.Cursor.{Cursor}
use Rattle.flat_machine.specs.State.{FlatState}
use Rattle.flat_machine.specs.declared.results.Step.{Step}
use Rattle.replay_model.specs.Board.{board}
use Rattle.replay_model.specs.State.{Replay}
use Rattle.replay_model.specs.Items.{Item, Ended, Move, Makes, step}
use Rattle.shared_types.proofs.Lists.{set_here}
use Rattle.replay_law.specs.Laws.{IsReplayable, first_replay}
use Rattle.replay_law.proofs.Cursors.{index_there}
use Rattle.replay_law.proofs.Orders.{commutes, no_more}
use Rattle.replay_law.proofs.Progress.{Going, Goes, goes, going_first, going_lasts}
use Rattle.replay_law.proofs.Steps.{IsMade, cursor_after}
use Rattle.replay_parts.specs.Boards.{Plain, is_short, least_end, step_within}
use Rattle.replay_parts.specs.Laws.{FirstBoards, StatesAre}

-- the end of a least order is found in so many moves or more
module _ {S E : Type 0} (step : ℕ → S → Option (S × E)) (harts : ℕ) where
  pub end_found : (n : ℕ) (s t : S) (xs : List (ℕ × E)) → length xs ≤ n → IsLeast step harts s xs t → least_end step harts n s ≡ t
  end_found zero s t [] short is = is.1
  end_found zero s t (x ∷ xs) short is = absurd (omega (arith, short))
  end_found (suc n) s t [] short is = ap (λ (o : Option ℕ). option_map_or (λ h. option_map_or (λ (m : S × E). least_end step harts n m.0) (step h s) s) o s)
      is.0 ∙ is.1
  end_found (suc n) s t (x ∷ xs) short is =
      ap (λ (o : Option ℕ). option_map_or (λ h. option_map_or (λ (m : S × E). least_end step harts n m.0) (step h s) s) o s) is.0
      ∙ ap (λ (o : Option (S × E)). option_map_or (λ (m : S × E). least_end step harts n m.0) o s) is.1.1
      ∙ end_found n is.1.0 t xs (omega (arith, short)) is.1.2

-- what a hart has done, as far as one place and one count
abbrev pub place_of : Replay FlatState → ℕ → ℕ
place_of s h = slice_index s.cursor.places h

abbrev pub count_in : Replay FlatState → ℕ → ℕ
count_in s h = slice_index s.flat.counts h

module _ (log : Log) (image : Image) (is : IsReplayable log image) where
  -- an item leaves the place and the count of every other hart, and raises its own hart's place or count
  pub record Did (s a : Replay FlatState) (h : ℕ) : Type 0 where
    pub others_place : (g : ℕ) → g ≢ h → place_of a g ≡ place_of s g
    pub others_count : (g : ℕ) → g ≢ h → count_in a g ≡ count_in s g
    pub own_place : place_of s h ≤ place_of a h
    pub own_count : count_in s h ≤ count_in a h
    pub more : place_of s h + count_in s h + 1 ≤ place_of a h + count_in a h

  index_set : (xs : List ℕ) (h k : ℕ) → h < length xs → slice_index (slice_set xs h k) h ≡ k
  index_set xs h k l = get_or_from_slice_get (slice_set xs h k) h k 0 (set_here xs h k l)

  of_entry : (s a : Replay FlatState) (h count : ℕ) → (x : Goes log image is s a h) → Going log image is s
      → a.cursor.places ≡ slice_set s.cursor.places h (slice_index s.cursor.places h + 1) → count_in s h ≤ count_in a h → Did s a h
  of_entry s a h count x going places own =
      let inside : h < length s.cursor.places = (let l = x.inside in let p = going.places in omega (arith, l, p)) in
      let here : place_of a h ≡ place_of s h + 1 =
      ap (λ xs. slice_index xs h) places ∙ index_set s.cursor.places h (slice_index s.cursor.places h + 1) inside in
      record {
        others_place = λ g n. ap (λ xs. slice_index xs g) places ∙ index_there s.cursor.places h g (slice_index s.cursor.places h + 1) n;
        others_count = x.others;
        own_place = omega (arith, here);
        own_count = own;
        more = omega (arith, here, own);
      }

  did_by : (s a : Replay FlatState) (h : ℕ) (item : Item) → (x : Goes log image is s a h) → x.item ≡ item → Going log image is s → Did s a h
  did_by s a h Ended x same going = absurd (subst IsMade same x.real)
  did_by s a h Move x same going =
      let own = rw same at x.own in
      let cursor : a.cursor ≡ s.cursor = x.cursor ∙ ap (cursor_after s.cursor h) same in
      let place : (g : ℕ) → place_of a g ≡ place_of s g = λ g. ap (λ (c : Cursor). slice_index c.places g) cursor in
      let here = place h in
      record {
        others_place = λ g n. place g;
        others_count = x.others;
        own_place = omega (arith, here);
        own_count = omega (arith, own);
        more = omega (arith, here, own);
      }
  did_by s a h (Makes (entries.Gain count page seq mode waits)) x same going =
      let own = rw same at x.own in
      of_entry s a h count x going (ap (λ (c : Cursor). c.places) (x.cursor ∙ ap (cursor_after s.cursor h) same)) (omega (arith, own))
  did_by s a h (Makes (entries.Yield count page seq left)) x same going =
      let own = rw same at x.own in
      of_entry s a h count x going (ap (λ (c : Cursor). c.places) (x.cursor ∙ ap (cursor_after s.cursor h) same)) (omega (arith, own))
  did_by s a h (Makes (entries.Poll count ord time bits)) x same going =
      let own = rw same at x.own in
      of_entry s a h count x going (ap (λ (c : Cursor). c.places) (x.cursor ∙ ap (cursor_after s.cursor h) same)) (omega (arith, own))
  did_by s a h (Makes (entries.Touch count ord input)) x same going =
      let own = rw same at x.own in
      of_entry s a h count x going (ap (λ (c : Cursor). c.places) (x.cursor ∙ ap (cursor_after s.cursor h) same)) (omega (arith, own))
  did_by s a h (Makes (entries.End count)) x same going = absurd (subst IsMade same x.real)

  pub did : (s a : Replay FlatState) (h : ℕ) (w : Option (List Step)) → Going log image is s → step (board (unit_of log)) log h s ≡ Some (a, w) → Did s a h
  did s a h w going e = let x = goes log image is s a h w going e in did_by s a h x.item x refl going

  rises : (s t : Replay FlatState) (xs : List (ℕ × Option (List Step))) (g : ℕ) → Going log image is s → Leads (step (board (unit_of log)) log) s xs t
      → (place_of s g ≤ place_of t g) × (count_in s g ≤ count_in t g)
  rises s t [] g going leads =
      let place = ap (λ (x : Replay FlatState). place_of x g) leads in
      let count = ap (λ (x : Replay FlatState). count_in x g) leads in
      (omega (arith, place), omega (arith, count))
  rises s t (x ∷ xs) g going leads =
      let d = did s leads.0 x.0 x.1 going leads.1 in
      let later = rises leads.0 t xs g (going_lasts log image is s leads.0 x.0 x.1 going leads.1) leads.2 in
      let place = later.0 in
      let count = later.1 in
      elim (cases_eq g x.0) [
        | inl same ↦
            let own : place_of s g ≤ place_of leads.0 g = subst (λ k. place_of s k ≤ place_of leads.0 k) (sym same) d.own_place in
            let own_count : count_in s g ≤ count_in leads.0 g = subst (λ k. count_in s k ≤ count_in leads.0 k) (sym same) d.own_count in
            (omega (arith, place, own), omega (arith, count, own_count))
        | inr n ↦
            let other = d.others_place g n in
            let other_count = d.others_count g n in
            (omega (arith, place, other), omega (arith, count, other_count))
      ]

  -- how much is done rises with each item
  abbrev pub done : Replay FlatState → ℕ
  done s = total s.cursor.places + total s.flat.counts

  each_place : (s a : Replay FlatState) (h : ℕ) → Did s a h → (g : ℕ) → place_of s g ≤ place_of a g
  each_place s a h d g = elim (cases_eq g h) [
    | inl same ↦ subst (λ k. place_of s k ≤ place_of a k) (sym same) d.own_place
    | inr n ↦ let other = d.others_place g n in omega (arith, other)
  ]

  each_count : (s a : Replay FlatState) (h : ℕ) → Did s a h → (g : ℕ) → count_in s g ≤ count_in a g
  each_count s a h d g = elim (cases_eq g h) [
    | inl same ↦ subst (λ k. count_in s k ≤ count_in a k) (sym same) d.own_count
    | inr n ↦ let other = d.others_count g n in omega (arith, other)
  ]

  pub one_done : (s a : Replay FlatState) (h : ℕ) → Did s a h → h < length log.streams → Going log image is s → Going log image is a → done s + 1 ≤ done a
  one_done s a h d inside going then_going =
      let places = going.places ∙ sym then_going.places in
      let counts = going.good.sound.sized.counts_size ∙ going.good.sound.sized.harts_size
      ∙ sym (then_going.good.sound.sized.counts_size ∙ then_going.good.sound.sized.harts_size) in
      let here : h < length s.cursor.places = (let p = going.places in omega (arith, inside, p)) in
      let there : h < length s.flat.counts =
      (let c = going.good.sound.sized.counts_size in let k = going.good.sound.sized.harts_size in omega (arith, inside, c, k)) in
      let more = d.more in
      elim (cases_lt (place_of s h) (place_of a h)) [
        | inl l ↦
            let one = total_more s.cursor.places a.cursor.places h places here (λ g k. each_place s a h d g) (omega (arith, l)) in
            let other = total_least s.flat.counts a.flat.counts counts (λ g k. each_count s a h d g) in
            omega (arith, one, other)
        | inr m ↦
            let one = total_least s.cursor.places a.cursor.places places (λ g k. each_place s a h d g) in
            let other = total_more s.flat.counts a.flat.counts h counts there (λ g k. each_count s a h d g) (omega (arith, m, more)) in
            omega (arith, one, other)
      ]

  pub all_done : (s t : Replay FlatState) (xs : List (ℕ × Option (List Step))) → Going log image is s → Leads (step (board (unit_of log)) log) s xs t
      → done s + length xs ≤ done t
  all_done s t [] going leads = let same = ap done leads in omega (arith, same)
  all_done s t (x ∷ xs) going leads =
      let then_going = going_lasts log image is s leads.0 x.0 x.1 going leads.1 in
      let one = one_done s leads.0 x.0 (did s leads.0 x.0 x.1 going leads.1) (goes log image is s leads.0 x.0 x.1 going leads.1).inside going then_going in
      let rest = all_done leads.0 t xs then_going leads.2 in
      omega (arith, one, rest)

-- the replay within what a board has committed
module _ (p : Plain) (is : IsReplayable p.log p.image) where
  abbrev Good : Replay FlatState → Type 0
  Good s = Going p.log p.image is s

  went_within : (b : Bool) (o m : Option (Replay FlatState × Option (List Step))) (x : Replay FlatState × Option (List Step)) → cond b o None ≡ Some x
      → (b ≡ true) × (o ≡ Some x)
  went_within true o m x e = (refl, e)
  went_within false o m x e = absurd (none-some _ e)

  went : (h : ℕ) (s a : Replay FlatState) (w : Option (List Step)) → step_within p h s ≡ Some (a, w)
      → (is_short p h s ≡ true) × (step (board (unit_of p.log)) p.log h s ≡ Some (a, w))
  went h s a w e = went_within (is_short p h s) (step (board (unit_of p.log)) p.log h s) None (a, w) e

  short_stays : (s a : Replay FlatState) (g h : ℕ) → Did p.log p.image is s a g → h ≢ g → is_short p h a ≡ is_short p h s
  short_stays s a g h d n =
      ap₂ (λ (i c : ℕ). nat_lt i (slice_index p.places h) || nat_lt c (slice_index p.counts h)) (d.others_place h n) (d.others_count h n)

  within_lasts : Lasts (step_within p) Good
  within_lasts s a e g ok is_did = going_lasts p.log p.image is s a g e ok (went g s a e is_did).1

  within_commutes : Commutes (step_within p) Good
  within_commutes s a b e f g h ok n did_g did_h =
      let one = went g s a e did_g in
      let two = went h s b f did_h in
      let met = commutes p.log p.image is s a b e f g h ok.good n one.1 two.1 in (
        met.0,
        ap (λ (c : Bool). if c then step (board (unit_of p.log)) p.log h a else None)
            (short_stays s a g h (did p.log p.image is s a g e ok one.1) (λ same. n (sym same)) ∙ two.0)
            ∙ met.1,
        ap (λ (c : Bool). if c then step (board (unit_of p.log)) p.log g b else None)
            (short_stays s b h g (did p.log p.image is s b h f ok two.1) n ∙ one.0)
            ∙ met.2,
      )

  none_within : (b : Bool) (o : Option (Replay FlatState × Option (List Step))) → o ≡ None → (if b then o else None) ≡ None
  none_within true o e = e
  none_within false o e = refl

  within_no_more : (h : ℕ) (s : Replay FlatState) → Good s → length p.log.streams ≤ h → step_within p h s ≡ None
  within_no_more h s ok l =
      none_within (is_short p h s) (step (board (unit_of p.log)) p.log h s) (no_more p.log p.image is h s ok.good l)

  -- an order that leads where the board stands goes no further
  leads_within : (s t : Replay FlatState) (xs : List (ℕ × Option (List Step))) → Good s → t.cursor.places ≡ p.places → t.flat.counts ≡ p.counts
      → Leads (step (board (unit_of p.log)) p.log) s xs t → Leads (step_within p) s xs t
  leads_within s t [] ok places counts leads = leads
  leads_within s t (x ∷ xs) ok places counts leads =
      let d = did p.log p.image is s leads.0 x.0 x.1 ok leads.1 in
      let then_ok = going_lasts p.log p.image is s leads.0 x.0 x.1 ok leads.1 in
      let later = rises p.log p.image is leads.0 t xs x.0 then_ok leads.2 in
      let more = d.more in
      let low_place = later.0 in
      let low_count = later.1 in
      let place : place_of t x.0 ≡ slice_index p.places x.0 = ap (λ ns. slice_index ns x.0) places in
      let count : count_in t x.0 ≡ slice_index p.counts x.0 = ap (λ ns. slice_index ns x.0) counts in
      let short : is_short p x.0 s ≡ true =
      elim (cases_lt (place_of s x.0) (slice_index p.places x.0)) [
        | inl l ↦ ap (λ (b : Bool). b || nat_lt (count_in s x.0) (slice_index p.counts x.0)) (lt-ltb (place_of s x.0) (slice_index p.places x.0) l)
        | inr m ↦
            ap₂ (λ (a b : Bool). a || b) (le-ltb (place_of s x.0) (slice_index p.places x.0) m)
            (lt-ltb (count_in s x.0) (slice_index p.counts x.0) (omega (arith, m, more, low_place, low_count, place, count)))
      ] in (
        leads.0,
        ap (λ (b : Bool). if b then step (board (unit_of p.log)) p.log x.0 s else None) short ∙ leads.1,
        leads_within leads.0 t xs then_ok places counts leads.2,
      )

  none_short : (t : Replay FlatState) → t.cursor.places ≡ p.places → t.flat.counts ≡ p.counts → (h : ℕ) → step_within p h t ≡ None
  none_short t places counts h =
      let place : place_of t h ≡ slice_index p.places h = ap (λ ns. slice_index ns h) places in
      let count : count_in t h ≡ slice_index p.counts h = ap (λ ns. slice_index ns h) counts in
      ap (λ (b : Bool). if b then step (board (unit_of p.log)) p.log h t else None)
      (ap₂ (λ (a b : Bool). a || b) (le-ltb (place_of t h) (slice_index p.places h) (omega (arith, place)))
      (le-ltb (count_in t h) (slice_index p.counts h) (omega (arith, count))))

  least_leads : (s t : Replay FlatState) (ys : List (ℕ × Option (List Step))) → IsLeast (step_within p) (length p.log.streams) s ys t
      → Leads (step (board (unit_of p.log)) p.log) s ys t
  least_leads s t [] l = l.1
  least_leads s t (y ∷ ys) l = (l.1.0, (went y.0 s l.1.0 y.1 l.1.1).1, least_leads l.1.0 t ys l.1.2)

pub states_are : StatesAre
states_are p s r =
    let first = first_replay p.log p.image in
    let ok : Good p r.replayable (first_replay p.log p.image) = going_first p.log p.image r.replayable in
    let full : IsFull (step_within p) (first_replay p.log p.image) r.obeys.0 s =
    record {
      leads = leads_within p r.replayable (first_replay p.log p.image) s r.obeys.0 ok r.places r.counts r.obeys.2;
      over = none_short p r.replayable s r.places r.counts;
    } in
    let l = least_there (step_within p) (Good p r.replayable) (length p.log.streams) (within_lasts p r.replayable) (within_commutes p r.replayable)
    (within_no_more p r.replayable) (first_replay p.log p.image) s r.obeys.0 ok full in
    let most = all_done p.log p.image r.replayable (first_replay p.log p.image) s l.0 ok (least_leads p r.replayable (first_replay p.log p.image) s l.0 l.1) in
    let places = ap total r.places in
    let counts = ap total r.counts in
    end_found (step_within p) (length p.log.streams) (total p.places + total p.counts) (first_replay p.log p.image) s l.0
    (omega (arith, most, places, counts)) l.1

pub first_boards : FirstBoards
first_boards log image is = record { replayable = is; order = []; obeys = ([], refl, refl); places = refl; counts = refl }
