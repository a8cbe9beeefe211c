-- A step in its parts: the act of the flat machine, the cursor, and the holders.
use Rattle.std.proofs.Common.{◌≡◌, ℕ, Bool, true, false, Option, Some, None, refl, sym, ap, ◌∙◌, if◌then◌else◌}
use Rattle.std.specs.Option.{option_map}
use Rattle.std.proofs.lemmas.Option.{none-some}
use Rattle.log_entry.specs.declared.log.Entry.TheVariants as entries
use Rattle.log_entry.specs.declared.log.Log.{Log}
use Rattle.rv_words.specs.declared.shared.Mode.{Mode}
use Rattle.order_rules.specs.Cursor.{Cursor, taken}
use Rattle.flat_machine.specs.declared.act.Act.{Act}
use Rattle.flat_machine.specs.declared.act.Act.TheVariants.{Run, Touch, Poll, Lose}
use Rattle.replay_model.specs.Flat.{Flat}
use Rattle.order_rules.specs.Holders.{Holders, with_held}
use Rattle.replay_model.specs.State.{Replay}
use Rattle.replay_model.specs.Items.{Item, Ended, Move, Makes, Verdict, HasEnded, Holds, CanGo, HasDiverged, verdict_on, made, acted, past, holds}
use Rattle.replay_model.specs.Items.{ends_reservation, told_of, goes, next_item, step}
use Rattle.shared_types.proofs.Lists.{mapped}
use Rattle.replay_model.proofs.ActsOfOrders.{went}

-- an item that a hart can make
abbrev pub IsMade : Item → Type 0
IsMade Ended = ⊥
IsMade Move = Unit {0}
IsMade (Makes (entries.End count)) = ⊥
IsMade (Makes e) = Unit {0}

-- the act of an item, which loses the reservation or doesn't
abbrev pub act_with : Bool → ℕ → Item → Option Act
act_with lost h Move = Some (Run h)
act_with lost h (Makes (entries.Touch count ord input)) = Some (Touch h input)
act_with lost h (Makes (entries.Poll count ord time bits)) = Some (Poll h time)
act_with lost h (Makes (entries.Yield count page seq left)) = if lost then Some (Lose h) else None
act_with lost h item = None

-- the page that changes hands in an item, and what its hart then holds of it
abbrev pub hold_in : Item → Option (ℕ × Option Mode)
hold_in (Makes (entries.Gain count page seq mode waits)) = Some (page, Some mode)
hold_in (Makes (entries.Yield count page seq left)) = Some (page, left)
hold_in item = None

abbrev pub holders_by : Holders → ℕ → Option (ℕ × Option Mode) → Holders
holders_by holders h None = holders
holders_by holders h (Some x) = with_held holders x.0 h x.1

abbrev pub holders_after : Holders → ℕ → Item → Holders
holders_after holders h item = holders_by holders h (hold_in item)

abbrev pub cursor_after : Cursor → ℕ → Item → Cursor
cursor_after c h (Makes e) = taken c h e
cursor_after c h item = c

map_map : {A B C : Type 0} (f : B → C) (g : A → B) (o : Option A) → option_map f (option_map g o) ≡ option_map (λ a. f (g a)) o
map_map f g None = refl
map_map f g (Some a) = refl

module _ {S V : Type 0} (flat : Flat S V) where
  -- the item is a Yield that ends a reservation
  abbrev pub is_lost : Replay S → ℕ → Item → Bool
  is_lost s h (Makes (entries.Yield count page seq left)) = ends_reservation flat s h page
  is_lost s h item = false

  abbrev pub act_of : Replay S → ℕ → Item → Option Act
  act_of s h item = act_with (is_lost s h item) h item

  abbrev pub flat_after : S → Option Act → Option S
  flat_after f None = Some f
  flat_after f (Some act) = flat.next f act

  abbrev pub built : Replay S → ℕ → Item → S → Replay S
  built s h item f = record { flat = f; cursor = cursor_after s.cursor h item; holders = holders_after s.holders h item }

  yield_is : (s : Replay S) (h count page seq : ℕ) (left : Option Mode) (b : Bool)
      → option_map (past flat h (entries.Yield count page seq left)) (option_map (holds flat page h left) (if b then acted flat s (Lose h) else Some s))
      ≡ option_map (built s h (Makes (entries.Yield count page seq left))) (flat_after s.flat (if b then Some (Lose h) else None))
  yield_is s h count page seq left true =
      ap (option_map (past flat h (entries.Yield count page seq left)))
      (map_map (holds flat page h left) (λ f. record s { flat = f }) (flat.next s.flat (Lose h)))
      ∙ map_map (past flat h (entries.Yield count page seq left)) (λ f. holds flat page h left (record s { flat = f })) (flat.next s.flat (Lose h))
  yield_is s h count page seq left false = refl

  made_is : (s : Replay S) (h : ℕ) (item : Item) → IsMade item → made flat s h item ≡ option_map (built s h item) (flat_after s.flat (act_of s h item))
  made_is s h Ended real = absurd real
  made_is s h Move real = refl
  made_is s h (Makes (entries.Gain count page seq mode waits)) real = refl
  made_is s h (Makes (entries.Yield count page seq left)) real = yield_is s h count page seq left (ends_reservation flat s h page)
  made_is s h (Makes (entries.Poll count ord time bits)) real =
      map_map (past flat h (entries.Poll count ord time bits)) (λ f. record s { flat = f }) (flat.next s.flat (Poll h time))
  made_is s h (Makes (entries.Touch count ord input)) real =
      map_map (past flat h (entries.Touch count ord input)) (λ f. record s { flat = f }) (flat.next s.flat (Touch h input))
  made_is s h (Makes (entries.End count)) real = absurd real

  is_made : (s t : Replay S) (h : ℕ) (item : Item) → made flat s h item ≡ Some t → IsMade item
  is_made s t h Ended e = none-some _ e
  is_made s t h Move e = tt
  is_made s t h (Makes (entries.Gain count page seq mode waits)) e = tt
  is_made s t h (Makes (entries.Yield count page seq left)) e = tt
  is_made s t h (Makes (entries.Poll count ord time bits)) e = tt
  is_made s t h (Makes (entries.Touch count ord input)) e = tt
  is_made s t h (Makes (entries.End count)) e = none-some _ e

  can_go : (s : Replay S) (h : ℕ) (item : Item) (v : Verdict) (m : Replay S × Option V) → goes flat s h item v ≡ Some m → v ≡ CanGo
  can_go s h item CanGo m e = refl
  can_go s h item HasEnded m e = absurd (none-some _ e)
  can_go s h item Holds m e = absurd (none-some _ e)
  can_go s h item (HasDiverged rule) m e = absurd (none-some _ e)

  told_by : (s m : Replay S) (h : ℕ) (item : Item) (v : Verdict) (w : Option V) → goes flat s h item v ≡ Some (m, w) → w ≡ told_of flat s h item m
  told_by s m h item CanGo w is =
      let a = mapped (λ (t : Replay S). (t, told_of flat s h item t)) (made flat s h item) (m, w) is in
      sym (ap (λ (x : Replay S × Option V). x.1) a.2) ∙ ap (λ (x : Replay S × Option V). told_of flat s h item x.0) a.2
  told_by s m h item HasEnded w is = absurd (none-some _ is)
  told_by s m h item Holds w is = absurd (none-some _ is)
  told_by s m h item (HasDiverged rule) w is = absurd (none-some _ is)

  -- a hart made its next item
  pub record Went (log : Log) (s : Replay S) (h : ℕ) (t : Replay S) (w : Option V) : Type 0 where
    pub item : Item
    pub next : next_item flat log s h ≡ item
    pub go : verdict_on flat s h item ≡ CanGo
    pub real : IsMade item
    pub flat_is : flat_after s.flat (act_of s h item) ≡ Some t.flat
    pub built_is : t ≡ built s h item t.flat
    pub told_is : w ≡ told_of flat s h item t

  pub step_went : (log : Log) (s t : Replay S) (h : ℕ) (w : Option V) → step flat log h s ≡ Some (t, w) → Went log s h t w
  step_went log s t h w is =
      let item = next_item flat log s h in
      let v = verdict_on flat s h (next_item flat log s h) in
      let did : made flat s h (next_item flat log s h) ≡ Some t =
      went flat s t h (next_item flat log s h) (verdict_on flat s h (next_item flat log s h)) w is in
      let real : IsMade (next_item flat log s h) = is_made s t h (next_item flat log s h) did in
      let f = mapped (built s h (next_item flat log s h)) (flat_after s.flat (act_of s h (next_item flat log s h))) t
      (sym (made_is s h (next_item flat log s h) real) ∙ did) in
      let same : f.0 ≡ t.flat = ap (λ (x : Replay S). x.flat) f.2 in
      record {
        item = item;
        next = refl;
        go = can_go s h item v (t, w) is;
        real = real;
        flat_is = f.1 ∙ ap Some same;
        built_is = sym f.2 ∙ ap (built s h item) same;
        told_is = told_by s t h item v w is;
      }

  pub step_goes : (log : Log) (s : Replay S) (h : ℕ) (item : Item) (f : S) → next_item flat log s h ≡ item → verdict_on flat s h item ≡ CanGo → IsMade item
      → flat_after s.flat (act_of s h item) ≡ Some f
      → step flat log h s ≡ Some (built s h item f, told_of flat s h item (built s h item f))
  step_goes log s h item f next go real is =
      ap (λ i. goes flat s h i (verdict_on flat s h i)) next ∙ ap (goes flat s h item) go
      ∙ ap (option_map (λ (t : Replay S). (t, told_of flat s h item t))) (made_is s h item real ∙ ap (option_map (built s h item)) is)
