-- The numbers and holders of a replay state fit together, and stay so.
use Rattle.std.proofs.Common.{◌≡◌, ℕ, zero, suc, ◌+◌, ◌<◌, Bool, true, false, List, [], ◌∷◌, ◌++◌, length, Option, Some, slice_set, refl, sym, ◌∙◌, subst}
use Rattle.std.proofs.Common.{if◌then◌else◌}
use Rattle.std.specs.Option.{option_map}
use Rattle.std.proofs.lemmas.Option.{none-some, same_Some}
use Rattle.std.proofs.lemmas.List.{length-set}
use Rattle.shared_types.proofs.Lists.{mapped}
use Rattle.rv_words.specs.declared.shared.Mode.{Mode}
use Rattle.log_entry.specs.declared.log.Entry.{Entry}
use Rattle.log_entry.specs.declared.log.Entry.TheVariants as entries
use Rattle.order_rules.specs.Cursor.{Cursor, counted}
use Rattle.flat_machine.specs.declared.act.Act.{Act}
use Rattle.flat_machine.specs.declared.act.Act.TheVariants.{Run, Touch, Poll, Lose}
use Rattle.replay_model.specs.Flat.{Flat}
use Rattle.order_rules.specs.Holders.{Holders, row, with_held}
use Rattle.replay_model.specs.State.{Replay}
use Rattle.replay_model.specs.Items.{Item, Ended, Move, Makes, acted, effect, past, holds, ends_reservation, made}
use Rattle.crew_recording.specs.Recording.{Recording, Records}

-- the numbers and the holders are of so many pages and harts
pub record Fits (harts pages : ℕ) (numbers : List ℕ) (holders : Holders) : Type 0 where
  pub numbers_size : length numbers ≡ pages
  pub holders_size : length holders ≡ pages
  pub rows : (page : ℕ) → page < pages → length (row holders page) ≡ harts

row_size : (hs : Holders) (p q : ℕ) (r : List (Option Mode)) → length r ≡ length (row hs p) → length (row (slice_set hs p r) q) ≡ length (row hs q)
row_size [] p q r e = refl
row_size (x ∷ hs) zero zero r e = e
row_size (x ∷ hs) zero (suc q) r e = refl
row_size (x ∷ hs) (suc p) zero r e = refl
row_size (x ∷ hs) (suc p) (suc q) r e = row_size hs p q r e

held_fits : (harts pages : ℕ) (numbers : List ℕ) (holders : Holders) (page h : ℕ) (hold : Option Mode) → Fits harts pages numbers holders
    → Fits harts pages numbers (with_held holders page h hold)
held_fits harts pages numbers holders page h hold fits = record {
  numbers_size = fits.numbers_size;
  holders_size = length-set holders page (slice_set (row holders page) h hold) ∙ fits.holders_size;
  rows = λ q l. row_size holders page q (slice_set (row holders page) h hold) (length-set (row holders page) h hold) ∙ fits.rows q l;
}

numbers_fit : (harts pages : ℕ) (c : Cursor) (e : Entry) → length (counted c e).numbers ≡ length c.numbers
numbers_fit harts pages c (entries.Gain count page seq mode waits) = length-set c.numbers page (seq + 1)
numbers_fit harts pages c (entries.Yield count page seq left) = length-set c.numbers page (seq + 1)
numbers_fit harts pages c (entries.Poll count ord time bits) = refl
numbers_fit harts pages c (entries.Touch count ord input) = refl
numbers_fit harts pages c (entries.End count) = refl

module _ {S V : Type 0} (flat : Flat S V) (harts pages : ℕ) where
  abbrev pub FitsAt : Replay S → Type 0
  FitsAt s = Fits harts pages s.cursor.numbers s.holders

  by_act : (s t : Replay S) (act : Act) → FitsAt s → acted flat s act ≡ Some t → FitsAt t
  by_act s t act fits e = subst FitsAt (mapped (λ (f : S). record s { flat = f }) (flat.next s.flat act) t e).2 fits

  by_yield : (s t : Replay S) (h page : ℕ) (left : Option Mode) (b : Bool) → FitsAt s
      → option_map (holds flat page h left) (if b then acted flat s (Lose h) else Some s) ≡ Some t → FitsAt t
  by_yield s t h page left true fits e =
      let a = mapped (holds flat page h left) (acted flat s (Lose h)) t e in
      subst FitsAt a.2 (held_fits harts pages a.0.cursor.numbers a.0.holders page h left (by_act s a.0 (Lose h) fits a.1))
  by_yield s t h page left false fits e = subst FitsAt (same_Some _ _ e) (held_fits harts pages s.cursor.numbers s.holders page h left fits)

  by_entry : (s t : Replay S) (h : ℕ) (e : Entry) → FitsAt s → effect flat s h e ≡ Some t → FitsAt t
  by_entry s t h (entries.Gain count page seq mode waits) fits is =
      subst FitsAt (same_Some _ _ is) (held_fits harts pages s.cursor.numbers s.holders page h (Some mode) fits)
  by_entry s t h (entries.Yield count page seq left) fits is = by_yield s t h page left (ends_reservation flat s h page) fits is
  by_entry s t h (entries.Poll count ord time bits) fits is = by_act s t (Poll h time) fits is
  by_entry s t h (entries.Touch count ord input) fits is = by_act s t (Touch h input) fits is
  by_entry s t h (entries.End count) fits is = absurd (none-some _ is)

  pub fits_item : (s t : Replay S) (h : ℕ) (item : Item) → FitsAt s → made flat s h item ≡ Some t → FitsAt t
  fits_item s t h Ended fits is = absurd (none-some _ is)
  fits_item s t h Move fits is = by_act s t (Run h) fits is
  fits_item s t h (Makes e) fits is =
      let a = mapped (past flat h e) (effect flat s h e) t is in
      let f = by_entry s a.0 h e fits a.1 in
      subst FitsAt a.2 (record { numbers_size = numbers_fit harts pages a.0.cursor e ∙ f.numbers_size; holders_size = f.holders_size; rows = f.rows })

  pub fits_all : (r s : Recording S) (items : List (ℕ × Item)) → Records flat r items s → FitsAt r.at → FitsAt s.at
  fits_all r s [] e fits = subst (λ (x : Recording S). FitsAt x.at) e fits
  fits_all r s (x ∷ items) e fits = fits_all e.0 s items e.2 (fits_item r.at e.0.at x.0 x.1 fits e.1.made)

  -- items of one recording after another
  pub after : (r m s : Recording S) (xs ys : List (ℕ × Item)) → Records flat r xs m → Records flat m ys s → Records flat r (xs ++ ys) s
  after r m s [] ys e f = subst (λ (x : Recording S). Records flat x ys s) (sym e) f
  after r m s (x ∷ xs) ys e f = (e.0, e.1, after e.0 m s xs ys e.2 f)
