-- The steps of a turn make items that are allowed, one after another.
use Rattle.std.proofs.Common.{◌≡◌, ◌≢◌, ℕ, ◌+◌, ◌<◌, ◌≤◌, List, [], ◌∷◌, ◌++◌, length, map, Option, Some, refl, sym, ap, ◌∙◌, subst, arith}
use Rattle.std.proofs.lemmas.List.{length-append, map-append}
use Rattle.replay_model.specs.Flat.{Flat}
use Rattle.rv_words.specs.declared.shared.Mode.{Mode}
use Rattle.log_entry.specs.declared.log.Entry.TheVariants as entries
use Rattle.replay_model.specs.Items.{Item, Ended, Move, Makes}
use Rattle.replay_model.specs.Journal.{left_for}
use Rattle.crew_recording.specs.Recording.{Recording, stream_in}
use Rattle.crew_recording.specs.Allowed.{IsPolled}
use Rattle.crew_recording.proofs.Tables.{FitsAt, fits_all}
use Rattle.crew_recording.proofs.OrderedRecordings.{IsOrdered}
use Rattle.crew_recording.proofs.Behind.{ordered_all}
use Rattle.crew_recording.proofs.Together.{Made, made_after}
use Rattle.turn_model.specs.Board.{Board, Order, Go, Hold, Rest, stream, wanted}
use Rattle.turn_model.specs.Ways.{Way, On, Ends, Nowhere, goes}
use Rattle.turn_model.specs.Faithful.{IsFaithful}

abbrev pub recording_of : {S : Type 0} → Board S → Recording S
recording_of b = record { at = b.at; streams = b.streams }

-- the items of one hart
abbrev pub by_one : ℕ → List Item → List (ℕ × Item)
by_one h items = map (λ item. (h, item)) items

-- a Yield is for another hart, whose want is stored
pub record IsYieldFor (wants : ℕ → Option (ℕ × Mode)) (h page : ℕ) (left : Option Mode) : Type 0 where
  pub hart : ℕ
  pub mode : Mode
  pub other : hart ≢ h
  pub stored : wants hart ≡ Some (page, mode)
  pub leaves : left ≡ left_for mode

abbrev pub IsMeant : (ℕ → Option (ℕ × Mode)) → ℕ → Item → Type 0
IsMeant wants h (Makes (entries.Yield count page seq left)) = IsYieldFor wants h page left
IsMeant wants h item = Unit {0}

abbrev pub AreMeant : (ℕ → Option (ℕ × Mode)) → ℕ → List Item → Type 0
AreMeant wants h [] = Unit {0}
AreMeant wants h (item ∷ items) = IsMeant wants h item × AreMeant wants h items

meant_alike : (one two : ℕ → Option (ℕ × Mode)) (h : ℕ) (item : Item) → ((g : ℕ) → g ≢ h → two g ≡ one g) → IsMeant two h item → IsMeant one h item
meant_alike one two h Ended same meant = tt
meant_alike one two h Move same meant = tt
meant_alike one two h (Makes (entries.Gain count page seq mode waits)) same meant = tt
meant_alike one two h (Makes (entries.Yield count page seq left)) same meant =
    record { hart = meant.hart; mode = meant.mode; other = meant.other; stored = sym (same meant.hart meant.other) ∙ meant.stored; leaves = meant.leaves }
meant_alike one two h (Makes (entries.Poll count ord time bits)) same meant = tt
meant_alike one two h (Makes (entries.Touch count ord input)) same meant = tt
meant_alike one two h (Makes (entries.End count)) same meant = tt

-- the wants of other harts alone count
pub all_meant : (one two : ℕ → Option (ℕ × Mode)) (h : ℕ) (items : List Item) → ((g : ℕ) → g ≢ h → two g ≡ one g) → AreMeant two h items → AreMeant one h items
all_meant one two h [] same meant = tt
all_meant one two h (item ∷ items) same meant = (meant_alike one two h item same meant.0, all_meant one two h items same meant.1)

pub meant_then : (wants : ℕ → Option (ℕ × Mode)) (h : ℕ) (xs ys : List Item) → AreMeant wants h xs → AreMeant wants h ys → AreMeant wants h (xs ++ ys)
meant_then wants h [] ys one two = two
meant_then wants h (x ∷ xs) ys one two = (one.0, meant_then wants h xs ys one.1 two)

module _ {S V : Type 0} (flat : Flat S V) (harts pages limit : ℕ) (Good : S → Type 0) (faithful : IsFaithful flat harts pages Good) where
  pub record IsSoundBoard (b : Board S) : Type 0 where
    pub ordered : IsOrdered flat harts Good faithful.steady faithful.timed pages limit (recording_of b)
    pub fits : FitsAt flat harts pages b.at
    pub orders_size : length b.orders ≡ harts

  -- entries of a hart lead from one board to another
  pub record Went (h : ℕ) (b c : Board S) : Type 0 where
    pub items : List Item
    pub made : Made flat pages limit (recording_of b) (by_one h items) (recording_of c)
    pub journal : c.journal ≡ b.journal
    pub orders : c.orders ≡ b.orders
    pub size : length (stream c h) ≡ length (stream b h) + length items
    pub others : (g : ℕ) → g ≢ h → wanted c g ≡ wanted b g
    pub meant : AreMeant (wanted b) h items

  -- a hart that is told to go finds, at each count up to there, that it is below the limit and any Poll that is due is made
  abbrev pub OrderIs : ℕ → Board S → Order → Type 0
  OrderIs h c (Go until) = (n : ℕ) → flat.count c.at.flat h ≤ n → n < until → (n < limit) × IsPolled (stream c h) n
  OrderIs h c (Hold page g) = Unit {0}
  OrderIs h c Rest = Unit {0}

  pub sound_after : (h : ℕ) (b c : Board S) → IsSoundBoard b → Went h b c → IsSoundBoard c
  sound_after h b c sound went = record {
    ordered = ordered_all flat harts Good faithful.steady faithful.timed pages limit (recording_of b) (recording_of c)
        (by_one h went.items) went.made.0 went.made.1 sound.ordered;
    fits = fits_all flat harts pages (recording_of b) (recording_of c) (by_one h went.items) went.made.0 sound.fits;
    orders_size = ap (λ (xs : List (Option Order)). length xs) went.orders ∙ sound.orders_size;
  }

  -- what is changed beside the replay state and the streams is no item
  pub aside : (h : ℕ) (b c : Board S) → recording_of b ≡ recording_of c → c.journal ≡ b.journal → c.orders ≡ b.orders
      → ((g : ℕ) → g ≢ h → wanted c g ≡ wanted b g) → Went h b c
  aside h b c same journal orders others = record {
    items = [];
    made = (same, tt, tt);
    journal = journal;
    orders = orders;
    size = (let e = ap (λ (r : Recording S). length (stream_in r.streams h)) same in omega (arith, e));
    others = others;
    meant = tt;
  }

  pub both : (h : ℕ) (b c d : Board S) → Went h b c → Went h c d → Went h b d
  both h b c d x y = record {
    items = x.items ++ y.items;
    made = subst (λ items. Made flat pages limit (recording_of b) items (recording_of d)) (sym (map-append (λ item. (h, item)) x.items y.items))
        (made_after flat pages limit (recording_of b) (recording_of c) (recording_of d) (by_one h x.items) (by_one h y.items) x.made y.made);
    journal = y.journal ∙ x.journal;
    orders = y.orders ∙ x.orders;
    size = (let a = x.size in let e = y.size in let l = length-append x.items y.items in omega (arith, a, e, l));
    others = λ g n. y.others g n ∙ x.others g n;
    meant = meant_then (wanted b) h x.items y.items x.meant (all_meant (wanted b) (wanted c) h y.items x.others y.meant);
  }

  -- where a way comes to, from a board: a board on which it goes on has this
  abbrev pub Comes : ℕ → (Board S → Type 0) → Board S → Way S → Type 0
  Comes h P b (On c) = Went h b c × P c
  Comes h P b (Ends order c) = Went h b c × OrderIs h c order
  Comes h P b Nowhere = Unit {0}

  pub shifts : (h : ℕ) (P : Board S → Type 0) (b c : Board S) (way : Way S) → Went h b c → Comes h P c way → Comes h P b way
  shifts h P b c (On d) w comes = (both h b c d w comes.0, comes.1)
  shifts h P b c (Ends order d) w comes = (both h b c d w comes.0, comes.1)
  shifts h P b c Nowhere w comes = tt

  ended : (order : Order) (c : Board S) (steps : List (Board S → Way S)) → goes steps (Ends order c) ≡ Ends order c
  ended order c [] = refl
  ended order c (step ∷ steps) = refl

  nowhere : (steps : List (Board S → Way S)) → goes steps Nowhere ≡ Nowhere
  nowhere [] = refl
  nowhere (step ∷ steps) = refl

  -- further steps behind a way
  pub further : (h : ℕ) (P Q : Board S → Type 0) (b : Board S) (steps : List (Board S → Way S)) (way : Way S) → IsSoundBoard b → Comes h P b way
      → ((c : Board S) → IsSoundBoard c → P c → Comes h Q c (goes steps (On c))) → Comes h Q b (goes steps way)
  further h P Q b steps (On c) sound comes more = shifts h Q b c (goes steps (On c)) comes.0 (more c (sound_after h b c sound comes.0) comes.1)
  further h P Q b steps (Ends order c) sound comes more = subst (Comes h Q b) (sym (ended order c steps)) comes
  further h P Q b steps Nowhere sound comes more = subst (Comes h Q b) (sym (nowhere steps)) tt
