-- What two harts take of a log, either first.
use Rattle.std.proofs.Common.{◌≡◌, ◌≢◌, ℕ, zero, suc, ◌+◌, Bool, true, List, [], ◌∷◌, find, Option, Some, slice_index, slice_set, refl, sym, ap, ◌∙◌}
use Rattle.std.proofs.lemmas.Option.{same_Some}
use Rattle.log_entry.specs.declared.log.Entry.{Entry}
use Rattle.log_entry.specs.declared.log.Log.{Log}
use Rattle.log_entry.specs.Parts.{ordinal_of}
use Rattle.order_rules.specs.Places.{entry_at, by_hart, is_number}
use Rattle.order_rules.specs.Cursor.{Cursor, first_left, guard_is_met, taken, take_one}
use Rattle.order_rules.specs.Orderly.{Keeps, o5, o8}
use Rattle.order_rules.proofs.Takings.{took, takes, takings_commute, ordinals_name}
use Rattle.replay_model.specs.Items.{Item, Ended, Move, Makes}
use Rattle.replay_law.proofs.Steps.{cursor_after}

abbrev pub guard_of : Cursor → Item → Bool
guard_of c (Makes e) = guard_is_met c e
guard_of c item = true

pub index_there : (xs : List ℕ) (i j n : ℕ) → j ≢ i → slice_index (slice_set xs i n) j ≡ slice_index xs j
index_there [] i j n d = refl
index_there (y ∷ xs) zero zero n d = absurd (d refl)
index_there (y ∷ xs) zero (suc j) n d = refl
index_there (y ∷ xs) (suc i) zero n d = refl
index_there (y ∷ xs) (suc i) (suc j) n d = index_there xs i j n (λ e. d (ap suc e))

module _ (log : Log) where
  -- the entry of an item is the first one left
  abbrev pub IsLeft : Cursor → ℕ → Item → Type 0
  IsLeft c h (Makes e) = first_left log c h ≡ Some e
  IsLeft c h item = Unit {0}

  -- a hart's first entry left stays so when another takes one
  pub left_stays : (c : Cursor) (g h : ℕ) (i : Item) → h ≢ g → first_left log (cursor_after c g i) h ≡ first_left log c h
  left_stays c g h Ended n = refl
  left_stays c g h Move n = refl
  left_stays c g h (Makes x) n = ap (entry_at log h) (index_there c.places g h (slice_index c.places g + 1) n)

  -- what two harts make of the cursor
  pub record Takings (c : Cursor) (g h : ℕ) (i j : Item) : Type 0 where
    pub guard_two : guard_of (cursor_after c g i) j ≡ true
    pub guard_one : guard_of (cursor_after c h j) i ≡ true
    pub same : cursor_after (cursor_after c g i) h j ≡ cursor_after (cursor_after c h j) g i

  module _ (pages_right : Keeps log o5) (ordinals_right : Keeps log o8) where
    -- after another's taking the same entry is taken
    again : (c m t : Cursor) (h i : ℕ) (y : Entry) → first_left log m h ≡ Some y → take_one log h m ≡ Some (t, i) → (guard_is_met m y ≡ true)
        × (taken m h y ≡ t)
    again c m t h i y first did =
        let x = took log h m t i did in
        let same : x.entry ≡ y = same_Some _ _ (sym x.first ∙ first) in
        (ap (guard_is_met m) (sym same) ∙ x.guard, ap (taken m h) (sym same) ∙ x.cursor)

    both : (c : Cursor) (g h : ℕ) (x y : Entry) → g ≢ h → first_left log c g ≡ Some x → first_left log c h ≡ Some y → guard_is_met c x ≡ true
        → guard_is_met c y ≡ true → Takings c g h (Makes x) (Makes y)
    both c g h x y n left_x left_y guard_x guard_y =
        let met = takings_commute log pages_right ordinals_right c (taken c g x) (taken c h y) (slice_index c.places g) (slice_index c.places h) g h tt n
        (takes log g c x left_x guard_x) (takes log h c y left_y guard_y) in
        let two = again c (taken c g x) met.0 h (slice_index c.places h) y (left_stays c g h (Makes x) (λ e. n (sym e)) ∙ left_y) met.1 in
        let one = again c (taken c h y) met.0 g (slice_index c.places g) x (left_stays c h g (Makes y) n ∙ left_x) met.2 in
        record { guard_two = two.0; guard_one = one.0; same = two.1 ∙ sym one.1 }

    pub takings : (c : Cursor) (g h : ℕ) (i j : Item) → g ≢ h → IsLeft c g i → IsLeft c h j → guard_of c i ≡ true → guard_of c j ≡ true → Takings c g h i j
    takings c g h (Makes x) (Makes y) n left_x left_y guard_x guard_y = both c g h x y n left_x left_y guard_x guard_y
    takings c g h (Makes x) Move n left_x left_y guard_x guard_y = record { guard_two = refl; guard_one = guard_x; same = refl }
    takings c g h (Makes x) Ended n left_x left_y guard_x guard_y = record { guard_two = refl; guard_one = guard_x; same = refl }
    takings c g h Move (Makes y) n left_x left_y guard_x guard_y = record { guard_two = guard_y; guard_one = refl; same = refl }
    takings c g h Ended (Makes y) n left_x left_y guard_x guard_y = record { guard_two = guard_y; guard_one = refl; same = refl }
    takings c g h Move Move n left_x left_y guard_x guard_y = record { guard_two = refl; guard_one = refl; same = refl }
    takings c g h Move Ended n left_x left_y guard_x guard_y = record { guard_two = refl; guard_one = refl; same = refl }
    takings c g h Ended Move n left_x left_y guard_x guard_y = record { guard_two = refl; guard_one = refl; same = refl }
    takings c g h Ended Ended n left_x left_y guard_x guard_y = record { guard_two = refl; guard_one = refl; same = refl }

    same_hart : (g h : ℕ) (x y : Entry) (o : Option (ℕ × Entry)) → o ≡ Some (g, x) → o ≡ Some (h, y) → g ≡ h
    same_hart g h x y o a b = let p : ℕ × Entry = (g, x) in let q : ℕ × Entry = (h, y) in ap (λ (z : ℕ × Entry). z.0) (same_Some p q (sym a ∙ b))

    -- two harts don't both have the next ordinal
    pub one_ordinal : (c : Cursor) (g h k : ℕ) (x y : Entry) → g ≢ h → first_left log c g ≡ Some x → first_left log c h ≡ Some y → ordinal_of x ≡ Some k
        → ordinal_of y ≡ Some k → ⊥
    one_ordinal c g h k x y n left_x left_y is_x is_y =
        n (same_hart g h x y (find (λ (z : ℕ × Entry). is_number k (ordinal_of z.1)) (by_hart log))
        (ordinals_name log g (slice_index c.places g) k x ordinals_right left_x is_x)
        (ordinals_name log h (slice_index c.places h) k y ordinals_right left_y is_y))
