-- Two harts that can go come to one state, either first.
use Rattle.std.proofs.Common.{◌≡◌, ◌≢◌, ℕ, ◌==◌, not, Bool, true, false, Option, Some, None, refl, sym, ap, ap₂, ◌∙◌, subst, if◌then◌else◌, true≢false}
use Rattle.std.proofs.lemmas.Option.{none-some, same_Some}
use Rattle.std.proofs.lemmas.Bool.{eqb-true}
use Rattle.orders_law.specs.Orders.{Commutes}
use Rattle.log_entry.specs.declared.log.Entry.{Entry}
use Rattle.log_entry.specs.declared.log.Entry.TheVariants as entries
use Rattle.log_entry.specs.declared.log.Log.{Log}
use Rattle.log_entry.specs.Parts.{count_of, is_end, ordinal_of}
use Rattle.order_rules.specs.Cursor.{Cursor, first_left}
use Rattle.order_rules.specs.Orderly.{Keeps, o5, o8}
use Rattle.flat_machine.specs.declared.act.Act.{Act}
use Rattle.flat_machine.specs.declared.act.Act.TheVariants.{Run, Touch, Poll, Lose}
use Rattle.replay_model.specs.Flat.{Flat}
use Rattle.replay_model.specs.State.{Replay, want}
use Rattle.replay_model.specs.Items.{Item, Ended, Move, Makes, CanGo, item_at, verdict_on, told_of, next_item, step}
use Rattle.replay_law.proofs.Local.{actor, is_on_devices, HasPages, HasDevices, IsUndisturbed, IsWellHeld, IsLocal}
use Rattle.replay_law.proofs.Steps.{IsMade, act_with, hold_in, act_of, flat_after, cursor_after, built, step_went, step_goes}
use Rattle.replay_law.proofs.Cursors.{guard_of, IsLeft, left_stays, takings, one_ordinal}
use Rattle.replay_law.proofs.Tables.{held_stays, tables_meet}
use Rattle.replay_law.proofs.Verdicts.{needs_devices, Finds, ActIs, guard_met, verdict_stays, act_stays, act_is}

abbrev pub makes_in : Item → Option Entry
makes_in (Makes e) = Some e
makes_in item = None

pub entry_left : (n : ℕ) (o : Option Entry) (e : Entry) → item_at n o ≡ Makes e → o ≡ Some e
entry_left n None e is = absurd (none-some _ (ap makes_in is))
entry_left n (Some x) e is = by (count_of x == n) (is_end x) is where
  by : (a b : Bool) → (if not a then Move else if b then Ended else Makes x) ≡ Makes e → Some x ≡ Some e
  by false b f = absurd (none-some _ (ap makes_in f))
  by true true f = absurd (none-some _ (ap makes_in f))
  by true false f = ap makes_in f

pub is_left : (log : Log) (c : Cursor) (n h : ℕ) (item : Item) → item_at n (first_left log c h) ≡ item → IsLeft log c h item
is_left log c n h Ended e = tt
is_left log c n h Move e = tt
is_left log c n h (Makes x) e = entry_left n (first_left log c h) x e

-- an item on the devices has the next ordinal
pub record HasOrdinal (c : Cursor) (item : Item) : Type 0 where
  pub entry : Entry
  pub is : item ≡ Makes entry
  pub ordinal : ordinal_of entry ≡ Some c.ordinal

has_ordinal : (c : Cursor) (item : Item) → needs_devices item ≡ true → guard_of c item ≡ true → HasOrdinal c item
has_ordinal c Ended d guard = absurd (true≢false (sym d))
has_ordinal c Move d guard = absurd (true≢false (sym d))
has_ordinal c (Makes (entries.Gain count page seq mode waits)) d guard = absurd (true≢false (sym d))
has_ordinal c (Makes (entries.Yield count page seq left)) d guard = absurd (true≢false (sym d))
has_ordinal c (Makes (entries.Poll count ord time bits)) d guard =
    record { entry = entries.Poll count ord time bits; is = refl; ordinal = ap Some (eqb-true ord c.ordinal guard) }
has_ordinal c (Makes (entries.Touch count ord input)) d guard =
    record { entry = entries.Touch count ord input; is = refl; ordinal = ap Some (eqb-true ord c.ordinal guard) }
has_ordinal c (Makes (entries.End count)) d guard = absurd (true≢false (sym d))

yields_calm : (b : Bool) (h : ℕ) (act : Act) → (if b then Some (Lose h) else None) ≡ Some act → is_on_devices act ≡ false
yields_calm true h act e = ap is_on_devices (sym (same_Some (Lose h) act e))
yields_calm false h act e = absurd (none-some _ e)

-- the act of an item is on the devices only where the item is
calm : (b : Bool) (h : ℕ) (item : Item) (act : Act) → needs_devices item ≡ false → act_with b h item ≡ Some act → is_on_devices act ≡ false
calm b h Ended act d e = absurd (none-some _ e)
calm b h Move act d e = ap is_on_devices (sym (same_Some (Run h) act e))
calm b h (Makes (entries.Gain count page seq mode waits)) act d e = absurd (none-some _ e)
calm b h (Makes (entries.Yield count page seq left)) act d e = yields_calm b h act e
calm b h (Makes (entries.Poll count ord time bits)) act d e = absurd (true≢false d)
calm b h (Makes (entries.Touch count ord input)) act d e = absurd (true≢false d)
calm b h (Makes (entries.End count)) act d e = absurd (none-some _ e)

abbrev is_move : Option Act → Bool
is_move (Some (Run h)) = true
is_move (Some (Touch h input)) = true
is_move o = false

module _ {S V : Type 0} (flat : Flat S V) where
  -- what two harts come to
  record Ends (s : Replay S) (g h : ℕ) (p q : Option Act) (a b : S) : Type 0 where
    pub end : S
    pub then_two : flat_after flat a q ≡ Some end
    pub then_one : flat_after flat b p ≡ Some end
    pub told_one : is_move p ≡ true → flat.told s.flat g a ≡ flat.told b g end
    pub told_two : is_move q ≡ true → flat.told s.flat h b ≡ flat.told a h end

  -- each act of a hart is its own, and it holds the pages
  abbrev AreOwn : Replay S → ℕ → Option Act → Type 0
  AreOwn s h p = (act : Act) → p ≡ Some act → ActIs flat s h act

  wants_nothing : (s : Replay S) (act : Act) → HasPages flat s act → is_move (Some act) ≡ true → want flat s (actor act) ≡ None
  wants_nothing s (Run h) has m = has
  wants_nothing s (Touch h input) has m = has
  wants_nothing s (Poll h time) has m = absurd (true≢false (sym m))
  wants_nothing s (Lose h) has m = absurd (true≢false (sym m))

  told_stays : (s a b t : Replay S) (h : ℕ) (item : Item) → (is_move (act_of flat s h item) ≡ true → flat.told s.flat h b.flat ≡ flat.told a.flat h t.flat)
      → told_of flat s h item b ≡ told_of flat a h item t
  told_stays s a b t h Ended same = refl
  told_stays s a b t h Move same = ap Some (same refl)
  told_stays s a b t h (Makes (entries.Gain count page seq mode waits)) same = refl
  told_stays s a b t h (Makes (entries.Yield count page seq left)) same = refl
  told_stays s a b t h (Makes (entries.Poll count ord time bits)) same = refl
  told_stays s a b t h (Makes (entries.Touch count ord input)) same = ap Some (same refl)
  told_stays s a b t h (Makes (entries.End count)) same = refl

  module _ (Sized : S → Type 0) (harts pages : ℕ) (local : IsLocal flat Sized harts pages) where
    abbrev Sound : Replay S → Type 0
    Sound s = IsWellHeld flat Sized harts pages s

    undisturbed_after : (s : Replay S) (g h : ℕ) (p : Option Act) (a : S) → Sound s → h ≢ g → AreOwn s g p → flat_after flat s.flat p ≡ Some a
        → IsUndisturbed flat s a h
    undisturbed_after s g h None a sound n own e =
        let same : s.flat ≡ a = same_Some _ _ e in
        record {
          count = ap (λ f. flat.count f h) (sym same);
          reserved = ap (λ f. flat.reserved_page f h) (sym same);
          need = λ _. ap (λ f. flat.need f h) (sym same);
          at_device = λ _. ap (λ f. flat.is_at_device f h) (sym same);
        }
    undisturbed_after s g h (Some act) a sound n own e = let o = own act refl in local.undisturbed s act a h sound o.has e (λ is. n (is ∙ o.by))

    devices_after : (s : Replay S) (g h : ℕ) (p : Option Act) (a : S) → Sound s → h ≢ g → AreOwn s g p
        → ((act : Act) → p ≡ Some act → is_on_devices act ≡ false) → flat_after flat s.flat p ≡ Some a → HasDevices flat s a h
    devices_after s g h None a sound n own off e =
        let same : s.flat ≡ a = same_Some _ _ e in
        record {
          lines = λ time. ap (λ f. flat.lines_at f h time) (sym same);
          stopped = ap flat.is_stopped (sym same);
          suits = λ _ input. ap (λ f. flat.suits f h input) (sym same);
        }
    devices_after s g h (Some act) a sound n own off e = let o = own act refl in local.devices s act a h sound o.has e (λ is. n (is ∙ o.by)) (off act refl)

    ends : (s : Replay S) (g h : ℕ) (p q : Option Act) (a b : S) → Sound s → g ≢ h → AreOwn s g p → AreOwn s h q
        → ((one two : Act) → p ≡ Some one → q ≡ Some two → is_on_devices one ≡ true → is_on_devices two ≡ true → ⊥)
        → flat_after flat s.flat p ≡ Some a → flat_after flat s.flat q ≡ Some b → Ends s g h p q a b
    ends s g h None None a b sound n own_p own_q apart did_p did_q =
        record {
          end = s.flat;
          then_two = sym did_p;
          then_one = sym did_q;
          told_one = λ m. absurd (true≢false (sym m));
          told_two = λ m. absurd (true≢false (sym m));
        }
    ends s g h None (Some two) a b sound n own_p own_q apart did_p did_q =
        let same : s.flat ≡ a = same_Some _ _ did_p in
        record {
          end = b;
          then_two = ap (λ f. flat.next f two) (sym same) ∙ did_q;
          then_one = refl;
          told_one = λ m. absurd (true≢false (sym m));
          told_two = λ m. ap (λ f. flat.told f h b) same;
        }
    ends s g h (Some one) None a b sound n own_p own_q apart did_p did_q =
        let same : s.flat ≡ b = same_Some _ _ did_q in
        record {
          end = a;
          then_two = refl;
          then_one = ap (λ f. flat.next f one) (sym same) ∙ did_p;
          told_one = λ m. ap (λ f. flat.told f g a) same;
          told_two = λ m. absurd (true≢false (sym m));
        }
    ends s g h (Some one) (Some two) a b sound n own_p own_q apart did_p did_q =
        let o = own_p one refl in
        let w = own_q two refl in
        let met = local.meet s one two a b sound (λ e. n (sym o.by ∙ e ∙ w.by)) (apart one two refl refl) o.has w.has did_p did_q in
        record {
          end = met.end;
          then_two = met.then_two;
          then_one = met.then_one;
          told_one = λ m. subst (λ k. flat.told s.flat k a ≡ flat.told b k met.end) o.by (met.told_one (wants_nothing s one o.has m));
          told_two = λ m. subst (λ k. flat.told s.flat k b ≡ flat.told a k met.end) w.by (met.told_two (wants_nothing s two w.has m));
        }

    -- a hart finds its part as it was when another went
    pub finds_after : (s : Replay S) (g h : ℕ) (item : Item) (a : S) → Sound s → h ≢ g → verdict_on flat s g item ≡ CanGo
        → flat_after flat s.flat (act_of flat s g item) ≡ Some a → Finds flat s (built flat s g item a) h
    finds_after s g h item a sound n go did =
        let u = undisturbed_after s g h (act_of flat s g item) a sound n (λ act e. act_is flat s g item act go e) did in
        record {
          count = u.count;
          reserved = u.reserved;
          held_is = λ page. held_stays s.holders page g h (hold_in item) n;
          need = u.need;
          at_device = u.at_device;
        }

    module _ (log : Log) (pages_right : Keeps log o5) (ordinals_right : Keeps log o8) where
      -- two harts are not both on the devices
      not_both : (s : Replay S) (g h : ℕ) (i j : Item) → g ≢ h → IsLeft log s.cursor g i → IsLeft log s.cursor h j → guard_of s.cursor i ≡ true
          → guard_of s.cursor j ≡ true → needs_devices i ≡ true → needs_devices j ≡ true → ⊥
      not_both s g h i j n left_i left_j guard_i guard_j d_i d_j =
          let x = has_ordinal s.cursor i d_i guard_i in
          let y = has_ordinal s.cursor j d_j guard_j in
          one_ordinal log pages_right ordinals_right s.cursor g h s.cursor.ordinal x.entry y.entry n (subst (IsLeft log s.cursor g) x.is left_i)
          (subst (IsLeft log s.cursor h) y.is left_j) x.ordinal y.ordinal

      -- the second hart's step after the first's
      then_goes : (s b : Replay S) (g h : ℕ) (x y : Item) (a end : S) (f : Option V) → Sound s → h ≢ g
          → verdict_on flat s g x ≡ CanGo → flat_after flat s.flat (act_of flat s g x) ≡ Some a
          → next_item flat log s h ≡ y → verdict_on flat s h y ≡ CanGo → IsMade y
          → (needs_devices x ≡ true → needs_devices y ≡ true → ⊥) → guard_of (cursor_after s.cursor g x) y ≡ true
          → flat_after flat a (act_of flat s h y) ≡ Some end
          → (is_move (act_of flat s h y) ≡ true → flat.told s.flat h b.flat ≡ flat.told a h end) → f ≡ told_of flat s h y b
          → step flat log h (built flat s g x a) ≡ Some (built flat (built flat s g x a) h y end, f)
      then_goes s b g h x y a end f sound n go_x did_x next_y go_y real alone guard did_y told is =
          let m = built flat s g x a in
          let finds : Finds flat s (built flat s g x a) h = finds_after s g h x a sound n go_x did_x in
          let next : next_item flat log (built flat s g x a) h ≡ y = ap₂ item_at finds.count (left_stays log s.cursor g h x n) ∙ next_y in
          let off : needs_devices y ≡ true → needs_devices x ≡ false = λ d. is_off (needs_devices x) (λ e. alone e d) in
          let devices : needs_devices y ≡ true → HasDevices flat s a h =
          λ d. devices_after s g h (act_of flat s g x) a sound n (λ act e. act_is flat s g x act go_x e) (λ act e. calm _ g x act (off d) e) did_x in
          let go : verdict_on flat (built flat s g x a) h y ≡ CanGo = verdict_stays flat s (built flat s g x a) h y finds devices guard go_y in
          step_goes flat log (built flat s g x a) h y end next go real (ap (flat_after flat a) (act_stays flat s (built flat s g x a) h y finds) ∙ did_y)
          ∙ ap (λ o. Some (built flat (built flat s g x a) h y end, o))
          (sym (is ∙ told_stays s (built flat s g x a) b (built flat (built flat s g x a) h y end) h y told))
        where
          is_off : (b : Bool) → (b ≡ true → ⊥) → b ≡ false
          is_off true f = absurd (f refl)
          is_off false f = refl

      apart_by : (s : Replay S) (g h : ℕ) (x y : Item) → (needs_devices x ≡ true → needs_devices y ≡ true → ⊥) → (one two : Act)
          → act_of flat s g x ≡ Some one → act_of flat s h y ≡ Some two → is_on_devices one ≡ true → is_on_devices two ≡ true → ⊥
      apart_by s g h x y alone one two is_one is_two on_one on_two = by (needs_devices x) (needs_devices y) refl refl where
        by : (b c : Bool) → needs_devices x ≡ b → needs_devices y ≡ c → ⊥
        by true true d e = alone d e
        by false c d e = true≢false (sym on_one ∙ calm _ g x one d is_one)
        by true false d e = true≢false (sym on_two ∙ calm _ h y two e is_two)

      pub steps_commute : Commutes (step flat log) Sound
      steps_commute s a b e f g h sound n did_g did_h =
          let x = step_went flat log s a g e did_g in
          let y = step_went flat log s b h f did_h in
          let turned : h ≢ g = λ z. n (sym z) in
          let left_x = is_left log s.cursor (flat.count s.flat g) g x.item x.next in
          let left_y = is_left log s.cursor (flat.count s.flat h) h y.item y.next in
          let guard_x = guard_met flat s g x.item x.go in
          let guard_y = guard_met flat s h y.item y.go in
          let alone = not_both s g h x.item y.item n left_x left_y guard_x guard_y in
          let t = takings log pages_right ordinals_right s.cursor g h x.item y.item n left_x left_y guard_x guard_y in
          let met = ends s g h (act_of flat s g x.item) (act_of flat s h y.item) a.flat b.flat sound n (λ act is. act_is flat s g x.item act x.go is)
          (λ act is. act_is flat s h y.item act y.go is)
          (apart_by s g h x.item y.item alone) x.flat_is y.flat_is in
          let two = then_goes s b g h x.item y.item a.flat met.end f sound turned x.go x.flat_is y.next y.go y.real alone t.guard_two met.then_two
          met.told_two y.told_is in
          let one = then_goes s a h g y.item x.item b.flat met.end e sound n y.go y.flat_is x.next x.go x.real
          (λ d c. alone c d) t.guard_one met.then_one met.told_one x.told_is in
          let same : built flat (built flat s h y.item b.flat) g x.item met.end ≡ built flat (built flat s g x.item a.flat) h y.item met.end =
          λ i. record { flat = met.end; cursor = sym t.same i; holders = tables_meet s.holders h g (hold_in y.item) (hold_in x.item) turned i } in (
            built flat (built flat s g x.item a.flat) h y.item met.end,
            ap (step flat log h) x.built_is ∙ two,
            ap (step flat log g) y.built_is ∙ one ∙ ap (λ z. Some (z, e)) same,
          )
