-- Where the steps of a turn come to, and what an entry leaves.
use Rattle.std.proofs.Common.{◌≡◌, ◌⊎◌, inl, inr, ℕ, zero, suc, ◌+◌, ◌<◌, ◌≤◌, ◌&&◌, not, cond, Bool, true, false, List, [], ◌∷◌, ◌++◌, length, find, Option}
use Rattle.std.proofs.Common.{nat_lt, nat_le, Some, None, slice_get, slice_set, unwrap_or, refl, sym, ap, ap₂, ◌∙◌, subst, arith, if◌then◌else◌, true≢false}
use Rattle.std.specs.Option.{option_map, option_or}
use Rattle.std.proofs.lemmas.Option.{none-some, same_Some, slice_get_past}
use Rattle.std.proofs.lemmas.Bool.Decides.{eqb_tells, leb_tells}
use Rattle.std.proofs.lemmas.List.Folds.{find-append}
use Rattle.rv_words.specs.declared.shared.Mode.{Mode}
use Rattle.log_entry.specs.declared.log.Entry.{Entry}
use Rattle.log_entry.specs.declared.log.Entry.TheVariants as entries
use Rattle.log_entry.specs.Parts.{is_touch, conflict}
use Rattle.orders_law.specs.Orders.{below}
use Rattle.flat_machine.specs.declared.act.Act.{Act}
use Rattle.flat_machine.specs.declared.act.Act.TheVariants.{Touch, Poll, Lose}
use Rattle.order_rules.specs.Holders.{Holders, row, held, with_held}
use Rattle.replay_model.specs.State.{Replay}
use Rattle.replay_model.specs.Items.{Makes, made, acted, effect, past, holds, ends_reservation}
use Rattle.shared_types.proofs.Lists.{mapped}
use Rattle.std.proofs.lemmas.List.{length-set}
use Rattle.std.proofs.lemmas.Bool.{le-ltb, ltb-true, le-leb, ltb-false, lt-ltb, leb-false, leb-true}
use Rattle.crew_recording.proofs.OrderedRecordings.{acts_on, did_entry}
use Rattle.turn_model.specs.Recordable.{Recordable}
use Rattle.turn_model.specs.Board.{Board, Order, Terms, stream, count}
use Rattle.turn_model.specs.Ways.{Way, On, Ends, Nowhere, on, entered}
use Rattle.turn_model.specs.Ways as ways
use Rattle.turn_model.specs.Faithful.{IsFaithful}
use Rattle.turn_model.proofs.Entries.{after_entry}

-- what tests and comparisons tell
pub no_and : (x : Bool) → (x && false) ≡ false
no_and true = refl
no_and false = refl

pub one_false : (x y : Bool) → (x && y) ≡ false → x ≡ true → y ≡ false
one_false true y e is = e
one_false false y e is = absurd (true≢false (sym is))

pub not_before : (a b : ℕ) → nat_lt a b ≡ true → nat_lt b a ≡ false
not_before a b t = le-ltb b a (let l = ltb-true a b t in omega (arith, l))

pub so_is : (a b : ℕ) → nat_lt b a ≡ false → nat_le a b ≡ true
so_is a b e = le-leb a b (ltb-false b a e)

pub not_so : (a b : ℕ) → nat_le a b ≡ false → nat_lt b a ≡ true
not_so a b e = lt-ltb b a (leb-false a b e)

pub lt_of_le : (a b : ℕ) → nat_le a b ≡ true → nat_lt b a ≡ false
lt_of_le a b e = le-ltb b a (leb-true a b e)

-- where a way comes to: this where it goes on, that where it ended
abbrev pub Out : {S : Type 0} → (Board S → Type 0) → (Order → Board S → Type 0) → Way S → Type 0
Out D Q (On b) = D b
Out D Q (Ends order b) = Q order b
Out D Q Nowhere = Unit {0}

pub further : {S : Type 0} (D E : Board S → Type 0) (Q : Order → Board S → Type 0) (steps : List (Board S → Way S)) (way : Way S) → Out D Q way
    → ((c : Board S) → D c → Out E Q (ways.goes steps (On c))) → Out E Q (ways.goes steps way)
further D E Q steps (On c) comes more = more c comes
further D E Q [] (Ends order c) comes more = comes
further D E Q (step ∷ steps) (Ends order c) comes more = comes
further D E Q [] Nowhere comes more = tt
further D E Q (step ∷ steps) Nowhere comes more = tt

pub choice : {S : Type 0} (D : Board S → Type 0) (Q : Order → Board S → Type 0) (c : Bool) (x y : Way S) → (c ≡ true → Out D Q x) → (c ≡ false → Out D Q y)
    → Out D Q (if c then x else y)
choice D Q true x y f g = f refl
choice D Q false x y f g = g refl

pub once : {S : Type 0} (D : Board S → Type 0) (Q : Order → Board S → Type 0) (o : Option (Board S)) → ((d : Board S) → o ≡ Some d → D d) → Out D Q (on o)
once D Q None f = tt
once D Q (Some d) f = f d refl

-- membership
abbrev pub In : ℕ → List ℕ → Type 0
In p [] = ⊥
In p (x ∷ xs) = (p ≡ x) ⊎ In p xs

in_more : (p : ℕ) (xs ys : List ℕ) → In p xs ⊎ In p ys → In p (xs ++ ys)
in_more p [] ys (inl i) = absurd i
in_more p [] ys (inr i) = i
in_more p (x ∷ xs) ys (inl (inl e)) = inl e
in_more p (x ∷ xs) ys (inl (inr i)) = inr (in_more p xs ys (inl i))
in_more p (x ∷ xs) ys (inr i) = inr (in_more p xs ys (inr i))

pub in_below : (n p : ℕ) → p < n → In p (below n)
in_below zero p l = absurd (omega (arith, l))
in_below (suc n) p l = elim (eqb_tells p n) [
  | inl (t, same) ↦ in_more p (below n) (n ∷ []) (inr (inl same))
  | inr (f, other) ↦ in_more p (below n) (n ∷ []) (inl (in_below n p (omega (arith, l, other))))
]

-- and where none passes, none is found
pub none_found : (test : ℕ → Bool) (n : ℕ) → ((i : ℕ) → i < n → test i ≡ false) → find test (below n) ≡ None
none_found test zero f = refl
none_found test (suc n) f =
    find-append test (below n) (n ∷ []) ∙ ap₂ option_or (none_found test n (λ i l. f i (omega (arith, l)))) (ap (λ b. cond b (Some n) None) (f n (omega arith)))

-- a hold that was set stands there, or the place isn't there
set_or : {X : Type 0} (xs : List X) (i : ℕ) (x : X) → (slice_get (slice_set xs i x) i ≡ Some x) ⊎ (slice_get (slice_set xs i x) i ≡ slice_get xs i)
set_or [] i x = inr refl
set_or (y ∷ xs) zero x = inl refl
set_or (y ∷ xs) (suc i) x = set_or xs i x

pub held_set : (holders : Holders) (page h : ℕ) (hold : Option Mode) → (held (with_held holders page h hold) page h ≡ hold)
    ⊎ (held (with_held holders page h hold) page h ≡ held holders page h)
held_set holders page h hold = elim (set_or holders page (slice_set (row holders page) h hold)) [
  | inl e ↦ elim (set_or (row holders page) h hold) [
    | inl z ↦ inl (ap (λ o. unwrap_or (slice_get (unwrap_or o []) h) None) e ∙ ap (λ o. unwrap_or o None) z)
    | inr z ↦ inr (ap (λ o. unwrap_or (slice_get (unwrap_or o []) h) None) e ∙ ap (λ o. unwrap_or o None) z)
  ]
  | inr e ↦ inr (ap (λ o. unwrap_or (slice_get (unwrap_or o []) h) None) e)
]

-- who holds a page is in the table
pub held_inside : (holders : Holders) (page h : ℕ) (mode : Mode) → conflict (held holders page h) (Some mode) ≡ true → (page < length holders)
    × (h < length (row holders page))
held_inside holders page h mode e = (
  elim (leb_tells (length holders) page) [
    | inr (f, l) ↦ omega (arith, l)
    | inl (t, l) ↦ absurd (true≢false (sym e ∙ ap (λ o. conflict (unwrap_or (slice_get (unwrap_or o []) h) None) (Some mode)) (slice_get_past holders page l)))
  ],
  elim (leb_tells (length (row holders page)) h) [
    | inr (f, l) ↦ omega (arith, l)
    | inl (t, l) ↦ absurd (true≢false (sym e ∙ ap (λ o. conflict (unwrap_or o None) (Some mode)) (slice_get_past (row holders page) h l)))
  ],
)

pub both_true : (x y : Bool) → (x && y) ≡ true → (x ≡ true) × (y ≡ true)
both_true true true e = (refl, refl)
both_true true false e = absurd (true≢false (sym e))
both_true false y e = absurd (true≢false (sym e))

pub not_true : (x : Bool) → not x ≡ true → x ≡ false
not_true true e = absurd (true≢false (sym e))
not_true false e = refl

module _ {S V : Type 0} (machine : Recordable S V) (terms : Terms) (many pages : ℕ) (Good : S → Type 0)
    (faithful : IsFaithful machine.flat many pages Good) where
  pub acted_holders : (s t : Replay S) (act : Act) → acted machine.flat s act ≡ Some t → t.holders ≡ s.holders
  acted_holders s t act e = sym (ap (λ (x : Replay S). x.holders) (mapped (λ (f : S). record s { flat = f }) (machine.flat.next s.flat act) t e).2)

  yield_holders : (s t : Replay S) (h page : ℕ) (left : Option Mode) (b : Bool)
      → option_map (holds machine.flat page h left) (if b then acted machine.flat s (Lose h) else Some s) ≡ Some t → t.holders ≡ with_held s.holders page h left
  yield_holders s t h page left false e = sym (ap (λ (x : Replay S). x.holders) (same_Some _ _ e))
  yield_holders s t h page left true e =
      let a = mapped (holds machine.flat page h left) (acted machine.flat s (Lose h)) t e in
      sym (ap (λ (x : Replay S). x.holders) a.2) ∙ ap (λ hs. with_held hs page h left) (acted_holders s a.0 (Lose h) a.1)

  abbrev pub held_after : ℕ → Entry → Holders → Holders
  held_after h (entries.Gain count page seq mode waits) holders = with_held holders page h (Some mode)
  held_after h (entries.Yield count page seq left) holders = with_held holders page h left
  held_after h e holders = holders

  pub holders_are : (s t : Replay S) (h : ℕ) (e : Entry) → effect machine.flat s h e ≡ Some t → t.holders ≡ held_after h e s.holders
  holders_are s t h (entries.Gain count page seq mode waits) is = sym (ap (λ (x : Replay S). x.holders) (same_Some _ _ is))
  holders_are s t h (entries.Yield count page seq left) is = yield_holders s t h page left (ends_reservation machine.flat s h page) is
  holders_are s t h (entries.Poll count ord time bits) is = acted_holders s t (Poll h time) is
  holders_are s t h (entries.Touch count ord input) is = acted_holders s t (Touch h input) is
  holders_are s t h (entries.End count) is = absurd (none-some _ is)

  act_good : (s t : Replay S) (act : Act) → Good s.flat → acted machine.flat s act ≡ Some t → Good t.flat
  act_good s t act good is =
      let a = acts_on machine.flat many Good faithful.steady faithful.timed pages terms.limit s t act is in
      subst Good (sym a.2) (faithful.steady.lasts s.flat a.0 act good a.1)

  yield_good : (s t : Replay S) (h page : ℕ) (left : Option Mode) (b : Bool) → Good s.flat
      → option_map (holds machine.flat page h left) (if b then acted machine.flat s (Lose h) else Some s) ≡ Some t → Good t.flat
  yield_good s t h page left false good e = subst Good (ap (λ (x : Replay S). x.flat) (same_Some _ _ e)) good
  yield_good s t h page left true good e =
      let a = mapped (holds machine.flat page h left) (acted machine.flat s (Lose h)) t e in
      subst Good (ap (λ (x : Replay S). x.flat) a.2) (act_good s a.0 (Lose h) good a.1)

  effect_good : (s t : Replay S) (h : ℕ) (e : Entry) → Good s.flat → effect machine.flat s h e ≡ Some t → Good t.flat
  effect_good s t h (entries.Gain count page seq mode waits) good is = subst Good (ap (λ (x : Replay S). x.flat) (same_Some _ _ is)) good
  effect_good s t h (entries.Yield count page seq left) good is = yield_good s t h page left (ends_reservation machine.flat s h page) good is
  effect_good s t h (entries.Poll count ord time bits) good is = act_good s t (Poll h time) good is
  effect_good s t h (entries.Touch count ord input) good is = act_good s t (Touch h input) good is
  effect_good s t h (entries.End count) good is = absurd (none-some _ is)

  -- what an entry leaves of a board
  pub record Did (h : ℕ) (e : Entry) (b d : Board S) : Type 0 where
    pub holders : d.at.holders ≡ held_after h e b.at.holders
    pub favoured : d.favoured ≡ b.favoured
    pub size : length d.streams ≡ length b.streams
    pub good : Good d.at.flat

  pub did : (h : ℕ) (e : Entry) (b d : Board S) → Good b.at.flat → entered machine terms h e b ≡ Some d → Did h e b d
  did h e b d good is =
      let a =
      mapped (λ (s : Replay S). record b { at = s; streams = slice_set b.streams h (stream b h ++ e ∷ []) }) (made machine.flat b.at h (Makes e)) d is in
      let i = mapped (past machine.flat h e) (effect machine.flat b.at h e) a.0 a.1 in
      record {
        holders = sym (ap (λ (x : Board S). x.at.holders) a.2) ∙ sym (ap (λ (x : Replay S). x.holders) i.2) ∙ holders_are b.at i.0 h e i.1;
        favoured = sym (ap (λ (x : Board S). x.favoured) a.2);
        size = sym (ap (λ (x : Board S). length x.streams) a.2) ∙ length-set b.streams h (stream b h ++ e ∷ []);
        good = subst Good (ap (λ (x : Replay S). x.flat) i.2 ∙ ap (λ (x : Board S). x.at.flat) a.2) (effect_good b.at i.0 h e good i.1);
      }

  -- a Touch raises its hart's count
  pub rises_by : (h : ℕ) (e : Entry) (c d : Board S) → Good c.at.flat → entered machine terms h e c ≡ Some d
      → machine.flat.count c.at.flat h ≤ machine.flat.count d.at.flat h
  rises_by h e c d good is =
      let a =
      mapped (λ (s : Replay S). record c { at = s; streams = slice_set c.streams h (stream c h ++ e ∷ []) }) (made machine.flat c.at h (Makes e)) d is in
      let i = mapped (past machine.flat h e) (effect machine.flat c.at h e) a.0 a.1 in
      let k =
      sym (ap (λ (x : Board S). machine.flat.count x.at.flat h) a.2) ∙ sym (ap (λ (x : Replay S). machine.flat.count x.flat h) i.2)
      ∙ (did_entry machine.flat many Good faithful.steady faithful.timed pages terms.limit c.at i.0 h e good i.1).own in
      by (is_touch e) k
    where
      by : (x : Bool) → machine.flat.count d.at.flat h ≡ (if x then machine.flat.count c.at.flat h + 1 else machine.flat.count c.at.flat h)
          → machine.flat.count c.at.flat h ≤ machine.flat.count d.at.flat h
      by true e = omega (arith, e)
      by false e = omega (arith, e)

  -- a board in a turn of h, before its Touch
  pub record Same (h : ℕ) (b c : Board S) : Type 0 where
    pub good : Good c.at.flat
    pub wants : c.wants ≡ b.wants
    pub favoured : c.favoured ≡ b.favoured
    pub size : length c.streams ≡ length b.streams
    pub own : machine.flat.count c.at.flat h ≡ machine.flat.count b.at.flat h
    pub closed : c.closed ≡ b.closed
    pub stopped : machine.flat.is_stopped c.at.flat ≡ machine.flat.is_stopped b.at.flat

  pub same_entry : (h : ℕ) (e : Entry) (b c d : Board S) → is_touch e ≡ false → Same h b c → entered machine terms h e c ≡ Some d → Same h b d
  same_entry h e b c d plain same is =
      let x = did h e c d same.good is in
      let y = after_entry machine terms many pages Good faithful h e c d same.good is in
      record {
        good = x.good;
        wants = y.wants ∙ same.wants;
        favoured = x.favoured ∙ same.favoured;
        size = x.size ∙ same.size;
        own = y.own plain ∙ same.own;
        closed = y.closed ∙ same.closed;
        stopped = y.stopped plain ∙ same.stopped;
      }
