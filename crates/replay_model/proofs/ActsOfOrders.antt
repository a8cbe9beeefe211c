-- An order drives the flat machine by the acts of its items.
use Rattle.std.proofs.Common.{◌≡◌, ℕ, Bool, true, false, List, [], ◌∷◌, ◌++◌, map, Option, Some, None, refl, sym, ap, ◌∙◌, if◌then◌else◌}
use Rattle.std.specs.Option.{option_map, option_and_then, option_map_or}
use Rattle.std.proofs.lemmas.Option.{none-some, same_Some}
use Rattle.orders_law.specs.Orders.{Leads}
use Rattle.log_entry.specs.declared.log.Entry.{Entry}
use Rattle.log_entry.specs.declared.log.Entry.TheVariants as entries
use Rattle.log_entry.specs.declared.log.Log.{Log}
use Rattle.rv_words.specs.declared.shared.Mode.{Mode}
use Rattle.flat_machine.specs.State.{FlatState}
use Rattle.flat_machine.specs.Runs.{run_from}
use Rattle.flat_machine.specs.Acts.{next}
use Rattle.flat_machine.specs.declared.act.Act.{Act}
use Rattle.flat_machine.specs.declared.act.Act.TheVariants.{Run, Touch, Poll, Lose}
use Rattle.replay_model.specs.Board.{board}
use Rattle.replay_model.specs.Flat.{Flat}
use Rattle.replay_model.specs.State.{Replay}
use Rattle.replay_model.specs.Items.{Item, Ended, Move, Makes, Verdict, HasEnded, Holds, CanGo, HasDiverged, verdict_on, made, acted, effect, past}
use Rattle.replay_model.specs.Items.{holds, told_of, goes, ends_reservation, next_item, step}
use Rattle.replay_model.specs.Acts.{acts_of_item, acts_of, run_along}
use Rattle.replay_model.specs.Laws.{OrdersDrive}

pub mapped : {A B : Type 0} (f : A → B) (o : Option A) (b : B) → option_map f o ≡ Some b → (a : A) × (o ≡ Some a) × (f a ≡ b)
mapped f None b e = absurd (none-some _ e)
mapped f (Some a) b e = (a, refl, same_Some _ _ e)

then_same : {A B : Type 0} (f g : A → Option B) → ((a : A) → f a ≡ g a) → (o : Option A) → option_and_then f o ≡ option_and_then g o
then_same f g same None = refl
then_same f g same (Some a) = same a

then_then : {A B C : Type 0} (f : A → Option B) (g : B → Option C) (o : Option A)
    → option_and_then g (option_and_then f o) ≡ option_and_then (λ a. option_and_then g (f a)) o
then_then f g None = refl
then_then f g (Some a) = refl

module _ {S V : Type 0} (flat : Flat S V) where
  along : (s : S) (xs ys : List Act) → run_along flat s (xs ++ ys) ≡ option_and_then (λ t. run_along flat t ys) (run_along flat s xs)
  along s [] ys = refl
  along s (act ∷ xs) ys =
      then_same (λ t. run_along flat t (xs ++ ys)) (λ t. option_and_then (λ u. run_along flat u ys) (run_along flat t xs)) (λ t. along t xs ys)
      (flat.next s act)
      ∙ sym (then_then (λ t. run_along flat t xs) (λ u. run_along flat u ys) (flat.next s act))

  one_act : (s m : Replay S) (act : Act) → acted flat s act ≡ Some m → run_along flat s.flat (act ∷ []) ≡ Some m.flat
  one_act s m act e =
      let a = mapped (λ (f : S). record s { flat = f }) (flat.next s.flat act) m e in
      ap (option_and_then (λ t. Some t)) a.1 ∙ ap (λ (x : Replay S). Some x.flat) a.2

  yields : (s m : Replay S) (h page : ℕ) (left : Option Mode) (b : Bool) → option_map (holds flat page h left) (if b then acted flat s (Lose h) else Some s)
      ≡ Some m → run_along flat s.flat (if b then Lose h ∷ [] else []) ≡ Some m.flat
  yields s m h page left true e =
      let a = mapped (holds flat page h left) (acted flat s (Lose h)) m e in
      one_act s a.0 (Lose h) a.1 ∙ ap (λ (x : Replay S). Some x.flat) a.2
  yields s m h page left false e = ap (λ (x : Replay S). Some x.flat) (same_Some _ _ e)

  one_entry : (s m : Replay S) (h : ℕ) (e : Entry) → effect flat s h e ≡ Some m → run_along flat s.flat (acts_of_item flat s h (Makes e)) ≡ Some m.flat
  one_entry s m h (entries.Gain count page seq mode waits) is = ap (λ (x : Replay S). Some x.flat) (same_Some _ _ is)
  one_entry s m h (entries.Yield count page seq left) is = yields s m h page left (ends_reservation flat s h page) is
  one_entry s m h (entries.Poll count ord time bits) is = one_act s m (Poll h time) is
  one_entry s m h (entries.Touch count ord input) is = one_act s m (Touch h input) is
  one_entry s m h (entries.End count) is = absurd (none-some _ is)

  pub one_item : (s m : Replay S) (h : ℕ) (item : Item) → made flat s h item ≡ Some m → run_along flat s.flat (acts_of_item flat s h item) ≡ Some m.flat
  one_item s m h Ended is = absurd (none-some _ is)
  one_item s m h Move is = one_act s m (Run h) is
  one_item s m h (Makes e) is =
      let a = mapped (past flat h e) (effect flat s h e) m is in
      one_entry s a.0 h e a.1 ∙ ap (λ (x : Replay S). Some x.flat) a.2

  pub went : (s m : Replay S) (h : ℕ) (item : Item) (v : Verdict) (w : Option V) → goes flat s h item v ≡ Some (m, w) → made flat s h item ≡ Some m
  went s m h item CanGo w is =
      let a = mapped (λ (t : Replay S). (t, told_of flat s h item t)) (made flat s h item) (m, w) is in
      a.1 ∙ ap (λ (x : Replay S × Option V). Some x.0) a.2
  went s m h item HasEnded w is = absurd (none-some _ is)
  went s m h item Holds w is = absurd (none-some _ is)
  went s m h item (HasDiverged rule) w is = absurd (none-some _ is)

  pub leads_along : (log : Log) (s t : Replay S) (made : List (ℕ × Option V)) → Leads (step flat log) s made t
      → run_along flat s.flat (acts_of flat log s (map (λ m. m.0) made)) ≡ Some t.flat
  leads_along log s t [] is = ap (λ (x : Replay S). Some x.flat) is
  leads_along log s t (x ∷ made) is =
      let order = map (λ (m : ℕ × Option V). m.0) made in
      let acts = acts_of_item flat s x.0 (next_item flat log s x.0) in
      ap (λ o. run_along flat s.flat (option_map_or (λ (m : Replay S × Option V). acts ++ acts_of flat log m.0 order) o [])) is.1
      ∙ along s.flat acts (acts_of flat log is.0 order)
      ∙ ap (option_and_then (λ u. run_along flat u (acts_of flat log is.0 order)))
      (one_item s is.0 x.0 (next_item flat log s x.0) (went s is.0 x.0 (next_item flat log s x.0)
      (verdict_on flat s x.0 (next_item flat log s x.0)) x.1 is.1))
      ∙ leads_along log is.0 t made is.2

pub board_runs : (unit : ℕ) (s : FlatState) (acts : List Act) → run_from s acts ≡ run_along (board unit) s acts
board_runs unit s [] = refl
board_runs unit s (act ∷ acts) = then_same (λ t. run_from t acts) (λ t. run_along (board unit) t acts) (λ t. board_runs unit t acts) (next act s)

pub orders_drive : OrdersDrive
orders_drive unit log s t order obeys =
    board_runs unit s.flat (acts_of (board unit) log s order)
    ∙ ap (λ o. run_along (board unit) s.flat (acts_of (board unit) log s o)) (sym obeys.1)
    ∙ leads_along (board unit) log s t obeys.0 obeys.2
