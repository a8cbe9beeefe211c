-- Items that are made and allowed, one after another; and what they leave of other harts.
use Rattle.std.proofs.Common.{◌≡◌, ◌≢◌, ℕ, List, [], ◌∷◌, ◌++◌, map, sym, ap, ◌∙◌, subst}
use Rattle.flat_machine.specs.declared.act.Act.TheVariants.{Run}
use Rattle.replay_model.specs.Flat.{Flat}
use Rattle.replay_model.specs.Items.{Item, Ended, Move, Makes}
use Rattle.crew_recording.specs.Recording.{Recording, IsSteady, IsRecorded, Records, stream_in}
use Rattle.crew_recording.specs.Allowed.{IsTimed, AreAllowed}
use Rattle.replay_model.specs.Journal.{IsWantedGain}
use Rattle.crew_recording.proofs.Obedience.{EachMade}
use Rattle.crew_recording.proofs.Streams.{stream_there}
use Rattle.crew_recording.proofs.OrderedRecordings.{IsOrdered, acts_on, made_entry, ordered_item}

module _ {S V : Type 0} (flat : Flat S V) (pages limit : ℕ) where
  -- these items are made, each is allowed, and each Gain is wanted
  abbrev pub Made : Recording S → List (ℕ × Item) → Recording S → Type 0
  Made r items s = (is : Records flat r items s) × AreAllowed flat pages limit r s items is × EachMade flat (IsWantedGain flat) r s items is

  pub made_after : (r m s : Recording S) (xs ys : List (ℕ × Item)) → Made r xs m → Made m ys s → Made r (xs ++ ys) s
  made_after r m s [] ys a b = subst (λ (x : Recording S). Made x ys s) (sym a.0) b
  made_after r m s (x ∷ xs) ys a b =
      let rest = made_after a.0.0 m s xs ys (a.0.2, a.1.1, a.2.1) b in
      ((a.0.0, a.0.1, rest.0), (a.1.0, rest.1), (a.2.0, rest.2))

module _ {S V : Type 0} (flat : Flat S V) (harts : ℕ) (Good : S → Type 0) (steady : IsSteady flat harts Good) (timed : IsTimed flat Good)
    (pages limit : ℕ) where
  -- another hart's stream and count
  pub record SameOf (g : ℕ) (r s : Recording S) : Type 0 where
    pub stream : stream_in s.streams g ≡ stream_in r.streams g
    pub count : flat.count s.at.flat g ≡ flat.count r.at.flat g

  one_same : (r m : Recording S) (h g : ℕ) (item : Item) → g ≢ h → IsOrdered flat harts Good steady timed pages limit r → IsRecorded flat r h item m
      → SameOf g r m
  one_same r m h g Ended n ordered one = absurd one.stands
  one_same r m h g Move n ordered one =
      let k = acts_on flat harts Good steady timed pages limit r.at m.at (Run h) one.made in
      record {
        stream = ap (λ ss. stream_in ss g) one.streams;
        count = ap (λ f. flat.count f g) k.2 ∙ timed.others r.at.flat k.0 (Run h) g ordered.tidy.good k.1 n;
      }
  one_same r m h g (Makes e) n ordered one =
      let x = made_entry flat harts Good steady timed pages limit r m h e ordered.tidy.good one in
      record { stream = ap (λ ss. stream_in ss g) x.streams ∙ stream_there r.streams h g (stream_in r.streams h ++ e ∷ []) n; count = x.did.others g n }

  pub others_same : (r s : Recording S) (h g : ℕ) (items : List Item) → g ≢ h → IsOrdered flat harts Good steady timed pages limit r
      → Made flat pages limit r (map (λ item. (h, item)) items) s → SameOf g r s
  others_same r s h g [] n ordered made =
      record { stream = sym (ap (λ (x : Recording S). stream_in x.streams g) made.0); count = sym (ap (λ (x : Recording S). flat.count x.at.flat g) made.0) }
  others_same r s h g (item ∷ items) n ordered made =
      let one = one_same r made.0.0 h g item n ordered made.0.1 in
      let rest = others_same made.0.0 s h g items n (ordered_item flat harts Good steady timed pages limit r made.0.0 h item ordered made.0.1 made.1.0)
      (made.0.2, made.1.1, made.2.1) in
      record { stream = rest.stream ∙ one.stream; count = rest.count ∙ one.count }
