-- Turns make items that are allowed, one after another, and the journal counts these.
use Rattle.std.proofs.Common.{◌≡◌, ◌≢◌, ◌⊎◌, inl, inr, ℕ, zero, suc, ◌+◌, ◌<◌, ◌==◌, not, true, false, List, [], ◌∷◌, ◌++◌, length, map, replicate, Option}
use Rattle.std.proofs.Common.{Some, None, slice_get, slice_set, unwrap_or, refl, sym, ap, ap₂, ◌∙◌, subst, arith, append-nil, append_assoc}
use Rattle.std.proofs.lemmas.Option.{none-some, same_Some}
use Rattle.std.proofs.lemmas.Grind.{flat_map-append}
use Rattle.std.proofs.lemmas.List.{length-append, map-append, length-replicate, length-set}
use Rattle.std.proofs.lemmas.Bool.{ne_eqb}
use Rattle.rv_words.specs.declared.shared.Mode.{Mode}
use Rattle.replay_model.specs.State.{Replay, want}
use Rattle.replay_model.specs.Items.{Item, Move, verdict_on, made, goes}
use Rattle.replay_model.specs.Journal.{order_of}
use Rattle.std.proofs.lemmas.Bool.Decides.{eqb_tells}
use Rattle.shared_types.proofs.Lists.{bound_to, set_here, set_there}
use Rattle.log_entry.specs.declared.log.Entry.{Entry}
use Rattle.crew_recording.specs.Recording.{Recording, IsRecorded, stream_in}
use Rattle.crew_recording.specs.Allowed.{IsPolled}
use Rattle.crew_recording.proofs.Items.{moves}
use Rattle.crew_recording.proofs.Tables.{fits_all}
use Rattle.crew_recording.proofs.OrderedRecordings.{IsOrdered, ordered_item}
use Rattle.crew_recording.proofs.Behind.{ordered_all}
use Rattle.crew_recording.proofs.Together.{Made, made_after, SameOf, others_same}
use Rattle.turn_model.specs.Recordable.{Recordable}
use Rattle.turn_model.specs.Board.{Board, Order, Go, Hold, Rest, Terms, last_order, wanted}
use Rattle.turn_model.specs.Ways.{Way, On, Ends, Nowhere}
use Rattle.turn_model.specs.Ways as ways
use Rattle.turn_model.specs.Steps.{runs, commits, steps, rests_where_closed, polls, yields, rests_at_limit, gains, touches, goes_on}
use Rattle.turn_model.specs.Turn.{turn, ended_by, items_made, with_row, with_rows, with_order}
use Rattle.turn_model.specs.Faithful.{IsFaithful}
use Rattle.turn_model.proofs.Ways.{recording_of, by_one, IsSoundBoard, OrderIs, AreMeant, all_meant, meant_then, further}
use Rattle.turn_model.proofs.StepInvariants.{Walks, Preserves, steps_walk}
use Rattle.turn_model.proofs.Entries.{can_and_does, Committed, committed}
use Rattle.turn_model.proofs.Steps.{Any, Polled, Below, To, rests_where_closed_to, polls_to, yields_come, rests_at_limit_to, below_limit, gains_to, touches_to}
use Rattle.turn_model.proofs.Steps.{goes_on_to}

-- an order with one row more
order_more : (h m : ℕ) (rows : List (ℕ × ℕ)) → order_of (with_row (not (m == 0)) (h, m) rows) ≡ order_of rows ++ replicate m h
order_more h zero rows = sym (append-nil (order_of rows))
order_more h (suc m) rows =
    ap (λ x. order_of (with_row (not x) (h, suc m) rows)) (ne_eqb (suc m) 0 (λ e. absurd (omega (arith, e))))
    ∙ flat_map-append (λ (row : ℕ × ℕ). replicate row.1 row.0) rows ((h, suc m) ∷ []) ∙ ap (λ zs. order_of rows ++ zs) (append-nil (replicate (suc m) h))

of_one : (h : ℕ) (items : List Item) → map (λ (x : ℕ × Item). x.0) (by_one h items) ≡ replicate (length items) h
of_one h [] = refl
of_one h (item ∷ items) = ap (λ zs. h ∷ zs) (of_one h items)

moves_meant : (wants : ℕ → Option (ℕ × Mode)) (h n : ℕ) → AreMeant wants h (replicate n Move)
moves_meant wants h zero = tt
moves_meant wants h (suc n) = (tt, moves_meant wants h n)

module _ {S V : Type 0} (machine : Recordable S V) (terms : Terms) (many pages : ℕ) (Good : S → Type 0)
    (faithful : IsFaithful machine.flat many pages Good) where
  abbrev pub Sound : Board S → Type 0
  Sound b = IsSoundBoard machine.flat many pages terms.limit Good faithful b

  abbrev pub Promised : ℕ → Board S → Order → Type 0
  Promised h b order = OrderIs machine.flat many pages terms.limit Good faithful h b order

  -- each hart finds what its last order promises
  abbrev pub Orders : Board S → Type 0
  Orders b = (g : ℕ) → g < many → (order : Order) → last_order b g ≡ Some order → Promised g b order

  -- a hart may make so many moves
  abbrev pub CanMove : ℕ → ℕ → Recording S → Type 0
  CanMove h n r = (i : ℕ) → i < n → (machine.flat.count r.at.flat h + i < terms.limit) × IsPolled (stream_in r.streams h) (machine.flat.count r.at.flat h + i)

  abbrev pub MadeBy : Recording S → List (ℕ × Item) → Recording S → Type 0
  MadeBy r items s = Made machine.flat pages terms.limit r items s

  -- items of the harts lead from one board to another, and its journal counts them
  pub record Goes (b c : Board S) : Type 0 where
    pub items : List (ℕ × Item)
    pub made : MadeBy (recording_of b) items (recording_of c)
    pub order : order_of c.journal ≡ order_of b.journal ++ map (λ (x : ℕ × Item). x.0) items
    pub orders_size : length c.orders ≡ length b.orders

  -- they are all of one hart, and its Yields are for harts that have stored a want
  pub record IsOf (h : ℕ) (b : Board S) (items : List (ℕ × Item)) : Type 0 where
    pub own : List Item
    pub are : items ≡ by_one h own
    pub meant : AreMeant (wanted b) h own

  pub stays : (b c : Board S) → recording_of b ≡ recording_of c → c.journal ≡ b.journal → c.orders ≡ b.orders → Goes b c
  stays b c same journal orders =
      record {
        items = [];
        made = (same, tt, tt);
        order = ap order_of journal ∙ sym (append-nil (order_of b.journal));
        orders_size = ap (λ (xs : List (Option Order)). length xs) orders;
      }

  pub then_goes : (b c d : Board S) → Goes b c → Goes c d → Goes b d
  then_goes b c d x y = record {
    items = x.items ++ y.items;
    made = made_after machine.flat pages terms.limit (recording_of b) (recording_of c) (recording_of d) x.items y.items x.made y.made;
    order = y.order ∙ ap (λ zs. zs ++ map (λ (z : ℕ × Item). z.0) y.items) x.order
        ∙ append_assoc (order_of b.journal) (map (λ (z : ℕ × Item). z.0) x.items) (map (λ (z : ℕ × Item). z.0) y.items)
        ∙ ap (λ zs. order_of b.journal ++ zs) (sym (map-append (λ (z : ℕ × Item). z.0) x.items y.items));
    orders_size = y.orders_size ∙ x.orders_size;
  }

  pub sound_made : (b c : Board S) (items : List (ℕ × Item)) → Sound b → MadeBy (recording_of b) items (recording_of c) → length c.orders ≡ length b.orders
      → Sound c
  sound_made b c items sound made size = record {
    ordered = ordered_all machine.flat many Good faithful.steady faithful.timed pages terms.limit (recording_of b)
        (recording_of c) items made.0 made.1 sound.ordered;
    fits = fits_all machine.flat many pages (recording_of b) (recording_of c) items made.0 sound.fits;
    orders_size = size ∙ sound.orders_size;
  }

  pub sound_goes : (b c : Board S) → Sound b → Goes b c → Sound c
  sound_goes b c sound goes = sound_made b c goes.items sound goes.made goes.orders_size

  runs_made : (h n : ℕ) (r : Recording S) (s : Replay S) → IsOrdered machine.flat many Good faithful.steady faithful.timed pages terms.limit r
      → h < length r.streams → CanMove h n r → runs machine terms h n r.at ≡ Some s
      → MadeBy r (by_one h (replicate n Move)) (record { at = s; streams = r.streams })
  runs_made h zero r s ordered l can e = (ap (λ (x : Replay S). record r { at = x }) (same_Some _ _ e), tt, tt)
  runs_made h (suc n) r s ordered l can e =
      let m = bound_to (λ (m : Replay S × Option V). runs machine terms h n m.0) (goes machine.flat r.at h Move (verdict_on machine.flat r.at h Move)) s e in
      let c = can_and_does machine terms many pages Good faithful r.at h Move (verdict_on machine.flat r.at h Move) m.0 m.1 in
      let next : Recording S = record { at = m.0.0; streams = r.streams } in
      let one : IsRecorded machine.flat r h Move next = record { hart = l; stands = tt; goes = c.0; made = c.1; streams = refl } in
      let now : machine.flat.count r.at.flat h + 0 ≡ machine.flat.count r.at.flat h = omega arith in
      let allowed = subst (λ k. (k < terms.limit) × IsPolled (stream_in r.streams h) k) now (can 0 (omega arith)) in
      let up = moves machine.flat many Good faithful.steady r.at m.0.0 h ordered.tidy.good c.1 in
      let rest = runs_made h n next s (ordered_item machine.flat many Good faithful.steady faithful.timed pages terms.limit r next h Move ordered one allowed) l
      (λ i less. let k : machine.flat.count r.at.flat h + (i + 1) ≡ machine.flat.count m.0.0.flat h + i = omega (arith, up) in
      subst (λ z. (z < terms.limit) × IsPolled (stream_in r.streams h) z) k (can (i + 1) (omega (arith, less)))) m.2 in
      ((next, one, rest.0), (allowed, rest.1), (tt, rest.2))

  order_kept : (g : ℕ) (b e : Board S) (order : Order)
      → SameOf machine.flat many Good faithful.steady faithful.timed pages terms.limit g (recording_of b) (recording_of e) → Promised g b order
      → Promised g e order
  order_kept g b e (Go until) same f = λ n from to. subst (λ s. (n < terms.limit) × IsPolled s n) (sym same.stream)
      (f n (let z = same.count in omega (arith, z, from)) to)
  order_kept g b e (Hold page other) same f = tt
  order_kept g b e Rest same f = tt

  module _ (h : ℕ) (inside : h < many) where
    abbrev T : (Board S → Type 0) → Board S → Way S → Type 0
    T P b way = To machine terms many pages Good faithful h inside P b way

    abbrev A : Board S → Type 0
    A = Any machine terms many pages Good faithful h inside

    abbrev PolledB : Board S → Type 0
    PolledB = Polled machine terms many pages Good faithful h inside

    abbrev BelowB : Board S → Type 0
    BelowB = Below machine terms many pages Good faithful h inside

    abbrev CommittedB : ℕ → Board S → Board S → Type 0
    CommittedB n b c = Committed machine terms many pages Good faithful h n b c

    steps_come : (b : Board S) → Sound b → T A b (ways.goes (steps machine terms h) (On b))
    steps_come b sound =
        let flat = machine.flat in
        further flat many pages terms.limit Good faithful h A A b
        (polls machine terms h ∷ yields machine terms h ∷ rests_at_limit machine terms h ∷ gains machine terms h ∷ touches machine terms h
        ∷ rests_at_limit machine terms h ∷ goes_on machine terms h ∷ []) (rests_where_closed machine terms b) sound
        (rests_where_closed_to machine terms many pages Good faithful h inside b) (λ b₁ s₁ _.
        further flat many pages terms.limit Good faithful h PolledB A b₁
        (yields machine terms h ∷ rests_at_limit machine terms h ∷ gains machine terms h ∷ touches machine terms h ∷ rests_at_limit machine terms h
        ∷ goes_on machine terms h ∷ []) (polls machine terms h b₁) s₁
        (polls_to machine terms many pages Good faithful h inside b₁ s₁) (λ b₂ s₂ p₂.
        further flat many pages terms.limit Good faithful h PolledB A b₂
        (rests_at_limit machine terms h ∷ gains machine terms h ∷ touches machine terms h ∷ rests_at_limit machine terms h ∷ goes_on machine terms h ∷ [])
        (yields machine terms h b₂) s₂
        (yields_come machine terms many pages Good faithful h inside b₂ s₂ p₂) (λ b₃ s₃ p₃.
        further flat many pages terms.limit Good faithful h BelowB A b₃
        (gains machine terms h ∷ touches machine terms h ∷ rests_at_limit machine terms h ∷ goes_on machine terms h ∷ [])
        (rests_at_limit machine terms h b₃) s₃
        (rests_at_limit_to machine terms many pages Good faithful h inside BelowB b₃ (below_limit machine terms many pages Good faithful h inside b₃ s₃ p₃))
        (λ b₄ s₄ p₄.
        further flat many pages terms.limit Good faithful h (λ c. (want machine.flat c.at h ≡ None) × BelowB c) A b₄
        (touches machine terms h ∷ rests_at_limit machine terms h ∷ goes_on machine terms h ∷ []) (gains machine terms h b₄) s₄
        (gains_to machine terms many pages Good faithful h inside b₄ s₄ p₄) (λ b₅ s₅ p₅.
        further flat many pages terms.limit Good faithful h A A b₅ (rests_at_limit machine terms h ∷ goes_on machine terms h ∷ [])
        (touches machine terms h b₅) s₅
        (touches_to machine terms many pages Good faithful h inside b₅ s₅ p₅) (λ b₆ s₆ _.
        further flat many pages terms.limit Good faithful h A A b₆ (goes_on machine terms h ∷ []) (rests_at_limit machine terms h b₆) s₆
        (rests_at_limit_to machine terms many pages Good faithful h inside A b₆ (λ _. tt))
        (λ b₇ s₇ _. goes_on_to machine terms many pages Good faithful h inside b₇)))))))

    -- the moves of a turn
    moves_made : (n : ℕ) (b c : Board S) → Sound b → CanMove h n (recording_of b) → CommittedB n b c
        → MadeBy (recording_of b) (by_one h (replicate n Move)) (recording_of c)
    moves_made n b c sound can x =
        let l : h < length b.streams = (let z = sound.ordered.tidy.streams in omega (arith, z, inside)) in
        subst (λ streams. MadeBy (recording_of b) (by_one h (replicate n Move)) (record { at = c.at; streams = streams })) (sym x.streams)
        (runs_made h n (recording_of b) c.at sound.ordered l can x.ran)

    sound_committed : (n : ℕ) (b c : Board S) → Sound b → CanMove h n (recording_of b) → CommittedB n b c → Sound c
    sound_committed n b c sound can x = sound_made b c (by_one h (replicate n Move)) sound (moves_made n b c sound can x)
        (ap (λ (xs : List (Option Order)). length xs) x.orders)

    ended_goes : (n : ℕ) (b c d : Board S) (way : Way S) → Sound b → Orders b → CanMove h n (recording_of b) → CommittedB n b c → T A c way
        → ended_by h n b way ≡ Some d → (goes : Goes b d) × Orders d × IsOf h b goes.items
    ended_goes n b c d (On e) sound orders can x comes is = absurd (none-some _ is)
    ended_goes n b c d Nowhere sound orders can x comes is = absurd (none-some _ is)
    ended_goes n b c d (Ends order e) sound orders can x comes is =
        let m = items_made h n b e in
        let items = replicate n Move ++ comes.0.items in
        let size : m ≡ length items = (
        let z = comes.0.size in let k = ap (λ (ss : List (List Entry)). length (stream_in ss h)) x.streams in
        let a = length-append (replicate n Move) comes.0.items in let r = length-replicate n Move in omega (arith, z, k, a, r)) in
        let all : MadeBy (recording_of b) (by_one h items) (recording_of e) =
        subst (λ zs. MadeBy (recording_of b) zs (recording_of e)) {x = by_one h (replicate n Move) ++ by_one h comes.0.items}
        (sym (map-append (λ (item : Item). (h, item)) (replicate n Move) comes.0.items))
        (made_after machine.flat pages terms.limit (recording_of b) (recording_of c) (recording_of e) (by_one h (replicate n Move)) (by_one h comes.0.items)
        (moves_made n b c sound can x) comes.0.made) in
        let same_orders : e.orders ≡ b.orders = comes.0.orders ∙ x.orders in
        let orders_long : length e.orders ≡ many = ap (λ (xs : List (Option Order)). length xs) same_orders ∙ sound.orders_size in
        subst (λ (z : Board S). (goes : Goes b z) × Orders z × IsOf h b goes.items) (same_Some _ _ is) (
          record {
            items = by_one h items;
            made = all;
            order = order_more h m e.journal ∙ ap₂ (λ j k. order_of j ++ replicate k h) (comes.0.journal ∙ x.journal) size
                ∙ ap (λ zs. order_of b.journal ++ zs) (sym (of_one h items));
            orders_size = length-set e.orders h (Some order) ∙ ap (λ (xs : List (Option Order)). length xs) same_orders;
          },
          λ g less other last. told g less other last items all same_orders orders_long (eqb_tells g h),
          record {
            own = items;
            are = refl;
            meant = meant_then (wanted b) h (replicate n Move) comes.0.items (moves_meant (wanted b) h n)
                (all_meant (wanted b) (wanted c) h comes.0.items kept comes.0.meant);
          },
        )
      where
        kept : (g : ℕ) → g ≢ h → wanted c g ≡ wanted b g
        kept g other = ap (λ (ws : List (Option (ℕ × Mode))). unwrap_or (slice_get ws g) None) x.wants
            ∙ ap (λ o. unwrap_or o None) (set_there b.wants h g None other)

        told : (g : ℕ) → g < many → (other : Order) → unwrap_or (slice_get (slice_set e.orders h (Some order)) g) None ≡ Some other → (items : List Item)
            → MadeBy (recording_of b) (by_one h items) (recording_of e) → e.orders ≡ b.orders → length e.orders ≡ many
            → (((g == h) ≡ true) × (g ≡ h)) ⊎ (((g == h) ≡ false) × (g ≢ h)) → Promised g e other
        told g less other last items all same_orders long (inl (t, is_h)) =
            let here : unwrap_or (slice_get (slice_set e.orders h (Some order)) h) None ≡ Some order =
            ap (λ o. unwrap_or o None) (set_here e.orders h (Some order) (omega (arith, long, inside))) in
            let one : order ≡ other =
            same_Some _ _ (sym here ∙ subst (λ k. unwrap_or (slice_get (slice_set e.orders h (Some order)) k) None ≡ Some other) is_h last) in
            subst (λ k. Promised k e other) (sym is_h) (subst (Promised h e) one comes.1)
        told g less other last items all same_orders long (inr (f, n)) =
            let before : last_order b g ≡ Some other = ap (λ (xs : List (Option Order)). unwrap_or (slice_get xs g) None) (sym same_orders)
            ∙ sym (ap (λ o. unwrap_or o None) (set_there e.orders h g (Some order) n)) ∙ last in
            order_kept g b e other (others_same machine.flat many Good faithful.steady faithful.timed pages terms.limit (recording_of b)
            (recording_of e) h g items n sound.ordered all) (orders g less other before)

    pub turn_goes : (n : ℕ) (b d : Board S) → Sound b → Orders b → CanMove h n (recording_of b) → turn machine terms h n b ≡ Some d
        → (goes : Goes b d) × Orders d × IsOf h b goes.items
    turn_goes n b d sound orders can is =
        let c = bound_to (λ c. ended_by h n b (ways.goes (steps machine terms h) (On c))) (commits machine terms h n b) d is in
        let x = committed machine terms many pages Good faithful h n b c.0 c.1 in
        ended_goes n b c.0 d (ways.goes (steps machine terms h) (On c.0)) sound orders can x (steps_come c.0 (sound_committed n b c.0 sound can x)) c.2

    -- what the steps of a turn keep
    pub turn_keeps : (Before During : Board S → Type 0) (After : Order → Board S → Type 0) (P : Board S → Type 0)
        → Preserves machine terms many pages Good faithful h inside Before During After
        → (n : ℕ) (b d : Board S) → Sound b → CanMove h n (recording_of b) → turn machine terms h n b ≡ Some d
        → ((c : Board S) → CommittedB n b c → Before c)
        → ((c : Board S) (order : Order) → After order c → P (with_rows h n (items_made h n b c) b (with_order h order c))) → P d
    turn_keeps Before During After P keeps n b d sound can is before after =
        let c = bound_to (λ c. ended_by h n b (ways.goes (steps machine terms h) (On c))) (commits machine terms h n b) d is in
        let x = committed machine terms many pages Good faithful h n b c.0 c.1 in
        by (ways.goes (steps machine terms h) (On c.0))
        (steps_walk machine terms many pages Good faithful h inside Before During After keeps c.0 (sound_committed n b c.0 sound can x) (before c.0 x)) c.2
      where
        by : (way : Way S) → Walks During After way → ended_by h n b way ≡ Some d → P d
        by (On e) walks ended = absurd (none-some _ ended)
        by Nowhere walks ended = absurd (none-some _ ended)
        by (Ends order e) walks ended = subst P (same_Some _ _ ended) (after e order walks)
