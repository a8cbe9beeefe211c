-- The harts of a board don't disturb each other.
use Rattle.std.proofs.Common.{◌≡◌, ◌≢◌, ◌⊎◌, inl, inr, ℕ, Bool, true, false, List, [], ◌∷◌, length, Option, Some, None, is_some, slice_get}
use Rattle.std.proofs.Common.{slice_index, unwrap_or, true≢false, refl, sym, ap, ap₂, ◌∙◌, subst, arith}
use Rattle.std.specs.Prelude.{IsSome}
use Rattle.std.specs.Option.{option_map, option_and_then, option_map_or}
use Rattle.std.proofs.lemmas.Bool.{cases_eq}
use Rattle.std.proofs.lemmas.Option.{none-some, same_Some, slice_get_past, unwrap_or-slice_get}
use Rattle.rv_words.specs.declared.shared.Mode.{Mode}
use Rattle.rv_words.specs.declared.shared.Mode.TheVariants.{Read, Write}
use Rattle.rv_hart.specs.State.{Hart}
use Rattle.rv_hart.specs.Moves.{need_of, with_reserved}
use Rattle.rv_hart.specs.Needs.{page_at, pages_needed}
use Rattle.device_board.specs.State.{Devices, lines_at}
use Rattle.device_board.specs.Accesses.{touched}
use Rattle.guest_pages.specs.Pages.{page_of, bytes_of}
use Rattle.flat_machine.specs.State.{FlatState}
use Rattle.flat_machine.specs.Moves.{fetched, move_of, next_move, access_of}
use Rattle.flat_machine.specs.Acts.{next, ran, touch_made, poll_made, lost}
use Rattle.flat_machine.specs.Runs.{step_by, step_between}
use Rattle.flat_machine.specs.declared.act.Act.{Act}
use Rattle.flat_machine.specs.declared.act.Act.TheVariants as act
use Rattle.log_entry.specs.Parts.{conflict}
use Rattle.replay_model.specs.Board.{board, hart_access}
use Rattle.order_rules.specs.Holders.{held}
use Rattle.replay_model.specs.State.{Replay, want}
use Rattle.run_model.specs.Run.{Run, IsOneRun}
use Rattle.run_model.specs.Agreement.{Agrees}
use Rattle.shared_types.proofs.Lists.{set_here, same_list, bound_to, mapped}
use Rattle.std.proofs.lemmas.Option.{slice_get_within}
use Rattle.replay_law.proofs.Local.{actor, is_on_devices, HasPages, HasDevices, IsUndisturbed, Meet, IsLocal}
use Rattle.replay_law.proofs.Pages.{same_memory}
use Rattle.replay_law.proofs.Views.{Fits, Shape, Sound, view, view_is_one, view_agrees}
use Rattle.run_model.proofs.Laws.{sees_fetched}
use Rattle.replay_law.proofs.Deeds.{deed, Fine, deed_of, act_done, Done, not_wants}

-- the hart of an act that was made is there
has_hart : (a : Act) (f t : FlatState) → next a f ≡ Some t → (x : Hart) × (slice_get f.harts (actor a) ≡ Some x)
has_hart (act.Run h) f t did = let x = bound_to (λ x. ran f h x (next_move x f.memory)) (slice_get f.harts h) t did in (x.0, x.1)
has_hart (act.Touch h input) f t did = let x = bound_to (λ x. touch_made f h input x (next_move x f.memory)) (slice_get f.harts h) t did in (x.0, x.1)
has_hart (act.Poll h time) f t did = let x = bound_to (poll_made f h time) (slice_get f.harts h) t did in (x.0, x.1)
has_hart (act.Lose h) f t did = let x = mapped (lost f h) (slice_get f.harts h) t did in (x.0, x.1)

-- an act that isn't on the devices leaves them, whatever they are
pub calm : (r : Run) (a : Act) (d : Devices) (q : Run × Devices) → is_on_devices a ≡ false → deed r a d ≡ Some q → q.1 ≡ d
calm r (act.Run h) d q off is = sym (ap (λ (z : Run × Devices). z.1) (same_Some _ _ is))
calm r (act.Touch h input) d q off is = absurd (true≢false off)
calm r (act.Poll h time) d q off is = absurd (true≢false off)
calm r (act.Lose h) d q off is = sym (ap (λ (z : Run × Devices). z.1) (same_Some _ _ is))

calm_again : (r : Run) (a : Act) (d other : Devices) (q : Run × Devices) → is_on_devices a ≡ false → deed r a d ≡ Some q → deed r a other ≡ Some (q.0, other)
calm_again r (act.Run h) d other q off is = ap (λ (z : Run × Devices). Some (z.0, other)) (same_Some _ _ is)
calm_again r (act.Touch h input) d other q off is = absurd (true≢false off)
calm_again r (act.Poll h time) d other q off is = absurd (true≢false off)
calm_again r (act.Lose h) d other q off is = ap (λ (z : Run × Devices). Some (z.0, other)) (same_Some _ _ is)

clash : (m : Option Mode) → IsSome m → conflict (Some Write) m ≡ true
clash None some = absurd (true≢false (sym some))
clash (Some Read) some = refl
clash (Some Write) some = refl

pub same_where : {X : Type 0} (f g : Hart → X) (d : X) (o : Option Hart) → ((x : Hart) → o ≡ Some x → f x ≡ g x) → option_map_or f o d ≡ option_map_or g o d
same_where f g d None same = refl
same_where f g d (Some x) same = same x refl

same_then : {X : Type 0} (f g : Hart → Option X) (o : Option Hart) → ((x : Hart) → o ≡ Some x → f x ≡ g x) → option_and_then f o ≡ option_and_then g o
same_then f g None same = refl
same_then f g (Some x) same = same x refl

pub index_of : (xs : List ℕ) (i : ℕ) → slice_index xs i ≡ unwrap_or (slice_get xs i) 0
index_of xs i = sym (unwrap_or-slice_get xs i 0)

is_write : (m : Option Mode) → (m ≡ Some Write) ⊎ (m ≢ Some Write)
is_write None = inr (λ e. none-some _ e)
is_write (Some Read) = inr (λ e. let bad : ⊥ = cc in bad)
is_write (Some Write) = inl refl

module _ (shape : Shape) where
  -- an act that was made, with what its hart saw and then sees
  pub record Made (s : Replay FlatState) (a : Act) (t : FlatState) : Type 0 where
    pub run : Run
    pub agrees : Agrees run (actor a) s
    pub unit_is : run.frames.unit ≡ shape.unit
    pub one : IsOneRun run
    pub fine : Fine run a
    pub after : Run × Devices
    pub is : deed run a s.flat.devices ≡ Some after
    pub done : Done shape (actor a) s after.0 t
    pub devices : t.devices ≡ after.1

  pub made_of : (s : Replay FlatState) (a : Act) (t : FlatState) → Sound shape s → HasPages (board shape.unit) s a → next a s.flat ≡ Some t → Made s a t
  made_of s a t sound has did =
      let x = has_hart a s.flat t did in
      let r = view shape s (actor a) x.0 in
      let agrees = view_agrees shape s (actor a) x.0 sound x.1 in
      let one = view_is_one shape s (actor a) x.0 sound x.1 in
      let d = deed_of r s a t agrees has did in
      let m = act_done shape r s a d.1.0 sound agrees refl one d.0 d.1.1 in
      let same : m.state ≡ t = same_Some _ _ (sym m.did ∙ did) in
      record {
        run = r;
        agrees = agrees;
        unit_is = refl;
        one = one;
        fine = d.0;
        after = d.1.0;
        is = d.1.1;
        done = subst (Done shape (actor a) s d.1.0.0) same m.done;
        devices = ap (λ (z : FlatState). z.devices) (sym same) ∙ m.devices;
      }

  -- who holds a page keeps its bytes when another acts
  not_written : (s : Replay FlatState) (g h page : ℕ) → Sound shape s → g ≢ h → IsSome (held s.holders page h) → held s.holders page g ≢ Some Write
  not_written s g h page sound n some write =
      true≢false (sym (clash (held s.holders page h) some) ∙ ap (λ m. conflict m (held s.holders page h)) (sym write) ∙ sound.crew.holders page g h n)

  -- another's act leaves what a hart sees
  pub view_stays : (s : Replay FlatState) (g h : ℕ) (r q : Run) (t : FlatState) → Sound shape s → h ≢ g → Agrees r h s → r.frames.unit ≡ shape.unit
      → Done shape g s q t
      → Agrees r h (record s { flat = t })
  view_stays s g h r q t sound n a unit_is done =
      let harts_size : length t.harts ≡ length s.flat.harts = done.sound.sized.harts_size ∙ sym sound.sized.harts_size in
      let memory_size : length t.memory ≡ length s.flat.memory = done.sound.sized.memory_size ∙ sym sound.sized.memory_size in
      record {
        unit_is = a.unit_is;
        harts = harts_size ∙ a.harts;
        memory = memory_size ∙ a.memory;
        table = a.table;
        rows = λ page l. a.rows page l ∙ sym harts_size;
        hart = done.harts h n ∙ a.hart;
        count = done.counts h n ∙ a.count;
        modes = a.modes;
        bytes = λ page some.
            ap (λ u. page_of u t.memory page) unit_is ∙ done.pages_kept page
            (not_written s g h page sound (λ e. n (sym e)) (subst IsSome (sym (a.modes page)) some))
            ∙ ap (λ u. page_of u s.flat.memory page) (sym unit_is) ∙ a.bytes page some;
      }

  -- and the word that it fetches, where it holds the pages of its next move
  fetched_stays : (s : Replay FlatState) (g h : ℕ) (q : Run) (t : FlatState) → Sound shape s → h ≢ g → Done shape g s q t → want (board shape.unit) s h ≡ None
      → (x : Hart) → slice_get s.flat.harts h ≡ Some x → fetched x t.memory ≡ fetched x s.flat.memory
  fetched_stays s g h q t sound n done none x at =
      let r = view shape s h x in
      let a = view_agrees shape s h x sound at in
      let w = not_wants r h s a none in
      sym (sees_fetched r h (record s { flat = t }) (view_stays s g h r q t sound n a refl done) w) ∙ sees_fetched r h s a w

  access_stays : (s : Replay FlatState) (g h : ℕ) (q : Run) (t : FlatState) → Sound shape s → h ≢ g → Done shape g s q t → want (board shape.unit) s h ≡ None
      → hart_access t h ≡ hart_access s.flat h
  access_stays s g h q t sound n done none =
      ap (option_and_then (λ x. access_of (need_of (next_move x t.memory)))) (done.harts h n)
      ∙ same_then (λ x. access_of (need_of (next_move x t.memory))) (λ x. access_of (need_of (next_move x s.flat.memory))) (slice_get s.flat.harts h)
      (λ x at. ap (λ w. access_of (need_of (move_of x w))) (fetched_stays s g h q t sound n done none x at))

  undisturbed : (s : Replay FlatState) (g h : ℕ) (q : Run) (t : FlatState) → Sound shape s → h ≢ g → Done shape g s q t
      → IsUndisturbed (board shape.unit) s t h
  undisturbed s g h q t sound n done = record {
    count = index_of t.counts h ∙ ap (λ o. unwrap_or o 0) (done.counts h n) ∙ sym (index_of s.flat.counts h);
    reserved = ap (λ o. option_map (page_at shape.unit) (option_and_then (λ (x : Hart). x.reserved) o)) (done.harts h n);
    need = λ none.
        ap (λ o. option_map_or (λ x. pages_needed shape.unit x (fetched x t.memory)) o []) (done.harts h n)
        ∙ same_where (λ x. pages_needed shape.unit x (fetched x t.memory)) (λ x. pages_needed shape.unit x (fetched x s.flat.memory)) []
        (slice_get s.flat.harts h)
        (λ x at. ap (pages_needed shape.unit x) (fetched_stays s g h q t sound n done none x at));
    at_device = λ none. ap is_some (access_stays s g h q t sound n done none);
  }

  has_devices : (s : Replay FlatState) (g h : ℕ) (q : Run) (t : FlatState) → Sound shape s → h ≢ g → Done shape g s q t → t.devices ≡ s.flat.devices
      → HasDevices (board shape.unit) s t h
  has_devices s g h q t sound n done same = record {
    lines = λ time. ap (λ d. lines_at d h time) same;
    stopped = ap (λ (d : Devices). is_some d.stop) same;
    suits = λ none input. ap₂ (λ d o. is_some (option_and_then (λ access. touched d access input) o)) same (access_stays s g h q t sound n done none);
  }

  -- an act made after another's
  record Second (s : Replay FlatState) (two : Act) (a b : FlatState) (q : Run) (d : Devices) : Type 0 where
    pub end : FlatState
    pub did : next two a ≡ Some end
    pub done : Done shape (actor two) (record s { flat = a }) q end
    pub devices : end.devices ≡ d
    pub told : want (board shape.unit) s (actor two) ≡ None → (board shape.unit).told s.flat (actor two) b ≡ (board shape.unit).told a (actor two) end

  second : (s : Replay FlatState) (one two : Act) (a b : FlatState) (d : Devices) → Sound shape s → actor two ≢ actor one → Made s one a → (q : Made s two b)
      → deed q.run two a.devices ≡ Some (q.after.0, d) → Second s two a b q.after.0 d
  second s one two a b d sound n p q is =
      let r = q.run in
      let h = actor two in
      let agrees = view_stays s (actor one) (actor two) q.run p.after.0 a sound n q.agrees q.unit_is p.done in
      let m = act_done shape q.run (record s { flat = a }) two (q.after.0, d) p.done.sound agrees q.unit_is q.one q.fine is in
      record {
        end = m.state;
        did = m.did;
        done = m.done;
        devices = m.devices;
        told = λ none.
            let fetches : fetched q.run.hart s.flat.memory ≡ fetched q.run.hart a.memory =
            sym (fetched_stays s (actor one) (actor two) p.after.0 a sound n p.done none q.run.hart q.agrees.hart) in
            ap₂ (step_between s.flat.memory) q.agrees.hart q.done.agrees.hart
            ∙ ap (λ w. step_by q.run.hart w (move_of q.run.hart w) q.after.0.hart ∷ []) fetches
            ∙ sym (ap₂ (step_between a.memory) agrees.hart m.done.agrees.hart);
      }

  -- what either hart did is there, whoever acted first
  page_meets : (s : Replay FlatState) (g h : ℕ) (p q : Run) (a b t u : FlatState) → Sound shape s → g ≢ h
      → Done shape g s p a → Done shape h s q b → Done shape h (record s { flat = a }) q t → Done shape g (record s { flat = b }) p u
      → (page : ℕ) → page_of shape.unit t.memory page ≡ page_of shape.unit u.memory page
  page_meets s g h p q a b t u sound n did_p did_q then_q then_p page = elim (is_write (held s.holders page h)) [
    | inl write ↦
        seen q h (record s { flat = t }) page then_q.agrees then_q.unit_is write
        ∙ sym (then_p.pages_kept page (not_written s g h page sound n (subst IsSome (sym write) refl))
        ∙ seen q h (record s { flat = b }) page did_q.agrees did_q.unit_is write)
    | inr other ↦ then_q.pages_kept page other ∙ elim (is_write (held s.holders page g)) [
      | inl write ↦ seen p g (record s { flat = a }) page did_p.agrees did_p.unit_is write
          ∙ sym (seen p g (record s { flat = u }) page then_p.agrees then_p.unit_is write)
      | inr neither ↦ did_p.pages_kept page neither ∙ sym (then_p.pages_kept page neither ∙ did_q.pages_kept page other)
    ]
  ]
    where
      seen : (r : Run) (k : ℕ) (m : Replay FlatState) (page : ℕ) → Agrees r k m → r.frames.unit ≡ shape.unit → held m.holders page k ≡ Some Write
          → page_of shape.unit m.flat.memory page ≡ bytes_of r.frames page
      seen r k m page agrees unit_is write =
          ap (λ z. page_of z m.flat.memory page) (sym unit_is) ∙ agrees.bytes page (subst IsSome (sym write ∙ agrees.modes page) refl)

  -- of lists by harts
  elements_meet : {X : Type 0} (g h : ℕ) (of_s of_a of_b of_t of_u : List X) (x y : X) → g ≢ h
      → ((i : ℕ) → i ≢ g → slice_get of_a i ≡ slice_get of_s i) → ((i : ℕ) → i ≢ h → slice_get of_b i ≡ slice_get of_s i)
      → ((i : ℕ) → i ≢ h → slice_get of_t i ≡ slice_get of_a i) → ((i : ℕ) → i ≢ g → slice_get of_u i ≡ slice_get of_b i)
      → slice_get of_a g ≡ Some x → slice_get of_u g ≡ Some x → slice_get of_b h ≡ Some y → slice_get of_t h ≡ Some y → of_t ≡ of_u
  elements_meet g h of_s of_a of_b of_t of_u x y n sa sb at bu a_g u_g b_h t_h = same_list of_t of_u each where
    each : (i : ℕ) → slice_get of_t i ≡ slice_get of_u i
    each i = elim (cases_eq i h) [
      | inl e ↦ ap (slice_get of_t) e ∙ t_h ∙ sym (ap (slice_get of_u) e ∙ bu h (λ z. n (sym z)) ∙ b_h)
      | inr other ↦ elim (cases_eq i g) [
        | inl e ↦ ap (slice_get of_t) e ∙ at g n ∙ a_g ∙ sym (ap (slice_get of_u) e ∙ u_g)
        | inr neither ↦ at i other ∙ sa i neither ∙ sym (bu i neither ∙ sb i other)
      ]
    ]

  states_meet : (s : Replay FlatState) (g h : ℕ) (p q : Run) (a b t u : FlatState) → Sound shape s → g ≢ h
      → Done shape g s p a → Done shape h s q b → Done shape h (record s { flat = a }) q t → Done shape g (record s { flat = b }) p u
      → t.devices ≡ u.devices → t ≡ u
  states_meet s g h p q a b t u sound n did_p did_q then_q then_p devices =
      let harts_same =
      elements_meet g h s.flat.harts a.harts b.harts t.harts u.harts p.hart q.hart n did_p.harts did_q.harts then_q.harts then_p.harts did_p.agrees.hart
      then_p.agrees.hart did_q.agrees.hart then_q.agrees.hart in
      let counts_same =
      elements_meet g h s.flat.counts a.counts b.counts t.counts u.counts p.count q.count n did_p.counts did_q.counts then_q.counts then_p.counts
      did_p.agrees.count then_p.agrees.count did_q.agrees.count then_q.agrees.count in
      let memory_same =
      same_memory shape.unit t.memory u.memory shape.units (then_q.sound.sized.memory_size ∙ sym shape.whole)
      (then_p.sound.sized.memory_size ∙ sym shape.whole) (page_meets s g h p q a b t u sound n did_p did_q then_q then_p) in
      λ i. record { harts = harts_same i; counts = counts_same i; memory = memory_same i; devices = devices i }

  meets : (s : Replay FlatState) (one two : Act) (a b : FlatState) (d e : Devices) → Sound shape s → actor one ≢ actor two → (p : Made s one a)
      → (q : Made s two b)
      → deed q.run two a.devices ≡ Some (q.after.0, d) → deed p.run one b.devices ≡ Some (p.after.0, e) → d ≡ e → Meet (board shape.unit) s one two a b
  meets s one two a b d e sound n p q is_two is_one same =
      let x = second s one two a b d sound (λ z. n (sym z)) p q is_two in
      let y = second s two one b a e sound n q p is_one in
      let meet : x.end ≡ y.end = states_meet s (actor one) (actor two) p.after.0 q.after.0 a b x.end y.end sound n p.done q.done x.done y.done
      (x.devices ∙ same ∙ sym y.devices) in
      record {
        end = x.end;
        then_two = x.did;
        then_one = y.did ∙ ap Some (sym meet);
        told_one = λ none. y.told none ∙ ap ((board shape.unit).told b (actor one)) (sym meet);
        told_two = x.told;
      }

  -- the first is not on the devices
  calm_meet : (s : Replay FlatState) (one two : Act) (a b : FlatState) → Sound shape s → actor one ≢ actor two → is_on_devices one ≡ false → Made s one a
      → Made s two b → Meet (board shape.unit) s one two a b
  calm_meet s one two a b sound n off p q =
      let same : a.devices ≡ s.flat.devices = p.devices ∙ calm p.run one s.flat.devices p.after off p.is in
      meets s one two a b q.after.1 b.devices sound n p q (ap (deed q.run two) same ∙ q.is) (calm_again p.run one s.flat.devices b.devices p.after off p.is)
      (sym q.devices)

  turned : (s : Replay FlatState) (one two : Act) (a b : FlatState) → Meet (board shape.unit) s two one b a → Meet (board shape.unit) s one two a b
  turned s one two a b m = record { end = m.end; then_two = m.then_one; then_one = m.then_two; told_one = m.told_two; told_two = m.told_one }

  board_meet : (s : Replay FlatState) (one two : Act) (a b : FlatState) → Sound shape s → actor one ≢ actor two
      → (is_on_devices one ≡ true → is_on_devices two ≡ true → ⊥) → Made s one a → Made s two b → Meet (board shape.unit) s one two a b
  board_meet s one two a b sound n apart p q = by (is_on_devices one) (is_on_devices two) refl refl where
    by : (x y : Bool) → is_on_devices one ≡ x → is_on_devices two ≡ y → Meet (board shape.unit) s one two a b
    by false y i j = calm_meet s one two a b sound n i p q
    by true false i j = turned s one two a b (calm_meet s two one b a sound (λ z. n (sym z)) j q p)
    by true true i j = absurd (apart i j)

  lose_ends : (f t : FlatState) (h : ℕ) → next (act.Lose h) f ≡ Some t → (board shape.unit).reserved_page t h ≡ None
  lose_ends f t h did =
      let x = mapped (lost f h) (slice_get f.harts h) t did in
      ap (λ (z : FlatState). (board shape.unit).reserved_page z h) (sym x.2)
      ∙ ap (λ o. option_map (page_at shape.unit) (option_and_then (λ (y : Hart). y.reserved) o))
      (set_here f.harts h (with_reserved None x.0) (slice_get_within f.harts h x.0 x.1))

  pub board_local : IsLocal (board shape.unit) (Fits shape.harts shape.pages) shape.harts shape.units
  board_local = record {
    lasts = λ s a t sound has did. (made_of s a t sound has did).done.sound;
    loses = lose_ends;
    undisturbed = λ s a t h sound has did n. let m = made_of s a t sound has did in undisturbed s (actor a) h m.after.0 t sound n m.done;
    devices = λ s a t h sound has did n off.
        let m = made_of s a t sound has did in has_devices s (actor a) h m.after.0 t sound n m.done
        (m.devices ∙ calm m.run a s.flat.devices m.after off m.is);
    meet = λ s one two a b sound n apart has_one has_two did_one did_two. board_meet s one two a b sound n apart (made_of s one a sound has_one did_one)
        (made_of s two b sound has_two did_two);
    nobody = λ f h fits l. ap (option_and_then (λ x. ran f h x (next_move x f.memory)))
        (slice_get_past f.harts h (let k = fits.harts_size in omega (arith, k, l)));
  }
