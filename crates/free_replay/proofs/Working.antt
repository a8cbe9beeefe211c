-- Lists of workers, and what is read of them when all have been joined.
use Rattle.std.specs.Prelude.{nat_le, slice_get, slice_index_or}
use Rattle.std.specs.List.{AllZip}
use Rattle.std.proofs.Common.{◌≡◌, ℕ, zero, suc, ◌<◌, true, List, [], ◌∷◌, ◌++◌, length, map, Some, refl, sym, ap, ◌∙◌, subst, arith, set, All}
use Rattle.std.proofs.lemmas.Bool.{leb-true}
use Rattle.std.proofs.lemmas.List.Elements.{All-nil, All-cons, All-head, All-tail, All-push}
use Rattle.std.proofs.lemmas.Option.{slice_get_within, get_or_from_slice_get, same_Some}
use Rattle.shared_types.proofs.Lists.{found_at}
use Rattle.log_entry.specs.declared.log.Log.{Log}
use Rattle.log_entry.specs.Range.{in_range}
use Rattle.log_format.proofs.Ranges.{and_left, parts_of as ranges_of}
use Rattle.elf_image.specs.Image.{Image}
use Rattle.flat_machine.specs.State.{FlatState}
use Rattle.replay_model.specs.State.{Replay}
use Rattle.run_model.specs.Run.{Run}
use Rattle.turn_table.specs.declared.table.Pass.{Pass}
use Rattle.turn_table.specs.declared.table.TurnTable.{TurnTable}
use Rattle.turn_table.specs.Passes as passes
use Rattle.turn_table.specs.Passes.{IsPassOf, IsIdle, AreOf, hart_of}
use Rattle.replay_parts.specs.Boards.{Plain, first_board, state_of}
use Rattle.replay_parts.specs.Laws.{Reaches}
use Rattle.replay_parts.specs.Parts.{IsPart, Part, part_of}
use Rattle.replay_parts.proofs.Advancing.{parts_unmoved}
use Rattle.replay_core.specs.declared.outcome.Outcome.{Outcome}
use Rattle.replay_core.specs.declared.replaying.Replaying.{Replaying}
use Rattle.replay_core.specs.declared.went.Pace.{Pace}
use Rattle.replay_core.specs.declared.went.Pace.TheVariants as paces
use Rattle.replay_core.specs.Ends.{IsOutcomeOf}
use Rattle.replay_core.specs.Standing.{ComesTo, IsAt}
use Rattle.replay_core.specs.Turns.{AreParts}
use Rattle.free_run.proofs.Working.{AllZip-pop, AllZip-more}
use Rattle.free_replay.specs.declared.worker.Worker.{Worker}
use Rattle.free_replay.specs.Parts.{IsRunOf, MayMoveTo, parts_of}
use Rattle.free_replay.specs.ReplayLegs.{HasLed, IsReady}
use Rattle.free_replay.specs.Workers.{IsReadyWorker, Continues, HasWorked, until_told}
use Rattle.free_replay.proofs.Parts.{part_here, part_on_record, part_there, parts_number, run_of_part}

-- ---- two lists side by side

module _ {A B : Type 0} (R : A → B → Type 0) where
  zip_each : (xs : List A) (ys : List B) → length xs ≡ length ys
      → ((k : ℕ) (x : A) (y : B) → slice_get xs k ≡ Some x → slice_get ys k ≡ Some y → R x y) → AllZip R xs ys
  zip_each [] [] len each = tt
  zip_each [] (b ∷ ys) len each = absurd (omega (arith, len))
  zip_each (a ∷ xs) [] len each = absurd (omega (arith, len))
  zip_each (a ∷ xs) (b ∷ ys) len each = (each 0 a b refl refl, zip_each xs ys (omega (arith, len)) (λ k x y e f. each (suc k) x y e f))

  -- at a place of the second list
  zip_at : (xs : List A) (ys : List B) (k : ℕ) (y : B) → AllZip R xs ys → slice_get ys k ≡ Some y → (x : A) × (slice_get xs k ≡ Some x) × R x y
  zip_at [] [] k y z e = absurd (let l = slice_get_within [] k y e in omega (arith, l))
  zip_at [] (b ∷ ys) k y z e = absurd z
  zip_at (a ∷ xs) [] k y z e = absurd z
  zip_at (a ∷ xs) (b ∷ ys) zero y z e = (a, refl, subst (R a) (same_Some _ _ e) z.0)
  zip_at (a ∷ xs) (b ∷ ys) (suc k) y z e = zip_at xs ys k y z.1 e

all_at : {A : Type 0} (P : A → Type 0) (xs : List A) (k : ℕ) (x : A) → All P xs → slice_get xs k ≡ Some x → P x
all_at P xs k x all e = subst P (get_or_from_slice_get xs k x x e) (all k x (slice_get_within xs k x e))

-- ---- what a leg comes to for its worker

pub told_on : (o : _) (r : Run) (pace : Pace) → ((to : ℕ) → pace ≡ paces.Go to → MayMoveTo o r to) → MayMoveTo o r r.count
    → MayMoveTo o r (until_told pace r.count)
told_on o r (paces.Go to) goes here = goes to refl
told_on o r paces.Hold goes here = here
told_on o r (paces.Diverged rule) goes here = here
told_on o r paces.Ended goes here = here

pub after_turn : (t : TurnTable Plain Part) (v w : Worker) (until : ℕ) (pace : Pace) → w.until ≡ until_told pace w.run.count
    → HasLed t v.pass w.pass v.run w.run until pace → HasWorked t v w
after_turn t v w until pace far led = record {
  ready = record {
    ready = led.ready;
    told = subst (MayMoveTo (passes.part_of w.pass) w.run) (sym far) (told_on (passes.part_of w.pass) w.run pace led.go led.ready.here);
  };
  continues = record {
    hart = led.hart;
    before = part_of led.turn.taken (hart_of v.pass);
    after = part_of led.turn.given (hart_of v.pass);
    was = led.turn.was;
    is = led.turn.is;
    log = ap (λ (z : Plain). z.log) led.turn.turn.committed_is;
    image = ap (λ (z : Plain). z.image) led.turn.turn.committed_is;
  };
}

-- ---- workers that go on

continues_none : (t : TurnTable Plain Part) (p : Pass Plain Part) (r : Run) → IsReady t p r → Continues p p
continues_none t p r ready =
    record {
      hart = refl;
      before = ready.on_record.part;
      after = ready.on_record.part;
      was = ready.on_record.is;
      is = ready.on_record.is;
      log = refl;
      image =
          refl;
    }

continues_then : (p q s : Pass Plain Part) → Continues p q → Continues q s → Continues p s
continues_then p q s a b =
    let same : b.before ≡ a.after = same_Some _ _ (sym b.was ∙ a.is) in
    record {
      hart = b.hart ∙ a.hart;
      before = a.before;
      after = b.after;
      was = a.was;
      is = b.is;
      log = b.log ∙ ap (λ (x : Part). x.log) same ∙ a.log;
      image = b.image ∙ ap (λ (x : Part). x.image) same ∙ a.image;
    }

module _ (t : TurnTable Plain Part) where
  pub worked_on : (a b c : Worker) → HasWorked t a b → HasWorked t b c → HasWorked t a c
  worked_on a b c p q = record { ready = q.ready; continues = continues_then a.pass b.pass c.pass p.continues q.continues }

  pub not_yet : (a : Worker) → IsReadyWorker t a → HasWorked t a a
  not_yet a r = record { ready = r; continues = continues_none t a.pass a.run r.ready }

  pub all_not_yet : (ws : List Worker) → All (IsReadyWorker t) ws → AllZip (HasWorked t) ws ws
  all_not_yet [] all = tt
  all_not_yet (w ∷ ws) all = (not_yet w (All-head (IsReadyWorker t) w ws all), all_not_yet ws (All-tail (IsReadyWorker t) w ws all))

  pub all_ready : (ws vs : List Worker) → AllZip (HasWorked t) ws vs → All (IsReadyWorker t) vs
  all_ready [] [] z = All-nil _
  all_ready [] (v ∷ vs) z = absurd z
  all_ready (w ∷ ws) [] z = absurd z
  all_ready (w ∷ ws) (v ∷ vs) z = All-cons (IsReadyWorker t) v vs z.0.ready (all_ready ws vs z.1)

  pub all_worked_on : (us vs ws : List Worker) → AllZip (HasWorked t) us vs → AllZip (HasWorked t) vs ws → AllZip (HasWorked t) us ws
  all_worked_on [] [] [] y z = tt
  all_worked_on [] [] (w ∷ ws) y z = absurd z
  all_worked_on [] (v ∷ vs) ws y z = absurd y
  all_worked_on (u ∷ us) [] ws y z = absurd y
  all_worked_on (u ∷ us) (v ∷ vs) [] y z = absurd z
  all_worked_on (u ∷ us) (v ∷ vs) (w ∷ ws) y z = (worked_on u v w y.0 z.0, all_worked_on us vs ws y.1 z.1)

  pub one_worked_on : (us vs : List Worker) (i : ℕ) (d w : Worker) → AllZip (HasWorked t) us vs → HasWorked t (slice_index_or vs i d) w
      → AllZip (HasWorked t) us (set vs i w)
  one_worked_on [] [] i d w y z = tt
  one_worked_on [] (v ∷ vs) i d w y z = absurd y
  one_worked_on (u ∷ us) [] i d w y z = absurd y
  one_worked_on (u ∷ us) (v ∷ vs) zero d w y z = (worked_on u v w y.0 z, y.1)
  one_worked_on (u ∷ us) (v ∷ vs) (suc i) d w y z = (y.0, one_worked_on us vs i d w y.1 z)

  -- ---- passes and runs

  pub harts_stay : (ps qs : List (Pass Plain Part)) → AllZip Continues ps qs → map hart_of qs ≡ map hart_of ps
  harts_stay [] [] z = refl
  harts_stay [] (q ∷ qs) z = absurd z
  harts_stay (p ∷ ps) [] z = absurd z
  harts_stay (p ∷ ps) (q ∷ qs) z = λ i. z.0.hart i ∷ harts_stay ps qs z.1 i

  pub all_idle : (ps : List (Pass Plain Part)) (rs : List Run) → AllZip (IsReady t) ps rs → All (λ p. IsPassOf t p × IsIdle p) ps
  all_idle [] [] z = All-nil _
  all_idle [] (r ∷ rs) z = absurd z
  all_idle (p ∷ ps) [] z = absurd z
  all_idle (p ∷ ps) (r ∷ rs) z = All-cons (λ p. IsPassOf t p × IsIdle p) p ps (z.0.table, z.0.idle) (all_idle ps rs z.1)

  -- the last pass and its run, apart from the others
  pub apart : (ps ps' : List (Pass Plain Part)) (rs rs' : List Run) (p : Pass Plain Part) (r : Run) → ps ≡ ps' ++ p ∷ [] → rs ≡ rs' ++ r ∷ []
      → AllZip (IsReady t) ps rs → AllZip (IsReady t) ps' rs' × IsReady t p r
  apart ps ps' rs rs' p r e f z =
      AllZip-pop (IsReady t) ps' rs' p r (subst (λ xs. AllZip (IsReady t) xs (rs' ++ r ∷ [])) e (subst (AllZip (IsReady t) ps) f z))

  -- ---- a worker that has been joined

  pub promised : (u : TurnTable Plain Part) (a b w : Worker) → u ≡ t → b ≡ a → HasWorked u b w → HasWorked t a w
  promised u a b w e f h = subst (λ x. HasWorked t x w) f (subst (λ x. HasWorked x b w) e h)

  pub record Added (ps0 : List (Pass Plain Part)) (old : Worker) (ps : List (Pass Plain Part)) (rs : List Run) : Type 0 where
    pub ready : AllZip (IsReady t) ps rs
    pub continued : AllZip Continues (ps0 ++ old.pass ∷ []) ps

  pub added : (ps0 : List (Pass Plain Part)) (old new : Worker) (ps ps' : List (Pass Plain Part)) (rs rs' : List Run) → AllZip (IsReady t) ps rs
      → AllZip Continues ps0 ps → HasWorked t old new → ps' ≡ ps ++ new.pass ∷ [] → rs' ≡ rs ++ new.run ∷ [] → Added ps0 old ps' rs'
  added ps0 old new ps ps' rs rs' ready continued worked e f = record {
    ready = subst (λ xs. AllZip (IsReady t) xs rs') (sym e)
        (subst (AllZip (IsReady t) (ps ++ new.pass ∷ [])) (sym f) (AllZip-more (IsReady t) ps rs new.pass new.run ready worked.ready.ready));
    continued = subst (AllZip Continues (ps0 ++ old.pass ∷ [])) (sym e) (AllZip-more Continues ps0 ps old.pass new.pass continued worked.continues);
  }

  -- the last of the workers had worked before
  pub changed_last : (ps qs : List (Pass Plain Part)) (old new : Worker) → AllZip Continues (ps ++ new.pass ∷ []) qs → HasWorked t old new
      → AllZip Continues (ps ++ old.pass ∷ []) qs
  changed_last [] [] old new z one = absurd z
  changed_last [] (q ∷ []) old new z one = (continues_then old.pass new.pass q one.continues z.0, tt)
  changed_last [] (q ∷ (q' ∷ qs)) old new z one = absurd z.1
  changed_last (p ∷ ps) [] old new z one = absurd z
  changed_last (p ∷ ps) (q ∷ qs) old new z one = (z.0, changed_last ps qs old new z.1 one)

  pub all_ready_with : (ws vs : List Worker) (w : Worker) → All (IsReadyWorker t) ws → IsReadyWorker t w → vs ≡ ws ++ w ∷ [] → All (IsReadyWorker t) vs
  all_ready_with ws vs w all one e = subst (All (IsReadyWorker t)) (sym e) (All-push (IsReadyWorker t) ws w all one)

  -- the last worker of this thread comes back, and the others too
  pub taken_back : (mine put back left : List Worker) (w v : Worker) → AllZip (HasWorked t) put back → put ≡ mine ++ w ∷ [] → back ≡ left ++ v ∷ []
      → AllZip (HasWorked t) mine left × HasWorked t w v
  taken_back mine put back left w v z e f =
      AllZip-pop (HasWorked t) mine left w v (subst (λ xs. AllZip (HasWorked t) xs (left ++ v ∷ [])) e (subst (AllZip (HasWorked t) put) f z))

  -- ---- the passes of a table as it is opened, and once it is closed

  ready_at : (b : Plain) (s : Replay FlatState) (h : ℕ) (p : Pass Plain Part) (r : Run) → Reaches b s → h < length b.log.streams → IsPart b h r
      → IsPassOf t p × IsIdle p → passes.part_of p ≡ slice_get (parts_of b) h → IsReady t p r
  ready_at b s h p r reaches inside part is at =
      let here = at ∙ part_here b h inside in
      record {
        table = is.0;
        idle = is.1;
        on_record = record { part = part_of b h; is = here; run = part_on_record b s h r reaches part };
        here = record { part = part_of b h; is = here; least = omega arith; most = (parts_unmoved b s h r reaches part).within };
      }

  pub opened_ready : (b : Plain) (s : Replay FlatState) (ps : List (Pass Plain Part)) (rs : List Run) → Reaches b s → AreParts b rs
      → length ps ≡ length b.log.streams → All (λ p. IsPassOf t p × IsIdle p) ps → AreOf (parts_of b) ps → AllZip (IsReady t) ps rs
  opened_ready b s ps rs reaches are len all each = zip_each (IsReady t) ps rs (len ∙ sym are.number) (λ h p r e f.
      ready_at b s h p r reaches (let l = slice_get_within ps h p e in omega (arith, l, len)) (are.each h r f)
      (all_at (λ q. IsPassOf t q × IsIdle q) ps h p all e) (each h p e).1)

  -- what was learnt of one hart behind the close
  pub record ClosedAt (b q : Plain) (h : ℕ) (r : Run) : Type 0 where
    pub inside : h < length q.log.streams
    pub part : IsPart q h r
    pub log : q.log ≡ b.log
    pub image : q.image ≡ b.image

  closed_at : (b q : Plain) (s : Replay FlatState) (ps qs : List (Pass Plain Part)) (rs : List Run) (h : ℕ) (r : Run) → Reaches q s → AreOf (parts_of b) ps
      → AllZip Continues ps qs → AllZip (IsReady t) qs rs → All (λ p. slice_get (parts_of q) (hart_of p) ≡ passes.part_of p) qs
      → slice_get rs h ≡ Some r → ClosedAt b q h r
  closed_at b q s ps qs rs h r reaches each continued ready closed at =
      let y = zip_at (IsReady t) qs rs h r ready at in
      let x = zip_at Continues ps qs h y.0 continued y.1 in
      let began = each h x.0 x.1 in
      let hart : hart_of y.0 ≡ h = x.2.hart ∙ began.0 in
      let own : slice_get (parts_of q) h ≡ Some x.2.after =
      ap (slice_get (parts_of q)) (sym hart) ∙ all_at (λ p. slice_get (parts_of q) (hart_of p) ≡ passes.part_of p) qs h y.0 closed y.1 ∙ x.2.is in
      let there = part_there q h x.2.after own in
      let first = part_there b h x.2.before (sym began.1 ∙ x.2.was) in
      let mine : y.2.on_record.part ≡ part_of q h = same_Some _ _ (sym y.2.on_record.is ∙ x.2.is) ∙ there.1 in
      record {
        inside = there.0;
        part = run_of_part q s h r reaches (subst (λ z. IsRunOf z r) mine y.2.on_record.run);
        log = ap (λ (z : Part). z.log) (sym there.1) ∙ x.2.log ∙ ap (λ (z : Part). z.log) first.1;
        image = ap (λ (z : Part). z.image) (sym there.1) ∙ x.2.image ∙ ap (λ (z : Part). z.image) first.1;
      }

  zip_length : {A B : Type 0} (R : A → B → Type 0) (xs : List A) (ys : List B) → AllZip R xs ys → length xs ≡ length ys
  zip_length R [] [] z = refl
  zip_length R [] (b ∷ ys) z = absurd z
  zip_length R (a ∷ xs) [] z = absurd z
  zip_length R (a ∷ xs) (b ∷ ys) z = ap suc (zip_length R xs ys z.1)

  -- the board is of the same replay, and the runs are its harts' parts
  pub record Closed (b q : Plain) (rs : List Run) : Type 0 where
    pub parts : AreParts q rs
    pub log : q.log ≡ b.log
    pub image : q.image ≡ b.image

  closed_as : (b q : Plain) (s : Replay FlatState) (ps qs : List (Pass Plain Part)) (rs : List Run) → Reaches q s → 0 < length ps
      → length ps ≡ length (parts_of q) → AreOf (parts_of b) ps → AllZip Continues ps qs → AllZip (IsReady t) qs rs
      → All (λ p. slice_get (parts_of q) (hart_of p) ≡ passes.part_of p) qs → Closed b q rs
  closed_as b q s ps qs rs reaches some count each continued ready closed =
      let long : length rs ≡ length ps = sym (zip_length (IsReady t) qs rs ready) ∙ sym (zip_length Continues ps qs continued) in
      let first = found_at rs 0 (omega (arith, some, long)) in
      let one = closed_at b q s ps qs rs 0 first.0 reaches each continued ready closed first.1 in
      record {
        parts = record {
          number = long ∙ count ∙ parts_number q;
          each = λ h r at. (closed_at b q s ps qs rs h r reaches each continued ready closed at).part;
        };
        log = one.log;
        image = one.image;
      }

  -- the same of the board of a table of so many harts, as it was closed
  pub closed_behind : (b q z : Plain) (s : Replay FlatState) (ps qs : List (Pass Plain Part)) (rs : List Run) (n : ℕ) → Reaches q s → q ≡ z → 0 < n
      → length ps ≡ n → length (parts_of z) ≡ n → AreOf (parts_of b) ps → AllZip Continues ps qs → AllZip (IsReady t) qs rs
      → All (λ p. slice_get (parts_of z) (hart_of p) ≡ passes.part_of p) qs → Closed b q rs
  closed_behind b q z s ps qs rs n reaches same some long parts each continued ready closed =
      closed_as b q s ps qs rs reaches (omega (arith, some, long)) (long ∙ sym parts ∙ ap (λ x. length (parts_of x)) (sym same)) each continued ready
      (subst (λ x. All (λ p. slice_get (parts_of x) (hart_of p) ≡ passes.part_of p) qs) (sym same) closed)

-- ---- the outcome

pub some_harts : (log : Log) → in_range log ≡ true → 0 < length log.streams
some_harts log h = leb-true 1 (length log.streams) (and_left (nat_le 1 (length log.streams)) (nat_le (length log.streams) 8) (ranges_of log h).0)

-- what the stage of the closed board comes to
pub comes_to : (log : Log) (image : Image) (p q : Plain) (stage : Replaying) (outcome : Outcome) → p ≡ first_board log image → q.log ≡ p.log → q.image ≡ p.image
    → IsAt q.image stage (state_of q) → stage.board.log ≡ q.log → ComesTo stage outcome → IsOutcomeOf log image outcome
comes_to log image p q stage outcome first same_log same_image at log_is comes =
    subst (λ i. IsOutcomeOf log i outcome) (same_image ∙ ap (λ (z : Plain). z.image) first)
    (subst (λ l. IsOutcomeOf l q.image outcome) (log_is ∙ same_log ∙ ap (λ (z : Plain). z.log) first) (comes q.image (state_of q) at))
