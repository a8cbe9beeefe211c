-- A worker that goes on, and lists of workers.
use Rattle.std.proofs.Common.{◌≡◌, ℕ, zero, suc, Bool, true, false, List, [], ◌∷◌, ◌++◌, Option, Some, slice_index_or, refl}
use Rattle.std.proofs.Common.{sym, ◌∙◌}
use Rattle.std.proofs.Common.{subst, set, All, true≢false}
use Rattle.std.specs.List.{AllZip}
use Rattle.std.proofs.lemmas.List.Elements.{All-nil, All-cons, All-head, All-pop, All-push, All-tail}
use Rattle.std.proofs.lemmas.Option.{same_Some}
use Rattle.run_model.specs.Run.{Run}
use Rattle.turn_table.specs.declared.table.Pass.{Pass}
use Rattle.turn_table.specs.declared.table.TurnTable.{TurnTable}
use Rattle.turn_table.specs.Passes as passes
use Rattle.turn_table.specs.Passes.{hart_of}
use Rattle.crew_core.specs.declared.order.Order.{Order}
use Rattle.crew_core.specs.declared.order.Order.TheVariants.{Go, Hold, Rest}
use Rattle.crew_core.specs.Orders.{told}
use Rattle.crew_parts.specs.Boards.{Plain}
use Rattle.crew_parts.specs.Parts.{Part, part_of, until_by}
use Rattle.free_run.specs.Parts.{IsOnRecord, MayMoveTo}
use Rattle.free_run.specs.RecordLegs.{HasLed, WasRefused}
use Rattle.free_run.specs.Workers.{AreOfOneBoard, IsReady, HasWorked}
use Rattle.free_run.specs.declared.legs.Led.{Led}
use Rattle.free_run.specs.declared.worker.Job.{Job}

same_board : (x : Part) → AreOfOneBoard x x
same_board x = record { image = refl; harts = refl; limit = refl; log_limit = refl; first = refl }

board_then : (x y z : Part) → AreOfOneBoard x y → AreOfOneBoard y z → AreOfOneBoard x z
board_then x y z a b = record {
  image = b.image ∙ a.image;
  harts = b.harts ∙ a.harts;
  limit = b.limit ∙ a.limit;
  log_limit = b.log_limit ∙ a.log_limit;
  first = b.first ∙ a.first;
}

-- ---- what a leg comes to for its worker

-- as far as it was told
may_move_told : (o : Option Part) (r : Run) (order : Order) → ((to : ℕ) → order ≡ Go to → MayMoveTo o r to) → MayMoveTo o r r.count
    → MayMoveTo o r (until_by r.count (Some (told order)))
may_move_told o r (Go to) goes here = goes to refl
may_move_told o r (Hold page other) goes here = here
may_move_told o r Rest goes here = here

pub after_turn : (t : TurnTable Plain Part) (p q : Pass Plain Part) (j k : Job) (until : ℕ) (led : Led) → j.refused ≡ false → k.refused ≡ j.refused
    → k.until ≡ until_by k.run.count (Some (told led.order)) → HasLed t p q j.run k.run until led → HasWorked t p q k
after_turn t p q j k until led fresh same far is = record {
  ready = record {
    table = is.table;
    idle = is.idle;
    stands = record {
      on_record = λ e.
          (is.part, subst (MayMoveTo (passes.part_of q) k.run) (sym far) (may_move_told (passes.part_of q) k.run led.order is.go is.here));
      ahead = λ e. absurd (true≢false (sym e ∙ same ∙ fresh));
    };
  };
  continues = record {
    hart = is.hart;
    before = part_of is.turn.taken (hart_of p);
    after = part_of is.turn.given (hart_of p);
    was = is.turn.was;
    is = is.turn.is;
    terms = record {
      image = is.turn.had.terms.image;
      harts = is.turn.had.terms.harts;
      limit = is.turn.had.terms.limit;
      log_limit = is.turn.had.terms.log_limit;
      first = is.turn.had.terms.first;
    };
  };
}

pub after_refusal : (t : TurnTable Plain Part) (p q : Pass Plain Part) (j k : Job) → IsReady t p j → j.refused ≡ false → k.refused ≡ true
    → WasRefused t p q j.run k.run j.until → HasWorked t p q k
after_refusal t p q j k ready fresh refused is =
    let on = ready.stands.on_record fresh in
    record {
      ready = record {
        table = is.table;
        idle = is.idle;
        stands = record {
          on_record = λ e. absurd (true≢false (sym refused ∙ e));
          ahead = λ e. (
            j.run,
            j.until,
            subst (λ o. IsOnRecord o j.run) (sym is.none.part) on.0,
            subst (λ o. MayMoveTo o j.run j.until) (sym is.none.part) on.1,
            is.leg,
          );
        };
      };
      continues = record {
        hart = is.hart;
        before = on.0.part;
        after = on.0.part;
        was = on.0.is;
        is = is.none.part ∙ on.0.is;
        terms = same_board on.0.part;
      };
    }

-- ---- workers that go on

-- a part is on record
part_of_ready : (t : TurnTable Plain Part) (p : Pass Plain Part) (j : Job) → IsReady t p j → (x : Part) × (passes.part_of p ≡ Some x)
part_of_ready t p j ready = by j.refused refl where
  by : (b : Bool) → j.refused ≡ b → (x : Part) × (passes.part_of p ≡ Some x)
  by true e = let a = ready.stands.ahead e in (a.2.part, a.2.is)
  by false e = let a = ready.stands.on_record e in (a.0.part, a.0.is)

pub not_yet : (t : TurnTable Plain Part) (p : Pass Plain Part) (j : Job) → IsReady t p j → HasWorked t p p j
not_yet t p j ready =
    let x = part_of_ready t p j ready in
    record { ready = ready; continues = record { hart = refl; before = x.0; after = x.0; was = x.1; is = x.1; terms = same_board x.0 } }

pub worked_on : (t : TurnTable Plain Part) (p q s : Pass Plain Part) (j k : Job) → HasWorked t p q j → HasWorked t q s k → HasWorked t p s k
worked_on t p q s j k a b = record {
  ready = b.ready;
  continues = record {
    hart = b.continues.hart ∙ a.continues.hart;
    before = a.continues.before;
    after = b.continues.after;
    was = a.continues.was;
    is = b.continues.is;
    terms = board_then a.continues.before a.continues.after b.continues.after a.continues.terms
        (subst (λ x. AreOfOneBoard x b.continues.after) (same_Some _ _ (sym b.continues.was ∙ a.continues.is)) b.continues.terms);
  };
}

-- ---- lists of workers

abbrev pub Both : Type 0
Both = Pass Plain Part × Job

module _ (t : TurnTable Plain Part) where
  abbrev pub Ready : Both → Type 0
  Ready w = IsReady t w.0 w.1

  abbrev pub Worked : Both → Both → Type 0
  Worked a b = HasWorked t a.0 b.0 b.1

  pub all_not_yet : (ws : List Both) → All Ready ws → AllZip Worked ws ws
  all_not_yet [] all = tt
  all_not_yet (w ∷ ws) all = (not_yet t w.0 w.1 (All-head Ready w ws all), all_not_yet ws (All-tail Ready w ws all))

  pub all_ready : (ws vs : List Both) → AllZip Worked ws vs → All Ready vs
  all_ready [] [] z = All-nil _
  all_ready [] (v ∷ vs) z = absurd z
  all_ready (w ∷ ws) [] z = absurd z
  all_ready (w ∷ ws) (v ∷ vs) z = All-cons Ready v vs z.0.ready (all_ready ws vs z.1)

  pub all_worked_on : (us vs ws : List Both) → AllZip Worked us vs → AllZip Worked vs ws → AllZip Worked us ws
  all_worked_on [] [] [] y z = tt
  all_worked_on [] [] (w ∷ ws) y z = absurd z
  all_worked_on [] (v ∷ vs) ws y z = absurd y
  all_worked_on (u ∷ us) [] ws y z = absurd y
  all_worked_on (u ∷ us) (v ∷ vs) [] y z = absurd z
  all_worked_on (u ∷ us) (v ∷ vs) (w ∷ ws) y z = (worked_on t u.0 v.0 w.0 v.1 w.1 y.0 z.0, all_worked_on us vs ws y.1 z.1)

  pub one_worked_on : (us vs : List Both) (i : ℕ) (d w : Both) → AllZip Worked us vs → Worked (slice_index_or vs i d) w → AllZip Worked us (set vs i w)
  one_worked_on [] [] i d w y z = tt
  one_worked_on [] (v ∷ vs) i d w y z = absurd y
  one_worked_on (u ∷ us) [] i d w y z = absurd y
  one_worked_on (u ∷ us) (v ∷ vs) zero d w y z = (worked_on t u.0 v.0 w.0 v.1 w.1 y.0 z, y.1)
  one_worked_on (u ∷ us) (v ∷ vs) (suc i) d w y z = (y.0, one_worked_on us vs i d w y.1 z)

module _ {A B : Type 0} (R : A → B → Type 0) where
  pub AllZip-pop : (xs : List A) (ys : List B) (x : A) (y : B) → AllZip R (xs ++ x ∷ []) (ys ++ y ∷ []) → AllZip R xs ys × R x y
  AllZip-pop [] [] x y z = (tt, z.0)
  AllZip-pop [] (b ∷ []) x y z = absurd z.1
  AllZip-pop [] (b ∷ (b' ∷ ys)) x y z = absurd z.1
  AllZip-pop (a ∷ []) [] x y z = absurd z.1
  AllZip-pop (a ∷ (a' ∷ xs)) [] x y z = absurd z.1
  AllZip-pop (a ∷ xs) (b ∷ ys) x y z = let r = AllZip-pop xs ys x y z.1 in ((z.0, r.0), r.1)

  pub AllZip-more : (xs : List A) (ys : List B) (x : A) (y : B) → AllZip R xs ys → R x y → AllZip R (xs ++ x ∷ []) (ys ++ y ∷ [])
  AllZip-more [] [] x y z r = (r, tt)
  AllZip-more [] (b ∷ ys) x y z r = absurd z
  AllZip-more (a ∷ xs) [] x y z r = absurd z
  AllZip-more (a ∷ xs) (b ∷ ys) x y z r = (z.0, AllZip-more xs ys x y z.1 r)

-- ---- a worker that has been joined, and lists that go on by one

module _ (t : TurnTable Plain Part) where
  pub promised : (u : TurnTable Plain Part) (p q s : Pass Plain Part) (k : Job) → u ≡ t → q ≡ p → HasWorked u q s k → HasWorked t p s k
  promised u p q s k e f h = subst (λ z. HasWorked t z s k) f (subst (λ v. HasWorked v q s k) e h)

  pub added : (us vs new : List Both) (u v : Both) → AllZip (Worked t) us vs → Worked t u v → new ≡ vs ++ v ∷ [] → AllZip (Worked t) (us ++ u ∷ []) new
  added us vs new u v z one e = subst (AllZip (Worked t) (us ++ u ∷ [])) (sym e) (AllZip-more (Worked t) us vs u v z one)

  -- the last of the workers had worked before
  pub changed_last : (us vs : List Both) (u v : Both) → AllZip (Worked t) (us ++ v ∷ []) vs → Worked t u v → AllZip (Worked t) (us ++ u ∷ []) vs
  changed_last [] [] u v z one = absurd z
  changed_last [] (w ∷ []) u v z one = (worked_on t u.0 v.0 w.0 v.1 w.1 one z.0, tt)
  changed_last [] (w ∷ (w' ∷ vs)) u v z one = absurd z.1
  changed_last (x ∷ us) [] u v z one = absurd z
  changed_last (x ∷ us) (w ∷ vs) u v z one = (z.0, changed_last us vs u v z.1 one)

  pub all_ready_with : (ws vs : List Both) (w : Both) → All (Ready t) ws → Ready t w → vs ≡ ws ++ w ∷ [] → All (Ready t) vs
  all_ready_with ws vs w all one e = subst (All (Ready t)) (sym e) (All-push (Ready t) ws w all one)

  pub ready_apart : (ws vs : List Both) (w : Both) → ws ≡ vs ++ w ∷ [] → All (Ready t) ws → All (Ready t) vs × Ready t w
  ready_apart ws vs w e all = let both = All-pop (Ready t) ws vs (Some w) e all in (both.0, both.1)

  -- the last worker of this thread comes back, and the others too
  pub taken_back : (mine put back left : List Both) (w v : Both) → AllZip (Worked t) put back → put ≡ mine ++ w ∷ [] → back ≡ left ++ v ∷ []
      → AllZip (Worked t) mine left × Worked t w v
  taken_back mine put back left w v z e f =
      AllZip-pop (Worked t) mine left w v (subst (λ xs. AllZip (Worked t) xs (left ++ v ∷ [])) e (subst (AllZip (Worked t) put) f z))
