-- Workers made of passes and runs, and lists by place.
use Rattle.std.proofs.Common.{◌≡◌, ℕ, zero, suc, List, [], ◌∷◌, ◌++◌, length, map, false, Some, slice_get, slice_index_or, refl}
use Rattle.std.proofs.Common.{sym, ap, ap₂, ◌∙◌}
use Rattle.std.proofs.Common.{subst, arith, All}
use Rattle.std.specs.List.{AllZip}
use Rattle.std.proofs.lemmas.List.{map_push}
use Rattle.std.proofs.lemmas.List.Elements.{All-nil, All-cons, All-get_or, All-head, All-push, All-tail}
use Rattle.std.proofs.lemmas.Option.{get_or_from_slice_get, none-some, same_Some, slice_get_within}
use Rattle.run_model.specs.Run.{Run}
use Rattle.turn_table.specs.declared.table.Pass.{Pass}
use Rattle.turn_table.specs.declared.table.TurnTable.{TurnTable}
use Rattle.turn_table.specs.Passes as passes
use Rattle.turn_table.specs.Passes.{IsPassOf, IsIdle, hart_of}
use Rattle.crew_parts.specs.Boards.{Plain}
use Rattle.crew_parts.specs.Parts.{Part}
use Rattle.free_run.specs.Parts.{IsOnRecord}
use Rattle.free_run.specs.Workers.{IsBack, IsReady, first_job}
use Rattle.free_run.proofs.Working.{Both, Ready, Worked}

-- ---- lists by place

module _ {A B : Type 0} (R : A → B → Type 0) where
  pub zip_by_place : (xs : List A) (ys : List B) → length xs ≡ length ys
      → ((i : ℕ) (x : A) (y : B) → slice_get xs i ≡ Some x → slice_get ys i ≡ Some y → R x y) → AllZip R xs ys
  zip_by_place [] [] n f = tt
  zip_by_place [] (y ∷ ys) n f = absurd (omega (arith, n))
  zip_by_place (x ∷ xs) [] n f = absurd (omega (arith, n))
  zip_by_place (x ∷ xs) (y ∷ ys) n f = (f zero x y refl refl, zip_by_place xs ys (omega (arith, n)) (λ i a b p q. f (suc i) a b p q))

  -- what stands beside an element of the second list, and of the first
  pub zip_before : (xs : List A) (ys : List B) (i : ℕ) (y : B) → AllZip R xs ys → slice_get ys i ≡ Some y → (x : A) × (slice_get xs i ≡ Some x) × R x y
  zip_before [] [] i y z e = absurd (none-some _ e)
  zip_before [] (b ∷ ys) i y z e = absurd z
  zip_before (a ∷ xs) [] i y z e = absurd z
  zip_before (a ∷ xs) (b ∷ ys) zero y z e = (a, refl, subst (R a) (same_Some _ _ e) z.0)
  zip_before (a ∷ xs) (b ∷ ys) (suc i) y z e = zip_before xs ys i y z.1 e

  pub zip_behind : (xs : List A) (ys : List B) (i : ℕ) (x : A) → AllZip R xs ys → slice_get xs i ≡ Some x → (y : B) × (slice_get ys i ≡ Some y) × R x y
  zip_behind [] [] i x z e = absurd (none-some _ e)
  zip_behind [] (b ∷ ys) i x z e = absurd z
  zip_behind (a ∷ xs) [] i x z e = absurd z
  zip_behind (a ∷ xs) (b ∷ ys) zero x z e = (b, refl, subst (λ v. R v b) (same_Some _ _ e) z.0)
  zip_behind (a ∷ xs) (b ∷ ys) (suc i) x z e = zip_behind xs ys i x z.1 e

  pub zip_length : (xs : List A) (ys : List B) → AllZip R xs ys → length ys ≡ length xs
  zip_length [] [] z = refl
  zip_length [] (y ∷ ys) z = absurd z
  zip_length (x ∷ xs) [] z = absurd z
  zip_length (x ∷ xs) (y ∷ ys) z = ap suc (zip_length xs ys z.1)

module _ {X : Type 0} where
  pub each_of : (P : X → Type 0) (xs : List X) (i : ℕ) (x : X) → All P xs → slice_get xs i ≡ Some x → P x
  each_of P xs i x all e = subst P (get_or_from_slice_get xs i x x e) (All-get_or P xs i x (slice_get_within xs i x e) all)

  pub nothing_left : (xs : List X) → length xs ≡ 0 → xs ≡ []
  nothing_left [] n = refl
  nothing_left (x ∷ xs) n = absurd (omega (arith, n))

  same_first : (x y : X) (xs ys : List X) → x ∷ xs ≡ y ∷ ys → x ≡ y
  same_first x y xs ys e = ap (λ l. slice_index_or l 0 x) e

  behind_first : List X → List X
  behind_first [] = []
  behind_first (x ∷ xs) = xs

  same_later : (x y : X) (xs ys : List X) → x ∷ xs ≡ y ∷ ys → xs ≡ ys
  unfolding behind_first
  same_later x y xs ys e = ap behind_first e

-- what is mapped goes on by one
pub map_onto : {A B : Type 0} (f : A → B) (mid new : List A) (w : A) (xs ys : List B) (y : B) → map f mid ≡ xs → new ≡ mid ++ w ∷ [] → f w ≡ y
    → ys ≡ xs ++ y ∷ [] → map f new ≡ ys
map_onto f mid new w xs ys y front is here all = ap (map f) is ∙ map_push f mid w ∙ ap₂ (λ l z. l ++ z ∷ []) front here ∙ sym all

pub map_both : {A B C : Type 0} (f : A → C) (k : B → C) (mid new : List A) (w : A) (xs ys : List B) (y : B) → map f mid ≡ map k xs → new ≡ mid ++ w ∷ []
    → f w ≡ k y → ys ≡ xs ++ y ∷ [] → map f new ≡ map k ys
map_both f k mid new w xs ys y front is here all =
    map_onto f mid new w (map k xs) (map k ys) (k y) front is here (ap (map k) all ∙ map_push k xs y)

-- no memory was refused
abbrev pub HadRoom : Both → Type 0
HadRoom w = w.1.refused ≡ false

pub all_had_room : (ws vs : List Both) (w : Both) → ws ≡ vs ++ w ∷ [] → All HadRoom vs → w.1.refused ≡ false → All HadRoom ws
all_had_room ws vs w e all one = subst (All HadRoom) (sym e) (All-push HadRoom vs w all one)

-- the run is the part on record
abbrev pub OnRecord : Pass Plain Part → Run → Type 0
OnRecord p r = IsOnRecord (passes.part_of p) r

-- ---- workers and their passes and runs

module _ (t : TurnTable Plain Part) where
  abbrev pub Begins : Pass Plain Part → Run → Type 0
  Begins p r = IsReady t p (first_job r)

  begin_each : (ws : List Both) (rs : List Run) → map (λ (w : Both). w.1) ws ≡ map first_job rs → AllZip Begins (map (λ (w : Both). w.0) ws) rs
      → All (Ready t) ws
  begin_each [] rs e z = All-nil _
  begin_each (w ∷ ws) [] e z = absurd z
  begin_each (w ∷ ws) (r ∷ rs) e z =
      All-cons (Ready t) w ws
      (subst (IsReady t w.0) (sym (same_first w.1 (first_job r) (map (λ (w : Both). w.1) ws) (map first_job rs) e)) z.0)
      (begin_each ws rs (same_later w.1 (first_job r) (map (λ (w : Both). w.1) ws) (map first_job rs) e) z.1)

  pub begin_all : (ws : List Both) (ps : List (Pass Plain Part)) (rs : List Run) → map (λ (w : Both). w.0) ws ≡ ps
      → map (λ (w : Both). w.1) ws ≡ map first_job rs → AllZip Begins ps rs → All (Ready t) ws
  begin_all ws ps rs ones others z = begin_each ws rs others (subst (λ xs. AllZip Begins xs rs) (sym ones) z)

  pub led_all : (ws vs : List Both) → AllZip (Worked t) ws vs → AllZip (IsBack t) (map (λ (w : Both). w.0) ws) (map (λ (w : Both). w.0) vs)
  led_all [] [] z = tt
  led_all [] (v ∷ vs) z = absurd z
  led_all (w ∷ ws) [] z = absurd z
  led_all (w ∷ ws) (v ∷ vs) z =
      (record { table = z.0.ready.table; idle = z.0.ready.idle; continues = z.0.continues }, led_all ws vs z.1)

  pub on_record_all : (ws vs : List Both) → AllZip (Worked t) ws vs → All HadRoom vs
      → AllZip OnRecord (map (λ (w : Both). w.0) vs) (map (λ (w : Both). w.1.run) vs)
  on_record_all [] [] z all = tt
  on_record_all [] (v ∷ vs) z all = absurd z
  on_record_all (w ∷ ws) [] z all = absurd z
  on_record_all (w ∷ ws) (v ∷ vs) z all = (
    (z.0.ready.stands.on_record (All-head HadRoom v vs all)).0,
    on_record_all ws vs z.1 (All-tail HadRoom v vs all),
  )

  pub led_out : (ws vs : List Both) (ps qs : List (Pass Plain Part)) → map (λ (w : Both). w.0) ws ≡ ps → qs ≡ map (λ (w : Both). w.0) vs
      → AllZip (Worked t) ws vs → AllZip (IsBack t) ps qs
  led_out ws vs ps qs e f z =
      subst (λ xs. AllZip (IsBack t) xs qs) e (subst (AllZip (IsBack t) (map (λ (w : Both). w.0) ws)) (sym f) (led_all ws vs z))

  pub on_record_out : (ws vs : List Both) (qs : List (Pass Plain Part)) (rs : List Run) → qs ≡ map (λ (w : Both). w.0) vs
      → rs ≡ map (λ (w : Both). w.1.run) vs → AllZip (Worked t) ws vs → All HadRoom vs → AllZip OnRecord qs rs
  on_record_out ws vs qs rs e f z all =
      subst (λ xs. AllZip OnRecord xs rs) (sym e)
      (subst (AllZip OnRecord (map (λ (w : Both). w.0) vs)) (sym f) (on_record_all ws vs z all))

  -- ---- passes whose workers have ended

  abbrev pub Idle : Pass Plain Part → Type 0
  Idle p = IsPassOf t p × IsIdle p

  pub all_idle : (ps qs : List (Pass Plain Part)) → AllZip (IsBack t) ps qs → All Idle qs
  all_idle [] [] z = All-nil _
  all_idle [] (q ∷ qs) z = absurd z
  all_idle (p ∷ ps) [] z = absurd z
  all_idle (p ∷ ps) (q ∷ qs) z = All-cons Idle q qs (z.0.table, z.0.idle) (all_idle ps qs z.1)

  abbrev pub hart_in : Pass Plain Part → ℕ
  hart_in p = hart_of p

  pub same_harts : (ps qs : List (Pass Plain Part)) → AllZip (IsBack t) ps qs → map hart_in qs ≡ map hart_in ps
  same_harts [] [] z = refl
  same_harts [] (q ∷ qs) z = absurd z
  same_harts (p ∷ ps) [] z = absurd z
  same_harts (p ∷ ps) (q ∷ qs) z = ap₂ (λ h hs. h ∷ hs) z.0.continues.hart (same_harts ps qs z.1)
