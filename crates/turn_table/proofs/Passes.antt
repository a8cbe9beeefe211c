-- The table as it is opened, and passes that are cut off and put together.
use Rattle.std.specs.Prelude.{slice_get, slice_index_or, Contains, All}
use Rattle.std.specs.List.{enumerate_from}
use Rattle.std.proofs.Common.{◌≡◌, ◌≢◌, ℕ, zero, suc, ◌+◌, ◌-◌, ◌<◌, ◌≤◌, List, [], ◌∷◌, ◌++◌, map, take, drop, length, length-append, append_assoc, false}
use Rattle.std.proofs.Common.{Option, Some, refl, sym, ap, ◌∙◌, subst, arith, eq-eqb, ne_eqb, set}
use mathlib.Core.Option.{some, some-injective, some-ne-none}
use native.Mathlib.Decide.{ℕ_discrete}
use lib.ListN.{get_elem?}
use Rattle.std.proofs.lemmas.List.{map_push}
use Rattle.std.proofs.lemmas.List.Elements.{All-nil, All-cons}
use Rattle.atomic_table.specs.Table.{Me, Splits, Joins, opening}
use Rattle.atomic_table.proofs.Lists.{set_else}
use Rattle.turn_table.specs.declared.view.View.{View}
use Rattle.turn_table.specs.declared.table.Pass.{Pass}
use Rattle.turn_table.specs.Turns.{times, times_in, AreOnRecord, idle, IsRuled, joined, rest, dealt, first_hart, first_part}
use Rattle.turn_table.specs.Passes.{IsFresh, IsIdle, hart_of, part_of}
use Rattle.turn_table.proofs.Records.{times-append, times_in-set, times_in-snoc, AreOnRecord-append}
use Rattle.turn_table.proofs.Steps.{home_set, home_snoc, out_set, out_snoc}

module _ {P : Type 0} where
  -- ---- each part with its hart

  times_below : (h k : ℕ) (ps : List P) → h < k → times h (enumerate_from k ps) ≡ 0
  times_below h k [] lt = refl
  times_below h k (p ∷ ps) lt =
      let other : k ≢ h = λ e. absurd (omega (arith, lt, e)) in
      rw (ne_eqb k h other) (omega (arith, times_below h (k + 1) ps (omega (arith, lt))))

  times_past : (h k : ℕ) (ps : List P) → k + length ps ≤ h → times h (enumerate_from k ps) ≡ 0
  times_past h k [] le = refl
  times_past h k (p ∷ ps) le =
      let other : k ≢ h = λ e. absurd (omega (arith, le, e)) in
      rw (ne_eqb k h other) (omega (arith, times_past h (k + 1) ps (omega (arith, le))))

  times_within : (h k : ℕ) (ps : List P) → k ≤ h → h < k + length ps → times h (enumerate_from k ps) ≡ 1
  times_within h k [] le lt = absurd (omega (arith, le, lt))
  times_within h k (p ∷ ps) le lt = elim (ℕ_discrete k h) [
    | yes e ↦ rw (eq-eqb k h e) (omega (arith, times_below h (k + 1) ps (omega (arith, e))))
    | no ne ↦ rw (ne_eqb k h ne) (omega (arith, times_within h (k + 1) ps (omega (arith, le, ne)) (omega (arith, lt))))
  ]

  at_front : (front : List P) (p : P) (ps : List P) → slice_get (front ++ p ∷ ps) (length front) ≡ Some p
  at_front [] p ps = refl
  at_front (x ∷ xs) p ps = at_front xs p ps

  agrees_numbered : (front ps : List P) (k : ℕ) → length front ≡ k → AreOnRecord (front ++ ps) (enumerate_from k ps)
  agrees_numbered front [] k e = tt
  agrees_numbered front (p ∷ ps) k e =
      let moved : AreOnRecord ((front ++ p ∷ []) ++ ps) (enumerate_from (k + 1) ps) =
      agrees_numbered (front ++ p ∷ []) ps (k + 1) (omega (arith, e, length-append front (p ∷ []))) in (
        ap (λ j. slice_get (front ++ p ∷ ps) j) (sym e)
            ∙ at_front front p ps,
        subst (λ (xs : List P). AreOnRecord xs (enumerate_from (k + 1) ps)) (append_assoc front (p ∷ []) ps) moved,
      )

  pub opened : {B : Type 0} (parts : B → List P) (board : B) (n : ℕ) → n ≡ length (parts board)
      → IsRuled parts n (opening (1 ∷ []) (Some board ∷ []) (idle n (enumerate_from 0 (parts board)) []))
  opened {B} parts board n count =
      let first : View B P = idle n (enumerate_from 0 (parts board)) [] in
      record {
        once = λ h lt. let t = times_within h 0 (parts board) (omega arith) (omega (arith, lt, count)) in omega (arith, t);
        none = λ h le. let t = times_past h 0 (parts board) (omega (arith, le, count)) in omega (arith, t);
        one = refl;
        place = omega arith;
        home = λ _. (
          board,
          refl,
          record {
            count = sym count;
            idle = λ i v e. ap (λ (z : View B P). z.holds) (sym (is i v e));
            agrees = λ i v e. subst (λ (z : View B P). AreOnRecord (parts board) z.records) (is i v e) (agrees_numbered [] (parts board) 0 refl);
          },
        );
        out = λ e. absurd (omega (arith, e));
      } where
        is : (i : ℕ) (v : View B P) → get_elem? (idle n (enumerate_from 0 (parts board)) [] ∷ []) i ≡ some v → idle n (enumerate_from 0 (parts board)) [] ≡ v
        is zero v e = some-injective _ _ e
        is (suc i) v e = absurd (some-ne-none v (sym e))

  -- ---- the first hart on record goes to a pass of its own

  times_apart : (h : ℕ) (rs : List (ℕ × P)) → times h (rest rs) + times h (take 1 rs) ≡ times h rs
  times_apart h [] = refl
  times_apart h (r ∷ rs) = omega arith

  agrees_rest : (ps : List P) (rs : List (ℕ × P)) → AreOnRecord ps rs → AreOnRecord ps (rest rs)
  agrees_rest ps [] a = tt
  agrees_rest ps (r ∷ rs) a = a.1

  agrees_first : (ps : List P) (rs : List (ℕ × P)) → AreOnRecord ps rs → AreOnRecord ps (take 1 rs)
  agrees_first ps [] a = tt
  agrees_first ps (r ∷ rs) a = (a.0, tt)

  pub splits : {B : Type 0} (parts : B → List P) (n id : ℕ) (v : View B P) → v.holds ≡ false
      → Splits (IsRuled parts n) id v (idle v.harts (rest v.records) v.found) (idle v.harts (take 1 v.records) [])
  unfolding out_set
  splits {B} parts n id v none s k at =
      let left : View B P = idle v.harts (rest v.records) v.found in
      let right : View B P = idle v.harts (take 1 v.records) [] in
      let kept : (h : ℕ) → times_in h (set s.views id left ++ right ∷ []) ≡ times_in h s.views = λ h.
      let a = times_in-set h s.views id v left at in
      let b = times_in-snoc h (set s.views id left) right in
      let c = times_apart h v.records in
      omega (arith, a, b, c) in
      record {
        once = λ h lt. kept h ∙ k.once h lt;
        none = λ h le. kept h ∙ k.none h le;
        one = k.one;
        place = k.place;
        home = λ e. let h = k.home e in
            let had = h.2.agrees id v at in (
              h.0,
              h.1,
              home_snoc n (parts h.0) (set s.views id left) right (home_set n (parts h.0) s.views id left h.2 refl (agrees_rest (parts h.0) v.records had))
                  refl (agrees_first (parts h.0) v.records had),
            );
        out = λ e. let o = k.out e in
            let had = o.1.agrees id v at in (
              o.0,
              out_snoc n o.0 (set s.views id left) right (out_set n o.0 s.views id v left o.1 at none refl (agrees_rest o.1.view.noted v.records had)) refl
                  (agrees_first o.1.view.noted v.records had),
            );
      }

  -- ---- one pass keeps what two had on record

  pub joins : {B : Type 0} (parts : B → List P) (n id : ℕ) (v : View B P) (other : ℕ) (w : View B P) → v.holds ≡ false → w.holds ≡ false
      → Joins (IsRuled parts n) id v other w (joined v w) (idle 0 [] [])
  joins {B} parts n id v other w none none' s k at ne at' =
      let both : View B P = joined v w in
      let spent : View B P = idle 0 [] [] in
      let before : get_elem? s.views other ≡ some w = sym (set_else s.views id other both ne) ∙ at' in
      let kept : (h : ℕ) → times_in h (set (set s.views id both) other spent) ≡ times_in h s.views = λ h.
      let a = times_in-set h s.views id v both at in
      let b = times_in-set h (set s.views id both) other w spent at' in
      let c = times-append h w.records v.records in
      omega (arith, a, b, c) in
      record {
        once = λ h lt. kept h ∙ k.once h lt;
        none = λ h le. kept h ∙ k.none h le;
        one = k.one;
        place = k.place;
        home = λ e. let h = k.home e in
            let ps = parts h.0 in (
              h.0,
              h.1,
              home_set n ps (set s.views id both) other spent
                  (home_set n ps s.views id both h.2 refl (AreOnRecord-append ps w.records v.records (h.2.agrees other w before) (h.2.agrees id v at))) refl tt,
            );
        out = λ e. let o = k.out e in
            let ps = o.1.view.noted in (
              o.0,
              out_set n o.0 (set s.views id both) other w spent
                  (out_set n o.0 s.views id v both o.1 at none refl
                  (AreOnRecord-append ps w.records v.records (o.1.agrees other w before) (o.1.agrees id v at))) at' none' refl tt,
            );
      }

  -- ---- dealing

  -- the record at k, what is behind it, and what is before it
  pub next : (k : ℕ) (rs : List (ℕ × P)) → k < length rs → (r : ℕ × P) × (drop k rs ≡ r ∷ drop (k + 1) rs) × (take (k + 1) rs ≡ take k rs ++ r ∷ [])
  next k [] h = absurd (omega (arith, h))
  next zero (r ∷ rs) h = (r, refl, refl)
  next (suc k) (r ∷ rs) h =
      let n = next k rs (omega (arith, h)) in
      let more : suc k + 1 ≡ suc (k + 1) = omega arith in
      (n.0, n.1 ∙ ap (λ j. n.0 ∷ drop j (r ∷ rs)) (sym more), ap (λ j. take j (r ∷ rs)) more ∙ ap (λ xs. r ∷ xs) n.2)

  -- the last record is what is left behind the others
  pub last : (rs : List (ℕ × P)) (n : ℕ) → 0 < n → n ≡ length rs → (r : ℕ × P) × (drop (n - 1) rs ≡ r ∷ []) × (rs ≡ take (n - 1) rs ++ r ∷ [])
  last rs n pos e =
      let k : n - 1 + 1 ≡ n = omega arith in
      let m = next (n - 1) rs (omega (arith, e)) in
      let whole : take n rs ≡ rs = take_all rs n e in
      let none : drop n rs ≡ [] = drop_all rs n e in
      (m.0, m.1 ∙ ap (λ j. m.0 ∷ drop j rs) k ∙ ap (λ xs. m.0 ∷ xs) none, sym whole ∙ ap (λ j. take j rs) (sym k) ∙ m.2) where
        take_all : (xs : List (ℕ × P)) (j : ℕ) → j ≡ length xs → take j xs ≡ xs
        take_all [] j e = ap (λ i. take i []) e
        take_all (x ∷ xs) zero e = absurd (omega (arith, e))
        take_all (x ∷ xs) (suc j) e = ap (λ ys. x ∷ ys) (take_all xs j (omega (arith, e)))

        drop_all : (xs : List (ℕ × P)) (j : ℕ) → j ≡ length xs → drop j xs ≡ []
        drop_all [] j e = ap (λ i. drop i []) e
        drop_all (x ∷ xs) zero e = absurd (omega (arith, e))
        drop_all (x ∷ xs) (suc j) e = drop_all xs j (omega (arith, e))

  pub length_numbered : (k : ℕ) (ps : List P) → length (enumerate_from k ps) ≡ length ps
  length_numbered k [] = refl
  length_numbered k (p ∷ ps) = ap suc (length_numbered (k + 1) ps)

  -- what the passes have that were dealt, with the last of them
  pub all_dealt : {B : Type 0} (n : ℕ) (rs : List (ℕ × P)) (ps items : List (Pass B P)) (p : Pass B P) → 0 < n → n ≡ length rs
      → map (λ q. q.seat.me) ps ≡ dealt n (take (n - 1) rs) → p.seat.me ≡ (idle n (drop (n - 1) rs) [], []) → items ≡ ps ++ p ∷ []
      → map (λ q. q.seat.me) items ≡ dealt n rs
  all_dealt {B} n rs ps items p pos count before own are =
      let l = last rs n pos count in
      let me : Pass B P → Me (Option B) (View B P) = λ q. q.seat.me in
      let deal : ℕ × P → Me (Option B) (View B P) = λ r. (idle n (r ∷ []) [], []) in
      let mine : p.seat.me ≡ deal l.0 = own ∙ (λ i. (idle n (l.1 i) [], [])) in
      ap (map me) are ∙ map_push me ps p ∙ (λ i. before i ++ mine i ∷ []) ∙ sym (map_push deal (take (n - 1) rs) l.0) ∙ ap (dealt {B = B} n) (sym l.2)

  module _ {B : Type 0} where
    head_of : (x y : Me (Option B) (View B P)) (xs ys : List (Me (Option B) (View B P))) → x ∷ xs ≡ y ∷ ys → x ≡ y
    head_of x y xs ys e = cc

    tail_of : (x y : Me (Option B) (View B P)) (xs ys : List (Me (Option B) (View B P))) → x ∷ xs ≡ y ∷ ys → xs ≡ ys
    tail_of x y xs ys e = cc

    -- what each pass is that was dealt
    pub record IsDealt (n : ℕ) (p : Pass B P) : Type 0 where
      pub harts : p.seat.me.0.harts ≡ n
      pub idle : IsIdle p
      pub fresh : IsFresh p

    is_dealt : (n : ℕ) (p : Pass B P) (r : ℕ × P) → p.seat.me ≡ (idle n (r ∷ []) [], []) → IsDealt n p
    is_dealt n p r e = record {
      harts = ap (λ m. m.0.harts) e;
      idle = record { alone = ap (λ m. length m.0.records) e; holds = ap (λ m. m.0.holds) e; slots = ap (λ m. m.1) e };
      fresh = record { found = ap (λ m. m.0.found) e; turns = ap (λ m. m.0.turns) e };
    }

    pub dealt_all : (n : ℕ) (ps : List (Pass B P)) (rs : List (ℕ × P)) → map (λ q. q.seat.me) ps ≡ dealt n rs → All (IsDealt n) ps
    dealt_all n [] rs e = All-nil _
    dealt_all n (p ∷ ps) [] e = cc
    dealt_all n (p ∷ ps) (r ∷ rs) e = All-cons (IsDealt n) p ps (is_dealt n p r (head_of _ _ _ _ e)) (dealt_all n ps rs (tail_of _ _ _ _ e))

    pub dealt_each : (n k : ℕ) (ps : List (Pass B P)) (qs : List P) → map (λ q. q.seat.me) ps ≡ dealt n (enumerate_from k qs) → (h : ℕ) (p : Pass B P)
        → slice_get ps h ≡ Some p → (hart_of p ≡ k + h) × (part_of p ≡ slice_get qs h)
    dealt_each n k [] qs e h p at = cc
    dealt_each n k (x ∷ ps) [] e h p at = cc
    dealt_each n k (x ∷ ps) (q ∷ qs) e zero p at =
        let same : x ≡ p = cc in
        let me : p.seat.me ≡ (idle n ((k, q) ∷ []) [], []) = ap (λ y. y.seat.me) (sym same) ∙ head_of _ _ _ _ e in
        let none : k ≡ k + 0 = omega arith in
        (ap (λ m. first_hart m.0.records) me ∙ none, ap (λ m. first_part m.0.records) me)
    dealt_each n k (x ∷ ps) (q ∷ qs) e (suc h) p at =
        let r = dealt_each n (k + 1) ps qs (tail_of _ _ _ _ e) h p at in
        let more : k + 1 + h ≡ k + suc h = omega arith in
        (r.0 ∙ more, r.1)

    dealt_hart : (n k : ℕ) (ps : List (Pass B P)) (qs : List P) → map (λ q. q.seat.me) ps ≡ dealt n (enumerate_from k qs) → (h d : ℕ) → h < length qs
        → (h < length (map hart_of ps)) × (slice_index_or (map hart_of ps) h d ≡ k + h)
    dealt_hart n k [] [] e h d lt = absurd (omega (arith, lt))
    dealt_hart n k [] (q ∷ qs) e h d lt = cc
    dealt_hart n k (x ∷ ps) [] e h d lt = cc
    dealt_hart n k (x ∷ ps) (q ∷ qs) e zero d lt =
        let none : k ≡ k + 0 = omega arith in
        (omega arith, ap (λ m. first_hart m.0.records) (head_of _ _ _ _ e) ∙ none)
    dealt_hart n k (x ∷ ps) (q ∷ qs) e (suc h) d lt =
        let r = dealt_hart n (k + 1) ps qs (tail_of _ _ _ _ e) h d (omega (arith, lt)) in
        let more : k + 1 + h ≡ k + suc h = omega arith in
        (omega (arith, r.0), r.1 ∙ more)

    -- every hart has a pass
    pub dealt_every : (n : ℕ) (ps : List (Pass B P)) (qs : List P) → map (λ q. q.seat.me) ps ≡ dealt n (enumerate_from 0 qs) → (h : ℕ) → h < length qs
        → Contains (map hart_of ps) h
    dealt_every n ps qs e h lt = let r = dealt_hart n 0 ps qs e h h lt in (h, r.0, r.1 ∙ omega arith)
