-- A line stands for one word, has no newline in it, and a text is cut into lines in one way.
use Rattle.std.proofs.Common.{◌≡◌, ℕ, ◌+◌, ◌-◌, ◌<◌, ◌^◌, Bool, true, false, List, [], ◌∷◌, ◌++◌, refl, ap, sym, ◌∙◌, arith, subst, cond, zero, suc, length}
use Rattle.std.proofs.Common.{take, drop, get_or, inl, inr, ◌⊎◌, drop-cons, length-append}
use Rattle.std.specs.Prelude.{◌==◌, fold, position, Some, None, Ok, Err, Result, MatchResult}
use Rattle.std.specs.List.{position_from}
use Rattle.std.proofs.lemmas.Bool.{eqb-true}
use Rattle.std.proofs.lemmas.List.{take-append-drop}
use Rattle.std.proofs.lemmas.List.Quantifiers.{position-Some}
use Rattle.std.proofs.lemmas.Iterator.Adapters.{position_from-zero}
use Rattle.rv_decode.specs.declared.Instr.{Instr}
use Rattle.rv_decode.specs.Table.{meaning}
use Rattle.rv_decode.proofs.Encoding.{meaning_encoded}
use Rattle.rv_asm.specs.declared.scan.Line.{Line}
use Rattle.rv_asm.specs.declared.scan.Line.TheVariants.{Text, Word}
use Rattle.rv_asm.specs.Scan.{start, step, line_of}
use Rattle.rv_decode.specs.Fits.{Fits}
use Rattle.rv_asm.specs.Text.{text}
use Rattle.rv_asm.specs.Grammar.{Stands, Spells, Stops, IsLine, IsCut, FailsAt, FailsWith}
use Rattle.rv_asm.specs.Scan.{line_text, LineFits, MeansWord}
use Rattle.rv_asm.specs.declared.AsmError.{AsmError}
use Rattle.rv_asm.specs.declared.AsmError.TheVariants.{BadLine, NoMemory}
use Rattle.std.proofs.Math.Seq.{take-length}
use Rattle.rv_asm.proofs.Complete.{complete}
use Rattle.rv_asm.proofs.Clean.{line_clean}

-- a line of the grammar, by what a pass makes of it
abbrev Reads : List ℕ → ℕ → Type 0
Reads bytes w = (l : Line) × LineFits l × (bytes ≡ line_text l) × MeansWord l w

reads : (bytes : List ℕ) (w : ℕ) → Stands bytes w → Reads bytes w
reads bytes w (inl s) = (Text s.0, s.1, s.2, (s.3, s.4))
reads bytes w (inr s) = (Word w, s.0, s.1, refl)

pub stands : (bytes : List ℕ) (l : Line) (w : ℕ) → LineFits l → bytes ≡ line_text l → MeansWord l w → Stands bytes w
stands bytes (Text i) w f e m = inl (i, f, e, m.0, m.1)
stands bytes (Word v) w f e m = inr (subst (λ x. x < 2 ^ 32) (sym m) f, subst (λ x. bytes ≡ line_text (Word x)) (sym m) e)

-- a line of the grammar is found
found : (bytes : List ℕ) (w : ℕ) → (s : Stands bytes w) → line_of (fold step start bytes) ≡ Some (reads bytes w s).0
found bytes w s =
    let r = reads bytes w s in
    subst (λ x. line_of (fold step start x) ≡ Some r.0) (sym r.2) (complete r.0 r.1)

pub not_found : (bytes : List ℕ) → line_of (fold step start bytes) ≡ None → (w : ℕ) → Stands bytes w → ⊥
not_found bytes e w s = let f : line_of (fold step start bytes) ≡ Some (reads bytes w s).0 = found bytes w s in cc

same_line : (bytes : List ℕ) (l : Line) (w : ℕ) → line_of (fold step start bytes) ≡ Some l → (s : Stands bytes w) → (reads bytes w s).0 ≡ l
same_line bytes l w e s = let f : line_of (fold step start bytes) ≡ Some (reads bytes w s).0 = found bytes w s in cc

pub not_fitting : (bytes : List ℕ) (l : Line) → line_of (fold step start bytes) ≡ Some l → (LineFits l → ⊥) → (w : ℕ) → Stands bytes w → ⊥
not_fitting bytes l e n w s = n (subst LineFits (same_line bytes l w e s) (reads bytes w s).1)

pub not_same : (bytes : List ℕ) (l : Line) → line_of (fold step start bytes) ≡ Some l → (bytes ≡ line_text l → ⊥) → (w : ℕ) → Stands bytes w → ⊥
not_same bytes l e n w s = n (subst (λ x. bytes ≡ line_text x) (same_line bytes l w e s) (reads bytes w s).2)

means_one : (l : Line) (w v : ℕ) → MeansWord l w → MeansWord l v → w ≡ v
means_one (Text i) w v m n = sym (meaning_encoded w i m.0 m.1) ∙ meaning_encoded v i n.0 n.1
means_one (Word x) w v m n = m ∙ sym n

one_word : (bytes : List ℕ) (w v : ℕ) → Stands bytes w → Stands bytes v → w ≡ v
one_word bytes w v s t =
    let r = reads bytes v t in
    means_one r.0 w v (subst (λ l. MeansWord l w) (same_line bytes r.0 w (found bytes v t) s) (reads bytes w s).3) r.3

stands_clean : (bytes : List ℕ) (w : ℕ) → Stands bytes w → IsLine bytes
stands_clean bytes w s =
    let r = reads bytes w s in
    subst IsLine (sym r.2) (line_clean r.0 r.1)

-- the first newline

cut_same : (a b x y : List ℕ) → IsLine a → IsLine b → a ++ (10 ∷ x) ≡ b ++ (10 ∷ y) → (a ≡ b) × (x ≡ y)
cut_same [] [] x y p q e = (refl, (cc))
cut_same [] (b ∷ bs) x y p q e =
    let h : b ≡ 10 = cc in
    let k : (10 == 10) ≡ false = subst (λ v. (v == 10) ≡ false) h q.0 in
    let bad : ⊥ = cc in absurd bad
cut_same (a ∷ as') [] x y p q e =
    let h : a ≡ 10 = cc in
    let k : (10 == 10) ≡ false = subst (λ v. (v == 10) ≡ false) h p.0 in
    let bad : ⊥ = cc in absurd bad
cut_same (a ∷ as') (b ∷ bs) x y p q e =
    let h : a ≡ b = cc in
    let t : as' ++ (10 ∷ x) ≡ bs ++ (10 ∷ y) = cc in
    let r : (as' ≡ bs) × (x ≡ y) = cut_same as' bs x y p.1 q.1 t in
    let k : as' ≡ bs = r.0 in
    ((cc), r.1)

no_newline : (line more : List ℕ) → IsLine (line ++ (10 ∷ more)) → ⊥
no_newline [] more h = let k : true ≡ false = h.0 in cc
no_newline (b ∷ bs) more h = no_newline bs more h.1

pub stops_none : (rest : List ℕ) → IsLine rest → Stops rest
stops_none rest h line more w s f = no_newline line more (subst IsLine f h)

pub stops_at : (rest cut after : List ℕ) → IsCut rest cut after → ((w : ℕ) → Stands cut w → ⊥) → Stops rest
stops_at rest cut after c none line more w s f =
    let e : (line ≡ cut) × (more ≡ after) = cut_same line cut more after (stands_clean line w s) c.0 (sym f ∙ c.1) in
    none w (subst (λ v. Stands v w) e.0 s)

pub shorter : (rest cut after : List ℕ) → IsCut rest cut after → length after < length rest
shorter rest cut after c = omega (arith, ap length c.1, length-append cut (10 ∷ after))

all_lines : (xs : List ℕ) → ((k : ℕ) → k < length xs → (get_or xs k 0 == 10) ≡ false) → IsLine xs
all_lines [] h = tt
all_lines (b ∷ bs) h = (h 0 (omega arith), all_lines bs (λ k l. h (suc k) (omega arith)))

front_line : (xs : List ℕ) (n : ℕ) → n < length xs → ((k : ℕ) → k < n → (get_or xs k 0 == 10) ≡ false) → IsLine (take n xs)
front_line [] n l h = absurd (omega arith)
front_line (b ∷ bs) zero l h = tt
front_line (b ∷ bs) (suc n) l h = (h 0 (omega arith), front_line bs n (omega arith) (λ k g. h (suc k) (omega arith)))

pub cut_at : (bytes : List ℕ) (n : ℕ) → position (λ b. b == 10) bytes ≡ Some n → (n < length bytes) × IsCut bytes (take n bytes) (drop (suc n) bytes)
cut_at bytes n e =
    let p : (n < length bytes) × ((get_or bytes n 0 == 10) ≡ true) × ((k : ℕ) → k < n → (get_or bytes k 0 == 10) ≡ false) =
    position-Some (λ b. b == 10) bytes n 0 e in
    let q : n < length bytes = p.0 in
    let g : get_or bytes n 0 ≡ 10 = eqb-true (get_or bytes n 0) 10 p.1 in
    let d : drop n bytes ≡ 10 ∷ drop (suc n) bytes = drop-cons bytes n 0 q ∙ ap (λ v. v ∷ drop (suc n) bytes) g in
    (q, (front_line bytes n q p.2, sym (take-append-drop n bytes) ∙ ap (λ v. take n bytes ++ v) d))

not_cut_at : (q : Bool) (b : ℕ) (bs : List ℕ) (i : ℕ) → (b == 10) ≡ q → cond q (Some i) (position_from (λ b. b == 10) (i + 1) bs) ≡ None → ((b == 10) ≡ false)
    × (position_from (λ b. b == 10) (i + 1) bs ≡ None)
not_cut_at true b bs i f e = let bad : ⊥ = cc in absurd bad
not_cut_at false b bs i f e = (f, e)

not_cut : (xs : List ℕ) (i : ℕ) → position_from (λ b. b == 10) i xs ≡ None → IsLine xs
not_cut [] i e = tt
not_cut (b ∷ bs) i e =
    let h : ((b == 10) ≡ false) × (position_from (λ b. b == 10) (i + 1) bs ≡ None) = not_cut_at (b == 10) b bs i refl e in
    (h.0, not_cut bs (i + 1) h.1)

pub whole_line : (bytes : List ℕ) → position (λ b. b == 10) bytes ≡ None → IsLine bytes
whole_line bytes e = not_cut bytes 0 (sym (position_from-zero (λ b. b == 10) bytes) ∙ e)

pub stops_nil : Stops []
stops_nil [] more w s f = cc
stops_nil (b ∷ bs) more w s f = cc

-- one more line

pub push_line : (ws : List ℕ) (line more bytes : List ℕ) (w : ℕ) → Spells ws (line ++ (10 ∷ more)) bytes → Stands line w → Spells (ws ++ (w ∷ [])) more bytes
push_line [] line more bytes w e s = (line, more, s, e, refl)
push_line (v ∷ ws) line more bytes w p s = (p.0, p.1, p.2, p.3, push_line ws line more p.1 w p.4 s)

-- a text is cut in one way

pub one_cut : (ws vs r q bytes : List ℕ) → Spells ws r bytes → Stops r → Spells vs q bytes → Stops q → (ws ≡ vs) × (r ≡ q)
one_cut [] [] r q bytes a b c d = (refl, sym a ∙ c)
one_cut [] (v ∷ vs) r q bytes a b c d = absurd (b c.0 c.1 v c.2 (sym a ∙ c.3))
one_cut (w ∷ ws) [] r q bytes a b c d = absurd (d a.0 a.1 w a.2 (sym c ∙ a.3))
one_cut (w ∷ ws) (v ∷ vs) r q bytes a b c d =
    let e : (a.0 ≡ c.0) × (a.1 ≡ c.1) = cut_same a.0 c.0 a.1 c.1 (stands_clean a.0 w a.2) (stands_clean c.0 v c.2) (sym a.3 ∙ c.3) in
    let o : w ≡ v = one_word c.0 w v (subst (λ x. Stands x w) e.0 a.2) c.2 in
    let i : (ws ≡ vs) × (r ≡ q) = one_cut ws vs r q c.1 (subst (Spells ws r) e.1 a.4) b c.4 d in
    let k : ws ≡ vs = i.0 in
    ((cc), i.1)

pub rest_of : (xs : List ℕ) → take (length xs - 1) (drop 1 xs) ≡ drop 1 xs
rest_of [] = refl
rest_of (b ∷ bs) =
    let e : suc (length bs) - 1 ≡ length bs = omega arith in
    ap (λ n. take n bs) e ∙ take-length bs

pub drop_one : (n : ℕ) (xs : List ℕ) → drop 1 (drop n xs) ≡ drop (suc n) xs
drop_one zero [] = refl
drop_one zero (b ∷ bs) = refl
drop_one (suc n) [] = refl
drop_one (suc n) (b ∷ bs) = drop_one n bs

pub cut_back : (bytes line back : List ℕ) (n : ℕ) → position (λ b. b == 10) bytes ≡ Some n → line ≡ take n bytes → back ≡ drop n bytes
    → IsCut bytes line (take (length back - 1) (drop 1 back))
cut_back bytes line back n e f g =
    let c : IsCut bytes (take n bytes) (drop (suc n) bytes) = (cut_at bytes n e).1 in
    let k : take (length back - 1) (drop 1 back) ≡ drop (suc n) bytes = rest_of back ∙ ap (drop 1) g ∙ drop_one n bytes in
    subst (λ v. IsCut bytes v (take (length back - 1) (drop 1 back))) (sym f) (subst (λ v. IsCut bytes (take n bytes) v) (sym k) c)

-- what follows for the caller

pub only_these : {X : Type 0} (items : X → List ℕ) (r : Result X AsmError) (bytes ws : List ℕ)
    → MatchResult r (λ v. Spells (items v) [] bytes) (λ e. FailsWith e bytes) → Spells ws [] bytes → MatchResult r (λ v. items v ≡ ws) (λ e. e ≡ NoMemory)
only_these items (Ok v) bytes ws h s = (one_cut (items v) ws [] [] bytes h stops_nil s stops_nil).0
only_these items (Err (BadLine n)) bytes ws h s =
    let e : (ws ≡ h.0) × ([] ≡ h.1) = one_cut ws h.0 [] h.1 bytes s stops_nil h.4 h.5 in
    absurd (omega (arith, ap length e.1, h.3))
only_these items (Err NoMemory) bytes ws h s = refl

pub first_bad : {X : Type 0} (items : X → List ℕ) (r : Result X AsmError) (bytes : List ℕ) (n : ℕ)
    → MatchResult r (λ v. Spells (items v) [] bytes) (λ e. FailsWith e bytes) → FailsAt n bytes → MatchResult r (λ v. ⊥) (λ e. (e ≡ BadLine n) ⊎ (e ≡ NoMemory))
first_bad items (Ok v) bytes n h f =
    let e : (items v ≡ f.0) × ([] ≡ f.1) = one_cut (items v) f.0 [] f.1 bytes h stops_nil f.4 f.5 in
    absurd (omega (arith, ap length e.1, f.3))
first_bad items (Err (BadLine m)) bytes n h f =
    let e : (h.0 ≡ f.0) × (h.1 ≡ f.1) = one_cut h.0 f.0 h.1 f.1 bytes h.4 h.5 f.4 f.5 in
    inl (ap BadLine (sym h.2 ∙ ap length e.0 ∙ f.2))
first_bad items (Err NoMemory) bytes n h f = inr refl

pub ruleset lines = (not_found, not_fitting, not_same, stands)

pub one_line : (i : Instr) (w : ℕ) → Fits i → w < 2 ^ 32 → meaning w ≡ Some i → Spells (w ∷ []) [] (text i ++ (10 ∷ []))
one_line i w f b m = (text i, [], inl (i, f, refl, b, m), refl, refl)
