-- Readers of words that are left to right: where one stops, what it read could have gone on, and the word there is bad.
use Rattle.std.proofs.Common.{◌≡◌, ℕ, ◌+◌, ◌<◌, ◌||◌, not, Bool, true, false, List, [], ◌∷◌, ◌++◌, length, Option, Some, None, Result, Ok, Err, IsOk, refl}
use Rattle.std.proofs.Common.{sym, ap, ◌∙◌, subst, arith, if◌then◌else◌, true≢false}
use Rattle.std.specs.Str.{bytes_eq}
use Rattle.std.specs.List.{list_any}
use Rattle.std.proofs.lemmas.Slice.Eq.{bytes_eq-Decides}
use Rattle.std.proofs.lemmas.List.{length-append}
use Rattle.command_words.specs.declared.job.Job.{Job}
use Rattle.command_words.specs.Texts.{is_name, number_in}
use Rattle.command_words.specs.Grammar.{name, number, no_more}

abbrev pub Words : Type 0
Words = List (List ℕ)

-- a reader from a place stops at another: what it read before it could have gone on, and the word there, if one stands there, is
-- bad whatever stands behind it
pub record StopsAt {G : Type 0} (read : Words → Result G ℕ) (from : ℕ) (words : Words) (place : ℕ) : Type 0 where
  pub before : Words
  pub rest : Words
  pub parts : words ≡ before ++ rest
  pub place_is : place ≡ from + length before
  pub goes_on : (more : Words) × IsOk (read (before ++ more))
  pub bad : (word : List ℕ) (tail : Words) → rest ≡ word ∷ tail → (more : Words) → read (before ++ word ∷ more) ≡ Err place

abbrev pub IsLeftToRight : {G : Type 0} → (Words → Result G ℕ) → ℕ → Type 0
IsLeftToRight read from = (words : Words) (place : ℕ) → read words ≡ Err place → StopsAt read from words place

abbrev pub CanRead : {G : Type 0} → (Words → Result G ℕ) → Type 0
CanRead read = (more : Words) × IsOk (read more)

pub same_place : {G : Type 0} (a b : ℕ) → ◌≡◌ {A = Result G ℕ} (Err a) (Err b) → a ≡ b
same_place {G} a b e = ap place_of e where
  place_of : Result G ℕ → ℕ
  place_of (Ok g) = a
  place_of (Err p) = p

pub ok_no_err : {G : Type 0} (g : G) (place : ℕ) → ◌≡◌ {A = Result G ℕ} (Ok g) (Err place) → ⊥
ok_no_err {G} g place e = true≢false (ap is_good e) where
  is_good : Result G ℕ → Bool
  is_good (Ok x) = true
  is_good (Err p) = false

pub nothing_there : {X : Type 0} (x : X) (xs : List X) → [] ≡ x ∷ xs → ⊥
nothing_there x xs e = let n = ap length e in absurd (omega (arith, n))

pub head_is : {X : Type 0} (x y : X) (xs ys : List X) → x ∷ xs ≡ y ∷ ys → x ≡ y
head_is {X} x y xs ys e = ap first e where
  first : List X → X
  first [] = x
  first (z ∷ zs) = z

-- a reader that stops at once
pub stops_here : {G : Type 0} (read : Words → Result G ℕ) (from place : ℕ) (words : Words) → place ≡ from → CanRead read
    → ((word : List ℕ) (tail : Words) → words ≡ word ∷ tail → (more : Words) → read (word ∷ more) ≡ Err place) → StopsAt read from words place
stops_here read from place words at can bad = record {
  before = [];
  rest = words;
  parts = refl;
  place_is = omega (arith, at);
  goes_on = can;
  bad = bad;
}

-- a reader that read a word, and then stopped later
pub stops_later : {G : Type 0} (read rest : Words → Result G ℕ) (from place : ℕ) (word : List ℕ) (words : Words)
    → ((more : Words) → read (word ∷ more) ≡ rest more) → StopsAt rest (from + 1) words place → StopsAt read from (word ∷ words) place
stops_later read rest from place word words same later = record {
  before = word ∷ later.before;
  rest = later.rest;
  parts = ap (λ xs. word ∷ xs) later.parts;
  place_is = let p = later.place_is in omega (arith, p);
  goes_on = (later.goes_on.0, subst IsOk (sym (same (later.before ++ later.goes_on.0))) later.goes_on.1);
  bad = λ w tail is more. same (later.before ++ w ∷ more) ∙ later.bad w tail is more;
}

pub no_more_stops : (from : ℕ) (job : Job) → IsLeftToRight (λ words. no_more from words job) from
no_more_stops from job [] place e = absurd (ok_no_err job place e)
no_more_stops from job (word ∷ words) place e =
    stops_here (λ words. no_more from words job) from place (word ∷ words) (sym (same_place from place e)) ([], refl) (λ w tail is more. e)

by_test : {X : Type 0} (b c : Bool) (x y : X) → b ≡ c → (if b then x else y) ≡ (if c then x else y)
by_test b c x y e = ap (λ t. if t then x else y) e

-- a name that differs from these
abbrev pub total : Words → ℕ
total [] = 0
total (n ∷ names) = length n + total names

abbrev pub joined : Words → List ℕ
joined [] = []
joined (n ∷ names) = n ++ joined names

none_longer : (word : List ℕ) (names : Words) → total names < length word → list_any (bytes_eq word) names ≡ false
none_longer word [] l = refl
none_longer word (n ∷ names) l = by (bytes_eq word n) refl (none_longer word names (omega (arith, l))) where
  by : (b : Bool) → bytes_eq word n ≡ b → list_any (bytes_eq word) names ≡ false → (bytes_eq word n || list_any (bytes_eq word) names) ≡ false
  by true t none = let k = ap length ((bytes_eq-Decides word n).0 t) in absurd (omega (arith, k, l))
  by false f none = ap (λ b. b || list_any (bytes_eq word) names) f ∙ none

total_joined : (names : Words) → length (joined names) ≡ total names
total_joined [] = refl
total_joined (n ∷ names) = length-append n (joined names) ∙ ap (λ k. length n + k) (total_joined names)

-- `a` and then all of these is a name that differs from each
abbrev pub fresh : Words → List ℕ
fresh names = 97 ∷ joined names

pub fresh_is : (names : Words) → is_name names (fresh names) ≡ true
fresh_is names = let k = total_joined names in ap not (none_longer (fresh names) names (omega (arith, k)))

module _ (names : Words) (from : ℕ) (rest : List ℕ → Words → Result Job ℕ) (can : (word : List ℕ) → is_name names word ≡ true → CanRead (rest word))
    (later : (word : List ℕ) → is_name names word ≡ true → IsLeftToRight (rest word) (from + 1)) where
  pub name_can : CanRead (λ words. name names from words rest)
  name_can =
      let word = fresh names in
      let more = can word (fresh_is names) in
      (word ∷ more.0, subst IsOk (sym (by_test (is_name names word) true (rest word more.0) (Err from) (fresh_is names))) more.1)

  pub name_stops : IsLeftToRight (λ words. name names from words rest) from
  name_stops [] place e =
      stops_here (λ words. name names from words rest) from place [] (sym (same_place from place e)) name_can
      (λ w tail is more. absurd (nothing_there w tail is))
  name_stops (word ∷ words) place e = by (is_name names word) refl where
    by : (b : Bool) → is_name names word ≡ b → StopsAt (λ words. name names from words rest) from (word ∷ words) place
    by true t = stops_later (λ words. name names from words rest) (rest word) from place word words
        (λ more. by_test (is_name names word) true (rest word more) (Err from) t)
        (later word t words place (sym (by_test (is_name names word) true (rest word words) (Err from) t) ∙ e))
    by false f =
        stops_here (λ words. name names from words rest) from place (word ∷ words)
        (sym (same_place from place (sym (by_test (is_name names word) false (rest word words) (Err from) f) ∙ e))) name_can
        (λ w tail is more. subst (λ x. name names from (x ∷ more) rest ≡ Err place) (head_is word w words tail is)
        (by_test (is_name names word) false (rest word more) (Err from) f ∙ (sym (by_test (is_name names word) false (rest word words) (Err from) f) ∙ e)))

module _ (least greatest from : ℕ) (rest : ℕ → Words → Result Job ℕ) (text : List ℕ) (value : ℕ) (is_text : number_in least greatest text ≡ Some value)
    (can : CanRead (rest value))
    (later : (word : List ℕ) (n : ℕ) → number_in least greatest word ≡ Some n → IsLeftToRight (rest n) (from + 1)) where
  abbrev read : Words → Result Job ℕ
  read words = number least greatest from words rest

  reads : (word : List ℕ) (n : ℕ) (more : Words) → number_in least greatest word ≡ Some n → read (word ∷ more) ≡ rest n more
  reads word n more is = ap (λ (o : Option ℕ). elim o [ Some n ↦ rest n more | None ↦ Err from ]) is

  refuses : (word : List ℕ) (more : Words) → number_in least greatest word ≡ None → read (word ∷ more) ≡ Err from
  refuses word more is = ap (λ (o : Option ℕ). elim o [ Some n ↦ rest n more | None ↦ Err from ]) is

  pub number_can : CanRead (λ words. number least greatest from words rest)
  number_can = (text ∷ can.0, subst IsOk (sym (reads text value can.0 is_text)) can.1)

  pub number_stops : IsLeftToRight (λ words. number least greatest from words rest) from
  number_stops [] place e = stops_here read from place [] (sym (same_place from place e)) number_can (λ w tail is more. absurd (nothing_there w tail is))
  number_stops (word ∷ words) place e = by (number_in least greatest word) refl where
    by : (o : Option ℕ) → number_in least greatest word ≡ o → StopsAt read from (word ∷ words) place
    by (Some n) t = stops_later read (rest n) from place word words (λ more. reads word n more t) (later word n t words place (sym (reads word n words t) ∙ e))
    by None f = stops_here read from place (word ∷ words) (sym (same_place from place (sym (refuses word words f) ∙ e))) number_can
        (λ w tail is more. subst (λ x. read (x ∷ more) ≡ Err place) (head_is word w words tail is) (refuses word more f ∙ (sym (refuses word words f) ∙ e)))
