-- Formats: what is read from the front of the bytes, and how a value is spelled.
use Rattle.std.specs.Prelude.{◌≡◌, ℕ, zero, suc, ◌<◌, ◌==◌, List, [], ◌∷◌, ◌++◌, length, take, drop, Bool, true, Result, Ok, Err, nat_lt, if◌then◌else◌}
use Rattle.std.specs.List.{flat_map, AllByRecursion}
use Rattle.std.specs.Int.{Width, byte_len, from_le_bytes, to_le_bytes}

-- how many bytes are left where a bad field begins, and the rule that it breaks
abbrev pub Bad : Type 0
Bad = ℕ × ℕ

infixl 10 ◌>>=◌
abbrev pub ◌>>=◌ : {A B : Type 0} → Result A Bad → (A → Result B Bad) → Result B Bad
(Ok x) >>= f = f x
(Err e) >>= f = Err e

pub record Format (A : Type 0) : Type 1 where
  pub read : List ℕ → Result (A × List ℕ) Bad
  pub spell : A → List ℕ
  pub Fits : A → Type 0

-- a number that is there whole (else rule 1)
abbrev pub whole_at : Width → List ℕ → Result (ℕ × List ℕ) Bad
whole_at w bytes =
    if nat_lt (length bytes) (byte_len w) then Err (length bytes, 1)
    else Ok (from_le_bytes w (take (byte_len w) bytes), drop (byte_len w) bytes)

-- and passes the test (else its rule)
abbrev pub number_at : Width → ℕ → (ℕ → Bool) → List ℕ → Result (ℕ × List ℕ) Bad
number_at w rule ok bytes = whole_at w bytes >>= λ x. if ok x.0 then Ok x else Err (length bytes, rule)

abbrev pub number : Width → ℕ → ℕ → (ℕ → Bool) → Format ℕ
number w limit rule ok = record { read = number_at w rule ok; spell = to_le_bytes w; Fits = λ n. (n < limit) × (ok n ≡ true) }

-- so many bytes as they are (else rule 1)
abbrev pub block_at : ℕ → List ℕ → Result (List ℕ × List ℕ) Bad
block_at size bytes = if nat_lt (length bytes) size then Err (length bytes, 1) else Ok (take size bytes, drop size bytes)

abbrev pub block : ℕ → Format (List ℕ)
block size = record { read = block_at size; spell = λ bytes. bytes; Fits = λ bytes. length bytes ≡ size }

-- one after the other; the first says what the second is
abbrev pub bind : {A B : Type 0} → Format A → (A → Format B) → Format (A × B)
bind f g = record {
  read = λ bytes. f.read bytes >>= λ a. (g a.0).read a.1 >>= λ b. Ok ((a.0, b.0), b.1);
  spell = λ x. f.spell x.0 ++ (g x.0).spell x.1;
  Fits = λ x. f.Fits x.0 × (g x.0).Fits x.1;
}

-- the same bytes, for other values
abbrev pub as_value : {A B : Type 0} → (A → B) → (B → A) → Format A → Format B
as_value to from f = record {
  read = λ bytes. f.read bytes >>= λ a. Ok (to a.0, a.1);
  spell = λ b. f.spell (from b);
  Fits = λ b. f.Fits (from b) × (to (from b) ≡ b);
}

-- a tag says what follows
abbrev pub tagged : {T B : Type 0} → Format T → (T → Format B) → (B → T) → Format B
tagged f g tag_of = record {
  read = λ bytes. f.read bytes >>= λ t. (g t.0).read t.1;
  spell = λ b. f.spell (tag_of b) ++ (g (tag_of b)).spell b;
  Fits = λ b. f.Fits (tag_of b) × (g (tag_of b)).Fits b;
}

abbrev pub repeat_at : {A : Type 0} → (List ℕ → Result (A × List ℕ) Bad) → ℕ → List ℕ → Result (List A × List ℕ) Bad
repeat_at read zero bytes = Ok ([], bytes)
repeat_at read (suc n) bytes = read bytes >>= λ first. repeat_at read n first.1 >>= λ others. Ok (first.0 ∷ others.0, others.1)

-- so many, one after the other
abbrev pub repeat : {A : Type 0} → ℕ → Format A → Format (List A)
repeat n f = record { read = repeat_at f.read n; spell = flat_map f.spell; Fits = λ xs. (length xs ≡ n) × AllByRecursion f.Fits xs }

-- a count, and so many
abbrev pub counted : {A : Type 0} → Format ℕ → Format A → Format (List A)
counted count f = as_value (λ x. x.1) (λ xs. (length xs, xs)) (bind count (λ n. repeat n f))

-- all of the bytes, with nothing behind (else the rule)
abbrev pub whole : {A : Type 0} → ℕ → Format A → List ℕ → Result A Bad
whole rule f bytes = f.read bytes >>= λ x. if length x.1 == 0 then Ok x.0 else Err (length x.1, rule)
