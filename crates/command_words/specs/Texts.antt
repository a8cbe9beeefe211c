-- What one word of the command line may be.
use Rattle.std.specs.Prelude.{ℕ, ◌+◌, ◌-◌, ◌*◌, ◌==◌, ◌&&◌, not, nat_le, Bool, false, List, [], ◌∷◌, map, length, string_bytes, String, Option, Some, None}
use Rattle.std.specs.Prelude.{slice_get, unwrap_or, if◌then◌else◌}
use Rattle.std.specs.List.{list_any}
use Rattle.std.specs.Global.{Global}
use Rattle.std.specs.Str.{bytes_eq}

-- the word at a place
abbrev pub word_at : List (List ℕ) → ℕ → List ℕ
word_at words place = unwrap_or (slice_get words place) []

-- the words as lists of bytes
abbrev pub texts : List (String Global) → List (List ℕ)
texts = map string_bytes

-- a name of a file isn't empty, doesn't begin with `-` and differs from the names read before it
abbrev pub is_name : List (List ℕ) → List ℕ → Bool
is_name names [] = false
is_name names (c ∷ cs) = not (c == 45) && not (list_any (bytes_eq (c ∷ cs)) names)

abbrev pub is_between : ℕ → ℕ → ℕ → Bool
is_between least n greatest = nat_le least n && nat_le n greatest

-- the number that digits write behind the digits of `n`; none where one of them isn't a decimal digit
abbrev pub number_behind_digits : ℕ → List ℕ → Option ℕ
number_behind_digits n [] = Some n
number_behind_digits n (c ∷ cs) = if is_between 48 c 57 then number_behind_digits (n * 10 + (c - 48)) cs else None

-- a number is `0`, or a digit from 1 to 9 and at most 12 further digits
abbrev pub number_of : List ℕ → Option ℕ
number_of [] = None
number_of (c ∷ cs) =
    if c == 48 && length cs == 0 then Some 0
    else if is_between 49 c 57 && nat_le (length cs) 12 then number_behind_digits (c - 48) cs
    else None

abbrev pub in_range : ℕ → ℕ → Option ℕ → Option ℕ
in_range least greatest (Some n) = if is_between least n greatest then Some n else None
in_range least greatest None = None

-- the number that a word writes, where it is in its range
abbrev pub number_in : ℕ → ℕ → List ℕ → Option ℕ
number_in least greatest word = in_range least greatest (number_of word)
