-- Parts packed into pieces: joined they are the parts, each piece is what each part is, and how a piece grows and ends.
use Rattle.std.proofs.Common.{◌≡◌, ℕ, ◌+◌, ◌<◌, ◌≤◌, Bool, true, false, cond, leb, List, [], ◌∷◌, ◌++◌, length, refl, sym, ap, ◌∙◌, append_assoc, arith}
use Rattle.std.proofs.Common.{length-append}
use Rattle.std.specs.List.{All, concat}
use Rattle.std.proofs.lemmas.Bool.{le-leb, leb-true}
use Rattle.std.proofs.lemmas.List.Elements.{All-cons, All-nil, All-head, All-tail}
use Rattle.log_format.specs.Pieces.{piece_bytes, packed_behind, packed, IsFull, Adds}

-- ---- joined

joined_either : (b : Bool) (piece part rest : List ℕ) (here behind : List (List ℕ)) → concat here ≡ (piece ++ part) ++ rest → concat behind ≡ part ++ rest
    → concat (cond b here (piece ∷ behind)) ≡ piece ++ (part ++ rest)
joined_either true piece part rest here behind p q = p ∙ append_assoc piece part rest
joined_either false piece part rest here behind p q = ap (λ (bytes : List ℕ). piece ++ bytes) q

joined_behind : (most : ℕ) (piece : List ℕ) (parts : List (List ℕ)) → concat (packed_behind most piece parts) ≡ piece ++ concat parts
joined_behind most piece [] = refl
joined_behind most piece (part ∷ parts) =
    joined_either (leb (length piece + length part) most) piece part (concat parts) (packed_behind most (piece ++ part) parts) (packed_behind most part parts)
    (joined_behind most (piece ++ part) parts) (joined_behind most part parts)

pub joined_packed : (most : ℕ) (parts : List (List ℕ)) → concat (packed most parts) ≡ concat parts
joined_packed most [] = refl
joined_packed most (part ∷ parts) = joined_behind most part parts

-- ---- what each piece is

abbrev pub HasBytes : List ℕ → Type 0
HasBytes bytes = 0 < length bytes

abbrev pub FitsIn : ℕ → List ℕ → Type 0
FitsIn most bytes = length bytes ≤ most

all_either : (P : List ℕ → Type 0) (b : Bool) (piece : List ℕ) (here behind : List (List ℕ)) → (b ≡ true → All P here) → P piece → All P behind
    → All P (cond b here (piece ∷ behind))
all_either P true piece here behind p q r = p refl
all_either P false piece here behind p q r = All-cons P piece behind q r

some_behind : (most : ℕ) (piece : List ℕ) (parts : List (List ℕ)) → HasBytes piece → All HasBytes parts → All HasBytes (packed_behind most piece parts)
some_behind most piece [] some all = All-cons HasBytes piece [] some (All-nil HasBytes)
some_behind most piece (part ∷ parts) some all =
    all_either HasBytes (leb (length piece + length part) most) piece (packed_behind most (piece ++ part) parts) (packed_behind most part parts)
    (λ _. some_behind most (piece ++ part) parts (let e = length-append piece part in omega (arith, some, e)) (All-tail HasBytes part parts all))
    some
    (some_behind most part parts (All-head HasBytes part parts all) (All-tail HasBytes part parts all))

-- each piece has a byte, where each part has
pub some_packed : (most : ℕ) (parts : List (List ℕ)) → All HasBytes parts → All HasBytes (packed most parts)
some_packed most [] all = All-nil HasBytes
some_packed most (part ∷ parts) all = some_behind most part parts (All-head HasBytes part parts all) (All-tail HasBytes part parts all)

short_behind : (most : ℕ) (piece : List ℕ) (parts : List (List ℕ)) → FitsIn most piece → All (FitsIn most) parts
    → All (FitsIn most) (packed_behind most piece parts)
short_behind most piece [] short all = All-cons (FitsIn most) piece [] short (All-nil (FitsIn most))
short_behind most piece (part ∷ parts) short all =
    all_either (FitsIn most) (leb (length piece + length part) most) piece (packed_behind most (piece ++ part) parts) (packed_behind most part parts)
    (λ fits. short_behind most (piece ++ part) parts
    (let e = length-append piece part in let h = leb-true (length piece + length part) most fits in omega (arith, e, h))
    (All-tail (FitsIn most) part parts all))
    short
    (short_behind most part parts (All-head (FitsIn most) part parts all) (All-tail (FitsIn most) part parts all))

-- no piece has more bytes than it may, where no part has
pub short_packed : (most : ℕ) (parts : List (List ℕ)) → All (FitsIn most) parts → All (FitsIn most) (packed most parts)
short_packed most [] all = All-nil (FitsIn most)
short_packed most (part ∷ parts) all = short_behind most part parts (All-head (FitsIn most) part parts all) (All-tail (FitsIn most) part parts all)

-- ---- a piece grows by a part that fits, and ends at one that doesn't

grows : (most : ℕ) (piece part : List ℕ) (parts : List (List ℕ)) → length piece + length part ≤ most
    → packed_behind most piece (part ∷ parts) ≡ packed_behind most (piece ++ part) parts
grows most piece part parts le = rw (le-leb (length piece + length part) most le) refl

above : (a b : ℕ) → b < a → leb a b ≡ false
above a b lt = by (leb a b) refl
  where
    by : (x : Bool) → leb a b ≡ x → x ≡ false
    by true e = absurd (let h = leb-true a b e in omega (arith, lt, h))
    by false e = refl

pub ends : (piece : List ℕ) (parts : List (List ℕ)) → IsFull piece parts → packed_behind piece_bytes piece parts ≡ piece ∷ packed piece_bytes parts
ends piece [] full = refl
ends piece (part ∷ parts) full = rw (above (length piece + length part) piece_bytes full) refl

-- the pieces of what is left stay the same, with the one that is begun
pub grows_by_added : (bytes new : List ℕ) (parts left : List (List ℕ)) → Adds bytes parts true new left
    → packed_behind piece_bytes bytes parts ≡ packed_behind piece_bytes new left
grows_by_added bytes new parts left a =
    ap (λ (ps : List (List ℕ)). packed_behind piece_bytes bytes ps) a.1
    ∙ grows piece_bytes bytes a.0 left a.3
    ∙ ap (λ (b : List ℕ). packed_behind piece_bytes b left) (sym a.2)

pub begins_by_added : (new : List ℕ) (parts left : List (List ℕ)) → Adds [] parts true new left → packed piece_bytes parts ≡ packed_behind piece_bytes new left
begins_by_added new parts left a =
    ap (λ (ps : List (List ℕ)). packed piece_bytes ps) a.1 ∙ ap (λ (b : List ℕ). packed_behind piece_bytes b left) (sym a.2)

pub ends_by_full : (bytes new : List ℕ) (parts left : List (List ℕ)) → Adds bytes parts false new left
    → packed_behind piece_bytes bytes parts ≡ new ∷ packed piece_bytes left
ends_by_full bytes new parts left a =
    ends bytes parts a.2 ∙ ap (λ (b : List ℕ). b ∷ packed piece_bytes parts) (sym a.0) ∙ ap (λ (ps : List (List ℕ)). new ∷ packed piece_bytes ps) (sym a.1)

-- fewer parts are left
pub fewer_by_added : (bytes new : List ℕ) (parts left : List (List ℕ)) → Adds bytes parts true new left → length left < length parts
fewer_by_added bytes new parts left a = let e = ap length a.1 in omega (arith, e)

-- where each part would fit alone and none does, none is left
pub none_by_full : (parts : List (List ℕ)) → All (FitsIn piece_bytes) parts → IsFull [] parts → parts ≡ []
none_by_full [] all full = refl
none_by_full (part ∷ parts) all full = absurd (let h = All-head (FitsIn piece_bytes) part parts all in omega (arith, h, full))
