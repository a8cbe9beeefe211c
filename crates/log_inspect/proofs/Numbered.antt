-- One further element of a list whose elements are numbered from 0, where a test makes something of some.
use Rattle.std.proofs.Common.{◌≡◌, ℕ, ◌+◌, ◌<◌, length, get_or, List, [], ◌∷◌, ◌++◌, take, append_assoc, ap, sym, ◌∙◌}
use Rattle.std.specs.Prelude.{Option}
use Rattle.std.specs.List.{filter_map, cons_option, enumerate_from}
use Rattle.std.proofs.lemmas.List.Elements.{filter_map-append}
use Rattle.shared_types.proofs.Ranges.{numbered_next}

pub one_made_more : {X Y : Type 0} (h : ℕ × X → Option Y) (xs : List X) (n : ℕ) (x : X) (old now next : List Y) → n < length xs → x ≡ get_or xs n x
    → now ≡ old ++ filter_map h (enumerate_from 0 (take n xs)) → next ≡ now ++ cons_option (h (n, x)) []
    → next ≡ old ++ filter_map h (enumerate_from 0 (take (n + 1) xs))
one_made_more h xs n x old now next less is so more =
    let done = enumerate_from 0 (take n xs) in
    more ∙ ap (λ z. z ++ cons_option (h (n, x)) []) so
    ∙ append_assoc old (filter_map h done) (cons_option (h (n, x)) [])
    ∙ ap (λ z. old ++ z) (sym (filter_map-append h done ((n, x) ∷ [])))
    ∙ ap (λ ys. old ++ filter_map h ys) (sym (numbered_next xs n x less is))
