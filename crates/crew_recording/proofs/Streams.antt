-- The streams of a recording, one by one.
use Rattle.std.proofs.Common.{◌≡◌, ◌≢◌, ℕ, zero, suc, ◌+◌, ◌<◌, ◌≤◌, List, [], ◌∷◌, ◌++◌, map, length, Some, None, slice_get, slice_set, unwrap_or, refl, sym}
use Rattle.std.proofs.Common.{ap, ◌∙◌, arith}
use Rattle.std.specs.List.{enumerate_from}
use Rattle.std.proofs.lemmas.Option.{none-some, same_Some}
use Rattle.shared_types.proofs.Lists.{found_at, set_here, set_there}
use Rattle.log_entry.specs.declared.log.Entry.{Entry}
use Rattle.log_entry.specs.declared.log.Entry.TheVariants.{End}
use Rattle.crew_recording.specs.Recording.{stream_in}

pub stream_here : (streams : List (List Entry)) (h : ℕ) (s : List Entry) → h < length streams → stream_in (slice_set streams h s) h ≡ s
stream_here streams h s l = ap (λ o. unwrap_or o []) (set_here streams h s l)

pub stream_there : (streams : List (List Entry)) (h g : ℕ) (s : List Entry) → g ≢ h → stream_in (slice_set streams h s) g ≡ stream_in streams g
stream_there streams h g s n = ap (λ o. unwrap_or o []) (set_there streams h g s n)

numbered : {X Y : Type 0} (f : ℕ × X → Y) (n : ℕ) (xs : List X) (h : ℕ) (x : X) → slice_get xs h ≡ Some x
    → slice_get (map f (enumerate_from n xs)) h ≡ Some (f (n + h, x))
numbered f n [] h x e = absurd (none-some _ e)
numbered f n (y ∷ xs) zero x e = let m : n ≡ n + 0 = omega arith in ap (λ z. Some (f (n, z))) (same_Some _ _ e) ∙ ap (λ k. Some (f (k, x))) m
numbered f n (y ∷ xs) (suc h) x e = let m : n + 1 + h ≡ n + suc h = omega arith in numbered f (n + 1) xs h x e ∙ ap (λ k. Some (f (k, x))) m

-- the stream of a hart in a list with an End behind each
pub ended_at : (count : ℕ → ℕ) (streams : List (List Entry)) (h : ℕ) → h < length streams
    → stream_in (map (λ (s : ℕ × List Entry). s.1 ++ End (count s.0) ∷ []) (enumerate_from 0 streams)) h ≡ stream_in streams h ++ End (count h) ∷ []
ended_at count streams h l =
    let x = found_at streams h l in
    let z : 0 + h ≡ h = omega arith in
    ap (λ o. unwrap_or o []) (numbered (λ (s : ℕ × List Entry). s.1 ++ End (count s.0) ∷ []) 0 streams h x.0 x.1)
    ∙ ap (λ k. x.0 ++ End (count k) ∷ []) z
    ∙ ap (λ s. s ++ End (count h) ∷ []) (sym (ap (λ o. unwrap_or o []) x.1))

pub ended_beyond : (count : ℕ → ℕ) (n : ℕ) (streams : List (List Entry)) (h : ℕ) → length streams ≤ h
    → slice_get (map (λ (s : ℕ × List Entry). s.1 ++ End (count s.0) ∷ []) (enumerate_from n streams)) h ≡ None
ended_beyond count n [] h l = refl
ended_beyond count n (s ∷ streams) zero l = absurd (omega (arith, l))
ended_beyond count n (s ∷ streams) (suc h) l = ended_beyond count (n + 1) streams h (omega (arith, l))
