-- A memory is its pages.
use Rattle.std.proofs.Common.{◌≡◌, ℕ, zero, suc, ◌+◌, ◌*◌, ◌<◌, List, [], ◌∷◌, ◌++◌, take, drop, length, sym, ap, ap₂, ◌∙◌, arith}
use Rattle.std.proofs.Math.Seq.{take_all, take-add}
use Rattle.guest_pages.specs.Pages.{page_of}
use Rattle.guest_pages.proofs.Agree.{range_is}

first_pages : (unit : ℕ) (xs ys : List ℕ) (n : ℕ) → ((page : ℕ) → page < n → page_of unit xs page ≡ page_of unit ys page)
    → take (n * unit) xs ≡ take (n * unit) ys
first_pages unit xs ys zero same = let z : 0 * unit ≡ 0 = omega arith in ap (λ k. take k xs) z ∙ ap (λ k. take k ys) (sym z)
first_pages unit xs ys (suc n) same =
    let more : suc n * unit ≡ n * unit + unit = omega arith in
    let here : take unit (drop (n * unit) xs) ≡ take unit (drop (n * unit) ys) = sym (range_is xs (n * unit) unit) ∙ same n (omega arith)
    ∙ range_is ys (n * unit) unit in
    ap (λ k. take k xs) more ∙ take-add (n * unit) unit xs
    ∙ ap₂ (λ one two. one ++ two) (first_pages unit xs ys n (λ page l. same page (omega (arith, l)))) here
    ∙ sym (ap (λ k. take k ys) more ∙ take-add (n * unit) unit ys)

pub same_memory : (unit : ℕ) (xs ys : List ℕ) (n : ℕ) → length xs ≡ n * unit → length ys ≡ n * unit
    → ((page : ℕ) → page_of unit xs page ≡ page_of unit ys page) → xs ≡ ys
same_memory unit xs ys n long_xs long_ys same =
    sym (take_all (n * unit) xs (omega (arith, long_xs))) ∙ first_pages unit xs ys n (λ page l. same page) ∙ take_all (n * unit) ys (omega (arith, long_ys))
