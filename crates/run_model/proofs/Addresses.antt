-- Addresses, pages of a unit, and places in them.
use Rattle.std.proofs.Common.{◌≡◌, inl, inr, ℕ, ◌+◌, ◌*◌, ◌/◌, ◌%◌, ◌<◌, ◌≤◌, subst, arith}
use Rattle.rv_words.specs.Limits.{IsUnit, page_bytes}
use Rattle.rv_words.proofs.Units.{at_units}
use Rattle.rv_hart.specs.Needs.{page_at}
use Rattle.rv_hart.specs.Places.{IsSize, WordInMemory, StoresInMemory}
use Rattle.flat_machine.specs.Moves.{place_in_memory}

-- the aligned word round an address lies in its page
pub word_place : (unit at : ℕ) → IsUnit unit → 0x80000000 ≤ at → page_at unit at * unit + place_in_memory (at / 4 * 4) % unit ≡ place_in_memory (at / 4 * 4)
word_place unit at is l =
    at_units (λ u. page_at u at * u + place_in_memory (at / 4 * 4) % u ≡ place_in_memory (at / 4 * 4)) unit is (omega (arith, l)) (omega (arith, l))
    (omega (arith, l))

pub word_fits : (unit at : ℕ) → IsUnit unit → 0x80000000 ≤ at → place_in_memory (at / 4 * 4) % unit + 4 ≤ unit
word_fits unit at is l = at_units (λ u. place_in_memory (at / 4 * 4) % u + 4 ≤ u) unit is (omega (arith, l)) (omega (arith, l)) (omega (arith, l))

pub word_above : (pages at : ℕ) → WordInMemory pages at → 0x80000000 ≤ at
word_above pages at w = let a = w.0 in omega arith

-- a word of a memory with so many pages of the unit lies in one of them
pub page_below : (unit number pages at : ℕ) → IsUnit unit → number * unit ≡ page_bytes * pages → WordInMemory pages at → page_at unit at < number
page_below unit number pages at is whole w =
    let a = w.0 in
    let b = w.1 in
    at_units (λ u. number * u ≡ page_bytes * pages → page_at u at < number) unit is
    (λ e. omega (arith, a, b, e)) (λ e. omega (arith, a, b, e)) (λ e. omega (arith, a, b, e)) whole

-- and so do the bytes of an aligned store
pub store_place : (unit at : ℕ) → IsUnit unit → 0x80000000 ≤ at → page_at unit at * unit + place_in_memory at % unit ≡ place_in_memory at
store_place unit at is l = at_units (λ u. page_at u at * u + place_in_memory at % u ≡ place_in_memory at) unit is (omega (arith, l)) (omega (arith, l))
    (omega (arith, l))

pub store_fits : (unit at size : ℕ) → IsUnit unit → IsSize size → at % size ≡ 0 → 0x80000000 ≤ at → place_in_memory at % unit + size ≤ unit
store_fits unit at size is (inl one) a l =
    at_units (λ u. place_in_memory at % u + size ≤ u) unit is (omega (arith, l, one)) (omega (arith, l, one)) (omega (arith, l, one))
store_fits unit at size is (inr (inl two)) a l =
    let b : at % 2 ≡ 0 = subst (λ z. at % z ≡ 0) two a in
    at_units (λ u. place_in_memory at % u + size ≤ u) unit is (omega (arith, b, two, l)) (omega (arith, b, two, l)) (omega (arith, b, two, l))
store_fits unit at size is (inr (inr four)) a l =
    let b : at % 4 ≡ 0 = subst (λ z. at % z ≡ 0) four a in
    at_units (λ u. place_in_memory at % u + size ≤ u) unit is (omega (arith, b, four, l)) (omega (arith, b, four, l)) (omega (arith, b, four, l))

positive : (size : ℕ) → IsSize size → 1 ≤ size
positive size (inl one) = omega arith
positive size (inr (inl two)) = omega arith
positive size (inr (inr four)) = omega arith

pub store_page : (unit number pages at size : ℕ) → IsUnit unit → number * unit ≡ page_bytes * pages → StoresInMemory pages at size → page_at unit at < number
store_page unit number pages at size is whole s =
    let a = s.inside.0 in
    let b = s.inside.1 in
    let c = positive size s.size_is in
    at_units (λ u. number * u ≡ page_bytes * pages → page_at u at < number) unit is
    (λ e. omega (arith, a, b, c, e)) (λ e. omega (arith, a, b, c, e)) (λ e. omega (arith, a, b, c, e)) whole

-- the page of such a store lies in the memory whole
pub page_inside : (unit number page : ℕ) → IsUnit unit → page < number → page * unit + unit ≤ number * unit
page_inside unit number page is l = at_units (λ u. page * u + u ≤ number * u) unit is (omega (arith, l)) (omega (arith, l)) (omega (arith, l))

-- addresses of one word are of one page
pub one_page : (unit at word : ℕ) → IsUnit unit → 0x80000000 ≤ at → at / 4 ≡ word / 4 → page_at unit at ≡ page_at unit word
one_page unit at word is l e = at_units (λ u. page_at u at ≡ page_at u word) unit is (omega (arith, l, e)) (omega (arith, l, e)) (omega (arith, l, e))

-- bytes of so many whole pages are so many units
pub whole_units : (unit pages : ℕ) → IsUnit unit → page_bytes * pages / unit * unit ≡ page_bytes * pages
whole_units unit pages is = at_units (λ u. page_bytes * pages / u * u ≡ page_bytes * pages) unit is (omega arith) (omega arith) (omega arith)
