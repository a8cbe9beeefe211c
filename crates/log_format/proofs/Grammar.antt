-- The format of a log is exact.
use Rattle.std.proofs.Common.{◌≡◌, ℕ, zero, suc, ◌^◌, Bool, true, refl, sym, ap, ◌∙◌, arith}
use Rattle.std.specs.Int.{w8, w16, w32, w64}
use Rattle.rv_words.specs.Limits.{most_pages}
use Rattle.log_entry.specs.declared.log.Entry.{Entry}
use Rattle.log_format.specs.Grammar.{any, exactly, below, at_most, between, mode_of, mode_number, left_of, left_number, cause_of, cause_number, input_of}
use Rattle.log_format.specs.Grammar.{kind_number, value_number, greatest_value, u8, u16, u32, u64, mode_format, left_format, cause_format, input_format}
use Rattle.log_format.specs.Grammar.{wait_format, waits_format, gain_format, yield_format, poll_format, touch_format, end_format, tag_of, fields_of_tag}
use Rattle.log_format.specs.Grammar.{entry_format, stream_format, magic, head_format, log_format}
use Rattle.log_format.proofs.Exact.{IsExact, wide8, wide16, wide32, wide64, number-exact, block-exact, bind-exact, as_value-exact, tagged-exact}
use Rattle.log_format.proofs.Exact.{repeat-exact, counted-exact}

u8-exact : (rule : ℕ) (ok : ℕ → Bool) → IsExact (u8 rule ok)
u8-exact rule ok = number-exact w8 (2 ^ 8) rule ok wide8

u16-exact : (rule : ℕ) (ok : ℕ → Bool) → IsExact (u16 rule ok)
u16-exact rule ok = number-exact w16 (2 ^ 16) rule ok wide16

u32-exact : (rule : ℕ) (ok : ℕ → Bool) → IsExact (u32 rule ok)
u32-exact rule ok = number-exact w32 (2 ^ 32) rule ok wide32

u64-exact : (rule : ℕ) (ok : ℕ → Bool) → IsExact (u64 rule ok)
u64-exact rule ok = number-exact w64 (2 ^ 64) rule ok wide64

-- ---- values of one byte

mode_back : (n : ℕ) → between 1 2 n ≡ true → mode_number (mode_of n) ≡ n
mode_back zero h = absurd cc
mode_back (suc zero) h = refl
mode_back (suc (suc zero)) h = refl
mode_back (suc (suc (suc n))) h = absurd (grind arith)

left_back : (n : ℕ) → at_most 1 n ≡ true → left_number (left_of n) ≡ n
left_back zero h = refl
left_back (suc zero) h = refl
left_back (suc (suc n)) h = absurd (grind arith)

cause_back : (n : ℕ) → between 1 5 n ≡ true → cause_number (cause_of n) ≡ n
cause_back zero h = absurd cc
cause_back (suc zero) h = refl
cause_back (suc (suc zero)) h = refl
cause_back (suc (suc (suc zero))) h = refl
cause_back (suc (suc (suc (suc zero)))) h = refl
cause_back (suc (suc (suc (suc (suc zero))))) h = refl
cause_back (suc (suc (suc (suc (suc (suc n)))))) h = absurd (grind arith)

mode-exact : IsExact mode_format
mode-exact = as_value-exact mode_of mode_number _ (u8-exact 9 (between 1 2)) (λ n fits. mode_back n fits.1)

left-exact : IsExact left_format
left-exact = as_value-exact left_of left_number _ (u8-exact 9 (at_most 1)) (λ n fits. left_back n fits.1)

cause-exact : IsExact cause_format
cause-exact = as_value-exact cause_of cause_number _ (u8-exact 13 (between 1 5)) (λ n fits. cause_back n fits.1)

nothing_more : (value : ℕ) → at_most 0 value ≡ true → 0 ≡ value
nothing_more value h = grind arith

kind_back : (kind value : ℕ) → at_most 3 kind ≡ true → kind_number (input_of kind value) ≡ kind
kind_back zero value h = refl
kind_back (suc zero) value h = refl
kind_back (suc (suc zero)) value h = refl
kind_back (suc (suc (suc zero))) value h = refl
kind_back (suc (suc (suc (suc kind)))) value h = absurd (grind arith)

value_back : (kind value : ℕ) → at_most (greatest_value kind) value ≡ true → value_number (input_of kind value) ≡ value
value_back zero value h = nothing_more value h
value_back (suc zero) value h = nothing_more value h
value_back (suc (suc zero)) value h = refl
value_back (suc (suc (suc kind))) value h = refl

input-exact : IsExact input_format
unfolding input_format
input-exact = as_value-exact _ _ _
    (bind-exact _ _ (u8-exact 12 (at_most 3)) (λ kind. u64-exact 12 (at_most (greatest_value kind))))
    (λ a fits. λ i. (kind_back a.0 a.1 fits.0.1 i, value_back a.0 a.1 fits.1.1 i))

-- ---- entries

wait-exact : (harts : ℕ) → IsExact (wait_format harts)
unfolding wait_format
wait-exact harts = as_value-exact _ _ _ (bind-exact _ _ (u8-exact 10 (below harts)) (λ _. u64-exact 1 any)) (λ a fits. refl)

waits-exact : (harts : ℕ) → IsExact (waits_format harts)
unfolding waits_format
waits-exact harts = as_value-exact _ _ _ (counted-exact _ _ (u8-exact 10 (at_most 7)) (wait-exact harts)) (λ a fits. refl)

gain-exact : (harts units : ℕ) → IsExact (gain_format harts units)
unfolding gain_format
gain-exact harts units = as_value-exact _ _ _
    (bind-exact _ _ (u64-exact 1 any) (λ _. bind-exact _ _ (u16-exact 8 (below units)) (λ _. bind-exact _ _ (u32-exact 1 any) (λ _. bind-exact _ _
    mode-exact (λ _. waits-exact harts)))))
    (λ a fits. refl)

yield-exact : (units : ℕ) → IsExact (yield_format units)
unfolding yield_format
yield-exact units = as_value-exact _ _ _
    (bind-exact _ _ (u64-exact 1 any) (λ _. bind-exact _ _ (u16-exact 8 (below units)) (λ _. bind-exact _ _ (u32-exact 1 any) (λ _. left-exact))))
    (λ a fits. refl)

poll-exact : IsExact poll_format
unfolding poll_format
poll-exact = as_value-exact _ _ _
    (bind-exact _ _ (u64-exact 1 any) (λ _. bind-exact _ _ (u32-exact 1 any) (λ _. bind-exact _ _ (u64-exact 1 any) (λ _. u8-exact 11 (at_most 3)))))
    (λ a fits. refl)

touch-exact : IsExact touch_format
unfolding touch_format
touch-exact = as_value-exact _ _ _
    (bind-exact _ _ (u64-exact 1 any) (λ _. bind-exact _ _ (u32-exact 1 any) (λ _. input-exact)))
    (λ a fits. refl)

end-exact : IsExact end_format
unfolding end_format
end-exact = as_value-exact _ _ _ (u64-exact 1 any) (λ a fits. refl)

fields-exact : (harts units tag : ℕ) → IsExact (fields_of_tag harts units tag)
fields-exact harts units zero = end-exact
fields-exact harts units (suc zero) = gain-exact harts units
fields-exact harts units (suc (suc zero)) = yield-exact units
fields-exact harts units (suc (suc (suc zero))) = poll-exact
fields-exact harts units (suc (suc (suc (suc zero)))) = touch-exact
fields-exact harts units (suc (suc (suc (suc (suc tag))))) = end-exact

five : (t : ℕ) → between 1 5 (suc (suc (suc (suc (suc t))))) ≡ true → 5 ≡ suc (suc (suc (suc (suc t))))
five t h = grind arith

tags : (harts units tag : ℕ) (entry : Entry) → between 1 5 tag ≡ true → (fields_of_tag harts units tag).Fits entry → tag_of entry ≡ tag
unfolding gain_format yield_format poll_format touch_format end_format
tags harts units zero entry ok fits = absurd cc
tags harts units (suc zero) entry ok fits = ap tag_of (sym fits.1)
tags harts units (suc (suc zero)) entry ok fits = ap tag_of (sym fits.1)
tags harts units (suc (suc (suc zero))) entry ok fits = ap tag_of (sym fits.1)
tags harts units (suc (suc (suc (suc zero)))) entry ok fits = ap tag_of (sym fits.1)
tags harts units (suc (suc (suc (suc (suc tag))))) entry ok fits = ap tag_of (sym fits.1) ∙ five tag ok

pub entry-exact : (harts units : ℕ) → IsExact (entry_format harts units)
unfolding entry_format
entry-exact harts units =
    tagged-exact _ _ tag_of (u8-exact 7 (between 1 5)) (λ tag fits. fields-exact harts units tag) (λ tag entry ok fits. tags harts units tag entry ok.1 fits)

-- ---- a log

stream-exact : (harts units : ℕ) → IsExact (stream_format harts units)
stream-exact harts units = counted-exact _ _ (u32-exact 1 any) (entry-exact harts units)

head-exact : IsExact head_format
unfolding head_format
head-exact =
    bind-exact _ _ (u32-exact 2 (exactly magic)) (λ _. bind-exact _ _ (u8-exact 3 (exactly 1)) (λ _. bind-exact _ _ (u8-exact 4 (between 1 8)) (λ _.
    bind-exact _ _ (u16-exact 5 (between 1 most_pages)) (λ _. bind-exact _ _ (u64-exact 6 (at_most 1000000000000)) (λ _. block-exact 32)))))

is_value : (value n : ℕ) → exactly value n ≡ true → value ≡ n
is_value value n h = grind arith

pub log-exact : IsExact log_format
unfolding log_format head_format
log-exact = as_value-exact _ _ _
    (bind-exact _ _ head-exact (λ head. bind-exact _ _ (repeat-exact head.1.1.0 _ (stream-exact head.1.1.0 head.1.1.1.0)) (λ _. cause-exact)))
    (λ a fits. λ i. ((is_value magic a.0.0 fits.0.0.1 i, (is_value 1 a.0.1.0 fits.0.1.0.1 i, (fits.1.0.0 i, a.0.1.1.1))), a.1))
