-- Layers filled one range after another.
use Rattle.std.proofs.Common.{ℕ, ◌≡◌, ◌+◌, ◌≤◌, ◌<◌, true, List, refl, sym, ◌∙◌, ◌⊎◌, inl, inr, arith, subst, true≢false}
use Rattle.std.proofs.lemmas.Bool.{cases_order}
use Rattle.elf_image.specs.Layers.{Fills, IsSameAt, is_written}
use Rattle.elf_image.specs.declared.layer.Layer.{Layer}

-- a place below a bound or not
pub side : (at bound : ℕ) → (at < bound) ⊎ (bound ≤ at)
side at bound = elim (cases_order at bound) [ inl e ↦ inr (omega (arith, e)) | inr o ↦ elim o [ inl l ↦ inl l | inr l ↦ inr (omega (arith, l)) ] ]

pub is_same : (s : Layer) (at : ℕ) → IsSameAt s s at
is_same s at = record { written = refl; byte = refl }

same_then : (s t u : Layer) (at : ℕ) → IsSameAt s t at → IsSameAt t u at → IsSameAt s u at
same_then s t u at a b = record { written = b.written ∙ a.written; byte = b.byte ∙ a.byte }

pub fills_none : (content : ℕ → ℕ) (from : ℕ) (s : Layer) → Fills content from from s s
fills_none content from s = record {
  bytes = refl;
  words = refl;
  kept = λ at w. is_same s at;
  below = λ at l. is_same s at;
  above = λ at l. is_same s at;
  written = λ at l m. absurd (omega (arith, l, m));
  filled = λ at l m u. absurd (omega (arith, l, m));
}

module _ (content : ℕ → ℕ) (from mid to : ℕ) where
  pub fills_then : (s t u : Layer) → from ≤ mid → mid ≤ to → Fills content from mid s t → Fills content mid to t u → Fills content from to s u
  fills_then s t u a b f g = record {
    bytes = g.bytes ∙ f.bytes;
    words = g.words ∙ f.words;
    kept = λ at w. same_then s t u at (f.kept at w) (g.kept at ((f.kept at w).written ∙ w));
    below = λ at l. same_then s t u at (f.below at l) (g.below at (omega (arith, l, a)));
    above = λ at l. same_then s t u at (f.above at (omega (arith, l, b))) (g.above at l);
    written = λ at l m. elim (side at mid) [
      | inl first ↦ let w = f.written at l first in (g.kept at w).written ∙ w
      | inr then ↦ g.written at then m
    ];
    filled = λ at l m none. elim (side at mid) [
      | inl first ↦ (g.kept at (f.written at l first)).byte ∙ f.filled at l first none
      | inr then ↦ g.filled at then m ((f.above at then).written ∙ none)
    ];
  }

  -- what is written already needn't be
  pub fills_written : (s t : Layer) → mid ≤ to → Fills content from mid s t → ((at : ℕ) → mid ≤ at → at < to → is_written t at ≡ true)
      → Fills content from to s t
  fills_written s t b f all = record {
    bytes = f.bytes;
    words = f.words;
    kept = f.kept;
    below = f.below;
    above = λ at l. f.above at (omega (arith, l, b));
    written = λ at l m. elim (side at mid) [ inl first ↦ f.written at l first | inr then ↦ all at then m ];
    filled = λ at l m none. elim (side at mid) [
      | inl first ↦ f.filled at l first none
      | inr then ↦ absurd (true≢false (sym (all at then m) ∙ ((f.above at then).written ∙ none)))
    ];
  }

-- one place more
pub fills_one : (content : ℕ → ℕ) (from at byte : ℕ) (s t u : Layer) → from ≤ at → byte ≡ content at → Fills content from at s t
    → Fills (λ _. byte) at (at + 1) t u → Fills content from (at + 1) s u
fills_one content from at byte s t u l e f g =
    fills_then content from at (at + 1) s t u l (omega arith) f
    (record {
      bytes = g.bytes;
      words = g.words;
      kept = g.kept;
      below = g.below;
      above = g.above;
      written = g.written;
      filled = λ k a b none. g.filled k a b none ∙ (let here : at ≡ k = omega (arith, a, b) in subst (λ n. byte ≡ content n) here e);
    })

-- the places up to `first` are written already, and the marks are the same list
pub fills_next : (content : ℕ → ℕ) (from first last : ℕ) (s u : Layer) (marks : List ℕ) → from ≤ first → first ≤ last → marks ≡ s.marks
    → ((at : ℕ) → from ≤ at → at < first → is_written s at ≡ true)
    → Fills content first last (record { bytes = s.bytes; marks = marks }) u → Fills content from last s u
fills_next content from first last s u marks a b e all f =
    fills_then content from first last s s u a b (fills_written content from from first s s a (fills_none content from s) all)
    (subst (λ m. Fills content first last (record { bytes = s.bytes; marks = m }) u) e f)
