use Rattle.std.proofs.Common.{◌≡◌, ◌<◌, ◌++◌, ℕ, List, [], ◌∷◌, arith, length, subst, sym, false}
use Rattle.std.specs.Prelude.{Option, Some, None, MatchOption, ◌==◌}
use Rattle.std.proofs.lemmas.Bool.Decides.{nat_tests}
use Rattle.std.proofs.lemmas.Grind.{common_steps}
use Rattle.rv_asm.specs.Grammar.{Stands, Spells}
use Rattle.rv_asm.proofs.Lines.{stops_none, stops_at, push_line}
use Rattle.rv_asm.proofs.assembler.assembled.Goals as goal

at_none : (o : Option ℕ) (line : List ℕ) → o ≡ None → MatchOption o ((w : ℕ) → Stands line w → ⊥) (λ w. Stands line w) → (w : ℕ) → Stands line w → ⊥
at_none None line e h = h
at_none (Some x) line e h = let bad : ⊥ = cc in absurd bad

at_some : (o : Option ℕ) (line : List ℕ) (v : ℕ) → o ≡ Some v → MatchOption o ((w : ℕ) → Stands line w → ⊥) (λ w. Stands line w) → Stands line v
at_some None line v e h = let bad : ⊥ = cc in absurd bad
at_some (Some x) line v e h = let k : x ≡ v = cc in subst (Stands line) k h

not_empty : (n : ℕ) → false ≡ (n == 0) → 0 < n
not_empty n e = grind (arith, nat_tests)

pub returns-in-None : goal.returns-in-None
returns-in-None c =
    let e : length c.loop-rest.words.items ≡ c.len.result = grind (arith, common_steps) in (
      c.loop-rest.words.items,
      c.loop-rest.rest.now,
      e,
      not_empty (length c.loop-rest.rest.now) c.loop-rest-test.ensures,
      c.loop-rest.invariant,
      stops_none c.loop-rest.rest.now c.in-None.ensures,
    )

pub returns-in-None-2 : goal.returns-in-None-2
returns-in-None-2 c =
    let e : length c.loop-rest.words.items ≡ c.len-in-None-2.result = grind (arith, common_steps) in (
      c.loop-rest.words.items,
      c.loop-rest.rest.now,
      e,
      not_empty (length c.loop-rest.rest.now) c.loop-rest-test.ensures,
      c.loop-rest.invariant,
      stops_at c.loop-rest.rest.now c.in-Some.line.now c.in-Some.more.now c.in-Some.ensures
          (at_none c.in_ok-word_of_line-in-Some.field-0 c.in-Some.line.now c.in-None-2.is c.in_ok-word_of_line-in-Some.ensures),
    )

pub loop-rest-preserved : goal.loop-rest-preserved
loop-rest-preserved c =
    let s : Stands c.in-Some.line.now c.in-Some-2.w =
    at_some c.in_ok-word_of_line-in-Some.field-0 c.in-Some.line.now c.in-Some-2.w c.in-Some-2.is c.in_ok-word_of_line-in-Some.ensures in
    let p : Spells (c.loop-rest.words.items ++ (c.in-Some-2.w ∷ [])) c.in-Some.more.now c.args.text.now =
    push_line c.loop-rest.words.items c.in-Some.line.now c.in-Some.more.now c.args.text.now c.in-Some-2.w
    (subst (λ r. Spells c.loop-rest.words.items r c.args.text.now) c.in-Some.ensures.1 c.loop-rest.invariant) s in
    subst (λ ws. Spells ws c.in-Some.more.now c.args.text.now) (sym c.in_ok-push-in-Some-2.ensures.items) p
