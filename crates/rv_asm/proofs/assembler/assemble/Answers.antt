use Rattle.std.proofs.Common.{subst, []}
use Rattle.std.specs.Prelude.{MatchResult}
use Rattle.rv_asm.specs.Grammar.{Spells, FailsWith}
use Rattle.rv_asm.proofs.Lines.{only_these, first_bad}
use Rattle.rv_asm.proofs.assembler.assemble.Goals as goal

pub returns-clause-only : goal.returns-clause-only
returns-clause-only c =
    λ ws s. only_these (λ v. v.items) c.assembled.result c.args.text.now ws
    (subst (λ b. MatchResult c.assembled.result (λ v. Spells v.items [] b) (λ e. FailsWith e b)) c.as_bytes.ensures.value c.assembled.ensures) s

pub returns-clause-first : goal.returns-clause-first
returns-clause-first c =
    λ n f. first_bad (λ v. v.items) c.assembled.result c.args.text.now n
    (subst (λ b. MatchResult c.assembled.result (λ v. Spells v.items [] b) (λ e. FailsWith e b)) c.as_bytes.ensures.value c.assembled.ensures) f
