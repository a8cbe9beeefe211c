use Rattle.std.proofs.Common.{◌≡◌, ◌∷◌, ℕ, List, [], ◌++◌, length, ap, sym, subst, ◌∙◌}
use Rattle.std.specs.Prelude.{MatchOption}
use Rattle.std.specs.List.{concat}
use Rattle.std.proofs.lemmas.List.{append-nil}
use Rattle.log_format.specs.Grammar.{spelling, reading}
use Rattle.log_format.specs.Given.{pieces_left}
use Rattle.log_format.proofs.writing.write_log.Goals as goal

whole : (c : goal.After-drop-pieces-2) → c.loop-piece.out.items ≡ spelling c.args.l.now
whole c =
    let log = c.args.l.now in
    let out = c.loop-piece.out.items in
    let left : List (List ℕ) = pieces_left c.loop-piece.pieces log in
    let none : left ≡ [] =
    subst (λ r. MatchOption r (left ≡ []) (λ piece. left ≡ piece.now ∷ pieces_left c.next_piece.follows.lender-at-none log)) c.in_default.is
    c.next_piece.follows.holds-at-none.piece in
    sym (append-nil out) ∙ ap (λ (ps : List (List ℕ)). out ++ concat ps) (sym none) ∙ c.loop-piece.invariant.bytes

pub returns-clause-size : goal.returns-clause-size
returns-clause-size c = ap length (whole c) ∙ c.in_ok-pieces.ensures.size

pub returns-clause-again : goal.returns-clause-again
returns-clause-again c = ap reading (whole c) ∙ c.in_ok-pieces.ensures.again
