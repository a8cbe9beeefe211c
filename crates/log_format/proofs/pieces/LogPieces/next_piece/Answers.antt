use Rattle.std.proofs.Common.{◌≡◌, ◌≤◌, ◌∷◌, ℕ, List, length, refl, sym, ap, subst, ◌∙◌}
use Rattle.std.specs.List.{All}
use Rattle.std.proofs.lemmas.List.Elements.{All-head}
use Rattle.log_format.specs.Pieces.{piece_bytes}
use Rattle.log_format.specs.Given.{pieces_left}
use Rattle.log_format.proofs.Packed.{HasBytes}
use Rattle.log_format.proofs.PartsOf.{some_left}
use Rattle.log_format.proofs.pieces.LogPieces.next_piece.Goals as goal

pub returns-then-advance : goal.returns-then-advance
returns-then-advance c =
    let log = c.args.l.now in
    let old = c.args.self.now in
    let behind : List (List ℕ) = pieces_left c.advance.new.self log in
    let piece : List ℕ = c.bytes.result.now in
    let left : pieces_left old log ≡ piece ∷ behind =
    c.if-advance.ensures.piece ∙ ap (λ (bytes : List ℕ). bytes ∷ behind) (sym c.bytes.ensures.bytes) in (
      (
        refl,
        (λ _. tt),
        record {
          piece = left;
          none_left = tt;
          some = All-head HasBytes piece behind (subst (All HasBytes) left (some_left old.begun old.place log));
          short = subst (λ (bytes : List ℕ). length bytes ≤ piece_bytes) (sym c.bytes.ensures.bytes) c.bytes.ensures.short;
          at = c.advance.ensures.at;
        },
      ),
      record { piece = tt },
    )
