use Rattle.std.proofs.Common.{◌≡◌, ◌++◌, ℕ, List, Option, Some, IfSome, sym, ap, subst, ◌∙◌, append_assoc, rules}
use Rattle.std.specs.List.{concat}
use Rattle.std.specs.Borrow.{Bor}
use Rattle.log_format.specs.Given.{Gives, pieces_left}
use Rattle.revirt_tool.proofs.recording.keep_log.Goals as goal

pub loop-piece-preserved : goal.loop-piece-preserved
loop-piece-preserved g c =
    let s = g.S.Shelf in
    let log = c.args.log.now in
    let is = c.loop-piece.invariant in
    let left = c.next_piece.follows.lender-at-none in
    let gives = subst (λ (r : Option (Bor (List ℕ))). Gives c.loop-piece.pieces log r left) c.in-Some.is c.next_piece.follows.holds-at-none in
    let piece = c.in-Some.piece.now in
    let bytes = is.draft.0 in
    let appends = c.in_ok-append.ensures in
    record {
      at = gives.at;
      tells = λ told. is.tells (appends.tells told);
      writing = appends.writing;
      draft = (
        bytes ++ piece,
        (λ told. subst (λ (d : Option (List ℕ × List ℕ)). IfSome d (λ d. (s.seen c.append.new.self).draft ≡ Some (d.0, d.1 ++ piece)))
            (is.draft.1 (appends.tells told)) (appends.draft told)),
        append_assoc bytes piece (concat (pieces_left left log))
            ∙ ap (λ (pieces : List (List ℕ)). bytes ++ concat pieces) (sym gives.piece) ∙ is.draft.2,
      );
      others = search rules;
      faults = search rules;
    }
