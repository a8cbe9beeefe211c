-- Two recordings of one image in rounds, or by the same turns, for which console and clock gave the same, are one.
use Rattle.std.proofs.Common.{◌≡◌, ℕ, Bool, true, false, List, refl, sym, ap, ap₂, ◌∙◌, subst}
use Rattle.std.proofs.lemmas.Option.{same_Some}
use Rattle.elf_image.specs.Image.{Image}
use Rattle.elf_image.specs.Loading.{image_of}
use Rattle.flat_machine.specs.State.{FlatState}
use Rattle.flat_machine.specs.Runs.{final_of}
use Rattle.flat_machine.specs.declared.results.Final.{Final}
use Rattle.log_entry.specs.declared.log.Log.{Log}
use Rattle.log_format.specs.Grammar.{spelling}
use Rattle.room_laws.proofs.Recordings.{bytes_see_no_room}
use Rattle.turn_model.specs.Board.{Board, Supply, Terms}
use Rattle.turn_model.specs.Lists.{RecordingEnd, comes_to}
use Rattle.turn_laws.proofs.GoingOn.{recorded_one}
use Rattle.crew_parts.specs.Boards.{World, the_machine, spent, terms_of}
use Rattle.recorded_turns.specs.Recordings.{recording, board_before}
use Rattle.report_view.specs.Report.{report}
use Rattle.revirt_tool.specs.Tasks.{Wish}
use Rattle.revirt_tool.specs.Recordings.{KindOf, RecordsAsAsked, begun}
use Rattle.revirt_tool.specs.Complete.{SameAreKept}
use Rattle.crew_parts.proofs.Turned.{then_spent}

-- what the definitions make of what was given
abbrev Made : Wish → World → List ℕ → List (ℕ × ℕ) → Supply → RecordingEnd FlatState → Type 0
Made w o file turns given r =
    let start = begun w (image_of w.pages file) o in
    KindOf w.free turns (terms_of start) (board_before start given) r

made : (w : Wish) (file : List ℕ) (o p : World) (log : Log) (ended : Final) (journal turns : List (ℕ × ℕ))
    (is : RecordsAsAsked w.free (begun w (image_of w.pages file) o) p log ended journal turns)
    → Made w o file turns is.given (recording log journal turns is.at spent)
made w file o p log ended journal turns is =
    subst (λ given. Made w o file turns given (recording log journal turns is.at spent)) (then_spent is.given) (is.recorded spent (λ fault. (refl, refl)))

-- of one board there is one recording in rounds, and one by a list of turns
one_kind : (free : Bool) (turns others : List (ℕ × ℕ)) (terms : Terms) (b : Board FlatState) (r q : RecordingEnd FlatState)
    → (free ≡ true → turns ≡ others) → KindOf free turns terms b r → KindOf free others terms b q → r ≡ q
one_kind true turns others terms b r q same is also =
    let by_turns = subst (λ list. KindOf true list terms b q) (sym (same refl)) also in
    sym is.comes ∙ ap (comes_to the_machine terms) (same_Some _ _ (sym is.leads ∙ by_turns.leads)) ∙ by_turns.comes
one_kind false turns others terms b r q same is also = recorded_one the_machine terms b r q is also

pub same_are_kept : SameAreKept
same_are_kept w text also fault faulty s t u v o p q r one other file given turns =
    let start = begun w (image_of w.pages one.file) o in
    let first = recording one.log one.journal one.turns one.comes.run.at spent in
    let second = recording other.log other.journal other.turns other.comes.run.at spent in
    let also_made : Made w o one.file other.turns one.comes.run.given second =
    subst (λ f. Made w o f other.turns one.comes.run.given second) (sym file)
    (subst (λ g. Made w o other.file other.turns g second) (sym given)
    (made w other.file q r other.log (final_of other.end.flat other.log.cause) other.journal other.turns other.comes.run)) in
    let same = one_kind w.free one.turns other.turns (terms_of start) (board_before start one.comes.run.given) first second turns
    (made w one.file o p one.log (final_of one.end.flat one.log.cause) one.journal one.turns one.comes.run) also_made in
    let flats = sym one.ends_there ∙ ap (λ (x : RecordingEnd FlatState). x.ended) same ∙ other.ends_there in (
      sym (bytes_see_no_room one.log) ∙ ap (λ (x : RecordingEnd FlatState). spelling x.log) same ∙ bytes_see_no_room other.log,
      flats,
      one.reported ∙ ap₂ (λ s c. report (final_of s c)) flats (ap (λ (x : RecordingEnd FlatState). x.log.cause) same) ∙ sym other.reported,
    )
