-- What a run agrees with after a call, by what the call left.
use Rattle.std.proofs.Common.{◌≡◌, ℕ, ◌<◌, Bool, length, Option, Some, sym, subst}
use Rattle.rv_words.specs.declared.shared.Mode.{Mode}
use Rattle.rv_hart.specs.Moves.{after}
use Rattle.guest_pages.specs.Pages.{Pages}
use Rattle.flat_machine.specs.Moves.{next_move}
use Rattle.log_entry.specs.Parts.{strength}
use Rattle.run_model.specs.Run.{Run, IsOneRun, IsAtDevice, ahead_of, touched_by, hold_of, taken, given, store_given, ends_with}
use Rattle.run_model.specs.Agreement.{Agrees, Yields, with_move, with_page_held}
use Rattle.run_model.proofs.Laws.{answers_agree, takes_agree, gives_agree}
use Rattle.hart_run.specs.Calls.{TouchAgrees, TakeAgrees, GiveAgrees}

pub touch_agrees : (r new : Run) (loaded : ℕ) → new ≡ touched_by r loaded → IsAtDevice (ahead_of r) → TouchAgrees r new loaded
touch_agrees r new loaded is device h s a =
    subst (λ z. Agrees z h (with_move h (after r.hart (next_move r.hart s.flat.memory) loaded) s)) (sym is) (answers_agree r h s loaded a device)

pub take_agrees : (r new : Run) (page : ℕ) (mode : Mode) (store : Pages) → new ≡ taken r page mode store → IsOneRun r → page < length r.frames.pages
    → TakeAgrees r new page mode store
take_agrees r new page mode store is one l h s a has =
    subst (λ z. Agrees z h (with_page_held h page (Some mode) s)) (sym is) (takes_agree r h page s mode store a one l has)

pub give_agrees : (r new : Run) (page : ℕ) (left : Option Mode) (store then_store : Pages) (ended : Bool) → new ≡ given r page left store
    → then_store ≡ store_given r page (hold_of r page) store → ended ≡ ends_with r page → IsOneRun r → page < length r.frames.pages
    → length store.pages ≡ length r.frames.pages → strength left < strength (hold_of r page) → GiveAgrees r new page left then_store ended
give_agrees r new page left store then_store ended is store_is answer one l store_size less h s a =
    subst (λ z. Yields r.frames.unit z then_store h page left ended s) (sym is)
    (subst (λ z. Yields r.frames.unit (given r page left store) z h page left ended s) (sym store_is)
    (subst (λ z. Yields r.frames.unit (given r page left store) (store_given r page (hold_of r page) store) h page left z s) (sym answer)
    (gives_agree r h page s left store a one l store_size less)))
