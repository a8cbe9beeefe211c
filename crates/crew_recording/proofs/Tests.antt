-- What tests tell that were met, or that nothing met.
use Rattle.std.proofs.Common.{◌≡◌, Bool, true, false, Option, Some, None, refl, sym, ap, if◌then◌else◌, true≢false}
use Rattle.log_entry.specs.Parts.{is_some_and}
use Rattle.replay_model.specs.Items.{Verdict, CanGo, Holds}

abbrev is_go : Verdict → Bool
is_go CanGo = true
is_go _ = false

-- an item that can go has its guard met
pub met : (b : Bool) (v : Verdict) → (if b then v else Holds) ≡ CanGo → b ≡ true
met true v e = refl
met false v e = absurd (true≢false (sym (ap is_go e)))

pub some_and_false : {X : Type 0} (o : Option X) (test : X → Bool) → ((x : X) → o ≡ Some x → test x ≡ false) → is_some_and o test ≡ false
some_and_false None test f = refl
some_and_false (Some x) test f = f x refl
