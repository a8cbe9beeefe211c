-- A printed text is that of its ending.
use Rattle.std.proofs.Common.{◌≡◌, ℕ, List, Result, Ok, Err, IfOk, true, inl, inr, sym, subst}
use Rattle.revirt_tool.specs.Lines.{too_long_line}
use Rattle.outside.specs.Seen.{SeenSink}
use Rattle.revirt_tool.specs.Closing.{Closes, PrintsOrFails, PrintsLine, text_of, status_of, status_unprinted, has_number}
use Rattle.revirt_tool.specs.declared.ending.File.{File}
use Rattle.revirt_tool.specs.declared.ending.Ending.{Ending}
use Rattle.revirt_tool.specs.declared.ending.Ending.TheVariants.{TooLong}

pub as_ending : (e f : Ending) (s t : SeenSink) (status : ℕ) → e ≡ f → Closes f s t status → Closes e s t status
as_ending e f s t status is closes = subst (λ x. Closes x s t status) (sym is) closes

pub as_too_long : (e : Ending) (s t : SeenSink) (file : File) (status : ℕ) (text : List ℕ) → e ≡ TooLong file → text ≡ too_long_line file
    → PrintsOrFails text 9 9 s t status → Closes e s t status
as_too_long e s t file status text is line prints = as_ending e (TooLong file) s t status is (inl (subst (λ x. PrintsOrFails x 9 9 s t status) line prints))

-- a line with numbers
pub as_line : {X E : Type 0} (bytes : X → List ℕ) (line : Result X E) (e f : Ending) (s t : SeenSink) (printed status : ℕ) → e ≡ f
    → printed ≡ status_of f → printed ≡ status_unprinted f → has_number f ≡ true
    → IfOk line (λ x. bytes x ≡ text_of f) → PrintsLine bytes line printed s t status → Closes e s t status
as_line bytes (Ok x) e f s t printed status is one other number told prints =
    as_ending e f s t status is
    (inl (subst (λ text. PrintsOrFails text (status_of f) (status_unprinted f) s t status) told
    (subst (λ n. PrintsOrFails (bytes x) (status_of f) n s t status) other (subst (λ n. PrintsOrFails (bytes x) n printed s t status) one prints))))
as_line bytes (Err error) e f s t printed status is one other number told prints = as_ending e f s t status is (inr (number, prints))
