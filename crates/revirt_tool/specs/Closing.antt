-- The text and the status with which a command ends (docs/command-line.md).
use Rattle.std.specs.Prelude.{ℕ, ◌≡◌, ◌≢◌, ◌⊎◌, Bool, true, false, List, [], Result, Ok, Err, codes, if◌then◌else◌}
use Rattle.outside.specs.Causes.{Rose}
use Rattle.outside.specs.Seen.{SeenSink, Writes, WritesPart}
use Rattle.revirt_tool.specs.Lines.{usage_line, too_long_line, image_line, malformed_line, other_line, disorderly_line, diverged_line, no_memory_line}
use Rattle.revirt_tool.specs.declared.ending.Ending.{Ending}
use Rattle.revirt_tool.specs.declared.ending.Ending.TheVariants.{Usage, TooLong, ImageRefused, Malformed, OtherImage, Disorderly, Diverged}
use Rattle.revirt_tool.specs.declared.ending.Ending.TheVariants.{NoMemory, ShelfFault, Kept, Listed}

abbrev pub text_of : Ending → List ℕ
text_of (Usage place) = usage_line place
text_of (TooLong file) = too_long_line file
text_of (ImageRefused rule) = image_line rule
text_of (Malformed offset rule) = malformed_line offset rule
text_of (OtherImage log image) = other_line log image
text_of (Disorderly rule hart entry) = disorderly_line rule hart entry
text_of (Diverged hart count rule) = diverged_line hart count rule
text_of NoMemory = no_memory_line
text_of ShelfFault = codes "shelf fault\n"
text_of (Kept report fault) = report.items
text_of (Listed listing orderly) = listing.items

-- the status, where the text was printed
abbrev pub status_of : Ending → ℕ
status_of (Usage place) = 1
status_of (TooLong file) = 9
status_of (ImageRefused rule) = 2
status_of (Malformed offset rule) = 6
status_of (OtherImage log image) = 10
status_of (Disorderly rule hart entry) = 7
status_of (Diverged hart count rule) = 8
status_of NoMemory = 3
status_of ShelfFault = 4
status_of (Kept report fault) = if fault then 5 else 0
status_of (Listed listing orderly) = if orderly then 0 else 7

-- and where the sink failed
abbrev pub status_unprinted : Ending → ℕ
status_unprinted (Kept report false) = 11
status_unprinted (Listed listing true) = 11
status_unprinted ending = status_of ending

-- the line has numbers, for whose digits memory is asked
abbrev pub has_number : Ending → Bool
has_number (Usage place) = true
has_number (ImageRefused rule) = true
has_number (Malformed offset rule) = true
has_number (OtherImage log image) = true
has_number (Disorderly rule hart entry) = true
has_number (Diverged hart count rule) = true
has_number ending = false

-- the sink gained exactly this text
pub record Prints (text : List ℕ) (s t : SeenSink) : Type 0 where
  pub written : Writes text s t
  pub faults : t.faults ≡ s.faults

-- the sink failed at a text that isn't empty, and gained at most some first part of it
pub record FailsToPrint (text : List ℕ) (s t : SeenSink) : Type 0 where
  pub some : text ≢ []
  pub written : WritesPart text s t
  pub faults : Rose s.faults t.faults

-- the text was printed and the status is the one, or it wasn't and the status is the other
abbrev pub PrintsOrFails : List ℕ → ℕ → ℕ → SeenSink → SeenSink → ℕ → Type 0
PrintsOrFails text printed unprinted s t status = (Prints text s t × (status ≡ printed)) ⊎ (FailsToPrint text s t × (status ≡ unprinted))

-- a line was printed with its status, or there was no memory for it
abbrev pub PrintsLine : {X E : Type 0} → (X → List ℕ) → Result X E → ℕ → SeenSink → SeenSink → ℕ → Type 0
PrintsLine bytes (Ok line) printed s t status = PrintsOrFails (bytes line) printed printed s t status
PrintsLine bytes (Err error) printed s t status = PrintsOrFails no_memory_line 3 3 s t status

-- an ending's text was printed, or there was no memory for its line
abbrev pub Closes : Ending → SeenSink → SeenSink → ℕ → Type 0
Closes ending s t status =
    PrintsOrFails (text_of ending) (status_of ending) (status_unprinted ending) s t status
    ⊎ ((has_number ending ≡ true) × PrintsOrFails no_memory_line 3 3 s t status)
