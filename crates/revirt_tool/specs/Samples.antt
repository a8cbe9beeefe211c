-- What `sample` records and prints (docs/command-line.md, docs/guests.md).
use Rattle.std.specs.Prelude.{ℕ, ◌≡◌, ◌<◌, ◌-◌, ◌^◌, false, List, [], length, nat_lt, None, Ok}
use Rattle.outside.specs.Clocks.{ticks}
use Rattle.outside.specs.Consoles.{seen_of_sure}
use Rattle.outside.specs.Seen.{SeenClock}
use Rattle.elf_image.specs.Image.{Image, IsWhole}
use Rattle.elf_image.specs.Loading.{image_of}
use Rattle.guest_maker.specs.File.{guest}
use Rattle.flat_machine.specs.declared.results.Final.{Final}
use Rattle.log_entry.specs.declared.log.Log.{Log}
use Rattle.log_entry.specs.Room.{log_without_room}
use Rattle.log_format.specs.Grammar.{spelling, reading}
use Rattle.report_view.specs.Report.{report}
use Rattle.report_view.specs.Summary.{summary}
use Rattle.crew_parts.specs.Boards.{World, world}
use Rattle.revirt_tool.specs.Tasks.{Wish}
use Rattle.revirt_tool.specs.Recordings.{Comes}
use Rattle.revirt_tool.specs.Replays.{EndsAt}
use Rattle.revirt_tool.specs.declared.ending.Ending.{Ending}
use Rattle.revirt_tool.specs.declared.ending.Ending.TheVariants.{NoMemory, Kept}

-- the board of every sample; no file has a name
abbrev pub sample_board : Wish
sample_board = record { image = []; log = []; dump = None; harts = 4; pages = 8; limit = 1000000; log_limit = 67108864; free = false }

-- the guest of this number, for the harts of that board
abbrev pub sample_image : ℕ → Image
sample_image number = image_of sample_board.pages (guest number sample_board.harts)

-- a clock that answers 0, 100, 200 and so on, and was asked so often; it tells as long as the number can be told
abbrev pub seen_by_hundreds : ℕ → SeenClock
seen_by_hundreds asked = record { tells = nat_lt asked (2 ^ 64 - 1); answers = ticks 0 100 asked }

-- a console that always answers that there is nothing, and that clock, each asked so often
abbrev pub quiet : ℕ → ℕ → World
quiet polls times = world (seen_of_sure polls) (seen_by_hundreds times)

-- the image was recorded in rounds over that console and that clock, which tell all their answers, with this log and this end
pub record IsSampled (image : Image) (log : Log) (ended : Final) : Type 0 where
  pub polls : ℕ
  pub times : ℕ
  pub polls_told : polls < 2 ^ 64 - 1
  pub times_told : times < 2 ^ 64 - 1
  pub journal : List (ℕ × ℕ)
  pub turns : List (ℕ × ℕ)
  pub comes : Comes sample_board image (quiet 0 0) (quiet polls times) log ended journal turns

-- the bytes spell a log that is read again, and its replay over the image is done at this end
pub record IsSpelled (image : Image) (ended : Final) (bytes : List ℕ) : Type 0 where
  pub whole : IsWhole image
  pub log : Log
  pub pages : log.pages ≡ image.pages
  pub spelled : bytes ≡ spelling log
  pub again : reading bytes ≡ Ok (log_without_room log)
  pub ends : EndsAt log image ended

-- the guest of this number was recorded; a replay of its log is done at the recording's end; and the text sums up the recording and two replays
pub record IsSample (number : ℕ) (text : List ℕ) : Type 0 where
  pub log : Log
  pub ended : Final
  pub recorded : IsSampled (sample_image number) log ended
  pub replayed : EndsAt log (sample_image number) ended
  pub told : text ≡ summary number ended (length (spelling log)) (report ended) (report ended) (report ended)

-- how the command ends
abbrev pub SamplesAs : ℕ → Ending → Type 0
SamplesAs number NoMemory = Unit {0}
SamplesAs number (Kept text fault) = IsSample number text.items × (fault ≡ false)
SamplesAs number ending = ⊥
