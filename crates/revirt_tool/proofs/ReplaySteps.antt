-- What the steps of a replay come to together.
use Rattle.std.proofs.Common.{ℕ, ◌≡◌, List, Result, Ok, Err, IfOk, inl, inr, refl, sym, ◌∙◌, subst}
use Rattle.std.specs.Result.{IsErrAnd}
use Rattle.outside.specs.Causes.{Rose}
use Rattle.outside.specs.Fetching.{IsPast}
use Rattle.outside.specs.Seen.{SeenShelf, ToldBefore}
use Rattle.elf_image.specs.Image.{Image}
use Rattle.log_entry.specs.declared.log.Log.{Log}
use Rattle.flat_machine.specs.declared.results.Final.{Final}
use Rattle.revirt_tool.specs.Tasks.{ReplayWish}
use Rattle.revirt_tool.specs.Files.{WasFetched, IsUntouched, longest}
use Rattle.revirt_tool.specs.Listings.{LogAs}
use Rattle.revirt_tool.specs.Replays.{IsImageOf, IsReportable, StartAs, OutcomeAs, KeepsReplayAs, KeepsOutcomeAs, AreFetched}
use Rattle.revirt_tool.specs.Replays.{FilesAs, ReplaysAs}
use Rattle.revirt_tool.specs.declared.ending.File.{File}
use Rattle.revirt_tool.specs.declared.ending.File.TheVariants as files
use Rattle.revirt_tool.specs.declared.ending.Ending.{Ending}
use Rattle.revirt_tool.specs.declared.ending.Ending.TheVariants.{Usage, TooLong, ImageRefused, Malformed, OtherImage, Disorderly, Diverged}
use Rattle.revirt_tool.specs.declared.ending.Ending.TheVariants.{NoMemory, ShelfFault, Kept, Listed}
use Rattle.revirt_tool.proofs.Recordings.{untouched}

-- a log that isn't there for the replay
pub log_fails : (w : ReplayWish) (s t : SeenShelf) (ending : Ending) → LogAs w.log s t (Err ending) → ReplaysAs w s t ending
log_fails w s t (TooLong files.Log) read = read
log_fails w s t (TooLong files.Image) read = absurd read
log_fails w s t (Malformed offset rule) read = read
log_fails w s t NoMemory read = read
log_fails w s t ShelfFault read = inl read
log_fails w s t (Usage place) read = absurd read
log_fails w s t (ImageRefused rule) read = absurd read
log_fails w s t (OtherImage named has) read = absurd read
log_fails w s t (Disorderly rule hart entry) read = absurd read
log_fails w s t (Diverged hart count rule) read = absurd read
log_fails w s t (Kept report fault) read = absurd read
log_fails w s t (Listed listing orderly) read = absurd read

-- where a file isn't there, the replay ends as its reading does
pub files_fail : (w : ReplayWish) (s t : SeenShelf) (r : Result (Log × Image) Ending) (ending : Ending) → IsErrAnd r (λ e. e ≡ ending)
    → ReplaysAs w s t ending → FilesAs w s t r
files_fail w s t (Ok files) ending is fails = absurd is
files_fail w s t (Err e) ending is fails = subst (ReplaysAs w s t) (sym is) fails

-- what was fetched after another file
fetched_since : (of : File) (name file : List ℕ) (s m t : SeenShelf) → IsUntouched s m → ToldBefore m.tells t.tells → WasFetched of name m t file
    → WasFetched of name s t file
fetched_since of name file s m t same tells fetched = record {
  held = λ told. sym (same.held (tells told) name) ∙ fetched.held told;
  within = fetched.within;
}

-- and is known for as long as the shelf tells
fetched_on : (of : File) (name file : List ℕ) (s n t : SeenShelf) → ToldBefore n.tells t.tells → WasFetched of name s n file → WasFetched of name s t file
fetched_on of name file s n t tells fetched = record { held = λ told. fetched.held (tells told); within = fetched.within }

pub image_since : (name : List ℕ) (s m t : SeenShelf) (log : Log) (image : Image) → IsUntouched s m → ToldBefore m.tells t.tells → IsImageOf name m t log image
    → IsImageOf name s t log image
image_since name s m t log image same tells read = record {
  file = read.file;
  fetched = fetched_since files.Image name read.file s m t same tells read.fetched;
  accepted = read.accepted;
  read = read.read;
}

image_on : (name : List ℕ) (s n t : SeenShelf) (log : Log) (image : Image) → ToldBefore n.tells t.tells → IsImageOf name s n log image
    → IsImageOf name s t log image
image_on name s n t log image tells read = record {
  file = read.file;
  fetched = fetched_on files.Image name read.file s n t tells read.fetched;
  accepted = read.accepted;
  read = read.read;
}

-- an image that isn't there for the replay of the log that was read
module _ (w : ReplayWish) (s m t : SeenShelf) (log : Log) (read : LogAs w.log s m (Ok log)) (tells : ToldBefore m.tells t.tells) where
  pub start_fails : (ending : Ending) → StartAs w.image log m t (Err ending) → ReplaysAs w s t ending
  start_fails (TooLong files.Image) start = (
    log,
    read.1,
    (
      λ told. subst (IsPast (longest files.Image)) (read.0.held (tells told) w.image) (start.0 told),
      untouched s m t read.0 tells start.1,
    ),
  )
  start_fails (ImageRefused rule) start = (
    (
      log,
      read.1,
      record {
        file = start.0.file;
        fetched = fetched_since files.Image w.image start.0.file s m t read.0 tells start.0.fetched;
        breaks = start.0.breaks;
      },
    ),
    untouched s m t read.0 tells start.1,
  )
  start_fails (OtherImage named has) start = (
    (
      log,
      read.1,
      record {
        image = start.0.image;
        read = image_since w.image s m t log start.0.image read.0 tells start.0.read;
        named_is = start.0.named_is;
        has_is = start.0.has_is;
        differ = start.0.differ;
      },
    ),
    untouched s m t read.0 tells start.1,
  )
  start_fails NoMemory start = untouched s m t read.0 tells start
  start_fails ShelfFault start = inl (record {
    rose = subst (λ n. Rose n t.faults) read.0.faults start.rose;
    held = λ told n. start.held told n ∙ read.0.held (tells told) n;
  })
  start_fails (TooLong files.Log) start = absurd start
  start_fails (Usage place) start = absurd start
  start_fails (Malformed offset rule) start = absurd start
  start_fails (Disorderly rule hart entry) start = absurd start
  start_fails (Diverged hart count rule) start = absurd start
  start_fails (Kept report fault) start = absurd start
  start_fails (Listed listing orderly) start = absurd start

  -- a log that isn't replayed to its end
  pub outcome_fails : (image : Image) (ending : Ending) → StartAs w.image log m t (Ok image) → OutcomeAs log image (Err ending) → ReplaysAs w s t ending
  outcome_fails image (Disorderly rule hart entry) start ends = (
    (log, read.1, (image, image_since w.image s m t log image read.0 tells start.1, start.2, ends)),
    untouched s m t read.0 tells start.0,
  )
  outcome_fails image (Diverged hart count rule) start ends = (
    (log, read.1, (image, image_since w.image s m t log image read.0 tells start.1, start.2, ends)),
    untouched s m t read.0 tells start.0,
  )
  outcome_fails image NoMemory start ends = untouched s m t read.0 tells start.0
  outcome_fails image (Usage place) start ends = absurd ends
  outcome_fails image (TooLong file) start ends = absurd ends
  outcome_fails image (ImageRefused rule) start ends = absurd ends
  outcome_fails image (Malformed offset rule) start ends = absurd ends
  outcome_fails image (OtherImage named has) start ends = absurd ends
  outcome_fails image ShelfFault start ends = absurd ends
  outcome_fails image (Kept report fault) start ends = absurd ends
  outcome_fails image (Listed listing orderly) start ends = absurd ends

-- an end that was reached, and what keeping its dump came to
module _ (w : ReplayWish) (s m n t : SeenShelf) (log : Log) (image : Image) (end : Final) (read : LogAs w.log s m (Ok log))
    (told : ToldBefore m.tells n.tells) (start : StartAs w.image log m n (Ok image)) (reached : OutcomeAs log image (Ok end))
    (tells : ToldBefore n.tells t.tells) where
  image_read : IsImageOf w.image s t log image
  image_read = image_on w.image s n t log image tells (image_since w.image s m n log image read.0 told start.1)

  same : IsUntouched s n
  same = untouched s m n read.0 told start.0

  pub keeps : (ending : Ending) → KeepsReplayAs w end n t ending → ReplaysAs w s t ending
  keeps (Kept text fault) kept = (
    (
      log,
      read.1,
      (
        image,
        image_read,
        start.2,
        record {
          end = end;
          ends = reached.0;
          kept = record {
            dump_held = kept.0.dump_held;
            others = λ tell name other. kept.0.others tell name other ∙ same.held (tells tell) name;
            faults = kept.0.faults ∙ same.faults;
          };
          reported = kept.1;
        },
      ),
    ),
    kept.2,
  )
  keeps NoMemory kept = untouched s n t same tells kept
  keeps ShelfFault kept = inr (
    (log, read.1, (image, image_read, start.2, (end, reached.0))),
    record {
      asked = kept.asked;
      rose = subst (λ k. Rose k t.faults) same.faults kept.rose;
      others = λ tell name other. kept.others tell name other ∙ same.held (tells tell) name;
    },
  )
  keeps (Usage place) kept = absurd kept
  keeps (TooLong file) kept = absurd kept
  keeps (ImageRefused rule) kept = absurd kept
  keeps (Malformed offset rule) kept = absurd kept
  keeps (OtherImage named has) kept = absurd kept
  keeps (Disorderly rule hart entry) kept = absurd kept
  keeps (Diverged hart count rule) kept = absurd kept
  keeps (Listed listing orderly) kept = absurd kept

-- what can be reported of what a replay came to
pub reportable : (log : Log) (image : Image) (outcome : Result Final Ending) → OutcomeAs log image outcome → IfOk outcome IsReportable
reportable log image (Ok end) reached = reached.1
reportable log image (Err ending) reached = tt

-- what was fetched, what its replay came to, and what keeping that came to
pub replayed_so : (w : ReplayWish) (s n t : SeenShelf) (log : Log) (image : Image) (outcome : Result Final Ending) → ToldBefore s.tells n.tells
    → AreFetched w s n log image → OutcomeAs log image outcome → ToldBefore n.tells t.tells → (ending : Ending) → KeepsOutcomeAs w outcome n t ending
    → ReplaysAs w s t ending
replayed_so w s n t log image outcome told are reached tells ending kept = by outcome reached kept where
  read : LogAs w.log s s (Ok log)
  read = (record { held = λ told name. refl; faults = refl }, are.log_read)

  start : StartAs w.image log s n (Ok image)
  start = (are.same, are.image_read, are.start)

  by : (outcome : Result Final Ending) → OutcomeAs log image outcome → KeepsOutcomeAs w outcome n t ending → ReplaysAs w s t ending
  by (Ok end) reached kept = keeps w s s n t log image end read told start reached tells ending kept
  by (Err ends) reached kept =
      subst (λ z. ReplaysAs w s z ending) (sym kept.1)
      (subst (ReplaysAs w s n) (sym kept.0) (outcome_fails w s s n log read told image ends start reached))
