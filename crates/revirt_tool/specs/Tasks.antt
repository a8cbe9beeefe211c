-- What the words ask for (docs/command-line.md).
use Rattle.std.specs.Prelude.{ℕ, ◌≡◌, ◌≢◌, ◌≤◌, ◌⊎◌, Bool, not, List, Option, Some, None, option_map, IfSome, Ok, Err}
use Rattle.rv_words.specs.Limits.{most_pages, most_moves, longest_log}
use Rattle.rv_words.specs.declared.shared.TheConstants.{MAX_HARTS}
use Rattle.command_words.specs.Texts.{word_at}
use Rattle.command_words.specs.Grammar.{job_of}
use Rattle.command_words.specs.declared.job.Job.{Job}
use Rattle.command_words.specs.declared.job.Job.TheVariants.{Record, Replay, Inspect, Trace, Sample}
use Rattle.revirt_tool.specs.declared.recording.Request.{Request}
use Rattle.revirt_tool.specs.declared.replaying.ReplayRequest.{ReplayRequest}
use Rattle.revirt_tool.specs.declared.tracing.TraceRequest.{TraceRequest}
use Rattle.revirt_tool.specs.declared.command.Command.{Command}
use Rattle.revirt_tool.specs.declared.command.Command.TheVariants as commands

-- what the words of a recording ask for; harts run free, or in rounds
pub record Wish : Type 0 where
  pub image : List ℕ
  pub log : List ℕ
  pub dump : Option (List ℕ)
  pub harts : ℕ
  pub pages : ℕ
  pub limit : ℕ
  pub log_limit : ℕ
  pub free : Bool

-- a wish by its names
abbrev pub wish_by : Request → Wish
wish_by r = record {
  image = r.image.now;
  log = r.log.now;
  dump = option_map (λ d. d.now) r.dump;
  harts = r.harts;
  pages = r.pages;
  limit = r.limit;
  log_limit = r.log_limit;
  free = r.free;
}

-- what the words of a replay ask for
pub record ReplayWish : Type 0 where
  pub image : List ℕ
  pub log : List ℕ
  pub dump : Option (List ℕ)

-- a replay by the places of its names; the way makes no difference to what it comes to
abbrev pub replayed : List (List ℕ) → ℕ → ℕ → Option ℕ → ReplayWish
replayed words image log dump = record { image = word_at words image; log = word_at words log; dump = option_map (word_at words) dump }

-- a replay by its names
abbrev pub replay_by : ReplayRequest → ReplayWish
replay_by r = record { image = r.image.now; log = r.log.now; dump = option_map (λ d. d.now) r.dump }

-- what the words of a trace ask for: a replay that keeps no dump, and the moves of a hart from a count on, below another
pub record TraceWish : Type 0 where
  pub files : ReplayWish
  pub hart : ℕ
  pub from : ℕ
  pub to : ℕ

abbrev pub traced : List ℕ → List ℕ → ℕ → ℕ → ℕ → TraceWish
traced image log hart from to = record { files = record { image = image; log = log; dump = None }; hart = hart; from = from; to = to }

-- a trace by its names
abbrev pub trace_by : TraceRequest → TraceWish
trace_by r = traced r.image.now r.log.now r.hart r.from r.to

-- a recording, a replay, a trace, the listing of the log of this name, or the sample of this number
pub data Task : Type 0 where
  Records : Wish → Task
  Replays : ReplayWish → Task
  Traces : TraceWish → Task
  Lists : List ℕ → Task
  Samples : ℕ → Task

abbrev pub task_of : List (List ℕ) → Job → Task
task_of words (Record image log harts pages limit log_limit dump rounds) =
    Records (record {
      image = word_at words image;
      log = word_at words log;
      dump = option_map (word_at words) dump;
      harts = harts;
      pages = pages;
      limit = limit;
      log_limit = log_limit;
      free = not rounds;
    })
task_of words (Replay image log dump way) = Replays (replayed words image log dump)
task_of words (Trace image log hart from to) = Traces (traced (word_at words image) (word_at words log) hart from to)
task_of words (Inspect log) = Lists (word_at words log)
task_of words (Sample number) = Samples number

-- none where the words aren't in the grammar
abbrev pub task : List (List ℕ) → Option Task
task words = elim (job_of words) [ Ok job ↦ Some (task_of words job) | Err place ↦ None ]

-- the task by its names
abbrev pub task_by : Command → Task
task_by (commands.Record r) = Records (wish_by r)
task_by (commands.Replay r) = Replays (replay_by r)
task_by (commands.Trace r) = Traces (trace_by r)
task_by (commands.Inspect log) = Lists log.now
task_by (commands.Sample number) = Samples number

-- numbers in their ranges, and a dump of another name than the log's
pub record IsAllowedRecording (r : Request) : Type 0 where
  pub least_harts : 1 ≤ r.harts
  pub most_harts : r.harts ≤ MAX_HARTS
  pub least_pages : 1 ≤ r.pages
  pub most_pages : r.pages ≤ most_pages
  pub limit : r.limit ≤ most_moves
  pub shortest : 1024 ≤ r.log_limit
  pub longest : r.log_limit ≤ longest_log
  pub names : IfSome r.dump (λ d. d.now ≢ r.log.now)

abbrev pub IsAllowed : Command → Type 0
IsAllowed (commands.Record r) = IsAllowedRecording r
IsAllowed (commands.Trace r) = (r.from ≤ r.to) × (r.to ≤ most_moves)
IsAllowed command = Unit {0}

abbrev pub IsFetchedBy : Option Task → List ℕ → Type 0
IsFetchedBy (Some (Records w)) name = name ≡ w.image
IsFetchedBy (Some (Replays r)) name = (name ≡ r.log) ⊎ (name ≡ r.image)
IsFetchedBy (Some (Traces w)) name = (name ≡ w.files.log) ⊎ (name ≡ w.files.image)
IsFetchedBy (Some (Lists log)) name = name ≡ log
IsFetchedBy (Some (Samples number)) name = ⊥
IsFetchedBy None name = ⊥

-- the words have the file of this name fetched
abbrev pub Fetches : List (List ℕ) → List ℕ → Type 0
Fetches words name = IsFetchedBy (task words) name

-- the words don't ask for a run that console and clock serve
abbrev pub AsksNoRun : List (List ℕ) → Type 0
AsksNoRun words = (w : Wish) → task words ≢ Some (Records w)
