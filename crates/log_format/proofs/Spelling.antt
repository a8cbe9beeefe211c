-- What is spelled does not depend on bounds, nor on the room of waits.
use Rattle.std.proofs.Common.{◌≡◌, ℕ, ◌+◌, ◌<◌, List, [], ◌∷◌, ◌++◌, length, get_or, take, map, refl, sym, ap, ◌∙◌, append_assoc}
use Rattle.std.specs.List.{flat_map}
use Rattle.std.proofs.lemmas.List.{length-map, flat_map_more, take_more}
use Rattle.std.proofs.lemmas.List.Folds.{flat_map-map}
use Rattle.log_entry.specs.declared.log.Entry.{Entry}
use Rattle.log_entry.specs.declared.log.Entry.TheVariants.{Gain, Yield, Poll, Touch, End}
use Rattle.log_entry.specs.declared.log.Log.{Log}
use Rattle.log_entry.specs.Room.{entry_without_room, stream_without_room, log_without_room}
use Rattle.log_format.specs.Grammar.{u32, any, wait_format, waits_format, gain_format, yield_format, poll_format, touch_format, end_format, entry_format}
use Rattle.log_format.specs.Grammar.{stream_format, head_format, cause_format, log_format, magic, spelling}

entry-bounds : (harts units : ℕ) (entry : Entry) → (entry_format harts units).spell entry ≡ (entry_format 0 0).spell entry
unfolding entry_format gain_format yield_format poll_format touch_format end_format waits_format wait_format
entry-bounds harts units (Gain count page seq mode waits) = refl
entry-bounds harts units (Yield count page seq left) = refl
entry-bounds harts units (Poll count ord time bits) = refl
entry-bounds harts units (Touch count ord input) = refl
entry-bounds harts units (End count) = refl

-- a stream is spelled alike under all bounds
pub stream-bounds : (harts units : ℕ) → (stream_format harts units).spell ≡ (stream_format 0 0).spell
stream-bounds harts units = λ i. λ entries. (u32 1 any).spell (length entries) ++ flat_map (λ entry. entry-bounds harts units entry i) entries

entry-room : (harts units : ℕ) (entry : Entry) → (entry_format harts units).spell (entry_without_room entry) ≡ (entry_format harts units).spell entry
unfolding entry_format gain_format yield_format poll_format touch_format end_format waits_format
entry-room harts units (Gain count page seq mode waits) = refl
entry-room harts units (Yield count page seq left) = refl
entry-room harts units (Poll count ord time bits) = refl
entry-room harts units (Touch count ord input) = refl
entry-room harts units (End count) = refl

stream-room : (harts units : ℕ) (entries : List Entry)
    → (stream_format harts units).spell (stream_without_room entries) ≡ (stream_format harts units).spell entries
stream-room harts units entries =
    let s = (entry_format harts units).spell in
    let size : (u32 1 any).spell (length (map entry_without_room entries)) ≡ (u32 1 any).spell (length entries) =
    ap (u32 1 any).spell (length-map entries entry_without_room) in
    let body : flat_map s (map entry_without_room entries) ≡ flat_map s entries =
    flat_map-map s entry_without_room entries ∙ (λ i. flat_map (λ entry. entry-room harts units entry i) entries) in
    λ i. size i ++ body i

-- a log is spelled alike whatever room its waits have
pub spelling-room : (log : Log) → spelling (log_without_room log) ≡ spelling log
unfolding log_format
spelling-room log =
    let head : ℕ → List ℕ = λ harts. head_format.spell (magic, (1, (harts, (log.pages, (log.limit, log.image))))) in
    let cause : List ℕ = cause_format.spell log.cause in
    let s : ℕ → List Entry → List ℕ = λ harts. (stream_format harts log.pages).spell in
    let harts = length log.streams in
    let count : length (map stream_without_room log.streams) ≡ harts = length-map log.streams stream_without_room in
    let streams : flat_map (s harts) (map stream_without_room log.streams) ≡ flat_map (s harts) log.streams =
    flat_map-map (s harts) stream_without_room log.streams ∙ (λ i. flat_map (λ entries. stream-room harts log.pages entries i) log.streams) in
    ap (λ (n : ℕ). head n ++ (flat_map (s n) (map stream_without_room log.streams) ++ cause)) count
    ∙ ap (λ (bytes : List ℕ). head harts ++ (bytes ++ cause)) streams

-- the spelling as it is written: head, streams under no bounds, cause
pub spelling-parts : (log : Log) (streams : List (List Entry)) → streams ≡ log.streams
    → (head_format.spell (magic, (1, (length streams, (log.pages, (log.limit, log.image))))) ++ flat_map (stream_format 0 0).spell streams)
    ++ cause_format.spell log.cause ≡ spelling log
unfolding log_format
spelling-parts log streams same =
    let head : List (List Entry) → List ℕ = λ xs. head_format.spell (magic, (1, (length xs, (log.pages, (log.limit, log.image))))) in
    let cause : List ℕ = cause_format.spell log.cause in
    append_assoc (head streams) (flat_map (stream_format 0 0).spell streams) cause
    ∙ ap (λ (xs : List (List Entry)). head xs ++ (flat_map (stream_format 0 0).spell xs ++ cause)) same
    ∙ ap (λ (s : List Entry → List ℕ). head log.streams ++ (flat_map s log.streams ++ cause)) (sym (stream-bounds (length log.streams) log.pages))

-- one part written behind another
pub behind : (o a b : List ℕ) {m n : List ℕ} → m ≡ o ++ a → n ≡ m ++ b → n ≡ o ++ (a ++ b)
behind o a b first second = second ∙ ap (λ (x : List ℕ). x ++ b) first ∙ append_assoc o a b

-- one more of a list written behind the others
pub one_more : {X : Type 0} (f : X → List ℕ) (o : List ℕ) (xs : List X) (i : ℕ) (d x : X) {m n : List ℕ} → i < length xs → get_or xs i d ≡ x
    → m ≡ o ++ flat_map f (take i xs) → n ≡ m ++ f x → n ≡ o ++ flat_map f (take (i + 1) xs)
one_more f o xs i d x within is before written =
    written ∙ ap (λ (bytes : List ℕ). bytes ++ f x) before ∙ flat_map_more f o (take i xs) x
    ∙ ap (λ (ys : List _). o ++ flat_map f ys) (ap (λ y. take i xs ++ y ∷ []) (sym is) ∙ sym (take_more xs i d within))
