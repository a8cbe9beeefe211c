-- What a function returned is what a format reads, unless memory ran out.
use Rattle.std.specs.Prelude.{◌≡◌, Result, Ok, Err}
use Rattle.log_entry.specs.declared.log.Log.{Log}
use Rattle.log_entry.specs.Room.{log_without_room}
use Rattle.log_format.specs.declared.fault.Stop.{Stop}
use Rattle.log_format.specs.declared.fault.Stop.TheVariants as stops
use Rattle.log_format.specs.declared.fault.ReadError.{ReadError}
use Rattle.log_format.specs.declared.fault.ReadError.TheVariants as errors
use Rattle.log_format.specs.Format.{Bad}

abbrev pub Fails : {Y : Type 0} → Stop → Result Y Bad → Type 0
Fails stops.NoMemory read = Unit {0}
Fails (stops.Bad left rule) read = read ≡ Err (left, rule)

abbrev pub Gives : {X Y : Type 0} → (X → Y) → Result X Stop → Result Y Bad → Type 0
Gives view (Ok x) read = read ≡ Ok (view x)
Gives view (Err e) read = Fails e read

-- the log that was read, or the bad field, is that of the reading
abbrev pub ReadsAs : Result Log ReadError → Result Log Bad → Type 0
ReadsAs (Ok log) read = read ≡ Ok (log_without_room log)
ReadsAs (Err errors.NoMemory) read = Unit {0}
ReadsAs (Err (errors.Malformed offset rule)) read = read ≡ Err (offset, rule)
