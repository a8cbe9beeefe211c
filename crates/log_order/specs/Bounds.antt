-- What log_order uses of a log's range.
use Rattle.std.specs.Prelude.{ℕ, ◌≡◌, ◌<◌, ◌≤◌, ◌^◌, length, Some}
use Rattle.log_entry.specs.declared.log.Entry.{Entry}
use Rattle.log_entry.specs.declared.log.Log.{Log}
use Rattle.log_entry.specs.Parts.{page_number, units_of}
use Rattle.order_rules.specs.Places.{stream, entry_at}

pub record IsSmall (log : Log) : Type 0 where
  pub harts : length log.streams ≤ 8
  pub short : (h : ℕ) → length (stream log h) < 2 ^ 32
  pub limit : log.limit < 2 ^ 62
  pub pages : (h i : ℕ) (e : Entry) (n : ℕ × ℕ) → entry_at log h i ≡ Some e → page_number e ≡ Some n → n.0 < units_of log
