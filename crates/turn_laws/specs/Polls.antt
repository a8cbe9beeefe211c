-- The Polls of a stream, as one number.
use Rattle.std.specs.Prelude.{ℕ, ◌≡◌, ◌%◌, nat_lt, List}
use Rattle.rv_words.specs.Limits.{poll_distance}
use Rattle.log_entry.specs.declared.log.Entry.{Entry}
use Rattle.order_rules.specs.Rules.{has_poll}

-- of the counts at which a Poll is due, those below this one have theirs: it is the least that has none
pub record IsPolledTo (entries : List Entry) (due : ℕ) : Type 0 where
  pub multiple : due % poll_distance ≡ 0
  pub below : (n : ℕ) → n % poll_distance ≡ 0 → has_poll entries n ≡ nat_lt n due
