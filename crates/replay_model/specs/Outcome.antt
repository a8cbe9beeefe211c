-- What a replay comes to.
use Rattle.std.specs.Prelude.{ℕ, ◌≡◌, ◌==◌, ◌&&◌, not, Bool, true, false, List, [], ◌∷◌, length, Option, Some, None, option_map, if◌then◌else◌}
use Rattle.std.specs.List.{list_all, filter_map}
use Rattle.rv_words.specs.declared.shared.Cause.{Cause}
use Rattle.rv_words.specs.declared.shared.Cause.TheVariants as causes
use Rattle.log_entry.specs.declared.log.Log.{Log}
use Rattle.orders_law.specs.Orders.{IsLeast}
use Rattle.order_rules.specs.Places.{harts}
use Rattle.replay_model.specs.Flat.{Flat}
use Rattle.replay_model.specs.State.{Replay, start}
use Rattle.replay_model.specs.Items.{Verdict, HasEnded, HasDiverged, verdict, step}

-- S: what is left of the state; the hart, its count and the rule of a divergence
pub data Outcome (S : Type 0) : Type 0 where
  Done : S → Outcome S
  Diverged : ℕ → ℕ → ℕ → S → Outcome S

abbrev pub is_stop : Cause → Bool
is_stop causes.Stop = true
is_stop _ = false

abbrev pub is_limit : Cause → Bool
is_limit causes.Limit = true
is_limit _ = false

abbrev pub same : Bool → Bool → Bool
same a b = if a then b else not b

abbrev pub rule_of : Verdict → Option ℕ
rule_of (HasDiverged rule) = Some rule
rule_of _ = None

abbrev pub is_ended : Verdict → Bool
is_ended HasEnded = true
is_ended _ = false

module _ {S V : Type 0} (flat : Flat S V) (log : Log) where
  -- the cause is stop exactly where stop is set, and limit exactly where it isn't and every count is the limit
  abbrev pub cause_agrees : S → Bool
  cause_agrees s =
      same (is_stop log.cause) (flat.is_stopped s)
      && same (is_limit log.cause) (not (flat.is_stopped s) && list_all (λ h. flat.count s h == log.limit) (harts log))

  abbrev pub all_ended : Replay S → Bool
  all_ended s = list_all (λ h. is_ended (verdict flat log s h)) (harts log)

  -- the diverged harts, rising, each with its rule
  abbrev pub diverged : Replay S → List (ℕ × ℕ)
  diverged s = filter_map (λ h. option_map (λ rule. (h, rule)) (rule_of (verdict flat log s h))) (harts log)

  abbrev pub least_diverged : Replay S → List (ℕ × ℕ) → Option (Outcome S)
  least_diverged s [] = None
  least_diverged s ((h, rule) ∷ others) = Some (Diverged h (flat.count s.flat h) rule s.flat)

  -- what a state comes to at which no hart can go; an orderly log leaves no state with neither all ended nor one diverged
  abbrev pub outcome_at : Replay S → Option (Outcome S)
  outcome_at s =
      if all_ended s then Some (if cause_agrees s.flat then Done s.flat else Diverged 0 (flat.count s.flat 0) 7 s.flat)
      else least_diverged s (diverged s)

  -- the state after the least order comes to this outcome
  abbrev pub IsOutcome : S → Outcome S → Type 0
  IsOutcome first outcome =
      (made : List (ℕ × Option V)) × ((end : Replay S) × IsLeast (step flat log) (length log.streams) (start log first) made end
      × (outcome_at end ≡ Some outcome))
