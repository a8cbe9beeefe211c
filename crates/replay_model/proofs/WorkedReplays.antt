-- Replays that were worked out by hand, by computation.
use Rattle.std.proofs.Common.{◌≡◌, ℕ, List, map, Option, refl, ◌∷◌, [], Some, None, zero, suc, false, lit<}
use Rattle.rv_words.specs.declared.shared.Mode.TheVariants.{Read, Write}
use Rattle.replay_model.specs.State.{Replay}
use Rattle.replay_model.specs.Items.{step}
use Rattle.orders_law.specs.Orders.{Leads}
use Rattle.order_rules.specs.Worked.{race_log}
use Rattle.replay_model.specs.Journal.{order_of}
use Rattle.replay_model.specs.State.{start}
use Rattle.replay_model.specs.Worked.{Scripted, ended, first, race_journal, racing, stopping, reserving, stop_log, late_poll_log, twice_diverged_log}
use Rattle.replay_model.specs.Worked.{losing_log, keeping_log, AreReplayed}
use Rattle.rv_words.specs.declared.shared.Input.TheVariants.{Nothing, Empty}
use Rattle.rv_words.specs.declared.shared.Cause.TheVariants.{Stop, Limit, Full}
use Rattle.replay_model.proofs.StepByStep.{leads, comes_to}

abbrev race_end : Replay Scripted
race_end = record {
  flat = ended (8 ∷ 8 ∷ []) false 5;
  cursor = record { places = 5 ∷ 5 ∷ []; numbers = 2 ∷ 6 ∷ []; ordinal = 2 };
  holders = (Some Read ∷ Some Read ∷ []) ∷ (None ∷ Some Write ∷ []) ∷ [];
}

over_race : (h : ℕ) → step racing race_log h race_end ≡ None
over_race zero = refl
over_race (suc zero) = refl
over_race (suc (suc h)) = refl

abbrev race_made : List (ℕ × Option ℕ)
race_made =
    (0, None) ∷ (0, None) ∷ (1, None) ∷ (1, None) ∷ (0, Some 0) ∷ (0, None) ∷ (1, Some 0) ∷ (1, None) ∷ (0, Some 1) ∷ (0, Some 2) ∷ (1, Some 1)
    ∷ (1, Some 2) ∷ (1, None) ∷ (0, None) ∷ (0, Some 3) ∷ (0, Some 4) ∷ (0, Some 5) ∷ (0, Some 6) ∷ (0, Some 7) ∷ (0, None) ∷ (1, None)
    ∷ (1, Some 3) ∷ (1, Some 4) ∷ (1, Some 5) ∷ (1, Some 6) ∷ (1, Some 7) ∷ []

race_goes : (map (λ (m : ℕ × Option ℕ). m.0) race_made ≡ order_of race_journal) × Leads (step racing race_log) (start race_log (first 2)) race_made race_end
race_goes = leads (step racing race_log) (order_of race_journal) (start race_log (first 2)) (race_made, race_end) refl

pub are_replayed : AreReplayed
are_replayed = record {
  smallest = comes_to stopping (stop_log Stop 5 0 0 Read 2 Nothing 3) (first 1) 8 _ refl;
  gain_late = comes_to stopping (stop_log Stop 5 0 1 Read 2 Nothing 3) (first 1) 8 _ refl;
  touch_early = comes_to stopping (stop_log Stop 5 0 0 Read 1 Nothing 3) (first 1) 8 _ refl;
  other_input = comes_to stopping (stop_log Stop 5 0 0 Read 2 Empty 3) (first 1) 8 _ refl;
  other_lines = comes_to stopping (stop_log Stop 5 1 0 Read 2 Nothing 3) (first 1) 8 _ refl;
  other_cause = comes_to stopping (stop_log Limit 5 0 0 Read 2 Nothing 3) (first 1) 8 _ refl;
  full_cause = comes_to stopping (stop_log Full 5 0 0 Read 2 Nothing 3) (first 1) 8 _ refl;
  later_time = comes_to stopping (stop_log Stop 6 0 0 Read 2 Nothing 3) (first 1) 8 _ refl;
  more_held = comes_to stopping (stop_log Stop 5 0 0 Write 2 Nothing 3) (first 1) 8 _ refl;
  later_end = comes_to stopping (stop_log Stop 5 0 0 Read 2 Nothing 4) (first 1) 8 _ refl;
  lines_before_stop = comes_to stopping late_poll_log (first 1) 8 _ refl;
  least_of_two = comes_to stopping twice_diverged_log (first 2) 8 _ refl;
  reservation_lost = comes_to reserving losing_log (first 1) 8 _ refl;
  reservation_kept = comes_to reserving keeping_log (first 1) 8 _ refl;
  race = comes_to racing race_log (first 2) 27 _ refl;
  journal = (race_end, (race_made, race_goes.0, record { leads = race_goes.1; over = over_race }));
  lean = (
    tt,
    (
      refl,
      (
        tt,
        (
          refl,
          (
            tt,
            (
              refl,
              (
                tt,
                (
                  refl,
                  (
                    tt,
                    (
                      tt,
                      (
                        tt,
                        (
                          tt,
                          (
                            record { hart = 0; mode = Write; other = λ e. cc; goes_on = lit< tt; wants = refl; conflicts = refl; leaves = refl },
                            (
                              refl,
                              (
                                tt,
                                (
                                  tt,
                                  (
                                    tt,
                                    (
                                      tt,
                                      (
                                        tt,
                                        (
                                          record {
                                            hart = 1;
                                            mode = Write;
                                            other = λ e. cc;
                                            goes_on = lit< tt;
                                            wants = refl;
                                            conflicts = refl;
                                            leaves =
                                                refl;
                                          },
                                          (refl, (tt, (tt, (tt, (tt, (tt, tt)))))),
                                        ),
                                      ),
                                    ),
                                  ),
                                ),
                              ),
                            ),
                          ),
                        ),
                      ),
                    ),
                  ),
                ),
              ),
            ),
          ),
        ),
      ),
    ),
  );
  inputs = record { console = refl; clock = refl; bytes = refl };
}
