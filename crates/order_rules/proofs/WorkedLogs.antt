-- What the rules say of logs that were worked out by hand, by computation.
use Rattle.std.proofs.Common.{refl, inl, inr, ◌∷◌, []}
use Rattle.order_rules.specs.Worked.{AreBroken, HoldersAreKept, AreJudged}

pub are_broken : AreBroken
are_broken = record {
  no_entry = refl;
  no_end = refl;
  count_falls = refl;
  end_in_mid_stream = refl;
  poll_after_gain = refl;
  two_polls = refl;
  gain_after_touch = refl;
  two_touches = refl;
  end_at_touch = refl;
  no_poll_at_first = refl;
  no_poll_later = refl;
  stray_poll = refl;
  poll_at_limit = refl;
  poll_at_end = refl;
  number_left_out =
      refl;
  write_beside_read = refl;
  read_beside_write = refl;
  gains_no_more = refl;
  yields_nothing = refl;
  yields_not_held = refl;
  no_wait = refl;
  own_wait = refl;
  own_yield = refl;
  waits_in_order = refl;
  wait_too_few = refl;
  wait_too_many = refl;
  wrong_count_of_a_wait = refl;
  wrong_hart_of_a_wait = refl;
  swapped_waits = refl;
  waits_of_the_latest = refl;
  yield_before_its_own_gain = refl;
  yield_before_another_gain = refl;
  ordinal_twice = refl;
  ordinal_left_out = refl;
  time_falls = refl;
  input_falls = refl;
  nothing_has_no_time = refl;
  interrupt = refl;
  code = refl;
  full = refl;
}

are_held : HoldersAreKept
are_held = record { one = refl; three = refl; given_back = refl }

pub are_judged : AreJudged
are_judged = record {
  broken = are_broken;
  held = are_held;
  smallest = record {
    counts_rise_to_the_end = refl;
    kinds_in_order_at_a_count = refl;
    polls_where_due = refl;
    touches_go_on = refl;
    pages_are_numbered =
        refl;
    holders_are_crew =
        refl;
    gains_name_their_waits =
        refl;
    ordinals_and_times_rise =
        refl;
    least_order_takes_all =
        ((0, 0) ∷ (0, 1) ∷ (0, 2) ∷ (0, 3) ∷ [], (_, (refl, (_, refl, (refl, (_, refl, (refl, (_, refl, (refl, (_, refl, (refl, refl))))))))), refl));
  };
  race = record {
    counts_rise_to_the_end = refl;
    kinds_in_order_at_a_count = refl;
    polls_where_due = refl;
    touches_go_on = refl;
    pages_are_numbered = refl;
    holders_are_crew =
        refl;
    gains_name_their_waits =
        refl;
    ordinals_and_times_rise =
        refl;
    least_order_takes_all = (
      (0, 0) ∷ (0, 1) ∷ (0, 2) ∷ (1, 0) ∷ (1, 1) ∷ (1, 2) ∷ (1, 3) ∷ (0, 3) ∷ (0, 4) ∷ (0, 5) ∷ (1, 4) ∷ (1, 5) ∷ [],
      (
        _,
        (
          refl,
          (
            _,
            refl,
            (
              refl,
              (
                _,
                refl,
                (
                  refl,
                  (
                    _,
                    refl,
                    (
                      refl,
                      (
                        _,
                        refl,
                        (
                          refl,
                          (
                            _,
                            refl,
                            (
                              refl,
                              (
                                _,
                                refl,
                                (
                                  refl,
                                  (_, refl, (refl, (_, refl, (refl, (_, refl, (refl, (_, refl, (refl, (_, refl, (refl, (_, refl, (refl, refl)))))))))))),
                                ),
                              ),
                            ),
                          ),
                        ),
                      ),
                    ),
                  ),
                ),
              ),
            ),
          ),
        ),
        refl,
      ),
    );
  };
  twice = inl refl;
  crossed = inr (refl, refl, ([], (_, (refl, refl), refl)));
  end_above_limit = inl refl;
  number_of_gain = inl refl;
  ordinal_of_touch = inl refl;
}
