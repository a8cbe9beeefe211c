-- The steps of a turn in their order.
use Rattle.std.proofs.Common.{◌≡◌, ℕ, ◌+◌, ◌++◌, List, [], ◌∷◌, Option, Some, None, sym, ap, ◌∙◌, subst, arith}
use Rattle.flat_machine.specs.State.{FlatState}
use Rattle.run_model.specs.Run.{Run}
use Rattle.turn_model.specs.Board.{Board, Supply, Terms}
use Rattle.turn_model.specs.Ways.{Way, On, goes}
use Rattle.turn_model.specs.Steps.{rests_where_closed, rests_at_limit, polls, yields, gains, touches, goes_on}
use Rattle.crew_core.specs.declared.crew.Crew.{Crew}
use Rattle.crew_core.specs.declared.order.Order.{Order}
use Rattle.crew_parts.specs.Boards.{the_machine}
use Rattle.crew_core.specs.Standing.{terms_of}
use Rattle.crew_core.specs.Does.{Does}
use Rattle.turn_laws.specs.Supplies.{followed_by}
use Rattle.crew_core.specs.Calls.{first_steps, last_steps, device_steps, closing_steps, first_of, last_of, devices_of, closing_of, all_of}
use Rattle.crew_core.specs.Orders.{told}
use Rattle.crew_core.proofs.Going.{goes_append, ended}
use Rattle.crew_core.proofs.Sequence.{stop_at, pass}

abbrev Step : Type 0
Step = Board FlatState → Way FlatState

pub relabel : (c new : Crew) (r : Run) (h : ℕ) (answer : Option Order) (way : Way FlatState) (left other : Supply) → left ≡ other
    → Does c new r h answer way left → Does c new r h answer way other
relabel c new r h answer way left other same d = subst (Does c new r h answer way) same d

-- what an answer is said to be
pub answers_so : (c new : Crew) (r : Run) (h : ℕ) (answer other : Option Order) (way : Way FlatState) (left : Supply) → answer ≡ other
    → Does c new r h answer way left → Does c new r h other way left
answers_so c new r h answer other way left same d = subst (λ o. Does c new r h o way left) same d

with_times : (o : Supply) (left : List ℕ) → o.times ≡ [] ++ left → o ≡ record o { times = left }
with_times o left e = ap (λ ts. record o { times = ts }) e

module _ (h : ℕ) where
  abbrev behind_rests : Terms → List Step
  behind_rests t = polls the_machine t h ∷ yields the_machine t h ∷ rests_at_limit the_machine t h ∷ []

  abbrev behind_polls : Terms → List Step
  behind_polls t = yields the_machine t h ∷ rests_at_limit the_machine t h ∷ []

  abbrev behind_yields : Terms → List Step
  behind_yields t = rests_at_limit the_machine t h ∷ []

  -- the turn ends where the board is closed or stop is set
  pub first_rests : (c : Crew) (r : Run) (order : Order) (b : Board FlatState) (left : List ℕ) → b.supply.times ≡ [] ++ left
      → Does c c r h (Some order) (rests_where_closed the_machine (terms_of c) b) b.supply
      → Does c c r h (Some order) (first_of c h b) (record b.supply { times = left })
  first_rests c r order b left times d =
      relabel c c r h (Some order) (first_of c h b) b.supply (record b.supply { times = left }) (with_times b.supply left times)
      (stop_at c c r h order (rests_where_closed the_machine (terms_of c)) (behind_rests (terms_of c)) b b.supply d)

  module _ (c : Crew) (r : Run) (b : Board FlatState) (left : List ℕ) (rest : Does c c r h None (rests_where_closed the_machine (terms_of c) b) b.supply) where
    times_left : record rest.to.supply { times = left } ≡ record b.supply { times = left }
    times_left = ap (λ (o : Supply). record o { times = left }) rest.supply

    -- it ends with the Poll
    pub first_polls : (mid : Crew) (next : Run) (order : Order)
        → Does c mid next h (Some order) (polls the_machine (terms_of c) h rest.to) (record rest.to.supply { times = left })
        → Does c mid next h (Some order) (first_of c h b) (record b.supply { times = left })
    first_polls mid next order d =
        relabel c mid next h (Some order) (first_of c h b) (record rest.to.supply { times = left }) (record b.supply { times = left }) times_left
        (pass c c mid r next h (Some order) (rests_where_closed the_machine (terms_of c)) behind_rests b b.supply (record rest.to.supply { times = left }) rest
        (stop_at c mid next h order (polls the_machine (terms_of c) h) (behind_polls (terms_of c)) rest.to (record rest.to.supply { times = left }) d))

    module _ (mid : Crew) (next : Run) (poll : Does c mid next h None (polls the_machine (terms_of c) h rest.to) (record rest.to.supply { times = left })) where
      supply_left : poll.to.supply ≡ record b.supply { times = left }
      supply_left = poll.supply ∙ times_left

      -- it ends with a Yield
      pub first_yields : (new : Crew) (last : Run) (order : Order)
          → Does mid new last h (Some order) (yields the_machine (terms_of mid) h poll.to) poll.to.supply
          → Does c new last h (Some order) (first_of c h b) (record b.supply { times = left })
      first_yields new last order d =
          relabel c new last h (Some order) (first_of c h b) poll.to.supply (record b.supply { times = left }) supply_left
          (pass c c new r last h (Some order) (rests_where_closed the_machine (terms_of c)) behind_rests b b.supply poll.to.supply rest
          (pass c mid new next last h (Some order) (polls the_machine (terms_of c) h) behind_polls rest.to (record rest.to.supply { times = left })
          poll.to.supply poll
          (stop_at mid new last h order (yields the_machine (terms_of mid) h) (behind_yields (terms_of mid)) poll.to poll.to.supply d)))

      -- it rests at the limit, or goes on
      pub first_all : (new : Crew) (last : Run) (answer : Option Order)
          (yield : Does mid new last h None (yields the_machine (terms_of mid) h poll.to) poll.to.supply)
          → Does new new last h answer (rests_at_limit the_machine (terms_of new) h yield.to) yield.to.supply
          → Does c new last h answer (first_of c h b) (record b.supply { times = left })
      first_all new last answer yield d =
          relabel c new last h answer (first_of c h b) yield.to.supply (record b.supply { times = left }) (yield.supply ∙ supply_left)
          (pass c c new r last h answer (rests_where_closed the_machine (terms_of c)) behind_rests b b.supply yield.to.supply rest
          (pass c mid new next last h answer (polls the_machine (terms_of c) h) behind_polls rest.to (record rest.to.supply { times = left }) yield.to.supply
          poll
          (pass mid new new last last h answer (yields the_machine (terms_of mid) h) behind_yields poll.to poll.to.supply yield.to.supply yield d)))

  abbrev to_go : Terms → List Step
  to_go t = goes_on the_machine t h ∷ []

  -- the hart rests at the limit
  pub closing_rests : (c new : Crew) (r : Run) (order : Order) (b : Board FlatState)
      → Does c new r h (Some order) (rests_at_limit the_machine (terms_of c) h b) b.supply
      → Does c new r h (Some order) (closing_of c h b) b.supply
  closing_rests c new r order b d = stop_at c new r h order (rests_at_limit the_machine (terms_of c) h) (to_go (terms_of c)) b b.supply d

  -- or goes on
  pub closing_goes : (c : Crew) (r : Run) (order : Order) (b : Board FlatState)
      (rest : Does c c r h None (rests_at_limit the_machine (terms_of c) h b) b.supply)
      → Does c c r h (Some order) (goes_on the_machine (terms_of c) h rest.to) rest.to.supply → Does c c r h (Some order) (closing_of c h b) b.supply
  closing_goes c r order b rest d =
      relabel c c r h (Some order) (closing_of c h b) rest.to.supply b.supply rest.supply
      (pass c c c r r h (Some order) (rests_at_limit the_machine (terms_of c) h) to_go b b.supply rest.to.supply rest d)

  -- the turn ends with a Touch
  pub devices_end : (c new : Crew) (r : Run) (order : Order) (b : Board FlatState) (left : Supply)
      → Does c new r h (Some order) (touches the_machine (terms_of c) h b) left
      → Does c new r h (Some order) (devices_of c h b) left
  devices_end c new r order b left d = stop_at c new r h order (touches the_machine (terms_of c) h) (closing_steps (terms_of c) h) b left d

  -- or behind it
  pub devices_pass : (c mid new : Crew) (r last : Run) (order : Order) (b : Board FlatState) (left : Supply)
      (touch : Does c mid r h None (touches the_machine (terms_of c) h b) left)
      → Does mid new last h (Some order) (closing_of mid h touch.to) touch.to.supply → Does c new last h (Some order) (devices_of c h b) left
  devices_pass c mid new r last order b left touch d =
      relabel c new last h (Some order) (devices_of c h b) touch.to.supply left touch.supply
      (pass c mid new r last h (Some order) (touches the_machine (terms_of c) h) (λ t. closing_steps t h) b left touch.to.supply touch d)

  -- the turn ends with a Gain
  pub last_gains : (c new : Crew) (next : Run) (order : Order) (b : Board FlatState)
      → Does c new next h (Some order) (gains the_machine (terms_of c) h b) b.supply
      → Does c new next h (Some order) (last_of c h b) b.supply
  last_gains c new next order b d = stop_at c new next h order (gains the_machine (terms_of c) h) (device_steps (terms_of c) h) b b.supply d

  -- or behind it
  pub last_pass : (c mid new : Crew) (r last : Run) (order : Order) (b : Board FlatState) (left : Supply)
      (gain : Does c mid r h None (gains the_machine (terms_of c) h b) b.supply)
      → Does mid new last h (Some order) (devices_of mid h gain.to) left → Does c new last h (Some order) (last_of c h b) left
  last_pass c mid new r last order b left gain d = pass c mid new r last h (Some order) (gains the_machine (terms_of c) h) (λ t. device_steps t h) b b.supply
      left gain d

  all_is : (t : Terms) (b : Board FlatState) → goes (first_steps t h ++ last_steps t h) (On b) ≡ goes (last_steps t h) (goes (first_steps t h) (On b))
  all_is t b = goes_append (first_steps t h) (last_steps t h) (On b)

  -- the turn ends in its first steps
  pub all_first : (c new : Crew) (r : Run) (order : Order) (b : Board FlatState) (left : Supply) → Does c new r h (Some order) (first_of c h b) left
      → Does c new r h (Some order) (all_of c h b) left
  all_first c new r order b left d = record {
    to = d.to;
    is = all_is (terms_of c) b ∙ ap (goes (last_steps (terms_of c) h)) d.is ∙ ended (told order) d.to (last_steps (terms_of c) h);
    supply = d.supply;
    stands = d.stands;
    agrees = d.agrees;
    terms = d.terms;
  }

  -- or in its last ones
  pub all_last : (c mid new : Crew) (r last : Run) (answer : Option Order) (b : Board FlatState) (between left : Supply)
      (first : Does c mid r h None (first_of c h b) between) → Does mid new last h answer (last_of mid h first.to) left
      → Does c new last h answer (all_of c h b) left
  all_last c mid new r last answer b between left first d = record {
    to = d.to;
    is = all_is (terms_of c) b ∙ ap (goes (last_steps (terms_of c) h)) first.is ∙ ap (λ t. goes (last_steps t h) (On first.to)) (sym first.terms) ∙ d.is;
    supply = d.supply;
    stands = d.stands;
    agrees = d.agrees;
    terms = d.terms ∙ first.terms;
  }

-- what is left of a supply of which times alone were given
pub times_given : (o left : Supply) (times : List ℕ) → o ≡ followed_by (record { answers = []; takes = 0; times = times }) left
    → record o { times = left.times } ≡ left
times_given o left times e =
    let n : 0 + left.takes ≡ left.takes = omega arith in
    ap (λ (z : Supply). record z { times = left.times }) e ∙ ap (λ k. record left { takes = k }) n
