-- When a board is over, what a cut takes, and how much is left.
use Rattle.std.proofs.Common.{◌≡◌, ℕ, zero, suc, ◌+◌, ◌-◌, ◌*◌, ◌<◌, ◌==◌, ◌&&◌, ◌||◌, not, nat_lt, Bool, true, false, List, [], ◌∷◌, ◌++◌, map, length}
use Rattle.std.proofs.Common.{Some, None, is_some, slice_index, unwrap_or, refl, sym, ap, ap₂, ◌∙◌, subst, arith, if◌then◌else◌}
use Rattle.std.specs.List.{list_all, list_any}
use Rattle.std.proofs.lemmas.Bool.{or_parts}
use Rattle.std.proofs.lemmas.Option.{none-some, same_Some}
use Rattle.std.proofs.lemmas.List.{map-append}
use Rattle.std.proofs.lemmas.List.Folds.{list_all-map}
use Rattle.shared_types.proofs.Lists.{is_nothing}
use Rattle.rv_words.specs.declared.shared.Cause.TheVariants.{Cut}
use Rattle.orders_law.specs.Orders.{below}
use Rattle.turn_model.specs.Board.{Supply, Terms, closes, harts, is_over}
use Rattle.turn_model.specs.Lists.{whole_leg, listed, cut, closed_after}
use Rattle.turn_model.specs.Rounds.{round, rounds}
use Rattle.turn_laws.specs.Supplies.{followed_by}
use Rattle.turn_laws.proofs.Legs.{reached_are_crew}
use Rattle.turn_laws.proofs.LegsAtOnce.{begin_still}
use Rattle.round_progress.specs.Measure.{left_of, rounds_left}
use Rattle.round_progress.proofs.BoardLaws.{rounds_fall}
use Rattle.round_progress.proofs.RoundEnds.{rounds_bound}
use Rattle.crew_parts.specs.Boards.{Plain, the_machine, board_of, is_over_in, plain_at_start, spent, state_of, terms_of}
use Rattle.crew_parts.specs.Turns.{CountsFaults}
use Rattle.crew_parts.proofs.Laws.{first_boards}
use Rattle.recorded_turns.specs.Takes.{Takes}
use Rattle.recorded_turns.specs.Laws.{OverIsOver, CutIsTaken, ClosesAreTaken, FirstRoundIsTaken, LessIsLeft, LittleIsLeft, left_in}
use Rattle.recorded_turns.proofs.Taking.{Comes, gives_none, sent_none, takes_none, taken_both, takes_both}
use Rattle.recorded_turns.proofs.Loops.{leg_left, takes_by, terms_stay}
use Rattle.crew_parts.proofs.Turned.{first_spent}

-- the numbers below one more are 0 and the others' successors
below_more : (n : ℕ) → below (suc n) ≡ 0 ∷ map suc (below n)
below_more zero = refl
below_more (suc n) = ap (λ xs. xs ++ suc n ∷ []) (below_more n) ∙ ap (λ xs. 0 ∷ xs) (sym (map-append suc (below n) (n ∷ [])))

-- a test of each number of a list, by its places
all_at : (f : ℕ → Bool) (xs : List ℕ) → list_all (λ h. f (slice_index xs h)) (below (length xs)) ≡ list_all f xs
all_at f [] = refl
all_at f (x ∷ xs) =
    ap (list_all (λ h. f (slice_index (x ∷ xs) h))) (below_more (length xs))
    ∙ ap (λ b. f x && b) (list_all-map (λ h. f (slice_index (x ∷ xs) h)) suc (below (length xs)) ∙ all_at f xs)

pub over_is_over : OverIsOver
over_is_over p left whole reached counts =
    let crew = reached_are_crew (terms_of p) p.image p.harts reached.0 whole refl (board_of p spent) reached.1 in
    let size : length p.streams ≡ length p.counts = crew.1 ∙ sym (ap (λ (ks : List ℕ). length ks) counts ∙ crew.0.counts_size) in
    ap (λ b. is_some p.closed || b)
    (ap₂ (λ (ks : List ℕ) n. list_all (λ h. slice_index ks h == p.limit) (below n)) (sym counts) size ∙ all_at (λ n. n == p.limit) p.counts)

-- a board that is over stays
cut_over : (p : Plain) → ((o : Supply) → is_over the_machine (terms_of p) (board_of p o) ≡ true)
    → Takes (terms_of p) (λ b. Some (cut the_machine (terms_of p) b)) p p
cut_over p over =
    takes_by (terms_of p) (λ b. Some b) (λ b. Some (cut the_machine (terms_of p) b)) p p
    (λ o. ap (λ c. Some (if c then board_of p o else closes Cut (board_of p o))) (over o)) (takes_none p)

-- and one that isn't is closed
cut_short : (p : Plain) → p.closed ≡ None → ((o : Supply) → is_over the_machine (terms_of p) (board_of p o) ≡ false)
    → Takes (terms_of p) (λ b. Some (cut the_machine (terms_of p) b)) p (record p { closed = Some Cut })
unfolding state_of
cut_short p none over = record {
  of_terms = refl;
  same = record { image = refl; harts = refl; limit = refl; log_limit = refl; first = refl };
  given = spent;
  gives = gives_none p.now;
  comes = λ left no_more.
      ap (λ c. Some (if c then board_of p (followed_by spent left) else closes Cut (board_of p (followed_by spent left)))) (over (followed_by spent left))
      ∙ ap (λ k. Some (record (board_of p (followed_by spent left)) { closed = Some (unwrap_or k Cut) })) none
      ∙ ap (λ o. Some (board_of (record p { closed = Some Cut }) o)) (first_spent left);
  shut = λ cause e. absurd (none-some _ (sym none ∙ e));
  silent = λ e. absurd (none-some _ (sym none ∙ e));
  faults = subst (λ o. CountsFaults o (Some Cut) p.now.console.faults p.now.console.faults) (sym none) refl;
  sent = sent_none p;
}

pub cut_is_taken : CutIsTaken
cut_is_taken p whole reached counts = by (is_over_in p) refl where
  by : (c : Bool) → is_over_in p ≡ c → Takes (terms_of p) (λ b. Some (cut the_machine (terms_of p) b)) p (if c then p else record p { closed = Some Cut })
  by true e = cut_over p (λ o. over_is_over p o whole reached counts ∙ e)
  by false e =
      cut_short p (is_nothing p.closed (or_parts (is_some p.closed) (list_all (λ n. n == p.limit) p.counts) e).0)
      (λ o. over_is_over p o whole reached counts ∙ e)

pub closes_are_taken : ClosesAreTaken
closes_are_taken terms p m q one two =
    let rows = map (λ (h : ℕ). (h, 0)) (harts (board_of p spent)) in
    takes_both terms (λ b. Some (cut the_machine terms b)) (listed the_machine terms rows) (closed_after the_machine terms) p m q one two
    (λ left first second. ap (listed the_machine terms rows) (same_Some _ _ first) ∙ second)

-- how much is left doesn't hang on what is left to give
left_same : (terms : Terms) (p : Plain) (o : Supply) (hs : List ℕ)
    → left_of the_machine terms (board_of p o) hs ≡ left_of the_machine terms (board_of p spent) hs
left_same terms p o [] = refl
left_same terms p o (h ∷ hs) = ap (λ n. (terms.limit - slice_index (state_of p).flat.counts h) + n) (left_same terms p o hs)

any_same : (f g : ℕ → Bool) → ((h : ℕ) → f h ≡ g h) → (hs : List ℕ) → list_any f hs ≡ list_any g hs
any_same f g same [] = refl
any_same f g same (h ∷ hs) = ap₂ (λ a b. a || b) (same h) (any_same f g same hs)

rounds_left_same : (terms : Terms) (p : Plain) (o : Supply) → rounds_left the_machine terms (board_of p o) ≡ rounds_left the_machine terms (board_of p spent)
rounds_left_same terms p o =
    ap₂ (λ n b. 2 * n + (if b then 0 else 1)) (left_same terms p o (harts (board_of p spent)))
    (any_same (λ h. nat_lt 0 (whole_leg the_machine terms h (board_of p o))) (λ h. nat_lt 0 (whole_leg the_machine terms h (board_of p spent)))
    (λ h. ap (λ n. nat_lt 0 n) (leg_left terms p h o)) (harts (board_of p spent)))

pub less_is_left : LessIsLeft
less_is_left image harts limit log_limit n world p q whole one short two open_still =
    (taken_both (terms_of start) (rounds the_machine (terms_of start) 0 n) (round the_machine (terms_of start) n (not (n == 0))) start p q one two
    (λ given left. left_in q < left_in p) falls).so spent (λ _. (refl, refl))
  where
    start : Plain
    start = plain_at_start image harts limit log_limit world

    of_p : terms_of p ≡ terms_of start
    of_p = terms_stay start p one.same

    of_q : terms_of q ≡ terms_of start
    of_q = terms_stay p q two.same ∙ of_p

    falls : Comes start p q one two (λ given left. left_in q < left_in p)
    falls left first second =
        let b = board_of p (followed_by two.given left) in
        let c = board_of q left in
        let less =
        rounds_fall (terms_of start) image harts (followed_by one.given (followed_by two.given left)) n b c whole refl
        (ap (rounds the_machine (terms_of start) 0 n) (sym (first_boards image harts limit log_limit world
        (followed_by one.given (followed_by two.given left))).0) ∙ first)
        (subst (λ t. is_over the_machine t b ≡ false) of_p short, second) (subst (λ t. is_over the_machine t c ≡ false) of_q open_still) in
        let before = ap (λ t. rounds_left the_machine t (board_of p spent)) of_p ∙ sym (rounds_left_same (terms_of start) p (followed_by two.given left)) in
        let behind = ap (λ t. rounds_left the_machine t (board_of q spent)) of_q ∙ sym (rounds_left_same (terms_of start) q left) in
        omega (arith, less, before, behind)

pub little_is_left : LittleIsLeft
little_is_left p = rounds_bound the_machine (terms_of p) (board_of p spent)

pub first_round_is_taken : FirstRoundIsTaken
first_round_is_taken image harts limit log_limit world q whole one =
    let start = plain_at_start image harts limit log_limit world in
    takes_by (terms_of start) (round the_machine (terms_of start) 0 true) (round the_machine (terms_of start) 0 false) start q
    (λ o. let is = (first_boards image harts limit log_limit world o).0 in
    ap (round the_machine (terms_of start) 0 false) is ∙ sym (begin_still (terms_of start) image harts o whole refl)
    ∙ sym (ap (round the_machine (terms_of start) 0 true) is)) one
