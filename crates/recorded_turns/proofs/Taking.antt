-- What one turn takes, and one behind another.
use Rattle.std.proofs.Common.{◌≡◌, ℕ, ◌+◌, ◌%◌, List, [], ◌++◌, Option, Some, None, refl, sym, ap, ap₂, ◌∙◌, subst, append_assoc, append-nil, arith}
use Rattle.std.specs.Option.{option_and_then}
use Rattle.std.proofs.lemmas.List.{length-append}
use Rattle.rv_words.specs.declared.shared.Cause.{Cause}
use Rattle.rv_words.specs.declared.shared.Cause.TheVariants.{Stop, Limit, Full, Cut, Fault}
use Rattle.outside.specs.Causes.{Rose}
use Rattle.outside.specs.Seen.{ToldBefore}
use Rattle.flat_machine.specs.State.{FlatState}
use Rattle.run_model.specs.Run.{Run}
use Rattle.turn_model.specs.Board.{Board, Order, Supply, Terms}
use Rattle.turn_model.specs.Turn.{turn}
use Rattle.turn_model.specs.Rounds.{with_favoured}
use Rattle.turn_laws.specs.Supplies.{followed_by}
use Rattle.turn_laws.proofs.GoingOn.{joined}
use Rattle.turn_laws.proofs.MoreAnswers.{turn_carried}
use Rattle.crew_parts.specs.Boards.{Plain, World, the_machine, board_of, spent, state_of, terms_of}
use Rattle.crew_parts.specs.Turns.{CountsFaults, Gives, HasTurn, IsSpent, SameTerms, SentIsTaken, Took}
use Rattle.recorded_turns.specs.Takes.{Takes}
use Rattle.recorded_turns.specs.Laws.{IsTaken, TakesNone, TakesThen, TakesTurn, TakesFavour}
use Rattle.crew_parts.proofs.Turned.{first_spent}

-- what was given, and then more
took_then : (k j : ℕ) (xs ys zs : List ℕ) → Took k xs ys → Took j ys zs → Took (k + j) xs zs
took_then k j xs ys zs one two = (
  one.0 ++ two.0,
  length-append one.0 two.0 ∙ ap₂ (λ a b. a + b) one.1 two.1,
  two.2 ∙ ap (λ l. l ++ two.0) one.2 ∙ append_assoc xs one.0 two.0,
)

pub gives_then : (u v w : World) (a b : Supply) → Gives u v a → Gives v w b → Gives u w (followed_by a b)
gives_then u v w a b one two = record {
  tells_answers = λ t. one.tells_answers (two.tells_answers t);
  tells_taken = λ t. one.tells_taken (two.tells_taken t);
  tells_times = λ t. one.tells_times (two.tells_times t);
  answers = λ t.
      two.answers t ∙ ap (λ l. l ++ b.answers) (one.answers (two.tells_answers t)) ∙ append_assoc u.console.answers a.answers b.answers;
  taken = λ t. took_then a.takes b.takes u.console.taken v.console.taken w.console.taken (one.taken (two.tells_taken t)) (two.taken t);
  times = λ t. two.times t ∙ ap (λ l. l ++ b.times) (one.times (two.tells_times t)) ∙ append_assoc u.clock.answers a.times b.times;
}

pub gives_none : (u : World) → Gives u u spent
gives_none u = record {
  tells_answers = λ t. t;
  tells_taken = λ t. t;
  tells_times = λ t. t;
  answers = λ t. sym (append-nil u.console.answers);
  taken = λ t. ([], refl, sym (append-nil u.console.taken));
  times = λ t. sym (append-nil u.clock.answers);
}

-- what was sent, over two
sent_then : (p m q : Plain) → ToldBefore m.now.console.tells_taken q.now.console.tells_taken → SentIsTaken p m → SentIsTaken m q → SentIsTaken p q
sent_then p m q told one two tells =
    let a = one (told tells) in
    let b = two tells in (
      a.0 ++ b.0,
      b.1 ∙ ap (λ l. l ++ b.0) a.1 ∙ append_assoc p.now.console.taken a.0 b.0,
      b.2 ∙ ap (λ l. l ++ b.0) a.2 ∙ append_assoc (state_of p).flat.devices.sent a.0 b.0,
    )

pub sent_none : (p : Plain) → SentIsTaken p p
sent_none p tells = ([], sym (append-nil p.now.console.taken), sym (append-nil (state_of p).flat.devices.sent))

-- the count of faults, over two
faults_then : (a b c : Option Cause) (x y z : ℕ) → ((cause : Cause) → a ≡ Some cause → b ≡ Some cause) → ((cause : Cause) → b ≡ Some cause → c ≡ Some cause)
    → CountsFaults a b x y → CountsFaults b c y z → CountsFaults a c x z
faults_then None None c x y z one two e f = subst (λ k. CountsFaults None c k z) e f
faults_then None (Some Fault) c x y z one two e f =
    subst (λ o. CountsFaults None o x z) (sym (two Fault refl)) (subst (λ k. Rose x k) (sym (same_so c f)) e) where
      same_so : (c : Option Cause) → CountsFaults (Some Fault) c y z → z ≡ y
      same_so c f = f
faults_then None (Some Stop) c x y z one two e f = subst (λ o. CountsFaults None o x z) (sym (two Stop refl)) (f ∙ e)
faults_then None (Some Limit) c x y z one two e f = subst (λ o. CountsFaults None o x z) (sym (two Limit refl)) (f ∙ e)
faults_then None (Some Full) c x y z one two e f = subst (λ o. CountsFaults None o x z) (sym (two Full refl)) (f ∙ e)
faults_then None (Some Cut) c x y z one two e f = subst (λ o. CountsFaults None o x z) (sym (two Cut refl)) (f ∙ e)
faults_then (Some k) b c x y z one two e f = subst (λ o. CountsFaults o c y z) (one k refl) f ∙ e

faults_none : (a : Option Cause) (x : ℕ) → CountsFaults a a x x
faults_none None x = refl
faults_none (Some k) x = refl

pub same_then : (p m q : Plain) → SameTerms p m → SameTerms m q → SameTerms p q
same_then p m q one two = record {
  image = two.image ∙ one.image;
  harts = two.harts ∙ one.harts;
  limit = two.limit ∙ one.limit;
  log_limit = two.log_limit ∙ one.log_limit;
  first = two.first ∙ one.first;
}

pub takes_none : TakesNone
takes_none p = record {
  of_terms = refl;
  same = record { image = refl; harts = refl; limit = refl; log_limit = refl; first = refl };
  given = spent;
  gives = gives_none p.now;
  comes = λ left no_more. ap (λ o. Some (board_of p o)) (first_spent left);
  shut = λ cause e. e;
  silent = λ e. (refl, refl);
  faults = faults_none p.closed p.now.console.faults;
  sent = sent_none p;
}

-- nothing of two that give nothing
pub spent_then : (a b : Supply) → IsSpent a → IsSpent b → IsSpent (followed_by a b)
spent_then a b one two = (ap₂ (λ x y. x ++ y) one.0 two.0, ap₂ (λ x y. x + y) one.1 two.1)

-- what a first part and a second come to
abbrev pub Comes : {terms : Terms} {f g : Board FlatState → Option (Board FlatState)} (p m q : Plain) → Takes terms f p m → Takes terms g m q
    → (Supply → Supply → Type 0) → Type 0
Comes {terms} {f} {g} p m q one two P =
    (left : Supply) → f (board_of p (followed_by one.given (followed_by two.given left))) ≡ Some (board_of m (followed_by two.given left))
    → g (board_of m (followed_by two.given left)) ≡ Some (board_of q left) → P (followed_by one.given (followed_by two.given left)) left

pub taken_both : (terms : Terms) (f g : Board FlatState → Option (Board FlatState)) (p m q : Plain) (one : Takes terms f p m) (two : Takes terms g m q)
    (P : Supply → Supply → Type 0) → Comes p m q one two P → IsTaken p q P
taken_both terms f g p m q one two P comes = record {
  given = followed_by one.given two.given;
  gives = gives_then p.now m.now q.now one.given two.given one.gives two.gives;
  faults =
      faults_then p.closed m.closed q.closed p.now.console.faults m.now.console.faults q.now.console.faults one.shut two.shut one.faults two.faults;
  sent = sent_then p m q two.gives.tells_taken one.sent two.sent;
  so = λ left no_more. subst (λ o. P o left) (sym (joined one.given two.given left)) (comes left
      (one.comes (followed_by two.given left) (λ fault. spent_then two.given left (two.silent fault) (no_more (two.shut Fault fault))))
      (two.comes left no_more));
}

pub takes_both : (terms : Terms) (f g k : Board FlatState → Option (Board FlatState)) (p m q : Plain) (one : Takes terms f p m) (two : Takes terms g m q)
    → Comes p m q one two (λ given left. k (board_of p given) ≡ Some (board_of q left)) → Takes terms k p q
unfolding taken_both
takes_both terms f g k p m q one two comes =
    let t = taken_both terms f g p m q one two (λ given left. k (board_of p given) ≡ Some (board_of q left)) comes in
    record {
      of_terms = one.of_terms;
      same = same_then p m q one.same two.same;
      given = followed_by one.given two.given;
      gives = gives_then p.now m.now q.now one.given two.given one.gives two.gives;
      comes = t.so;
      shut = λ cause e. two.shut cause (one.shut cause e);
      silent = λ e. spent_then one.given two.given (one.silent e) (two.silent (one.shut Fault e));
      faults = t.faults;
      sent = t.sent;
    }

pub takes_then : TakesThen
takes_then terms f g p m q one two =
    takes_both terms f g (λ b. option_and_then g (f b)) p m q one two (λ left first second. ap (option_and_then g) first ∙ second)

-- what comes to nothing was given nothing
none_given : (given : Supply) → spent ≡ followed_by given spent → IsSpent given
none_given given e = (
  sym (append-nil given.answers) ∙ sym (ap (λ (o : Supply). o.answers) e),
  (let t = ap (λ (o : Supply). o.takes) e in omega (arith, t)),
)

-- a console that failed gives nothing in a turn
pub turn_silent : (p q : Plain) (h : ℕ) (before after : Run) (order : Order) (is : HasTurn p q h before after order) → p.closed ≡ Some Fault → IsSpent is.given
turn_silent p q h before after order is fault =
    none_given is.given ((turn_carried the_machine (terms_of p) h is.moves (board_of p (followed_by is.given spent)) (board_of q spent)
    (is.turned spent (λ _. (refl, refl)))).shut Fault fault).1

pub takes_turn : TakesTurn
takes_turn terms p q h before after order of is =
    let closed = is.turned spent (λ _. (refl, refl)) in
    let carried = turn_carried the_machine (terms_of p) h is.moves (board_of p (followed_by is.given spent)) (board_of q spent) closed in
    record {
      of_terms = of;
      same = is.terms;
      given = is.given;
      gives = is.gives;
      comes = λ left no_more.
          subst (λ t. turn the_machine t h is.moves (board_of p (followed_by is.given left)) ≡ Some (board_of q left)) of (is.turned left no_more);
      shut = λ cause e. (carried.shut cause e).0;
      silent = turn_silent p q h before after order is;
      faults = is.faults;
      sent = is.sent;
    }

pub takes_favour : TakesFavour
unfolding state_of
takes_favour p r size = record {
  of_terms = refl;
  same = record { image = refl; harts = refl; limit = refl; log_limit = refl; first = refl };
  given = spent;
  gives = gives_none p.now;
  comes = λ left no_more.
      ap (λ o. Some (with_favoured r (board_of p o))) (first_spent left)
      ∙ ap (λ n. Some (board_of (record p { favoured = r % n }) left)) size;
  shut = λ cause e. e;
  silent = λ e. (refl, refl);
  faults = faults_none p.closed p.now.console.faults;
  sent = sent_none p;
}
