-- The crew before any turn.
use Rattle.std.proofs.Common.{vec_capacity, ◌≡◌, ℕ, zero, suc, ◌+◌, ◌*◌, ◌/◌, ◌≤◌, List, [], ◌∷◌, length, replicate, Option, Some, None}
use Rattle.std.proofs.Common.{slice_get, slice_index, unwrap_or, refl, sym, ap, ◌∙◌, subst, arith}
use Rattle.std.proofs.lemmas.List.{length-replicate}
use Rattle.std.proofs.lemmas.Option.{none-some, same_Some}
use Rattle.rv_words.specs.Limits.{page_bytes}
use Rattle.board_backing.specs.Ends.{HasPlaces}
use Rattle.elf_image.specs.Image.{Image, IsWhole}
use Rattle.log_entry.specs.declared.log.Entry.{Entry}
use Rattle.log_entry.specs.declared.log.Log.{Log}
use Rattle.flat_machine.specs.State.{flat_at_start}
use Rattle.order_rules.specs.Holders.{nobody, IsCrew}
use Rattle.privilege_directory.specs.Directory.{Directory, directory_at_start}
use Rattle.crew_core.specs.Standing.{WaitsFollow}
use Rattle.privilege_directory.proofs.Table.{nobody_crew}
use Rattle.order_rules.specs.Rules.{waits_due}
use Rattle.privilege_directory.specs.Directory.{by_others}
use Rattle.board_backing.specs.declared.backing.Backing.{Backing}
use Rattle.board_backing.specs.Backing.{BacksFirst, backing_at_start}
use Rattle.turn_model.specs.Board.{Supply, board_at_start}
use Rattle.turn_model.specs.Laws.{IsPagedBoard}
use Rattle.turn_model.proofs.BoardFacts.{start_is_board}
use Rattle.crew_core.specs.declared.crew.Crew.{Crew}
use Rattle.crew_core.specs.declared.seat.Seat.{Seat}
use Rattle.crew_core.specs.Seats.{no_seat}
use Rattle.crew_core.specs.Standing.{Stands, IsNear, IsLatestPoll, log_so_far, terms_of}
use Rattle.crew_core.proofs.Sizes.{size_begin}
use Rattle.crew_core.proofs.Seated.{lanes, orders}

lanes_begin : (n : ℕ) → lanes (replicate n no_seat) ≡ replicate n []
lanes_begin zero = refl
lanes_begin (suc n) = ap (λ zs. [] ∷ zs) (lanes_begin n)

same_of : {X : Type 0} (n i : ℕ) (x y : X) → slice_get (replicate n x) i ≡ Some y → y ≡ x
same_of zero i x y e = absurd (none-some _ e)
same_of (suc n) zero x y e = sym (same_Some _ _ e)
same_of (suc n) (suc i) x y e = same_of n i x y e

zero_of : (n i : ℕ) → slice_index (replicate n 0) i ≡ 0
zero_of zero i = refl
zero_of (suc n) zero = refl
zero_of (suc n) (suc i) = zero_of n i

nothing_of : {X : Type 0} (n i : ℕ) → unwrap_or (slice_get {X = Option X} (replicate n None) i) None ≡ None
nothing_of zero i = refl
nothing_of (suc n) zero = refl
nothing_of (suc n) (suc i) = nothing_of n i

empty_of : {X : Type 0} (n i : ℕ) → unwrap_or (slice_get {X = List X} (replicate n []) i) [] ≡ []
empty_of zero i = refl
empty_of (suc n) zero = refl
empty_of (suc n) (suc i) = empty_of n i

orders_begin : (n : ℕ) → orders (replicate n no_seat) ≡ replicate n None
orders_begin zero = refl
orders_begin (suc n) = ap (λ zs. None ∷ zs) (orders_begin n)

-- no entry of a page is taken, and its next number is 0
waits_begin : (log : Log) (pages : ℕ) → WaitsFollow log (replicate pages []) (replicate pages 0)
waits_begin log pages page h l = ap (waits_due log page h) (zero_of pages page) ∙ sym (ap (by_others h) (empty_of pages page))

pub begins : (c : Crew) (image : Image) (outside : Supply) → IsWhole image → 1 ≤ c.harts → c.harts ≤ 8 → c.log_limit ≤ 536870912 → c.pages ≡ image.pages
    → c.backing ≡ backing_at_start image c.harts → BacksFirst image c.harts c.backing
    → c.directory ≡ directory_at_start c.harts c.pages → c.seats ≡ replicate c.harts no_seat → c.ordinal ≡ 0 → c.size ≡ 49 + 13 * c.harts → c.favoured ≡ 0
    → c.closed ≡ None
    → HasPlaces c.ends c.harts (length image.bytes) → c.streams.items ≡ [] → c.harts ≤ vec_capacity c.streams
    → Stands c (board_at_start (terms_of c) c.harts (flat_at_start image c.harts) outside)
begins c image outside whole least most log pages backing backs directory seats ordinal size favoured closed places empty room =
    let b = board_at_start (terms_of c) c.harts (flat_at_start image c.harts) outside in
    let streams : length (replicate c.harts (let none : List Entry = [] in none)) ≡ c.harts = length-replicate c.harts [] in
    let number : c.pages ≡ length image.bytes / image.unit = pages
    ∙ subst (λ u. image.pages ≡ length image.bytes / u) (sym whole.unit) (let z = whole.size in omega (arith, z)) in
    let holders : nobody c.pages (length (replicate c.harts (let none : List Entry = [] in none))) ≡ nobody c.pages c.harts = ap (nobody c.pages) streams in
    record {
      unit_is = ap (λ (z : Backing). z.pages.unit) backing ∙ whole.unit;
      some = omega (arith, pages, (let z = whole.least_pages in z));
      backs = backs b.at (refl, holders ∙ ap (λ n. nobody n c.harts) number);
      holders = ap (λ (d : Directory). d.holders) directory ∙ sym holders;
      numbers = ap (λ (d : Directory). d.numbers) directory;
      wants = ap (λ (d : Directory). d.wants) directory;
      waits = subst (λ ys. WaitsFollow (log_so_far (terms_of c) (replicate c.harts [])) ys (replicate c.pages 0))
          (sym (ap (λ (d : Directory). d.yields) directory)) (waits_begin (log_so_far (terms_of c) (replicate c.harts [])) c.pages);
      numbered = λ g i page k e at is. absurd (none-some e (sym (ap (λ s. slice_get s i) (empty_of c.harts g)) ∙ at));
      ordinal = ordinal;
      streams = ap lanes seats ∙ lanes_begin c.harts;
      counts = λ g s sits. ap (λ (z : Seat). z.count) (same_of c.harts g no_seat s (subst (λ xs. slice_get xs g ≡ Some s) seats sits))
          ∙ sym (zero_of c.harts g);
      polls = λ g s sits. subst (λ (z : Seat). IsLatestPoll z.lane.entries z.polled z.count)
          (sym (same_of c.harts g no_seat s (subst (λ xs. slice_get xs g ≡ Some s) seats sits))) (λ n. refl);
      orders = ap orders seats ∙ orders_begin c.harts;
      near = λ g s sits. subst (IsNear c.limit) (sym (same_of c.harts g no_seat s (subst (λ xs. slice_get xs g ≡ Some s) seats sits)))
          (omega arith, omega arith, omega arith);
      size = size ∙ sym (size_begin (terms_of c) b c.harts refl);
      favoured = favoured;
      closed = closed;
      harts = ap length seats ∙ length-replicate c.harts no_seat;
      board = subst (λ p. IsPagedBoard c.harts p (flat_at_start image c.harts)) (sym pages) (start_is_board image c.harts);
      crew = subst IsCrew (sym holders) (nobody_crew c.pages c.harts);
      table = ap length holders ∙ length-replicate c.pages (replicate c.harts None);
      numbers_size = ap (λ (d : Directory). length d.numbers) directory ∙ length-replicate c.pages 0;
      yields_size = ap (λ (d : Directory). length d.yields) directory ∙ length-replicate c.pages [];
      wants_inside = λ g n w. absurd (none-some n (sym (nothing_of c.harts g)
          ∙ ap (λ ws. unwrap_or (slice_get ws g) None) (sym (ap (λ (d : Directory). d.wants) directory)) ∙ w));
      limit = log;
      wants_size = ap (λ (d : Directory). length d.wants) directory ∙ length-replicate c.harts None;
      ends = (subst (HasPlaces c.ends c.harts) (whole.size ∙ ap (λ p. page_bytes * p) (sym pages)) places, empty, room);
      device_harts = ap (λ (z : Backing). z.devices.devices.harts) backing;
      few = most;
      favours = omega (arith, favoured, least);
      most_bytes = omega (arith, size, most);
      numbers_fit = λ p. (let z = zero_of c.pages p in omega (arith, z));
      ordinal_fits = omega arith;
    }
