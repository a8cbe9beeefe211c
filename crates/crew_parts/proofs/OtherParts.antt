-- A turn of one hart leaves the parts of the others.
use Rattle.std.proofs.Common.{◌≡◌, ◌≢◌, ℕ, ◌<◌, ◌≤◌, List, Option, Some, slice_index, refl, sym, ap, ap₂, ◌∙◌}
use Rattle.rv_words.specs.declared.shared.Mode.{Mode}
use Rattle.rv_hart.specs.State.{Hart}
use Rattle.elf_image.specs.Image.{IsWhole}
use Rattle.log_entry.specs.declared.log.Entry.{Entry}
use Rattle.flat_machine.specs.State.{flat_at_start}
use Rattle.turn_model.specs.Board.{Supply}
use Rattle.turn_model.specs.Lists.{whole_leg}
use Rattle.turn_model.specs.Turn.{turn}
use Rattle.turn_laws.specs.Reached.{Reached}
use Rattle.turn_laws.proofs.Legs.{legs_stay, reached_are_crew, runs_stay}
use Rattle.run_model.specs.Run.{Run}
use Rattle.run_model.specs.Agreement.{Agrees}
use Rattle.rv_words.specs.Limits.{page_bytes}
use Rattle.crew_parts.specs.Boards.{Plain, World, the_machine, board_of, state_of, terms_of, told_to}
use Rattle.crew_parts.specs.Parts.{Part, part_of, until_by}
use Rattle.crew_parts.specs.Turns.{SameTerms}
use Rattle.crew_parts.proofs.Turned.{same_seen}

abbrev Pages : Type 0
Pages = List (Option (Mode × List ℕ))

-- what a hart alone has of a part
record Own : Type 0 where
  hart : Option Hart
  count : ℕ
  pages : Pages
  entries : List Entry
  until : ℕ

own : Part → Own
own x = record { hart = x.hart; count = x.count; pages = x.pages; entries = x.entries; until = x.until }

own_alike : (x y : Part) → y.hart ≡ x.hart → y.count ≡ x.count → y.pages ≡ x.pages → y.entries ≡ x.entries → y.until ≡ x.until → own y ≡ own x
unfolding own
own_alike x y hart count pages entries until =
    ap₂ (λ a b. record { hart = a; count = b; pages = y.pages; entries = y.entries; until = y.until }) hart count
    ∙ ap₂ (λ a b. record { hart = x.hart; count = x.count; pages = a; entries = b; until = y.until }) pages entries
    ∙ ap (λ a. record { hart = x.hart; count = x.count; pages = x.pages; entries = x.entries; until = a }) until

part_alike : (p q : Plain) (x y : Part) → SameTerms p q → own y ≡ own x → x.image ≡ p.image → x.harts ≡ p.harts → x.limit ≡ p.limit → x.log_limit ≡ p.log_limit
    → x.first ≡ p.first → y.image ≡ q.image → y.harts ≡ q.harts → y.limit ≡ q.limit → y.log_limit ≡ q.log_limit → y.first ≡ q.first → y ≡ x
unfolding own
part_alike p q x y terms same i h l g f i' h' l' g' f' =
    ap (λ (o : Own). record {
      hart = o.hart;
      count = o.count;
      pages = o.pages;
      entries = o.entries;
      until = o.until;
      image = y.image;
      harts = y.harts;
      limit = y.limit;
      log_limit = y.log_limit;
      first = y.first;
    }) same
    ∙ ap₂ (λ image harts. record {
      hart = x.hart;
      count = x.count;
      pages = x.pages;
      entries = x.entries;
      until = x.until;
      image = image;
      harts = harts;
      limit = y.limit;
      log_limit = y.log_limit;
      first = y.first;
    }) (i' ∙ terms.image ∙ sym i) (h' ∙ terms.harts ∙ sym h)
    ∙ ap₂ (λ limit log_limit. record {
      hart = x.hart;
      count = x.count;
      pages = x.pages;
      entries = x.entries;
      until = x.until;
      image = x.image;
      harts = x.harts;
      limit = limit;
      log_limit = log_limit;
      first = y.first;
    }) (l' ∙ terms.limit ∙ sym l) (g' ∙ terms.log_limit ∙ sym g)
    ∙ ap (λ (first : World). record {
      hart = x.hart;
      count = x.count;
      pages = x.pages;
      entries = x.entries;
      until = x.until;
      image = x.image;
      harts = x.harts;
      limit = x.limit;
      log_limit = x.log_limit;
      first = first;
    }) (f' ∙ terms.first ∙ sym f)

pub others_stay : (p q : Plain) (supply left : Supply) (h n g : ℕ) → IsWhole p.image
    → Reached the_machine (terms_of p) p.harts (flat_at_start p.image p.harts) supply (board_of p left)
    → h < p.harts → n ≤ whole_leg the_machine (terms_of p) h (board_of p left) → (rest : Supply)
    → turn the_machine (terms_of p) h n (board_of p left) ≡ Some (board_of q rest)
    → p.counts ≡ (state_of p).flat.counts → q.counts ≡ (state_of q).flat.counts → SameTerms p q → g < p.harts → g ≢ h → part_of q g ≡ part_of p g
others_stay p q supply left h n g whole from inside most rest is p_counts q_counts terms there other =
    let b = board_of p left in
    let d = board_of q rest in
    let t = terms_of p in
    let x = (reached_are_crew t p.image p.harts supply whole refl b from).3 g there in
    let still = runs_stay t p.image p.harts supply whole refl h n g b d x.0 from inside most is other x.2 in
    let seen = same_seen x.0 g b.at d.at x.2.0 x.2.1 still.1 in
    let same = legs_stay t p.image p.harts supply whole refl h n g b d from inside most is there other in
    let order : told_to q g ≡ told_to p g = same.same_order in
    let counts : slice_index q.counts g ≡ slice_index p.counts g =
    ap (λ ks. slice_index ks g) q_counts ∙ seen.count ∙ sym (ap (λ ks. slice_index ks g) p_counts) in
    part_alike p q (part_of p g) (part_of q g) terms
    (own_alike (part_of p g) (part_of q g) seen.hart seen.count seen.pages same.same_entries (ap₂ until_by counts order)) refl refl refl refl refl refl refl
    refl refl refl

-- a run that is another hart's part stays it
pub runs_go_on : (p q : Plain) (supply left : Supply) (h n g : ℕ) (x : Run) → IsWhole p.image
    → Reached the_machine (terms_of p) p.harts (flat_at_start p.image p.harts) supply (board_of p left)
    → h < p.harts → n ≤ whole_leg the_machine (terms_of p) h (board_of p left) → (rest : Supply)
    → turn the_machine (terms_of p) h n (board_of p left) ≡ Some (board_of q rest) → g ≢ h → x.frames.unit ≡ page_bytes → Agrees x g (state_of p)
    → Agrees x g (state_of q)
runs_go_on p q supply left h n g x whole from inside most rest is other unit agrees =
    (runs_stay (terms_of p) p.image p.harts supply whole refl h n g (board_of p left) (board_of q rest) x from inside most is other (unit, agrees)).1
