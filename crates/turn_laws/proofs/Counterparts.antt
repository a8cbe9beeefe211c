-- What the board says of holders and needs, and what a directory and a hart's run say of them.
use Rattle.std.proofs.Common.{◌≡◌, ℕ, zero, suc, ◌+◌, ◌==◌, ◌&&◌, ◌||◌, not, nat_lt, nat_le, Bool, true, false, cond, List, [], ◌∷◌, ◌++◌, length, find}
use Rattle.std.proofs.Common.{Option, Some, None, is_some, inl, inr, refl, sym, ap, ap₂, ◌∙◌, subst, arith, if◌then◌else◌}
use Rattle.std.specs.List.{list_any, range_with_len}
use Rattle.std.specs.Option.{option_map_or}
use Rattle.std.proofs.lemmas.Bool.Decides.{leb_tells}
use Rattle.std.proofs.lemmas.Option.{same_Some, get_or_from_slice_get}
use Rattle.rv_words.specs.declared.shared.Mode.{Mode}
use Rattle.rv_words.specs.declared.shared.Mode.TheVariants.{Read, Write}
use Rattle.rv_words.specs.Modes.{conflicts}
use Rattle.rv_hart.specs.State.{Hart}
use Rattle.rv_hart.specs.Effects.{effect_of, fetch_of}
use Rattle.rv_hart.specs.Moves.{need_of}
use Rattle.rv_hart.specs.Needs.{page_at, data_pages, pages_needed}
use Rattle.rv_hart.specs.declared.effect.Fetch.{Fetch}
use Rattle.rv_hart.specs.declared.effect.Fetch.TheVariants as fetch
use Rattle.orders_law.specs.Orders.{below}
use Rattle.log_entry.specs.Parts.{strength, conflict}
use Rattle.flat_machine.specs.State.{FlatState}
use Rattle.flat_machine.specs.Moves.{fetched, fetched_by, word_round}
use Rattle.replay_model.specs.Board.{board, hart_access}
use Rattle.run_model.proofs.Sight.{fetch_pc}
use Rattle.turn_model.specs.Board.{unit_in, Board, Terms}
use Rattle.shared_types.proofs.Lists.{find_same}
use Rattle.order_rules.specs.Holders.{held}
use Rattle.replay_model.specs.State.{want}
use Rattle.run_model.specs.Run.{Run, lacks, ahead_of, stronger, needed_in, most_needed, known_from, fetched_from, claim_of, word_held}
use Rattle.run_model.specs.Agreement.{Agrees, Asks, holds_fetch}
use Rattle.run_model.proofs.Laws.{ahead_agrees, sees_word}
use Rattle.privilege_directory.specs.Directory.{Directory, clash_of}
use Rattle.turn_model.specs.Laws.{machine_in}
use Rattle.turn_laws.specs.Laws.{AgreesIn}
use Rattle.turn_model.specs.Claims.{clash, holds_so, known, needed, claims_against}
use Rattle.orders_law.proofs.Below.{below_range}

conflicts_turned : (one other : Mode) → conflicts one other ≡ conflicts other one
conflicts_turned Read Read = refl
conflicts_turned Read Write = refl
conflicts_turned Write Read = refl
conflicts_turned Write Write = refl

conflict_turned : (one other : Option Mode) → conflict one other ≡ conflict other one
conflict_turned None None = refl
conflict_turned None (Some m) = refl
conflict_turned (Some m) None = refl
conflict_turned (Some m) (Some n) = conflicts_turned m n

pub clashes_are_one : (b : Board FlatState) (d : Directory) (h : ℕ) (n : ℕ × Mode) → d.holders ≡ b.at.holders → length d.wants ≡ length b.streams
    → clash b h n ≡ clash_of d h n.0 n.1
clashes_are_one b d h n holders size =
    ap (find (λ g. not (g == h) && conflict (held b.at.holders n.0 g) (Some n.1))) (ap below (sym size) ∙ below_range (length d.wants))
    ∙ find_same (λ g. not (g == h) && conflict (held b.at.holders n.0 g) (Some n.1)) (λ g. not (g == h) && conflict (Some n.1) (held d.holders n.0 g))
    (range_with_len 0 (length d.wants))
    (λ g. ap (λ c. not (g == h) && c) (conflict_turned (held b.at.holders n.0 g) (Some n.1) ∙ ap (λ hs. conflict (Some n.1) (held hs n.0 g)) (sym holders)))

le_is_not_less : (a b : ℕ) → nat_le a b ≡ not (nat_lt b a)
le_is_not_less a b = elim (leb_tells a b) [
  | inl (t, l) ↦ t ∙ elim (leb_tells (suc b) a) [ inl (u, m) ↦ absurd (omega (arith, l, m)) | inr (u, m) ↦ ap not (sym u) ]
  | inr (f, l) ↦ f ∙ elim (leb_tells (suc b) a) [ inl (u, m) ↦ ap not (sym u) | inr (u, m) ↦ absurd (omega (arith, l, m)) ]
]

twice_not : (b : Bool) → not (not b) ≡ b
twice_not true = refl
twice_not false = refl

pub holds_are_one : (b : Board FlatState) (x : Run) (h : ℕ) (n : ℕ × Mode) → Agrees x h b.at → holds_so b h n ≡ not (lacks x n)
holds_are_one b x h n a =
    le_is_not_less (strength (Some n.1)) (strength (held b.at.holders n.0 h)) ∙ ap (λ m. not (nat_lt (strength m) (strength (Some n.1)))) (a.modes n.0)

pub needs_are_one : (terms : Terms) (b : Board FlatState) (x : Run) (h : ℕ) → AgreesIn terms x h b.at
    → Asks (find (λ n. not (holds_so b h n)) (needed (machine_in terms) terms b h)) (hart_access b.at.flat h) (ahead_of x)
needs_are_one terms b x h a =
    subst (λ o. Asks o (hart_access b.at.flat h) (ahead_of x))
    (find_same (λ n. nat_lt (strength (held b.at.holders n.0 h)) (strength (Some n.1))) (λ n. not (holds_so b h n)) ((board (unit_in terms)).need b.at.flat h)
    (λ n. sym (ap not (le_is_not_less (strength (Some n.1)) (strength (held b.at.holders n.0 h)))
    ∙ twice_not (nat_lt (strength (held b.at.holders n.0 h)) (strength (Some n.1))))))
    (subst (λ u. Asks (want (board u) b.at h) (hart_access b.at.flat h) (ahead_of x)) a.0 (ahead_agrees x h b.at a.1))

-- the modes of a list that conflict with a mode of a page
or_conflicts : (one other : Option Mode) (mode : Mode) → conflict (stronger one other) (Some mode) ≡ (conflict one (Some mode) || conflict other (Some mode))
or_conflicts None None mode = refl
or_conflicts None (Some Read) mode = refl
or_conflicts None (Some Write) mode = refl
or_conflicts (Some Read) None Read = refl
or_conflicts (Some Read) None Write = refl
or_conflicts (Some Write) None mode = refl
or_conflicts (Some Read) (Some Read) Read = refl
or_conflicts (Some Read) (Some Read) Write = refl
or_conflicts (Some Read) (Some Write) Read = refl
or_conflicts (Some Read) (Some Write) Write = refl
or_conflicts (Some Write) (Some Read) mode = refl
or_conflicts (Some Write) (Some Write) mode = refl

most_conflicts : (page : ℕ) (mode : Mode) (ns : List (ℕ × Mode))
    → list_any (λ n. (n.0 == page) && conflicts n.1 mode) ns ≡ conflict (most_needed page ns) (Some mode)
most_conflicts page mode [] = refl
most_conflicts page mode (n ∷ ns) =
    ap₂ (λ a b. a || b) (one (n.0 == page) n.1) (most_conflicts page mode ns) ∙ sym (or_conflicts (needed_in page n) (most_needed page ns) mode)
  where
    one : (b : Bool) (m : Mode) → (b && conflicts m mode) ≡ conflict (if b then Some m else None) (Some mode)
    one true m = refl
    one false m = refl

-- behind a fetch page that is held
behind : (u : ℕ) (page : ℕ) (lack hold : Bool) (x : Run) (here word : ℕ) → hold ≡ not lack → (lack ≡ false → here ≡ word)
    → (page, Read) ∷ (if hold then data_pages u (need_of (effect_of x.hart word)) else []) ≡ (page, Read) ∷
    (if lack then [] else data_pages u (need_of (effect_of x.hart here)))
behind u page true hold x here word is same = ap (λ b. (page, Read) ∷ (if b then data_pages u (need_of (effect_of x.hart word)) else [])) is
behind u page false hold x here word is same =
    ap (λ b. (page, Read) ∷ (if b then data_pages u (need_of (effect_of x.hart word)) else [])) is
    ∙ ap (λ w. (page, Read) ∷ data_pages u (need_of (effect_of x.hart w))) (sym (same refl))

-- a word that is fetched from a held page is the memory's
same_word : (b : Board FlatState) (x : Run) (h pc : ℕ) → Agrees x h b.at → fetch_of x.hart ≡ fetch.At pc → lacks x (page_at x.frames.unit pc, Read) ≡ false
    → word_held x pc ≡ word_round b.at.flat.memory pc
same_word b x h pc a e held =
    let word = word_round b.at.flat.memory pc in
    let seen : fetched_from x (fetch.At pc) ≡ cond (holds_fetch x.frames.unit b.at h (fetch.At pc)) (Some word) None =
    subst (λ f. fetched_from x f ≡ cond (holds_fetch x.frames.unit b.at h f) (fetched_by b.at.flat.memory f) None) e (sees_word x h b.at a) in
    same_Some _ _ (sym (ap (λ l. cond l None (Some (word_held x pc))) held) ∙ seen
    ∙ ap (λ c. cond c (Some word) None) (holds_are_one b x h (page_at x.frames.unit pc, Read) a ∙ ap not held))

known_by : (terms : Terms) (b : Board FlatState) (x : Run) (h : ℕ) → Agrees x h b.at → (f : Fetch) → fetch_of x.hart ≡ f
    → known (machine_in terms) terms b h (pages_needed x.frames.unit x.hart (fetched_by b.at.flat.memory f)) ≡ known_from x f
known_by terms b x h a fetch.Interrupt e = refl
known_by terms b x h a fetch.Fault e = refl
known_by terms b x h a (fetch.At pc) e =
    let word = word_round b.at.flat.memory pc in
    ap (λ z. (page_at x.frames.unit z, Read) ∷
    (if holds_so b h (page_at x.frames.unit z, Read) then data_pages x.frames.unit (need_of (effect_of x.hart (word_round b.at.flat.memory pc))) else []))
    (fetch_pc x.hart pc e)
    ∙ behind x.frames.unit (page_at x.frames.unit pc) (lacks x (page_at x.frames.unit pc, Read)) (holds_so b h (page_at x.frames.unit pc, Read)) x
    (word_held x pc) (word_round b.at.flat.memory pc) (holds_are_one b x h (page_at x.frames.unit pc, Read) a)
    (λ held. same_word b x h pc a e held)

pub known_is : (terms : Terms) (b : Board FlatState) (x : Run) (h : ℕ) → AgreesIn terms x h b.at
    → known (machine_in terms) terms b h (needed (machine_in terms) terms b h) ≡ known_from x (fetch_of x.hart)
known_is terms b x h a =
    ap (λ o. known (machine_in terms) terms b h (option_map_or (λ y. pages_needed (unit_in terms) y (fetched y b.at.flat.memory)) o [])) a.1.hart
    ∙ ap (λ u. known (machine_in terms) terms b h (pages_needed u x.hart (fetched x.hart b.at.flat.memory))) (sym a.0)
    ∙ known_by terms b x h a.1 (fetch_of x.hart) refl

pub claims_are_one : (terms : Terms) (b : Board FlatState) (x : Run) (h page : ℕ) (mode : Mode) → AgreesIn terms x h b.at
    → (known (machine_in terms) terms b h (needed (machine_in terms) terms b h) ≡ known_from x (fetch_of x.hart))
    × (claims_against (machine_in terms) terms b h page mode ≡ (not (x.count == terms.limit) && conflict (claim_of x page) (Some mode)))
claims_are_one terms b x h page mode a =
    let k = known_is terms b x h a in (
      k,
      ap₂ (λ c ns. not (c == terms.limit) && list_any (λ n. (n.0 == page) && conflicts n.1 mode) ns)
          (get_or_from_slice_get b.at.flat.counts h x.count 0 a.1.count) k
          ∙ ap (λ c. not (x.count == terms.limit) && c) (most_conflicts page mode (known_from x (fetch_of x.hart))),
    )
