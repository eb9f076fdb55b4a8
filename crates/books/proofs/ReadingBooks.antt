-- What callers use of a book that was read: every number keeps its bounds and every place lies within the input, or the fault names what
-- it blames and the family is the fixed one. Each part is read where the one before it ends.
use Prim.Native.Nat.{ℕ, ◌+◌, ◌*◌, ◌<◌, ◌≤◌}
use mathlib.Core.Path.{◌≡◌, refl, ap}
use mathlib.Core.Bool.{Bool, true}
use mathlib.Core.Logic.{◌⊎◌, inl, inr, ⊎_elim}
use mathlib.Core.List.{List, [], append-nil, append_assoc}
use native.Mathlib.Omega.{arith}
use borrow.Author.Tests.{eqb-true, eqb-false, ltb-false}
use lib.Dec.{eqb, ltb}
use lib.ListN.{length, get_or, take, drop, drop_of_length-le}
use lib.Seq.{get_or-take, length-take-le}
use Rattle.names.specs.Pick.{fault}
use Rattle.names.specs.Spelling.{spell_colours}
use Rattle.names.specs.Colours.{names_in, colours_of}
use Rattle.names.specs.Fault.{Fault}
use Rattle.names.proofs.Picking.{pick_ind}
use Rattle.names.proofs.Listing.{get_or-mem}
use Rattle.names.proofs.ReadingNumbers.{BlamedBy, blamed-later}
use Rattle.names.specs.Bytes.{Bytes}
use Rattle.names.proofs.ReadingColours.{list_span, Places, places-none, names-count, colours-lie, colours-refused}
use Rattle.names.proofs.SpellingColours.{colours-accepted}
use Rattle.books.specs.Contents.{Contents}
use Rattle.books.specs.Lent.{contents_by, contents_of}
use Rattle.books.specs.ContentsIn.{contents_in}
use Rattle.books.specs.Keeps.{RuleFits, KeepsBy, most_motifs, most_rules}
use Rattle.books.specs.Rules.{no_rule, rules_at}
use Rattle.books.specs.Book.{no_family, refused_book, figures_at, family_of, ruled_at, figured_at, book_by, book_of}
use Rattle.books.specs.SpellBook.{spell_book}
use Rattle.books.specs.Answer.{NumberBy}
use Rattle.books.specs.RuleRead.{RulesRead}
use Rattle.books.specs.BookRead.{Figures, BookRead}
use Rattle.books.proofs.StandingNumbers.{Between, between-both}
use Rattle.books.proofs.Onwards.{after_figures-ind}
use Rattle.books.proofs.ReadingFigures.{FiguresLie, figures-lie, figures-refused}
use Rattle.books.proofs.ReadingRules.{known_by, blamed-by, RulesLie, rules-lie, rules-refused}

-- as far as a book can reach: its colour list, three numbers, and four for each rule, of at most three bytes each
abbrev pub farthest_book : ℕ
farthest_book = list_span + 9 + 12 * most_rules

-- what an accepted book gives
pub record BookLies (s : List ℕ) (r : BookRead) : Type 0 where
  pub fine : r.fault ≡ fault 0 0
  pub places : Places s r.family.colours
  pub colours_some : 1 ≤ r.family.colours.count
  pub motifs_some : 1 ≤ r.family.motifs
  pub motifs_few : r.family.motifs ≤ most_motifs
  pub start_fits : r.family.start < r.family.motifs
  pub rules_some : 1 ≤ r.family.count
  pub rules_few : r.family.count ≤ most_rules
  pub rules_size : length r.family.rules ≡ most_rules
  pub rules_fit : (i : ℕ) → i < r.family.count → RuleFits r.family.motifs r.family.colours.count (get_or r.family.rules i no_rule)
  pub rules_fixed : (i : ℕ) → r.family.count ≤ i → get_or r.family.rules i no_rule ≡ no_rule

-- what a refused one gives
pub record BookRefusedBy (strict : Bool) (s : List ℕ) (limit : ℕ) (r : BookRead) : Type 0 where
  pub blamed : BlamedBy (NumberBy strict) s limit r.fault
  pub empty : r.family ≡ no_family

-- an accepted book keeps the rules, and is the spelling of its contents
pub record BookSpelledBy (strict : Bool) (s : List ℕ) (b : Contents) : Type 0 where
  pub keeps : KeepsBy strict b
  pub spelled : s ≡ spell_book b

abbrev pub BookSpelled : List ℕ → Contents → Type 0
BookSpelled = BookSpelledBy true

record Accepted (strict : Bool) (s : List ℕ) (r : BookRead) : Type 0 where
  lies : BookLies s r
  spells : Bytes s → BookSpelledBy strict s (contents_in s r.family)

abbrev Ended : Bool → List ℕ → BookRead → Type 0
Ended strict s r = Accepted strict s r ⊎ BookRefusedBy strict s farthest_book r

module _ (strict : Bool) (s : List ℕ) (z : (colours_of s).fault.number ≡ 0) where
  abbrev rules_of : Figures → ℕ → RulesRead
  rules_of g at = rules_at strict s at g.motifs (colours_of s).colours.count g.count

  abbrev read_book : Figures → ℕ → BookRead
  read_book g at = record { fault = fault 0 0; family = family_of (colours_of s).colours g (rules_of g at).rules }

  module _ (g : Figures) (at : ℕ) (h : FiguresLie s (colours_of s).next g at) (k : RulesLie strict s at g.motifs (colours_of s).colours.count g.count (at + 12 * g.count) (rules_of g at)) where
    book-found : BookLies s (read_book g at)
    book-found =
        let l = colours-lie s z in
        record {
          fine = refl;
          places = l.places;
          colours_some = l.some;
          motifs_some = h.motifs_some;
          motifs_few = h.motifs_few;
          start_fits = h.start_fits;
          rules_some = h.rules_some;
          rules_few = h.rules_few;
          rules_size = k.size;
          rules_fit = λ i n. rw (← get_or-take g.count (rules_of g at).rules i no_rule n)
              (k.fit _ (get_or-mem (take g.count (rules_of g at).rules) i no_rule (omega (arith, length-take-le g.count (rules_of g at).rules (omega (arith, k.size, h.rules_few))))));
          rules_fixed = k.fixed;
        }

    book-spells : length s ≤ (rules_of g at).next → Bytes s → BookSpelledBy strict s (contents_in s (read_book g at).family)
    book-spells ends bytes =
        let names = names_in s (colours_of s).colours in
        let rules = take g.count (rules_of g at).rules in
        let c = colours-accepted s bytes z in
        let size : length rules ≡ g.count = length-take-le g.count (rules_of g at).rules (omega (arith, k.size, h.rules_few)) in
        let last : drop (rules_of g at).next s ≡ [] = drop_of_length-le s ends in
        let first : Between s 0 (colours_of s).next (spell_colours names) = record { stands = c.spelled } in
        let whole = (between-both first (between-both (h.spelled bytes) (k.spelled bytes))).stands in
        record {
          keeps = record {
            colours_ok = c.ok;
            motifs_some = h.motifs_some;
            motifs_few = h.motifs_few;
            rules_some = omega (arith, h.rules_some);
            rules_few = omega (arith, h.rules_few);
            sound = record { start_fits = h.start_fits; rules_fit = rw (names-count s (colours_of s).colours) k.fit };
            no_copies = k.once;
          };
          spelled = simp (size, append_assoc) (simp (last, append-nil, append_assoc) at whole);
        }

  -- the book ends with its rules, or a byte follows them
  ended : (g : Figures) (at : ℕ) → FiguresLie s (colours_of s).next g at → Ended strict s (ruled_at s (colours_of s).colours g (rules_of g at))
  unfolding ruled_at
  ended g at h =
      let l = colours-lie s z in
      let count = g.count in
      let colours = (colours_of s).colours.count in
      pick_ind (Ended strict s) (eqb (rules_of g at).fault.number 0) _ _
      (λ t.
      let k = rules-lie strict s at g.motifs colours count h.rules_few h.inside (eqb-true _ 0 t) in
      pick_ind (Ended strict s) (ltb (rules_of g at).next (length s)) _ _
      (λ e. inr (record {
        blamed = record { some = omega arith; known = known_by strict (omega arith); inside = k.inside; near = omega (arith, k.near, h.near, h.rules_few, l.near) };
        empty = refl;
      }))
      (λ e. inl (record { lies = book-found g at h k; spells = book-spells g at h k (ltb-false _ _ e) })))
      (λ t.
      let refused = rules-refused strict s at g.motifs colours count h.rules_few h.inside (eqb-false _ 0 t) in
      inr (record { blamed = blamed-later (omega (arith, h.near, h.rules_few, l.near)) refused; empty = refl }))

  figured-ended : Ended strict s (figured_at strict s (colours_of s).colours (colours_of s).next)
  unfolding figured_at
  figured-ended =
      let at = (colours_of s).next in
      after_figures-ind (Ended strict s) refused_book (figures_at s at) _
      (λ f e. inr (record { blamed = blamed-by strict (blamed-later (omega (arith, (colours-lie s z).near)) (figures-refused s at f e)); empty = refl }))
      (λ g next e. ended g next (figures-lie s at g next e))

book-ended : (strict : Bool) (s : List ℕ) → Ended strict s (book_by strict s)
unfolding book_by
book-ended strict s =
    pick_ind (Ended strict s) (eqb (colours_of s).fault.number 0) _ _
    (λ t. figured-ended strict s (eqb-true _ 0 t))
    (λ t. inr (record { blamed = blamed-by strict (blamed-later (omega arith) (colours-refused s (eqb-false _ 0 t)).blamed); empty = refl }))

-- the laws of a book, of either reader: where its fault has number 0 it lies within the input, elsewhere it names what it blames; an accepted one keeps the
-- rules, and is the spelling of its contents
module _ (strict : Bool) (s : List ℕ) where
  pub book-lies-by : (book_by strict s).fault.number ≡ 0 → BookLies s (book_by strict s)
  book-lies-by z = ⊎_elim (λ a. a.lies) (λ r. absurd (omega (arith, r.blamed.some))) (book-ended strict s)

  pub book-refused-by : ((book_by strict s).fault.number ≡ 0 → ⊥) → BookRefusedBy strict s farthest_book (book_by strict s)
  book-refused-by z = ⊎_elim (λ a. absurd (z (ap (λ (f : Fault). f.number) a.lies.fine))) (λ r. r) (book-ended strict s)

  pub book-accepted-by : Bytes s → (book_by strict s).fault.number ≡ 0 → BookSpelledBy strict s (contents_by strict s)
  book-accepted-by bytes z = ⊎_elim (λ a. a.spells bytes) (λ r. absurd (omega (arith, r.blamed.some))) (book-ended strict s)

pub book-lies : (s : List ℕ) → (book_of s).fault.number ≡ 0 → BookLies s (book_of s)
book-lies = book-lies-by true

pub book-refused : (s : List ℕ) → ((book_of s).fault.number ≡ 0 → ⊥) → BookRefusedBy true s farthest_book (book_of s)
book-refused = book-refused-by true

pub book-accepted : (s : List ℕ) → Bytes s → (book_of s).fault.number ≡ 0 → BookSpelled s (contents_of s)
book-accepted = book-accepted-by true

-- refused or not, every place of a name lies within the input, and there are 200 places for rules
pub book-places : (s : List ℕ) → Places s (book_of s).family.colours
book-places s = ⊎_elim (λ a. a.lies.places) (λ r. rw r.empty (places-none s)) (book-ended true s)

pub book-size : (s : List ℕ) → length (book_of s).family.rules ≡ most_rules
book-size s = ⊎_elim (λ a. a.lies.rules_size) (λ r. rw r.empty) (book-ended true s)

-- ... of which no more are counted
pub book-count : (s : List ℕ) → (book_of s).family.count ≤ most_rules
book-count s = ⊎_elim (λ a. a.lies.rules_few) (λ r. rw r.empty (omega arith)) (book-ended true s)

-- ... and the start motif is few
pub book-start : (s : List ℕ) → (book_of s).family.start < most_motifs
book-start s = ⊎_elim (λ a. omega (arith, a.lies.start_fits, a.lies.motifs_few)) (λ r. rw r.empty (omega arith)) (book-ended true s)
