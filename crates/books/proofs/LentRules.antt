-- Rules that are lent in rows of four bytes are the rules: each is taken back from its row.
use Prim.Native.Nat.{ℕ, ◌+◌, ◌-◌, ◌≤◌, ◌<◌, min}
use mathlib.Core.Path.{◌≡◌, refl, ap, ap₂, ◌∙◌}
use mathlib.Core.List.{List, [], ◌∷◌, ◌++◌, map, map-append, append_assoc}
use mathlib.Core.Logic.{⊎_elim}
use native.Mathlib.Numerals.{add-one}
use native.Mathlib.Omega.{arith}
use Rattle.std.proofs.lemmas.Bool.{cases_lt}
use lib.ListN.{length, get_or, take, set, replicate, length-append, length-map, length-replicate, get_or-map}
use lib.Seq.{take-suc, take_all, take_at, set_at, length-take-le, get_or-take}
use borrow.Author.Tests.{eq-eqb, ne_eqb}
use Rattle.books.specs.Book.{book_of}
use Rattle.books.specs.Equal.{four_of}
use Rattle.books.specs.Keeps.{most_rules}
use Rattle.books.specs.Lent.{contents_of}
use Rattle.books.specs.Picture.{joins}
use Rattle.std.specs.Prelude.{Ok}
use Rattle.books.specs.BookRead.{BookRead, BookFigures}
use Rattle.books.specs.Told.{told_book}
use Rattle.books.specs.declared.family.Family.{Family}
use Rattle.books.specs.declared.rule.Rule.{Rule}
use Rattle.books.specs.declared.rule.Body.TheVariants.{Colour, Across, Down}
use Rattle.books.specs.Rules.{no_rule}
use Rattle.books.specs.RuleBytes.{lent_rules, BookInto, kind_dir, rule_in, rules_in}
use Rattle.books.proofs.EqualRules.{rule-back}
use Rattle.books.proofs.ReadingBooks.{book-count, book-size}

-- A row of kind 0 has a colour, and any other a join in the direction of its kind.
module _ (x : List ℕ) where
  pub colour_in : get_or x 1 0 ≡ 0 → (rule_in x).body ≡ Colour (get_or x 2 0)
  unfolding rule_in
  colour_in e = rw (eq-eqb (get_or x 1 0) 0 e)

  pub join-in : (get_or x 1 0 ≡ 0 → ⊥) → (rule_in x).body ≡ joins (kind_dir (get_or x 1 0)) (get_or x 2 0) (get_or x 3 0)
  unfolding rule_in
  join-in n = rw (ne_eqb (get_or x 1 0) 0 n)

  pub head_in : (rule_in x).head ≡ get_or x 0 0
  unfolding rule_in
  head_in = refl

  pub across-in : get_or x 1 0 ≡ 1 → (rule_in x).body ≡ Across (get_or x 2 0) (get_or x 3 0)
  unfolding kind_dir
  across-in e = join-in (λ z. omega arith) ∙ rw (eq-eqb (get_or x 1 0) 1 e)

  pub down-in : (get_or x 1 0 ≡ 0 → ⊥) → (get_or x 1 0 ≡ 1 → ⊥) → (rule_in x).body ≡ Down (get_or x 2 0) (get_or x 3 0)
  unfolding kind_dir
  down-in some other = join-in some ∙ rw (ne_eqb (get_or x 1 0) 1 other)

-- the i-th rule is that of the i-th row
pub rule_of-row : (rows : List (List ℕ)) (i : ℕ) → get_or (rules_in rows) i no_rule ≡ rule_in (get_or rows i [])
unfolding rule_in kind_dir
rule_of-row rows i = get_or-map rule_in rows i []

rules-back : (rules : List Rule) → rules_in (map four_of rules) ≡ rules
rules-back [] = refl
rules-back (r ∷ rs) = ap₂ (λ (x : Rule) (xs : List Rule). x ∷ xs) (rule-back r) (rules-back rs)

-- where there are as many rules as are lent, they stand in the first rows
pub lent_back : (rules : List Rule) (count : ℕ) {rows : List (List ℕ)} → count ≤ length rules → rows ≡ lent_rules rules count
    → rules_in (take count rows) ≡ take count rules
unfolding lent_rules
lent_back rules count h e =
    ap (λ (l : List (List ℕ)). rules_in (take count l)) e
    ∙ ap rules_in (take_at (map four_of (take count rules)) _ count (length-map (take count rules) four_of ∙ length-take-le count rules h))
    ∙ rules-back (take count rules)

pub lent-long : (rules : List Rule) (count : ℕ) → count ≤ length rules → count ≤ most_rules → length (lent_rules rules count) ≡ most_rules
unfolding lent_rules
lent-long rules count h g =
    let first = length-map (take count rules) four_of ∙ length-take-le count rules h in
    simp length-append (omega (arith, first, length-replicate (most_rules - count) (replicate {A = ℕ} 4 0)))

-- ── A book that was read ──

-- the rules of its family that stand, as `Family::rules` lends them, are the book's
pub rules-stand : (book : List ℕ) {f : Family} → told_book (Ok f) ≡ book_of book → take f.count f.rules ≡ (contents_of book).rules
rules-stand book read = ap (λ (x : BookRead). take x.family.count x.family.rules) read

-- ── A book whose rules were read into rows ──

module _ (book : List ℕ) {b : BookFigures} {rows : List (List ℕ)} (read : BookInto book b rows) where
  pub rows-held : b.rules ≤ length rows
  rows-held =
      rw (read.figures, read.lent, lent-long (book_of book).family.rules (book_of book).family.count (omega (arith, book-count book, book-size book)) (book-count book))
      (book-count book)

  -- the first of them have the book's rules
  pub rows_back : rules_in (take b.rules rows) ≡ (contents_of book).rules
  rows_back = rw read.figures (lent_back (book_of book).family.rules (book_of book).family.count (omega (arith, book-count book, book-size book)) read.lent)

-- ── The loop ──

-- one more rule is laid out, in whatever form
pub laid_next : {A : Type 0} (form : Rule → A) (none : A) (rules : List Rule) (x : A) (i : ℕ) → i < length rules → i < most_rules → x ≡ form (get_or rules i no_rule)
    → set (map form (take i rules) ++ replicate (most_rules - i) none) i x ≡ map form (take (i + 1) rules) ++ replicate (most_rules - (i + 1)) none
laid_next {A} form none rules x i h g e =
    let long : length (map form (take i rules)) ≡ i = length-map (take i rules) form ∙ length-take-le i rules (omega arith) in
    let one : map form (take (i + 1) rules) ≡ map form (take i rules) ++ (x ∷ []) =
    rw (add-one, take-suc rules i no_rule, e) (map-append form (take i rules) (get_or rules i no_rule ∷ [])) in
    let left : most_rules - i ≡ most_rules - (i + 1) + 1 = omega arith in
    rw (left, add-one (most_rules - (i + 1)), one, append_assoc) (set_at (map form (take i rules)) _ _ x i long)

-- more than all cannot be laid out
pub laid-all : {A : Type 0} (form : Rule → A) (none : A) (rules : List Rule) (count : ℕ) → length rules ≤ most_rules → most_rules ≤ count
    → map form (take most_rules rules) ++ replicate (most_rules - most_rules) none ≡ map form (take count rules) ++ replicate (most_rules - count) none
laid-all form none rules count h g =
    let nothing : most_rules - count ≡ 0 = omega arith in
    rw (nothing, take_all most_rules rules h, take_all count rules (omega arith))

-- a loop over the first n, of which there are as many as are asked for, and no more than all
module _ {A : Type 0} (form : Rule → A) (none : A) (rules : List Rule) (all : length rules ≡ most_rules) (count n : ℕ) (least : n ≡ min count most_rules) where
  abbrev laid : ℕ → List A
  laid i = map form (take i rules) ++ replicate (most_rules - i) none

  pub laid-more : (x : A) (i : ℕ) → i < length (take n rules) → x ≡ form (get_or (take n rules) i no_rule) → set (laid i) i x ≡ laid (i + 1)
  laid-more x i h e =
      let inside : i < n = omega (arith, length-take-le n rules (omega arith)) in
      laid_next form none rules x i (omega arith) (omega arith) (e ∙ ap form (get_or-take n rules i no_rule inside))

  pub laid-whole : (i : ℕ) → i ≤ length (take n rules) → length (take n rules) ≤ i → laid i ≡ laid count
  laid-whole i h g =
      let end : i ≡ min count most_rules = omega (arith, length-take-le n rules (omega arith)) in
      ⊎_elim
      (λ (few : count < most_rules). let same : i ≡ count = omega arith in ap laid same)
      (λ (many : most_rules ≤ count). let same : i ≡ most_rules = omega arith in ap laid same ∙ laid-all form none rules count (omega arith) many)
      (cases_lt count most_rules)
