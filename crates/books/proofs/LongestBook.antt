-- The longest book has 2,625 bytes of colours, 4 of figures, and 4 for each rule: 3,429 with 200 rules. Its spelling is made of bytes.
use Prim.Native.Nat.{ℕ, zero, suc, ◌+◌, ◌*◌, ◌/◌, ◌%◌, ◌<◌, ◌≤◌}
use mathlib.Core.Path.{◌≡◌, refl, ap}
use mathlib.Core.List.Memᴰ
use mathlib.Core.List.{List, [], ◌∷◌, ◌++◌, Memᴰ}
use mathlib.Core.Logic.{⊎_elim}
use native.Mathlib.Omega.{arith}
use lib.ListN.{length, length-append}
use Rattle.names.specs.Number.{spell_number}
use Rattle.names.specs.Spelling.{spell_colours, most_colours, Distinct}
use Rattle.names.specs.Bytes.{Bytes}
use Rattle.names.proofs.SpellingNumbers.{spell-short, spell-two}
use Rattle.books.specs.Contents.{Contents}
use Rattle.books.specs.Keeps.{most_motifs, most_rules, BodyFits, RuleFits, Keeps}
use Rattle.books.specs.Lent.{contents_of}
use Rattle.books.specs.Book.{book_of}
use Rattle.books.specs.SpellBook.{spell_body, spell_rule, spell_rules, spell_book}
use Rattle.books.specs.declared.rule.Rule.{Rule}
use Rattle.books.specs.declared.rule.Body.{Body}
use Rattle.books.specs.declared.rule.Body.TheVariants.{Colour, Across, Down}
use Rattle.names.proofs.LongestColours.{longest_names, longest-names, longest-length}
use Rattle.names.proofs.SpelledBytes.{FewBytes, none-few, both-few, fewer, number-one, number-two, colours_few}
use Rattle.books.proofs.ReadingBooks.{book-accepted}

module _ (motifs colours : ℕ) (few_motifs : motifs ≤ most_motifs) (few_colours : colours ≤ most_colours) where
  body-few : (b : Body) → BodyFits motifs colours b → FewBytes (spell_body b) 3
  body-few (Colour c) f = fewer (omega arith) (both-few (number-one 0 (omega arith)) (number-one c (omega arith)))
  body-few (Across l r) f = both-few (number-one 1 (omega arith)) (both-few (number-one l (omega (arith, f.0))) (number-one r (omega (arith, f.1))))
  body-few (Down u v) f = both-few (number-one 2 (omega arith)) (both-few (number-one u (omega (arith, f.0))) (number-one v (omega (arith, f.1))))

  rules_few : (rs : List Rule) → ((r : Rule) → Memᴰ r rs → RuleFits motifs colours r) → FewBytes (spell_rules rs) (4 * length rs)
  rules_few [] f = none-few
  rules_few (r ∷ rs) f =
      let g = f r (Memᴰ.head refl) in
      fewer (omega arith) (both-few (both-few (number-one r.head (omega (arith, g.head_fits))) (body-few r.body g.body_fits)) (rules_few rs (λ x m. f x (Memᴰ.tail m))))

abbrev pub longest_length : ℕ
longest_length = 2629 + 4 * most_rules

book-few : (b : Contents) → Keeps b → FewBytes (spell_book b) longest_length
book-few b keeps =
    let rules = rules_few b.motifs (length b.colours) keeps.motifs_few keeps.colours_ok.few b.rules keeps.sound.rules_fit in
    fewer (omega (arith, keeps.rules_few))
    (both-few (colours_few b.colours keeps.colours_ok)
    (both-few (number-one b.motifs (omega (arith, keeps.motifs_few)))
    (both-few (number-one b.start (omega (arith, keeps.sound.start_fits, keeps.motifs_few)))
    (both-few (number-two (length b.rules) (omega (arith, keeps.rules_few))) rules))))

pub spelling-bytes : (b : Contents) → Keeps b → Bytes (spell_book b)
spelling-bytes b keeps = (book-few b keeps).bytes

pub spelling-length : (b : Contents) → Keeps b → length (spell_book b) ≤ longest_length
spelling-length b keeps = (book-few b keeps).few

pub longest-book : (s : List ℕ) → Bytes s → (book_of s).fault.number ≡ 0 → length s ≤ longest_length
longest-book s bytes z = let a = book-accepted s bytes z in omega (arith, ap length a.spelled, spelling-length (contents_of s) a.keeps)

-- ── One is as long ──

-- the n-th join of two motifs: no two are the same
abbrev join : ℕ → Rule
join n = record { head = 0; body = Across (n / most_motifs) (n % most_motifs) }

abbrev joins : ℕ → ℕ → List Rule
joins n zero = []
joins n (suc k) = join n ∷ joins (suc n) k

joins-count : (k n : ℕ) → length (joins n k) ≡ k
joins-count zero n = refl
joins-count (suc k) n = ap suc (joins-count k (suc n))

joins-fit : (colours k n : ℕ) → n + k ≤ most_motifs * most_motifs → (r : Rule) → Memᴰ r (joins n k) → RuleFits most_motifs colours r
joins-fit colours zero n h r m = absurd (Memᴰ.not-nil m)
joins-fit colours (suc k) n h r m =
    ⊎_elim
    (λ e. rw e (record { head_fits = omega arith; body_fits = (omega arith, omega arith) }))
    (λ t. joins-fit colours k (suc n) (omega arith) r t)
    (Memᴰ.cases_cons m)

joins-length : (k n : ℕ) → n + k ≤ most_motifs * most_motifs → length (spell_rules (joins n k)) ≡ 4 * k
joins-length zero n h = refl
joins-length (suc k) n h =
    let left = n / most_motifs in
    let right = n % most_motifs in
    omega (
      arith,
      length-append (spell_rule (join n)) (spell_rules (joins (suc n) k)),
      length-append (spell_number 0) (spell_body (Across left right)),
      length-append (spell_number 1) (spell_number left ++ spell_number right),
      length-append (spell_number left) (spell_number right),
      spell-short 0 (omega arith),
      spell-short 1 (omega arith),
      spell-short left (omega arith),
      spell-short right (omega arith),
      joins-length k (suc n) (omega arith),
    )

join-once : (m n : ℕ) → join m ≡ join n → m ≡ n
join-once m n e =
    let bodies : Across (m / most_motifs) (m % most_motifs) ≡ Across (n / most_motifs) (n % most_motifs) = ap (λ (r : Rule). r.body) e in
    let left : m / most_motifs ≡ n / most_motifs = cc in
    let right : m % most_motifs ≡ n % most_motifs = cc in
    omega arith

joins-later : (k m n : ℕ) → m < n → Memᴰ (join m) (joins n k) → ⊥
joins-later zero m n h i = Memᴰ.not-nil i
joins-later (suc k) m n h i = ⊎_elim (λ e. omega (arith, join-once m n e)) (joins-later k m (suc n) (omega arith)) (Memᴰ.cases_cons i)

joins-distinct : (k n : ℕ) → Distinct (joins n k)
joins-distinct zero n = tt
joins-distinct (suc k) n = (joins-later k n (suc n) (omega arith), joins-distinct k (suc n))

-- as many colours, motifs and joins as a book may have
pub longest : Contents
longest = record { colours = longest_names; motifs = most_motifs; start = 0; rules = joins 0 most_rules }

pub longest-keeps : Keeps longest
unfolding longest
longest-keeps =
    let count = joins-count most_rules 0 in
    record {
      colours_ok = longest-names;
      motifs_some = omega arith;
      motifs_few = omega arith;
      rules_some = omega arith;
      rules_few = omega arith;
      sound = record { start_fits = omega arith; rules_fit = joins-fit (length longest_names) most_rules 0 (omega arith) };
      no_copies = joins-distinct most_rules 0;
    }

pub longest-spelling : length (spell_book longest) ≡ longest_length
unfolding longest
longest-spelling =
    let colours = spell_colours longest_names in
    let motifs = spell_number most_motifs in
    let start = spell_number 0 in
    let count = spell_number (length (joins 0 most_rules)) in
    let rules = spell_rules (joins 0 most_rules) in
    let all = joins-count most_rules 0 in
    omega (
      arith,
      length-append colours (motifs ++ (start ++ (count ++ rules))),
      length-append motifs (start ++ (count ++ rules)),
      length-append start (count ++ rules),
      length-append count rules,
      longest-length,
      spell-short most_motifs (omega arith),
      spell-short 0 (omega arith),
      ap length (spell-two (length (joins 0 most_rules)) (omega arith) (omega arith)),
      joins-length most_rules 0 (omega arith),
    )
