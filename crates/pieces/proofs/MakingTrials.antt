-- The trials that the loops make are those of the list. Splitting rules counts those of each direction, the cells have no cut, and every other piece is passed once. And the
-- largest sheet of the wide press with the most rules takes 138,000,000.
use mathlib.Core.Path.{◌≡◌, refl, sym, ap, ◌∙◌, subst}
use mathlib.Core.List.{List, [], ◌∷◌}
use mathlib.Core.Logic.{⊎_elim}
use Prim.Native.Nat.{ℕ, suc, ◌+◌, ◌-◌, ◌*◌, ◌/◌, ◌^◌, ◌≤◌, ◌<◌}
use native.Mathlib.Nat.{mul-le-mul, mul-le-mul_left, mul-le-mul_right}
use native.Mathlib.Numerals.{add-one}
use native.Mathlib.Omega.{arith}
use lib.ListN.{length, get_or, take, drop, take-append-drop, drop_of_length-le}
use lib.Seq.{drop-cons, get_or-take, length-take-le}
use Rattle.books.specs.Keeps.{most_rules}
use Rattle.books.specs.Press.{greatest_of}
use Rattle.books.specs.Size.{Within}
use Rattle.books.specs.declared.rule.Dir.TheVariants.{Across as across, Down as down}
use Rattle.books.specs.declared.rule.Rule.{Rule}
use Rattle.books.specs.declared.rule.Body.{Body}
use Rattle.books.specs.declared.rule.Body.TheVariants.{Colour, Across, Down}
use Rattle.books.proofs.Presses.{greatest-few}
use Rattle.pieces.specs.Masks.{Masked, put_body, split_from, split_of}
use Rattle.pieces.specs.Most.{most}
use Rattle.pieces.specs.Pieces.{piece, Inside, pieces, total, slot_of}
use Rattle.pieces.specs.Trials.{trials, goes, rules_of, trials_for, most_trials}
use Rattle.pieces.specs.declared.masks.Joins.{Joins}
use Rattle.pieces.specs.declared.piece.Piece.{Piece}
use Rattle.pieces.specs.inner.Tally.{tally, tried_at, tried_by}
use Rattle.pieces.proofs.CellsFirst.{cells-few, cell-or-larger, large-after}
use Rattle.pieces.proofs.CountingTrials.{tally-append, joins_in, length-tried, tried-formula, trials-formula}
use Rattle.pieces.proofs.Slots.{length-pieces, slot_lt, slot-onto, get_or-slot}
use Rattle.pieces.proofs.Stretches.{half-few}

-- ── The joins are the rules of each direction ──

abbrev more : Joins → List Rule → Joins
more j rules = record { across = j.across + rules_of across rules; down = j.down + rules_of down rules }

same-joins : {a b d e : ℕ} → a ≡ b → d ≡ e → ◌≡◌ {A = Joins} (record { across = a; down = d }) (record { across = b; down = e })
same-joins x y i = record { across = x i; down = y i }

split-joins : (rules : List Rule) (s : Masked) → (split_from rules s).joins ≡ more s.joins rules
unfolding split_from rules_of
split-joins [] s = same-joins (omega arith) (omega arith)
split-joins (r ∷ rs) s = split-joins rs (put_body s r.head r.body) ∙ one r.body
  where
    one : (x : Body) → more (put_body s r.head x).joins rs
        ≡ record { across = s.joins.across + (goes across x + rules_of across rs); down = s.joins.down + (goes down x + rules_of down rs) }
    one (Colour c) = same-joins (omega arith) (omega arith)
    one (Across u v) = same-joins (omega arith) (omega arith)
    one (Down u v) = same-joins (omega arith) (omega arith)

pub joins-counted : (rules : List Rule) (masks : List ℕ) → (split_of rules masks).joins ≡ joins_in rules
unfolding split_of
joins-counted rules masks = split-joins rules _ ∙ same-joins (omega arith) (omega arith)

-- ── The pieces, one after the other ──

-- the piece that is due, and those after it
pub one-tried : (j : Joins) (m n k : ℕ) (p : Piece) → Inside m n p → slot_of m n p ≡ k
    → tally (tried_at j) (drop k (pieces m n)) ≡ tried_at j p + tally (tried_at j) (drop (k + 1) (pieces m n))
unfolding tally
one-tried j m n k p i e =
    let low : k < length (pieces m n) = omega (arith, length-pieces m n, slot_lt m n p i) in
    let here : get_or (pieces m n) k p ≡ p = ap (λ (x : ℕ). get_or (pieces m n) x p) (sym e) ∙ get_or-slot m n p i p in
    ap (tally (tried_at j)) (drop-cons (pieces m n) k p low) ∙ rw (here, add-one k)

pub none_left : (j : Joins) (m n k : ℕ) → total m n ≤ k → tally (tried_at j) (drop k (pieces m n)) ≡ 0
unfolding tally
none_left j m n k done = rw (drop_of_length-le (pieces m n) {i = k} (omega (arith, length-pieces m n)))

tally-none : {A : Type 0} (f : A → ℕ) (d : A) (xs : List A) → ((i : ℕ) → i < length xs → f (get_or xs i d) ≡ 0) → tally f xs ≡ 0
unfolding tally
tally-none f d [] h = refl
tally-none f d (x ∷ xs) h = omega (arith, h 0 (omega arith), tally-none f d xs (λ i l. h (suc i) (omega arith)))

-- the cells have no cut
pub tried-all : (j : Joins) (m n : ℕ) → 1 ≤ m → 1 ≤ n → tried_by j m n ≡ tally (tried_at j) (pieces m n)
unfolding tried_by
tried-all j m n hm hn =
    let few : m * n ≤ length (pieces m n) = omega (arith, cells-few m n hm hn, length-pieces m n) in
    let front = take (m * n) (pieces m n) in
    let none = tally-none (tried_at j) (piece 1 1 0 0) front (λ i l. at i (omega (arith, length-take-le (m * n) (pieces m n) few))) in
    omega (arith, none, ap (tally (tried_at j)) (take-append-drop (m * n) (pieces m n)), tally-append (tried_at j) front (drop (m * n) (pieces m n)))
  where
    cell : (i : ℕ) (p : Piece) → i < m * n → Inside m n p → slot_of m n p ≡ i → tried_at j p ≡ 0
    cell i p l w e =
        ⊎_elim (λ large. absurd (omega (arith, large-after m n p w large)))
        (λ one. subst (λ (q : Piece). tried_at j q ≡ 0) one (omega arith)) (cell-or-larger m n p w)

    at : (i : ℕ) → i < m * n → tried_at j (get_or (take (m * n) (pieces m n)) i (piece 1 1 0 0)) ≡ 0
    at i l =
        let (p, w, e) = slot-onto m n i (omega (arith, cells-few m n hm hn)) in
        let is : get_or (take (m * n) (pieces m n)) i (piece 1 1 0 0) ≡ p =
        get_or-take (m * n) (pieces m n) i (piece 1 1 0 0) l ∙ ap (λ (k : ℕ). get_or (pieces m n) k (piece 1 1 0 0)) (sym e) ∙ get_or-slot m n p w (piece 1 1 0 0) in
        rw is (cell i p l w e)

-- so that by masks split from rules the loops make as many trials as the list has
pub tried-listed : (rules : List Rule) (masks : List ℕ) (m n : ℕ) → 1 ≤ m → 1 ≤ n → tried_by (split_of rules masks).joins m n ≡ length (trials rules m n)
tried-listed rules masks m n hm hn =
    tried-all (split_of rules masks).joins m n hm hn ∙ ap (λ (j : Joins). tally (tried_at j) (pieces m n)) (joins-counted rules masks) ∙ sym (length-tried rules m n)

-- ── The greatest number ──

cuts-few : (top n : ℕ) → n ≤ top → (n - 1) * n * (n + 1) / 6 ≤ (top - 1) * top * (top + 1) / 6
cuts-few top n h =
    let less : n - 1 ≤ top - 1 = omega arith in
    let more : n + 1 ≤ top + 1 = omega arith in
    let all : (n - 1) * n * (n + 1) ≤ (top - 1) * top * (top + 1) = mul-le-mul (mul-le-mul less h) more in
    omega arith

-- for any greatest number of rows and columns
trials-few : (top a d m n : ℕ) → m ≤ top → n ≤ top → trials_for a d m n ≤ (a + d) * (top * (top + 1) / 2 * ((top - 1) * top * (top + 1) / 6))
trials-few top a d m n h g =
    omega (
      arith,
      mul-le-mul_left a (mul-le-mul (half-few top m h) (cuts-few top n g)),
      mul-le-mul_left d (mul-le-mul (half-few top n g) (cuts-few top m h)),
    )

-- with so many joins of each direction as have a place, the loops' numbers have room
pub tried-fits : (j : Joins) (m n : ℕ) → Within most m n → j.across ≤ most_rules → j.down ≤ most_rules → tried_by j m n < 2 ^ 32
tried-fits j m n w ha hd =
    omega (arith, tried-all j m n w.rows_some w.cols_some, tried-formula j m n, trials-few most j.across j.down m n w.rows_few w.cols_few)

directions-apart : (rules : List Rule) → rules_of across rules + rules_of down rules ≤ length rules
unfolding rules_of
directions-apart [] = omega arith
directions-apart (r ∷ rs) = omega (arith, one r.body, directions-apart rs)
  where
    one : (x : Body) → goes across x + goes down x ≤ 1
    one (Colour c) = omega arith
    one (Across u v) = omega arith
    one (Down u v) = omega arith

-- no book asks for more, ...
pub trials-most : (rules : List Rule) (top m n : ℕ) → length rules ≤ most_rules → m ≤ top → n ≤ top → length (trials rules m n) ≤ most_trials top
trials-most rules top m n few h g =
    let all : rules_of across rules + rules_of down rules ≤ most_rules = omega (arith, directions-apart rules) in
    omega (
      arith,
      trials-formula rules m n,
      trials-few top (rules_of across rules) (rules_of down rules) m n h g,
      mul-le-mul_right (top * (top + 1) / 2 * ((top - 1) * top * (top + 1) / 6)) all,
    )

-- ... which is so many on each press, ...
pub most_trials_lem : (most_trials (greatest_of 0) ≡ 4461600) × (most_trials (greatest_of 1) ≡ 138000000)
unfolding greatest_of
most_trials_lem = (refl, refl)

-- ... and the count has room for them
pub most-fits : (press : ℕ) → most_trials (greatest_of press) ≤ 138000000
most-fits press = trials-few most most_rules 0 (greatest_of press) (greatest_of press) (greatest-few press) (greatest-few press)
