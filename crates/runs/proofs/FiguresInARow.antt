-- The figures one after another: an answer, a cell or a ticket more stands in its part of the row, and the other parts are as they were.
use Prim.Native.Nat.{ℕ, zero, suc, ◌+◌, ◌<◌, max}
use mathlib.Core.Path.{◌≡◌, refl, sym, ap, ◌∙◌}
use mathlib.Core.List.{List, [], ◌∷◌, ◌++◌, map}
use native.Mathlib.Decide.{ℕ_discrete}
use native.Mathlib.Nat.{add-zero}
use native.Mathlib.Omega.{arith}
use borrow.Author.Tests.{eq-eqb, ne_eqb}
use lib.Dec.{eqb}
use lib.ListN.{length, get_or, set, length-append, get_or-append}
use lib.Seq.{ext_get_or, get_or_at, get_or-append-add, set-append_left}
use Rattle.names.specs.Counted.{each}
use Rattle.names.specs.Spelling.{most_colours}
use Rattle.runs.specs.Figures.{answers_given, answer_counts}
use Rattle.runs.specs.Lists.{how_many, any_in, least_in, greatest_in}
use Rattle.runs.specs.inner.Adding.{cells_from, one_more, count_place, answered, coloured, least_with, ticketed}
use Rattle.runs.proofs.AddingCells.{more-here, more-else, more-long}
use Rattle.runs.proofs.AnswersOfSheets.{Listed, of-listed}
use Rattle.runs.proofs.CountingLists.{once, how_many-cons, how_many-none}

-- the sheets, the counts of the answers and of the cells, and what stands behind them
abbrev pub row : ℕ → (ℕ → ℕ) → (ℕ → ℕ) → List ℕ → List ℕ
row sheets got cells behind = sheets ∷ (map got answers_given ++ (each most_colours (λ c. cells c ∷ []) ++ behind))

-- the figures of tickets, and what stands behind them
abbrev pub ticket_row : List ℕ → List ℕ → List ℕ
ticket_row tickets rest = any_in tickets ∷ least_in tickets ∷ greatest_in tickets ∷ rest

-- colours that have a count
abbrev pub Low : List ℕ → Type 0
Low l = (i : ℕ) → i < length l → get_or l i 0 < most_colours

-- ── One more in a list ──

set-behind : (l m : List ℕ) (k v : ℕ) → set (l ++ m) (length l + k) v ≡ l ++ set m k v
set-behind [] m k v = let e : 0 + k ≡ k = omega arith in ap (λ (j : ℕ). set m j v) e
set-behind (x ∷ l) m k v =
    let e : length (x ∷ l) + k ≡ suc (length l + k) = omega arith in
    ap (λ (j : ℕ). set (x ∷ (l ++ m)) j v) e ∙ ap (λ (r : List ℕ). x ∷ r) (set-behind l m k v)

more-behind : (l m : List ℕ) (k : ℕ) → one_more (l ++ m) (length l + k) ≡ l ++ one_more m k
unfolding one_more
more-behind l m k = rw (get_or-append-add l m k 0) (set-behind l m k (get_or m k 0 + 1))

more-front : (l m : List ℕ) (k : ℕ) → k < length l → one_more (l ++ m) k ≡ one_more l k ++ m
unfolding one_more
more-front l m k h = rw (get_or-append l m 0 k h) (set-append_left l m k (get_or l k 0 + 1) h)

-- ── An answer more ──

pub count_low : (n : ℕ) → Listed n → count_place n < answer_counts
unfolding count_place
count_low =
    of-listed (λ n. count_place n < answer_counts) (omega arith) (omega arith) (omega arith) (omega arith) (omega arith) (omega arith) (omega arith) (omega arith)
    (omega arith) (omega arith)

answers-more : (got : ℕ → ℕ) (n : ℕ) → Listed n → one_more (map got answers_given) (count_place n) ≡ map (λ a. got a + once (eqb n a)) answers_given
unfolding one_more count_place
answers-more got =
    of-listed (λ n. one_more (map got answers_given) (count_place n) ≡ map (λ a. got a + once (eqb n a)) answers_given) (simp add-zero) (simp add-zero)
    (simp add-zero) (simp add-zero) (simp add-zero) (simp add-zero) (simp add-zero) (simp add-zero) (simp add-zero) (simp add-zero)

-- ── A cell more ──

-- f 0, f 1, .. one after the other
module _ (f : ℕ → ℕ) where
  each_long : (n : ℕ) → length (each n (λ c. f c ∷ [])) ≡ n
  unfolding each
  each_long zero = refl
  each_long (suc n) = length-append (each n (λ c. f c ∷ [])) (f n ∷ []) ∙ omega (arith, each_long n)

  each_at : (n i : ℕ) → i < n → get_or (each n (λ c. f c ∷ [])) i 0 ≡ f i
  unfolding each
  each_at zero i h = absurd (omega arith)
  each_at (suc n) i h = go (λ l. each_at n i l) (ℕ_discrete i n)
    where
      go : (i < n → get_or (each n (λ c. f c ∷ [])) i 0 ≡ f i) → Dec (i ≡ n) → get_or (each n (λ c. f c ∷ []) ++ (f n ∷ [])) i 0 ≡ f i
      go ih (yes e) = rw e (get_or_at (each n (λ c. f c ∷ [])) (f n) [] 0 n (each_long n))
      go ih (no d) = get_or-append (each n (λ c. f c ∷ [])) (f n ∷ []) 0 i (omega (arith, each_long n)) ∙ ih (omega arith)

cells-more : (f : ℕ → ℕ) (n x : ℕ) → one_more (each n (λ c. f c ∷ [])) x ≡ each n (λ c. (f c + once (eqb x c)) ∷ [])
cells-more f n x =
    ext_get_or 0 (one_more l x) (each n (λ c. (f c + once (eqb x c)) ∷ [])) (more-long l x ∙ each_long f n ∙ sym (each_long (λ c. f c + once (eqb x c)) n))
    (λ i h. let low : i < n = omega (arith, more-long l x, each_long f n) in
    go i low (ℕ_discrete x i) ∙ sym (each_at (λ c. f c + once (eqb x c)) n i low))
  where
    l : List ℕ
    l = each n (λ c. f c ∷ [])

    go : (i : ℕ) → i < n → Dec (x ≡ i) → get_or (one_more l x) i 0 ≡ f i + once (eqb x i)
    go i h (yes e) = rw (e, eq-eqb i i refl) (more-here l i (omega (arith, each_long f n)) ∙ ap (λ (k : ℕ). k + 1) (each_at f n i h))
    go i h (no d) = rw (ne_eqb x i d) (more-else l x i (λ e. d (sym e)) ∙ each_at f n i h ∙ omega arith)

-- ── In the row ──

module _ (sheets : ℕ) (got : ℕ → ℕ) where
  pub row-answered : (cells : ℕ → ℕ) (behind : List ℕ) (n : ℕ) → Listed n
      → answered (row sheets got cells behind) n ≡ row (sheets + 1) (λ a. got a + once (eqb n a)) cells behind
  unfolding answered one_more
  row-answered cells behind n l =
      let first = (sheets + 1) ∷ [] in
      let after = each most_colours (λ c. cells c ∷ []) ++ behind in
      more-behind first (map got answers_given ++ after) (count_place n)
      ∙ ap (λ (r : List ℕ). first ++ r) (more-front (map got answers_given) after (count_place n) (count_low n l) ∙ ap (λ (r : List ℕ). r ++ after) (answers-more got n l))

  pub row-coloured : (cells : ℕ → ℕ) (behind l : List ℕ) → Low l
      → coloured (row sheets got cells behind) l ≡ row sheets got (λ c. cells c + how_many (λ (x : ℕ). eqb x c) l) behind
  unfolding coloured
  row-coloured cells behind [] low = λ i. row sheets got (λ c. none c i) behind
    where
      none : (c : ℕ) → cells c ≡ cells c + how_many (λ (x : ℕ). eqb x c) []
      none c = omega (arith, how_many-none (λ (x : ℕ). eqb x c))
  row-coloured cells behind (x ∷ l) low =
      let before = sheets ∷ map got answers_given in
      let first : one_more (row sheets got cells behind) (cells_from + x) ≡ row sheets got (λ c. cells c + once (eqb x c)) behind =
      more-behind before (each most_colours (λ c. cells c ∷ []) ++ behind) x
      ∙ ap (λ (r : List ℕ). before ++ r)
      (more-front (each most_colours (λ c. cells c ∷ [])) behind x (omega (arith, low 0 (omega arith), each_long cells most_colours))
      ∙ ap (λ (r : List ℕ). r ++ behind) (cells-more cells most_colours x)) in
      ap (λ (f : List ℕ). coloured f l) first ∙ row-coloured (λ c. cells c + once (eqb x c)) behind l (λ i h. low (suc i) (omega arith))
      ∙ (λ i. row sheets got (λ c. both c i) behind)
    where
      both : (c : ℕ) → cells c + once (eqb x c) + how_many (λ (y : ℕ). eqb y c) l ≡ cells c + how_many (λ (y : ℕ). eqb y c) (x ∷ l)
      both c = omega (arith, how_many-cons (λ (y : ℕ). eqb y c) x l)

  pub row-ticketed : (cells : ℕ → ℕ) (any least greatest : ℕ) (rest : List ℕ) (t : ℕ)
      → ticketed (row sheets got cells (any ∷ least ∷ greatest ∷ rest)) t ≡ row sheets got cells (1 ∷ least_with any least t ∷ max greatest t ∷ rest)
  unfolding ticketed each
  row-ticketed cells any least greatest rest t = refl
