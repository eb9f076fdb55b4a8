-- The tests for kept motifs: motifs are marked rule by rule, in as many passes over the rules as there are motifs.
use Rattle.std.specs.Prelude.{ℕ, zero, suc, Bool, true, List, [], ◌∷◌}
use Rattle.names.specs.Pick.{pick, and_then}
use Rattle.names.specs.Bits.{is_set}
use Rattle.books.specs.Contents.{Contents}
use Rattle.books.specs.declared.rule.Rule.{Rule}
use Rattle.books.specs.declared.rule.Body.{Body}
use Rattle.books.specs.declared.rule.Body.TheVariants.{Colour, Across, Down}
use Rattle.tidy.specs.Marks.{adding}

-- whether all motifs of a body are marked
unfoldable pub all_marked : ℕ → Body → Bool
all_marked m (Colour c) = true
all_marked m (Across l r) = and_then (is_set m l) (λ _. is_set m r)
all_marked m (Down u v) = and_then (is_set m u) (λ _. is_set m v)

-- the motifs of a body are marked too
unfoldable pub adding_body : ℕ → Body → ℕ
adding_body m (Colour c) = m
adding_body m (Across l r) = adding (adding m l) r
adding_body m (Down u v) = adding (adding m u) v

-- a rule whose motifs are all marked marks its head
unfoldable pub mark_head : ℕ → Rule → ℕ
mark_head m r = pick (all_marked m r.body) (adding m r.head) m

-- a rule whose head is marked, and whose motifs all can be rewritten, marks its motifs
unfoldable pub mark_body : ℕ → ℕ → Rule → ℕ
mark_body can m r = pick (is_set m r.head) (pick (all_marked can r.body) (adding_body m r.body) m) m

-- one pass over the rules, and so many passes
unfoldable pub pass : (ℕ → Rule → ℕ) → List Rule → ℕ → ℕ
pass step [] m = m
pass step (r ∷ rs) m = pass step rs (step m r)

unfoldable pub passes : (ℕ → Rule → ℕ) → List Rule → ℕ → ℕ → ℕ
passes step rs zero m = m
passes step rs (suc n) m = passes step rs n (pass step rs m)

-- the motifs that can be rewritten, and those that are reached
unfoldable pub rewritten : Contents → ℕ
rewritten b = passes mark_head b.rules b.motifs 0

unfoldable pub reached : Contents → ℕ
reached b = passes (mark_body (rewritten b)) b.rules b.motifs (adding 0 b.start)

abbrev pub rewrites? : Contents → ℕ → Bool
rewrites? b a = is_set (rewritten b) a

unfoldable pub kept? : Contents → ℕ → Bool
kept? b a = and_then (rewrites? b a) (λ _. is_set (reached b) a)
