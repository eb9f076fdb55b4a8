-- Every motif of a tidied book is kept: it comes from a kept motif, and so do the rules that show that. So tidying again marks every motif, leaves
-- every number and every rule as it is, and finds no rule twice.
use Prim.Native.Nat.{ℕ, ◌≤◌, ◌<◌}
use mathlib.Core.Path.{◌≡◌, refl, ◌∙◌, ap, subst}
use mathlib.Core.Bool.{true}
use mathlib.Core.List.{List, [], ◌∷◌, map, Memᴰ}
use native.Mathlib.Omega.{arith}
use lib.ListN.{length}
use Rattle.books.specs.Contents.{Contents}
use Rattle.books.specs.Keeps.{BodyFits, Sound}
use Rattle.books.specs.Moved.{moved}
use Rattle.books.specs.declared.rule.Dir.TheVariants.{Across as across, Down as down}
use Rattle.books.specs.declared.rule.Rule.{Rule}
use Rattle.books.specs.declared.rule.Body.{Body}
use Rattle.books.specs.declared.rule.Body.TheVariants.{Colour, Across, Down}
use Rattle.tidy.specs.Kept.{Rewrites, coloured, joined, Reached, starting, as_first, as_second, Kept}
use Rattle.names.specs.Bits.{is_set}
use Rattle.tidy.specs.Marks.{rank}
use Rattle.tidy.specs.Marking.{all_marked, reached}
use Rattle.names.specs.Spelling.{Distinct}
use Rattle.books.specs.Equal.{firsts}
use Rattle.tidy.specs.Tidied.{usable, renumbered, leaving, tidied}
use Rattle.books.proofs.Firsts.{firsts_same}
use Rattle.tidy.proofs.Keeping.{tidied-sound}
use Rattle.tidy.proofs.Leaving.{uses-all, usable-all, leaving-apart}
use Rattle.tidy.proofs.Ranks.{rank-all, rank-onto}
use Rattle.tidy.proofs.SameSheets.{colour-over, joins-over}
use Rattle.tidy.proofs.Reaching.{reached-sound, reached-all, reached-rewrites}
use Rattle.tidy.proofs.Rewriting.{joins-marked}

-- ── Kept motifs stay kept ──

module _ (b : Contents) (sound : Sound b) where
  rewrites-over : {a : ℕ} → Rewrites b a → Reached b a → Rewrites (tidied b) (rank (reached b) a)
  rewrites-over {a} (coloured c h) z = coloured c (colour-over b sound a c h z)
  rewrites-over {a} (joined d l r h x y) z =
      let zl = as_first d l r h x y z in
      let zr = as_second d l r h x y z in
      joined d _ _ (joins-over b sound a d l r h z zl zr) (rewrites-over x zl) (rewrites-over y zr)

  start-over : (a : ℕ) → a ≡ b.start → rank (reached b) a ≡ (tidied b).start
  unfolding tidied leaving
  start-over a e = ap (rank (reached b)) e

  reached-over : {a : ℕ} → Reached b a → Reached (tidied b) (rank (reached b) a)
  reached-over {a} (starting e) = starting (start-over a e)
  reached-over (as_first {a} d l r h x y z) =
      let zl = as_first d l r h x y z in
      let zr = as_second d l r h x y z in
      as_first d _ _ (joins-over b sound a d l r h z zl zr) (rewrites-over x zl) (rewrites-over y zr) (reached-over z)
  reached-over (as_second {a} d l r h x y z) =
      let zl = as_first d l r h x y z in
      let zr = as_second d l r h x y z in
      as_second d _ _ (joins-over b sound a d l r h z zl zr) (rewrites-over x zl) (rewrites-over y zr) (reached-over z)

  pub every-kept : Rewrites b b.start → (k : ℕ) → k < (tidied b).motifs → Kept (tidied b) k
  every-kept s k h =
      let (a, _, e, q) = rank-onto (reached b) k b.motifs (unfold tidied leaving in h) in
      let z = reached-sound b a e in
      (subst (Rewrites (tidied b)) q (rewrites-over (reached-rewrites s z) z), subst (Reached (tidied b)) q (reached-over z))

-- ── A book that keeps everything ──

map_same : (f : Rule → Rule) (rs : List Rule) → ((r : Rule) → Memᴰ r rs → f r ≡ r) → map f rs ≡ rs
map_same f [] h = refl
map_same f (r ∷ rs) h =
    ap (λ (q : Rule). q ∷ map f rs) (h r (Memᴰ.head refl)) ∙ ap (λ (l : List Rule). r ∷ l) (map_same f rs (λ q i. h q (Memᴰ.tail i)))

module _ (t : Contents) (m : ℕ) (sound : Sound t) (all : (a : ℕ) → a < t.motifs → is_set m a ≡ true) where
  number_same : (a : ℕ) → a ≤ t.motifs → rank m a ≡ a
  number_same a h = rank-all m a (λ k i. all k (omega arith))

  body-marked : (x : Body) → BodyFits t.motifs (length t.colours) x → all_marked m x ≡ true
  body-marked (Colour c) h = unfold all_marked in refl
  body-marked (Across l r) h = (joins-marked m across l r).1 (all l h.0, all r h.1)
  body-marked (Down l r) h = (joins-marked m down l r).1 (all l h.0, all r h.1)

  body_same : (x : Body) → BodyFits t.motifs (length t.colours) x → moved (rank m) (λ c. c) x ≡ x
  body_same (Colour c) h = refl
  body_same (Across l r) h = cc (number_same l (omega (arith, h.0)), number_same r (omega (arith, h.1)))
  body_same (Down l r) h = cc (number_same l (omega (arith, h.0)), number_same r (omega (arith, h.1)))

  rules-same : Distinct t.rules → map (renumbered m) (usable m (firsts [] t.rules)) ≡ t.rules
  rules-same apart =
      ap (λ (l : List Rule). map (renumbered m) (usable m l)) (firsts_same t.rules apart)
      ∙ ap (map (renumbered m))
      (usable-all m t.rules (λ r i. let f = sound.rules_fit r i in uses-all m r (all r.head f.head_fits) (body-marked r.body f.body_fits)))
      ∙ map_same (renumbered m) t.rules
      (λ r i. let f = sound.rules_fit r i in
      λ k. record { head = number_same r.head (omega (arith, f.head_fits)) k; body = body_same r.body f.body_fits k })

  pub leaving-same : Distinct t.rules → leaving m t ≡ t
  unfolding leaving
  leaving-same apart =
      let rules_are = rules-same apart in
      λ k. record {
        colours = t.colours;
        motifs = number_same t.motifs (omega arith) k;
        start = number_same t.start (omega (arith, sound.start_fits)) k;
        rules = rules_are k;
      }

-- ── Twice ──

pub tidied-apart : (b : Contents) → Distinct (tidied b).rules
unfolding tidied
tidied-apart b = leaving-apart (reached b) b

tidied-is : (b : Contents) → tidied b ≡ leaving (reached b) b
unfolding tidied
tidied-is b = refl

pub tidied-twice : (b : Contents) → Sound b → Rewrites b b.start → tidied (tidied b) ≡ tidied b
tidied-twice b sound s =
    tidied-is (tidied b)
    ∙ leaving-same (tidied b) (reached (tidied b)) (tidied-sound b sound)
    (λ k h. reached-all (tidied b) (tidied-sound b sound) (every-kept b sound s k h).1)
    (tidied-apart b)
