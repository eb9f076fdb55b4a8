-- A tidied book keeps what a book must: its counts are no greater, its start and motifs are numbers of kept motifs, and a rule of the start is left.
use Prim.Native.Nat.{ℕ, ◌≤◌, ◌<◌}
use mathlib.Core.Path.{◌≡◌, refl, subst}
use mathlib.Core.Bool.{true, false}
use mathlib.Core.List.Memᴰ
use mathlib.Core.List.{List, [], ◌∷◌, Memᴰ}
use native.Mathlib.Omega.{arith}
use lib.ListN.{length, length-map}
use Rattle.books.specs.Contents.{Contents}
use Rattle.books.specs.Keeps.{BodyFits, RuleFits, Sound, KeepsBy, Keeps}
use Rattle.books.specs.Moved.{moved}
use Rattle.books.specs.declared.rule.Dir.TheVariants.{Across as across, Down as down}
use Rattle.books.specs.declared.rule.Rule.{Rule}
use Rattle.books.specs.declared.rule.Body.{Body}
use Rattle.books.specs.declared.rule.Body.TheVariants.{Colour, Across, Down}
use Rattle.tidy.specs.Kept.{Rewrites, coloured, joined, starting, as_first, as_second}
use Rattle.tidy.specs.Marks.{rank}
use Rattle.tidy.specs.Marking.{all_marked, reached}
use Rattle.books.specs.Equal.{firsts}
use Rattle.tidy.specs.Tidied.{usable, renumbered, leaving, tidied}
use Rattle.books.proofs.Firsts.{firsts-length}
use Rattle.tidy.proofs.Leaving.{usable-length, leaving-back, leaving-apart}
use Rattle.tidy.proofs.Ranks.{rank-le, rank_lt}
use Rattle.tidy.proofs.SameSheets.{colour-over, joins-over}
use Rattle.tidy.proofs.Reaching.{reached-all}
use Rattle.tidy.proofs.Rewriting.{joins-marked}

body_fits : (m n k : ℕ) (x : Body) → BodyFits n k x → all_marked m x ≡ true → BodyFits (rank m n) k (moved (rank m) (λ c. c) x)
body_fits m n k (Colour c) h e = h
body_fits m n k (Across l r) h e =
    let (u, v) = (joins-marked m across l r).0 e in (rank_lt m l n u h.0, rank_lt m r n v h.1)
body_fits m n k (Down l r) h e =
    let (u, v) = (joins-marked m down l r).0 e in (rank_lt m l n u h.0, rank_lt m r n v h.1)

some-rule : (r : Rule) (rs : List Rule) → Memᴰ r rs → 1 ≤ length rs
some-rule r [] i = absurd (Memᴰ.not-nil i)
some-rule r (q ∷ rs) i = omega arith

module _ (b : Contents) where
  rule_fits : Sound b → (r : Rule) → Memᴰ r (tidied b).rules → RuleFits (rank (reached b) b.motifs) (length b.colours) r
  unfolding tidied
  rule_fits sound r i =
      let s = leaving-back (reached b) b r.head r.body i in
      let f = sound.rules_fit _ s.rule in
      record {
        head_fits = omega (arith, s.head_is, rank_lt (reached b) s.head b.motifs s.head_has f.head_fits);
        body_fits = subst (BodyFits (rank (reached b) b.motifs) (length b.colours)) s.body_is
            (body_fits (reached b) b.motifs (length b.colours) s.body f.body_fits s.body_has);
      }

  start_fits : Sound b → rank (reached b) b.start < rank (reached b) b.motifs
  start_fits sound = rank_lt (reached b) b.start b.motifs (reached-all b sound (starting refl)) sound.start_fits

  pub tidied-sound : Sound b → Sound (tidied b)
  unfolding tidied leaving
  tidied-sound sound = record { start_fits = start_fits sound; rules_fit = rule_fits sound }

  start-rule : Sound b → Rewrites b b.start → 1 ≤ length (tidied b).rules
  start-rule sound (coloured c h) = some-rule _ _ (colour-over b sound b.start c h (starting refl))
  start-rule sound (joined d l r h x y) =
      some-rule _ _ (joins-over b sound b.start d l r h (starting refl)
      (as_first d l r h x y (starting refl)) (as_second d l r h x y (starting refl)))

  rules_few : length (tidied b).rules ≤ length b.rules
  unfolding tidied leaving
  rules_few =
      omega (
        arith,
        length-map (usable (reached b) (firsts [] b.rules)) (renumbered (reached b)),
        usable-length (reached b) (firsts [] b.rules),
        firsts-length [] b.rules,
      )

  pub tidied-keeps : KeepsBy false b → Rewrites b b.start → Keeps (tidied b)
  tidied-keeps keeps s =
      let few : rank (reached b) b.motifs ≤ b.motifs = rank-le (reached b) b.motifs in
      record {
        colours_ok = unfold tidied leaving in keeps.colours_ok;
        motifs_some = unfold tidied leaving in (omega (arith, start_fits keeps.sound));
        motifs_few = unfold tidied leaving in (omega (arith, keeps.motifs_few, few));
        rules_some = start-rule keeps.sound s;
        rules_few = omega (arith, rules_few, keeps.rules_few);
        sound = tidied-sound keeps.sound;
        no_copies = unfold tidied in (leaving-apart (reached b) b);
      }
