-- Rules that fit the counts are read back from their spelling, whatever follows it: each number is read where the one before it ends.
use Prim.Native.Nat.{ℕ, ◌+◌, ◌-◌, ◌<◌, ◌≤◌}
use mathlib.Core.Path.{◌≡◌, refl, sym, ◌∙◌, ap, subst}
use mathlib.Core.Bool.{Bool, false}
use mathlib.Core.List.{List, [], ◌∷◌, ◌++◌, append_assoc, Memᴰ}
use native.Mathlib.Omega.{arith}
use native.Mathlib.Nat.{add_assoc, add-zero}
use borrow.Author.Tests.{ne_eqb}
use lib.ListN.{length, take, set, replicate, length-append}
use lib.Seq.{set_at, take_at}
use Rattle.names.specs.Pick.{fault}
use Rattle.names.specs.Number.{spell_number}
use Rattle.names.specs.Spelling.{most_colours}
use Rattle.books.specs.Keeps.{BodyFits, RuleFits, NoCopies, most_motifs, most_rules}
use Rattle.books.specs.Rules.{colour_number_at, join_body, join_at, body_at, rule_at, no_rule, no_rules, repeats, rules_from, rules_at}
use Rattle.books.specs.SpellBook.{spell_body, spell_rule, spell_rules}
use Rattle.books.specs.declared.rule.Rule.{Rule}
use Rattle.books.specs.declared.rule.Body.{Body}
use Rattle.books.specs.declared.rule.Body.TheVariants.{Colour, Across, Down}
use Rattle.books.specs.BodyRead.{Whole as WholeBody}
use Rattle.books.specs.RuleRead.{Whole as WholeRule}
use Rattle.books.proofs.EqualRules.{copies-new}
use Rattle.books.proofs.ReadingRules.{no_rules-split}
use Rattle.books.proofs.StandingNumbers.{Stands, past-stands, below-read}

module _ (s : List ℕ) (motifs colours : ℕ) (few_motifs : motifs ≤ most_motifs) (few_colours : colours ≤ most_colours) where
  colour-read : (at c : ℕ) (rest : List ℕ) → c < colours → Stands s at (spell_body (Colour c) ++ rest)
      → body_at s at motifs colours ≡ WholeBody (Colour c) (at + length (spell_body (Colour c)))
  unfolding body_at colour_number_at
  colour-read at c rest h e =
      let k : Stands s at (spell_number 0 ++ (spell_number c ++ rest)) = rw append_assoc at e in
      let d = past-stands (spell_number 0) (spell_number c ++ rest) k in
      simp (below-read 3 7 0 (spell_number c ++ rest) k (omega arith) (omega arith), below-read colours 6 c rest d h (omega arith))
      (simp (length-append, add_assoc))

  -- a join of kind 1 or 2
  join-read : (at kind a b : ℕ) (rest : List ℕ) → (kind ≡ 0 → ⊥) → kind < 3 → a < motifs → b < motifs
      → Stands s at ((spell_number kind ++ (spell_number a ++ spell_number b)) ++ rest)
      → body_at s at motifs colours ≡ WholeBody (join_body kind a b) (at + length (spell_number kind ++ (spell_number a ++ spell_number b)))
  unfolding body_at join_at
  join-read at kind a b rest some low h g e =
      let k : Stands s at (spell_number kind ++ (spell_number a ++ (spell_number b ++ rest))) = simp append_assoc at e in
      let d = past-stands (spell_number kind) (spell_number a ++ (spell_number b ++ rest)) k in
      let q = past-stands (spell_number a) (spell_number b ++ rest) d in
      simp (
        below-read 3 7 kind (spell_number a ++ (spell_number b ++ rest)) k low (omega arith),
        ne_eqb kind 0 some,
        below-read motifs 6 a (spell_number b ++ rest) d h (omega arith),
        below-read motifs 6 b rest q g (omega arith),
      )
      (simp (length-append, add_assoc))

  body-read : (at : ℕ) (b : Body) (rest : List ℕ) → BodyFits motifs colours b → Stands s at (spell_body b ++ rest)
      → body_at s at motifs colours ≡ WholeBody b (at + length (spell_body b))
  body-read at (Colour c) rest f e = colour-read at c rest f e
  body-read at (Across l r) rest f e = join-read at 1 l r rest (omega arith) (omega arith) f.0 f.1 e
  body-read at (Down u v) rest f e = join-read at 2 u v rest (omega arith) (omega arith) f.0 f.1 e

  rule-read : (at : ℕ) (r : Rule) (rest : List ℕ) → RuleFits motifs colours r → Stands s at (spell_rule r ++ rest)
      → rule_at s at motifs colours ≡ WholeRule r (at + length (spell_rule r))
  unfolding rule_at
  rule-read at r rest f e =
      let k : Stands s at (spell_number r.head ++ (spell_body r.body ++ rest)) = rw append_assoc at e in
      let d = past-stands (spell_number r.head) (spell_body r.body ++ rest) k in
      simp (
        below-read motifs 6 r.head (spell_body r.body ++ rest) k f.head_fits (omega (arith, f.head_fits)),
        body-read (at + length (spell_number r.head)) r.body rest f.body_fits d,
      )
      (simp (length-append, add_assoc))

  -- so many rules, after those that stand already in their places
  rules-read-from : (strict : Bool) (rs done rules : List Rule) (i spare at : ℕ) (rest : List ℕ) → NoCopies strict (done ++ rs)
      → rules ≡ done ++ (replicate (length rs) no_rule ++ replicate spare no_rule) → length done ≡ i
      → ((r : Rule) → Memᴰ r rs → RuleFits motifs colours r) → Stands s at (spell_rules rs ++ rest)
      → rules_from strict s motifs colours rules i at (length rs)
      ≡ record { fault = fault 0 0; rules = done ++ (rs ++ replicate spare no_rule); next = at + length (spell_rules rs) }
  rules-read-from strict [] done rules i spare at rest once p h f e = rw (p, add-zero)
  rules-read-from strict (r ∷ rs) done rules i spare at rest once p h f e =
      let others = replicate (length rs) no_rule ++ replicate spare no_rule in
      let k : Stands s at (spell_rule r ++ (spell_rules rs ++ rest)) = rw (append_assoc (spell_rule r) (spell_rules rs) rest) at e in
      let longer : set rules i r ≡ (done ++ (r ∷ [])) ++ others = rw p (set_at done no_rule others r i h ∙ sym (append_assoc done (r ∷ []) others)) in
      let others_once : NoCopies strict ((done ++ (r ∷ [])) ++ rs) = subst (NoCopies strict) (sym (append_assoc done (r ∷ []) rs)) once in
      let new : repeats strict (take i rules) r ≡ false =
      ap (λ (q : List Rule). repeats strict q r) (rw p (take_at done (no_rule ∷ others) i h)) ∙ copies-new strict done r rs once in
      let t = rules-read-from strict rs (done ++ (r ∷ [])) (set rules i r) (i + 1) spare (at + length (spell_rule r)) rest others_once longer (omega (arith, length-append done (r ∷ [])))
      (λ x m. f x (Memᴰ.tail m)) (past-stands (spell_rule r) (spell_rules rs ++ rest) k) in
      simp (rule-read at r (spell_rules rs ++ rest) (f r (Memᴰ.head refl)) k, new) (t ∙ simp (append_assoc, length-append, add_assoc))

  -- rules that fit are read back into the first places, the others fixed, with the place after them
  pub rules-read : (strict : Bool) (rs : List Rule) (at : ℕ) (rest : List ℕ) → NoCopies strict rs → length rs ≤ most_rules → ((r : Rule) → Memᴰ r rs → RuleFits motifs colours r)
      → Stands s at (spell_rules rs ++ rest)
      → rules_at strict s at motifs colours (length rs)
      ≡ record { fault = fault 0 0; rules = rs ++ replicate (most_rules - length rs) no_rule; next = at + length (spell_rules rs) }
  unfolding rules_at
  rules-read strict rs at rest once few f e = rules-read-from strict rs [] no_rules 0 (most_rules - length rs) at rest once (no_rules-split (length rs) few) refl f e
