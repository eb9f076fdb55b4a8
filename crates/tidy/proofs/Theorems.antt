-- What tidying a book does, over its contents, each from the law of its name.
use Prim.Native.Nat.{ℕ, ◌<◌}
use mathlib.Core.Path.{◌≡◌}
use mathlib.Core.Bool.{true, false}
use mathlib.Core.Logic.{◌↔◌}
use Rattle.books.specs.Contents.{Contents}
use Rattle.books.specs.Derives.{Member}
use Rattle.books.specs.Keeps.{KeepsBy, Keeps}
use Rattle.books.specs.Picture.{Picture}
use Rattle.books.specs.declared.rule.Rule.{Rule}
use Rattle.tidy.specs.Kept.{Rewrites, Kept}
use Rattle.names.specs.Bits.{is_set}
use Rattle.tidy.specs.Marking.{reached, rewrites?, kept?}
use Rattle.names.specs.Spelling.{Distinct}
use Rattle.tidy.specs.Tidied.{uses, renumbered, tidied}
use Rattle.tidy.proofs.Keeping.{tidied-keeps}
use Rattle.tidy.proofs.Leaving.{rules-apart}
use Rattle.tidy.proofs.Reaching.{kept-decided, marks-kept}
use Rattle.tidy.proofs.Rewriting.{rewrites-decided, rewrites-refused}
use Rattle.tidy.proofs.SameSheets.{same-sheets, nothing-derived}
use Rattle.tidy.proofs.Twice.{every-kept, tidied-apart, tidied-twice}

pub record Tidies (b : Contents) : Type 0 where
  -- the tests are the definitions, and the motifs that are marked in the end are the kept ones
  pub rewrites_as : (a : ℕ) → (rewrites? b a ≡ true) ↔ Rewrites b a
  pub refused_as : (a : ℕ) → (rewrites? b a ≡ false) ↔ (Rewrites b a → ⊥)
  pub kept_as : (a : ℕ) → (kept? b a ≡ true) ↔ Kept b a
  pub marks_as : Rewrites b b.start → (a : ℕ) → (is_set (reached b) a ≡ true) ↔ Kept b a
  -- rules are equal after renumbering only where they were before
  pub equal_as : (q r : Rule) → uses (reached b) q ≡ true → uses (reached b) r ≡ true
      → renumbered (reached b) q ≡ renumbered (reached b) r → q ≡ r
  -- the same pictures, of every size; none where the start cannot be rewritten
  pub same : (p : Picture) → Member (tidied b) p ↔ Member b p
  pub nothing : (Rewrites b b.start → ⊥) → (p : Picture) → Member b p → ⊥
  -- a book again, of which every motif is kept and no rule stands twice, and which tidying leaves as it is
  pub keeps : Rewrites b b.start → Keeps (tidied b)
  pub all_kept : Rewrites b b.start → (a : ℕ) → a < (tidied b).motifs → Kept (tidied b) a
  pub no_copies : Distinct (tidied b).rules
  pub again : Rewrites b b.start → tidied (tidied b) ≡ tidied b

pub tidies : (b : Contents) → KeepsBy false b → Tidies b
tidies b k =
    record {
      rewrites_as = rewrites-decided b k.sound;
      refused_as = rewrites-refused b k.sound;
      kept_as = kept-decided b k.sound;
      marks_as = marks-kept b k.sound;
      equal_as = rules-apart (reached b);
      same = same-sheets b k.sound;
      nothing = nothing-derived b;
      keeps = tidied-keeps b k;
      all_kept = every-kept b k.sound;
      no_copies = tidied-apart b;
      again = tidied-twice b k.sound;
    }
