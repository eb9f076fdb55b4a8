-- Either-of derives exactly what the one book or the other derives: its start has copies of the rules of both starts, and no others.
use Prim.Native.Nat.{◌+◌}
use mathlib.Core.List.Memᴰ
use mathlib.Core.List.{List, ◌++◌}
use mathlib.Core.Logic.{◌↔◌, ◌⊎◌, inl, inr, ⊎_elim}
use native.Mathlib.Omega.{arith}
use Rattle.books.specs.Contents.{Contents, Has}
use Rattle.books.specs.Picture.{Picture}
use Rattle.books.specs.Derives.{Member}
use Rattle.books.specs.Keeps.{Sound}
use Rattle.books.specs.declared.rule.Rule.{Rule}
use Rattle.books.proofs.LeavingOut.{without_copies-same}
use Rattle.books.specs.declared.rule.Body.{Body}
use Rattle.families.specs.Combine.{raised, copies, both_books, either_of}
use Rattle.families.proofs.Copying.{copies-forth, copies-back}
use Rattle.families.proofs.Heads.{HeadsFrom, heads-append, heads-copies}
use Rattle.families.proofs.Standing.{after_first, first-rule, second-rule, new-rule, first-derives, second-derives}
use Rattle.families.proofs.Reheading.{rehead, rehead-cases}

module _ (f g : Contents) (sf : Sound f) (sg : Sound g) where
  -- the copies from both starts
  abbrev own : List Rule
  own = copies (f.motifs + g.motifs) f.start f.rules

  abbrev other : List Rule
  other = copies (f.motifs + g.motifs) (f.motifs + g.start) (raised f g)

  abbrev both : Contents
  both = both_books f g (own ++ other)

  heads : HeadsFrom (f.motifs + g.motifs) (own ++ other)
  heads = heads-append _ own other (heads-copies _ _ _ f.rules (omega arith)) (heads-copies _ _ _ (raised f g) (omega arith))

  start-rule : (x : Body) → Has both (f.motifs + g.motifs) x → Has both f.start x ⊎ Has both (f.motifs + g.start) x
  start-rule x m =
      ⊎_elim
      (λ u. inl (Memᴰ.append_left _ (copies-back _ _ _ x f.rules u).1))
      (λ u. inr (Memᴰ.append_right f.rules (Memᴰ.append_left _ (copies-back _ _ _ x (raised f g) u).1)))
      (Memᴰ.append_cases own (new-rule f g _ sf sg heads _ x (omega arith) m))

  has_first : (x : Body) → Has both f.start x → Has both (f.motifs + g.motifs) x
  has_first x m =
      let u = first-rule f _ _ _ sf (after_first f g _ sf sg heads) _ x sf.start_fits m in
      Memᴰ.append_right f.rules (Memᴰ.append_right (raised f g) (Memᴰ.append_left other (copies-forth _ _ x f.rules u)))

  has-second : (x : Body) → Has both (f.motifs + g.start) x → Has both (f.motifs + g.motifs) x
  has-second x m =
      let u = second-rule f g _ sf sg heads _ x (omega arith) (omega (arith, sg.start_fits)) m in
      Memᴰ.append_right f.rules (Memᴰ.append_right (raised f g) (Memᴰ.append_right own (copies-forth _ _ x (raised f g) u)))

  both-derives : (p : Picture) → Member both p ↔ (Member f p ⊎ Member g p)
  both-derives p =
      let first_in = first-derives f _ _ _ sf (after_first f g _ sf sg heads) p in
      let second_in = second-derives f g _ sf sg heads p in (
        λ x. ⊎_elim (λ u. inl (first_in.0 u)) (λ u. inr (second_in.0 u)) (rehead-cases _ _ _ _ start-rule x),
        ⊎_elim (λ u. rehead _ _ _ has_first (first_in.1 u)) (λ u. rehead _ _ _ has-second (second_in.1 u)),
      )

  -- leaving out later copies changes no sheet
  pub either_of-derives : (p : Picture) → Member (either_of f g) p ↔ (Member f p ⊎ Member g p)
  unfolding either_of
  either_of-derives p =
      let same = without_copies-same both p in
      let derives = both-derives p in
      (λ x. derives.0 (same.0 x), λ x. same.1 (derives.1 x))
