-- A combination of sound books is sound: raised motifs stay below both counts, colours follow their names into the merged list, copies have the bodies of
-- rules that fit, and the new rules name the two starts.
use Prim.Native.Nat.{ℕ, ◌+◌, ◌≤◌, ◌<◌}
use mathlib.Core.Path.{sym, subst}
use mathlib.Core.List.Memᴰ
use mathlib.Core.List.{List, [], ◌∷◌, ◌++◌, Memᴰ}
use mathlib.Core.Logic.{⊎_elim}
use native.Mathlib.Omega.{arith}
use lib.ListN.{length}
use Rattle.names.proofs.Listing.{get_or-mem, listed_found}
use Rattle.books.specs.Contents.{Contents, name}
use Rattle.books.specs.Picture.{joins}
use Rattle.books.specs.declared.rule.Dir.TheVariants.{Across as across, Down as down}
use Rattle.books.specs.declared.rule.Dir.{Dir}
use Rattle.books.specs.Keeps.{BodyFits, RuleFits, Sound}
use Rattle.books.specs.declared.rule.Rule.{Rule}
use Rattle.books.specs.declared.rule.Body.{Body}
use Rattle.books.specs.declared.rule.Body.TheVariants.{Colour, Across, Down}
use Rattle.books.proofs.GreaterCounts.{rule-more}
use Rattle.books.proofs.LeavingOut.{without_copies-sound}
use Rattle.families.specs.Merged.{merged}
use Rattle.books.specs.Moved.{moved, moved_rule}
use Rattle.families.specs.Combine.{renumbered, raised, copies, both_books, either_of, joined, repeated, rebodied}
use Rattle.families.specs.inner.Asked.{changed_body}
use Rattle.families.specs.declared.asked.Change.{Change}
use Rattle.families.specs.declared.asked.Change.TheVariants.{Mirrored, Flipped, Transposed}
use Rattle.families.proofs.Merging.{merged-mem, merged-length}
use Rattle.families.proofs.Copying.{copies-back}

-- Every rule of a list fits the counts of motifs and colours.
abbrev pub RulesFit : ℕ → ℕ → List Rule → Type 0
RulesFit m n rs = (r : Rule) → Memᴰ r rs → RuleFits m n r

fit_append : (m n : ℕ) (xs ys : List Rule) → RulesFit m n xs → RulesFit m n ys → RulesFit m n (xs ++ ys)
fit_append m n xs ys h k r u = ⊎_elim (h r) (k r) (Memᴰ.append_cases xs u)

pub fit-more : (m n m' n' : ℕ) (xs : List Rule) → m ≤ m' → n ≤ n' → RulesFit m n xs → RulesFit m' n' xs
fit-more m n m' n' xs h k f r u = rule-more m n m' n' r h k (f r u)

pub fit-copies : (m n a s : ℕ) (xs : List Rule) → a < m → RulesFit m n xs → RulesFit m n (copies a s xs)
fit-copies m n a s xs h f r u =
    let (e, v) = copies-back a s r.head r.body xs u in
    record { head_fits = omega arith; body_fits = (f _ v).body_fits }

joins-fit : (m n : ℕ) (d : Dir) (l r : ℕ) → l < m → r < m → BodyFits m n (joins d l r)
joins-fit m n across l r hl hr = (hl, hr)
joins-fit m n down u v hu hv = (hu, hv)

fit-one : (m n a : ℕ) (d : Dir) (l r : ℕ) → a < m → l < m → r < m → RulesFit m n (record { head = a; body = joins d l r } ∷ [])
fit-one m n a d l r ha hl hr q u =
    subst (RuleFits m n) (sym (Memᴰ.eq_of_singleton u)) (record { head_fits = ha; body_fits = joins-fit m n d l r hl hr })

module _ (f g : Contents) (sf : Sound f) (sg : Sound g) where
  body-raised : (x : Body) → BodyFits g.motifs (length g.colours) x
      → BodyFits (f.motifs + g.motifs + 1) (length (merged f.colours g.colours)) (moved (λ n. f.motifs + n) (renumbered f g) x)
  body-raised (Colour c) h = (listed_found _ (name g c) (merged-mem f.colours g.colours (name g c) (get_or-mem g.colours c [] h))).0
  body-raised (Across l r) h = omega arith
  body-raised (Down u v) h = omega arith

  -- the two rule lists under the new counts
  pub fit-first : RulesFit (f.motifs + g.motifs + 1) (length (merged f.colours g.colours)) f.rules
  fit-first = fit-more f.motifs (length f.colours) _ _ f.rules (omega arith) (merged-length f.colours g.colours) sf.rules_fit

  pub fit-second : RulesFit (f.motifs + g.motifs + 1) (length (merged f.colours g.colours)) (raised f g)
  fit-second q u =
      let (r, m, e) = Memᴰ.of_map (moved_rule (λ n. f.motifs + n) (renumbered f g)) g.rules u in
      let w = sg.rules_fit r m in
      subst (RuleFits _ _) e (record { head_fits = omega (arith, w.head_fits); body_fits = body-raised r.body w.body_fits })

  both-sound : (new : List Rule) → RulesFit (f.motifs + g.motifs + 1) (length (merged f.colours g.colours)) new → Sound (both_books f g new)
  both-sound new fits =
      record { start_fits = omega arith; rules_fit = fit_append _ _ f.rules _ fit-first (fit_append _ _ (raised f g) new fit-second fits) }

  pub joined-sound : (d : Dir) → Sound (joined d f g)
  unfolding joined
  joined-sound d = both-sound _ (fit-one _ _ _ d _ _ (omega arith) (omega (arith, sf.start_fits)) (omega (arith, sg.start_fits)))

  pub either_of-sound : Sound (either_of f g)
  unfolding either_of
  either_of-sound =
      without_copies-sound _
      (both-sound _
      (fit_append _ _ (copies (f.motifs + g.motifs) f.start f.rules) _
      (fit-copies _ _ _ _ f.rules (omega arith) fit-first)
      (fit-copies _ _ _ _ (raised f g) (omega arith) fit-second)))

pub repeated-sound : (d : Dir) (f : Contents) → Sound f → Sound (repeated d f)
unfolding repeated
repeated-sound d f sf =
    let w : RulesFit (f.motifs + 1) (length f.colours) f.rules =
    fit-more f.motifs (length f.colours) _ _ f.rules (omega arith) (omega arith) sf.rules_fit in
    record {
      start_fits = omega arith;
      rules_fit = fit_append _ _ f.rules _ w
          (fit_append _ _ (copies f.motifs f.start f.rules) _
          (fit-copies _ _ _ _ f.rules (omega arith) w)
          (fit-one _ _ _ d _ _ (omega arith) (omega (arith, sf.start_fits)) (omega arith)));
    }

changed-fits : (k : Change) (m n : ℕ) (x : Body) → BodyFits m n x → BodyFits m n (changed_body k x)
changed-fits Mirrored m n (Colour c) h = h
changed-fits Mirrored m n (Across l r) h = (h.1, h.0)
changed-fits Mirrored m n (Down u v) h = h
changed-fits Flipped m n (Colour c) h = h
changed-fits Flipped m n (Across l r) h = h
changed-fits Flipped m n (Down u v) h = (h.1, h.0)
changed-fits Transposed m n (Colour c) h = h
changed-fits Transposed m n (Across l r) h = h
changed-fits Transposed m n (Down u v) h = h

pub changed-sound : (k : Change) (f : Contents) → Sound f → Sound (rebodied (changed_body k) f)
changed-sound k f sf =
    record {
      start_fits = sf.start_fits;
      rules_fit = λ q u.
          let (r, m, e) = Memᴰ.of_map (λ (r : Rule). record { head = r.head; body = changed_body k r.body }) f.rules u in
          let w = sf.rules_fit r m in
          subst (RuleFits _ _) e (record { head_fits = w.head_fits; body_fits = changed-fits k _ _ r.body w.body_fits });
    }
