-- A run or a stack derives exactly the pictures of a book joined in a row: its start has copies of the rules of the old start, and the join of the old
-- start with the new. The old start keeps its rules, so what the book derives inside itself stays.
use Prim.Native.Nat.{ℕ, ◌<◌}
use mathlib.Core.Path.{◌≡◌, refl, sym, ap, subst}
use mathlib.Core.List.Memᴰ
use mathlib.Core.List.{[], ◌∷◌, ◌++◌, append-nil}
use mathlib.Core.Logic.{◌↔◌, ◌⊎◌, inl, inr, ⊎_elim}
use native.Mathlib.Omega.{arith}
use Rattle.books.specs.Contents.{Contents, Has}
use Rattle.books.specs.Picture.{Picture, joins, size, first, rest}
use Rattle.books.specs.declared.rule.Dir.{Dir}
use Rattle.books.specs.Derives.{Derives, paint, join, Member}
use Rattle.books.specs.Keeps.{Sound}
use Rattle.books.specs.declared.rule.Rule.{Rule}
use Rattle.books.specs.declared.rule.Body.{Body}
use Rattle.books.specs.declared.rule.Body.TheVariants.{Colour}
use Rattle.books.specs.Joined.{Joined}
use Rattle.families.specs.Joined.{Run, one, more}
use Rattle.families.specs.Combine.{copies, repeated}
use Rattle.families.proofs.Copying.{copies-forth, copies-back}
use Rattle.families.proofs.Heads.{heads-append, heads-copies, heads-one}
use Rattle.families.proofs.Standing.{After, first-rule, later-rule, first-derives}
use Rattle.families.proofs.Joining.{cut-joined}
use Rattle.families.proofs.Reheading.{rehead, joins-same, colour-joins, join-of}

module _ (d : Dir) (f : Contents) (sf : Sound f) where
  rules_standing : After f (repeated d f) (copies f.motifs f.start f.rules ++ (record { head = f.motifs; body = joins d f.start f.motifs } ∷ [])) []
  unfolding repeated
  rules_standing =
      record {
        rules_are = refl;
        colours_are = sym (append-nil f.colours);
        heads_are = heads-append _ (copies f.motifs f.start f.rules) _
            (heads-copies _ _ _ f.rules (omega arith))
            (heads-one _ _ _ (omega arith));
      }

  start-rule : (z : ℕ) (x : Body) → z ≡ f.motifs → Has (repeated d f) z x
      → Has (repeated d f) f.start x ⊎ (x ≡ joins d f.start f.motifs)
  unfolding repeated
  start-rule z x e m =
      ⊎_elim
      (λ u. inl (Memᴰ.append_left _ (copies-back _ _ _ x f.rules u).1))
      (λ u. inr (ap (λ (q : Rule). q.body) (Memᴰ.eq_of_singleton u)))
      (Memᴰ.append_cases (copies f.motifs f.start f.rules) (later-rule f _ _ _ sf rules_standing z x (omega arith) m))

  has_first : (x : Body) → Has (repeated d f) f.start x → Has (repeated d f) f.motifs x
  unfolding repeated
  has_first x m =
      let u = first-rule f _ _ _ sf rules_standing _ x sf.start_fits m in
      Memᴰ.append_right f.rules (Memᴰ.append_left _ (copies-forth _ _ x f.rules u))

  start_has : Has (repeated d f) f.motifs (joins d f.start f.motifs)
  unfolding repeated
  start_has = Memᴰ.append_right f.rules (Memᴰ.append_right (copies f.motifs f.start f.rules) (Memᴰ.head refl))

  first_in : (p : Picture) → Derives (repeated d f) f.start p ↔ Member f p
  first_in = first-derives f _ _ _ sf rules_standing

  -- a derivation of the new start is a run: one picture, or the join of one picture with a run
  longer : (e : Dir) (l r k : ℕ) {p : Picture} → k < size e p → Derives (repeated d f) l (first e k p)
      → (r ≡ f.motifs → Run d (Member f) (rest e k p)) → joins e l r ≡ joins d f.start f.motifs → Run d (Member f) p
  longer e l r k {p} hs x y q =
      let (ed, el, er) = joins-same e d l r f.start f.motifs q in
      more ((first_in _).0 (subst (λ (n : ℕ). Derives (repeated d f) n (first e k p)) el x)) (y er)
      (subst (λ (c : Dir). Joined c (first e k p) (rest e k p) p) ed (cut-joined e p k hs))

  there : {z : ℕ} {p : Picture} → Derives (repeated d f) z p → z ≡ f.motifs → Run d (Member f) p
  there {z} (paint c h hr hc e) ez =
      ⊎_elim
      (λ u. one ((first_in _).0 (paint c u hr hc e)))
      (λ q. absurd (colour-joins c d _ _ q))
      (start-rule z (Colour c) ez h)
  there {z} (join e l r k h hk hs x y) ez =
      ⊎_elim
      (λ u. one ((first_in _).0 (join e l r k u hk hs x y)))
      (longer e l r k hs x (there y))
      (start-rule z (joins e l r) ez h)

  back : {p : Picture} → Run d (Member f) p → Derives (repeated d f) f.motifs p
  back (one x) = rehead _ _ _ has_first ((first_in _).1 x)
  back (more x y j) = join-of _ _ d _ _ start_has (record { left = _; right = _; left_in = (first_in _).1 x; right_in = back y; whole = j })

  pub repeated-derives : (p : Picture) → Member (repeated d f) p ↔ Run d (Member f) p
  unfolding repeated
  repeated-derives p = (λ x. there x refl, back)
