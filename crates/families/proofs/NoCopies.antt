-- A combination of books without copies has none: the rules of the first book, of the second and of the new start are told apart by their heads, raising and
-- copying tell rules apart as they were, and a change that undoes itself does too. Either-of leaves later copies out, which are copies from the second start alone.
use Prim.Native.Nat.{ℕ, ◌+◌, ◌<◌}
use mathlib.Core.Path.{◌≡◌, refl, sym, ◌∙◌, ap, ap₂, subst}
use mathlib.Core.List.{List, [], ◌∷◌, ◌++◌, append_assoc, Memᴰ}
use mathlib.Core.Logic.{⊎_elim}
use native.Mathlib.Omega.{arith}
use borrow.Author.Tests.{eqb-true}
use lib.Dec.{eqb}
use lib.ListN.{length, get_or}
use Rattle.names.specs.Name.{listed}
use Rattle.names.specs.Pick.{pick}
use Rattle.names.specs.Spelling.{Distinct}
use Rattle.names.proofs.Listing.{get_or-mem, listed_found, listed-own}
use Rattle.names.proofs.NothingTwice.{distinct_append, distinct-one}
use Rattle.names.proofs.Picking.{pick_ind}
use Rattle.names.proofs.Tests.{both_ways}
use Rattle.books.specs.Contents.{Contents, name}
use Rattle.books.specs.Equal.{stands, firsts, without_copies}
use Rattle.books.specs.Keeps.{BodyFits, Keeps}
use Rattle.books.specs.Moved.{moved, moved_rule}
use Rattle.books.specs.Picture.{joins}
use Rattle.books.specs.declared.rule.Dir.{Dir}
use Rattle.books.specs.declared.rule.Dir.TheVariants.{Across as across, Down as down}
use Rattle.books.specs.declared.rule.Rule.{Rule}
use Rattle.books.specs.declared.rule.Body.{Body}
use Rattle.books.specs.declared.rule.Body.TheVariants.{Colour, Across, Down}
use Rattle.books.proofs.EqualRules.{stands-back, stands-forth}
use Rattle.books.proofs.Firsts.{distinct-left, firsts-append, map-distinct}
use Rattle.families.specs.Combine.{renumbered, raised, copies, both_books, either_of, joined, repeated, rebodied}
use Rattle.families.specs.Merged.{merged}
use Rattle.families.specs.inner.Asked.{changed_body}
use Rattle.families.specs.inner.Gathered.{left_by, missing}
use Rattle.families.specs.declared.asked.Change.{Change}
use Rattle.families.proofs.Copying.{copies-back}
use Rattle.families.proofs.Heads.{HeadsBelow, HeadsFrom, heads-own, heads-raised, heads-raised-below, heads-append, heads-copies, heads-one}
use Rattle.families.proofs.Images.{changed_body-twice}
use Rattle.families.proofs.Merging.{merged-mem}

-- ── Told apart by their heads ──

apart : (n : ℕ) (xs ys : List Rule) → HeadsBelow n xs → HeadsFrom n ys → (r : Rule) → Memᴰ r xs → Memᴰ r ys → ⊥
apart n xs ys below from r u v = omega (arith, below r u, from r v)

below_both : (n : ℕ) (xs ys : List Rule) → HeadsBelow n xs → HeadsBelow n ys → HeadsBelow n (xs ++ ys)
below_both n xs ys hx hy r m = ⊎_elim (hx r) (hy r) (mathlib.Core.List.Memᴰ.append_cases xs m)

-- ── Copies ──

pub copies-distinct : (n s : ℕ) (rs : List Rule) → Distinct rs → Distinct (copies n s rs)
unfolding copies
copies-distinct n s [] d = tt
copies-distinct n s (r ∷ rs) d =
    pick_ind Distinct (eqb r.head s) (record { head = n; body = r.body } ∷ copies n s rs) (copies n s rs)
    (λ e. (λ m. d.0 (mathlib.Core.List.Memᴰ.cast (λ i. record { head = eqb-true r.head s e i; body = r.body }) (copies-back n s n r.body rs m).1), copies-distinct n s rs d.1))
    (λ e. copies-distinct n s rs d.1)

-- ── Raised rules ──

module _ (f g : Contents) (kg : Keeps g) where
  colour-once : (c d : ℕ) → c < length g.colours → d < length g.colours → renumbered f g c ≡ renumbered f g d → c ≡ d
  colour-once c d hc hd e =
      let found : (k : ℕ) → k < length g.colours → name g k ≡ get_or (merged f.colours g.colours) (renumbered f g k) [] =
      λ k h. sym (listed_found _ (name g k) (merged-mem f.colours g.colours (name g k) (get_or-mem g.colours k [] h))).1 in
      let names : name g c ≡ name g d =
      found c hc ∙ ap (λ (k : ℕ). get_or (merged f.colours g.colours) k []) e ∙ sym (found d hd) in
      let own = kg.colours_ok.distinct in
      sym (listed-own g.colours c own hc) ∙ ap (listed g.colours) names ∙ listed-own g.colours d own hd

  body-once : (x y : Body) → BodyFits g.motifs (length g.colours) x → BodyFits g.motifs (length g.colours) y
      → moved (λ a. f.motifs + a) (renumbered f g) x ≡ moved (λ a. f.motifs + a) (renumbered f g) y → x ≡ y
  body-once (Colour c) (Colour d) hx hy e = ap Colour (colour-once c d hx hy cc)
  body-once (Across l r) (Across m t) hx hy e =
      let first : f.motifs + l ≡ f.motifs + m = cc in
      let second : f.motifs + r ≡ f.motifs + t = cc in
      ap₂ Across (omega arith) (omega arith)
  body-once (Down l r) (Down m t) hx hy e =
      let first : f.motifs + l ≡ f.motifs + m = cc in
      let second : f.motifs + r ≡ f.motifs + t = cc in
      ap₂ Down (omega arith) (omega arith)
  body-once (Colour c) (Across m t) hx hy e = cc
  body-once (Colour c) (Down m t) hx hy e = cc
  body-once (Across l r) (Colour d) hx hy e = cc
  body-once (Across l r) (Down m t) hx hy e = cc
  body-once (Down l r) (Colour d) hx hy e = cc
  body-once (Down l r) (Across m t) hx hy e = cc

  rule-once : (q r : Rule) → Memᴰ q g.rules → Memᴰ r g.rules
      → moved_rule (λ a. f.motifs + a) (renumbered f g) q ≡ moved_rule (λ a. f.motifs + a) (renumbered f g) r → q ≡ r
  rule-once q r u v e =
      let heads : f.motifs + q.head ≡ f.motifs + r.head = ap (λ (z : Rule). z.head) e in
      let head : q.head ≡ r.head = omega arith in
      let body = body-once q.body r.body (kg.sound.rules_fit q u).body_fits (kg.sound.rules_fit r v).body_fits (ap (λ (z : Rule). z.body) e) in
      λ i. record { head = head i; body = body i }

  pub raised-distinct : Distinct (raised f g)
  raised-distinct = map-distinct (moved_rule (λ a. f.motifs + a) (renumbered f g)) g.rules rule-once kg.no_copies

-- ── Both books, and rules of a new start ──

module _ (f g : Contents) (kf : Keeps f) (kg : Keeps g) (new : List Rule) (heads : HeadsFrom (f.motifs + g.motifs) new) where
  both-distinct : Distinct new → Distinct (both_books f g new).rules
  both-distinct d =
      let rest : Distinct (raised f g ++ new) =
      distinct_append (raised f g) new (raised-distinct f g kg) d (apart _ (raised f g) new (heads-raised-below f g kg.sound) heads) in
      let from : HeadsFrom f.motifs (raised f g ++ new) = heads-append _ (raised f g) new (heads-raised f g) (λ r m. omega (arith, heads r m)) in
      distinct_append f.rules (raised f g ++ new) kf.no_copies rest (apart _ f.rules _ (heads-own f kf.sound) from)

pub joined-distinct : (d : Dir) (f g : Contents) → Keeps f → Keeps g → Distinct (joined d f g).rules
unfolding joined
joined-distinct d f g kf kg = both-distinct f g kf kg _ (heads-one _ _ _ (omega arith)) (distinct-one _)

-- the rule that joins has the new start as its second motif, and no copy has: the book's motifs are less
pub repeated-distinct : (d : Dir) (f : Contents) → Keeps f → Distinct (repeated d f).rules
unfolding repeated
repeated-distinct d f kf =
    let own : List Rule = copies f.motifs f.start f.rules in
    let last : Rule = record { head = f.motifs; body = joins d f.start f.motifs } in
    let new : Distinct (own ++ (last ∷ [])) =
    distinct_append own (last ∷ []) (copies-distinct _ _ f.rules kf.no_copies) (distinct-one last)
    (λ r u v.
    let has = (copies-back _ _ r.head r.body f.rules u).1 in
    let body : r.body ≡ joins d f.start f.motifs = ap (λ (z : Rule). z.body) (mathlib.Core.List.Memᴰ.eq_of_singleton v) in
    too-great d r.body body (kf.sound.rules_fit _ has).body_fits) in
    let from : HeadsFrom f.motifs (own ++ (last ∷ [])) = heads-append _ own (last ∷ []) (heads-copies _ _ _ f.rules (omega arith)) (heads-one _ _ _ (omega arith)) in
    distinct_append f.rules (own ++ (last ∷ [])) kf.no_copies new (apart _ f.rules _ (heads-own f kf.sound) from)
  where
    too-great : (d : Dir) (x : Body) → x ≡ joins d f.start f.motifs → BodyFits f.motifs (length f.colours) x → ⊥
    too-great across x e h = omega (arith, (subst (BodyFits f.motifs (length f.colours)) e h).1)
    too-great down x e h = omega (arith, (subst (BodyFits f.motifs (length f.colours)) e h).1)

-- ── Changed rules ──

pub changed-distinct : (k : Change) (f : Contents) → Keeps f → Distinct (rebodied (changed_body k) f).rules
changed-distinct k f kf =
    map-distinct _ f.rules
    (λ q r _ _ e.
    let head : q.head ≡ r.head = ap (λ (z : Rule). z.head) e in
    let body : q.body ≡ r.body =
    sym (changed_body-twice k q.body) ∙ ap (λ (z : Rule). changed_body k z.body) e ∙ changed_body-twice k r.body in
    λ i. record { head = head i; body = body i })
    kf.no_copies

-- ── Either-of ──

-- of rules that stand not twice those are left that do not stand in another list, where they stand there exactly if they stood earlier
firsts-missing : (all before rs : List Rule) → Distinct rs → ((r : Rule) → Memᴰ r rs → Memᴰ r all → Memᴰ r before)
    → ((r : Rule) → Memᴰ r before → Memᴰ r all) → firsts all rs ≡ missing before rs
unfolding firsts left_by
firsts-missing all before [] d there back = refl
firsts-missing all before (r ∷ rs) d there back =
    let next : List Rule = all ++ (r ∷ []) in
    let rest : firsts next rs ≡ missing before rs =
    firsts-missing next before rs d.1
    (λ q m u. ⊎_elim (there q (mathlib.Core.List.Memᴰ.tail m)) (λ w. absurd (d.0 (mathlib.Core.List.Memᴰ.cast (sym (mathlib.Core.List.Memᴰ.eq_of_singleton w)) m))) (mathlib.Core.List.Memᴰ.append_cases all u))
    (λ q m. mathlib.Core.List.Memᴰ.append_left (r ∷ []) (back q m)) in
    let test : stands all r ≡ stands before r =
    both_ways _ _ (λ e. stands-forth before r (there r (mathlib.Core.List.Memᴰ.head refl) (stands-back all r e))) (λ e. stands-forth all r (back r (stands-back before r e))) in
    λ i. pick (test i) (rest i) (r ∷ rest i)

module _ (f g : Contents) (kf : Keeps f) (kg : Keeps g) where
  -- the copies from both starts, and those of the second that are left
  abbrev own : List Rule
  own = copies (f.motifs + g.motifs) f.start f.rules

  abbrev other : List Rule
  other = copies (f.motifs + g.motifs) (f.motifs + g.start) (raised f g)

  other-distinct : Distinct other
  other-distinct = copies-distinct _ _ (raised f g) (raised-distinct f g kg)

  below : HeadsBelow (f.motifs + g.motifs) (f.rules ++ raised f g)
  below = below_both _ f.rules (raised f g) (λ r m. omega (arith, heads-own f kf.sound r m)) (heads-raised-below f g kg.sound)

  own-heads : HeadsFrom (f.motifs + g.motifs) own
  own-heads = heads-copies _ _ _ f.rules (omega arith)

  other-heads : HeadsFrom (f.motifs + g.motifs) other
  other-heads = heads-copies _ _ _ (raised f g) (omega arith)

  -- up to the copies from the second start nothing is left out
  first-all : firsts [] (f.rules ++ (raised f g ++ own)) ≡ f.rules ++ (raised f g ++ own)
  first-all =
      distinct-left [] _ (both-distinct f g kf kg own own-heads (copies-distinct _ _ f.rules kf.no_copies)) (λ r m u. mathlib.Core.List.Memᴰ.not-nil u)

  pub either_of-rules : (either_of f g).rules ≡ (both_books f g (own ++ missing own other)).rules
  unfolding either_of without_copies
  either_of-rules =
      let front : List Rule = f.rules ++ (raised f g ++ own) in
      let split : f.rules ++ (raised f g ++ (own ++ other)) ≡ front ++ other = simp append_assoc in
      let left : firsts front other ≡ missing own other =
      firsts-missing front own other other-distinct
      (λ r m u.
      let v : Memᴰ r ((f.rules ++ raised f g) ++ own) = subst (Memᴰ r) (sym (append_assoc f.rules (raised f g) own)) u in
      ⊎_elim (λ w. absurd (apart _ (f.rules ++ raised f g) other below other-heads r w m)) (λ w. w) (mathlib.Core.List.Memᴰ.append_cases (f.rules ++ raised f g) v))
      (λ r m. mathlib.Core.List.Memᴰ.append_right f.rules (mathlib.Core.List.Memᴰ.append_right (raised f g) m)) in
      ap (firsts []) split ∙ firsts-append [] front other ∙ ap₂ (λ (x y : List Rule). x ++ y) first-all left ∙ simp append_assoc
