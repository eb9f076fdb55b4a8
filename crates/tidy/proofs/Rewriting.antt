-- The marks decide which motifs can be rewritten: each mark is made by a rule whose motifs are marked, and since passes settle, no rule marks
-- a motif more.
use Prim.Native.Nat.{ℕ}
use mathlib.Core.Path.{◌≡◌, refl, sym, ◌∙◌, ap, subst}
use mathlib.Core.Bool.{Bool, true, false, true≢false}
use mathlib.Core.List.{Memᴰ}
use mathlib.Core.Logic.{◌↔◌, inl, ⊎_elim}
use Rattle.names.specs.Pick.{pick}
use Rattle.names.proofs.Picking.{pick_ind}
use Rattle.names.proofs.Tests.{not-true-false}
use Rattle.books.specs.Contents.{Contents, Has}
use Rattle.books.specs.Keeps.{Sound}
use Rattle.books.specs.Picture.{joins}
use Rattle.books.specs.declared.rule.Dir.{Dir}
use Rattle.books.specs.declared.rule.Dir.TheVariants.{Across as across, Down as down}
use Rattle.books.specs.declared.rule.Rule.{Rule}
use Rattle.books.specs.declared.rule.Body.{Body}
use Rattle.books.specs.declared.rule.Body.TheVariants.{Colour, Across, Down}
use Rattle.names.proofs.Tests.{and_both, and-make}
use Rattle.tidy.specs.Kept.{Rewrites, coloured, joined}
use Rattle.names.specs.Bits.{is_set}
use Rattle.tidy.specs.Marks.{adding, rank}
use Rattle.tidy.specs.Marking.{all_marked, mark_head, rewritten, rewrites?}
use Rattle.tidy.proofs.Marks.{set-none, set-added, set_split}
use Rattle.tidy.proofs.Ranks.{rank-le, rank-grows}
use Rattle.tidy.proofs.Passes.{Grows, passes-keep, passes-settle}

pub joins-marked : (m : ℕ) (d : Dir) (l r : ℕ) → (all_marked m (joins d l r) ≡ true) ↔ ((is_set m l ≡ true) × (is_set m r ≡ true))
unfolding all_marked
joins-marked m across l r = (λ e. and_both (is_set m l) _ e, λ h. and-make (is_set m l) _ h.0 h.1)
joins-marked m down l r = (λ e. and_both (is_set m l) _ e, λ h. and-make (is_set m l) _ h.0 h.1)

-- what a rule marks whose motifs are marked
head-marks : (m : ℕ) (r : Rule) → all_marked m r.body ≡ true → mark_head m r ≡ adding m r.head
unfolding mark_head
head-marks m r e = ap (λ (t : Bool). pick t (adding m r.head) m) e

-- the count of marks grows by new ones
abbrev pub count : ℕ → ℕ → ℕ
count n m = rank m n

-- every marked motif can be rewritten
abbrev AllRewrite : Contents → ℕ → Type 0
AllRewrite b m = (a : ℕ) → is_set m a ≡ true → Rewrites b a

module _ (b : Contents) where
  body-rewrites : (m : ℕ) → AllRewrite b m → (a : ℕ) (x : Body) → Has b a x → all_marked m x ≡ true → Rewrites b a
  body-rewrites m all a (Colour c) h e = coloured c h
  body-rewrites m all a (Across l r) h e = let (u, v) = (joins-marked m across l r).0 e in joined across l r h (all l u) (all r v)
  body-rewrites m all a (Down l r) h e = let (u, v) = (joins-marked m down l r).0 e in joined down l r h (all l u) (all r v)

  head-sound : (m : ℕ) (r : Rule) → Memᴰ r b.rules → AllRewrite b m → AllRewrite b (mark_head m r)
  unfolding mark_head
  head-sound m r i all =
      pick_ind (AllRewrite b) (all_marked m r.body) (adding m r.head) m
      (λ e a h. ⊎_elim
      (λ (q : a ≡ r.head). subst (Rewrites b) (sym q) (body-rewrites m all r.head r.body i e))
      (all a)
      (set_split m r.head a h))
      (λ e. all)

  pub rewritten-sound : (a : ℕ) → is_set (rewritten b) a ≡ true → Rewrites b a
  unfolding rewritten
  rewritten-sound = passes-keep mark_head (AllRewrite b) b.rules head-sound b.motifs 0 (λ a h. absurd (set-none a h))

  module _ (sound : Sound b) where
    head-grows : (m : ℕ) (r : Rule) → Memᴰ r b.rules → Grows (count b.motifs) m (mark_head m r)
    unfolding mark_head
    head-grows m r i =
        pick_ind (Grows (count b.motifs) m) (all_marked m r.body) (adding m r.head) m
        (λ e. rank-grows b.motifs m r.head (sound.rules_fit r i).head_fits)
        (λ e. inl refl)

    rewritten-settled : (r : Rule) → Memᴰ r b.rules → mark_head (rewritten b) r ≡ rewritten b
    unfolding rewritten
    rewritten-settled = passes-settle mark_head (count b.motifs) b.rules head-grows b.motifs 0 (λ w. rank-le w b.motifs)

    head-marked : (a : ℕ) (x : Body) → Has b a x → all_marked (rewritten b) x ≡ true → is_set (rewritten b) a ≡ true
    head-marked a x h e =
        subst (λ (w : ℕ). is_set w a ≡ true) (sym (head-marks (rewritten b) _ e) ∙ rewritten-settled _ h) (set-added (rewritten b) a)

    pub rewritten-all : {a : ℕ} → Rewrites b a → is_set (rewritten b) a ≡ true
    rewritten-all {a} (coloured c h) = head-marked a (Colour c) h (unfold all_marked in refl)
    rewritten-all {a} (joined d l r h x y) =
        head-marked a (joins d l r) h ((joins-marked (rewritten b) d l r).1 (rewritten-all x, rewritten-all y))

    pub rewrites-decided : (a : ℕ) → (rewrites? b a ≡ true) ↔ Rewrites b a
    rewrites-decided a = (rewritten-sound a, λ x. rewritten-all x)

    pub rewrites-refused : (a : ℕ) → (rewrites? b a ≡ false) ↔ (Rewrites b a → ⊥)
    rewrites-refused a = (
      λ e x. true≢false (sym (rewritten-all x) ∙ e),
      λ none. not-true-false (rewrites? b a) (λ e. none (rewritten-sound a e)),
    )
