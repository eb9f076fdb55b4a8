-- The marks decide which motifs are reached, and so which are kept: each mark after the start's is made by a join whose head is marked and whose
-- motifs can be rewritten, and since passes settle, no rule marks a motif more.
use Prim.Native.Nat.{ℕ, ◌<◌}
use mathlib.Core.Path.{◌≡◌, refl, sym, ◌∙◌, ap, subst}
use mathlib.Core.Bool.{Bool, true}
use mathlib.Core.List.{Memᴰ}
use mathlib.Core.Logic.{◌↔◌, inl, ⊎_elim}
use lib.ListN.{length}
use Rattle.names.specs.Pick.{pick}
use Rattle.names.proofs.Picking.{pick_ind}
use Rattle.books.specs.Contents.{Contents, Has}
use Rattle.books.specs.Keeps.{Sound, BodyFits}
use Rattle.books.specs.Picture.{joins}
use Rattle.books.specs.declared.rule.Dir.{Dir}
use Rattle.books.specs.declared.rule.Dir.TheVariants.{Across as across, Down as down}
use Rattle.books.specs.declared.rule.Rule.{Rule}
use Rattle.books.specs.declared.rule.Body.{Body}
use Rattle.books.specs.declared.rule.Body.TheVariants.{Colour, Across, Down}
use Rattle.names.proofs.Tests.{and_both, and-make}
use Rattle.tidy.specs.Kept.{Rewrites, Reached, starting, as_first, as_second, Kept}
use Rattle.names.specs.Bits.{is_set}
use Rattle.tidy.specs.Marks.{adding}
use Rattle.tidy.specs.Marking.{all_marked, adding_body, mark_body, rewritten, reached, rewrites?, kept?}
use Rattle.tidy.proofs.Marks.{set-none, set-added, set-still, set_split}
use Rattle.tidy.proofs.Ranks.{rank-le, rank-grows}
use Rattle.tidy.proofs.Passes.{Grows, grows-on, passes-keep, passes-settle}
use Rattle.tidy.proofs.Rewriting.{joins-marked, count, rewritten-sound, rewritten-all}

adding-joins : (m : ℕ) (d : Dir) (l r : ℕ) → adding_body m (joins d l r) ≡ adding (adding m l) r
unfolding adding_body
adding-joins m across l r = refl
adding-joins m down l r = refl

-- what a rule marks whose head is marked, and whose motifs can be rewritten
body-marks : (w m : ℕ) (r : Rule) → is_set m r.head ≡ true → all_marked w r.body ≡ true → mark_body w m r ≡ adding_body m r.body
unfolding mark_body
body-marks w m r h e =
    ap (λ (t : Bool). pick t (pick (all_marked w r.body) (adding_body m r.body) m) m) h
    ∙ ap (λ (t : Bool). pick t (adding_body m r.body) m) e

-- what holds of the marks as they are, and with the body's where both tests hold, holds after the rule
body-cases : (P : ℕ → Type 0) (w m : ℕ) (r : Rule) → P m
    → (is_set m r.head ≡ true → all_marked w r.body ≡ true → P (adding_body m r.body)) → P (mark_body w m r)
unfolding mark_body
body-cases P w m r same more =
    pick_ind P (is_set m r.head) (pick (all_marked w r.body) (adding_body m r.body) m) m
    (λ h. pick_ind P (all_marked w r.body) (adding_body m r.body) m (more h) (λ _. same))
    (λ _. same)

both-grow : (n m l r : ℕ) → l < n → r < n → Grows (count n) m (adding (adding m l) r)
both-grow n m l r h i =
    grows-on (count n) m (adding m l) (adding (adding m l) r) (rank-grows n m l h) (rank-grows n (adding m l) r i)

-- every marked motif is reached
abbrev AllReached : Contents → ℕ → Type 0
AllReached b m = (a : ℕ) → is_set m a ≡ true → Reached b a

module _ (b : Contents) where
  joins-reach : (m a : ℕ) (d : Dir) (l r : ℕ) → Has b a (joins d l r) → Reached b a → all_marked (rewritten b) (joins d l r) ≡ true
      → AllReached b m → AllReached b (adding (adding m l) r)
  joins-reach m a d l r h reach e all z i =
      let (u, v) = (joins-marked (rewritten b) d l r).0 e in
      let x = rewritten-sound b l u in
      let y = rewritten-sound b r v in
      ⊎_elim
      (λ (q : z ≡ r). subst (Reached b) (sym q) (as_second d l r h x y reach))
      (λ j. ⊎_elim
      (λ (q : z ≡ l). subst (Reached b) (sym q) (as_first d l r h x y reach))
      (all z)
      (set_split m l z j))
      (set_split (adding m l) r z i)

  body-reaches : (m a : ℕ) (x : Body) → Has b a x → Reached b a → all_marked (rewritten b) x ≡ true
      → AllReached b m → AllReached b (adding_body m x)
  unfolding adding_body
  body-reaches m a (Colour c) h reach e all = all
  body-reaches m a (Across l r) h reach e all = joins-reach m a across l r h reach e all
  body-reaches m a (Down l r) h reach e all = joins-reach m a down l r h reach e all

  body-sound : (m : ℕ) (r : Rule) → Memᴰ r b.rules → AllReached b m → AllReached b (mark_body (rewritten b) m r)
  body-sound m r i all =
      body-cases (AllReached b) (rewritten b) m r all (λ h e. body-reaches m r.head r.body i (all r.head h) e all)

  pub reached-sound : (a : ℕ) → is_set (reached b) a ≡ true → Reached b a
  unfolding reached
  reached-sound =
      passes-keep (mark_body (rewritten b)) (AllReached b) b.rules body-sound b.motifs (adding 0 b.start)
      (λ a h. ⊎_elim (λ (q : a ≡ b.start). starting q) (λ n. absurd (set-none a n)) (set_split 0 b.start a h))

  -- the start stays marked
  still-body : (m : ℕ) (x : Body) (a : ℕ) → is_set m a ≡ true → is_set (adding_body m x) a ≡ true
  unfolding adding_body
  still-body m (Colour c) a h = h
  still-body m (Across l r) a h = set-still (adding m l) r a (set-still m l a h)
  still-body m (Down l r) a h = set-still (adding m l) r a (set-still m l a h)

  start-marked : is_set (reached b) b.start ≡ true
  unfolding reached
  start-marked =
      passes-keep (mark_body (rewritten b)) (λ m. is_set m b.start ≡ true) b.rules
      (λ m r i h. body-cases (λ w. is_set w b.start ≡ true) (rewritten b) m r h (λ _ _. still-body m r.body b.start h))
      b.motifs (adding 0 b.start) (set-added 0 b.start)

  module _ (sound : Sound b) where
    adding-grows : (m : ℕ) (x : Body) → BodyFits b.motifs (length b.colours) x → Grows (count b.motifs) m (adding_body m x)
    unfolding adding_body
    adding-grows m (Colour c) h = inl refl
    adding-grows m (Across l r) h = both-grow b.motifs m l r h.0 h.1
    adding-grows m (Down l r) h = both-grow b.motifs m l r h.0 h.1

    body-grows : (m : ℕ) (r : Rule) → Memᴰ r b.rules → Grows (count b.motifs) m (mark_body (rewritten b) m r)
    body-grows m r i =
        body-cases (Grows (count b.motifs) m) (rewritten b) m r (inl refl)
        (λ h e. adding-grows m r.body (sound.rules_fit r i).body_fits)

    reached-settled : (r : Rule) → Memᴰ r b.rules → mark_body (rewritten b) (reached b) r ≡ reached b
    unfolding reached
    reached-settled =
        passes-settle (mark_body (rewritten b)) (count b.motifs) b.rules body-grows b.motifs (adding 0 b.start)
        (λ w. rank-le w b.motifs)

    -- both motifs of a join whose head is marked are marked already
    joins-settled : (a : ℕ) (d : Dir) (l r : ℕ) → Has b a (joins d l r) → Rewrites b l → Rewrites b r → is_set (reached b) a ≡ true
        → adding (adding (reached b) l) r ≡ reached b
    joins-settled a d l r h x y i =
        sym (adding-joins (reached b) d l r)
        ∙ sym (body-marks (rewritten b) (reached b) (record { head = a; body = joins d l r }) i
        ((joins-marked (rewritten b) d l r).1 (rewritten-all b sound x, rewritten-all b sound y)))
        ∙ reached-settled _ h

    pub reached-all : {a : ℕ} → Reached b a → is_set (reached b) a ≡ true
    reached-all {a} (starting e) = subst (λ (k : ℕ). is_set (reached b) k ≡ true) (sym e) start-marked
    reached-all (as_first {a} d l r h x y z) =
        subst (λ (w : ℕ). is_set w l ≡ true) (joins-settled a d l r h x y (reached-all z))
        (set-still (adding (reached b) l) r l (set-added (reached b) l))
    reached-all (as_second {a} d l r h x y z) =
        subst (λ (w : ℕ). is_set w r ≡ true) (joins-settled a d l r h x y (reached-all z)) (set-added (adding (reached b) l) r)

    pub reached-decided : (a : ℕ) → (is_set (reached b) a ≡ true) ↔ Reached b a
    reached-decided a = (reached-sound a, λ x. reached-all x)

    pub kept-decided : (a : ℕ) → (kept? b a ≡ true) ↔ Kept b a
    unfolding kept?
    kept-decided a = (
      λ e. let (u, v) = and_both (rewrites? b a) _ e in (rewritten-sound b a u, reached-sound a v),
      λ k. and-make (rewrites? b a) _ (rewritten-all b sound k.0) (reached-all k.1),
    )

-- where the start can be rewritten, the motifs that are reached are the kept ones
pub reached-rewrites : {b : Contents} {a : ℕ} → Rewrites b b.start → Reached b a → Rewrites b a
reached-rewrites {b} s (starting e) = subst (Rewrites b) (sym e) s
reached-rewrites s (as_first d l r h x y z) = x
reached-rewrites s (as_second d l r h x y z) = y

pub marks-kept : (b : Contents) → Sound b → Rewrites b b.start → (a : ℕ) → (is_set (reached b) a ≡ true) ↔ Kept b a
marks-kept b sound s a = (
  λ e. let z = reached-sound b a e in (reached-rewrites s z, z),
  λ k. reached-all b sound k.1,
)
