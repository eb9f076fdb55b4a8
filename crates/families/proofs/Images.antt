-- Mirrored, flipped and transposed books derive exactly the images of what the book derives. A derivation turns into one of the image, cut for cut; since
-- each change undoes itself, on books and on pictures, the way back is the way forth. To flip is to transpose, mirror and transpose.
use Prim.Native.Nat.{ℕ, ◌-◌, ◌<◌}
use mathlib.Core.Path.{◌≡◌, refl, ◌∙◌, ap, subst}
use mathlib.Core.List.Memᴰ
use mathlib.Core.List.{List, map, map-map, map-id}
use mathlib.Core.Logic.{◌↔◌}
use native.Mathlib.Omega.{arith}
use Rattle.books.specs.Contents.{Contents}
use Rattle.books.specs.Picture.{Picture, Same, first, rest}
use Rattle.books.specs.declared.rule.Dir.TheVariants.{Across as across, Down as down}
use Rattle.books.specs.Derives.{Derives, paint, join, Member}
use Rattle.books.specs.declared.rule.Rule.{Rule}
use Rattle.books.specs.declared.rule.Body.{Body}
use Rattle.books.specs.declared.rule.Body.TheVariants.{Colour, Across, Down}
use Rattle.books.proofs.SamePictures.{same_refl, derives-same}
use Rattle.families.specs.Images.{reversed, transpose, Image}
use Rattle.families.specs.Combine.{rebodied, turned, swapped, transposed, mirrored, flipped}
use Rattle.families.specs.inner.Asked.{changed_body}
use Rattle.families.specs.declared.asked.Change.{Change}
use Rattle.families.specs.declared.asked.Change.TheVariants.{Mirrored, Flipped, Transposed}

-- Two changes of every body are one.
rebodied-as : (t u v : Body → Body) → ((x : Body) → t (u x) ≡ v x) → (b : Contents) → rebodied t (rebodied u b) ≡ rebodied v b
rebodied-as t u v e b =
    ap (λ (rs : List Rule). record { colours = b.colours; motifs = b.motifs; start = b.start; rules = rs })
    (map-map _ _ b.rules ∙ (λ i. map (λ (r : Rule). record { head = r.head; body = e r.body i }) b.rules))

rebodied-twice : (t : Body → Body) → ((x : Body) → t (t x) ≡ x) → (b : Contents) → rebodied t (rebodied t b) ≡ b
rebodied-twice t e b =
    rebodied-as t t (λ x. x) e b
    ∙ ap (λ (rs : List Rule). record { colours = b.colours; motifs = b.motifs; start = b.start; rules = rs }) (map-id b.rules)

pub changed_body-twice : (k : Change) (x : Body) → changed_body k (changed_body k x) ≡ x
changed_body-twice Mirrored (Colour c) = refl
changed_body-twice Mirrored (Across l r) = refl
changed_body-twice Mirrored (Down u v) = refl
changed_body-twice Flipped (Colour c) = refl
changed_body-twice Flipped (Across l r) = refl
changed_body-twice Flipped (Down u v) = refl
changed_body-twice Transposed (Colour c) = refl
changed_body-twice Transposed (Across l r) = refl
changed_body-twice Transposed (Down u v) = refl

pub changed-twice : (k : Change) (b : Contents) → rebodied (changed_body k) (rebodied (changed_body k) b) ≡ b
changed-twice k = rebodied-twice (changed_body k) (changed_body-twice k)

swapped-turned : (x : Body) → turned (swapped across (turned x)) ≡ swapped down x
swapped-turned (Colour c) = refl
swapped-turned (Across l r) = refl
swapped-turned (Down u v) = refl

flipped-turned : (b : Contents) → transposed (mirrored (transposed b)) ≡ flipped b
flipped-turned b =
    ap transposed (rebodied-as (swapped across) turned (λ x. swapped across (turned x)) (λ x. refl) b)
    ∙ rebodied-as turned (λ x. swapped across (turned x)) (swapped down) swapped-turned b

-- Pictures, the same way.
pub same-turned : {p q : Picture} → Same p q → Same (transpose p) (transpose q)
same-turned s = record { same_rows = s.same_cols; same_cols = s.same_rows; same_cell = λ i j hi hj. s.same_cell j i hj hi }

mirrored-twice : (p : Picture) → Same (reversed across (reversed across p)) p
mirrored-twice p = record { same_rows = refl; same_cols = refl; same_cell = λ i j hi hj. ap (p.cell i) (omega arith) }

-- the image that a change makes of a picture
abbrev pub imaged : Change → Picture → Picture
imaged Mirrored = reversed across
imaged Flipped = reversed down
imaged Transposed = transpose

imaged-twice : (k : Change) (p : Picture) → Same (imaged k (imaged k p)) p
imaged-twice Mirrored p = mirrored-twice p
imaged-twice Flipped p = same-turned (mirrored-twice (transpose p))
imaged-twice Transposed p = same_refl p

-- Transposed, a cut across is a cut down.
transposed-forth : {b : Contents} {a : ℕ} {p : Picture} → Derives b a p → Derives (transposed b) a (transpose p)
transposed-forth (paint c h hr hc e) = paint c (Memᴰ.map _ h) hc hr e
transposed-forth (join across l r k h hk hs x y) = join down l r k (Memᴰ.map _ h) hk hs (transposed-forth x) (transposed-forth y)
transposed-forth (join down u v k h hk hs x y) = join across u v k (Memᴰ.map _ h) hk hs (transposed-forth x) (transposed-forth y)

-- Mirrored, the rest of the columns comes first, and the first come last.
mirrored-rest : (p : Picture) (k : ℕ) → k < p.cols → Same (reversed across (rest across k p)) (first across (p.cols - k) (reversed across p))
mirrored-rest p k h = record { same_rows = refl; same_cols = refl; same_cell = λ i j hi hj. ap (p.cell i) (omega arith) }

mirrored-first : (p : Picture) (k : ℕ) → k < p.cols → Same (reversed across (first across k p)) (rest across (p.cols - k) (reversed across p))
mirrored-first p k h = record { same_rows = refl; same_cols = omega arith; same_cell = λ i j hi hj. ap (p.cell i) (omega arith) }

mirrored-forth : {b : Contents} {a : ℕ} {p : Picture} → Derives b a p → Derives (mirrored b) a (reversed across p)
mirrored-forth {p = p} (paint c h hr hc e) =
    let first_last : p.cols - 1 - 0 ≡ 0 = omega arith in
    paint c (Memᴰ.map _ h) hr hc (e.0, ap (p.cell 0) first_last ∙ e.1)
mirrored-forth {p = p} (join across l r k h hk hs x y) =
    join {p = reversed across p} across r l (p.cols - k) (Memᴰ.map _ h) (omega arith) (omega arith)
    (derives-same (mirrored-rest p k hs) (mirrored-forth y))
    (derives-same (mirrored-first p k hs) (mirrored-forth x))
mirrored-forth (join down u v k h hk hs x y) = join down u v k (Memᴰ.map _ h) hk hs (mirrored-forth x) (mirrored-forth y)

changed-forth : (k : Change) {b : Contents} {a : ℕ} {p : Picture} → Derives b a p → Derives (rebodied (changed_body k) b) a (imaged k p)
changed-forth Mirrored x = mirrored-forth x
changed-forth Flipped {b} {a} {p} x =
    subst (λ (c : Contents). Derives c a (reversed down p)) (flipped-turned b) (transposed-forth (mirrored-forth (transposed-forth x)))
changed-forth Transposed x = transposed-forth x

-- Forth and back.
pub changed-image : (k : Change) (f : Contents) (p : Picture) → Member (rebodied (changed_body k) f) p ↔ Image (imaged k) (Member f) p
changed-image k f p = (
  λ x.
      record {
        source = imaged k p;
        source_in = subst (λ (c : Contents). Derives c f.start (imaged k p)) (changed-twice k f) (changed-forth k x);
        image = imaged-twice k p;
      },
  λ y. derives-same y.image (changed-forth k y.source_in),
)
