-- What stands in the table: at the slot of a piece its entry, in the last slot that of the whole sheet, and bit a of an entry is set exactly when
-- motif a derives the piece.
use mathlib.Core.Path.{◌≡◌, refl, sym, ap, ◌∙◌}
use mathlib.Core.Logic.{◌↔◌}
use mathlib.Core.List.{List, [], ◌∷◌, map}
use Prim.Native.Nat.{ℕ, zero, suc, ◌<◌}
use native.Mathlib.Omega.{arith}
use lib.ListN.{length, get_or, length-map}
use Rattle.books.specs.Contents.{Contents}
use Rattle.books.specs.Picture.{Picture}
use Rattle.books.specs.Derives.{Derives}
use Rattle.pieces.specs.Pieces.{Inside, pieces, total, slot_of}
use Rattle.pieces.specs.Table.{cut, entry, table}
use Rattle.names.specs.Bits.{bit}
use Rattle.pieces.specs.declared.piece.Piece.{Piece}
use Rattle.pieces.proofs.Entries.{entry-derives, derives-entry}
use Rattle.pieces.proofs.Slots.{slot_lt, get_or-slot, length-pieces}

pub get_or-map : {A : Type 0} (f : A → ℕ) (l : List A) (i : ℕ) (d : A) → i < length l → get_or (map f l) i 0 ≡ f (get_or l i d)
get_or-map f [] i d h = absurd (omega arith)
get_or-map f (x ∷ xs) zero d h = refl
get_or-map f (x ∷ xs) (suc i) d h = get_or-map f xs i d (omega arith)

module _ (b : Contents) (p : Picture) where
  pub table-length : length (table b p) ≡ total p.rows p.cols
  unfolding table
  table-length = length-map (pieces p.rows p.cols) (λ q. entry b (cut p q)) ∙ length-pieces p.rows p.cols

  module _ (q : Piece) (i : Inside p.rows p.cols q) where
    pub table_at : get_or (table b p) (slot_of p.rows p.cols q) 0 ≡ entry b (cut p q)
    unfolding table
    table_at =
        get_or-map (λ x. entry b (cut p x)) (pieces p.rows p.cols) (slot_of p.rows p.cols q) q
        (omega (arith, length-pieces p.rows p.cols, slot_lt p.rows p.cols q i))
        ∙ ap (λ (x : Piece). entry b (cut p x)) (get_or-slot p.rows p.cols q i q)

    -- The bits of the table: each says whether its motif derives the piece.
    pub table-bit : (a : ℕ) → a < b.motifs → (bit (get_or (table b p) (slot_of p.rows p.cols q) 0) a ≡ 1) ↔ Derives b a (cut p q)
    table-bit a h = (
      λ o. entry-derives b (cut p q) a (ap (λ (x : ℕ). bit x a) (sym table_at) ∙ o),
      λ d. ap (λ (x : ℕ). bit x a) table_at ∙ derives-entry b (cut p q) a h d,
    )
