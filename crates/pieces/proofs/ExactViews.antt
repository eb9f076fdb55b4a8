-- The views that are exact: that of the names with the motifs that derive each piece; and that of the code, where the work slice holds the
-- table and each cell has its colour's number in the book, since an entry has the bits of those motifs and no name stands twice.
use Prim.Native.Nat.{ℕ, ◌+◌, ◌*◌, ◌<◌}
use mathlib.Core.Path.{◌≡◌, sym, ◌∙◌, ap}
use mathlib.Core.Bool.{true}
use mathlib.Core.List.{List, []}
use mathlib.Core.Logic.{◌↔◌}
use native.Mathlib.Omega.{arith}
use lib.Dec.{eqb}
use lib.ListN.{length, get_or}
use borrow.Author.Tests.{eqb-true, eq-eqb}
use Rattle.names.specs.Name.{Name, listed}
use Rattle.names.specs.Spelling.{Distinct}
use Rattle.names.proofs.Listing.{listed-mem, listed_found, listed-own}
use Rattle.books.specs.Contents.{Contents, Has, Called}
use Rattle.books.specs.Picture.{Picture}
use Rattle.books.specs.Derives.{Derives}
use Rattle.books.specs.Keeps.{Sound}
use Rattle.books.specs.Decide.{derives?}
use Rattle.books.specs.declared.rule.Body.TheVariants.{Colour}
use Rattle.books.proofs.Deciding.{called, decided}
use Rattle.books.specs.Size.{size_by}
use Rattle.pieces.specs.declared.piece.Piece.{Piece}
use Rattle.pieces.specs.Pieces.{Inside, slot_of}
use Rattle.pieces.specs.Table.{cut, entry}
use Rattle.names.specs.Bits.{bit, is_set}
use Rattle.pieces.specs.Largest.{marked}
use Rattle.pieces.specs.View.{View, named}
use Rattle.pieces.specs.inner.Seen.{has_bit, has_colour, seen}
use Rattle.pieces.proofs.Entries.{entry-derives, derives-entry}
use Rattle.pieces.proofs.Giving.{derives-able, at_has}

-- a view that tells exactly what the motifs derive, and where the colours of the rules stand
pub record Exact (b : Contents) (p : Picture) (v : View) : Type 0 where
  pub has_exact : (a : ℕ) (q : Piece) → Inside p.rows p.cols q → (v.has a q ≡ true) ↔ Derives b a (cut p q)
  pub paints_exact : (c : ℕ) (q : Piece) → Inside p.rows p.cols q → ((a : ℕ) × Has b a (Colour c))
      → (v.paints c q ≡ true) ↔ Called b c (p.cell q.top q.left)

pub named-exact : (b : Contents) (p : Picture) → Exact b p (named b p (λ a q. derives? b a (cut p q)))
named-exact b p =
    record {
      has_exact = λ a q inq. decided b a (cut p q);
      paints_exact = λ c q inq ruled. called b c (p.cell q.top q.left);
    }

-- A motif that derives something is the head of a rule.
pub motif-below : (b : Contents) → Sound b → {a : ℕ} {p : Picture} → Derives b a p → a < b.motifs
motif-below b sound {a} x =
    let (i, y, u, able) = derives-able x in (sound.rules_fit _ (at_has b i a y u)).head_fits

-- A cell shows a colour of the book exactly where it has its number.
pub number-name : (l : List Name) (n : Name) (c : ℕ) → Distinct l → c < length l → (eqb (listed l n) c ≡ true) ↔ ((c < length l) × (n ≡ get_or l c []))
number-name l n c apart h = (
  λ e. let f : listed l n ≡ c = eqb-true (listed l n) c e in
      let (_, g) = listed_found l n (listed-mem l n (omega arith)) in (h, sym g ∙ ap (λ (k : ℕ). get_or l k []) f),
  λ e. eq-eqb (listed l n) c (ap (listed l) e.1 ∙ listed-own l c apart h),
)

module _ (b : Contents) (p : Picture) (sound : Sound b) (apart : Distinct b.colours) (work colours : List ℕ)
    (entries : (q : Piece) → Inside p.rows p.cols q → get_or work (slot_of p.rows p.cols q) 0 ≡ entry b (cut p q))
    (numbers : (i j : ℕ) → i < p.rows → j < p.cols → get_or colours (i * p.cols + j) 0 ≡ listed b.colours (p.cell i j)) where
  bit-exact : (a : ℕ) (q : Piece) → Inside p.rows p.cols q → (has_bit (size_by p.rows p.cols) work a q ≡ true) ↔ Derives b a (cut p q)
  unfolding has_bit marked is_set
  bit-exact a q inq =
      rw (entries q inq) (
        λ e. entry-derives b (cut p q) a (eqb-true (bit (entry b (cut p q)) a) 1 e),
        λ x. eq-eqb (bit (entry b (cut p q)) a) 1 (derives-entry b (cut p q) a (motif-below b sound x) x),
      )

  colour-exact : (c : ℕ) (q : Piece) → Inside p.rows p.cols q → ((a : ℕ) × Has b a (Colour c))
      → (has_colour (size_by p.rows p.cols) colours c q ≡ true) ↔ Called b c (p.cell q.top q.left)
  unfolding has_colour
  colour-exact c q inq ruled =
      rw (numbers q.top q.left (omega arith) (omega arith))
      (number-name b.colours (p.cell q.top q.left) c apart (sound.rules_fit _ ruled.1).body_fits)

  pub seen-exact : Exact b p (seen (size_by p.rows p.cols) work colours)
  seen-exact = record { has_exact = bit-exact; paints_exact = colour-exact }
