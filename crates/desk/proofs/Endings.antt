-- The four ways in which a recolouring ends: what holds of each holds of every one.
use Prim.Native.Nat.{ℕ, ◌<◌}
use mathlib.Core.Path.{◌≡◌, refl, sym, ◌∙◌}
use mathlib.Core.Bool.{true≢false}
use mathlib.Core.List.{List}
use mathlib.Core.Logic.{◌⊎◌, inl, inr}
use native.Mathlib.Omega.{arith}
use borrow.Author.Tests.{ltb-true, ltb-false}
use lib.Dec.{ltb}
use lib.ListN.{length}
use Rattle.names.specs.Pick.{pick}
use Rattle.names.proofs.Picking.{pick_ind}
use Rattle.books.specs.Answer.{plain}
use Rattle.books.specs.declared.answer.Answer.{Answer}
use Rattle.books.specs.Contents.{Contents}
use Rattle.books.specs.Lent.{contents_of, picture_of, Accepted}
use Rattle.books.specs.Sheet.{sheet_of}
use Rattle.books.proofs.LentEnds.{Refusal, both_end}
use Rattle.pieces.specs.Asking.{start_answer}
use Rattle.pieces.specs.Derivation.{entries_needed}
use Rattle.pieces.specs.Largest.{marked}
use Rattle.pieces.specs.Area.{whole}
use Rattle.desk.specs.Recolour.{has?, sheet_with, Recolouring, untouched, recast, recolouring}
use Rattle.desk.proofs.Recolouring.{Has, has-it, it-has}

module _ (press : ℕ) (book sheet entries : List ℕ) (row column colour : ℕ) where
  -- the sheet has the cell and the colour
  abbrev pub Found : Type 0
  Found = Has (sheet_of press sheet).sheet.size (sheet_of press sheet).sheet.colours.count row column colour

  abbrev pub Short : Type 0
  Short = length entries < entries_needed (picture_of press sheet)

  pub record Cases (P : Recolouring → Type 0) : Type 0 where
    pub refused : (a : Answer) → Refusal press book sheet a → P (untouched a sheet entries)
    pub no_cell : Accepted press book sheet → (Found → ⊥) → P (untouched (plain 19) sheet entries)
    pub short_work : Accepted press book sheet → Found → Short → P (untouched (plain 9) sheet entries)
    pub recoloured : Accepted press book sheet → Found → (Short → ⊥) → (n : ℕ) → (n ≡ 0) ⊎ (n ≡ 11) → (bytes work : List ℕ)
        → P (record { answer = plain n; bytes = bytes; entries = work })

  zero-or-eleven : (m n : ℕ) (t : List ℕ) (start : ℕ) → (start_answer m n t start ≡ 0) ⊎ (start_answer m n t start ≡ 11)
  unfolding start_answer
  zero-or-eleven m n t start = pick_ind (λ (x : ℕ). (x ≡ 0) ⊎ (x ≡ 11)) (marked m n t start (whole m n)) 0 11 (λ _. inl refl) (λ _. inr refl)

  module _ (P : Recolouring → Type 0) (cases : Cases P) where
    by-room : Accepted press book sheet → Found → (b : Contents)
        → P (pick (ltb (length entries) (entries_needed (picture_of press sheet))) (untouched (plain 9) sheet entries) (recast press b (sheet_with press sheet row column colour) row column entries))
    unfolding recast
    by-room fine found b =
        pick_ind P (ltb (length entries) (entries_needed (picture_of press sheet))) (untouched (plain 9) sheet entries) (recast press b (sheet_with press sheet row column colour) row column entries)
        (λ e. cases.short_work fine found (ltb-true _ _ e))
        (λ e.
        cases.recoloured fine found (λ s. let long = ltb-false (length entries) (entries_needed (picture_of press sheet)) e in omega arith)
        _ (zero-or-eleven _ _ _ _) _ _)

    pub recolouring-ends : P (recolouring press book sheet entries row column colour)
    unfolding recolouring
    recolouring-ends =
        both_end P (λ a. untouched a sheet entries) press book sheet
        (λ b p. pick (has? (sheet_of press sheet).sheet.size (sheet_of press sheet).sheet.colours.count row column colour)
        (pick (ltb (length entries) (entries_needed p)) (untouched (plain 9) sheet entries) (recast press b (sheet_with press sheet row column colour) row column entries))
        (untouched (plain 19) sheet entries))
        cases.refused
        (λ fine.
        pick_ind P (has? (sheet_of press sheet).sheet.size (sheet_of press sheet).sheet.colours.count row column colour) _ (untouched (plain 19) sheet entries)
        (λ h. by-room fine (has-it _ _ row column colour h) (contents_of book))
        (λ h. cases.no_cell fine (λ found. true≢false (sym (it-has _ _ row column colour found) ∙ h))))
