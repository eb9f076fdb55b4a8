-- The order in which a derivation's tests are made; and every answer packs, since places and trials are bounded.
use Prim.Native.Nat.{ℕ, ◌≤◌, ◌<◌, ◌^◌}
use mathlib.Core.Path.{◌≡◌}
use mathlib.Core.List.{List}
use native.Mathlib.Omega.{arith}
use Rattle.books.specs.Answer.{plain, Packs}
use Rattle.books.specs.Contents.{Contents}
use Rattle.books.specs.Picture.{Picture}
use Rattle.books.specs.Press.{greatest_of}
use Rattle.books.specs.Lent.{contents_of, picture_of, Accepted}
use Rattle.books.specs.declared.answer.Answer.{Answer}
use Rattle.books.proofs.LentEnds.{Refusal, refused-so, both-go-on}
use Rattle.books.proofs.ReadingSheets.{sheet-lies}
use Rattle.books.proofs.Packing.{plain-packs}
use Rattle.books.proofs.Refusals.{refusal-packs}
use Rattle.pieces.specs.Derivation.{Derivation, leaving, trials_needed, roomed, derivation}
use Rattle.pieces.specs.Trials.{most_trials}
use Rattle.pieces.proofs.AcceptedInputs.{rules-read}
use Rattle.pieces.proofs.Endings.{derivation-ends}
use Rattle.pieces.proofs.MakingTrials.{trials-most, most-fits}

-- ── The order of the answers ──

module _ (press : ℕ) (book sheet entries numbers : List ℕ) where
  abbrev refuse : Answer → Derivation
  refuse a = leaving a entries numbers

  abbrev go : Contents → Picture → Derivation
  go b p = roomed b p entries numbers

  pub refused-first : {a : Answer} → Refusal press book sheet a → derivation press book sheet entries numbers ≡ leaving a entries numbers
  unfolding derivation
  refused-first r = refused-so press refuse book sheet go r

  pub then-room : Accepted press book sheet → derivation press book sheet entries numbers ≡ roomed (contents_of book) (picture_of press sheet) entries numbers
  unfolding derivation
  then-room fine = both-go-on press refuse book sheet go fine

-- ── Every answer packs ──

-- an accepted book and sheet ask for no more trials than the largest sheet of the press does
pub needed-few : (press : ℕ) (book sheet : List ℕ) → Accepted press book sheet → trials_needed (contents_of book) (picture_of press sheet) ≤ most_trials (greatest_of press)
needed-few press book sheet fine =
    let w = (sheet-lies press sheet fine.sheet_fine).within in
    trials-most (contents_of book).rules (greatest_of press) _ _ (rules-read book fine.book_fine).few w.rows_few w.cols_few

abbrev Packed : Derivation → Type 0
Packed d = Packs d.answer d.trials

plainly : (press n count : ℕ) → n < 2 ^ 8 → count ≤ most_trials (greatest_of press) → Packs (plain n) count
plainly press n count h few = plain-packs n count h (omega (arith, most-fits press))

pub derivation-packs : (press : ℕ) (book sheet entries numbers : List ℕ) → Packed (derivation press book sheet entries numbers)
derivation-packs press book sheet entries numbers =
    derivation-ends press book sheet entries numbers Packed
    (record {
      refused = λ a r. refusal-packs r;
      short_work = λ f short. plainly press 9 0 (omega arith) (omega arith);
      short_tree = λ f enough short. plainly press 10 0 (omega arith) (omega arith);
      declined = λ f room none. plainly press 11 _ (omega arith) (needed-few press book sheet f);
      derived = λ f room x nodes given. plainly press 0 _ (omega arith) (needed-few press book sheet f);
    })
