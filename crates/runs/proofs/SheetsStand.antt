-- Where a sheet stands among sheets that are spelled one after another, each preceded by its length: it is the part that its place and its length say.
use Prim.Native.Nat.{ℕ, zero, suc, ◌+◌, ◌*◌, ◌^◌, ◌≤◌, ◌<◌}
use mathlib.Core.Path.{◌≡◌, refl, sym, ap, ◌∙◌}
use mathlib.Core.List.{List, [], ◌∷◌, ◌++◌}
use mathlib.Core.Logic.{⊎_elim}
use native.Mathlib.Omega.{arith}
use borrow.Author.Tests.{lt-ltb}
use lib.ListN.{length, take, drop, length-append}
use lib.Seq.{drop-drop, take-append_seam, drop-append_seam, get_or-append_seam}
use Rattle.names.specs.Number.{greatest_number, spell_number}
use Rattle.names.proofs.SpellingNumbers.{spell-short, spell-long}
use Rattle.names.proofs.Tests.{lt-or-le}
use Rattle.runs.specs.Run.{spell_run}
use Rattle.runs.specs.Numbered.{sheet_with, start_with, place_with}

pub none-long : length (spell_run []) ≡ 0
unfolding spell_run
none-long = refl

one-long : (sheet : List ℕ) (rest : List (List ℕ)) → length (spell_run (sheet ∷ rest)) ≡ length (spell_number (length sheet)) + (length sheet + length (spell_run rest))
unfolding spell_run
one-long sheet rest =
    length-append (spell_number (length sheet)) (sheet ++ spell_run rest)
    ∙ ap (λ (n : ℕ). length (spell_number (length sheet)) + n) (length-append sheet (spell_run rest))

-- so far reach sheets with one more behind them
pub reach : (done : List (List ℕ)) (sheet : List ℕ) → length (spell_run (done ++ (sheet ∷ []))) ≡ length (spell_run done) + (length (spell_number (length sheet)) + length sheet)
reach [] sheet = omega (arith, one-long sheet [], none-long)
reach (x ∷ done) sheet = omega (arith, one-long x (done ++ (sheet ∷ [])), one-long x done, reach done sheet)

-- where the first starts, and where one of the others does
start_first : (x : List ℕ) (xs : List (List ℕ)) → start_with (x ∷ xs) 0 ≡ length (spell_number (length x))
unfolding start_with
start_first x xs =
    let own = length (spell_number (length x)) in
    let first : length (spell_run []) + own ≡ own = omega (arith, none-long) in
    first

start-more : (x : List ℕ) (xs : List (List ℕ)) (k : ℕ) → start_with (x ∷ xs) (suc k) ≡ length (spell_number (length x)) + (length x + start_with xs k)
unfolding start_with
start-more x xs k =
    let own = length (spell_number (length (sheet_with xs k))) in
    let all : length (spell_run (x ∷ take k xs)) + own ≡ length (spell_number (length x)) + (length x + (length (spell_run (take k xs)) + own)) = omega (arith, one-long x (take k xs)) in
    all

drop-both : (a b rest : List ℕ) (c : ℕ) → drop (length a + (length b + c)) (a ++ (b ++ rest)) ≡ drop c rest
drop-both a b rest c =
    sym (drop-drop (length b + c) (length a) (a ++ (b ++ rest))) ∙ ap (drop (length b + c)) (drop-append_seam a (b ++ rest))
    ∙ sym (drop-drop c (length b) (b ++ rest)) ∙ ap (drop c) (drop-append_seam b rest)

-- the sheet with a number is the part that its place and its length say
pub sheet-part : (l : List (List ℕ)) (k : ℕ) → k < length l → take (length (sheet_with l k)) (drop (start_with l k) (spell_run l)) ≡ sheet_with l k
unfolding spell_run
sheet-part [] k h = absurd (omega arith)
sheet-part (x ∷ xs) zero h =
    ap (λ (n : ℕ). take (length x) (drop n (spell_run (x ∷ xs)))) (start_first x xs)
    ∙ ap (take (length x)) (drop-append_seam (spell_number (length x)) (x ++ spell_run xs)) ∙ take-append_seam x (spell_run xs)
sheet-part (x ∷ xs) (suc k) h =
    let size = length (sheet_with xs k) in
    ap (λ (n : ℕ). take size (drop n (spell_run (x ∷ xs)))) (start-more x xs k)
    ∙ ap (take size) (drop-both (spell_number (length x)) x (spell_run xs) (start_with xs k)) ∙ sheet-part xs k (omega arith)

pub sheet-inside : (l : List (List ℕ)) (k : ℕ) → k < length l → start_with l k + length (sheet_with l k) ≤ length (spell_run l)
sheet-inside [] k h = absurd (omega arith)
sheet-inside (x ∷ xs) zero h = omega (arith, start_first x xs, one-long x xs)
sheet-inside (x ∷ xs) (suc k) h = omega (arith, start-more x xs k, one-long x xs, sheet-inside xs k (omega arith))

-- a length takes a byte
pub start_some : (l : List (List ℕ)) (k : ℕ) → length (sheet_with l k) ≤ greatest_number → 1 ≤ start_with l k
unfolding start_with
start_some l k few =
    let n = length (sheet_with l k) in
    let some : 1 ≤ length (spell_number n) =
    ⊎_elim (λ h. omega (arith, spell-short n h)) (λ h. omega (arith, spell-long n h few)) (lt-or-le n 128) in
    omega arith

-- the sheet that stands behind others
pub place-behind : (done : List (List ℕ)) (sheet : List ℕ) (rest : List (List ℕ))
    → place_with (done ++ (sheet ∷ rest)) (length done) ≡ length (spell_run done) + length (spell_number (length sheet)) + 2 ^ 32 * length sheet
unfolding place_with start_with
place-behind done sheet rest =
    rw (
      lt-ltb (length done) (length (done ++ (sheet ∷ rest))) (omega (arith, length-append done (sheet ∷ rest))),
      take-append_seam done (sheet ∷ rest),
      get_or-append_seam done sheet rest [],
    )
    refl
