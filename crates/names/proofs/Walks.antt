-- What the walks of the code find is what the definitions say: a name is read up to its first byte that may not stand in it, and looked for up to the first
-- colour that has it.
use Prim.Native.Nat.{ℕ, zero, suc, ◌+◌, ◌<◌, ◌≤◌}
use mathlib.Core.Path.{◌≡◌, refl, sym, ap, ◌∙◌}
use mathlib.Core.Bool.{Bool, true, false, false≢true, ◌||◌}
use mathlib.Core.List.{List, ◌∷◌}
use mathlib.Core.Logic.{⊎_elim}
use native.Mathlib.Omega.{arith}
use native.Mathlib.Numerals.{add-one}
use borrow.Author.Tests.{lt-ltb, le-ltb, lt-leb, le-leb}
use lib.Dec.{ltb}
use lib.ListN.{length, get_or, take, drop, drop_of_length-le, length-take}
use lib.Seq.{drop-cons}
use Rattle.std.specs.Prelude.{Option, Some, None, is_some, IfSome, position, zip, if◌then◌else◌}
use Rattle.std.specs.List.{enumerate_from, position_from}
use Rattle.std.proofs.lemmas.Iterator.Adapters.{position_from-zero}
use Rattle.std.proofs.lemmas.List.Quantifiers.{position-Some}
use Rattle.std.proofs.lemmas.Slice.Zip.{length-zip}
use Rattle.names.specs.Pick.{pick}
use Rattle.names.specs.Name.{Name, least_byte, same_name, name_from, name_of, listed}
use Rattle.names.specs.NameRead.{NameRead, Whole, Ends, Bad}
use Rattle.names.specs.Spelling.{most_colours}
use Rattle.names.specs.Colours.{list_of, names_from, find_name}
use Rattle.names.specs.Told.{told_found}
use Rattle.names.specs.inner.Walks.{is_unshown, first_unshown, is_named, first_named}
use Rattle.names.proofs.Tests.{lt-or-le}
use Rattle.names.proofs.Finding.{find-listed}

-- ── A name ──

module _ (s : List ℕ) (len : ℕ) where
  -- with no byte that may not stand there the name is whole, or the input ends in it
  abbrev judged : Option ℕ → NameRead
  judged (Some i) = Bad i
  judged None = pick (ltb (length s) len) Ends Whole

  tested : (low high : Bool) (i : ℕ) (r : NameRead) (o : Option ℕ) → r ≡ judged o
      → pick low (Bad i) (pick high (Bad i) r) ≡ judged (if low || high then Some i else o)
  tested true high i r o e = refl
  tested false true i r o e = refl
  tested false false i r o e = e

  walked : (k i : ℕ) → i + k ≡ len → i ≤ length s → name_from s len i k ≡ judged (position_from (is_unshown len) i (enumerate_from i (take k (drop i s))))
  walked zero i e h = simp (le-ltb (length s) len (omega arith))
  walked (suc k) i e h =
      ⊎_elim
      (λ (here : i < length s).
      let next : drop i s ≡ get_or s i 0 ∷ drop (i + 1) s = rw (add-one i) (drop-cons s i 0 here) in
      rw next (simp (lt-leb _ _ here) (tested (ltb (get_or s i 0) (least_byte len i)) (ltb 126 (get_or s i 0)) i _ _ (walked k (i + 1) (omega arith) (omega arith)))))
      (λ (past : length s ≤ i). simp (le-leb _ _ past, drop_of_length-le s past, lt-ltb (length s) len (omega arith)))
      (lt-or-le i (length s))

  pub name-by-walk : name_of s len ≡ judged (first_unshown len (take len s))
  unfolding name_of first_unshown
  name-by-walk = walked len 0 (omega arith) (omega arith) ∙ ap judged (sym (position_from-zero {B = ℕ × ℕ} (is_unshown len) (enumerate_from 0 (take len s))))

  pub name_bad-by-walk : (k : ℕ) → first_unshown len (take len s) ≡ Some k → name_of s len ≡ Bad k
  name_bad-by-walk k e = name-by-walk ∙ ap judged e

  pub name_ends-by-walk : first_unshown len (take len s) ≡ None → length (take len s) < len → name_of s len ≡ Ends
  name_ends-by-walk e h = name-by-walk ∙ ap judged e ∙ simp (lt-ltb (length s) len (omega (arith, length-take len s)))

  pub name_whole-by-walk : first_unshown len (take len s) ≡ None → len ≤ length (take len s) → name_of s len ≡ Whole
  name_whole-by-walk e h = name-by-walk ∙ ap judged e ∙ simp (le-ltb (length s) len (omega (arith, length-take len s)))

-- ── A name among those of a list ──

-- where none has the name, the count is told
pub none-found : (count : ℕ) (r : Option ℕ) → false ≡ is_some r → told_found count r ≡ count
none-found count (Some j) e = absurd (false≢true e)
none-found count None e = refl

module _ (s : List ℕ) (count : ℕ) (starts lens : List ℕ) (name : Name) where
  abbrev named : ℕ × ℕ → Bool
  named = is_named s name

  passed : (here : Bool) (j l total : ℕ) (o : Option ℕ) → told_found total o ≡ j + 1 + l → told_found total (if here then Some j else o) ≡ j + pick here 0 (suc l)
  passed true j l total o e = omega arith
  passed false j l total o e = omega (arith, e)

  looked : (k i j total : ℕ) → j + k ≡ total → i + k ≤ length starts → i + k ≤ length lens
      → told_found total (position_from named j (zip (take k (drop i starts)) (take k (drop i lens)))) ≡ j + listed (names_from s (list_of count starts lens) i k) name
  unfolding listed
  looked zero i j total e f g = omega arith
  looked (suc k) i j total e f g =
      let start : drop i starts ≡ get_or starts i 0 ∷ drop (i + 1) starts = rw (add-one i) (drop-cons starts i 0 (omega arith)) in
      let len : drop i lens ≡ get_or lens i 0 ∷ drop (i + 1) lens = rw (add-one i) (drop-cons lens i 0 (omega arith)) in
      rw (start, len)
      (passed (same_name (take (get_or lens i 0) (drop (get_or starts i 0) s)) name) j _ total _ (looked k (i + 1) (j + 1) total (omega arith) (omega arith) (omega arith)))

  pub found-by-walk : count ≤ most_colours → length starts ≡ most_colours → length lens ≡ most_colours
      → told_found count (first_named s name (take count starts) (take count lens)) ≡ find_name s (list_of count starts lens) name
  unfolding first_named
  found-by-walk few f g =
      ap (told_found count) (position_from-zero {B = ℕ × ℕ} named (zip (take count starts) (take count lens)))
      ∙ omega (arith, looked count 0 0 count (omega arith) (omega arith) (omega arith), find-listed s (list_of count starts lens) name few)

  pub walk-inside : count ≤ length starts → IfSome (first_named s name (take count starts) (take count lens)) (λ j. j < count)
  unfolding first_named
  walk-inside h = within (position named (zip (take count starts) (take count lens))) refl
    where
      within : (o : Option ℕ) → position named (zip (take count starts) (take count lens)) ≡ o → IfSome o (λ j. j < count)
      within (Some j) e =
          let inside = position-Some named (zip (take count starts) (take count lens)) j (0, 0) e in
          omega (arith, inside.0, length-zip (take count starts) (take count lens), length-take count starts)
      within None e = tt
