-- Two colour lists are merged colour by colour of the second: one whose name the first list holds gets its number there, and any other is listed after all
-- that were listed before it.
use Prim.Native.Nat.{ℕ, ◌+◌, ◌≤◌, ◌<◌}
use mathlib.Core.Path.{◌≡◌, sym, ◌∙◌, ap}
use mathlib.Core.Bool.{true, false}
use mathlib.Core.List.{List, [], ◌∷◌, ◌++◌, append_assoc, append-nil}
use native.Mathlib.Omega.{arith}
use native.Mathlib.Numerals.{add-one}
use borrow.Author.Count.{below_more}
use borrow.Author.Tests.{lt-ltb, le-ltb}
use lib.ListN.{length, get_or, take, set, length-append, length-set}
use lib.Seq.{take_all, get_or-set_same, get_or-set_other}
use Rattle.names.specs.Name.{Name, listed}
use Rattle.names.specs.Spelling.{most_colours}
use Rattle.names.specs.Colours.{name_in, names_in, find_name, no_colours, with_colour}
use Rattle.names.specs.declared.colours.Colours.{Colours}
use Rattle.names.proofs.Finding.{find-listed}
use Rattle.names.proofs.ReadingColours.{Places, places-none, places-with, names-with, names-count, name-at}
use Rattle.families.specs.Merged.{holds, merged}
use Rattle.families.specs.inner.Lists.{Lists}
use Rattle.families.specs.inner.Merges.{Merges}
use Rattle.families.proofs.MergingInOrder.{merged-nil, merged-next, number-held, number-new}

module _ (s : List ℕ) (f : Colours) (t : List ℕ) (g : Colours) where
  -- What the first i colours of the second list leave.
  pub record SoFar (i : ℕ) (more : Colours) (numbers : List ℕ) : Type 0 where
    pub within : i ≤ g.count
    pub places : Places t more
    pub names : names_in s f ++ names_in t more ≡ merged (names_in s f) (take i (names_in t g))
    pub numbered : (j : ℕ) → j < i → get_or numbers j 0 ≡ listed (merged (names_in s f) (names_in t g)) (name_in t g j)
    pub few : more.count ≤ i
    pub numbers_all : length numbers ≡ most_colours

module _ (s : List ℕ) (f : Colours) (t : List ℕ) (g : Colours) (lf : Lists s f) (lg : Lists t g) where
  pub so_far-none : (numbers : List ℕ) → length numbers ≡ most_colours → SoFar s f t g 0 no_colours numbers
  so_far-none numbers e =
      record {
        within = omega arith;
        places = places-none t;
        names = append-nil (names_in s f) ∙ sym (merged-nil (names_in s f));
        numbered = λ j h. absurd (omega arith);
        few = omega arith;
        numbers_all = e;
      }

  module _ (i : ℕ) (more : Colours) (numbers : List ℕ) (h : i < g.count) (so : SoFar s f t g i more numbers) where
    -- the name of the i-th colour, as it stands in the list of names, and its number in the merged list
    named : get_or (names_in t g) i [] ≡ name_in t g i
    named = name-at t g i h

    listed-there : find_name s f (name_in t g i) ≡ listed (names_in s f) (get_or (names_in t g) i [])
    listed-there = find-listed s f (name_in t g i) lf.few ∙ ap (listed (names_in s f)) (sym named)

    more-numbered : (n : ℕ) → n ≡ listed (merged (names_in s f) (names_in t g)) (get_or (names_in t g) i [])
        → (j : ℕ) → j < i + 1 → get_or (set numbers i n) j 0 ≡ listed (merged (names_in s f) (names_in t g)) (name_in t g j)
    more-numbered n e =
        below_more _ i
        (λ j hj. get_or-set_other numbers i j n 0 (omega arith) ∙ so.numbered j hj)
        (get_or-set_same numbers i n 0 (omega (arith, so.numbers_all, lg.few)) ∙ e ∙ ap (listed (merged (names_in s f) (names_in t g))) named)

    pub so_far-held : (n : ℕ) → n ≡ find_name s f (name_in t g i) → n < f.count → SoFar s f t g (i + 1) more (set numbers i n)
    so_far-held n found lt =
        let name : Name = get_or (names_in t g) i [] in
        let here = found ∙ listed-there in
        let held : holds (names_in s f) name ≡ true = lt-ltb (listed (names_in s f) name) (length (names_in s f)) (omega (arith, here, names-count s f)) in
        record {
          within = omega arith;
          places = so.places;
          names = rw (add-one i) (so.names ∙ sym (merged-next (names_in s f) (names_in t g) i (omega (arith, names-count t g)) held ∙ append-nil _));
          numbered = more-numbered n (here ∙ sym (number-held (names_in s f) (names_in t g) _ held));
          few = omega (arith, so.few);
          numbers_all = length-set numbers _ _ ∙ so.numbers_all;
        }

    pub so_far-new : (n : ℕ) → n ≡ find_name s f (name_in t g i) → f.count ≤ n
        → SoFar s f t g (i + 1) (with_colour more (get_or g.starts i 0) (get_or g.lens i 0)) (set numbers i (f.count + more.count))
    so_far-new n found le =
        let room : more.count < most_colours = omega (arith, so.few, lg.few) in
        let less : i < length (names_in t g) = omega (arith, names-count t g) in
        let name : Name = get_or (names_in t g) i [] in
        let lacked : holds (names_in s f) name ≡ false = le-ltb (listed (names_in s f) name) (length (names_in s f)) (omega (arith, found ∙ listed-there, names-count s f)) in
        let before : length (merged (names_in s f) (take i (names_in t g))) ≡ f.count + more.count =
        sym (ap length so.names) ∙ length-append (names_in s f) (names_in t more) ∙ omega (arith, names-count s f, names-count t more) in
        record {
          within = omega arith;
          places = places-with t more _ _ so.places room (lg.inside i h);
          names = rw (add-one i)
              (ap (λ (l : List Name). names_in s f ++ l) (names-with t more _ _ so.places room)
              ∙ sym (append_assoc (names_in s f) (names_in t more) (name_in t g i ∷ []))
              ∙ ap (λ (l : List Name). l ++ (name_in t g i ∷ [])) so.names
              ∙ ap (λ (n : Name). merged (names_in s f) (take i (names_in t g)) ++ (n ∷ [])) (sym named)
              ∙ sym (merged-next (names_in s f) (names_in t g) i less lacked));
          numbered = more-numbered _ (sym before ∙ sym (number-new (names_in s f) (names_in t g) i lf.distinct lg.distinct less lacked));
          few = omega (arith, so.few);
          numbers_all = length-set numbers _ _ ∙ so.numbers_all;
        }

  pub so_far-all : (more : Colours) (numbers : List ℕ) → SoFar s f t g g.count more numbers → Merges s f t g (record { more = more; numbers = numbers })
  so_far-all more numbers so = record { names = so.names ∙ ap (merged (names_in s f)) (take_all g.count (names_in t g) (omega (arith, names-count t g))); numbered = so.numbered; few = so.few }
