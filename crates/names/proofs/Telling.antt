-- What the code gives is told with nothing left out: from what is told it can be given back, so that two results that are told alike are the same.
use Prim.Native.Nat.{ℕ, ◌<◌, ◌+◌}
use mathlib.Core.Path.{◌≡◌, refl, sym, ap, ◌∙◌}
use native.Mathlib.Omega.{arith}
use borrow.Author.Tests.{ne_eqb, lt-ltb, le-ltb}
use lib.Dec.{eqb, ltb}
use Rattle.std.specs.Prelude.{Option, Some, None, Result, Ok, Err, IfOk, IfSome, OnErr}
use Rattle.names.specs.Pick.{pick}
use Rattle.names.specs.Fault.{Fault, number_of, told_fault}
use Rattle.names.specs.Read.{Read, Value, Refused}
use Rattle.names.specs.ColourRead.{ColourRead, At, Refused as RefusedColour}
use Rattle.names.specs.ColoursRead.{ColoursRead, ListFigures}
use Rattle.names.specs.Told.{told, told_by_number, told_name, told_colours, told_list, told_found, told_end}
use Rattle.names.specs.declared.fault.Refusal.{Refusal}
use Rattle.names.specs.declared.fault.Refusal.TheVariants.{EndsEarly, Misspelt, OutOfRange, BadByte, TwiceInList, Unlisted, UnknownKind, MoreFollows, RuleAgain}
use Rattle.names.specs.declared.fault.Fault.{Fault as CodeFault}
use Rattle.names.specs.declared.numbered.Numbered.{Numbered}
use Rattle.names.specs.declared.reader.Span.{Span}
use Rattle.names.specs.declared.colours.ColourList.{ColourList}
use Rattle.names.specs.declared.colours.Listed.{Listed}
use Rattle.names.proofs.Refusing.{number-some}

-- ── A fault ──

abbrev refusal_of : ℕ → Refusal
refusal_of n =
    pick (eqb n 1) EndsEarly
    (pick (eqb n 2) Misspelt
    (pick (eqb n 3) OutOfRange
    (pick (eqb n 4) BadByte
    (pick (eqb n 5) TwiceInList
    (pick (eqb n 6) Unlisted
    (pick (eqb n 7) UnknownKind
    (pick (eqb n 8) MoreFollows RuleAgain)))))))

refusal-back : (r : Refusal) → refusal_of (number_of r) ≡ r
refusal-back EndsEarly = refl
refusal-back Misspelt = refl
refusal-back OutOfRange = refl
refusal-back BadByte = refl
refusal-back TwiceInList = refl
refusal-back Unlisted = refl
refusal-back UnknownKind = refl
refusal-back MoreFollows = refl
refusal-back RuleAgain = refl

abbrev fault_of : Fault → CodeFault
fault_of f = record { refusal = refusal_of f.number; place = f.place }

fault-back : (f : CodeFault) → fault_of (told_fault f) ≡ f
fault-back f = ap (λ (r : Refusal). at r f.place) (refusal-back f.refusal)
  where
    at : Refusal → ℕ → CodeFault
    at r p = record { refusal = r; place = p }

-- what carries its fault with it, of which the number 0 is none
abbrev kept : {A : Type 0} → Fault → A → Result A CodeFault
kept f x = pick (eqb f.number 0) (Ok x) (Err (fault_of f))

kept-back : {A : Type 0} (f : CodeFault) (x : A) → kept (told_fault f) x ≡ Err f
kept-back f x = simp (ne_eqb (number_of f.refusal) 0 (λ e. omega (arith, number-some f.refusal))) (ap Err (fault-back f))

-- ── Each result ──

read_back : Read → Result ℕ CodeFault
read_back (Value v next) = Ok v
read_back (Refused f) = Err (fault_of f)

pub told-one : (r q : Result ℕ CodeFault) (n m : ℕ) → told r n ≡ told q m → r ≡ q
unfolding read_back
told-one r q n m e = sym (back r n) ∙ ap read_back e ∙ back q m
  where
    back : (r : Result ℕ CodeFault) (n : ℕ) → read_back (told r n) ≡ r
    back (Ok v) n = refl
    back (Err f) n = ap Err (fault-back f)

name_back : ColourRead → Result Span CodeFault
name_back (At start len) = Ok (record { start = start; len = len })
name_back (RefusedColour f) = Err (fault_of f)

pub told_name-one : (r q : Result Span CodeFault) → told_name r ≡ told_name q → r ≡ q
unfolding name_back
told_name-one r q e = sym (back r) ∙ ap name_back e ∙ back q
  where
    back : (r : Result Span CodeFault) → name_back (told_name r) ≡ r
    back (Ok s) = refl
    back (Err f) = ap Err (fault-back f)

colours_back : ColoursRead → Result ColourList CodeFault
colours_back r = kept r.fault (record { colours = r.colours; next = r.next })

pub told_colours-one : (r q : Result ColourList CodeFault) → told_colours r ≡ told_colours q → r ≡ q
unfolding colours_back
told_colours-one r q e = sym (back r) ∙ ap colours_back e ∙ back q
  where
    back : (r : Result ColourList CodeFault) → colours_back (told_colours r) ≡ r
    back (Ok l) = refl
    back (Err f) = kept-back f _

list_back : ListFigures → Result Listed CodeFault
list_back r = kept r.fault (record { count = r.count; next = r.next })

pub told_list-one : (r q : Result Listed CodeFault) → told_list r ≡ told_list q → r ≡ q
unfolding list_back
told_list-one r q e = sym (back r) ∙ ap list_back e ∙ back q
  where
    back : (r : Result Listed CodeFault) → list_back (told_list r) ≡ r
    back (Ok l) = refl
    back (Err f) = kept-back f _

by_number_back : Read → Result ℕ Numbered
by_number_back (Value v next) = Ok v
by_number_back (Refused f) = Err (record { number = f.number; place = f.place })

pub told_by_number-one : (r q : Result ℕ Numbered) (n m : ℕ) → told_by_number r n ≡ told_by_number q m → r ≡ q
unfolding by_number_back
told_by_number-one r q n m e = sym (back r n) ∙ ap by_number_back e ∙ back q m
  where
    back : (r : Result ℕ Numbered) (n : ℕ) → by_number_back (told_by_number r n) ≡ r
    back (Ok v) n = refl
    back (Err f) n = refl

end_back : Fault → Result (Unit {0}) CodeFault
end_back f = kept f tt

pub told_end-one : (r q : Result (Unit {0}) CodeFault) → told_end r ≡ told_end q → r ≡ q
unfolding end_back
told_end-one r q e = sym (back r) ∙ ap end_back e ∙ back q
  where
    back : (r : Result (Unit {0}) CodeFault) → end_back (told_end r) ≡ r
    back (Ok tt) = refl
    back (Err f) = kept-back f tt

-- a number that is found is below the count, which tells that none is
found_back : ℕ → ℕ → Option ℕ
found_back count j = pick (ltb j count) (Some j) None

pub told_found-one : (count : ℕ) (r q : Option ℕ) → IfSome r (λ j. j < count) → IfSome q (λ j. j < count) → told_found count r ≡ told_found count q → r ≡ q
unfolding found_back
told_found-one count r q below under e = sym (back r below) ∙ ap (found_back count) e ∙ back q under
  where
    back : (r : Option ℕ) → IfSome r (λ j. j < count) → found_back count (told_found count r) ≡ r
    back (Some j) h = rw (lt-ltb j count h) refl
    back None h = rw (le-ltb count count (omega arith)) refl

-- ── The place after it ──

-- A reader that stays where it was on a refusal stands after what it read: what is told of a number has that place.
place_after : ℕ → Read → ℕ
place_after at (Value v next) = next
place_after at (Refused f) = at

pub told-place : (at : ℕ) (r q : Result ℕ CodeFault) (n m : ℕ) → OnErr r (n ≡ at) → OnErr q (m ≡ at) → told r n ≡ told q m → n ≡ m
unfolding place_after
told-place at r q n m stays waits e = sym (after r n stays) ∙ ap (place_after at) e ∙ after q m waits
  where
    after : (r : Result ℕ CodeFault) (n : ℕ) → OnErr r (n ≡ at) → place_after at (told r n) ≡ n
    after (Ok v) n h = refl
    after (Err f) n h = sym h

pub told_by_number-place : (at : ℕ) (r q : Result ℕ Numbered) (n m : ℕ) → OnErr r (n ≡ at) → OnErr q (m ≡ at) → told_by_number r n ≡ told_by_number q m → n ≡ m
unfolding place_after
told_by_number-place at r q n m stays waits e = sym (after r n stays) ∙ ap (place_after at) e ∙ after q m waits
  where
    after : (r : Result ℕ Numbered) (n : ℕ) → OnErr r (n ≡ at) → place_after at (told_by_number r n) ≡ n
    after (Ok v) n h = refl
    after (Err f) n h = sym h

-- the place after a name
end_of : ℕ → Result Span CodeFault → ℕ
end_of at (Ok name) = name.start + name.len
end_of at (Err f) = at

pub name-place : (at : ℕ) (r q : Result Span CodeFault) (n m : ℕ) → IfOk r (λ name. n ≡ name.start + name.len) → OnErr r (n ≡ at)
    → IfOk q (λ name. m ≡ name.start + name.len) → OnErr q (m ≡ at) → r ≡ q → n ≡ m
unfolding end_of
name-place at r q n m after stays behind waits e = stands r n after stays ∙ ap (end_of at) e ∙ sym (stands q m behind waits)
  where
    stands : (r : Result Span CodeFault) (n : ℕ) → IfOk r (λ name. n ≡ name.start + name.len) → OnErr r (n ≡ at) → n ≡ end_of at r
    stands (Ok name) n h g = h
    stands (Err f) n h g = g
