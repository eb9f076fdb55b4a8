-- Where reading a colour list has got to: after the names read so far it goes on by the next length and name, with as many to come as the count
-- has more.
use Prim.Native.Nat.{ℕ, suc, ◌+◌, ◌-◌, ◌<◌, ◌≤◌}
use mathlib.Core.Path.{◌≡◌, sym, ◌∙◌, ap}
use mathlib.Core.List.{List, [], ◌∷◌, ◌++◌}
use native.Mathlib.Omega.{arith}
use borrow.Author.Tests.{lt-ltb, le-ltb}
use lib.ListN.{length, drop, length-append}
use Rattle.names.specs.Pick.{fault}
use Rattle.names.specs.Name.{Name, name_of}
use Rattle.names.specs.Spelling.{longest_name, most_colours}
use Rattle.names.specs.Reads.{ReadsIn}
use Rattle.names.specs.ReadsList.{bytes_at, Reached, counted, one_more}
use Rattle.names.specs.Colours.{names_in, find_name, named_at, colour_at, no_colours, refused_colours, with_colour, colours_from, colours_of}
use Rattle.names.specs.Fault.{Fault}
use Rattle.names.specs.Read.{Value, Refused}
use Rattle.names.specs.ColourRead.{At, Refused as RefusedColour}
use Rattle.names.specs.declared.colours.Colours.{Colours}
use Rattle.names.proofs.ReadingColours.{Places, places-none, places-with, names-with, names-count, colour-lies}
use Rattle.names.proofs.ReadingNumbers.{number_in_lem}
use Rattle.names.proofs.Exactly.{number_in-exactly, name-exactly}
use Rattle.names.proofs.Finding.{absent-unfound}

-- ── One name ──

-- the colour that stands at a place, by its length and its name
pub sized : (s : List ℕ) (at len start : ℕ) → ReadsIn s at 1 longest_name (Value len start) → colour_at s at ≡ named_at s start len (name_of (drop start s) len)
unfolding colour_at
sized s at len start h = rw ((number_in-exactly s at 1 longest_name _).1 h)

pub unsized : (s : List ℕ) (at : ℕ) (f : Fault) → ReadsIn s at 1 longest_name (Refused f) → colour_at s at ≡ RefusedColour f
unfolding colour_at
unsized s at f h = rw ((number_in-exactly s at 1 longest_name _).1 h)

-- ── One step ──

module _ (s : List ℕ) (c : Colours) (at k : ℕ) where
  pub step-refused : (f : Fault) → colour_at s at ≡ RefusedColour f → colours_from s c at (suc k) ≡ refused_colours f
  step-refused f e = rw e

  pub step_twice : (start len : ℕ) → colour_at s at ≡ At start len → find_name s c (bytes_at s start len) < c.count
      → colours_from s c at (suc k) ≡ refused_colours (fault 5 start)
  step_twice start len e h = rw (e, lt-ltb _ _ h)

  pub step-on : (start len : ℕ) → colour_at s at ≡ At start len → c.count ≤ find_name s c (bytes_at s start len)
      → colours_from s c at (suc k) ≡ colours_from s (with_colour c start len) (start + len) k
  step-on start len e h = rw (e, le-ltb _ _ h)

-- ── Where reading has got to ──

-- reading the list goes on from the names read so far
pub record GoesOn (s : List ℕ) (count : ℕ) (ns : List Name) (at : ℕ) : Type 0 where
  pub colours : Colours
  pub places : Places s colours
  pub names : names_in s colours ≡ ns
  pub many : count ≤ most_colours
  pub on : colours_of s ≡ colours_from s colours at (count - length ns)

pub reached-on : (s : List ℕ) (count : ℕ) {ns : List Name} {at : ℕ} → Reached s count ns at → GoesOn s count ns at
unfolding colours_of
reached-on s count {ns} {at} (counted h e) =
    let read = (number_in-exactly s 0 1 most_colours _).1 h in
    let all : count ≡ count - length ns = omega (arith, ap length e) in
    record { colours = no_colours; places = places-none s; names = sym e; many = (number_in_lem s 0 1 most_colours _ _ read).high; on = rw read (ap (colours_from s no_colours at) all) }
reached-on s count {ns} {at} (one_more before from start len r more sized_at whole_at other ne ae) =
    let o = reached-on s count r in
    let c = o.colours in
    let size : c.count ≡ length before = sym (names-count s c) ∙ ap length o.names in
    let here : colour_at s from ≡ At start len = sized s from len start sized_at ∙ ap (named_at s start len) ((name-exactly (drop start s) len _).1 whole_at) in
    let lies = colour-lies s from start len here in
    let room : c.count < most_colours = omega (arith, o.many) in
    let longer = names-with s c start len o.places room in
    let left : count - length before ≡ suc (count - length ns) = omega (arith, ap length ne, length-append before (bytes_at s start len ∷ [])) in
    let apart = absent-unfound s c (bytes_at s start len) o.places.few (λ m. other (rw o.names at m)) in
    record {
      colours = with_colour c start len;
      places = places-with s c start len o.places room lies.inside;
      names = longer ∙ ap (λ (l : List Name). l ++ (bytes_at s start len ∷ [])) o.names ∙ sym ne;
      many = o.many;
      on =
          o.on ∙ ap (colours_from s c from) left ∙ step-on s c from (count - length ns) start len here apart
          ∙ ap (λ (p : ℕ). colours_from s (with_colour c start len) p (count - length ns)) (sym ae);
    }
