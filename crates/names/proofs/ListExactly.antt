-- A colour list is refused exactly for what `ListFault` says, and read whole exactly where `ListRead` says: from the names read so far reading goes on by
-- the next length and name, so that it stops where one of them is refused, and nowhere else.
use Prim.Native.Nat.{ℕ, zero, suc, ◌+◌, ◌-◌, ◌<◌, ◌≤◌}
use mathlib.Core.Path.{◌≡◌, refl, sym, ◌∙◌, ap, subst}
use mathlib.Core.List.{List, Memᴰ}
use mathlib.Core.Logic.{◌↔◌, ◌⊎◌, inl, inr, ⊎_elim}
use native.Mathlib.Omega.{arith}
use lib.ListN.{length, drop}
use Rattle.names.specs.Pick.{fault}
use Rattle.names.specs.Number.{number_in}
use Rattle.names.specs.Name.{Name, name_of}
use Rattle.names.specs.Spelling.{longest_name, most_colours}
use Rattle.names.specs.Reads.{ReadsIn, ReadsName}
use Rattle.names.specs.ReadsList.{bytes_at, Reached, counted, one_more, ListRead, NameFault, cut_short, bad_byte, twice, ListFault, no_count, no_length, no_name}
use Rattle.names.specs.Colours.{names_in, find_name, named_at, colour_at, no_colours, refused_colours, with_colour, colours_from, colours_of}
use Rattle.names.specs.Fault.{Fault}
use Rattle.names.specs.Read.{Read}
use Rattle.names.specs.Read.{Value, Refused}
use Rattle.names.specs.NameRead.{NameRead}
use Rattle.names.specs.NameRead.{Whole, Ends, Bad}
use Rattle.names.specs.ColourRead.{Refused as RefusedColour}
use Rattle.names.specs.declared.colours.Colours.{Colours}
use Rattle.names.specs.ColoursRead.{ColoursRead}
use Rattle.names.proofs.Tests.{lt-or-le}
use Rattle.names.proofs.FirstFault.{FirstFault, first-fault}
use Rattle.names.proofs.ReadingColours.{Places, places-none, places-with, names-with, names-count, colour-lies, colours-lie}
use Rattle.names.proofs.ReadingNumbers.{number_in_lem}
use Rattle.names.proofs.Exactly.{number_in-exactly, name-exactly}
use Rattle.names.proofs.Finding.{found-mem, mem-found}
use Rattle.names.proofs.ReachedNames.{sized, unsized, step-refused, step_twice, step-on, GoesOn, reached-on}

-- ── What refuses the list ──

-- what refuses the list refuses reading there
refused-there : (s : List ℕ) (count at : ℕ) (ns : List Name) → GoesOn s count ns at → length ns < count → (f : Fault) → colour_at s at ≡ RefusedColour f
    → colours_of s ≡ refused_colours f
refused-there s count at ns o more f e =
    let left : count - length ns ≡ suc (count - length ns - 1) = omega arith in
    o.on ∙ ap (colours_from s o.colours at) left ∙ step-refused s o.colours at (count - length ns - 1) f e

fault-is : (s : List ℕ) (f : Fault) → ListFault s f → colours_of s ≡ refused_colours f
unfolding colours_of
fault-is s f (no_count h) = rw ((number_in-exactly s 0 1 most_colours _).1 h)
fault-is s f (no_length count at ns r more h) = refused-there s count at ns (reached-on s count r) more f (unsized s at f h)
fault-is s f (no_name count at start len ns r more h x) = name-fault x
  where
    o : GoesOn s count ns at
    o = reached-on s count r

    here : (n : NameRead) → ReadsName (drop start s) len n → colour_at s at ≡ named_at s start len n
    here n w = sized s at len start h ∙ ap (named_at s start len) ((name-exactly (drop start s) len n).1 w)

    name-fault : NameFault s ns start len f → colours_of s ≡ refused_colours f
    name-fault (cut_short w e) = refused-there s count at ns o more _ (here _ w) ∙ ap refused_colours (sym e)
    name-fault (bad_byte k w e) = refused-there s count at ns o more _ (here _ w) ∙ ap refused_colours (sym e)
    name-fault (twice w m e) =
        let c = o.colours in
        let left : count - length ns ≡ suc (count - length ns - 1) = omega arith in
        let found = mem-found s c (bytes_at s start len) o.places.few (rw o.names m) in
        o.on ∙ ap (colours_from s c at) left ∙ step_twice s c at (count - length ns - 1) start len (here _ w) found ∙ ap refused_colours (sym e)

-- ── What reading finds ──

-- a list is read to its end, or refused for a fault of the list
abbrev ReadOut : List ℕ → ColoursRead → Type 0
ReadOut s r = ((r.fault ≡ fault 0 0) × ListRead s r.colours.count r.next) ⊎ ListFault s r.fault

-- with the names of c read so far, and what follows each longer list
module _ (s : List ℕ) (count : ℕ) (c : Colours) (at k : ℕ) (g : Places s c) (room : c.count < most_colours) (more : length (names_in s c) < count)
    (r : Reached s count (names_in s c) at)
    (rest : (d : Colours) (p : ℕ) → Places s d → d.count ≡ c.count + 1 → Reached s count (names_in s d) p → ReadOut s (colours_from s d p k)) where
  named : (start len : ℕ) → ReadsIn s at 1 longest_name (Value len start) → (n : NameRead) → ReadsName (drop start s) len n → colour_at s at ≡ named_at s start len n
      → ReadOut s (colours_from s c at (suc k))
  named start len i Ends w e =
      rw (step-refused s c at k _ e) (inr (no_name count at start len (names_in s c) r more i (cut_short w refl)))
  named start len i (Bad m) w e =
      rw (step-refused s c at k _ e) (inr (no_name count at start len (names_in s c) r more i (bad_byte m w refl)))
  named start len i Whole w e =
      let name = bytes_at s start len in
      let lies = colour-lies s at start len e in
      let few : c.count ≤ most_colours = omega arith in
      ⊎_elim
      (λ (h : find_name s c name < c.count).
      rw (step_twice s c at k start len e h) (inr (no_name count at start len (names_in s c) r more i (twice w (found-mem s c name few h) refl))))
      (λ (h : c.count ≤ find_name s c name).
      let apart : Memᴰ name (names_in s c) → ⊥ = λ m. omega (arith, mem-found s c name few m) in
      rw (step-on s c at k start len e h)
      (rest (with_colour c start len) (start + len) (places-with s c start len g room lies.inside) refl
      (one_more (names_in s c) at start len r more i w apart (names-with s c start len g room) refl)))
      (lt-or-le (find_name s c name) c.count)

  stepped : (n : Read) → number_in s at 1 longest_name ≡ n → ReadOut s (colours_from s c at (suc k))
  stepped (Refused f) e =
      let i = (number_in-exactly s at 1 longest_name _).0 e in
      rw (step-refused s c at k f (unsized s at f i)) (inr (no_length count at (names_in s c) r more i))
  stepped (Value len start) e =
      let i = (number_in-exactly s at 1 longest_name _).0 e in
      let w = (name-exactly (drop start s) len (name_of (drop start s) len)).0 refl in
      named start len i (name_of (drop start s) len) w (sized s at len start i)

from_out : (s : List ℕ) (count : ℕ) → count ≤ most_colours → (k : ℕ) (c : Colours) (at : ℕ) → Places s c → c.count + k ≡ count → Reached s count (names_in s c) at
    → ReadOut s (colours_from s c at k)
from_out s count many zero c at g h r =
    let all : count ≡ c.count = omega arith in
    inl (refl, record { names = names_in s c; read = subst (λ (n : ℕ). Reached s n (names_in s c) at) all r; all = names-count s c })
from_out s count many (suc k) c at g h r =
    stepped s count c at k g (omega arith) (omega (arith, names-count s c)) r
    (λ d p gd e rd. from_out s count many k d p gd (omega arith) rd) (number_in s at 1 longest_name) refl

list-out : (s : List ℕ) (n : Read) → number_in s 0 1 most_colours ≡ n → ReadOut s (colours_of s)
unfolding colours_of
list-out s (Refused f) e = rw e (inr (no_count ((number_in-exactly s 0 1 most_colours _).0 e)))
list-out s (Value count at) e =
    rw e (from_out s count (number_in_lem s 0 1 most_colours count at e).high count no_colours at (places-none s) (omega arith) (counted ((number_in-exactly s 0 1 most_colours _).0 e) refl))

-- a refused list has no colours, and one that is read has some
pub list-first : (s : List ℕ) → FirstFault (ListFault s) (colours_of s).fault
list-first s =
    first-fault (ListFault s) (colours_of s).fault (⊎_elim (λ w. inl w.0) inr (list-out s _ refl))
    (λ f x. ap (λ (r : ColoursRead). r.fault) (fault-is s f x))
    (λ z f x. omega (arith, (colours-lie s z).some, ap (λ (r : ColoursRead). r.colours.count) (fault-is s f x)))

pub list-refused-exactly : (s : List ℕ) (f : Fault) → 1 ≤ f.number → ((colours_of s).fault ≡ f) ↔ ListFault s f
list-refused-exactly s = (list-first s).exactly

-- so many names and the place after them are read exactly where a list of so many ends there
pub list-read-exactly : (s : List ℕ) (count at : ℕ)
    → (((colours_of s).fault.number ≡ 0) × ((colours_of s).colours.count ≡ count) × ((colours_of s).next ≡ at)) ↔ ListRead s count at
list-read-exactly s count at = (read_whole, whole-read)
  where
    read_whole : ((colours_of s).fault.number ≡ 0) × ((colours_of s).colours.count ≡ count) × ((colours_of s).next ≡ at) → ListRead s count at
    read_whole (z, n, p) =
        ⊎_elim (λ w. rw (n, p) at w.1) (λ x. absurd ((list-first s).none.1 z _ x)) (list-out s _ refl)

    whole-read : ListRead s count at → ((colours_of s).fault.number ≡ 0) × ((colours_of s).colours.count ≡ count) × ((colours_of s).next ≡ at)
    whole-read l =
        let o = reached-on s count l.read in
        let none : count - length l.names ≡ 0 = omega (arith, l.all) in
        let whole = o.on ∙ ap (colours_from s o.colours at) none in
        let many : o.colours.count ≡ count = sym (names-count s o.colours) ∙ ap length o.names ∙ l.all in (
          ap (λ (r : ColoursRead). r.fault.number) whole,
          ap (λ (r : ColoursRead). r.colours.count) whole ∙ many,
          ap (λ (r : ColoursRead). r.next) whole,
        )
