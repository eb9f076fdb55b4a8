-- What callers use of a colour, and of a colour list, that was read: every place lies within the input, and the counts keep their bounds.
use Prim.Native.Nat.{ℕ, zero, suc, ◌+◌, ◌*◌, ◌<◌, ◌≤◌}
use mathlib.Core.Path.{◌≡◌, refl, subst, sym, ap, ap₂, ◌∙◌}
use mathlib.Core.List.{List, [], ◌∷◌, ◌++◌}
use mathlib.Core.Logic.{◌⊎◌, inl, inr, ⊎_elim}
use native.Mathlib.Omega.{arith}
use native.Mathlib.Numerals.{add-one}
use borrow.Author.Count.{below_more}
use lib.Dec.{ltb}
use lib.ListN.{length, get_or, take, drop, set, length-set, length-drop}
use lib.Seq.{get_or-set_same, get_or-set_other}
use Rattle.names.specs.Pick.{fault}
use Rattle.names.specs.Number.{number_in}
use Rattle.names.specs.Name.{name_of}
use Rattle.names.specs.Spelling.{longest_name, most_colours}
use Rattle.names.specs.Colours.{name_in, names_from, names_in, find_name, named_at, colour_at, no_colours, refused_colours, with_colour, colours_from, colours_of}
use Rattle.names.specs.Fault.{Fault}
use Rattle.names.specs.Read.{Value}
use Rattle.names.specs.NameRead.{NameRead}
use Rattle.names.specs.NameRead.{Whole, Ends, Bad}
use Rattle.names.specs.ColourRead.{ColourRead}
use Rattle.names.specs.ColourRead.{At, Refused as RefusedColour}
use Rattle.names.specs.declared.colours.Colours.{Colours}
use Rattle.names.specs.ColoursRead.{ColoursRead}
use Rattle.names.proofs.Picking.{pick_ind}
use Rattle.names.proofs.Onwards.{onward-ind, after_colour-ind}
use Rattle.names.proofs.ReadingNumbers.{Blamed, blamed-later, number_in_lem, number_in-refused}
use Rattle.names.proofs.ReadingNames.{name-whole, name-ends, name-bad}

-- the bytes that a colour takes at most, a length and the longest name, and those that a list does
abbrev pub colour_span : ℕ
colour_span = 3 + longest_name

abbrev pub list_span : ℕ
list_span = 3 + colour_span * most_colours

-- ── One colour ──

-- a name that was read: its length stands at the place, the name after it is whole, and all lies within the input
pub record ColourLies (s : List ℕ) (at start len : ℕ) : Type 0 where
  pub sized : number_in s at 1 longest_name ≡ Value len start
  pub whole : name_of (drop start s) len ≡ Whole
  pub after : at < start
  pub near : start ≤ at + 3
  pub inside : start + len ≤ length s
  pub low : 1 ≤ len
  pub high : len ≤ longest_name

abbrev Found : List ℕ → ℕ → ColourRead → Type 0
Found s at (At start len) = ColourLies s at start len
Found s at (RefusedColour f) = Blamed s (at + colour_span) f

named : (s : List ℕ) (at start len : ℕ) (n : NameRead) → number_in s at 1 longest_name ≡ Value len start → name_of (drop start s) len ≡ n → Found s at (named_at s start len n)
named s at start len Whole e d =
    let g = number_in_lem s at 1 longest_name len start e in
    let w : len ≤ length (drop start s) = (name-whole (drop start s) len d).0 in
    record { sized = e; whole = d; after = g.after; near = g.near; inside = omega (arith, length-drop start s, g.inside); low = g.low; high = g.high }
named s at start len Ends e d =
    let g = number_in_lem s at 1 longest_name len start e in
    let w : length (drop start s) ≤ len = name-ends (drop start s) len d in
    omega (arith, length-drop start s)
named s at start len (Bad k) e d =
    let g = number_in_lem s at 1 longest_name len start e in
    let w = name-bad (drop start s) len k d in
    omega (arith, length-drop start s)

found : (s : List ℕ) (at : ℕ) → Found s at (colour_at s at)
unfolding colour_at
found s at =
    onward-ind (Found s at) RefusedColour (number_in s at 1 longest_name) _
    (λ f e. blamed-later (omega arith) (number_in-refused s at 1 longest_name f e))
    (λ len start e. named s at start len (name_of (drop start s) len) e refl)

pub colour-lies : (s : List ℕ) (at start len : ℕ) → colour_at s at ≡ At start len → ColourLies s at start len
colour-lies s at start len e = subst (Found s at) e (found s at)

pub colour-refused : (s : List ℕ) (at : ℕ) (f : Fault) → colour_at s at ≡ RefusedColour f → Blamed s (at + colour_span) f
colour-refused s at f e = subst (Found s at) e (found s at)

-- ── A list of places, as it grows ──

-- every place lies within the input, and the arrays have their lengths
pub record Places (s : List ℕ) (c : Colours) : Type 0 where
  pub starts64 : length c.starts ≡ most_colours
  pub lens64 : length c.lens ≡ most_colours
  pub few : c.count ≤ most_colours
  pub inside : (i : ℕ) → i < c.count → get_or c.starts i 0 + get_or c.lens i 0 ≤ length s

pub places-none : (s : List ℕ) → Places s no_colours
places-none s = record { starts64 = refl; lens64 = refl; few = omega arith; inside = λ i h. absurd (omega arith) }

module _ (s : List ℕ) (c : Colours) (start len : ℕ) (g : Places s c) (room : c.count < most_colours) where
  pub places-with : start + len ≤ length s → Places s (with_colour c start len)
  places-with l =
      record {
        starts64 = length-set c.starts _ _ ∙ g.starts64;
        lens64 = length-set c.lens _ _ ∙ g.lens64;
        few = omega arith;
        inside = below_more (λ (i : ℕ). get_or (set c.starts c.count start) i 0 + get_or (set c.lens c.count len) i 0 ≤ length s) c.count
            (λ i p. rw (get_or-set_other c.starts c.count i start 0 (omega arith), get_or-set_other c.lens c.count i len 0 (omega arith)) (g.inside i p))
            (rw (get_or-set_same c.starts c.count start 0 (omega (arith, g.starts64)), get_or-set_same c.lens c.count len 0 (omega (arith, g.lens64))) l);
      }

  -- the names of so many, and of one more
  names-split : (k i : ℕ) → i + k ≡ c.count → names_from s (with_colour c start len) i (suc k) ≡ names_from s c i k ++ (take len (drop start s) ∷ [])
  names-split zero i h =
      let e : i ≡ c.count = omega arith in
      rw (e, get_or-set_same c.starts c.count start 0 (omega (arith, g.starts64)), get_or-set_same c.lens c.count len 0 (omega (arith, g.lens64)))
  names-split (suc k) i h =
      ap₂ ◌∷◌ (rw (get_or-set_other c.starts c.count i start 0 (omega arith), get_or-set_other c.lens c.count i len 0 (omega arith)))
      (names-split k (i + 1) (omega arith))

  pub names-with : names_in s (with_colour c start len) ≡ names_in s c ++ (take len (drop start s) ∷ [])
  names-with = ap (names_from s (with_colour c start len) 0) (add-one c.count) ∙ names-split c.count 0 (omega arith)

pub names-length : (s : List ℕ) (c : Colours) (k i : ℕ) → length (names_from s c i k) ≡ k
names-length s c zero i = refl
names-length s c (suc k) i = ap suc (names-length s c k (i + 1))

pub names-count : (s : List ℕ) (c : Colours) → length (names_in s c) ≡ c.count
names-count s c = names-length s c c.count 0

pub names_at : (s : List ℕ) (c : Colours) (k i j : ℕ) → j < k → get_or (names_from s c i k) j [] ≡ name_in s c (i + j)
names_at s c zero i j h = absurd (omega arith)
names_at s c (suc k) i zero h = ap (name_in s c) (omega arith)
names_at s c (suc k) i (suc j) h = names_at s c k (i + 1) j (omega arith) ∙ ap (name_in s c) (omega arith)

-- the name of each colour of a list
pub name-at : (s : List ℕ) (c : Colours) (j : ℕ) → j < c.count → get_or (names_in s c) j [] ≡ name_in s c j
name-at s c j h = names_at s c c.count 0 j h ∙ ap (name_in s c) (omega arith)

-- ── A whole list ──

-- what an accepted list gives: its places, at least so many, and the place after it
pub record ListLies (s : List ℕ) (limit least : ℕ) (r : ColoursRead) : Type 0 where
  pub fine : r.fault ≡ fault 0 0
  pub places : Places s r.colours
  pub some : least ≤ r.colours.count
  pub inside : r.next ≤ length s
  pub near : r.next ≤ limit

-- what a refused one gives
pub record ListRefused (s : List ℕ) (limit : ℕ) (r : ColoursRead) : Type 0 where
  pub blamed : Blamed s limit r.fault
  pub empty : r.colours ≡ no_colours
  pub nowhere : r.next ≡ 0

abbrev Ended : List ℕ → ℕ → ℕ → ColoursRead → Type 0
Ended s limit least r = ListLies s limit least r ⊎ ListRefused s limit r

module _ (s : List ℕ) (limit least : ℕ) where
  from-ended : (k : ℕ) (c : Colours) (at : ℕ) → Places s c → c.count + k ≡ least → least ≤ most_colours → at ≤ length s → at + colour_span * k ≤ limit
      → Ended s limit least (colours_from s c at k)
  from-ended zero c at g h few i l = inl (record { fine = refl; places = g; some = omega arith; inside = i; near = omega arith })
  from-ended (suc k) c at g h few i l =
      after_colour-ind (Ended s limit least) refused_colours (colour_at s at) _
      (λ f e. inr (record { blamed = blamed-later (omega arith) (colour-refused s at f e); empty = refl; nowhere = refl }))
      (λ start len e.
      let p = colour-lies s at start len e in
      pick_ind (Ended s limit least) (ltb (find_name s c (take len (drop start s))) c.count) _ _
      (λ _. inr (record { blamed = record { some = omega arith; known = omega arith; inside = omega (arith, p.inside); near = omega (arith, p.near) }; empty = refl; nowhere = refl }))
      (λ _. from-ended k (with_colour c start len) (start + len) (places-with s c start len g (omega arith) p.inside) (omega arith) few p.inside (omega (arith, p.near, p.high))))

colours-ended : (s : List ℕ) → Ended s list_span 1 (colours_of s)
unfolding colours_of
colours-ended s =
    onward-ind (Ended s list_span 1) refused_colours (number_in s 0 1 most_colours) _
    (λ f e. inr (record { blamed = blamed-later (omega arith) (number_in-refused s 0 1 most_colours f e); empty = refl; nowhere = refl }))
    (λ n at e.
    let g = number_in_lem s 0 1 most_colours n at e in
    ⊎_elim
    (λ l. inl (record { fine = l.fine; places = l.places; some = omega (arith, l.some, g.low); inside = l.inside; near = l.near }))
    (λ l. inr l)
    (from-ended s list_span n n no_colours at (places-none s) (omega arith) g.high g.inside (omega (arith, g.near, g.high))))

-- the two laws of a list: where its fault has number 0 it lies within the input, and elsewhere it names what it blames
pub colours-lie : (s : List ℕ) → (colours_of s).fault.number ≡ 0 → ListLies s list_span 1 (colours_of s)
colours-lie s z = ⊎_elim (λ l. l) (λ r. absurd (omega (arith, r.blamed.some))) (colours-ended s)

pub colours-refused : (s : List ℕ) → ((colours_of s).fault.number ≡ 0 → ⊥) → ListRefused s list_span (colours_of s)
colours-refused s z = ⊎_elim (λ l. absurd (z (ap (λ (f : Fault). f.number) l.fine))) (λ r. r) (colours-ended s)

-- refused or not, every place lies within the input
pub colours-places : (s : List ℕ) → Places s (colours_of s).colours
colours-places s = ⊎_elim (λ l. l.places) (λ r. subst (Places s) (sym r.empty) (places-none s)) (colours-ended s)
