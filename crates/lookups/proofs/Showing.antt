-- The name of a colour, by its number, lies in the lent book or sheet where its place and length say, and a number that is not below the count shows nothing.
-- What a C host is told, taken apart as the header's functions do, is that part; no name is empty, so that 0 says exactly that there is none.
use Prim.Native.Nat.{ℕ, ◌+◌, ◌/◌, ◌%◌, ◌^◌, ◌<◌, ◌≤◌}
use mathlib.Core.Path.{◌≡◌, refl, sym, ap, ◌∙◌}
use mathlib.Core.Logic.{◌↔◌, ◌⊎◌, inl, inr, ⊎_elim}
use mathlib.Core.List.{List, []}
use native.Mathlib.Omega.{arith}
use borrow.Author.Tests.{lt-ltb, le-ltb, eqb-true, eqb-false}
use denote.Ref.{Bor}
use Rattle.std.specs.Prelude.{Option, Some, None as Nowhere}
use Rattle.std.specs.Option.{MatchOption}
use lib.Dec.{eqb}
use lib.ListN.{length, get_or, take, drop, length-drop, get_or-eq_default}
use lib.Seq.{length-take-le}
use Rattle.names.specs.Part.{Part}
use Rattle.names.specs.Colours.{name_in, names_in}
use Rattle.names.specs.Spelling.{NameOk, ColoursOk}
use Rattle.names.specs.declared.colours.Colours.{Colours}
use Rattle.names.proofs.Listing.{get_or-mem}
use Rattle.names.specs.Bytes.{Bytes}
use Rattle.names.proofs.Tests.{true-or-false, lt-or-le}
use Rattle.names.proofs.ReadingColours.{Places, name-at, names-count}
use Rattle.books.specs.Press.{IsPress}
use Rattle.books.specs.Book.{book_of}
use Rattle.books.specs.Sheet.{sheet_of}
use Rattle.lookups.specs.Colour.{name_with, start_with, place_with, shown, shown_start, shown_place}
use Rattle.lookups.specs.Sheet.{sheet_colour_shown}
use Rattle.lookups.specs.inner.Places.{PlaceFound, packed}
use Rattle.lookups.specs.declared.colour.Place.{Place}
use Rattle.books.proofs.Area.{room_enough}
use Rattle.books.proofs.ReadingBooks.{book-accepted, book-places, book-refused}
use Rattle.books.proofs.ReadingSheets.{sheet-places, sheet-refused, sheet-press}
use Rattle.books.proofs.SpellingSheets.{sheet-accepted}
use Rattle.books.proofs.LongestBook.{longest-book}
use Rattle.books.proofs.LongestSheet.{sheet-longest}

module _ (s : List ℕ) (c : Colours) (k : ℕ) where
  -- ── Below the count ──

  pub name-there : k < c.count → name_with s c k ≡ name_in s c k
  name-there h = name-at s c k h

  pub start-there : k < c.count → start_with c k ≡ get_or c.starts k 0
  start-there h = simp (lt-ltb _ _ h)

  name-length : Places s c → k < c.count → length (name_with s c k) ≡ get_or c.lens k 0
  name-length g h =
      let start = get_or c.starts k 0 in
      let len = get_or c.lens k 0 in
      ap length (name-there h) ∙ length-take-le len (drop start s) (omega (arith, length-drop start s, g.inside k h))

  -- ── Not below it ──

  pub name-nothing : c.count ≤ k → name_with s c k ≡ []
  name-nothing h = get_or-eq_default (names_in s c) [] (omega (arith, names-count s c))

  pub start-nowhere : c.count ≤ k → start_with c k ≡ 0
  start-nowhere h = simp (le-ltb _ _ h)

  -- ── What is shown ──

  -- the place that was found, in one number, is that of the name
  pub place-told : Places s c → (p : Option Place) → PlaceFound c k p → (n : ℕ) → MatchOption p (n ≡ 0) (λ x. n ≡ packed x) → n ≡ place_with s c k
  place-told g (Some p) f n e = rw (e, f.start_is, f.length_is, start-there f.below, name-length g f.below)
  place-told g Nowhere above n e = rw (e, start-nowhere above, name-nothing above)

  -- the name is the part of the input that it is said to be
  record Lies : Type 0 where
    part : take (length (name_with s c k)) (drop (start_with c k) s) ≡ name_with s c k
    inside : start_with c k + length (name_with s c k) ≤ length s

  lies : Places s c → Lies
  lies g =
      ⊎_elim
      (λ (h : k < c.count).
      let len = name-length g h in
      let start = start-there h in
      record { part = rw (len, start) (sym (name-there h)); inside = omega (arith, g.inside k h) })
      (λ (h : c.count ≤ k).
      let none = name-nothing h in
      record { part = rw none; inside = omega (arith, ap length none, start-nowhere h) })
      (lt-or-le k c.count)

-- the colours of an input that was read, with the number of its fault: an accepted one has names that keep the rules, and a refused one has none
pub record Listed (s : List ℕ) (fault : ℕ) (c : Colours) : Type 0 where
  pub places : Places s c
  pub few : fault ≡ 0 → length s < 2 ^ 32
  pub ok : fault ≡ 0 → ColoursOk (names_in s c)
  pub none : (fault ≡ 0 → ⊥) → c.count ≡ 0

module _ (s : List ℕ) (fault : ℕ) (c : Colours) (k : ℕ) where
  -- there is no such colour: the input is refused, or the number is not below the count
  abbrev pub None : Type 0
  None = (fault ≡ 0 → ⊥) ⊎ (length (names_in s c) ≤ k)

  -- what a C host is told of a colour
  pub record Shows (r : ℕ) : Type 0 where
    pub start_is : r % 2 ^ 32 ≡ start_with c k
    pub length_is : r / 2 ^ 32 ≡ length (name_with s c k)
    pub inside : r % 2 ^ 32 + r / 2 ^ 32 ≤ length s
    pub part : take (r / 2 ^ 32) (drop (r % 2 ^ 32) s) ≡ name_with s c k
    pub none : (r ≡ 0) ↔ None

  module _ (l : Listed s fault c) where
    -- a name of an accepted input keeps the rules of names, and so is never empty
    pub name-ok : fault ≡ 0 → k < length (names_in s c) → NameOk (name_with s c k)
    name-ok z h = (l.ok z).each (name_with s c k) (get_or-mem (names_in s c) k [] h)

    -- places are far below 2 ^ 32
    start_small : start_with c k < 2 ^ 32
    start_small =
        ⊎_elim
        (λ t. omega (arith, (lies s c k l.places).inside, l.few (eqb-true fault 0 t)))
        (λ t. omega (arith, start-nowhere s c k (omega (arith, l.none (eqb-false fault 0 t)))))
        (true-or-false (eqb fault 0))

    pub place-shows : (r : ℕ) → r ≡ place_with s c k → Shows r
    place-shows r e =
        let small = start_small in
        let count = names-count s c in
        let there = lies s c k l.places in
        let start : r % 2 ^ 32 ≡ start_with c k = omega arith in
        let len : r / 2 ^ 32 ≡ length (name_with s c k) = omega arith in
        record {
          start_is = start;
          length_is = len;
          inside = omega (arith, there.inside);
          part = rw (start, len) there.part;
          none = (
            λ z. ⊎_elim
                (λ t. ⊎_elim
                (λ (h : k < length (names_in s c)). absurd (omega (arith, (name-ok (eqb-true fault 0 t) h).some)))
                (λ (h : length (names_in s c) ≤ k). inr h)
                (lt-or-le k (length (names_in s c))))
                (λ t. inl (eqb-false fault 0 t))
                (true-or-false (eqb fault 0)),
            λ x.
                let above : c.count ≤ k = ⊎_elim (λ n. omega (arith, l.none n)) (λ h. omega arith) x in
                omega (arith, ap length (name-nothing s c k above), start-nowhere s c k above),
          );
        }

-- ── Of a book ──

module _ (s : List ℕ) (bytes : Bytes s) where
  book-listed : Listed s (book_of s).fault.number (book_of s).family.colours
  book-listed =
      record {
        places = book-places s;
        few = λ z. omega (arith, longest-book s bytes z);
        ok = λ z. (book-accepted s bytes z).keeps.colours_ok;
        none = λ n. rw (book-refused s n).empty;
      }

  module _ (k : ℕ) where
    pub shown_ok : (book_of s).fault.number ≡ 0 → k < length (names_in s (book_of s).family.colours) → NameOk (shown s k)
    shown_ok = name-ok s _ _ k book-listed

    -- what dv_colour answers
    pub colour-shows : (r : ℕ) → r ≡ shown_place s k → Shows s (book_of s).fault.number (book_of s).family.colours k r
    colour-shows = place-shows s _ _ k book-listed

-- the part that `colour` returns is the one that `dv_colour` tells
pub record SamePart (book r : Bor (List ℕ)) (q : ℕ) : Type 0 where
  pub memory : r.ref_ptr.0 ≡ book.ref_ptr.0
  pub offset : r.ref_ptr.1 ≡ book.ref_ptr.1 + q % 2 ^ 32
  pub bytes : length r.now ≡ q / 2 ^ 32

pub same-part : (book r : Bor (List ℕ)) (k q : ℕ) → Bytes book.now → Part book (shown_start book.now k) (shown book.now k) r → q ≡ shown_place book.now k → SamePart book r q
same-part book r k q bytes p e =
    let c = colour-shows book.now bytes k q e in
    record { memory = p.memory; offset = p.offset ∙ ap (λ (n : ℕ). book.ref_ptr.1 + n) (sym c.start_is); bytes = ap length p.holds ∙ sym c.length_is }

-- ── Of a sheet ──

module _ (press : ℕ) (s : List ℕ) (bytes : Bytes s) where
  sheet-listed : Listed s (sheet_of press s).fault.number (sheet_of press s).sheet.colours
  sheet-listed =
      record {
        places = sheet-places press s;
        few = λ z. omega (arith, sheet-longest press s bytes z, room_enough press);
        ok = λ z. (sheet-accepted press s bytes z).keeps.colours_ok;
        none = λ n. rw (sheet-refused press s n).none;
      }

  module _ (k : ℕ) where
    -- what dv_sheet_colour answers
    pub sheet-colour-shows : (r : ℕ) → r ≡ sheet_colour_shown press s k → Shows s (sheet_of press s).fault.number (sheet_of press s).sheet.colours k r
    sheet-colour-shows = place-shows s _ _ k sheet-listed

    -- 0 where there is no such press
    pub no-press-no-colour : (IsPress press → ⊥) → sheet_colour_shown press s k ≡ 0
    no-press-no-colour n = (sheet-colour-shows _ refl).none.1 (inl (λ z. n (sheet-press press s z)))
