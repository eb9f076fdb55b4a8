-- All names that keep the rules have exactly one accepted spelling as a colour list, and reading it gives them back: each name is spelled
-- by its length and its bytes, and each of the two is read back at its place.
use Prim.Native.Nat.{ℕ, zero, suc, ◌+◌, ◌<◌, ◌≤◌}
use mathlib.Core.Path.{◌≡◌, refl, subst, sym, ap, ◌∙◌}
use mathlib.Core.Bool.{false}
use mathlib.Core.List.{List, [], ◌∷◌, ◌++◌, append_assoc, append-nil, Memᴰ}
use native.Mathlib.Omega.{arith}
use borrow.Author.Tests.{ltb-false, le-ltb}
use lib.Dec.{ltb}
use lib.ListN.{length, take, drop, length-append, length-drop, take-append-drop, get_or-append}
use lib.Seq.{get_or-take, drop-drop, drop-append_seam, take-append_seam, length-take-le}
use Rattle.names.specs.Pick.{fault}
use Rattle.names.specs.Number.{number_in, spell_number}
use Rattle.names.specs.Name.{Name, name_of}
use Rattle.names.specs.Colours.{names_in, find_name, colour_at, no_colours, refused_colours, with_colour, colours_from, colours_of}
use Rattle.names.specs.Spelling.{longest_name, most_colours, NameOk, ColoursOk, spell_names, spell_colours}
use Rattle.names.specs.Fault.{Fault}
use Rattle.names.specs.NameRead.{Whole}
use Rattle.names.specs.ColourRead.{At}
use Rattle.names.specs.declared.colours.Colours.{Colours}
use Rattle.names.specs.ColoursRead.{ColoursRead}
use Rattle.names.proofs.Picking.{pick_ind}
use Rattle.names.proofs.Onwards.{onward-ind, after_colour-ind}
use Rattle.names.proofs.ReadingNumbers.{number-there, number_in_lem, number_in-range, number_in-refused}
use Rattle.names.specs.Bytes.{Bytes}
use Rattle.names.proofs.SpellingNumbers.{number_spelled, number-reads-at}
use Rattle.names.proofs.ReadingNames.{name-whole, name-good}
use Rattle.names.proofs.ReadingColours.{colour-lies, colour-refused, Places, places-none, places-with, names-with, colours-lie}
use Rattle.names.proofs.Finding.{mem-found, absent-unfound}
use Rattle.names.proofs.FreshNames.{Fresh, fresh-each, fresh-distinct, make-fresh}

-- ── What is accepted is a spelling ──

-- so many names were taken from a place on, each good and new, and what stood there is their spelling
record Taken (s : List ℕ) (c : Colours) (at k : ℕ) (r : ColoursRead) : Type 0 where
  new : List Name
  count : length new ≡ k
  fresh : Fresh (names_in s c) new
  names : names_in s r.colours ≡ names_in s c ++ new
  spelled : drop at s ≡ spell_names new ++ drop r.next s

module _ (s : List ℕ) (bytes : Bytes s) where
  abbrev Takes : Colours → ℕ → ℕ → ColoursRead → Type 0
  Takes c at k r = r.fault ≡ fault 0 0 → Taken s c at k r

  -- the name that was read
  name-ok : (at start len : ℕ) → colour_at s at ≡ At start len → NameOk (take len (drop start s))
  name-ok at start len e =
      let g = colour-lies s at start len e in
      let w = name-whole (drop start s) len g.whole in
      let n : length (take len (drop start s)) ≡ len = length-take-le len (drop start s) w.0 in
      record {
        some = omega (arith, g.low);
        few = omega (arith, g.high);
        shown = λ i h. let l : i < len = omega arith in rw (n, get_or-take len (drop start s) i 0 l) (w.1 i l);
      }

  -- one name more in front of those that were taken after it
  one_more : (c : Colours) (at k start len : ℕ) (r : ColoursRead) → Places s c → c.count < most_colours → colour_at s at ≡ At start len
      → ltb (find_name s c (take len (drop start s))) c.count ≡ false → Taken s (with_colour c start len) (start + len) k r → Taken s c at (suc k) r
  one_more c at k start len r g room e f t =
      let p = colour-lies s at start len e in
      let w = (name-whole (drop start s) len p.whole).0 in
      let n = take len (drop start s) in
      let size : length n ≡ len = length-take-le len (drop start s) w in
      let grown = names-with s c start len g room in
      let old : Memᴰ n (names_in s c) → ⊥ = λ m. omega (arith, ltb-false (find_name s c n) c.count f, mem-found s c n g.few m) in
      let first : drop at s ≡ spell_number len ++ drop start s = number_spelled s bytes at len start (number-there s at 1 longest_name len start p.sized) in
      let then : drop start s ≡ n ++ drop (start + len) s = sym (take-append-drop len (drop start s)) ∙ ap (λ (x : List ℕ). n ++ x) (drop-drop len start s) in
      record {
        new = n ∷ t.new;
        count = ap suc t.count;
        fresh = (name-ok at start len e, old, subst (λ (b : List Name). Fresh b t.new) grown t.fresh);
        names = t.names ∙ (ap (λ (x : List Name). x ++ t.new) grown ∙ append_assoc (names_in s c) (n ∷ []) t.new);
        spelled = rw (size, append_assoc, append_assoc, ← t.spelled, ← then) first;
      }

  taken : (k : ℕ) (c : Colours) (at : ℕ) → Places s c → c.count + k ≤ most_colours → Takes c at k (colours_from s c at k)
  taken zero c at g h = λ z. record { new = []; count = refl; fresh = tt; names = sym (append-nil (names_in s c)); spelled = refl }
  taken (suc k) c at g h =
      after_colour-ind (Takes c at (suc k)) refused_colours (colour_at s at) _
      (λ f e z. absurd (omega (arith, (colour-refused s at f e).some, ap (λ (x : Fault). x.number) z)))
      (λ start len e. pick_ind (Takes c at (suc k)) (ltb (find_name s c (take len (drop start s))) c.count) _ _
      (λ t z. let five : 5 ≡ 0 = ap (λ (x : Fault). x.number) z in absurd (omega arith))
      (λ t z.
      one_more c at k start len _ g (omega arith) e t
      (taken k (with_colour c start len) (start + len) (places-with s c start len g (omega arith) (colour-lies s at start len e).inside) (omega arith) z)))

  -- an accepted list has names that keep the rules, and begins with their spelling
  pub record Accepted (r : ColoursRead) : Type 0 where
    pub ok : ColoursOk (names_in s r.colours)
    pub spelled : s ≡ spell_colours (names_in s r.colours) ++ drop r.next s

  counted : (colours_of s).fault ≡ fault 0 0 → Accepted (colours_of s)
  unfolding colours_of
  counted =
      onward-ind (λ (r : ColoursRead). r.fault ≡ fault 0 0 → Accepted r) refused_colours (number_in s 0 1 most_colours) _
      (λ f e z. absurd (omega (arith, (number_in-refused s 0 1 most_colours f e).some, ap (λ (x : Fault). x.number) z)))
      (λ n at e z.
      let g = number_in_lem s 0 1 most_colours n at e in
      let t = taken n no_colours at (places-none s) (omega (arith, g.high)) z in
      let first : s ≡ spell_number n ++ drop at s = number_spelled s bytes 0 n at (number-there s 0 1 most_colours n at e) in
      record {
        ok = rw t.names (record {
          some = omega (arith, t.count, g.low);
          few = omega (arith, t.count, g.high);
          each = fresh-each [] t.new t.fresh;
          distinct = fresh-distinct [] t.new t.fresh;
        });
        spelled = rw (t.names, t.count, append_assoc, ← t.spelled) first;
      })

  pub colours-accepted : (colours_of s).fault.number ≡ 0 → Accepted (colours_of s)
  colours-accepted z = counted (colours-lie s z).fine

-- ── A spelling is accepted ──

-- what stands after the first part of what stands at a place
pub drop_past : (s a b : List ℕ) (at : ℕ) → drop at s ≡ a ++ b → drop (at + length a) s ≡ b
drop_past s a b at e = sym (drop-drop (length a) at s) ∙ (ap (drop (length a)) e ∙ drop-append_seam a b)

pub past-inside : (s a b : List ℕ) (at : ℕ) → at ≤ length s → drop at s ≡ a ++ b → at + length a ≤ length s
past-inside s a b at h e = omega (arith, length-drop at s, ap (λ (x : List ℕ). length x) e, length-append a b)

-- the names are there after those that stood before, and the place is after them
record Got (s : List ℕ) (c : Colours) (at : ℕ) (ns : List Name) (r : ColoursRead) : Type 0 where
  fine : r.fault ≡ fault 0 0
  names : names_in s r.colours ≡ names_in s c ++ ns
  next : r.next ≡ at + length (spell_names ns)

module _ (s : List ℕ) where
  -- one name's spelling is read
  one-read : (at : ℕ) (n rest : List ℕ) → at ≤ length s → NameOk n → drop at s ≡ spell_number (length n) ++ (n ++ rest)
      → colour_at s at ≡ At (at + length (spell_number (length n))) (length n)
  unfolding colour_at
  one-read at n rest h ok e =
      let start = at + length (spell_number (length n)) in
      let d : drop start s ≡ n ++ rest = drop_past s (spell_number (length n)) (n ++ rest) at e in
      let number = number-reads-at s (n ++ rest) at (length n) h (omega (arith, ok.few)) e in
      let w : name_of (n ++ rest) (length n) ≡ Whole =
      name-good (n ++ rest) (length n) (omega (arith, length-append n rest)) (λ j l. rw (get_or-append n rest 0 j l) (ok.shown j l)) in
      simp (number_in-range s at 1 longest_name (length n) start number ok.some ok.few, d, w)

  reads : (ns : List Name) (c : Colours) (at : ℕ) (rest : List ℕ) → Places s c → c.count + length ns ≤ most_colours → at ≤ length s
      → Fresh (names_in s c) ns → drop at s ≡ spell_names ns ++ rest → Got s c at ns (colours_from s c at (length ns))
  reads [] c at rest g h l f e = record { fine = refl; names = sym (append-nil (names_in s c)); next = omega arith }
  reads (n ∷ ns) c at rest g h l f e =
      let size = length (spell_number (length n)) in
      let start = at + size in
      let e' : drop at s ≡ spell_number (length n) ++ (n ++ (spell_names ns ++ rest)) = e ∙ simp append_assoc in
      let d : drop start s ≡ n ++ (spell_names ns ++ rest) = drop_past s (spell_number (length n)) (n ++ (spell_names ns ++ rest)) at e' in
      let in1 : start ≤ length s = past-inside s (spell_number (length n)) (n ++ (spell_names ns ++ rest)) at l e' in
      let in2 : start + length n ≤ length s = past-inside s n (spell_names ns ++ rest) start in1 d in
      let name : take (length n) (drop start s) ≡ n = ap (take (length n)) d ∙ take-append_seam n (spell_names ns ++ rest) in
      let room : c.count < most_colours = omega arith in
      let grown : names_in s (with_colour c start (length n)) ≡ names_in s c ++ (n ∷ []) =
      names-with s c start (length n) g room ∙ ap (λ (x : List ℕ). names_in s c ++ (x ∷ [])) name in
      let new : ltb (find_name s c (take (length n) (drop start s))) c.count ≡ false =
      le-ltb _ _ (absent-unfound s c (take (length n) (drop start s)) g.few (λ m. f.1 (mathlib.Core.List.Memᴰ.cast (sym name) m))) in
      let t = reads ns (with_colour c start (length n)) (start + length n) rest (places-with s c start (length n) g room in2) (omega arith) in2
      (subst (λ (b : List Name). Fresh b ns) (sym grown) f.2) (drop_past s n (spell_names ns ++ rest) start d) in
      simp (one-read at n (spell_names ns ++ rest) l f.0 e', new)
      (record {
        fine = t.fine;
        names = t.names ∙ (ap (λ (x : List Name). x ++ ns) grown ∙ append_assoc (names_in s c) (n ∷ []) ns);
        next = omega (arith, t.next, length-append (spell_number (length n)) (n ++ spell_names ns), length-append n (spell_names ns));
      })

-- reading a spelling, whatever follows it, gives the names back and the place after them
pub record ReadsBack (s : List ℕ) (ns : List Name) (r : ColoursRead) : Type 0 where
  pub fine : r.fault ≡ fault 0 0
  pub names : names_in s r.colours ≡ ns
  pub next : r.next ≡ length (spell_colours ns)

pub colours-read-back : (ns : List Name) (rest : List ℕ) → ColoursOk ns → ReadsBack (spell_colours ns ++ rest) ns (colours_of (spell_colours ns ++ rest))
unfolding colours_of
colours-read-back ns rest ok =
    let s = spell_colours ns ++ rest in
    let e : drop 0 s ≡ spell_number (length ns) ++ (spell_names ns ++ rest) = append_assoc (spell_number (length ns)) (spell_names ns) rest in
    let number = number-reads-at s (spell_names ns ++ rest) 0 (length ns) (omega arith) (omega (arith, ok.few)) e in
    let d = drop_past s (spell_number (length ns)) (spell_names ns ++ rest) 0 e in
    let fresh = make-fresh [] ns ok.each ok.distinct (λ n m q. mathlib.Core.List.Memᴰ.not-nil q) in
    let inside = past-inside s (spell_number (length ns)) (spell_names ns ++ rest) 0 (omega arith) e in
    let t = reads s ns no_colours (0 + length (spell_number (length ns))) rest (places-none s) (omega (arith, ok.few)) inside fresh d in
    simp (number_in-range s 0 1 most_colours (length ns) _ number ok.some ok.few)
    (record { fine = t.fine; names = t.names; next = omega (arith, t.next, length-append (spell_number (length ns)) (spell_names ns)) })
