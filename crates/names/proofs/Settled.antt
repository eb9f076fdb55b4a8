-- Two outcomes that a contract allows are equal. Each line has the name of a public function and cites the very definition that the function's contract does, so that
-- theorem and contract say one thing: most contracts are an equation with one definition of what was lent.
use Prim.Native.Nat.{ℕ, ◌<◌, ◌+◌}
use mathlib.Core.Path.{◌≡◌, sym, ap, ◌∙◌}
use mathlib.Core.List.{List}
use lib.ListN.{length, take, drop, replicate}
use denote.Ref.{Bor}
use Rattle.std.specs.Prelude.{Option, Result, IfOk, IfSome, OnErr}
use Rattle.names.specs.Pick.{fault}
use Rattle.names.specs.Fault.{Fault, number_of, told_numbered}
use Rattle.names.specs.Read.{Read}
use Rattle.names.specs.ColourRead.{ColourRead}
use Rattle.names.specs.Told.{told, told_by_number, told_name, told_colours, told_list, told_found, told_end}
use Rattle.names.specs.Number.{number_at, number_in, number_below, spell_number}
use Rattle.names.specs.Name.{name_of, same_name}
use Rattle.names.specs.Put.{Puts}
use Rattle.names.specs.Part.{Part, tail_start}
use Rattle.names.specs.Colours.{find_name, no_colours, colours_of, ListInto}
use Rattle.names.specs.declared.colours.Colours.{Colours}
use Rattle.names.specs.declared.colours.ColourList.{ColourList}
use Rattle.names.specs.declared.colours.Listed.{Listed}
use Rattle.names.specs.declared.fault.Fault.{Fault as CodeFault}
use Rattle.names.specs.declared.fault.Refusal.{Refusal}
use Rattle.names.specs.declared.numbered.Numbered.{Numbered}
use Rattle.names.specs.declared.reader.Reader.{Reader}
use Rattle.names.specs.declared.reader.Span.{Span}
use Rattle.names.proofs.Telling.{told-one, told_by_number-one, told_name-one, told_colours-one, told_list-one, told_end-one, told_found-one, told-place, told_by_number-place, name-place}
use Rattle.names.specs.ColoursRead.{ColoursRead, ListFigures}
use Rattle.names.proofs.ToldInParts.{told-rest}

-- what is equal to one thing is equal
pub settled : {A : Type 0} {x y z : A} → x ≡ z → y ≡ z → x ≡ y
settled p q = p ∙ sym q

-- a contract that is an equation with x allows one result
abbrev pub Settles : {A : Type 0} → A → Type 0
Settles {A} x = (r q : A) → r ≡ x → q ≡ x → r ≡ q

pub settles : {A : Type 0} (x : A) → Settles x
settles x r q = settled

-- a contract on the result and on what is left in a slice
abbrev pub SettlesBoth : {A : Type 0} → (A → List ℕ → Type 0) → Type 0
SettlesBoth {A} C = (r q : A) (x y : List ℕ) → C r x → C q y → (r ≡ q) × (x ≡ y)

-- a contract on the part of a slice that is returned: it lies at one place and holds the same bytes
abbrev pub SettlesPart : (Bor (List ℕ) → Type 0) → Type 0
SettlesPart C = (r q : Bor (List ℕ)) → C r → C q → (r.ref_ptr.0 ≡ q.ref_ptr.0) × (r.ref_ptr.1 ≡ q.ref_ptr.1) × (r.now ≡ q.now)

pub part-settles : (s : Bor (List ℕ)) (start : ℕ) (bytes : List ℕ) → SettlesPart (Part s start bytes)
part-settles s start bytes r q x y = (settled x.memory y.memory, settled x.offset y.offset, settled x.holds y.holds)

puts-settle : (out : List ℕ) (at : ℕ) (l : List ℕ) → SettlesBoth (Puts out at l)
puts-settle out at l r q x y a b = (settled a.0 b.0, settled a.1 b.1)

-- ── Numbers ──

pub fault-settled : (number place : ℕ) → Settles (fault number place)
fault-settled number place = settles _

pub read_number-settled : (s : List ℕ) (at : ℕ) → Settles (number_at s at)
read_number-settled s at = settles _

pub read_in-settled : (s : List ℕ) (at least most : ℕ) → Settles (number_in s at least most)
read_in-settled s at least most = settles _

pub read_below-settled : (s : List ℕ) (at count refusal : ℕ) → Settles (number_below s at count refusal)
read_below-settled s at count refusal = settles _

pub spelled_len-settled : (v : ℕ) → Settles (length (spell_number v))
spelled_len-settled v = settles _

pub write_number-settled : (out : List ℕ) (at v : ℕ) → SettlesBoth (Puts out at (spell_number v))
write_number-settled out at v = puts-settle out at (spell_number v)

-- ── Names ──

pub tail-settled : (s : Bor (List ℕ)) (at : ℕ) → SettlesPart (Part s (tail_start s.now at) (drop at s.now))
tail-settled s at = part-settles s _ _

pub front-settled : (s : Bor (List ℕ)) (len : ℕ) → SettlesPart (Part s 0 (take len s.now))
front-settled s len = part-settles s _ _

pub read_name-settled : (s : List ℕ) (len : ℕ) → Settles (name_of s len)
read_name-settled s len = settles _

pub same_name-settled : (a b : List ℕ) → Settles (same_name a b)
same_name-settled a b = settles _

pub copy_name-settled : (name : List ℕ) (out : List ℕ) (at : ℕ) → SettlesBoth (Puts out at name)
copy_name-settled name out at = puts-settle out at name

-- ── Colours ──

pub no_colours-settled : Settles no_colours
no_colours-settled = settles _

pub find_name-settled : (s : List ℕ) (c : Colours) (name : List ℕ) → Settles (find_name s c name)
find_name-settled s c name = settles _

pub read_colours-settled : (s : List ℕ) → Settles (colours_of s)
read_colours-settled s = settles _

pub read_list-settled : (s : List ℕ) (r q : ListFigures) (starts lens places sizes : List ℕ)
    → ListInto (colours_of s) r starts lens → ListInto (colours_of s) q places sizes → (r ≡ q) × (starts ≡ places) × (lens ≡ sizes)
read_list-settled s r q starts lens places sizes a b =
    (settled (told-rest a) (told-rest b), settled a.starts b.starts, settled a.lens b.lens)

-- ── Slices ──

pub clear-settled : (slice : List ℕ) → Settles (replicate {A = ℕ} (length slice) 0)
clear-settled slice = settles _

-- ── What the code gives ──

-- Where a contract has told .. of what the code gives, the clauses of the contract settle that too, and where the reader then stands.
pub refusal_number-settled : (r : Refusal) → Settles (number_of r)
refusal_number-settled r = settles _

pub refusal_at-settled : (r : Refusal) (place : ℕ) → Settles {A = CodeFault} (record { refusal = r; place = place })
refusal_at-settled r place = settles _

numbered-one : (f g : Numbered) → told_numbered f ≡ told_numbered g → f ≡ g
numbered-one f g e = ap (λ (x : Fault). of x) e
  where
    of : Fault → Numbered
    of x = record { number = x.number; place = x.place }

pub numbered-settled : (x : Fault) (f g : Numbered) → told_numbered f ≡ x → told_numbered g ≡ x → f ≡ g
numbered-settled x f g a b = numbered-one f g (settled a b)

pub reader_new-settled : (bytes : Bor (List ℕ)) (r q : Reader) → r.bytes ≡ bytes → r.at ≡ 0 → q.bytes ≡ bytes → q.at ≡ 0 → (r.bytes ≡ q.bytes) × (r.at ≡ q.at)
reader_new-settled bytes r q a b c d = (settled a c, settled b d)

-- numbers, however they are tested
pub reader_number-settled : (x : Read) (at : ℕ) (r q : Result ℕ CodeFault) (n m : ℕ)
    → told r n ≡ x → OnErr r (n ≡ at) → told q m ≡ x → OnErr q (m ≡ at) → (r ≡ q) × (n ≡ m)
reader_number-settled x at r q n m a stays b waits =
    (told-one r q n m (settled a b), told-place at r q n m stays waits (settled a b))

pub reader_by_number-settled : (x : Read) (at : ℕ) (r q : Result ℕ Numbered) (n m : ℕ)
    → told_by_number r n ≡ x → OnErr r (n ≡ at) → told_by_number q m ≡ x → OnErr q (m ≡ at) → (r ≡ q) × (n ≡ m)
reader_by_number-settled x at r q n m a stays b waits =
    (told_by_number-one r q n m (settled a b), told_by_number-place at r q n m stays waits (settled a b))

pub reader_name-settled : (x : ColourRead) (at : ℕ) (r q : Result Span CodeFault) (n m : ℕ)
    → told_name r ≡ x → IfOk r (λ name. n ≡ name.start + name.len) → OnErr r (n ≡ at)
    → told_name q ≡ x → IfOk q (λ name. m ≡ name.start + name.len) → OnErr q (m ≡ at) → (r ≡ q) × (n ≡ m)
reader_name-settled x at r q n m a after stays b behind waits =
    let same : r ≡ q = told_name-one r q (settled a b) in
    (same, name-place at r q n m after stays behind waits same)

pub reader_end-settled : (x : Fault) (r q : Result (Unit {0}) CodeFault) → told_end r ≡ x → told_end q ≡ x → r ≡ q
reader_end-settled x r q a b = told_end-one r q (settled a b)

pub found-settled : (count x : ℕ) (r q : Option ℕ)
    → told_found count r ≡ x → IfSome r (λ j. j < count) → told_found count q ≡ x → IfSome q (λ j. j < count) → r ≡ q
found-settled count x r q a below b under = told_found-one count r q below under (settled a b)

pub list-settled : (x : ListFigures) (r q : Result Listed CodeFault) → told_list r ≡ x → told_list q ≡ x → r ≡ q
list-settled x r q a b = told_list-one r q (settled a b)

pub colours-settled : (x : ColoursRead) (r q : Result ColourList CodeFault) → told_colours r ≡ x → told_colours q ≡ x → r ≡ q
colours-settled x r q a b = told_colours-one r q (settled a b)
