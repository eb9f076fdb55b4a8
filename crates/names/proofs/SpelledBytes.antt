-- A spelling is made of bytes, and has at most so many: each part is, and has, and a list has its parts' bytes one after the other.
use Prim.Native.Nat.{ℕ, zero, suc, ◌+◌, ◌*◌, ◌/◌, ◌%◌, ◌<◌, ◌≤◌}
use mathlib.Core.Path.{refl}
use mathlib.Core.Logic.{⊎_elim}
use mathlib.Core.List.{List, [], ◌∷◌, ◌++◌, Memᴰ}
use native.Mathlib.Omega.{arith}
use lib.ListN.{length, get_or, length-append, get_or-eq_default}
use Rattle.names.specs.Name.{Name}
use Rattle.names.specs.Number.{greatest_number, spell_number}
use Rattle.names.specs.Spelling.{longest_name, NameOk, ColoursOk, spell_names, spell_colours}
use Rattle.names.proofs.Tests.{lt-or-le}
use Rattle.names.specs.Bytes.{Bytes}
use Rattle.names.proofs.SpellingNumbers.{spell_one, spell-two, spell-three, spell-short}

-- at most so many, each a byte
pub record FewBytes (l : List ℕ) (most : ℕ) : Type 0 where
  pub few : length l ≤ most
  pub bytes : Bytes l

bytes-none : (i : ℕ) → get_or [] i 0 < 256
bytes-none i = omega arith

bytes-more : (x : ℕ) (l : List ℕ) → x < 256 → Bytes l → (i : ℕ) → get_or (x ∷ l) i 0 < 256
bytes-more x l h b zero = h
bytes-more x l h b (suc i) = b i

bytes-both : (a b : List ℕ) → Bytes a → Bytes b → (i : ℕ) → get_or (a ++ b) i 0 < 256
bytes-both [] b ha hb i = hb i
bytes-both (x ∷ a) b ha hb zero = ha zero
bytes-both (x ∷ a) b ha hb (suc i) = bytes-both a b (λ j. ha (suc j)) hb i

pub none-few : FewBytes [] 0
none-few = record { few = omega arith; bytes = bytes-none }

pub both-few : {a b : List ℕ} {m n : ℕ} → FewBytes a m → FewBytes b n → FewBytes (a ++ b) (m + n)
both-few {a} {b} h g = record { few = omega (arith, length-append a b, h.few, g.few); bytes = bytes-both a b h.bytes g.bytes }

pub fewer : {l : List ℕ} {m n : ℕ} → m ≤ n → FewBytes l m → FewBytes l n
fewer h g = record { few = omega (arith, g.few); bytes = g.bytes }

-- ── Numbers ──

pub number-one : (v : ℕ) → v < 128 → FewBytes (spell_number v) 1
number-one v h = record { few = omega (arith, spell-short v h); bytes = rw (spell_one v h) (bytes-more v [] (omega arith) bytes-none) }

pub number-two : (v : ℕ) → v < 16384 → FewBytes (spell_number v) 2
number-two v h =
    ⊎_elim (λ (l : v < 128). fewer (omega arith) (number-one v l))
    (λ (l : 128 ≤ v). rw (spell-two v l h) (record {
      few = omega arith;
      bytes = bytes-more (128 + v % 128) (v / 128 ∷ []) (omega arith) (bytes-more (v / 128) [] (omega arith) bytes-none);
    }))
    (lt-or-le v 128)

pub number-three : (v : ℕ) → v ≤ greatest_number → FewBytes (spell_number v) 3
number-three v h =
    ⊎_elim (λ (l : v < 16384). fewer (omega arith) (number-two v l))
    (λ (l : 16384 ≤ v). rw (spell-three v l h) (record {
      few = omega arith;
      bytes = bytes-more (128 + v % 128) ((128 + v / 128 % 128) ∷ v / 16384 ∷ []) (omega arith)
          (bytes-more (128 + v / 128 % 128) (v / 16384 ∷ []) (omega arith) (bytes-more (v / 16384) [] (omega arith) bytes-none));
    }))
    (lt-or-le v 16384)

-- ── Colours ──

name-few : (n : Name) → NameOk n → FewBytes n longest_name
name-few n ok =
    record {
      few = ok.few;
      bytes = λ i. ⊎_elim (λ (h : i < length n). omega (arith, (ok.shown i h).high)) (λ (h : length n ≤ i). omega (arith, get_or-eq_default n 0 h)) (lt-or-le i (length n));
    }

names-few : (ns : List Name) → ((n : Name) → Memᴰ n ns → NameOk n) → FewBytes (spell_names ns) ((1 + longest_name) * length ns)
names-few [] each = none-few
names-few (n ∷ ns) each =
    let ok = each n (Memᴰ.head refl) in
    fewer (omega arith) (both-few (number-one (length n) (omega (arith, ok.few))) (both-few (name-few n ok) (names-few ns (λ x m. each x (Memᴰ.tail m)))))

-- a colour list has at most 2,625 bytes
pub colours_few : (ns : List Name) → ColoursOk ns → FewBytes (spell_colours ns) 2625
colours_few ns ok = fewer (omega (arith, ok.few)) (both-few (number-one (length ns) (omega (arith, ok.few))) (names-few ns ok.each))
