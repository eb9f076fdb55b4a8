-- The longest colour list has 2,625 bytes: its count, and 64 names of 40 bytes, each with a length of one byte before it.
use Prim.Native.Nat.{ℕ, zero, suc, ◌+◌, ◌*◌, ◌<◌, ◌≤◌}
use mathlib.Core.Path.{◌≡◌, refl}
use mathlib.Core.List.Memᴰ
use mathlib.Core.List.{List, [], ◌∷◌, ◌++◌, Memᴰ}
use mathlib.Core.Logic.{⊎_elim}
use native.Mathlib.Omega.{arith}
use lib.ListN.{length, get_or, replicate, length-append, get_or-replicate}
use lib.Dec.{eqb}
use Rattle.names.specs.Name.{Name, least_byte, Shown}
use Rattle.names.specs.Number.{spell_number}
use Rattle.names.specs.Spelling.{NameOk, Distinct, ColoursOk, spell_names, spell_colours}
use Rattle.names.proofs.Picking.{pick_ind}
use Rattle.names.proofs.SpellingNumbers.{spell-short}
use Rattle.names.proofs.SpelledBytes.{colours_few}

pub colours-longest : (ns : List Name) → ColoursOk ns → length (spell_colours ns) ≤ 2625
colours-longest ns ok = (colours_few ns ok).few

-- ── One is as long ──

-- a name of 40 bytes, and so many of them, which differ in the first byte
abbrev ink : ℕ → Name
ink b = b ∷ replicate 39 65

abbrev inks : ℕ → ℕ → List Name
inks b zero = []
inks b (suc k) = ink b ∷ inks (suc b) k

-- no byte of a name need be more than 33
least-low : (len i : ℕ) → least_byte len i ≤ 33
unfolding least_byte
least-low len i =
    pick_ind (λ (x : ℕ). x ≤ 33) (eqb i 0) 33 _ (λ _. omega arith)
    (λ _. pick_ind (λ (x : ℕ). x ≤ 33) (eqb (i + 1) len) 33 32 (λ _. omega arith) (λ _. omega arith))

ink-ok : (b : ℕ) → 33 ≤ b → b ≤ 126 → NameOk (ink b)
ink-ok b l h = record { some = omega arith; few = omega arith; shown = shown }
  where
    shown : (i : ℕ) → i < 40 → Shown 40 i (get_or (ink b) i 0)
    shown zero p = record { low = omega (arith, least-low 40 0); high = h }
    shown (suc i) p = let e = get_or-replicate {A = ℕ} 39 i 65 0 (omega arith) in record { low = omega (arith, least-low 40 (suc i)); high = omega arith }

inks-each : (k b : ℕ) → 33 ≤ b → b + k ≤ 127 → (n : Name) → Memᴰ n (inks b k) → NameOk n × (b ≤ get_or n 0 0)
inks-each zero b l h n m = absurd (Memᴰ.not-nil m)
inks-each (suc k) b l h n m =
    ⊎_elim
    (λ e. rw e (ink-ok b l (omega arith), omega arith))
    (λ t. let (ok, first) = inks-each k (suc b) (omega arith) (omega arith) n t in (ok, omega arith))
    (Memᴰ.cases_cons m)

inks-distinct : (k b : ℕ) → 33 ≤ b → b + k ≤ 127 → Distinct (inks b k)
inks-distinct zero b l h = tt
inks-distinct (suc k) b l h =
    (λ m. omega (arith, (inks-each k (suc b) (omega arith) (omega arith) (ink b) m).1), inks-distinct k (suc b) (omega arith) (omega arith))

pub longest_names : List Name
longest_names = inks 33 64

pub longest-names : ColoursOk longest_names
unfolding longest_names
longest-names =
    record {
      some = omega arith;
      few = omega arith;
      each = λ n m. (inks-each 64 33 (omega arith) (omega arith) n m).0;
      distinct = inks-distinct 64 33 (omega arith) (omega arith);
    }

inks-length : (k b : ℕ) → length (spell_names (inks b k)) ≡ 41 * k
inks-length zero b = refl
inks-length (suc k) b =
    omega (arith, length-append (spell_number 40) (ink b ++ spell_names (inks (suc b) k)), length-append (ink b) (spell_names (inks (suc b) k)), spell-short 40 (omega arith), inks-length k (suc b))

pub longest-length : length (spell_colours longest_names) ≡ 2625
unfolding longest_names
longest-length = omega (arith, length-append (spell_number 64) (spell_names (inks 33 64)), spell-short 64 (omega arith), inks-length 64 33)
