-- What is written of a tree, step by step: the two numbers of a node, and one list of numbers behind another.
use Prim.Native.Nat.{ℕ, ◌+◌, ◌≤◌}
use mathlib.Core.Path.{◌≡◌, refl, sym, ◌∙◌, ap}
use mathlib.Core.List.{List, [], ◌∷◌, ◌++◌, append_assoc}
use native.Mathlib.Nat.{zero-add}
use native.Mathlib.Numerals.{add-one}
use native.Mathlib.Omega.{arith}
use lib.ListN.{length, take, drop, set, length-append}
use lib.Seq.{take_at, drop-append-add, drop-drop, length-take-le, sets-eq}
use Rattle.pieces.specs.inner.TreeWrote.{TreeWrote}

-- xs written at a place
module _ (s : List ℕ) (at : ℕ) (xs : List ℕ) (h : at ≤ length s) where
  upto : length (take at s ++ xs) ≡ at + length xs
  upto = length-append (take at s) xs ∙ ap (λ (n : ℕ). n + length xs) (length-take-le at s h)

  split : take at s ++ (xs ++ drop (at + length xs) s) ≡ (take at s ++ xs) ++ drop (at + length xs) s
  split = sym (append_assoc (take at s) xs (drop (at + length xs) s))

  take-written : take (at + length xs) (take at s ++ (xs ++ drop (at + length xs) s)) ≡ take at s ++ xs
  take-written = rw split (take_at (take at s ++ xs) (drop (at + length xs) s) (at + length xs) upto)

  drop-written : (n : ℕ) → drop (at + length xs + n) (take at s ++ (xs ++ drop (at + length xs) s)) ≡ drop (at + length xs + n) s
  drop-written n =
      rw (split, ← upto) (drop-append-add (take at s ++ xs) (drop (length (take at s ++ xs)) s) n)
      ∙ drop-drop n (length (take at s ++ xs)) s
      ∙ ap (λ (k : ℕ). drop (k + n) s) upto

-- Two numbers are written at a place.
pub wrote-pair : (s : List ℕ) (at i k : ℕ) → at + 2 ≤ length s → TreeWrote s (set (set s at i) (at + 1) k) at (i ∷ k ∷ []) (at + 2)
wrote-pair s at i k h =
    record {
      next_is = refl;
      written = ap (λ (n : ℕ). set (set s at i) n k) (add-one at) ∙ sets-eq (i ∷ k ∷ []) s at h ∙ append_assoc (take at s) (i ∷ k ∷ []) (drop (at + 2) s);
    }

-- One list of numbers is written, and then another behind it.
pub wrote_on : {s t u : List ℕ} {at next end : ℕ} {xs ys : List ℕ} → at + length xs ≤ length s → TreeWrote s t at xs next → TreeWrote t u next ys end
    → TreeWrote s u at (xs ++ ys) end
wrote_on {s} {t} {u} {at} {next} {end} {xs} {ys} h a w =
    let long : at + length (xs ++ ys) ≡ at + length xs + length ys = omega (arith, length-append xs ys) in
    let after : u ≡ take (at + length xs) t ++ (ys ++ drop (at + length xs + length ys) t) = rw a.next_is at w.written in
    let behind : u ≡ (take at s ++ xs) ++ (ys ++ drop (at + length xs + length ys) s) =
    rw (a.written, take-written s at xs (omega arith), drop-written s at xs (omega arith) (length ys)) at after in
    record { next_is = rw (long, ← a.next_is) w.next_is; written = rw long (behind ∙ simp append_assoc) }

-- What is written at the start of a slice stands first in it.
pub wrote-first : {s t xs : List ℕ} {end : ℕ} → TreeWrote s t 0 xs end → t ≡ xs ++ drop (length xs) s
wrote-first {xs = xs} w = rw (zero-add (length xs)) at w.written
