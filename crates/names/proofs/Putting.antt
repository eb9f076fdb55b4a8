-- Bytes written at a place: where they fit the slice keeps its length and all else, and two writings in a row are one.
use Prim.Native.Nat.{ℕ, ◌+◌, ◌<◌, ◌≤◌}
use mathlib.Core.Path.{◌≡◌, refl, sym, ap, ◌∙◌}
use mathlib.Core.List.{List, [], ◌++◌, append_assoc}
use native.Mathlib.Omega.{arith}
use borrow.Author.Tests.{le-leb, lt-leb, leb-true}
use lib.Dec.{leb}
use lib.ListN.{length, take, drop, length-append, length-drop}
use lib.Seq.{sets-eq, length-take-le, take_at, drop_at, drop-drop}
use Rattle.names.specs.Put.{put, past}
use Rattle.names.proofs.Picking.{pick_ind}

module _ (out : List ℕ) (at : ℕ) (l : List ℕ) where
  pub put_in : at + length l ≤ length out → put out at l ≡ take at out ++ l ++ drop (at + length l) out
  unfolding put
  put_in h = simp (le-leb _ _ h)

  pub past-in : at + length l ≤ length out → past out at l ≡ at + length l
  unfolding past
  past-in h = simp (le-leb _ _ h)

  pub put-out : length out < at + length l → put out at l ≡ out
  unfolding put
  put-out h = simp (lt-leb _ _ h)

  pub past-out : length out < at + length l → past out at l ≡ at
  unfolding past
  past-out h = simp (lt-leb _ _ h)

  in-length : at + length l ≤ length out → length (take at out ++ l ++ drop (at + length l) out) ≡ length out
  in-length h =
      omega (arith, length-append (take at out ++ l) (drop (at + length l) out), length-append (take at out) l, length-take-le at out (omega arith), length-drop (at + length l) out)

  pub put-length : length (put out at l) ≡ length out
  unfolding put
  put-length = pick_ind (λ (x : List ℕ). length x ≡ length out) (leb (at + length l) (length out)) _ _ (λ t. in-length (leb-true _ _ t)) (λ _. refl)

-- nothing written changes nothing
pub put-nil : (out : List ℕ) (at : ℕ) → put out at [] ≡ out
unfolding put
put-nil out at =
    pick_ind (λ (x : List ℕ). x ≡ out) (leb (at + 0) (length out)) _ _
    (λ t. sym (sets-eq [] out at (leb-true _ _ t))) (λ _. refl)

pub past-nil : (out : List ℕ) (at : ℕ) → past out at [] ≡ at
unfolding past
past-nil out at = pick_ind (λ (x : ℕ). x ≡ at) (leb (at + 0) (length out)) _ _ (λ _. omega arith) (λ _. refl)

pub ruleset nothing_put = (put-nil, past-nil)

-- what is written after what was written is written with it
pub put-put : (out : List ℕ) (at : ℕ) (a b : List ℕ) → at + (length a + length b) ≤ length out → put (put out at a) (at + length a) b ≡ put out at (a ++ b)
put-put out at a b h =
    let ha : at + length a ≤ length out = omega arith in
    let len : length (put out at a) ≡ length out = put-length out at a in
    let whole : at + length (a ++ b) ≡ at + length a + length b = omega (arith, length-append a b) in
    let head : length (take at out ++ a) ≡ at + length a = omega (arith, length-append (take at out) a, length-take-le at out (omega arith)) in
    let front : take (at + length a) (put out at a) ≡ take at out ++ a =
    ap (take (at + length a)) (put_in out at a ha) ∙ take_at (take at out ++ a) (drop (at + length a) out) (at + length a) head in
    let back : drop (at + length a + length b) (put out at a) ≡ drop (at + length a + length b) out =
    sym (drop-drop (length b) (at + length a) (put out at a))
    ∙ (ap (drop (length b)) (ap (drop (at + length a)) (put_in out at a ha) ∙ drop_at (take at out ++ a) (drop (at + length a) out) (at + length a) head)
    ∙ drop-drop (length b) (at + length a) out) in
    rw (put_in (put out at a) (at + length a) b (omega arith), put_in out at (a ++ b) (omega arith), front, back, whole) (simp append_assoc)
