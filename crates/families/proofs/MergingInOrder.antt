-- The merged list is built name by name: a name of the second list that the first holds changes nothing, and any other stands at the end of what was
-- merged before it, and keeps that number.
use Prim.Native.Nat.{ℕ, suc, ◌<◌}
use mathlib.Core.Path.{◌≡◌, refl, sym, ◌∙◌, ap}
use mathlib.Core.Bool.{Bool, true, false}
use mathlib.Core.List.{List, [], ◌∷◌, ◌++◌, append_assoc, append-nil}
use mathlib.Core.Logic.{⊎_elim}
use native.Mathlib.Omega.{arith}
use lib.ListN.{length, get_or, take, drop, length-append}
use lib.Seq.{take-suc, split_at, get_or-append_seam}
use Rattle.names.specs.Pick.{pick}
use Rattle.names.specs.Name.{Name, listed}
use Rattle.names.specs.Spelling.{Distinct}
use Rattle.names.proofs.Tests.{true-or-false}
use Rattle.names.proofs.Listing.{listed-test, listed-first, listed-own}
use Rattle.families.specs.Merged.{holds, without, merged}
use Rattle.families.proofs.Merging.{merged-distinct}

-- The test of one name decides whether it is left.
without-next : (xs ys : List Name) (y : Name) {t : Bool} → holds xs y ≡ t → without xs (y ∷ ys) ≡ pick t (without xs ys) (y ∷ without xs ys)
unfolding without
without-next xs ys y e = ap (λ (t : Bool). pick t (without xs ys) (y ∷ without xs ys)) e

without-append : (xs ys zs : List Name) → without xs (ys ++ zs) ≡ without xs ys ++ without xs zs
without-append xs [] zs = unfold without in refl
without-append xs (y ∷ ys) zs =
    let rest = without-append xs ys zs in
    ⊎_elim
    (λ (e : holds xs y ≡ true). simp (without-next xs (ys ++ zs) y e, without-next xs ys y e, rest))
    (λ (e : holds xs y ≡ false). simp (without-next xs (ys ++ zs) y e, without-next xs ys y e, rest))
    (true-or-false (holds xs y))

pub merged-nil : (xs : List Name) → merged xs [] ≡ xs
unfolding merged without
merged-nil xs = append-nil xs

pub merged-append : (xs ys zs : List Name) → merged xs (ys ++ zs) ≡ merged xs ys ++ without xs zs
unfolding merged
merged-append xs ys zs = ap (λ (l : List Name). xs ++ l) (without-append xs ys zs) ∙ sym (append_assoc xs (without xs ys) (without xs zs))

-- One name more of the second list.
pub merged-next : (xs ys : List Name) (i : ℕ) → i < length ys → {t : Bool} → holds xs (get_or ys i []) ≡ t
    → merged xs (take (suc i) ys) ≡ merged xs (take i ys) ++ pick t [] (get_or ys i [] ∷ [])
unfolding without
merged-next xs ys i h e =
    ap (merged xs) (take-suc ys i [] h)
    ∙ merged-append xs (take i ys) (get_or ys i [] ∷ [])
    ∙ ap (λ (l : List Name). merged xs (take i ys) ++ l) (without-next xs [] (get_or ys i []) e)

-- The number of a name in the merged list: its number in the first list, where that holds it, ...
pub number-held : (xs ys : List Name) (n : Name) → holds xs n ≡ true → listed (merged xs ys) n ≡ listed xs n
unfolding merged
number-held xs ys n e = listed-first xs (without xs ys) n ((listed-test xs n).0 e)

-- ... and else the count of what was merged before it, since no name stands twice.
pub number-new : (xs ys : List Name) (i : ℕ) → Distinct xs → Distinct ys → i < length ys → holds xs (get_or ys i []) ≡ false
    → listed (merged xs ys) (get_or ys i []) ≡ length (merged xs (take i ys))
number-new xs ys i dx dy h e =
    let y : Name = get_or ys i [] in
    let after : List Name = drop (suc i) ys in
    let before : List Name = merged xs (take i ys) in
    let whole : merged xs ys ≡ before ++ (y ∷ without xs after) =
    ap (merged xs) (split_at ys i [] h) ∙ merged-append xs (take i ys) (y ∷ after) ∙ ap (λ (l : List Name). before ++ l) (without-next xs after y e) in
    let there : get_or (merged xs ys) (length before) [] ≡ y =
    ap (λ (l : List Name). get_or l (length before) []) whole ∙ get_or-append_seam before y (without xs after) [] in
    let inside : length before < length (merged xs ys) = omega (arith, ap length whole, length-append before (y ∷ without xs after)) in
    ap (listed (merged xs ys)) (sym there) ∙ listed-own (merged xs ys) (length before) (merged-distinct xs ys dx dy) inside
