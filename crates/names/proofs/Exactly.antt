-- Each answer is given exactly when its row says: reading a number or a name ends in one of the ways of `Reads`, and whatever ends in that way is
-- what reading finds, since the tests on the bytes shut each other out.
use Prim.Native.Nat.{ℕ, zero, suc, ◌+◌, ◌%◌, ◌<◌, ◌≤◌}
use mathlib.Core.Path.{◌≡◌, refl, sym, ◌∙◌, ap, subst}
use mathlib.Core.List.{List}
use mathlib.Core.Logic.{◌↔◌, inl, inr, ⊎_elim}
use native.Mathlib.Omega.{arith}
use borrow.Author.Tests.{ltb-true, ltb-false, leb-true, leb-false, eqb-true, eqb-false, lt-ltb, le-ltb, lt-leb, le-leb, eq-eqb, ne_eqb}
use borrow.Author.Count.{below_none, below_more}
use lib.ListN.{length, get_or}
use lib.Dec.{ltb, leb, eqb}
use Rattle.names.specs.Number.{last_group, longer_at, number_at, number_in, number_below}
use Rattle.names.specs.Name.{least_byte, Shown, name_from, name_of}
use Rattle.names.specs.Reads.{Reads, nothing_there, ends_after_one, ends_after_two, second_zero, third_misspelt, one_byte, two_bytes, three_bytes, ReadsIn, in_range, out_of_range, no_number}
use Rattle.names.specs.Reads.{ReadsBelow, below_count, not_below, none_below, AllShown, ReadsName, whole, ends, bad}
use Rattle.names.specs.Read.{Read}
use Rattle.names.specs.Read.{Value, Refused}
use Rattle.names.specs.NameRead.{NameRead}
use Rattle.names.specs.NameRead.{Bad}
use Rattle.names.proofs.Picking.{pick_ind}
use Rattle.names.proofs.Tests.{lt-or-le}

-- ── Numbers ──

reads : (s : List ℕ) (at : ℕ) → Reads s at (number_at s at)
unfolding number_at longer_at last_group
reads s at =
    pick_ind (Reads s at) (leb (length s) at) _ _ (λ a. nothing_there (leb-true _ _ a) refl)
    (λ a. pick_ind (Reads s at) (ltb (get_or s at 0) 128) _ _ (λ b. one_byte (leb-false _ _ a) (ltb-true _ _ b) refl)
    (λ b. pick_ind (Reads s at) (leb (length s) (at + 1)) _ _
    (λ d. ends_after_one (omega (arith, leb-false (length s) at a, leb-true (length s) (at + 1) d)) (ltb-false _ _ b) refl)
    (λ d. pick_ind (Reads s at) (ltb (get_or s (at + 1) 0) 128) _ _
    (λ f. pick_ind (Reads s at) (eqb (get_or s (at + 1) 0) 0) _ _
    (λ e. second_zero (leb-false _ _ d) (ltb-false _ _ b) (eqb-true _ _ e) refl)
    (λ e. two_bytes (leb-false _ _ d) (ltb-false _ _ b) (omega (arith, eqb-false (get_or s (at + 1) 0) 0 e)) (ltb-true _ _ f) refl))
    (λ f. pick_ind (Reads s at) (leb (length s) (at + 2)) _ _
    (λ g. ends_after_two (omega (arith, leb-false (length s) (at + 1) d, leb-true (length s) (at + 2) g)) (ltb-false _ _ b) (ltb-false _ _ f) refl)
    (λ g. pick_ind (Reads s at) (ltb (get_or s (at + 2) 0) 128) _ _
    (λ h. pick_ind (Reads s at) (eqb (get_or s (at + 2) 0) 0) _ _
    (λ e. third_misspelt (leb-false _ _ g) (ltb-false _ _ b) (ltb-false _ _ f) (inl (eqb-true _ _ e)) refl)
    (λ e. three_bytes (leb-false _ _ g) (ltb-false _ _ b) (ltb-false _ _ f) (omega (arith, eqb-false (get_or s (at + 2) 0) 0 e)) (ltb-true _ _ h) refl))
    (λ h. third_misspelt (leb-false _ _ g) (ltb-false _ _ b) (ltb-false _ _ f) (inr (ltb-false _ _ h)) refl))))))

-- a first group that is not the last leaves the number to those after it
longer : (s : List ℕ) (at : ℕ) → at < length s → 128 ≤ get_or s at 0 → number_at s at ≡ longer_at s at (get_or s at 0 % 128)
unfolding number_at
longer s at h b = simp (lt-leb (length s) at h, le-ltb (get_or s at 0) 128 b)

reads-is : (s : List ℕ) (at : ℕ) (r : Read) → Reads s at r → number_at s at ≡ r
unfolding number_at longer_at last_group
reads-is s at r (nothing_there h e) = simp (le-leb (length s) at h) (sym e)
reads-is s at r (ends_after_one h b e) =
    let last : length s ≤ at + 1 = omega arith in
    longer s at (omega arith) b ∙ simp (le-leb (length s) (at + 1) last) (sym e)
reads-is s at r (ends_after_two h b m e) =
    let two : at + 1 < length s = omega arith in
    let last : length s ≤ at + 2 = omega arith in
    longer s at (omega arith) b ∙ simp (lt-leb (length s) (at + 1) two, le-ltb (get_or s (at + 1) 0) 128 m, le-leb (length s) (at + 2) last) (sym e)
reads-is s at r (second_zero h b z e) =
    let low : get_or s (at + 1) 0 < 128 = omega arith in
    longer s at (omega arith) b ∙ simp (lt-leb (length s) (at + 1) h, lt-ltb (get_or s (at + 1) 0) 128 low, eq-eqb (get_or s (at + 1) 0) 0 z) (sym e)
reads-is s at r (third_misspelt h b m t e) =
    let two : at + 1 < length s = omega arith in
    longer s at (omega arith) b
    ∙ simp (lt-leb (length s) (at + 1) two, le-ltb (get_or s (at + 1) 0) 128 m, lt-leb (length s) (at + 2) h)
    (⊎_elim
    (λ (z : get_or s (at + 2) 0 ≡ 0). let low : get_or s (at + 2) 0 < 128 = omega arith in
    simp (lt-ltb (get_or s (at + 2) 0) 128 low, eq-eqb (get_or s (at + 2) 0) 0 z) (sym e))
    (λ z. simp (le-ltb (get_or s (at + 2) 0) 128 z) (sym e))
    t)
reads-is s at r (one_byte h b e) = simp (lt-leb (length s) at h, lt-ltb (get_or s at 0) 128 b) (sym e)
reads-is s at r (two_bytes h b l m e) =
    longer s at (omega arith) b
    ∙ simp (lt-leb (length s) (at + 1) h, lt-ltb (get_or s (at + 1) 0) 128 m, ne_eqb (get_or s (at + 1) 0) 0 (λ q. omega arith)) (sym e)
reads-is s at r (three_bytes h b m l t e) =
    let two : at + 1 < length s = omega arith in
    longer s at (omega arith) b
    ∙ simp (
      lt-leb (length s) (at + 1) two,
      le-ltb (get_or s (at + 1) 0) 128 m,
      lt-leb (length s) (at + 2) h,
      lt-ltb (get_or s (at + 2) 0) 128 t,
      ne_eqb (get_or s (at + 2) 0) 0 (λ q. omega arith),
    ) (sym e)

pub number-exactly : (s : List ℕ) (at : ℕ) (r : Read) → (number_at s at ≡ r) ↔ Reads s at r
number-exactly s at r = (λ e. subst (Reads s at) e (reads s at), reads-is s at r)

-- ── Numbers of a field ──

ranged : (s : List ℕ) (at least most : ℕ) (n : Read) → number_at s at ≡ n → ReadsIn s at least most (number_in s at least most)
unfolding number_in
ranged s at least most (Refused f) e = rw e (no_number f ((number-exactly s at _).0 e) refl)
ranged s at least most (Value v next) e =
    let there = (number-exactly s at _).0 e in
    rw e
    (pick_ind (ReadsIn s at least most) (ltb v least) _ _ (λ a. out_of_range v next there (inl (ltb-true _ _ a)) refl)
    (λ a. pick_ind (ReadsIn s at least most) (ltb most v) _ _ (λ b. out_of_range v next there (inr (ltb-true _ _ b)) refl)
    (λ b. in_range v next there (ltb-false _ _ a) (ltb-false _ _ b) refl)))

ranged-is : (s : List ℕ) (at least most : ℕ) (r : Read) → ReadsIn s at least most r → number_in s at least most ≡ r
unfolding number_in
ranged-is s at least most r (in_range v next h l m e) = simp (reads-is s at _ h, le-ltb v least l, le-ltb most v m) (sym e)
ranged-is s at least most r (out_of_range v next h out e) =
    simp (reads-is s at _ h)
    (⊎_elim
    (λ l. simp (lt-ltb v least l) (sym e))
    (λ m. pick_ind (λ (x : Read). x ≡ r) (ltb v least) _ _ (λ _. sym e) (λ _. simp (lt-ltb most v m) (sym e)))
    out)
ranged-is s at least most r (no_number f h e) = simp (reads-is s at _ h) (sym e)

pub number_in-exactly : (s : List ℕ) (at least most : ℕ) (r : Read) → (number_in s at least most ≡ r) ↔ ReadsIn s at least most r
number_in-exactly s at least most r =
    (λ e. subst (ReadsIn s at least most) e (ranged s at least most _ refl), ranged-is s at least most r)

counted : (s : List ℕ) (at count refusal : ℕ) (n : Read) → number_at s at ≡ n → ReadsBelow s at count refusal (number_below s at count refusal)
unfolding number_below
counted s at count refusal (Refused f) e = rw e (none_below f ((number-exactly s at _).0 e) refl)
counted s at count refusal (Value v next) e =
    let there = (number-exactly s at _).0 e in
    rw e
    (pick_ind (ReadsBelow s at count refusal) (ltb v count) _ _ (λ a. below_count v next there (ltb-true _ _ a) refl)
    (λ a. not_below v next there (ltb-false _ _ a) refl))

counted_is : (s : List ℕ) (at count refusal : ℕ) (r : Read) → ReadsBelow s at count refusal r → number_below s at count refusal ≡ r
unfolding number_below
counted_is s at count refusal r (below_count v next h l e) = simp (reads-is s at _ h, lt-ltb v count l) (sym e)
counted_is s at count refusal r (not_below v next h l e) = simp (reads-is s at _ h, le-ltb v count l) (sym e)
counted_is s at count refusal r (none_below f h e) = simp (reads-is s at _ h) (sym e)

pub number_below-exactly : (s : List ℕ) (at count refusal : ℕ) (r : Read) → (number_below s at count refusal ≡ r) ↔ ReadsBelow s at count refusal r
number_below-exactly s at count refusal r =
    (λ e. subst (ReadsBelow s at count refusal) e (counted s at count refusal _ refl), counted_is s at count refusal r)

-- ── Names ──

named-from : (s : List ℕ) (i len k : ℕ) → i + k ≡ len → i ≤ length s → AllShown s len i → ReadsName s len (name_from s len i k)
named-from s i len zero p h g = whole (omega arith) (λ j l. g j (omega arith)) refl
named-from s i len (suc k) p h g =
    pick_ind (ReadsName s len) (leb (length s) i) _ _
    (λ a. let end = leb-true (length s) i a in ends (omega arith) (λ j l. g j (omega arith)) refl)
    (λ a. pick_ind (ReadsName s len) (ltb (get_or s i 0) (least_byte len i)) _ _
    (λ b. bad i (omega arith) (leb-false _ _ a) g (λ t. let low = ltb-true (get_or s i 0) (least_byte len i) b in omega (arith, t.low)) refl)
    (λ b. pick_ind (ReadsName s len) (ltb 126 (get_or s i 0)) _ _
    (λ d. bad i (omega arith) (leb-false _ _ a) g (λ t. let high = ltb-true 126 (get_or s i 0) d in omega (arith, t.high)) refl)
    (λ d. named-from s (i + 1) len k (omega arith) (omega (arith, leb-false (length s) i a))
    (below_more (λ (j : ℕ). Shown len j (get_or s j 0)) i g (record { low = ltb-false _ _ b; high = ltb-false _ _ d })))))

named : (s : List ℕ) (len : ℕ) → ReadsName s len (name_of s len)
unfolding name_of
named s len = named-from s 0 len len (omega arith) (omega arith) (below_none (λ (j : ℕ). Shown len j (get_or s j 0)))

-- the first byte that may not stand in a name is one byte
first-bad : (s : List ℕ) (len k j : ℕ) → AllShown s len k → (Shown len k (get_or s k 0) → ⊥) → AllShown s len j → (Shown len j (get_or s j 0) → ⊥) → k ≡ j
first-bad s len k j ak nk aj nj =
    ⊎_elim (λ (h : k < j). absurd (nk (aj k h)))
    (λ (h : j ≤ k). ⊎_elim (λ (g : j < k). absurd (nj (ak j g))) (λ (g : k ≤ j). omega arith) (lt-or-le j k))
    (lt-or-le k j)

name-one : (s : List ℕ) (len : ℕ) (r q : NameRead) → ReadsName s len r → ReadsName s len q → r ≡ q
name-one s len r q (whole h all e) (whole g _ f) = e ∙ sym f
name-one s len r q (whole h all e) (ends g _ f) = absurd (omega arith)
name-one s len r q (whole h all e) (bad k l i _ not f) = absurd (not (all k l))
name-one s len r q (ends h all e) (whole g _ f) = absurd (omega arith)
name-one s len r q (ends h all e) (ends g _ f) = e ∙ sym f
name-one s len r q (ends h all e) (bad k l i _ not f) = absurd (not (all k i))
name-one s len r q (bad k l i _ not e) (whole g all f) = absurd (not (all k l))
name-one s len r q (bad k l i _ not e) (ends g all f) = absurd (not (all k i))
name-one s len r q (bad k l i all not e) (bad j m n each nor f) = e ∙ ap Bad (first-bad s len k j all not each nor) ∙ sym f

pub name-exactly : (s : List ℕ) (len : ℕ) (r : NameRead) → (name_of s len ≡ r) ↔ ReadsName s len r
name-exactly s len r = (λ e. subst (ReadsName s len) e (named s len), λ h. name-one s len _ r (named s len) h)
