-- No motif beyond the last has a size and no card a size beyond it; else it is told in an array that has room for the sizes up to it.
use Prim.Native.Nat.{ℕ, ◌*◌, ◌≤◌, ◌<◌}
use mathlib.Core.Path.{◌≡◌, sym, ◌∙◌}
use mathlib.Core.Bool.{true}
use native.Mathlib.Nat.{mul-le-mul}
use native.Mathlib.Omega.{arith}
use borrow.Author.Tests.{lt-ltb, le-ltb}
use lib.ListN.{replicate, length-replicate}
use Rattle.names.proofs.Tests.{and-on, and-off}
use Rattle.books.specs.Keeps.{most_motifs}
use Rattle.books.specs.Press.{greatest_of}
use Rattle.books.specs.Size.{room, Within, within?}
use Rattle.books.proofs.Area.{within-room}
use Rattle.books.proofs.SizesWithin.{within-exactly}
use Rattle.sizes.specs.Table.{last_by, has_size_by}
use Rattle.sizes.proofs.AnyRoom.{last-alike}
use Rattle.sizes.proofs.one.has_size.Goals as goal
use Rattle.sizes.proofs.one.has_size.Goals.{Else-not-within, then-motif-ge-MOST_MOTIFS-via-then-motif-ge-MOST_MOTIFS, then-motif-ge-MOST_MOTIFS-via-else-motif-ge-MOST_MOTIFS+then-not-within}

on-card : (c : Else-not-within) → let z = c.args.size in within? (greatest_of c.args.press) z.rows z.cols ≡ true
on-card c = rw c.greatest.ensures at (sym c.within.ensures ∙ c.if-not-within.false)

place : (c : Else-not-within) → let z = c.args.size in Within (greatest_of c.args.press) z.rows z.cols
place c = (within-exactly _ _ _).0 (on-card c)

some : (c : Else-not-within) → 1 ≤ c.args.size.rows * c.args.size.cols
some c = mul-le-mul (place c).rows_some (place c).cols_some

few : (c : Else-not-within) → c.args.size.rows * c.args.size.cols ≤ room
few c = within-room c.args.press (place c)

-- what is told in an array that has room for so many sizes
told : (c : Else-not-within) (n : ℕ) → let a = c.args in a.size.rows * a.size.cols ≤ n →
    last_by a.masks.now a.joins a.motif a.size.cols (a.size.rows * a.size.cols) (replicate n 0)
    ≡ has_size_by a.press a.masks.now a.joins a.motif a.size.rows a.size.cols
unfolding has_size_by
told c n fits =
    let a = c.args in
    let low : a.motif < most_motifs = omega (arith, c.if-motif-ge-MOST_MOTIFS.false) in
    last-alike a.masks.now a.joins a.motif a.size.cols _ (replicate n 0) (replicate room 0) (place c).cols_some (some c)
    (omega (arith, fits, length-replicate {A = ℕ} n 0)) (omega (arith, few c))
    ∙ sym (and-on _ _ (lt-ltb a.motif most_motifs low) ∙ and-on _ _ (on-card c))

pub returns-then-motif-ge-MOST_MOTIFS : goal.returns-then-motif-ge-MOST_MOTIFS
unfolding has_size_by
returns-then-motif-ge-MOST_MOTIFS c =
    let a = c.args in
    elim c.then-motif-ge-MOST_MOTIFS.branch [
      | then-motif-ge-MOST_MOTIFS-via-then-motif-ge-MOST_MOTIFS w ↦ sym (and-off _ _ (le-ltb a.motif most_motifs (omega (arith, w.if-motif-ge-MOST_MOTIFS.true))))
      | then-motif-ge-MOST_MOTIFS-via-else-motif-ge-MOST_MOTIFS+then-not-within w ↦
          let low : a.motif < most_motifs = omega (arith, w.if-motif-ge-MOST_MOTIFS.false) in
          sym (and-on _ _ (lt-ltb a.motif most_motifs low) ∙ and-off _ _ (rw w.greatest.ensures at (sym w.within.ensures ∙ w.if-not-within.true)))
    ]

pub new-requires : goal.new-requires
new-requires c = omega (arith, place (goal.at.new-requires c).Else-not-within)

pub new-requires-else-end-le-FEW : goal.new-requires-else-end-le-FEW
new-requires-else-end-le-FEW c = omega (arith, place (goal.at.new-requires-else-end-le-FEW c).Else-not-within)

pub overflow_mul-end : goal.overflow_mul-end
overflow_mul-end c = omega (arith, few (goal.at.overflow_mul-end c).Else-not-within)

pub last_has-requires : goal.last_has-requires
last_has-requires c = (record { some = some (goal.at.last_has-requires c).Else-not-within; room = omega (arith, c.if-end-le-FEW.true) }, omega arith)

pub last_has-requires-else-end-le-FEW : goal.last_has-requires-else-end-le-FEW
last_has-requires-else-end-le-FEW c =
    let e = (goal.at.last_has-requires-else-end-le-FEW c).Else-not-within in
    (record { some = some e; room = few e }, omega arith)

pub returns-then-end-le-FEW : goal.returns-then-end-le-FEW
returns-then-end-le-FEW c =
    rw (c.new.ensures.masks, c.new.ensures.joins, c.new.ensures.cols) at c.last_has.ensures
    ∙ told (goal.at.returns-then-end-le-FEW c).Else-not-within 64 (omega (arith, c.if-end-le-FEW.true))

pub returns-else-end-le-FEW : goal.returns-else-end-le-FEW
returns-else-end-le-FEW c =
    let e = (goal.at.returns-else-end-le-FEW c).Else-not-within in
    rw (c.new-else-end-le-FEW.ensures.masks, c.new-else-end-le-FEW.ensures.joins, c.new-else-end-le-FEW.ensures.cols) at c.last_has-else-end-le-FEW.ensures ∙ told e room (few e)
