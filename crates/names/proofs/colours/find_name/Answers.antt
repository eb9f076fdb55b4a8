-- The walk is over the colours that the list has, and its count is one that a list can have.
use Prim.Native.Nat.{◌≤◌}
use native.Mathlib.Omega.{arith}
use Rattle.names.specs.Spelling.{most_colours}
use Rattle.names.proofs.Count.{left-all}
use Rattle.names.proofs.Walks.{found-by-walk, walk-inside}
use Rattle.names.proofs.colours.find_name.Goals as goal

pub returns-clause-found : goal.returns-clause-found
returns-clause-found c =
    let a = c.args in
    let few : a.count ≤ most_colours = omega (arith, c.in_ok-get.ensures.lookup.0.1, c.told-starts) in
    rw (c.first_named.ensures, c.in_ok-get.ensures.lookup.0.2, c.in_ok-get-2.ensures.lookup.0.2, left-all a.count)
    (found-by-walk a.s.now a.count a.starts.now a.lens.now a.name.now few c.told-starts c.told-lens)

pub returns-clause-inside : goal.returns-clause-inside
returns-clause-inside c =
    let a = c.args in
    rw (c.first_named.ensures, c.in_ok-get.ensures.lookup.0.2, c.in_ok-get-2.ensures.lookup.0.2, left-all a.count)
    (walk-inside a.s.now a.count a.starts.now a.lens.now a.name.now c.in_ok-get.ensures.lookup.0.1)
