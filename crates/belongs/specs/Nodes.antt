-- How many nodes the derivation of a sheet of press 0 has: one for each cell, and one for each join of two parts; a refused sheet has none.
use Rattle.std.specs.Prelude.{ℕ, ◌*◌, ◌-◌, List}
use Rattle.books.specs.Calls.{size_of}

abbrev pub nodes_of : List ℕ → ℕ
nodes_of s = 2 * ((size_of 0 s).rows * (size_of 0 s).cols) - 1
