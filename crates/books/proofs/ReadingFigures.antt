-- What callers use of the figures of a book: the motif count, the start motif and the rule count keep their ranges, lie within the input,
-- and stand there as they are spelled; a refusal names what it blames.
use Prim.Native.Nat.{ℕ, ◌+◌, ◌<◌, ◌≤◌}
use mathlib.Core.Path.{◌≡◌, subst}
use mathlib.Core.List.{List, ◌++◌}
use native.Mathlib.Omega.{arith}
use lib.ListN.{length}
use Rattle.names.specs.Number.{number_in, number_below, spell_number}
use Rattle.names.specs.Fault.{Fault}
use Rattle.names.proofs.Onwards.{onward-ind}
use Rattle.names.proofs.ReadingNumbers.{Blamed, blamed-later, number_in_lem, number_in-refused, number_below_lem, number_below-refused}
use Rattle.names.specs.Bytes.{Bytes}
use Rattle.books.specs.Book.{figures_at}
use Rattle.books.specs.Keeps.{most_motifs, most_rules}
use Rattle.books.specs.BookRead.{Figures, FiguresRead, Whole, Refused}
use Rattle.books.proofs.StandingNumbers.{Between, in-spelled, below-spelled, between-both}

-- the figures keep their ranges, end within the input, and stand there as they are spelled
pub record FiguresLie (s : List ℕ) (at : ℕ) (g : Figures) (next : ℕ) : Type 0 where
  pub motifs_some : 1 ≤ g.motifs
  pub motifs_few : g.motifs ≤ most_motifs
  pub start_fits : g.start < g.motifs
  pub rules_some : 1 ≤ g.count
  pub rules_few : g.count ≤ most_rules
  pub inside : next ≤ length s
  pub near : next ≤ at + 9
  pub spelled : Bytes s → Between s at next (spell_number g.motifs ++ (spell_number g.start ++ spell_number g.count))

abbrev FiguresFound : List ℕ → ℕ → FiguresRead → Type 0
FiguresFound s at (Whole g next) = FiguresLie s at g next
FiguresFound s at (Refused f) = Blamed s (at + 9) f

figures-found : (s : List ℕ) (at : ℕ) → FiguresFound s at (figures_at s at)
unfolding figures_at
figures-found s at =
    onward-ind (FiguresFound s at) Refused (number_in s at 1 most_motifs) _
    (λ f e. blamed-later (omega arith) (number_in-refused s at 1 most_motifs f e))
    (λ motifs then e.
    let g = number_in_lem s at 1 most_motifs motifs then e in
    onward-ind (FiguresFound s at) Refused (number_below s then motifs 6) _
    (λ f d. blamed-later (omega (arith, g.near)) (number_below-refused s then motifs 6 f d (omega arith) (omega arith)))
    (λ start last d.
    let h = number_below_lem s then motifs 6 start last d in
    onward-ind (FiguresFound s at) Refused (number_in s last 1 most_rules) _
    (λ f q. blamed-later (omega (arith, g.near, h.near)) (number_in-refused s last 1 most_rules f q))
    (λ count next q.
    let k = number_in_lem s last 1 most_rules count next q in
    record {
      motifs_some = g.low;
      motifs_few = g.high;
      start_fits = h.low;
      rules_some = k.low;
      rules_few = k.high;
      inside = k.inside;
      near = omega (arith, g.near, h.near, k.near);
      spelled = λ bytes. between-both (in-spelled s bytes at 1 most_motifs motifs then e)
          (between-both (below-spelled s bytes then motifs 6 start last d) (in-spelled s bytes last 1 most_rules count next q));
    })))

pub figures-lie : (s : List ℕ) (at : ℕ) (g : Figures) (next : ℕ) → figures_at s at ≡ Whole g next → FiguresLie s at g next
figures-lie s at g next e = subst (FiguresFound s at) e (figures-found s at)

pub figures-refused : (s : List ℕ) (at : ℕ) (f : Fault) → figures_at s at ≡ Refused f → Blamed s (at + 9) f
figures-refused s at f e = subst (FiguresFound s at) e (figures-found s at)
