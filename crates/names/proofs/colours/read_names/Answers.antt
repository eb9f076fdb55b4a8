-- Reading what is left from here, with the names read so far, is reading the whole list; places stay near the start, so that they fit their arrays.
use Prim.Native.Nat.{ℕ, ◌-◌, ◌+◌, ◌≤◌}
use mathlib.Core.List.{List}
use mathlib.Core.Path.{◌≡◌, sym, ap, ◌∙◌}
use native.Mathlib.Omega.{arith}
use lib.ListN.{take, drop}
use denote.Ref.{Bor}
use Rattle.names.specs.Number.{number_in}
use Rattle.names.specs.Spelling.{most_colours}
use Rattle.names.specs.Colours.{list_of, find_name, colour_at, colours_from, colours_of}
use Rattle.names.specs.Read.{Value}
use Rattle.names.specs.ColourRead.{At}
use Rattle.names.proofs.Count.{left-suc, left-all}
use Rattle.names.proofs.Walks.{none-found}
use Rattle.names.proofs.ReachedNames.{step-on}
use Rattle.names.proofs.ReadingNumbers.{number_in_lem}
use Rattle.names.proofs.ReadingColours.{ColourLies, colour-lies}
use Rattle.names.proofs.colours.read_names.Goals as goal
use Rattle.names.proofs.colours.read_names.Goals.{In_ok-span}

pub loop-i-init : goal.loop-i-init
unfolding colours_of
loop-i-init c =
    let begun = c.new-reader.ensures in
    let count : Value c.in_ok-count.count c.within.new.self.at ≡ number_in c.args.s.now 0 1 most_colours = rw (begun.bytes, begun.at) at c.in_ok-count.ensures.read in
    record {
      counted = omega arith;
      rest = rw (← count, c.requires.starts, c.requires.lens, left-all c.in_ok-count.count);
      same = ap (λ (b : Bor (List ℕ)). b.now) (c.in_ok-count.ensures.same ∙ begun.bytes);
      near = omega (arith, number_in_lem _ _ _ _ _ _ (sym count));
    }

-- the colour that was read there
colour : (c : In_ok-span) → colour_at c.args.s.now c.loop-i.reader.at ≡ At c.in_ok-span.span.start c.in_ok-span.span.len
colour c = sym (rw c.loop-i.invariant.same at c.in_ok-span.ensures.read)

lies : (c : In_ok-span) → ColourLies c.args.s.now c.loop-i.reader.at c.in_ok-span.span.start c.in_ok-span.span.len
lies c = colour-lies _ _ _ _ (colour c)

pub overflow_cast-starts : goal.overflow_cast-starts
overflow_cast-starts c = omega (arith, lies (goal.at.overflow_cast-starts c).In_ok-span, c.in_ok-count.ensures.in_range)

pub overflow_cast-lens : goal.overflow_cast-lens
overflow_cast-lens c = omega (arith, lies (goal.at.overflow_cast-lens c).In_ok-span)

pub loop-i-preserved : goal.loop-i-preserved
loop-i-preserved c =
    let l = c.loop-i in
    let s = c.args.s.now in
    let list = list_of l.i l.starts l.lens in
    let span = c.in_ok-span.span in
    let here = (goal.at.loop-i-preserved c).In_ok-span in
    let looked = rw (c.front-name.ensures.holds, c.tail.ensures.holds) at c.find_name.ensures.found in
    let apart : l.i ≤ find_name s list (take span.len (drop span.start s)) = omega (arith, looked, none-found l.i c.find_name.result c.if-is_some.ensures) in
    record {
      counted = omega arith;
      rest = rw c.in_ok-span.ensures.after
          (sym (step-on s list l.reader.at (c.in_ok-count.count - (l.i + 1)) span.start span.len (colour here) apart)
          ∙ ap (colours_from s list l.reader.at) (sym (left-suc _ _ c.loop-i-test.true)) ∙ l.invariant.rest);
      same = ap (λ (b : Bor (List ℕ)). b.now) c.in_ok-span.ensures.same ∙ l.invariant.same;
      near = omega (arith, lies here, c.in_ok-span.ensures.after);
    }
