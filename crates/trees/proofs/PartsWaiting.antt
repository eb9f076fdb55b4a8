-- What is judged, with the part that is due and those that wait, is the whole: each node leaves the same to judge, held to other parts.
use Prim.Native.Nat.{ℕ, zero, suc, ◌+◌, ◌-◌, ◌≤◌, ◌<◌}
use mathlib.Core.Path.{◌≡◌, refl, sym, ap, ◌∙◌}
use mathlib.Core.List.{List, ◌∷◌}
use native.Mathlib.Decide.{ℕ_discrete}
use native.Mathlib.Numerals.{add-one}
use native.Mathlib.Omega.{arith}
use lib.ListN.{length, get_or, set, replicate, length-set, length-replicate}
use lib.Seq.{get_or-set_same, get_or-set_other}
use Rattle.std.specs.Prelude.{Result, Ok, Err}
use Rattle.books.specs.declared.rule.Dir.{Dir}
use Rattle.books.specs.declared.rule.Rule.{Rule}
use Rattle.books.specs.declared.size.Size.{Size}
use Rattle.pieces.specs.OnSheet.{on_sheet}
use Rattle.pieces.specs.Parts.{first_part, rest_part}
use Rattle.pieces.specs.Pieces.{Inside}
use Rattle.pieces.specs.declared.part.Part.{Part}
use Rattle.pieces.proofs.ComingApart.{bulk}
use Rattle.trees.specs.declared.node.Node.{Node}
use Rattle.trees.specs.declared.held.Held.{Held}
use Rattle.trees.specs.inner.Held.{rules_of, sheet_of, judged_held}
use Rattle.pieces.specs.Area.{whole}
use Rattle.pieces.proofs.Cutting.{whole-inside}
use Rattle.trees.specs.Judge.{Wrong, Cell, Join, step}
use Rattle.trees.specs.Trees.{no_node}
use Rattle.trees.specs.inner.OnSheets.{judged_at, Lying}
use Rattle.trees.specs.inner.Waiting.{most_waiting, after, judged_all, no_part, lined}
use Rattle.trees.proofs.JudgingSheets.{none_left, wrong-here, cell-here, both-lie, both-less, parts-in-turn}

-- ── One verdict after another ──

after-after : (v : Result ℕ ℕ) (f g : ℕ → Result ℕ ℕ) → after (after v f) g ≡ after v (λ e. after (f e) g)
after-after (Ok e) f g = refl
after-after (Err e) f g = refl

after_none : (v : Result ℕ ℕ) → after v (λ e. Ok e) ≡ v
after_none (Ok e) = refl
after_none (Err e) = refl

-- a part that waits further on changes nothing before it
lined-set : (waiting : List Part) (count : ℕ) (x : Part) (n : ℕ) → n ≤ count → lined (set waiting count x) n ≡ lined waiting n
unfolding lined
lined-set waiting count x zero h = refl
lined-set waiting count x (suc n) h =
    rw (get_or-set_other waiting count n x no_part (λ e. omega arith), lined-set waiting count x n (omega arith)) refl

-- ── Each node in its turn ──

-- a part that waits in a place of the array lies on the sheet, and the places before it are no more than the rows and columns that it lacks
pub record Waits (s : Size) (x : Part) (i : ℕ) : Type 0 where
  pub inside : Inside s.rows s.cols x.piece
  pub few : bulk x.piece + i < s.rows + s.cols

module _ (o : Held) (ns : List Node) where
  abbrev s : Size
  s = o.size

  abbrev cells : List ℕ
  cells = o.cells

  abbrev rules : List Rule
  rules = rules_of o

  lying : Lying o.size (whole o.size.rows o.size.cols)
  lying = record { rows_few = o.sizes.rows_few; cols_few = o.sizes.cols_few; inside = whole-inside _ _ o.sizes.rows_some o.sizes.cols_some }

  -- the part that is due and those that wait, from a place on, are what is left of the whole
  pub record Judging (waiting : List Part) (count : ℕ) (due : Part) (at : ℕ) : Type 0 where
    pub inside : Inside s.rows s.cols due.piece
    pub few : bulk due.piece + count ≤ s.rows + s.cols
    pub room : length waiting ≡ most_waiting
    pub each : (i : ℕ) → i < count → Waits s (get_or waiting i no_part) i
    pub goes : judged_all s cells rules (due ∷ lined waiting count) ns at ≡ judged_held o ns

  pub judging-starts : Judging (replicate most_waiting no_part) 0 (sheet_of o) 0
  unfolding judged_all lined
  judging-starts =
      record {
        inside = lying.inside;
        few = omega (arith, lying.inside.low, lying.inside.right);
        room = length-replicate most_waiting no_part;
        each = λ i h. absurd (omega arith);
        goes = after_none (judged_held o ns);
      }

  module _ (waiting : List Part) (count : ℕ) (due : Part) (at : ℕ) (j : Judging waiting count due at) where
    pub on : Lying s due.piece
    on = record { rows_few = lying.rows_few; cols_few = lying.cols_few; inside = j.inside }

    pub few-wait : count < most_waiting
    few-wait = omega (arith, j.few, j.inside, lying.rows_few, lying.cols_few)

    -- the rest after the part that is due
    abbrev then : ℕ → Result ℕ ℕ
    then e = judged_all s cells rules (lined waiting count) ns e

    pub none-due : length ns ≤ at → Err at ≡ judged_held o ns
    unfolding judged_all
    none-due h = ap (λ (v : Result ℕ ℕ). after v then) (none_left s cells rules due ns at on h) ∙ j.goes

    module _ (below : at < length ns) where
      abbrev v : Node
      v = get_or ns at no_node

      pub wrong-due : Wrong ≡ step (on_sheet s cells) rules due.motif due.piece v → Err at ≡ judged_held o ns
      unfolding judged_all
      wrong-due e = ap (λ (v : Result ℕ ℕ). after v then) (wrong-here s cells rules due ns at on below e) ∙ j.goes

      module _ (e : Cell ≡ step (on_sheet s cells) rules due.motif due.piece v) where
        next-due : then (at + 1) ≡ judged_held o ns
        unfolding judged_all
        next-due = ap (λ (v : Result ℕ ℕ). after v then) (cell-here s cells rules due ns at on below e) ∙ j.goes

        pub last-due : count ≡ 0 → Ok (at + 1) ≡ judged_held o ns
        unfolding judged_all lined
        last-due z = rw z at next-due

        pub cell-due : (count ≡ 0 → ⊥) → Judging waiting (count - 1) (get_or waiting (count - 1) no_part) (at + 1)
        unfolding lined
        cell-due n =
            let one : suc (count - 1) ≡ count = omega arith in
            let w = j.each (count - 1) (omega arith) in
            record {
              inside = w.inside;
              few = omega (arith, w.few);
              room = j.room;
              each = λ i h. j.each i (omega arith);
              goes = ap (λ (n : ℕ). judged_all s cells rules (lined waiting n) ns (at + 1)) one ∙ next-due;
            }

      module _ (d : Dir) (l r : ℕ) (e : Join d l r ≡ step (on_sheet s cells) rules due.motif due.piece v) where
        abbrev first : Part
        first = record { piece = first_part d v.cut due.piece; motif = l }

        abbrev rest : Part
        rest = record { piece = rest_part d v.cut due.piece; motif = r }

        pub join-due : Judging (set waiting count rest) (count + 1) first (at + 1)
        unfolding judged_all lined
        join-due =
            let (first-lies, rest-lies) = both-lie s cells rules due ns at on below d l r e in
            let (first_less, rest_less) = both-less s cells rules due ns at on below d l r e in
            let same = get_or-set_same waiting count rest no_part (omega (arith, j.room, few-wait)) in
            let behind : ℕ → Result ℕ ℕ = λ f. judged_all s cells rules (lined waiting count) ns f in
            let lines : lined (set waiting count rest) (count + 1) ≡ rest ∷ lined waiting count =
            ap (lined (set waiting count rest)) (add-one count) ∙ rw (same, lined-set waiting count rest count (omega arith)) refl in
            record {
              inside = first-lies;
              few = omega (arith, first_less, j.few);
              room = length-set waiting count rest ∙ j.room;
              each = λ i h. waits i h same rest-lies rest_less (ℕ_discrete i count);
              goes = rw lines
                  (sym (after-after (judged_at s cells rules first ns (at + 1)) (λ f. judged_at s cells rules rest ns f) behind)
                  ∙ ap (λ (w : Result ℕ ℕ). after w behind) (sym (parts-in-turn s cells rules due ns at on below d l r e)) ∙ j.goes);
            }
          where
            waits : (i : ℕ) → i < count + 1 → get_or (set waiting count rest) count no_part ≡ rest → Inside s.rows s.cols rest.piece → bulk rest.piece < bulk due.piece
                → Dec (i ≡ count) → Waits s (get_or (set waiting count rest) i no_part) i
            waits i h same lies less (yes z) = rw (z, same) (record { inside = lies; few = omega (arith, less, j.few) })
            waits i h same lies less (no n) = rw (get_or-set_other waiting count i rest no_part n) (j.each i (omega (arith, n)))
