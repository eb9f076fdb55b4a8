-- The sheets of a run are added one after the other: at each place the figures are those of the sheets before it, and these and the sheets that are
-- left are all. There are no more sheets than bytes, so that no count runs over.
use Prim.Native.Nat.{ℕ, zero, suc, ◌*◌, ◌≤◌, ◌<◌}
use mathlib.Core.Path.{◌≡◌, refl, sym, ap, ◌∙◌}
use mathlib.Core.List.{List, [], ◌∷◌, ◌++◌, map, append_assoc, append-nil}
use native.Mathlib.Decide.{ℕ_discrete}
use native.Mathlib.Omega.{arith}
use lib.ListN.{length, get_or, take, drop, length-append, length-map, length-take, get_or-append}
use Rattle.names.specs.Colours.{names_in}
use Rattle.names.specs.Counted.{each}
use Rattle.names.specs.Spelling.{most_colours}
use Rattle.books.specs.Lent.{contents_of}
use Rattle.books.specs.ContentsIn.{grid_in}
use Rattle.books.specs.Decide.{called?}
use Rattle.books.specs.Sheet.{sheet_of}
use Rattle.books.specs.Size.{room}
use Rattle.books.proofs.CellsOver.{sheet-cells}
use Rattle.runs.specs.Run.{most_bytes, frame_at, sheet_in, left, faults, sheets, framing, sheets_of}
use Rattle.runs.specs.Figures.{work_room, names_shown, showing, answering, accepted, got, cells_of, tickets, answers_given, figures_of, no_figures, figures_long, in_a_row}
use Rattle.runs.specs.Lists.{how_many}
use Rattle.runs.specs.declared.figures.Figures.{Figures}
use Rattle.runs.specs.Run.{Frame}
use Rattle.runs.specs.inner.Adding.{most_added, Spare}
use Rattle.runs.specs.inner.Reporting.{Adds, Counts}
use Rattle.runs.proofs.CountingLists.{how_many-le, added-le}
use Rattle.runs.proofs.FiguresInARow.{ticket_row}
use Rattle.runs.proofs.RunTheorems.{nothing-counted}
use Rattle.runs.proofs.WalkingRuns.{frame-lies, left_end, left-stop, left-more, framing-left, run-few}

-- ── No count runs over ──

showing-few : (press : ℕ) (book : List ℕ) (c : ℕ) (sheet : List ℕ) → showing press book c sheet ≤ room
unfolding showing
showing-few press book c sheet =
    let g = (sheet_of press sheet).sheet in
    let area = g.size.rows * g.size.cols in
    let few = how_many-le (called? (contents_of book) c) (names_shown (grid_in sheet g)) in
    let cells = length-map (take area g.cells) (λ k. get_or (names_in sheet g.colours) k []) in
    omega (arith, few, cells, length-take area g.cells, (sheet-cells [] press sheet).area_few)

cells-few : (press : ℕ) (book : List ℕ) (l : List (List ℕ)) (c : ℕ) → cells_of press book l c ≤ length l * room
unfolding cells_of accepted how_many
cells-few press book l c = omega (arith, added-le (showing press book c) room (accepted press book l) (λ s. showing-few press book c s), how_many-le (answering press book 0) l)

got-few : (press : ℕ) (book : List ℕ) (l : List (List ℕ)) (a : ℕ) → got press book l a ≤ length l * room
unfolding got
got-few press book l a = omega (arith, how_many-le (answering press book a) l)

-- lists with no number above a bound
module _ (most : ℕ) where
  abbrev Few : List ℕ → Type 0
  Few l = (i : ℕ) → get_or l i 0 ≤ most

  few-both : (l m : List ℕ) → Few l → Few m → Few (l ++ m)
  few-both [] m f g i = g i
  few-both (x ∷ l) m f g zero = f 0
  few-both (x ∷ l) m f g (suc i) = few-both l m (λ k. f (suc k)) g i

  module _ (count : ℕ → ℕ) (few : (x : ℕ) → count x ≤ most) where
    few-mapped : (l : List ℕ) → Few (map count l)
    few-mapped [] i = omega arith
    few-mapped (x ∷ l) zero = few x
    few-mapped (x ∷ l) (suc i) = few-mapped l i

    few-each : (n : ℕ) → Few (each n (λ x. count x ∷ []))
    unfolding each
    few-each zero = λ i. omega arith
    few-each (suc n) = few-both (each n (λ x. count x ∷ [])) (count n ∷ []) (few-each n) (few-mapped (n ∷ []))

spared : (press : ℕ) (book : List ℕ) (l : List (List ℕ)) (rest : List ℕ) → length l ≤ most_bytes → Spare most_added (in_a_row (figures_of press book l) ++ rest)
unfolding in_a_row figures_of each
spared press book l rest few =
    let most = length l * room in
    let answers = map (got press book l) answers_given in
    let cells = each most_colours (λ c. cells_of press book l c ∷ []) in
    let counts = (length l ∷ []) ++ (answers ++ cells) in
    let low : Few most counts =
    few-both most (length l ∷ []) (answers ++ cells) (few-mapped most (λ x. length l) (λ x. omega arith) (0 ∷ []))
    (few-both most answers cells (few-mapped most (got press book l) (got-few press book l) answers_given) (few-each most (cells_of press book l) (cells-few press book l) most_colours)) in
    record { long = omega arith; more = λ i h. omega (arith, get_or-append counts (ticket_row (tickets press book l) rest) 0 i h, low i) }

-- ── At a place ──

pub record SoFar (press : ℕ) (book run work figures work_now now : List ℕ) (at : ℕ) : Type 0 where
  pub inside : at ≤ length run
  pub done : List (List ℕ)
  pub few : length done ≤ at
  pub all : done ++ left sheets run at ≡ sheets_of run
  pub framed : (left faults run at).number ≡ 0
  pub counts : now ≡ in_a_row (figures_of press book done) ++ drop figures_long figures
  pub work_same : drop (work_room press) work_now ≡ drop (work_room press) work
  pub work_long : length work_now ≡ length work
  pub figures_long : length now ≡ length figures

module _ (press : ℕ) (book run work figures : List ℕ) (fine : (framing run).number ≡ 0) where
  pub begins : figures ≡ in_a_row no_figures ++ drop figures_long figures → SoFar press book run work figures work figures 0
  unfolding sheets_of
  begins none =
      record {
        inside = omega arith;
        done = [];
        few = omega arith;
        all = refl;
        framed = rw (framing-left run (run-few run fine)) at fine;
        counts = none ∙ ap (λ (f : Figures). in_a_row f ++ drop figures_long figures) (sym (nothing-counted press book));
        work_same = refl;
        work_long = refl;
        figures_long = refl;
      }

  module _ (work_now now : List ℕ) (at : ℕ) (s : SoFar press book run work figures work_now now at) where
    pub frame-good : at < length run → (frame_at run at).fault.number ≡ 0
    frame-good h = go (ℕ_discrete (frame_at run at).fault.number 0)
      where
        go : Dec ((frame_at run at).fault.number ≡ 0) → (frame_at run at).fault.number ≡ 0
        go (yes z) = z
        go (no n) = absurd (n (rw (left-stop faults run at h n) at s.framed))

    pub has-spare : Spare most_added now
    has-spare = rw s.counts (spared press book s.done _ (omega (arith, s.few, s.inside, run-few run fine)))

    pub one_more : at < length run → (f : Frame) → f ≡ frame_at run at → (work_next next : List ℕ) → Adds press book (sheet_in run f) work_now work_next now next
        → length work_next ≡ length work_now → length next ≡ length now → SoFar press book run work figures work_next next f.end
    one_more h f e work_next next =
        rw e (λ adds work_same now_same.
        let z = frame-good h in
        let lies = frame-lies run at z in
        let sheet = sheet_in run (frame_at run at) in
        record {
          inside = lies.inside;
          done = s.done ++ (sheet ∷ []);
          few = omega (arith, length-append s.done (sheet ∷ []), s.few, lies.after, lies.ordered);
          all = append_assoc s.done (sheet ∷ []) (left sheets run (frame_at run at).end)
              ∙ ap (λ (l : List (List ℕ)). s.done ++ l) (sym (left-more sheets run at h z)) ∙ s.all;
          framed = rw (left-more faults run at h z) at s.framed;
          counts = adds.counts s.done _ s.counts;
          work_same = adds.work_same ∙ s.work_same;
          work_long = work_same ∙ s.work_long;
          figures_long = now_same ∙ s.figures_long;
        })

    pub all-counted : length run ≤ at → Counts press book (sheets_of run) work work_now figures now
    all-counted h =
        let every = sym (append-nil s.done) ∙ ap (λ (l : List (List ℕ)). s.done ++ l) (sym (left_end sheets run at h)) ∙ s.all in
        record { counts = s.counts ∙ ap (λ (l : List (List ℕ)). in_a_row (figures_of press book l) ++ drop figures_long figures) every; work_same = s.work_same }
