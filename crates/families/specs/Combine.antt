-- The eight combinations, as functions on contents.
use Rattle.std.specs.Prelude.{ℕ, ◌+◌, List, [], ◌∷◌, ◌++◌, map, eqb}
use Rattle.names.specs.Pick.{pick}
use Rattle.names.specs.Name.{listed}
use Rattle.books.specs.Contents.{Contents, name}
use Rattle.books.specs.Equal.{without_copies}
use Rattle.books.specs.Moved.{moved_rule}
use Rattle.books.specs.Picture.{joins}
use Rattle.books.specs.declared.rule.Dir.TheVariants.{Across as across, Down as down}
use Rattle.books.specs.declared.rule.Dir.{Dir}
use Rattle.books.specs.declared.rule.Rule.{Rule}
use Rattle.books.specs.declared.rule.Body.{Body}
use Rattle.books.specs.declared.rule.Body.TheVariants.{Colour, Across, Down}
use Rattle.families.specs.Merged.{merged}

-- a colour number of g follows its name into the merged list
abbrev pub renumbered : Contents → Contents → ℕ → ℕ
renumbered f g c = listed (merged f.colours g.colours) (name g c)

-- the rules of g, as they stand after those of f: motifs raised by f's, colours renumbered
abbrev pub raised : Contents → Contents → List Rule
raised f g = map (moved_rule (λ a. f.motifs + a) (renumbered f g)) g.rules

-- the rules with head s, copied under the head n
unfoldable pub copies : ℕ → ℕ → List Rule → List Rule
copies n s [] = []
copies n s (r ∷ rs) = pick (eqb r.head s) (record { head = n; body = r.body } ∷ copies n s rs) (copies n s rs)

-- both books, g raised, and a new start with rules of its own
abbrev pub both_books : Contents → Contents → List Rule → Contents
both_books f g new =
    record {
      colours = merged f.colours g.colours;
      motifs = f.motifs + g.motifs + 1;
      start = f.motifs + g.motifs;
      rules = f.rules ++ (raised f g ++ new);
    }

-- a later rule equal to an earlier one is left out
unfoldable pub either_of : Contents → Contents → Contents
either_of f g =
    without_copies
    (both_books f g
    (copies (f.motifs + g.motifs) f.start f.rules ++ copies (f.motifs + g.motifs) (f.motifs + g.start) (raised f g)))

-- beside is joined across, above is joined down
unfoldable pub joined : Dir → Contents → Contents → Contents
joined d f g = both_books f g (record { head = f.motifs + g.motifs; body = joins d f.start (f.motifs + g.start) } ∷ [])

-- run is repeated across, stack is repeated down
unfoldable pub repeated : Dir → Contents → Contents
repeated d f =
    record {
      colours = f.colours;
      motifs = f.motifs + 1;
      start = f.motifs;
      rules = f.rules ++ (copies f.motifs f.start f.rules
          ++ (record { head = f.motifs; body = joins d f.start f.motifs } ∷ []));
    }

-- every body changed by t, and nothing else
abbrev pub rebodied : (Body → Body) → Contents → Contents
rebodied t b =
    record {
      colours = b.colours;
      motifs = b.motifs;
      start = b.start;
      rules = map (λ (r : Rule). record { head = r.head; body = t r.body }) b.rules;
    }

-- across and down exchanged
abbrev pub turned : Body → Body
turned (Colour c) = Colour c
turned (Across l r) = Down l r
turned (Down u v) = Across u v

-- the two motifs of the joins in one direction exchanged
abbrev pub swapped : Dir → Body → Body
swapped across (Across l r) = Across r l
swapped across (Colour c) = Colour c
swapped across (Down u v) = Down u v
swapped down (Down u v) = Down v u
swapped down (Colour c) = Colour c
swapped down (Across l r) = Across l r

abbrev pub beside : Contents → Contents → Contents
beside = joined across

abbrev pub above : Contents → Contents → Contents
above = joined down

abbrev pub run : Contents → Contents
run = repeated across

abbrev pub stack : Contents → Contents
stack = repeated down

-- mirrored is swapping across, flipped is swapping down
abbrev pub swapping : Dir → Contents → Contents
swapping d = rebodied (swapped d)

abbrev pub mirrored : Contents → Contents
mirrored = swapping across

abbrev pub flipped : Contents → Contents
flipped = swapping down

abbrev pub transposed : Contents → Contents
transposed = rebodied turned
