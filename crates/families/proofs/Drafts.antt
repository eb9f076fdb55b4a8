-- Contents are drafted where they are within the limits. One book repeated or changed has its own colours and, with the copies and the joining rule, or changed
-- one by one, its own rules.
use Prim.Native.Nat.{ℕ, ◌+◌, ◌≤◌}
use mathlib.Core.Path.{◌≡◌, refl, ◌∙◌}
use mathlib.Core.Bool.{true}
use mathlib.Core.List.{List, [], ◌∷◌, ◌++◌, map, append_assoc, append-nil}
use native.Mathlib.Omega.{arith}
use lib.ListN.{length, length-append}
use Rattle.names.specs.Spelling.{most_colours}
use Rattle.names.specs.Colours.{names_in, no_colours}
use Rattle.names.specs.declared.colours.Colours.{Colours}
use Rattle.names.proofs.ReadingColours.{names-count}
use Rattle.books.specs.Contents.{Contents}
use Rattle.books.specs.ContentsIn.{contents_in}
use Rattle.books.specs.Picture.{joins}
use Rattle.books.specs.declared.rule.Dir.{Dir}
use Rattle.books.specs.declared.family.Family.{Family}
use Rattle.books.specs.declared.rule.Rule.{Rule}
use Rattle.books.specs.declared.rule.Body.{Body}
use Rattle.books.proofs.StandingRules.{there-length}
use Rattle.families.specs.Combine.{copies, repeated, rebodied}
use Rattle.families.specs.inner.Gathered.{standing}
use Rattle.families.specs.inner.Lent.{rules_of, CountsKept}
use Rattle.families.specs.Limits.{counts_within?, within_limits?}
use Rattle.families.specs.inner.Made.{drafted_as, Drafts}
use Rattle.families.specs.declared.rules.Rules.{Rules}
use Rattle.families.proofs.Counting.{rebodied-length}
use Rattle.families.proofs.Testing.{within-limits, within-counts}

-- Contents that are within the limits are drafted.
pub drafts : (s t : List ℕ) (f : Family) (more : Colours) (l : Rules) (c : Contents) → CountsKept f → more.count ≤ most_colours
    → names_in s f.colours ++ names_in t more ≡ c.colours → standing l ≡ c.rules → within_limits? c ≡ true
    → Drafts s t c (drafted_as f.colours more c.motifs c.start l)
drafts s t f more l c sized few colours rules small =
    record {
      within = small;
      is = λ i. record { colours = colours i; motifs = c.motifs; start = c.start; rules = rules i };
      ready = record { colours_few = sized.colours_few; more_few = few; rules_few = l.few; rules_all = l.places };
    }

-- A family has as many rules as are counted.
pub own-count : (s : List ℕ) (f : Family) → CountsKept f → length (contents_in s f).rules ≡ f.count
own-count s f sized = there-length f.rules f.count (omega (arith, sized.rules_few, sized.places_all))

module _ (s t : List ℕ) (f : Family) (sized : CountsKept f) where
  abbrev book : Contents
  book = contents_in s f

  -- Run and stack: the family's rules, the copies after them, and the rule that joins.
  module _ (d : Dir) where
    abbrev own_copies : List Rule
    own_copies = copies f.motifs f.start book.rules

    pub repeated-test : within_limits? (repeated d book) ≡ counts_within? f.colours.count (f.motifs + 1) (f.count + length own_copies + 1)
    unfolding repeated
    repeated-test =
        let rules : length (repeated d book).rules ≡ f.count + length own_copies + 1 =
        simp length-append (omega (arith, own-count s f sized)) in
        within-counts (repeated d book) _ _ _ (names-count s f.colours) refl rules

    pub repeated-drafts : (l : Rules)
        → standing l ≡ (rules_of f ++ own_copies) ++ (record { head = f.motifs; body = joins d f.start f.motifs } ∷ [])
        → within_limits? (repeated d book) ≡ true → Drafts s t (repeated d book) (drafted_as f.colours no_colours (f.motifs + 1) f.motifs l)
    unfolding repeated
    repeated-drafts l are small =
        drafts s t f no_colours l (repeated d book) sized (omega arith)
        (append-nil book.colours) (are ∙ append_assoc (rules_of f) own_copies _) small

  -- Mirrored, flipped, transposed.
  module _ (x : Body → Body) where
    rebodied-within : within_limits? (rebodied x book) ≡ true
    rebodied-within =
        (within-limits (rebodied x book)).1
        (record {
          colours_few = omega (arith, names-count s f.colours, sized.colours_few);
          motifs_few = sized.motifs_few;
          rules_few = omega (arith, rebodied-length x book, own-count s f sized, sized.rules_few);
        })

    pub rebodied-drafts : (l : Rules)
        → standing l ≡ map (λ (r : Rule). record { head = r.head; body = x r.body }) (rules_of f)
        → Drafts s t (rebodied x book) (drafted_as f.colours no_colours f.motifs f.start l)
    rebodied-drafts l are =
        drafts s t f no_colours l (rebodied x book) sized (omega arith) (append-nil book.colours) are rebodied-within
