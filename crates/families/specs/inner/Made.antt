-- What making a combination gives: a draft of it, where it is within the limits.
use Rattle.std.specs.Prelude.{ℕ, ◌≡◌, List, Option, Some, None, true, false}
use Rattle.names.specs.declared.colours.Colours.{Colours}
use Rattle.books.specs.declared.family.Family.{Family}
use Rattle.books.specs.Contents.{Contents}
use Rattle.books.specs.ContentsIn.{contents_in}
use Rattle.drafts.specs.Draft.{draft_in, DraftFits}
use Rattle.drafts.specs.declared.draft.Draft.{Draft}
use Rattle.families.specs.Limits.{within_limits?}
use Rattle.families.specs.inner.Asked.{paired, alone}
use Rattle.families.specs.declared.asked.Pairing.{Pairing}
use Rattle.families.specs.declared.asked.Single.{Single}
use Rattle.families.specs.declared.rules.Rules.{Rules}

-- a draft of a new book with the colours of a first, and more
abbrev pub drafted_as : Colours → Colours → ℕ → ℕ → Rules → Draft
drafted_as colours more motifs start l =
    record {
      family = record { colours = colours; motifs = motifs; start = start; count = l.count; rules = l.rules };
      more = more;
    }

-- a draft of contents within the limits; the names are parts of two lent books, s and t
pub record Drafts (s t : List ℕ) (c : Contents) (d : Draft) : Type 0 where
  pub within : within_limits? c ≡ true
  pub is : draft_in s t d ≡ c
  pub ready : DraftFits d

-- what exceeds them is not drafted
abbrev pub Makes : List ℕ → List ℕ → Contents → Option Draft → Type 0
Makes s t c None = within_limits? c ≡ false
Makes s t c (Some d) = Drafts s t c d

-- ... of families that were read from them
abbrev pub MakesPair : Pairing → List ℕ → Family → List ℕ → Family → Option Draft → Type 0
MakesPair p s f t g = Makes s t (paired p (contents_in s f) (contents_in t g))

-- ... and of one family, whichever book stands as the second
abbrev pub MakesSingle : Single → Family → Option Draft → Type 0
MakesSingle p f m = (s t : List ℕ) → Makes s t (alone p (contents_in s f)) m
