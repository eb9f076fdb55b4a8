-- The call as it goes: a book that was read fits the greatest counts, its start is tested, and what is left of it is drafted with its own colours.
use Prim.Native.Nat.{ℕ}
use mathlib.Core.Path.{◌≡◌, sym, ◌∙◌, ap}
use mathlib.Core.Bool.{Bool, true, false}
use mathlib.Core.List.{List, [], append-nil}
use native.Mathlib.Omega.{arith}
use lib.Seq.{length-sets}
use Rattle.std.specs.Prelude.{Ok}
use Rattle.names.specs.Bits.{is_set}
use Rattle.names.specs.Colours.{no_colours}
use Rattle.names.specs.Pick.{pick}
use Rattle.names.specs.Spelling.{most_colours}
use Rattle.names.specs.declared.colours.Colours.{Colours}
use Rattle.names.specs.Bytes.{Bytes}
use Rattle.books.specs.Answer.{plain, packed}
use Rattle.books.specs.Book.{untidy_of}
use Rattle.books.specs.Contents.{Contents}
use Rattle.books.specs.ContentsIn.{contents_in}
use Rattle.books.specs.Keeps.{most_motifs}
use Rattle.books.specs.BookRead.{BookRead}
use Rattle.books.specs.Told.{told_book}
use Rattle.books.specs.declared.family.Family.{Family}
use Rattle.books.proofs.GreaterCounts.{rule-more}
use Rattle.books.proofs.ReadingBooks.{book-lies-by, book-accepted-by}
use Rattle.books.proofs.StandingRules.{there-length}
use Rattle.drafts.specs.Draft.{draft_in, DraftFits, WroteDraft}
use Rattle.drafts.specs.Outcome.{Leaves, refused, written}
use Rattle.drafts.specs.Written.{Written}
use Rattle.drafts.proofs.NewBooks.{written-by}
use Rattle.drafts.proofs.SpellingDrafts.{draft-wrote}
use Rattle.tidy.specs.Marking.{rewritten, reached}
use Rattle.tidy.specs.Outcome.{tidied_out}
use Rattle.tidy.specs.Tidied.{leaving, tidied}
use Rattle.tidy.specs.inner.Cleared.{left_after, cleared}
use Rattle.tidy.specs.inner.Kept.{rules_standing, RulesKept}
use Rattle.tidy.specs.inner.Steps.{rewritten_in, reached_in}
use Rattle.tidy.proofs.LeftRules.{left-few, cleared-contents}

-- ── A book that was read ──

fitted : (s : List ℕ) → Bytes s → (untidy_of s).fault.number ≡ 0 → RulesKept (untidy_of s).family
fitted s bytes z =
    let lies = book-lies-by false s z in
    let keeps = (book-accepted-by false s bytes z).keeps in
    record {
      colours_few = lies.places.few;
      motifs_few = lies.motifs_few;
      start_fits = lies.start_fits;
      rules_few = lies.rules_few;
      places_all = lies.rules_size;
      fit = λ r i. rule-more _ _ most_motifs most_colours r keeps.motifs_few keeps.colours_ok.few (keeps.sound.rules_fit r i);
    }

pub read-fitted : (s : List ℕ) {f : Family} → told_book (Ok f) ≡ untidy_of s → Bytes s → RulesKept f
read-fitted s read bytes =
    rw (ap (λ (b : BookRead). b.family) read) (fitted s bytes (sym (ap (λ (b : BookRead). b.fault.number) read)))

-- ── Its start ──

module _ (s : List ℕ) (f : Family) {can : ℕ} (can_is : can ≡ rewritten_in f) (out : List ℕ) where
  abbrev book : Contents
  book = contents_in s f

  by-start : {t : Bool} → is_set can f.start ≡ t → tidied_out book out ≡ pick t (written (tidied book) out) (refused (plain 17) out)
  unfolding tidied_out rewritten
  by-start e = ap (λ (u : Bool). pick u (written (tidied book) out) (refused (plain 17) out)) (ap (λ (m : ℕ). is_set m f.start) (sym can_is) ∙ e)

  -- the motifs that are reached are left
  pub start-rewrites : is_set can f.start ≡ true → {marks : ℕ} → marks ≡ reached_in f can → tidied_out book out ≡ written (leaving marks book) out
  unfolding tidied reached rewritten
  start-rewrites e marks_is =
      by-start e ∙ ap (λ (m : ℕ). written (leaving m book) out) (sym (marks_is ∙ ap (reached_in f) can_is))

  pub start-refused : is_set can f.start ≡ false → tidied_out book out ≡ refused (plain 17) out
  start-refused e = by-start e

-- ── What is left ──

module _ (s : List ℕ) (f : Family) (m : ℕ) (fits : RulesKept f) where
  left-fits : DraftFits (record { family = cleared m f; more = no_colours })
  unfolding cleared
  left-fits =
      record {
        colours_few = fits.colours_few;
        more_few = omega arith;
        rules_few = omega (arith, left-few m [] (rules_standing f), there-length f.rules f.count (omega (arith, fits.rules_few, fits.places_all)), fits.rules_few);
        rules_all = length-sets f.rules 0 (left_after m [] (rules_standing f)) ∙ fits.places_all;
      }

  left-draft : draft_in s s (record { family = cleared m f; more = no_colours }) ≡ leaving m (contents_in s f)
  left-draft =
      let is = cleared-contents s f m fits in
      (λ i. record {
        colours = append-nil (contents_in s (cleared m f)).colours i;
        motifs = (cleared m f).motifs;
        start = (cleared m f).start;
        rules = (contents_in s (cleared m f)).rules;
      }) ∙ is

  -- The same of the family and the colours that the code has: they are written, and the call answers what the writer answers.
  pub left-written : {g : Family} {more : Colours} {out after : List ℕ} {w : Written} {r : ℕ} → g ≡ cleared m f → more ≡ no_colours
      → WroteDraft s s (record { family = g; more = more }) out w after → r ≡ packed (plain w.number) w.count
      → Leaves (written (leaving m (contents_in s f)) out) r after
  left-written e n wrote told =
      let book = draft-wrote left-fits (rw (e, n) at wrote) in
      rw (← left-draft, written-by)
      (record { answers = told ∙ ap (λ (w : Written). packed (plain w.number) w.count) book.answers; leaves = book.leaves })
