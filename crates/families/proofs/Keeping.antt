-- A combination of books that keep the rules of a book keeps them, where it is within the limits: it is sound, its colours are theirs, it has at least
-- the rules of the first, and none stands twice. Images keep them without a limit, since they change no count. So what is shown of every combination that keeps the rules holds of each call.
use Prim.Native.Nat.{◌≤◌}
use mathlib.Core.List.{[]}
use native.Mathlib.Omega.{arith}
use lib.ListN.{length, length-append}
use Rattle.names.specs.Spelling.{Distinct, ColoursOk}
use Rattle.books.specs.Contents.{Contents}
use Rattle.books.specs.declared.rule.Dir.TheVariants.{Across as across, Down as down}
use Rattle.books.specs.declared.rule.Dir.{Dir}
use Rattle.books.specs.Keeps.{Sound, Keeps}
use Rattle.books.specs.Equal.{without_copies}
use Rattle.books.proofs.Firsts.{firsts-distinct}
use Rattle.books.proofs.LeavingOut.{firsts-some}
use Rattle.families.specs.Combine.{either_of, joined, repeated, rebodied}
use Rattle.families.specs.inner.Asked.{changed_body}
use Rattle.families.specs.declared.asked.Change.{Change}
use Rattle.families.specs.declared.asked.Change.TheVariants.{Mirrored, Flipped, Transposed}
use Rattle.families.specs.Limits.{WithinLimits}
use Rattle.families.specs.EachCall.{EachCall}
use Rattle.families.proofs.Merging.{merged-ok}
use Rattle.families.proofs.Counting.{rebodied-length}
use Rattle.families.proofs.NoCopies.{joined-distinct, repeated-distinct, changed-distinct}
use Rattle.families.proofs.Fitting.{joined-sound, either_of-sound, repeated-sound, changed-sound}

-- What is sound, has some rules and none twice, and is within the limits, keeps the rules.
keeps-of : (h : Contents) → ColoursOk h.colours → 1 ≤ length h.rules → WithinLimits h → Sound h → Distinct h.rules → Keeps h
keeps-of h colours some small sound once =
    record {
      colours_ok = colours;
      motifs_some = omega (arith, sound.start_fits);
      motifs_few = small.motifs_few;
      rules_some = some;
      rules_few = small.rules_few;
      sound = sound;
      no_copies = once;
    }

pub joined_keeps : (d : Dir) (f g : Contents) → Keeps f → Keeps g → WithinLimits (joined d f g) → Keeps (joined d f g)
unfolding joined
joined_keeps d f g kf kg small =
    keeps-of (joined d f g) (merged-ok f.colours g.colours kf.colours_ok kg.colours_ok small.colours_few)
    (simp length-append (omega (arith, kf.rules_some))) small (joined-sound f g kf.sound kg.sound d) (joined-distinct d f g kf kg)

pub either_of-keeps : (f g : Contents) → Keeps f → Keeps g → WithinLimits (either_of f g) → Keeps (either_of f g)
unfolding either_of without_copies
either_of-keeps f g kf kg small =
    keeps-of (either_of f g) (merged-ok f.colours g.colours kf.colours_ok kg.colours_ok small.colours_few)
    (firsts-some _ (simp length-append (omega (arith, kf.rules_some)))) small (either_of-sound f g kf.sound kg.sound) (firsts-distinct [] _)

pub repeated-keeps : (d : Dir) (f : Contents) → Keeps f → WithinLimits (repeated d f) → Keeps (repeated d f)
unfolding repeated
repeated-keeps d f kf small =
    keeps-of (repeated d f) kf.colours_ok (simp length-append (omega (arith, kf.rules_some))) small (repeated-sound d f kf.sound) (repeated-distinct d f kf)

pub changed-keeps : (k : Change) (f : Contents) → Keeps f → Keeps (rebodied (changed_body k) f)
changed-keeps k f kf =
    record {
      colours_ok = kf.colours_ok;
      motifs_some = kf.motifs_some;
      motifs_few = kf.motifs_few;
      rules_some = rw (rebodied-length (changed_body k) f) kf.rules_some;
      rules_few = rw (rebodied-length (changed_body k) f) kf.rules_few;
      sound = changed-sound k f kf.sound;
      no_copies = changed-distinct k f kf;
    }

-- What keeps the rules is within the limits, so that nothing is refused that could be written.
pub keeps-within : (b : Contents) → Keeps b → WithinLimits b
keeps-within b k = record { colours_few = k.colours_ok.few; motifs_few = k.motifs_few; rules_few = k.rules_few }

-- The combinations that keep the rules within the limits, of two books and of one.
abbrev pub KeptTwo : (Contents → Contents → Contents) → Type 0
KeptTwo op = (f g : Contents) → Keeps f → Keeps g → WithinLimits (op f g) → Keeps (op f g)

abbrev pub KeptOne : (Contents → Contents) → Type 0
KeptOne op = (f : Contents) → Keeps f → WithinLimits (op f) → Keeps (op f)

pub each-call : (Two : (Contents → Contents → Contents) → Type 0) (One : (Contents → Contents) → Type 0)
    → ((op : Contents → Contents → Contents) → KeptTwo op → Two op) → ((op : Contents → Contents) → KeptOne op → One op) → EachCall Two One
each-call Two One two one =
    record {
      dv_either_of = two _ either_of-keeps;
      dv_beside = two _ (joined_keeps across);
      dv_above = two _ (joined_keeps down);
      dv_run = one _ (repeated-keeps across);
      dv_stack = one _ (repeated-keeps down);
      dv_mirrored = one _ (λ f k _. changed-keeps Mirrored f k);
      dv_flipped = one _ (λ f k _. changed-keeps Flipped f k);
      dv_transposed = one _ (λ f k _. changed-keeps Transposed f k);
    }
