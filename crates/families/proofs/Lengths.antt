-- Mirrored, flipped and transposed books are spelled in as many bytes as the book: each body keeps its two motifs, and every kind takes one byte.
use mathlib.Core.Path.{◌≡◌, refl}
use mathlib.Core.List.{List, [], ◌∷◌, map}
use native.Mathlib.Omega.{arith}
use lib.ListN.{length, length-append}
use Rattle.names.specs.Number.{spell_number}
use Rattle.books.specs.Contents.{Contents}
use Rattle.books.specs.SpellBook.{spell_body, spell_rules, spell_book}
use Rattle.books.specs.declared.rule.Rule.{Rule}
use Rattle.books.specs.declared.rule.Body.{Body}
use Rattle.books.specs.declared.rule.Body.TheVariants.{Colour, Across, Down}
use Rattle.families.specs.Combine.{rebodied}
use Rattle.families.specs.inner.Asked.{changed_body}
use Rattle.families.specs.declared.asked.Change.{Change}
use Rattle.families.specs.declared.asked.Change.TheVariants.{Mirrored, Flipped, Transposed}
use Rattle.families.proofs.Counting.{rebodied-length}

body-as-long : (k : Change) (x : Body) → length (spell_body (changed_body k x)) ≡ length (spell_body x)
unfolding spell_number
body-as-long Mirrored (Colour c) = refl
body-as-long Mirrored (Across l r) = simp length-append (omega arith)
body-as-long Mirrored (Down u v) = refl
body-as-long Flipped (Colour c) = refl
body-as-long Flipped (Across l r) = refl
body-as-long Flipped (Down u v) = simp length-append (omega arith)
body-as-long Transposed (Colour c) = refl
body-as-long Transposed (Across l r) = refl
body-as-long Transposed (Down u v) = refl

rules-as-long : (k : Change) (rs : List Rule) → length (spell_rules (map (λ (r : Rule). record { head = r.head; body = changed_body k r.body }) rs)) ≡ length (spell_rules rs)
rules-as-long k [] = refl
rules-as-long k (r ∷ rs) = simp (length-append, body-as-long k r.body, rules-as-long k rs)

pub changed-as-long : (k : Change) (b : Contents) → length (spell_book (rebodied (changed_body k) b)) ≡ length (spell_book b)
changed-as-long k b = simp (length-append, rebodied-length (changed_body k) b, rules-as-long k b.rules)
