-- How the contents of a book are spelled.
use Rattle.std.specs.Prelude.{ℕ, List, [], ◌∷◌, ◌++◌, length}
use Rattle.names.specs.Number.{spell_number}
use Rattle.names.specs.Spelling.{spell_colours}
use Rattle.books.specs.Contents.{Contents}
use Rattle.books.specs.declared.rule.Rule.{Rule}
use Rattle.books.specs.declared.rule.Body.{Body}
use Rattle.books.specs.declared.rule.Body.TheVariants.{Colour, Across, Down}

-- three numbers in a row
abbrev pub spell_three : ℕ → ℕ → ℕ → List ℕ
spell_three first second third = spell_number first ++ (spell_number second ++ spell_number third)

-- the kind, then the colour or the two motifs
abbrev pub spell_body : Body → List ℕ
spell_body (Colour c) = spell_number 0 ++ spell_number c
spell_body (Across l r) = spell_three 1 l r
spell_body (Down u v) = spell_three 2 u v

-- the head, then the body
abbrev pub spell_rule : Rule → List ℕ
spell_rule r = spell_number r.head ++ spell_body r.body

abbrev pub spell_rules : List Rule → List ℕ
spell_rules [] = []
spell_rules (r ∷ rs) = spell_rule r ++ spell_rules rs

-- a colour list; the motif count; the start motif; the rule count; the rules
abbrev pub spell_book : Contents → List ℕ
spell_book b =
    spell_colours b.colours
    ++ (spell_number b.motifs ++ (spell_number b.start ++ (spell_number (length b.rules) ++ spell_rules b.rules)))
