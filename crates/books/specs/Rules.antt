-- What reading the rules of a book finds, where motifs and colours are counted already.
use Rattle.std.specs.Prelude.{ℕ, zero, suc, ◌+◌, Bool, List, take, set, replicate, eqb}
use Rattle.names.specs.Pick.{pick, and_then, fault}
use Rattle.names.specs.Onward.{onward, faultless}
use Rattle.names.specs.Number.{number_below}
use Rattle.names.specs.Fault.{Fault}
use Rattle.books.specs.Equal.{stands}
use Rattle.books.specs.Keeps.{most_rules}
use Rattle.books.specs.RuleNumbers.{among}
use Rattle.books.specs.declared.rule.Rule.{Rule}
use Rattle.books.specs.declared.rule.Body.{Body}
use Rattle.books.specs.declared.rule.Body.TheVariants.{Colour, Across, Down}
use Rattle.books.specs.BodyRead.{BodyRead, Whole as WholeBody, Refused as RefusedBody}
use Rattle.books.specs.RuleRead.{RuleRead, Whole as WholeRule, Refused as RefusedRule, RulesRead}

-- a colour number
unfoldable pub colour_number_at : List ℕ → ℕ → ℕ → BodyRead
colour_number_at s at colours = onward RefusedBody (number_below s at colours 6) (λ colour next. WholeBody (Colour colour) next)

-- kind 1 joins left and right motif, kind 2 upper and lower
abbrev pub join_body : ℕ → ℕ → ℕ → Body
join_body kind first second = pick (eqb kind 1) (Across first second) (Down first second)

unfoldable pub join_at : List ℕ → ℕ → ℕ → ℕ → BodyRead
join_at s at kind motifs =
    onward RefusedBody (number_below s at motifs 6) (λ first next.
    onward RefusedBody (number_below s next motifs 6) (λ second end.
    WholeBody (join_body kind first second) end))

-- its kind, 0 to 2, then a colour for kind 0 or two motifs
unfoldable pub body_at : List ℕ → ℕ → ℕ → ℕ → BodyRead
body_at s at motifs colours =
    onward RefusedBody (number_below s at 3 7) (λ kind next.
    pick (eqb kind 0) (colour_number_at s next colours) (join_at s next kind motifs))

abbrev pub after_body {ℓ} : {A : Type ℓ} → (Fault → A) → BodyRead → (Body → ℕ → A) → A
after_body refuse (WholeBody body next) go = go body next
after_body refuse (RefusedBody f) go = refuse f

-- its head, then its body
unfoldable pub rule_at : List ℕ → ℕ → ℕ → ℕ → RuleRead
rule_at s at motifs colours =
    onward RefusedRule (number_below s at motifs 6) (λ head next.
    after_body RefusedRule (body_at s next motifs colours) (λ body end.
    WholeRule (record { head = head; body = body }) end))

abbrev pub after_rule {ℓ} : {A : Type ℓ} → (Fault → A) → RuleRead → (Rule → ℕ → A) → A
after_rule refuse (WholeRule rule next) go = go rule next
after_rule refuse (RefusedRule f) go = refuse f

-- what stands in the place of a rule that is none
abbrev pub no_rule : Rule
no_rule = record { head = 0; body = Colour 0 }

abbrev pub no_rules : List Rule
no_rules = replicate most_rules no_rule

abbrev pub refused_rules : Fault → RulesRead
refused_rules f = record { fault = f; rules = no_rules; next = 0 }

-- whether a rule repeats one before it, which only a strict reader asks; the same by their numbers
unfoldable pub repeats : Bool → List Rule → Rule → Bool
repeats strict before rule = and_then strict (λ _. stands before rule)

unfoldable pub number_repeats : Bool → List ℕ → ℕ → Bool
number_repeats strict before number = and_then strict (λ _. among before number)

-- so many rules more from a place on, the first of them the i-th: a rule that was read in full repeats none before it
abbrev pub rules_from : Bool → List ℕ → ℕ → ℕ → List Rule → ℕ → ℕ → ℕ → RulesRead
rules_from strict s motifs colours rules i at zero = record { fault = fault 0 0; rules = rules; next = at }
rules_from strict s motifs colours rules i at (suc k) =
    after_rule refused_rules (rule_at s at motifs colours) (λ rule next.
    pick (repeats strict (take i rules) rule) (refused_rules (fault 18 at))
    (rules_from strict s motifs colours (set rules i rule) (i + 1) next k))

unfoldable pub rules_at : Bool → List ℕ → ℕ → ℕ → ℕ → ℕ → RulesRead
rules_at strict s at motifs colours count = rules_from strict s motifs colours no_rules 0 at count

abbrev pub after_rules {ℓ} : {A : Type ℓ} → (Fault → A) → RulesRead → (List Rule → ℕ → A) → A
after_rules refuse r go = faultless refuse r.fault (go r.rules r.next)
