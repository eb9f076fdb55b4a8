-- What refuses a book, in words of the bytes: how far reading got, and what stands there.
use Rattle.std.specs.Prelude.{ℕ, ◌<◌, ◌≤◌, ◌≡◌, Bool, true, false, length}
use mathlib.Core.List.{List, Memᴰ}
use Rattle.names.specs.Pick.{fault}
use Rattle.names.specs.Reads.{ReadsIn, ReadsBelow}
use Rattle.names.specs.ReadsList.{ListRead, ListFault}
use Rattle.names.specs.Fault.{Fault}
use Rattle.names.specs.Read.{Value, Refused}
use Rattle.books.specs.InTurn.{InTurn}
use Rattle.books.specs.Keeps.{most_motifs, most_rules, NoCopies}
use Rattle.books.specs.declared.rule.Rule.{Rule}
use Rattle.books.specs.declared.rule.Body.{Body}
use Rattle.books.specs.declared.rule.Body.TheVariants.{Colour, Across, Down}

-- ── A rule, where motifs and colours are counted already ──

-- its head was read, and its kind is due
abbrev pub HeadRead : List ℕ → ℕ → ℕ → ℕ → ℕ → Type 0
HeadRead s motifs at head next = ReadsBelow s at motifs 6 (Value head next)

-- its head and its kind were read, and its colour or first motif is due
pub data KindRead (s : List ℕ) (motifs at head kind next : ℕ) : Type 0 where
  kind_read : (then : ℕ) → HeadRead s motifs at head then → ReadsBelow s then 3 7 (Value kind next) → KindRead s motifs at head kind next

-- its first motif was read too, and its second is due
pub data FirstRead (s : List ℕ) (motifs at head kind first next : ℕ) : Type 0 where
  first_read : (then : ℕ) → KindRead s motifs at head kind then → 1 ≤ kind → ReadsBelow s then motifs 6 (Value first next)
      → FirstRead s motifs at head kind first next

-- the rule that stands from a place up to another: kind 0 has a colour, 1 a left and a right motif, 2 an upper and a lower
abbrev pub ruled : ℕ → Body → Rule
ruled head body = record { head = head; body = body }

pub data RuleStands (s : List ℕ) (motifs colours at : ℕ) (x : Rule) (next : ℕ) : Type 0 where
  a_colour : (head colour then : ℕ) → KindRead s motifs at head 0 then → ReadsBelow s then colours 6 (Value colour next)
      → x ≡ ruled head (Colour colour) → RuleStands s motifs colours at x next
  an_across : (head left right then : ℕ) → FirstRead s motifs at head 1 left then → ReadsBelow s then motifs 6 (Value right next)
      → x ≡ ruled head (Across left right) → RuleStands s motifs colours at x next
  a_down : (head upper lower then : ℕ) → FirstRead s motifs at head 2 upper then → ReadsBelow s then motifs 6 (Value lower next)
      → x ≡ ruled head (Down upper lower) → RuleStands s motifs colours at x next

-- what refuses a rule: 6 at a motif or a colour not below its count, 7 at a kind above 2, and 1 or 2 where no number stands
pub data RuleFault (s : List ℕ) (motifs colours at : ℕ) (f : Fault) : Type 0 where
  no_head : ReadsBelow s at motifs 6 (Refused f) → RuleFault s motifs colours at f
  no_kind : (head next : ℕ) → HeadRead s motifs at head next → ReadsBelow s next 3 7 (Refused f) → RuleFault s motifs colours at f
  no_colour : (head next : ℕ) → KindRead s motifs at head 0 next → ReadsBelow s next colours 6 (Refused f) → RuleFault s motifs colours at f
  no_first : (head kind next : ℕ) → KindRead s motifs at head kind next → 1 ≤ kind → ReadsBelow s next motifs 6 (Refused f)
      → RuleFault s motifs colours at f
  no_second : (head kind first next : ℕ) → FirstRead s motifs at head kind first next → ReadsBelow s next motifs 6 (Refused f)
      → RuleFault s motifs colours at f

-- ── A book ──

-- the colours and the count of motifs were read, and the start motif is due
pub data MotifsRead (s : List ℕ) (colours motifs at : ℕ) : Type 0 where
  motifs_read : (from : ℕ) → ListRead s colours from → ReadsIn s from 1 most_motifs (Value motifs at) → MotifsRead s colours motifs at

-- ... the start motif too, and the count of rules is due
pub data StartRead (s : List ℕ) (colours motifs at : ℕ) : Type 0 where
  start_read : (from start : ℕ) → MotifsRead s colours motifs from → ReadsBelow s from motifs 6 (Value start at) → StartRead s colours motifs at

-- ... the count of rules and these rules too, and the next is due, or the end; a strict reader gets past no copy
pub data RulesSoFar (strict : Bool) (s : List ℕ) (colours motifs count : ℕ) (rules : List Rule) (at : ℕ) : Type 0 where
  rules_so_far : (from first : ℕ) → StartRead s colours motifs from → ReadsIn s from 1 most_rules (Value count first)
      → InTurn (RuleStands s motifs colours) first rules at → NoCopies strict rules → RulesSoFar strict s colours motifs count rules at

-- an equal rule stood earlier, which only a strict reader minds
abbrev pub Stood : Bool → List Rule → Rule → Type 0
Stood true before x = Memᴰ x before
Stood false before x = ⊥

-- what refuses a book: its colours, a count outside its range (3), a start motif not below its count (6), a rule, one that stood earlier (18), or
-- bytes after its last rule (8)
pub data BookFaultBy (strict : Bool) (s : List ℕ) (f : Fault) : Type 0 where
  no_list : ListFault s f → BookFaultBy strict s f
  no_motifs : (colours at : ℕ) → ListRead s colours at → ReadsIn s at 1 most_motifs (Refused f) → BookFaultBy strict s f
  no_start : (colours motifs at : ℕ) → MotifsRead s colours motifs at → ReadsBelow s at motifs 6 (Refused f) → BookFaultBy strict s f
  no_count : (colours motifs at : ℕ) → StartRead s colours motifs at → ReadsIn s at 1 most_rules (Refused f) → BookFaultBy strict s f
  no_rule : (colours motifs count at : ℕ) (before : List Rule) → RulesSoFar strict s colours motifs count before at → length before < count
      → RuleFault s motifs colours at f → BookFaultBy strict s f
  equal_rule : (colours motifs count at next : ℕ) (before : List Rule) (x : Rule) → RulesSoFar strict s colours motifs count before at
      → length before < count → RuleStands s motifs colours at x next → Stood strict before x → f ≡ fault 18 at → BookFaultBy strict s f
  more_bytes : (colours motifs count at : ℕ) (rules : List Rule) → RulesSoFar strict s colours motifs count rules at → length rules ≡ count
      → at < length s → f ≡ fault 8 at → BookFaultBy strict s f

-- in every call but tidying
abbrev pub BookFault : List ℕ → Fault → Type 0
BookFault = BookFaultBy true
