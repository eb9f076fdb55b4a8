-- The rules of the family are those of the contents, so that what stands at the number among them is the rule that is told. A refused book has none.
use Prim.Native.Nat.{ℕ}
use mathlib.Core.Path.{◌≡◌, refl, sym, ap}
use mathlib.Core.List.{List}
use native.Mathlib.Omega.{arith}
use denote.Ref.{Bor}
use lib.Dec.{ltb}
use lib.ListN.{length, get_or}
use Rattle.std.specs.Prelude.{Option, Some, None}
use Rattle.std.specs.Option.{is_some, unwrap_or, option_map, option_copied}
use Rattle.names.specs.Pick.{pick}
use Rattle.books.specs.Rules.{no_rule}
use Rattle.books.specs.declared.family.Family.{Family}
use Rattle.books.specs.declared.rule.Rule.{Rule}
use Rattle.lookups.specs.Book.{There, Missing, told_rule, rule_with}
use Rattle.lookups.proofs.BookFamily.{family-there, family-none}
use Rattle.lookups.proofs.BookRules.{missing-read}
use Rattle.lookups.proofs.book.rule.Goals as goal

told : (l : List Rule) (k : ℕ) (r : Option (Bor Rule)) → is_some r ≡ ltb k (length l) → unwrap_or (option_map (λ (x : Bor Rule). x.now) r) no_rule ≡ get_or l k no_rule
    → told_rule (option_copied r) ≡ pick (ltb k (length l)) (There (get_or l k no_rule)) Missing
told l k (Some x) there at = rw (← there, ← at) refl
told l k None there at = rw (← there) refl

pub returns-in_err-ok : goal.returns-in_err-ok
returns-in_err-ok c =
    let s = c.args.book.now in
    let none = family-none s c.read_book.result c.read_book.ensures c.in_err-ok.ensures.value in
    rw c.from_residual.ensures (sym (missing-read s c.args.number (omega (arith, ap (λ (f : Family). f.count) none))))

pub returns : goal.returns
unfolding rule_with
returns c =
    let looked = c.get.ensures.lookup in
    let family = family-there c.args.book.now c.read_book.result c.in_ok-ok.field-0 c.read_book.ensures c.in_ok-ok.ensures.value in
    let t = told c.rules.result.now c.args.number c.get.result looked.0 (looked.4 (omega arith) no_rule) in
    rw (c.copied.ensures) (rw (c.rules.ensures, family) at t)
