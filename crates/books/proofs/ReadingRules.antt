-- What callers use of rules that were read: they fit the counts, lie within the input, and stand there as they are spelled; a refusal
-- names what it blames. Each part is read where the one before it ends.
use Prim.Native.Nat.{ℕ, zero, suc, ◌+◌, ◌-◌, ◌*◌, ◌≤◌}
use mathlib.Core.Path.{◌≡◌, refl, subst, sym, ap, ◌∙◌}
use mathlib.Core.Bool.{Bool, true, false, false≢true}
use mathlib.Core.Logic.{◌⊎◌, inl, inr, ⊎_elim}
use mathlib.Core.List.Memᴰ
use mathlib.Core.List.{List, [], ◌∷◌, ◌++◌, append_assoc, append-nil, Memᴰ}
use native.Mathlib.Omega.{arith}
use lib.ListN.{length, get_or, take, set, replicate, length-append, length-replicate, replicate-append-replicate}
use lib.Seq.{set_at, take_at}
use Rattle.names.specs.Pick.{and_then, fault, ReadersNumber}
use Rattle.names.specs.Number.{number_below}
use Rattle.names.specs.Fault.{Fault}
use Rattle.names.proofs.Picking.{pick_ind}
use Rattle.names.proofs.Onwards.{onward-ind}
use Rattle.names.proofs.ReadingNumbers.{BlamedBy, Blamed, blamed-later, number_below_lem, number_below-refused}
use Rattle.names.specs.Bytes.{Bytes}
use Rattle.books.specs.Keeps.{RuleFits, most_rules, NoCopies}
use Rattle.books.specs.Rules.{body_at, rule_at, no_rule, no_rules, refused_rules, repeats, rules_from, rules_at}
use Rattle.books.specs.SpellBook.{spell_rule, spell_rules}
use Rattle.books.specs.Answer.{NumberBy}
use Rattle.books.specs.declared.rule.Rule.{Rule}
use Rattle.books.specs.RuleRead.{RuleRead, Whole as WholeRule, Refused as RefusedRule, RulesRead}
use Rattle.books.proofs.Onwards.{after_body-ind, after_rule-ind}
use Rattle.books.proofs.EqualRules.{copies-more, copies-none}
use Rattle.books.proofs.ReadingBodies.{body-lies, body_refused}
use Rattle.books.proofs.StandingNumbers.{Between, below-spelled, between-both}

-- ── A rule ──

record RuleLies (s : List ℕ) (at motifs colours : ℕ) (r : Rule) (next : ℕ) : Type 0 where
  fits : RuleFits motifs colours r
  inside : next ≤ length s
  near : next ≤ at + 12
  spelled : Bytes s → Between s at next (spell_rule r)

abbrev RuleFound : List ℕ → ℕ → ℕ → ℕ → RuleRead → Type 0
RuleFound s at motifs colours (WholeRule r next) = RuleLies s at motifs colours r next
RuleFound s at motifs colours (RefusedRule f) = Blamed s (at + 12) f

rule_found : (s : List ℕ) (at motifs colours : ℕ) → RuleFound s at motifs colours (rule_at s at motifs colours)
unfolding rule_at
rule_found s at motifs colours =
    onward-ind (RuleFound s at motifs colours) RefusedRule (number_below s at motifs 6) _
    (λ f e. blamed-later (omega arith) (number_below-refused s at motifs 6 f e (omega arith) (omega arith)))
    (λ head then e.
    let g = number_below_lem s at motifs 6 head then e in
    after_body-ind (RuleFound s at motifs colours) RefusedRule (body_at s then motifs colours) _
    (λ f d. blamed-later (omega (arith, g.near)) (body_refused s then motifs colours f d))
    (λ b next d.
    let h = body-lies s then motifs colours b next d in
    record {
      fits = record { head_fits = g.low; body_fits = h.fits };
      inside = h.inside;
      near = omega (arith, g.near, h.near);
      spelled = λ bytes. between-both (below-spelled s bytes at motifs 6 head then e) (h.spelled bytes);
    }))

pub rule-refused : (s : List ℕ) (at motifs colours : ℕ) (f : Fault) → rule_at s at motifs colours ≡ RefusedRule f → Blamed s (at + 12) f
rule-refused s at motifs colours f e = subst (RuleFound s at motifs colours) e (rule_found s at motifs colours)

-- a rule fits the counts, ...
pub rule_fits : (s : List ℕ) (at motifs colours : ℕ) (r : Rule) (next : ℕ) → rule_at s at motifs colours ≡ WholeRule r next → RuleFits motifs colours r
rule_fits s at motifs colours r next e = (subst (RuleFound s at motifs colours) e (rule_found s at motifs colours)).fits

-- ... and takes a few bytes
pub rule-near : (s : List ℕ) (at motifs colours : ℕ) (r : Rule) (next : ℕ) → rule_at s at motifs colours ≡ WholeRule r next → next ≤ at + 12
rule-near s at motifs colours r next e = (subst (RuleFound s at motifs colours) e (rule_found s at motifs colours)).near

-- ── The rules ──

-- a strict reader gives 18 too
pub known_by : (strict : Bool) {n : ℕ} → ReadersNumber n → NumberBy strict n
known_by true h = inl h
known_by false h = h

pub blamed-by : (strict : Bool) {s : List ℕ} {limit : ℕ} {f : Fault} → Blamed s limit f → BlamedBy (NumberBy strict) s limit f
blamed-by strict b = record { some = b.some; known = known_by strict b.known; inside = b.inside; near = b.near }

known-18 : (strict : Bool) (before : List Rule) (x : Rule) → repeats strict before x ≡ true → NumberBy strict 18
unfolding repeats and_then
known-18 true before x e = inr refl
known-18 false before x e = absurd (false≢true e)

-- so many rules that were read after those that stood before, the places after them still fixed
record Taken (strict : Bool) (s : List ℕ) (at motifs colours limit : ℕ) (done : List Rule) (k spare : ℕ) (r : RulesRead) : Type 0 where
  fine : r.fault ≡ fault 0 0
  new : List Rule
  count : length new ≡ k
  stand : r.rules ≡ done ++ (new ++ replicate spare no_rule)
  fit : (x : Rule) → Memᴰ x new → RuleFits motifs colours x
  once : NoCopies strict done → NoCopies strict (done ++ new)
  inside : r.next ≤ length s
  near : r.next ≤ limit
  spelled : Bytes s → Between s at r.next (spell_rules new)

module _ (strict : Bool) (s : List ℕ) (motifs colours limit spare : ℕ) where
  abbrev Ended : List Rule → ℕ → ℕ → RulesRead → Type 0
  Ended done at k r = Taken strict s at motifs colours limit done k spare r ⊎ BlamedBy (NumberBy strict) s limit r.fault

  -- the fixed places after the rules so far
  abbrev fixed : ℕ → List Rule
  fixed k = replicate k no_rule ++ replicate spare no_rule

  -- one rule in front of those that were taken after it
  one_more : (done : List Rule) (at k : ℕ) (x : Rule) (next : ℕ) (r : RulesRead) → RuleLies s at motifs colours x next
      → repeats strict done x ≡ false → Taken strict s next motifs colours limit (done ++ (x ∷ [])) k spare r → Taken strict s at motifs colours limit done (suc k) spare r
  one_more done at k x next r g new t =
      record {
        fine = t.fine;
        new = x ∷ t.new;
        count = ap suc t.count;
        stand = t.stand ∙ append_assoc done (x ∷ []) (t.new ++ replicate spare no_rule);
        fit = λ y m. ⊎_elim (λ e. subst (RuleFits motifs colours) (sym e) g.fits) (t.fit y) (Memᴰ.cases_cons m);
        once = λ p. subst (NoCopies strict) (append_assoc done (x ∷ []) t.new) (t.once (copies-more strict done x p new));
        inside = t.inside;
        near = t.near;
        spelled = λ bytes. between-both (g.spelled bytes) (t.spelled bytes);
      }

  ended : (k : ℕ) (rules done : List Rule) (i at : ℕ) → rules ≡ done ++ fixed k → length done ≡ i → at ≤ length s → at + 12 * k ≤ limit
      → Ended done at k (rules_from strict s motifs colours rules i at k)
  ended zero rules done i at e h l n =
      inl (record {
        fine = refl;
        new = [];
        count = refl;
        stand = e;
        fit = λ x m. absurd (Memᴰ.not-nil m);
        once = λ p. rw append-nil p;
        inside = l;
        near = omega arith;
        spelled = λ bytes. record { stands = refl };
      })
  ended (suc k) rules done i at e h l n =
      after_rule-ind (Ended done at (suc k)) refused_rules (rule_at s at motifs colours) _
      (λ f d. inr (blamed-by strict (blamed-later (omega arith) (rule-refused s at motifs colours f d))))
      (λ x next d.
      let g : RuleLies s at motifs colours x next = subst (RuleFound s at motifs colours) d (rule_found s at motifs colours) in
      let longer : set rules i x ≡ (done ++ (x ∷ [])) ++ fixed k = rw e (set_at done no_rule (fixed k) x i h ∙ sym (append_assoc done (x ∷ []) (fixed k))) in
      let before : take i rules ≡ done = rw e (take_at done (fixed (suc k)) i h) in
      pick_ind (Ended done at (suc k)) (repeats strict (take i rules) x) _ _
      (λ t. inr (record { some = omega arith; known = known-18 strict (take i rules) x t; inside = l; near = omega arith }))
      (λ t.
      ⊎_elim (λ u. inl (one_more done at k x next _ g (ap (λ (q : List Rule). repeats strict q x) (sym before) ∙ t) u)) (λ u. inr u)
      (ended k (set rules i x) (done ++ (x ∷ [])) (i + 1) next longer (omega (arith, length-append done (x ∷ []))) g.inside (omega (arith, g.near)))))

-- rules that were accepted: they fit, none stands twice, the other places are fixed, and they stand in the input as they are spelled
pub record RulesLie (strict : Bool) (s : List ℕ) (at motifs colours count limit : ℕ) (r : RulesRead) : Type 0 where
  pub fine : r.fault ≡ fault 0 0
  pub size : length r.rules ≡ most_rules
  pub fit : (x : Rule) → Memᴰ x (take count r.rules) → RuleFits motifs colours x
  pub once : NoCopies strict (take count r.rules)
  pub fixed : (i : ℕ) → count ≤ i → get_or r.rules i no_rule ≡ no_rule
  pub inside : r.next ≤ length s
  pub near : r.next ≤ limit
  pub spelled : Bytes s → Between s at r.next (spell_rules (take count r.rules))

fixed-after : (l : List Rule) (n i : ℕ) → length l ≤ i → get_or (l ++ replicate n no_rule) i no_rule ≡ no_rule
fixed-after [] zero i h = refl
fixed-after [] (suc n) zero h = refl
fixed-after [] (suc n) (suc i) h = fixed-after [] n i (omega arith)
fixed-after (x ∷ l) n zero h = absurd (omega arith)
fixed-after (x ∷ l) n (suc i) h = fixed-after l n i (omega arith)

-- the fixed rules, split at a count
pub no_rules-split : (count : ℕ) → count ≤ most_rules → no_rules ≡ replicate count no_rule ++ replicate (most_rules - count) no_rule
no_rules-split count few =
    let all : count + (most_rules - count) ≡ most_rules = omega arith in
    rw all at (sym (replicate-append-replicate count (most_rules - count) no_rule))

module _ (strict : Bool) (s : List ℕ) (at motifs colours count : ℕ) (few : count ≤ most_rules) (inside : at ≤ length s) where
  abbrev rules : RulesRead
  rules = rules_at strict s at motifs colours count

  rules-ended : Ended strict s motifs colours (at + 12 * count) (most_rules - count) [] at count rules
  unfolding rules_at
  rules-ended = ended strict s motifs colours (at + 12 * count) (most_rules - count) count no_rules [] 0 at (no_rules-split count few) refl inside (omega arith)

  pub rules-lie : rules.fault.number ≡ 0 → RulesLie strict s at motifs colours count (at + 12 * count) rules
  rules-lie z =
      ⊎_elim
      (λ t.
      let first : take count rules.rules ≡ t.new = rw t.stand (take_at t.new (replicate (most_rules - count) no_rule) count t.count) in
      record {
        fine = t.fine;
        size = ap length t.stand ∙ (length-append t.new (replicate (most_rules - count) no_rule) ∙ omega (arith, t.count, length-replicate (most_rules - count) no_rule));
        fit = rw first t.fit;
        once = rw first (t.once (copies-none strict));
        fixed = λ i h. rw t.stand (fixed-after t.new (most_rules - count) i (omega (arith, t.count)));
        inside = t.inside;
        near = t.near;
        spelled = λ bytes. rw first (t.spelled bytes);
      })
      (λ r. absurd (omega (arith, r.some))) rules-ended

  pub rules-refused : (rules.fault.number ≡ 0 → ⊥) → BlamedBy (NumberBy strict) s (at + 12 * count) rules.fault
  rules-refused z = ⊎_elim (λ t. absurd (z (ap (λ (f : Fault). f.number) t.fine))) (λ r. r) rules-ended
