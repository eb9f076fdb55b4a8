-- The rules gathered from two lent books are those of the combination: the second book's rules stand raised after the first's, their colours under their
-- numbers in the merged list, and the new ones follow.
use Prim.Native.Nat.{ℕ, ◌+◌, ◌≤◌, ◌<◌}
use mathlib.Core.Path.{◌≡◌, refl, sym, ◌∙◌, ap, ap₂, subst, subst⁻¹}
use mathlib.Core.Bool.{Bool, true}
use mathlib.Core.List.Memᴰ
use mathlib.Core.List.{List, [], ◌∷◌, ◌++◌, map, append_assoc, Memᴰ}
use native.Mathlib.Omega.{arith}
use lib.ListN.{length, get_or, length-append, length-map}
use Rattle.names.specs.Name.{listed}
use Rattle.names.specs.Spelling.{most_colours}
use Rattle.names.specs.Colours.{names_in}
use Rattle.names.proofs.ReadingColours.{names-count, name-at}
use Rattle.books.specs.Contents.{Contents}
use Rattle.books.specs.ContentsIn.{contents_in}
use Rattle.books.specs.Equal.{without_copies}
use Rattle.books.specs.Keeps.{BodyFits}
use Rattle.books.specs.RuleNumbers.{AllFit}
use Rattle.books.specs.declared.family.Family.{Family}
use Rattle.books.specs.declared.rule.Rule.{Rule}
use Rattle.books.specs.declared.rule.Body.{Body}
use Rattle.books.specs.declared.rule.Body.TheVariants.{Colour, Across, Down}
use Rattle.families.specs.Merged.{merged}
use Rattle.families.specs.inner.Merges.{Merges}
use Rattle.books.specs.Moved.{moved}
use Rattle.families.specs.Combine.{renumbered, raised, copies, both_books, joined, either_of}
use Rattle.families.specs.inner.Asked.{paired}
use Rattle.families.specs.inner.Gathered.{standing, missing, raised_by}
use Rattle.families.specs.inner.Lent.{rules_of, Lent}
use Rattle.families.specs.Limits.{counts_within?, within_limits?}
use Rattle.families.specs.inner.Combined.{raised_rules, first_adds, second_adds, AddsFit}
use Rattle.families.specs.inner.Made.{drafted_as, Drafts}
use Rattle.families.specs.declared.asked.Pairing.{Pairing}
use Rattle.families.specs.declared.asked.Pairing.TheVariants.{EitherOf, Joined}
use Rattle.families.specs.declared.merge.Merged.{Merged}
use Rattle.families.specs.declared.rules.Rules.{Rules}
use Rattle.families.proofs.AddingRules.{so_many}
use Rattle.families.proofs.Fitting.{fit-more, fit-copies, fit-second}
use Rattle.families.proofs.NoCopies.{either_of-rules}
use Rattle.families.proofs.Counting.{both-length}
use Rattle.families.proofs.Testing.{within-counts}
use Rattle.families.proofs.Drafts.{drafts, own-count}

map-agrees : (h k : Rule → Rule) (rs : List Rule) → ((r : Rule) → Memᴰ r rs → h r ≡ k r) → map h rs ≡ map k rs
map-agrees h k [] e = refl
map-agrees h k (r ∷ rs) e = λ i. e r (Memᴰ.head refl) i ∷ map-agrees h k rs (λ q m. e q (Memᴰ.tail m)) i

module _ (s t : List ℕ) (f g : Family) (m : Merged) (lf : Lent s f) (lg : Lent t g) (mm : Merges s f.colours t g.colours m) where
  abbrev first : Contents
  first = contents_in s f

  abbrev second : Contents
  second = contents_in t g

  -- a colour's number in the merged list is that of its name
  renumbered-same : (c : ℕ) → c < length second.colours → get_or m.numbers c 0 ≡ renumbered first second c
  renumbered-same c h =
      let less : c < g.colours.count = omega (arith, names-count t g.colours) in
      mm.numbered c less ∙ ap (listed (merged first.colours second.colours)) (sym (name-at t g.colours c less))

  body_same : (x : Body) → BodyFits g.motifs (length second.colours) x
      → moved (λ a. f.motifs + a) (λ c. get_or m.numbers c 0) x ≡ moved (λ a. f.motifs + a) (renumbered first second) x
  body_same (Colour c) h = ap Colour (renumbered-same c h)
  body_same (Across l r) h = refl
  body_same (Down u v) h = refl

  -- the second book's rules, raised
  abbrev risen : List Rule
  risen = raised_rules f g m.numbers

  risen-are : risen ≡ raised first second
  unfolding raised_by
  risen-are = map-agrees _ _ second.rules (λ r h i. record { head = f.motifs + r.head; body = body_same r.body (lg.keeps.sound.rules_fit r h).body_fits i })

  -- how many there are
  merged-count : length (merged first.colours second.colours) ≡ f.colours.count + m.more.count
  merged-count =
      sym (ap length mm.names)
      ∙ length-append first.colours (names_in t m.more)
      ∙ omega (arith, names-count s f.colours, names-count t m.more)

  pub more_few : m.more.count ≤ most_colours
  more_few = omega (arith, mm.few, lg.fitted.sized.colours_few)

  -- the motifs and the colours of any pairing, tested with the rules that it adds
  abbrev pub tested : ℕ → Bool
  tested added = counts_within? (f.colours.count + m.more.count) (f.motifs + g.motifs + 1) (f.count + g.count + added)

  both-test : (new : List Rule) → within_limits? (both_books first second new) ≡ tested (length new)
  both-test new =
      let rules : length (both_books first second new).rules ≡ f.count + g.count + length new =
      both-length first second new ∙ omega (arith, own-count s f lf.fitted.sized, own-count t g lg.fitted.sized) in
      within-counts (both_books first second new) _ _ _ merged-count refl rules

  -- the new start, and the second start raised
  abbrev new : ℕ
  new = f.motifs + g.motifs

  abbrev other : ℕ
  other = f.motifs + g.start

  new-few : new < 256
  new-few = omega (arith, lf.fitted.sized.motifs_few, lg.fitted.sized.motifs_few)

  -- what is added from each book
  abbrev pub first_new : Pairing → List Rule
  first_new p = first_adds p f.start new (rules_of f)

  abbrev pub second_new : Pairing → List Rule
  second_new p = second_adds p f.start (first_new p) risen other new

  paired_is : (p : Pairing) → paired p first second ≡ both_books first second (first_new p ++ second_new p)
  unfolding either_of without_copies joined
  paired_is EitherOf =
      let own : List Rule = copies new f.start first.rules in
      let rules = either_of-rules first second lf.keeps lg.keeps
      ∙ ap (λ (l : List Rule). (both_books first second (own ++ missing own (copies new other l))).rules) (sym risen-are) in
      λ i. record { colours = merged first.colours second.colours; motifs = new + 1; start = new; rules = rules i }
  paired_is (Joined way) = refl

  first_fit : (p : Pairing) → AllFit (first_new p)
  first_fit EitherOf =
      fit-copies _ _ new f.start first.rules new-few
      (fit-more _ _ _ _ first.rules (omega (arith, lf.keeps.motifs_few)) (omega (arith, lf.keeps.colours_ok.few)) lf.keeps.sound.rules_fit)
  first_fit (Joined way) = λ r m. absurd (Memᴰ.not-nil m)

  -- the parts of these rules fit a byte
  pub adds_fit : (p : Pairing) → AddsFit (first_new p) risen
  adds_fit p =
      record {
        copied_fit = first_fit p;
        raised_fit = subst AllFit (sym risen-are)
            (fit-more _ _ _ _ (raised first second) (omega (arith, lf.fitted.sized.motifs_few, lg.fitted.sized.motifs_few))
            (omega (arith, merged-count, more_few, lf.fitted.sized.colours_few)) (fit-second first second lf.keeps.sound lg.keeps.sound));
      }

  pub pair-test : (p : Pairing) → within_limits? (paired p first second) ≡ tested (length (first_new p) + length (second_new p))
  pair-test p = ap within_limits? (paired_is p) ∙ both-test (first_new p ++ second_new p) ∙ ap tested (length-append (first_new p) (second_new p))

  -- the rules of both with the new ones after them, drafted
  pub pair-drafts : (p : Pairing) (l : Rules)
      → standing l ≡ ((rules_of f ++ risen) ++ first_new p) ++ second_new p → within_limits? (paired p first second) ≡ true
      → Drafts s t (paired p first second) (drafted_as f.colours m.more (new + 1) new l)
  pair-drafts p l are small =
      let rules : standing l ≡ (both_books first second (first_new p ++ second_new p)).rules =
      are ∙ ap (λ (x : List Rule). ((first.rules ++ x) ++ first_new p) ++ second_new p) risen-are ∙ simp append_assoc in
      subst⁻¹ (λ (c : Contents). Drafts s t c (drafted_as f.colours m.more (new + 1) new l)) (paired_is p)
      (drafts s t f m.more l (both_books first second (first_new p ++ second_new p)) lf.fitted.sized more_few mm.names rules (sym (ap within_limits? (paired_is p)) ∙ small))

  -- The same of the rules as they were gathered.
  module _ (p : Pairing) (up copied added : Rules) (up_are : standing up ≡ risen) (copied_are : standing copied ≡ first_new p)
      (added_are : standing added ≡ second_adds p f.start (standing copied) (standing up) other new) where
    new_are : standing added ≡ second_new p
    new_are = added_are ∙ ap₂ (λ (x y : List Rule). second_adds p f.start x y other new) copied_are up_are

    pub raised-count : up.count ≡ g.count
    raised-count = so_many up up_are ∙ length-map (rules_of g) (raised_by f.motifs m.numbers) ∙ own-count t g lg.fitted.sized

    pub pair-counted : within_limits? (paired p first second) ≡ tested (copied.count + added.count)
    pair-counted =
        let counted : length (first_new p) + length (second_new p) ≡ copied.count + added.count =
        omega (arith, so_many copied copied_are, so_many added new_are) in
        pair-test p ∙ ap tested counted

    pub gathered-drafts : (l : Rules) → standing l ≡ ((rules_of f ++ standing up) ++ standing copied) ++ standing added
        → within_limits? (paired p first second) ≡ true → Drafts s t (paired p first second) (drafted_as f.colours m.more (new + 1) new l)
    gathered-drafts l are = pair-drafts p l (are ∙ (λ i. ((rules_of f ++ up_are i) ++ copied_are i) ++ new_are i))
