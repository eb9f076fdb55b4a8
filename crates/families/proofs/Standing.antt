-- Each book stands inside a combination: the first as it is, since a combination begins with its rules and colours, and the second with its motifs
-- raised and its colours under their names. So both derive there what they derive by themselves.
use Prim.Native.Nat.{ℕ, ◌+◌, ◌≤◌, ◌<◌}
use mathlib.Core.Path.{◌≡◌, refl, sym, ◌∙◌, ap}
use mathlib.Core.List.Memᴰ
use mathlib.Core.List.{List, [], ◌++◌, Memᴰ}
use mathlib.Core.Logic.{◌↔◌}
use native.Mathlib.Omega.{arith}
use lib.ListN.{length, get_or, length-append, get_or-append}
use Rattle.names.specs.Name.{Name}
use Rattle.names.proofs.Listing.{get_or-mem, listed_found}
use Rattle.books.specs.Contents.{Contents, Has, name}
use Rattle.books.specs.Picture.{Picture}
use Rattle.books.specs.Derives.{Derives, Member}
use Rattle.books.specs.Keeps.{Sound}
use Rattle.books.specs.declared.rule.Rule.{Rule}
use Rattle.books.specs.declared.rule.Body.{Body}
use Rattle.books.specs.declared.rule.Body.TheVariants.{Colour, Across, Down}
use Rattle.families.specs.Merged.{without, merged}
use Rattle.books.specs.Moved.{moved}
use Rattle.families.specs.Combine.{renumbered, raised, both_books}
use Rattle.families.proofs.Merging.{merged-mem}
use Rattle.families.proofs.Heads.{HeadsFrom, heads-own, heads-raised, heads-raised-below, heads-append, heads-more, in_first, in_rest}
use Rattle.books.proofs.Moving.{has-cast}
use Rattle.families.proofs.Inside.{Inside, inside-forth, inside_back}

moved_same : (x : Body) → moved (λ n. n) (λ n. n) x ≡ x
moved_same (Colour c) = refl
moved_same (Across l r) = refl
moved_same (Down u v) = refl

-- h begins with f: its rules and colours come first, and the rules that follow have other heads.
pub record After (f h : Contents) (rs : List Rule) (cs : List Name) : Type 0 where
  pub rules_are : h.rules ≡ f.rules ++ rs
  pub colours_are : h.colours ≡ f.colours ++ cs
  pub heads_are : HeadsFrom f.motifs rs

module _ (f h : Contents) (rs : List Rule) (cs : List Name) (sf : Sound f) (s : After f h rs cs) where
  pub first-rule : (a : ℕ) (x : Body) → a < f.motifs → Has h a x → Has f a x
  first-rule a x ha m = in_first f.motifs f.rules rs s.heads_are _ ha (rw s.rules_are at m)

  pub later-rule : (a : ℕ) (x : Body) → f.motifs ≤ a → Has h a x → Memᴰ (record { head = a; body = x }) rs
  later-rule a x ha m = in_rest f.motifs f.rules rs (heads-own f sf) _ ha (rw s.rules_are at m)

  first-inside : Inside f h (λ n. n) (λ n. n)
  first-inside =
      record {
        forth = λ a x m. rw s.rules_are (Memᴰ.append_left rs (has-cast f refl (moved_same x) m));
        back = λ a y ha m. (y, first-rule a y ha m, sym (moved_same y));
        named = λ k hk. (
          omega (arith, ap length s.colours_are, length-append f.colours cs),
          sym (ap (λ (l : List Name). get_or l k []) s.colours_are ∙ get_or-append f.colours cs [] k hk),
        );
      }

  pub first-derives : (p : Picture) → Derives h f.start p ↔ Member f p
  first-derives p = (λ x. inside_back f h _ _ sf first-inside x f.start sf.start_fits refl, inside-forth f h _ _ sf first-inside)

-- Both books, and rules of a new start.
module _ (f g : Contents) (rs : List Rule) (sf : Sound f) (sg : Sound g) (heads : HeadsFrom (f.motifs + g.motifs) rs) where
  abbrev both : Contents
  both = both_books f g rs

  -- seen from f, the rules of g and the new ones follow
  pub after_first : After f both (raised f g ++ rs) (without f.colours g.colours)
  unfolding merged
  after_first =
      record {
        rules_are = refl;
        colours_are = refl;
        heads_are = heads-append _ (raised f g) rs (heads-raised f g) (heads-more _ (f.motifs + g.motifs) rs (omega arith) heads);
      }

  pub second-rule : (a : ℕ) (x : Body) → f.motifs ≤ a → a < f.motifs + g.motifs → Has both a x
      → Memᴰ (record { head = a; body = x }) (raised f g)
  second-rule a x ha hb m =
      in_first (f.motifs + g.motifs) (raised f g) rs heads _ hb (later-rule f both _ _ sf after_first a x ha m)

  pub new-rule : (a : ℕ) (x : Body) → f.motifs + g.motifs ≤ a → Has both a x → Memᴰ (record { head = a; body = x }) rs
  new-rule a x ha m =
      in_rest (f.motifs + g.motifs) (raised f g) rs (heads-raised-below f g sg) _ ha (later-rule f both _ _ sf after_first a x (omega arith) m)

  second-inside : Inside g both (λ n. f.motifs + n) (renumbered f g)
  second-inside =
      record {
        forth = λ a x m. Memᴰ.append_right f.rules (Memᴰ.append_left rs (Memᴰ.map _ m));
        back = λ a y ha m.
            let (r, hr, e) = Memᴰ.of_map _ g.rules (second-rule (f.motifs + a) y (omega arith) (omega arith) m) in
            (r.body, has-cast g (omega (arith, ap (λ (q : Rule). q.head) e)) refl hr, sym (ap (λ (q : Rule). q.body) e));
        named = λ k hk.
            let m = merged-mem f.colours g.colours (name g k) (get_or-mem g.colours k [] hk) in
            let (low, is) = listed_found (merged f.colours g.colours) (name g k) m in
            (low, sym is);
      }

  pub second-derives : (p : Picture) → Derives both (f.motifs + g.start) p ↔ Member g p
  second-derives p = (λ x. inside_back g both _ _ sg second-inside x g.start sg.start_fits refl, inside-forth g both _ _ sg second-inside)
