-- A book beside or above another derives exactly the joins of their pictures: its start has one rule, the join of both starts.
use Prim.Native.Nat.{◌+◌}
use mathlib.Core.Path.{◌≡◌, refl, ap}
use mathlib.Core.List.Memᴰ
use mathlib.Core.List.{List, [], ◌∷◌}
use mathlib.Core.Logic.{◌↔◌}
use native.Mathlib.Omega.{arith}
use Rattle.books.specs.Contents.{Contents, Has}
use Rattle.books.specs.Picture.{Picture, joins}
use Rattle.books.specs.declared.rule.Dir.{Dir}
use Rattle.books.specs.Derives.{Member}
use Rattle.books.specs.Keeps.{Sound}
use Rattle.books.specs.declared.rule.Rule.{Rule}
use Rattle.books.specs.declared.rule.Body.{Body}
use Rattle.families.specs.Joined.{Both}
use Rattle.families.specs.Combine.{raised, both_books, joined}
use Rattle.families.proofs.Heads.{HeadsFrom, heads-one}
use Rattle.families.proofs.Standing.{after_first, new-rule, first-derives, second-derives}
use Rattle.families.proofs.Joining.{both-map}
use Rattle.families.proofs.Reheading.{only-join, join-of}

module _ (d : Dir) (f g : Contents) (sf : Sound f) (sg : Sound g) where
  -- the join of both starts
  abbrev new : List Rule
  new = record { head = f.motifs + g.motifs; body = joins d f.start (f.motifs + g.start) } ∷ []

  heads : HeadsFrom (f.motifs + g.motifs) new
  heads = heads-one _ _ _ (omega arith)

  start-rule : (x : Body) → Has (both_books f g new) (f.motifs + g.motifs) x → x ≡ joins d f.start (f.motifs + g.start)
  start-rule x m = ap (λ (q : Rule). q.body) (Memᴰ.eq_of_singleton (new-rule f g new sf sg heads _ x (omega arith) m))

  start_has : Has (both_books f g new) (f.motifs + g.motifs) (joins d f.start (f.motifs + g.start))
  start_has = Memᴰ.append_right f.rules (Memᴰ.append_right (raised f g) (Memᴰ.head refl))

  pub joined-derives : (p : Picture) → Member (joined d f g) p ↔ Both d (Member f) (Member g) p
  unfolding joined
  joined-derives p =
      let first_in = first-derives f _ _ _ sf (after_first f g new sf sg heads) in
      let second_in = second-derives f g new sf sg heads in (
        λ x. both-map d (λ q. (first_in q).0) (λ q. (second_in q).0) (only-join _ _ d _ _ start-rule x),
        λ y. join-of _ _ d _ _ start_has (both-map d (λ q. (first_in q).1) (λ q. (second_in q).1) y),
      )
