-- What the answer about a tree means, from the bytes: 21 exactly where there is no such press, 0 exactly where both inputs are accepted and the row is a tree of the sheet, 16 exactly
-- where they are accepted and it is none, with the place of the first node that fails; and some row is accepted exactly where the family has the sheet. Stated on the parts of the
-- answer, and for the C host on the number taken apart as the header does.
use Prim.Native.Nat.{ℕ, ◌*◌, ◌/◌, ◌%◌, ◌^◌, ◌≤◌, ◌<◌}
use mathlib.Core.Path.{◌≡◌, refl, ap}
use mathlib.Core.List.{List, ◌∷◌, ◌++◌}
use mathlib.Core.Logic.{◌↔◌, ◌⊎◌, inl, inr}
use native.Mathlib.Omega.{arith}
use lib.ListN.{length}
use Rattle.names.specs.Fault.{Fault}
use Rattle.names.proofs.Tests.{together, neither}
use Rattle.books.specs.Answer.{InputsNumber, answer, packed, Packs}
use Rattle.books.specs.Contents.{Contents}
use Rattle.books.specs.Derives.{Member}
use Rattle.books.specs.Lent.{contents_of, picture_of, Accepted}
use Rattle.books.specs.Picture.{Picture}
use Rattle.books.specs.Size.{room}
use Rattle.books.specs.declared.answer.Answer.{Answer}
use Rattle.books.proofs.Packing.{apart, plain-packs}
use Rattle.books.proofs.ReadingSheets.{sheet-lies}
use Rattle.books.proofs.Refusals.{Blames, own-blames, refusal-listed, refusal-blames, refusal-other, refusal-never, refusal-packs}
use Rattle.trees.specs.declared.node.Node.{Node}
use Rattle.trees.specs.Due.{RightAt, WrongAt}
use Rattle.trees.specs.Trees.{TreeOf, Ends, a_tree, fails, left_over}
use Rattle.trees.specs.Outcome.{tree_answer}
use Rattle.trees.proofs.Theorems.{one_end}
use Rattle.trees.proofs.Counting.{cells, Some, tree-count, fails-count}
use Rattle.trees.proofs.OwnTree.{some-tree}
use Rattle.trees.proofs.Endings.{tree-ends}
use Rattle.trees.proofs.FirstThatFails.{tree-right, right-before, wrong-there}

-- the row begins with a tree of so many nodes, and goes on
pub record LeftOver (b : Contents) (p : Picture) (nodes : List Node) (count : ℕ) : Type 0 where
  pub tree : List Node
  pub next : Node
  pub others : List Node
  pub begins : nodes ≡ tree ++ (next ∷ others)
  pub derives : TreeOf b b.start p tree
  pub counted : count ≡ length tree

module _ (press : ℕ) (book sheet : List ℕ) (nodes : List Node) where
  abbrev b : Contents
  b = contents_of book

  abbrev p : Picture
  p = picture_of press sheet

  -- the lent row is a tree of the lent sheet for the start motif of the lent book
  abbrev pub IsTree : Type 0
  IsTree = TreeOf b b.start p nodes

  -- A call that was lent a book, a sheet and a row of nodes answers so.
  pub record Answered (number blamed place : ℕ) : Type 0 where
    pub listed : InputsNumber number ⊎ ((number ≡ 21) ⊎ (number ≡ 16))
    pub blames : Blames press book sheet number blamed place
    pub sixteen : (number ≡ 16) ↔ (Accepted press book sheet × (IsTree → ⊥))
    pub zero : (number ≡ 0) ↔ (Accepted press book sheet × IsTree)
    -- 16 stands at the first node that fails or is missing, or after the tree where nodes are left over: every node before it is right for what it is due for
    pub before : number ≡ 16 → (i : ℕ) → i < place → RightAt b b.start p nodes i
    pub there : number ≡ 16 → WrongAt b b.start p nodes place ⊎ LeftOver b p nodes place

  abbrev Obeys : Answer → Type 0
  Obeys a = Answered a.number a.blamed a.place

  no-tree : (place : ℕ) → Accepted press book sheet → Ends b p nodes (record { number = 16; place = place }) → ((i : ℕ) → i < place → RightAt b b.start p nodes i)
      → WrongAt b b.start p nodes place ⊎ LeftOver b p nodes place → Answered 16 0 place
  no-tree place fine end right found =
      let none : IsTree → ⊥ = λ t. omega (arith, ap (λ (f : Fault). f.number) (one_end b p end (a_tree t))) in
      record {
        listed = inr (inr refl);
        blames = own-blames fine 16 place refl (λ n. absurd (n refl));
        sixteen = together refl (fine, none);
        zero = neither (λ e. omega arith) (λ x. none x.1);
        before = λ _. right;
        there = λ _. found;
      }

  obeys : Obeys (tree_answer press book sheet nodes)
  obeys =
      tree-ends press book sheet nodes Obeys
      (record {
        refused = λ a r.
            record {
              listed = refusal-listed r;
              blames = refusal-blames r;
              sixteen = refusal-never r 16 refl (λ x. x.0);
              zero = refusal-never r 0 refl (λ x. x.0);
              before = λ e. absurd (refusal-other r 16 refl e);
              there = λ e. absurd (refusal-other r 16 refl e);
            };
        failing = λ fine i x. no-tree i fine (fails x) (right-before b x) (inl (wrong-there b x));
        over = λ fine xs v vs e t.
            no-tree (length xs) fine (rw e (left_over v vs t)) (λ i h. rw e (tree-right b t (v ∷ vs) i h))
            (inr (record { tree = xs; next = v; others = vs; begins = e; derives = t; counted = refl }));
        derived = λ fine t.
            record {
              listed = inl (inl (omega arith));
              blames = own-blames fine 0 0 refl (λ _. refl);
              sixteen = neither (λ e. omega arith) (λ x. x.1 t);
              zero = together refl (fine, t);
              before = λ e. absurd (omega arith);
              there = λ e. absurd (omega arith);
            };
      })

  -- ── Packing ──

  -- an accepted sheet has cells, and not too many
  some : Accepted press book sheet → Some p × (cells p ≤ room)
  some fine =
      let s = sheet-lies press sheet fine.sheet_fine in
      (record { tall = s.within.rows_some; wide = s.within.cols_some }, omega (arith, s.area_few))

  pub tree-packs : Packs (tree_answer press book sheet nodes) 0
  tree-packs =
      tree-ends press book sheet nodes (λ a. Packs a 0)
      (record {
        refused = λ a r. refusal-packs r;
        failing = λ fine i x. at_place i (omega (arith, fails-count x (some fine).0, (some fine).1));
        over = λ fine xs v vs e t. at_place (length xs) (omega (arith, tree-count t, (some fine).1));
        derived = λ fine t. plain-packs 0 0 (omega arith) (omega arith);
      })
    where
      at_place : (i : ℕ) → i < 2 * room → Packs (answer 16 0 i) 0
      at_place i h = record { number_fits = omega arith; blamed_fits = omega arith; place_fits = omega arith; count_fits = omega arith }

  -- ── The theorems ──

  -- 21 exactly where there is no such press, 1 to 8 or 18 exactly where there is and an input is refused, 0 exactly where both are
  -- accepted and the row is a tree of the whole sheet for the start motif, 16 exactly where it is none
  pub check_tree-answered : (r : Answer) → r ≡ tree_answer press book sheet nodes → Answered r.number r.blamed r.place
  check_tree-answered r e = rw e obeys

  pub record Called (r : ℕ) : Type 0 where
    pub parts : Answered (r % 2 ^ 8) (r / 2 ^ 8 % 2 ^ 4) (r / 2 ^ 12 % 2 ^ 20)
    pub counted : r / 2 ^ 32 ≡ 0

  pub dv_check_tree-called : (r : ℕ) → r ≡ packed (tree_answer press book sheet nodes) 0 → Called r
  dv_check_tree-called r e =
      let parts = apart (tree_answer press book sheet nodes) 0 tree-packs in
      rw e (record { parts = rw (parts.number_is, parts.blamed_is, parts.place_is) obeys; counted = parts.count_is })

-- Some row is accepted exactly where both inputs are and the family has the sheet.
pub some-row : (press : ℕ) (book sheet : List ℕ) → ((nodes : List Node) × ((tree_answer press book sheet nodes).number ≡ 0))
    ↔ (Accepted press book sheet × Member (contents_of book) (picture_of press sheet))
some-row press book sheet =
    let b = contents_of book in
    let p = picture_of press sheet in (
      λ (nodes, e). let (fine, t) = (obeys press book sheet nodes).zero.0 e in (fine, (some-tree b p b.start).0 (nodes, t)),
      λ (fine, x). let (nodes, t) = (some-tree b p b.start).1 x in (nodes, (obeys press book sheet nodes).zero.1 (fine, t)),
    )
