-- Rows judged by computing, of a sheet of a red cell, a blue one and a red one, and of a book whose start joins two of itself.
use Prim.Native.Nat.{ℕ, zero, suc}
use mathlib.Core.Path.{◌≡◌, refl}
use mathlib.Core.List.{List, [], ◌∷◌}
use Rattle.names.specs.Name.{Name, same_name}
use Rattle.names.specs.Pick.{and_then, fault}
use Rattle.books.specs.Contents.{Contents}
use Rattle.books.specs.Picture.{Picture}
use Rattle.books.specs.Decide.{called?}
use Rattle.books.specs.declared.rule.Body.TheVariants.{Colour, Across}
use Rattle.trees.specs.declared.node.Node.{Node}
use Rattle.trees.specs.Judge.{checked, judge, judge_in, step, body_step, join_step}

-- colours "r" and "b"; motif 0 is a red cell, a blue cell, or two of motif 0 side by side, and motif 1 is a red cell
pub book : Contents
book =
    record {
      colours = (114 ∷ []) ∷ (98 ∷ []) ∷ [];
      motifs = 2;
      start = 0;
      rules =
          record { head = 0; body = Colour 0 }
          ∷ record { head = 0; body = Colour 1 }
          ∷ record { head = 0; body = Across 0 0 }
          ∷ record { head = 1; body = Colour 0 }
          ∷ [];
    }

pub paint : ℕ → Name
paint zero = 114 ∷ []
paint (suc zero) = 98 ∷ []
paint (suc (suc n)) = 114 ∷ []

-- red, blue, red
pub sheet : Picture
sheet = record { rows = 1; cols = 3; cell = λ i j. paint j }

pub n : ℕ → ℕ → Node
n i k = record { rule = i; cut = k }

abbrev pub Ends : List Node → ℕ → ℕ → Type 0
Ends ns number place = checked book sheet ns ≡ fault number place

pub record Examples : Type 0 where
  -- two trees of one picture, by different cuts
  pub first_cut : Ends (n 2 1 ∷ n 0 0 ∷ n 2 1 ∷ n 1 0 ∷ n 0 0 ∷ []) 0 0
  pub second_cut : Ends (n 2 2 ∷ n 2 1 ∷ n 0 0 ∷ n 1 0 ∷ n 0 0 ∷ []) 0 0
  -- no node; one missing; one over
  pub none_at_all : Ends [] 16 0
  pub one_short : Ends (n 2 1 ∷ n 0 0 ∷ n 2 1 ∷ n 1 0 ∷ []) 16 4
  pub one_over : Ends (n 2 1 ∷ n 0 0 ∷ n 2 1 ∷ n 1 0 ∷ n 0 0 ∷ n 0 0 ∷ []) 16 5
  -- a cut that leaves a part empty, on either side
  pub cut_0 : Ends (n 2 0 ∷ n 0 0 ∷ []) 16 0
  pub cut_3 : Ends (n 2 3 ∷ n 0 0 ∷ []) 16 0
  -- no such rule; another motif's rule; a colour rule on two cells; another colour; a cut in a leaf
  pub no_such_rule : Ends (n 2 1 ∷ n 4 0 ∷ n 2 1 ∷ n 1 0 ∷ n 0 0 ∷ []) 16 1
  pub other_motif : Ends (n 2 1 ∷ n 3 0 ∷ n 2 1 ∷ n 1 0 ∷ n 0 0 ∷ []) 16 1
  pub two_cells : Ends (n 2 1 ∷ n 0 0 ∷ n 1 0 ∷ []) 16 2
  pub other_colour : Ends (n 2 1 ∷ n 0 0 ∷ n 2 1 ∷ n 0 0 ∷ n 0 0 ∷ []) 16 3
  pub cut_leaf : Ends (n 2 1 ∷ n 0 0 ∷ n 2 1 ∷ n 1 0 ∷ n 0 1 ∷ []) 16 4

pub examples : Examples
unfolding book paint sheet n checked judge judge_in step body_step join_step and_then called? same_name
examples =
    record {
      first_cut = refl;
      second_cut = refl;
      none_at_all = refl;
      one_short = refl;
      one_over = refl;
      cut_0 = refl;
      cut_3 = refl;
      no_such_rule = refl;
      other_motif = refl;
      two_cells = refl;
      other_colour = refl;
      cut_leaf = refl;
    }
