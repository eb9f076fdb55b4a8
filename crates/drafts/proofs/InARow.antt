-- Two writings in a row are one: the second begins where the first ends. So what is spelled element by element is written element by element.
use Prim.Native.Nat.{ℕ, ◌+◌, ◌-◌, ◌^◌, ◌≤◌, ◌<◌, min}
use mathlib.Core.Path.{◌≡◌, refl, sym, ap, ◌∙◌}
use mathlib.Core.List.{List, [], ◌∷◌, ◌++◌, append-nil, append_assoc}
use mathlib.Core.Logic.{⊎_elim}
use native.Mathlib.Omega.{arith}
use lib.ListN.{length, get_or, take, length-append}
use Rattle.std.proofs.lemmas.List.{take_more}
use Rattle.names.specs.Number.{spell_number}
use Rattle.names.specs.Put.{Puts, put, past}
use Rattle.names.specs.Spelling.{spell_names}
use Rattle.names.proofs.Tests.{lt-or-le}
use Rattle.names.proofs.Putting.{past-in, past-out, put-length, put-nil, put-put}
use Rattle.books.specs.SpellBook.{spell_rule, spell_rules}
use Rattle.drafts.specs.declared.writer.Writer.{Writer}
use Rattle.drafts.specs.inner.Wrote.{Wrote, spell_name}

-- ── Writings ──

pub wrote_nothing : (w : Writer) → Wrote w [] w
wrote_nothing w = record { slice = refl; as_long = refl; at_most = omega arith; at_least = omega arith; held = λ _. sym (put-nil w.out.now w.at) }

pub wrote_then : {w v u : Writer} {a b : List ℕ} → length w.out.now < 2 ^ 63 → Wrote w a v → Wrote v b u → Wrote w (a ++ b) u
wrote_then {w} {v} {u} {a} {b} short one two =
    let sum : length (a ++ b) ≡ length a + length b = length-append a b in
    record {
      slice = two.slice ∙ one.slice;
      as_long = two.as_long ∙ one.as_long;
      at_most = omega (arith, one.at_most, two.at_most);
      at_least = omega (arith, one.at_least, two.at_least);
      held = λ room.
          let at : v.at ≡ w.at + length a = omega (arith, one.at_most, one.at_least) in
          two.held (omega (arith, one.as_long)) ∙ rw (one.held (omega arith), at) (put-put w.out.now w.at a b (omega arith));
    }

-- bytes were put where the writer stood, and it goes on after them, whether they fit or not
pub wrote_there : (w v : Writer) (l : List ℕ) (next : ℕ) → Puts w.out.now w.at l next v.out.now → v.out.ghost_name ≡ w.out.ghost_name
    → ((next ≡ w.at → ⊥) → v.at ≡ next) → (next ≡ w.at → v.at ≡ min (w.at + length l) (2 ^ 64 - 1)) → Wrote w l v
wrote_there w v l next p slice written counted =
    let place : (v.at ≤ w.at + length l) × (min (w.at + length l) (2 ^ 64 - 1) ≤ v.at) =
    ⊎_elim
    (λ (h : length w.out.now < w.at + length l). let here : next ≡ w.at = p.0 ∙ past-out w.out.now w.at l h in (omega (arith, counted here), omega (arith, counted here)))
    (λ (h : w.at + length l ≤ length w.out.now).
    let there : next ≡ w.at + length l = p.0 ∙ past-in w.out.now w.at l h in
    ⊎_elim
    (λ (g : w.at < next). let on : v.at ≡ next = written (λ e. omega arith) in (omega arith, omega arith))
    (λ (g : next ≤ w.at). let here : next ≡ w.at = omega arith in (omega (arith, counted here), omega (arith, counted here)))
    (lt-or-le w.at next))
    (lt-or-le (length w.out.now) (w.at + length l)) in
    record { slice = slice; as_long = ap length p.1 ∙ put-length w.out.now w.at l; at_most = place.0; at_least = place.1; held = λ _. p.1 }

-- ── Bytes of any list ──

-- bytes stand at a place of a list, and the place after them is told
pub record PutAt (before : List ℕ) (at : ℕ) (bytes : List ℕ) (next : ℕ) (after : List ℕ) : Type 0 where
  pub place : next ≡ at + length bytes
  pub held : after ≡ put before at bytes

pub put_at : {before after : List ℕ} {at next : ℕ} (l : List ℕ) → next ≡ past before at l → after ≡ put before at l → at + length l ≤ length before → PutAt before at l next after
put_at {before} {after} {at} l p h room = record { place = p ∙ past-in before at l room; held = h }

pub put_at-length : {before after l : List ℕ} {at next : ℕ} → PutAt before at l next after → length after ≡ length before
put_at-length {before} {l = l} {at = at} w = ap length w.held ∙ put-length before at l

pub put_at-then : {before between after a b : List ℕ} {at next end : ℕ} → at + length (a ++ b) ≤ length before
    → PutAt before at a next between → PutAt between next b end after → PutAt before at (a ++ b) end after
put_at-then {before} {between} {after} {a} {b} {at} {next} {end} room w v =
    let sum : length (a ++ b) ≡ length a + length b = length-append a b in
    record {
      place = omega (arith, v.place, w.place);
      held = v.held ∙ (rw (w.held, w.place) (put-put before at a b (omega arith)));
    }

-- ── Lists ──

-- a list is spelled element by element
pub record InTurn {A : Type 0} (all : List A → List ℕ) (each : A → List ℕ) : Type 0 where
  pub none : all [] ≡ []
  pub more : (x : A) (xs : List A) → all (x ∷ xs) ≡ each x ++ all xs

pub names-turn : InTurn spell_names spell_name
names-turn = record { none = refl; more = λ n ns. sym (append_assoc (spell_number (length n)) n (spell_names ns)) }

pub rules-turn : InTurn spell_rules spell_rule
rules-turn = record { none = refl; more = λ r rs. refl }

module _ {A : Type 0} {all : List A → List ℕ} {each : A → List ℕ} (turn : InTurn all each) where
  pub turn-append : (xs ys : List A) → all (xs ++ ys) ≡ all xs ++ all ys
  turn-append [] ys = rw turn.none refl
  turn-append (x ∷ xs) ys = turn.more x (xs ++ ys) ∙ ap (λ (l : List ℕ). each x ++ l) (turn-append xs ys) ∙ rw (turn.more x xs) (sym (append_assoc (each x) (all xs) (all ys)))

  turn-one : (x : A) → all (x ∷ []) ≡ each x
  turn-one x = turn.more x [] ∙ rw turn.none (append-nil (each x))

  -- the first so many, and the next
  pub wrote-next : {w v u : Writer} (xs : List A) (i : ℕ) (x : A) → i < length xs → length w.out.now < 2 ^ 63 → Wrote w (all (take i xs)) v → Wrote v (each (get_or xs i x)) u
      → Wrote w (all (take (i + 1) xs)) u
  wrote-next xs i x h short before one =
      rw (take_more xs i x h, turn-append (take i xs) (get_or xs i x ∷ []), turn-one (get_or xs i x)) (wrote_then short before one)
