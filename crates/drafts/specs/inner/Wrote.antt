-- What a writer has done: it stands so many bytes further on, and where there was room for them they stand at their place, all else as it was.
use Rattle.std.specs.Prelude.{ℕ, ◌+◌, ◌-◌, ◌^◌, ◌≡◌, ◌≤◌, List, ◌++◌, length, min}
use Rattle.names.specs.Name.{Name}
use Rattle.names.specs.Number.{spell_number}
use Rattle.names.specs.Put.{put}
use Rattle.drafts.specs.declared.writer.Writer.{Writer}

pub record Wrote (before : Writer) (bytes : List ℕ) (after : Writer) : Type 0 where
  pub slice : after.out.ghost_name ≡ before.out.ghost_name
  pub as_long : length after.out.now ≡ length before.out.now
  pub at_most : after.at ≤ before.at + length bytes
  pub at_least : min (before.at + length bytes) (2 ^ 64 - 1) ≤ after.at
  pub held : before.at + length bytes ≤ length before.out.now → after.out.now ≡ put before.out.now before.at bytes

-- a name after its length
abbrev pub spell_name : Name → List ℕ
spell_name n = spell_number (length n) ++ n
