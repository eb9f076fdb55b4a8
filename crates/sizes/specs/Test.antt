-- Whether a motif has a size, computed: the plain search. A cut leaves fewer rows and columns in all, so that their number bounds the depth.
use Rattle.std.specs.Prelude.{ℕ, ◌+◌, Bool}
use Rattle.books.specs.Contents.{Contents}
use Rattle.books.specs.Search.{gives_in}
use Rattle.books.specs.declared.size.Size.{Size}
use Rattle.sizes.specs.HasSize.{sizes}

unfoldable pub has_size? : Contents → ℕ → Size → Bool
has_size? b a s = gives_in (sizes b) b.rules (s.rows + s.cols) a s
