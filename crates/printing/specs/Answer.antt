-- What is printed for a book: the contract of `answer`.
use Rattle.std.specs.Prelude.{cond, List, [], ℕ, ltb}
use Rattle.exploration.specs.Answer.{result}
use Rattle.exploration.specs.Union.{output_size}
use Rattle.printing.specs.Printed.{printed}

-- the bytes that the longest text needs, and more
abbrev pub text_size : ℕ
text_size = 24576

-- what is printed for a book into a text of so many bytes: nothing where it might not fit
unfoldable pub lines_of : List ℕ → ℕ → List ℕ
lines_of book room = let lines = printed (result book output_size) in cond (ltb room text_size) [] lines
