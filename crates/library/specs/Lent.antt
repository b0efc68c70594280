-- How an array goes to whoever calls: "each array to a lent buffer, as many of its bytes as that has room for".
use Rattle.std.specs.Prelude.{List, ◌++◌, ℕ, length, take, drop}

-- the buffer's bytes after that; those past the array stay
unfoldable pub lent : List ℕ → List ℕ → List ℕ
lent bytes room = take (length room) bytes ++ drop (length bytes) room
