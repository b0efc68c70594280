-- A part of a buffer that is written over, by the front of some bytes. Assumes nothing.
use mathlib.Core.Path.{◌≡◌, sym, ◌∙◌, ap, ap₂}
use mathlib.Core.List.{List, ◌++◌, append_assoc}
use Prim.Native.Nat.{ℕ, ◌+◌}
use borrow.Rule.Slice.PartMut.{put_mid}
use lib.ListN.{take, drop}
use lib.Seq.{paste, drop-drop}

-- the front of some bytes is written
pub put_front : (t s bytes : List ℕ) (at k m n : ℕ) → bytes ≡ take m s → m ≡ n → k ≡ n
    → put_mid at k t bytes ≡ paste t at s n
put_front t s bytes at k m n e f g =
    ap₂ (λ (x r : List ℕ). take at t ++ (x ++ r)) (e ∙ ap (λ (j : ℕ). take j s) f)
    (drop-drop k at t ∙ ap (λ (j : ℕ). drop (at + j) t) g)
    ∙ sym (append_assoc (take at t) (take n s) (drop (at + n) t))
