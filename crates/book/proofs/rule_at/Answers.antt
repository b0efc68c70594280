-- The two counts give the rest. Assumes nothing.
use native.Mathlib.Omega.{arith}
use mathlib.Core.Path.{◌≡◌}
use mathlib.Core.List.{List}
use Prim.Native.Nat.{ℕ, ◌+◌}
use Rattle.book.specs.declared.Parts.{Parts}
use Rattle.reading.specs.Word.{byte}
use Rattle.reading.specs.Book.{head_at}
use Rattle.reading.proofs.Forms.{new_head}
use Rattle.book.specs.Parts.{parts_at}
use Rattle.book.proofs.rule_at.Goals as goal

-- the parts by their four numbers
parts_are : (B : List ℕ) (s : ℕ) {w x y z : ℕ} → w ≡ s + 2 → x ≡ byte B s → y ≡ head_at B s → z ≡ byte B (s + 1)
    → ◌≡◌ {A = Parts} (record { body = w; bodies = x; head = y; heads = z }) (parts_at B s)
parts_are B s body bodies head heads = cc

pub returns : goal.returns
returns c =
    let a = c.args in
    let seven = new_head a.book.now c.requires.1 a.s in
    let b = c.from-b.ensures in
    let h = c.from-h.ensures in
    parts_are a.book.now a.s (omega arith) (omega (arith, b, h)) (omega (arith, b, seven))
    (omega (arith, b, h))
