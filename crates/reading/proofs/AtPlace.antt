-- Bytes that stand in a list from a place on. Assumes nothing.
use mathlib.Core.Path.{◌≡◌, sym, ◌∙◌, ap}
use mathlib.Core.List.{List, ◌∷◌, ◌++◌}
use Prim.Native.Nat.{ℕ, ◌+◌}
use native.Mathlib.Nat.{add-zero}
use lib.ListN.{length, drop}
use lib.Seq.{drop-drop, drop-append_seam, get_or-drop}
use Rattle.reading.specs.Word.{byte}

module _ (B : List ℕ) where
  -- the first of them, and those after it
  pub byte_here : (i b : ℕ) (R : List ℕ) → drop i B ≡ b ∷ R → byte B i ≡ b
  byte_here i b R e =
      ap (byte B) (sym (add-zero i)) ∙ sym (get_or-drop i B 0 0) ∙ ap (λ (l : List ℕ). byte l 0) e

  pub byte_next : (i b : ℕ) (R : List ℕ) → drop i B ≡ b ∷ R → drop (i + 1) B ≡ R
  byte_next i b R e = sym (drop-drop 1 i B) ∙ ap (drop 1) e

  -- the same at a place that is said otherwise
  pub at_place : {i j : ℕ} {R : List ℕ} → i ≡ j → drop j B ≡ R → drop i B ≡ R
  at_place e d = ap (λ (k : ℕ). drop k B) e ∙ d

  -- what stands after some of them, at j
  pub past : (i j : ℕ) (X R : List ℕ) → j ≡ i + length X → drop i B ≡ X ++ R → drop j B ≡ R
  past i j X R h e =
      at_place h (sym (drop-drop (length X) i B) ∙ ap (drop (length X)) e ∙ drop-append_seam X R)
