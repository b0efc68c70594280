-- Bytes and words put one after the other: one more of them. Assumes nothing.
use mathlib.Core.Path.{◌≡◌, ◌∙◌, ap, subst}
use mathlib.Core.List.{List, [], ◌∷◌, ◌++◌}
use Prim.Native.Nat.{ℕ, zero, suc, ◌+◌, ◌≤◌, ◌<◌}
use native.Mathlib.Numerals.{add-one}
use native.Mathlib.Omega.{arith}
use lib.ListN.{length, get_or, set, take, drop, length-drop, length-set}
use lib.Seq.{take-suc, get_or-drop}
use Rattle.covering.specs.Lists.{gather}
use Rattle.covering.specs.Put.{Puts}
use Rattle.covering.proofs.Lists.{gather_append}
use Rattle.covering.proofs.Putting.{put_one, then}
use Rattle.reading.specs.Word.{word_bytes}

-- one byte more of those from i on
pub byte_more : (B : List ℕ) (i k : ℕ) → i + k < length B
    → take (k + 1) (drop i B) ≡ take k (drop i B) ++ get_or B (i + k) 0 ∷ []
byte_more B i k l =
    ap (λ (n : ℕ). take n (drop i B)) (add-one k)
    ∙ take-suc (drop i B) k 0 (omega (arith, length-drop i B))
    ∙ ap (λ (b : ℕ). take k (drop i B) ++ b ∷ []) (get_or-drop i B k 0)

-- one word more
pub word_more : (ws : List ℕ) (k : ℕ) → k < length ws
    → gather word_bytes (take (k + 1) ws) ≡ gather word_bytes (take k ws) ++ word_bytes (get_or ws k 0)
word_more ws k l =
    ap (λ (n : ℕ). gather word_bytes (take n ws)) (add-one k)
    ∙ ap (gather word_bytes) (take-suc ws k 0 l)
    ∙ gather_append word_bytes (take k ws) (get_or ws k 0 ∷ [])

-- words that fit 16 bits
pub data AreWords : List ℕ → Type 0 where
  none : AreWords []
  more : {n : ℕ} {ws : List ℕ} → n < 65536 → AreWords ws → AreWords (n ∷ ws)

pub word_fits : {ws : List ℕ} → AreWords ws → (k : ℕ) → get_or ws k 0 < 65536
word_fits none k = omega arith
word_fits (more h f) zero = h
word_fits (more h f) (suc k) = word_fits f k

pub words_taken : {ws : List ℕ} (n : ℕ) → AreWords ws → AreWords (take n ws)
words_taken zero f = none
words_taken (suc n) none = none
words_taken (suc n) (more h f) = more h (words_taken n f)

-- two bytes are stored
pub put_two : (t : List ℕ) (at a b : ℕ) → at + 2 ≤ length t
    → Puts (a ∷ b ∷ []) t at (at + 2) (set (set t at a) (at + 1) b)
put_two t at a b h =
    let both = then (put_one t at a (omega arith)) (put_one (set t at a) (at + 1) b (simp length-set (omega arith))) in
    let end : at + 1 + 1 ≡ at + 2 = omega arith in
    subst (λ (e : ℕ). Puts (a ∷ b ∷ []) t at e (set (set t at a) (at + 1) b)) end both
