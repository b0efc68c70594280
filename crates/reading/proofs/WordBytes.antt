-- Words there and back: a number that is written as a word is read again, and the bytes of words that are read are
-- written again. Assumes nothing.
use mathlib.Core.Path.{◌≡◌, refl, sym, ◌∙◌, ap, ap₂}
use mathlib.Core.List.{List, [], ◌∷◌, ◌++◌}
use Prim.Native.Nat.{ℕ, zero, suc, ◌+◌, ◌*◌, ◌/◌, ◌%◌, ◌≤◌, ◌<◌}
use native.Mathlib.Numerals.{add-one}
use native.Mathlib.Omega.{arith}
use lib.ListN.{length, take, drop}
use lib.Seq.{drop-cons}
use Rattle.covering.specs.Lists.{gather}
use Rattle.reading.specs.Word.{byte, word, word_bytes}
use Rattle.reading.specs.Written.{AreBytes}
use Rattle.reading.proofs.Reading.{word_is}

-- a written word is read again
pub word_back : (n : ℕ) → n % 256 + 256 * (n / 256) ≡ n
word_back n = omega arith

-- each word is two bytes
pub words_long : (ns : List ℕ) → length (gather word_bytes ns) ≡ 2 * length ns
words_long [] = omega arith
words_long (n ∷ ns) = let h = words_long ns in omega arith

-- and its bytes are below 256, if it has 16 bits
pub low_byte : (n : ℕ) → n % 256 < 256
low_byte n = omega arith

pub high_byte : (n : ℕ) → n < 65536 → n / 256 < 256
high_byte n h = omega arith

-- n words from i on
unfoldable pub words_at : List ℕ → ℕ → ℕ → List ℕ
words_at B i zero = []
words_at B i (suc n) = word B i ∷ words_at B (i + 2) n

-- a word that was read is written again
bytes_back : (x y : ℕ) → x < 256 → word_bytes (x + 256 * y) ≡ x ∷ y ∷ []
bytes_back x y h = ap₂ (λ (l m : ℕ). l ∷ m ∷ []) low high
  where
    low : (x + 256 * y) % 256 ≡ x
    low = omega arith

    high : (x + 256 * y) / 256 ≡ y
    high = omega arith

module _ (B : List ℕ) (bytes : AreBytes B) where
  pub words_back : (n i : ℕ) → i + 2 * n ≤ length B → gather word_bytes (words_at B i n) ≡ take (2 * n) (drop i B)
  unfolding words_at
  words_back zero i h = refl
  words_back (suc n) i h =
      ap₂ ◌++◌ (ap word_bytes (word_is B i) ∙ bytes_back (byte B i) (byte B (i + 1)) (bytes i))
      (words_back n (i + 2) (omega arith))
      ∙ ap (λ (l : List ℕ). byte B i ∷ l) (ap (take (suc (2 * n))) (sym second))
      ∙ ap (take (suc (suc (2 * n)))) (sym first)
      ∙ ap (λ (m : ℕ). take m (drop i B)) twice
    where
      first : drop i B ≡ byte B i ∷ drop (i + 1) B
      first = drop-cons B i 0 (omega arith) ∙ ap (λ (m : ℕ). byte B i ∷ drop m B) (sym (add-one i))

      second : drop (i + 1) B ≡ byte B (i + 1) ∷ drop (i + 2) B
      second =
          drop-cons B (i + 1) 0 (omega arith)
          ∙ ap (λ (m : ℕ). byte B (i + 1) ∷ drop m B) next
        where
          next : suc (i + 1) ≡ i + 2
          next = omega arith

      twice : suc (suc (2 * n)) ≡ 2 * suc n
      twice = omega arith
