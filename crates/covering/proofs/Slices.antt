-- Laws of parts of a buffer, and of bytes copied into one (`paste`). Assumes nothing.
use mathlib.Core.Path.{◌≡◌, sym, ◌∙◌, ap, ap₂, subst}
use mathlib.Core.List.{List}
use Prim.Native.Nat.{ℕ, ◌+◌, ◌-◌, ◌≤◌, ◌<◌}
use native.Mathlib.Omega.{arith}
use native.Mathlib.Numerals.{add-one}
use lib.ListN.{length, get_or, take, drop, set, replicate, length-drop, length-replicate, replicate-append-replicate}
use lib.Seq.{paste, paste-suc, drop-paste, drop_at, get_or-drop, take_all}

-- the part of the buffer from there on
pub part_is : (W : List ℕ) (at : ℕ) → take (length W - at) (drop at W) ≡ drop at W
part_is W at = take_all (length W - at) (drop at W) (omega (arith, length-drop at W))

-- what is left of free bytes
pub rest_free : (m k : ℕ) → m ≤ k → drop {A = ℕ} m (replicate k 255) ≡ replicate (k - m) 255
rest_free m k h =
    ap (drop {A = ℕ} m) (ap (λ x. replicate x 255) (sym back) ∙ sym (replicate-append-replicate m (k - m) 255))
    ∙ drop_at (replicate m 255) (replicate (k - m) 255) m (length-replicate m 255)
  where
    back : m + (k - m) ≡ k
    back = omega arith

-- one byte more is copied
pub paste_more : (d : List ℕ) (at : ℕ) (s : List ℕ) (j k : ℕ) → at + j ≡ k → k < length d → j < length s
    → set (paste d at s j) k (get_or s j 0) ≡ paste d at s (j + 1)
paste_more d at s j k e hd hs =
    subst (λ (n : ℕ). set (paste d at s j) n (get_or s j 0) ≡ paste d at s (j + 1)) e
    (paste-suc d at s j 0 (omega arith) hs ∙ ap (paste d at s) (sym (add-one j)))

-- the bytes after those copied are as they were
pub paste_past : (d : List ℕ) (at : ℕ) (s : List ℕ) (n k : ℕ) → at ≤ length d → n ≤ length s → at + n ≤ k
    → get_or (paste d at s n) k 0 ≡ get_or d k 0
paste_past d at s n k hd hs h =
    ap (λ (m : ℕ). get_or (paste d at s n) m 0) e
    ∙ sym (get_or-drop (at + n) (paste d at s n) (k - (at + n)) 0)
    ∙ ap (λ (l : List ℕ). get_or l (k - (at + n)) 0) (drop-paste d at s n hd hs)
    ∙ get_or-drop (at + n) d (k - (at + n)) 0
    ∙ ap (λ (m : ℕ). get_or d m 0) (sym e)
  where
    e : k ≡ at + n + (k - (at + n))
    e = omega arith

-- one byte more of a part is copied
pub paste_next : (d : List ℕ) (start : ℕ) (s : List ℕ) (at j : ℕ) (e : List ℕ) → e ≡ paste d start (drop at s) j
    → start + j < length d → at + j < length s
    → set e (start + j) (get_or s (at + j) 0) ≡ paste d start (drop at s) (j + 1)
paste_next d start s at j e q hd hs =
    ap₂ (λ x v. set x (start + j) v) q (sym (get_or-drop at s j 0))
    ∙ paste-suc d start (drop at s) j 0 hd (rw (length-drop at s) (omega arith))
    ∙ ap (paste d start (drop at s)) (sym (add-one j))
