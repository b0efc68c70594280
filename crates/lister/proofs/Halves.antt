-- The upper half of a table, moved down: what stands for the rule's variables. Assumes nothing.
use mathlib.Core.Path.{◌≡◌, refl, sym, ◌∙◌, ap, subst}
use mathlib.Core.List.{List, [], ◌∷◌, ◌++◌, map}
use mathlib.Core.List.Memᴰ
use mathlib.Core.Bool.{true, false}
use mathlib.Core.Logic.{◌⊎◌, inl, inr}
use Prim.Native.Nat.{ℕ, zero, suc, ◌+◌, ◌-◌, ◌<◌}
use native.Mathlib.Omega.{arith}
use borrow.Author.Tests.{ltb-true, ltb-false}
use lib.Dec.{ltb}
use lib.ListN.{length, get_or, take, drop, length-take, length-drop, length-append, get_or-append}
use Rattle.std.proofs.lemmas.List.{get_or-take, get_or-drop, get_or-append_right}
use Rattle.covering.specs.Lists.{◌∈◌}
use Rattle.covering.specs.Record.{stored, term_of, TermFits}
use Rattle.covering.proofs.Tests.{either}
use Rattle.unify.specs.InBytes.{classes_of}
use Rattle.lister.specs.Listing.{ClassesFit, UpperHalf}

-- each entry of a table stands for a class
pub in_classes : (m : List ℕ) (n : ℕ) → n < length m → term_of (get_or m n 0) ∈ classes_of m
unfolding classes_of
in_classes [] n h = elim h [ ]
in_classes (x ∷ m) zero h = Memᴰ.head refl
in_classes (x ∷ m) (suc n) h = Memᴰ.tail (in_classes m n (omega arith))

-- the upper half, copied over the lower one
pub upper_half_is : (table copy : List ℕ) → length table ≡ 96 → copy ≡ take 48 (drop 48 table)
    → UpperHalf table (copy ++ drop 48 table)
upper_half_is table copy long e =
    record {
      moved = λ n h.
          get_or-append copy (drop 48 table) 0 n (omega (arith, size))
          ∙ ap (λ m. get_or m n 0) e
          ∙ get_or-take 48 (drop 48 table) n 0 h
          ∙ get_or-drop 48 table n 0
          ∙ ap (λ k. get_or table k 0) (omega arith);
      others = λ n h.
          get_or-append_right copy (drop 48 table) 48 n 0 size h
          ∙ get_or-drop 48 table (n - 48) 0
          ∙ ap (λ k. get_or table k 0) (omega arith);
      size = length-append copy (drop 48 table) ∙ omega (arith, size, length-drop 48 table);
    }
  where
    size : length copy ≡ 48
    size = ap length e ∙ omega (arith, length-take 48 (drop 48 table), length-drop 48 table)

-- a table whose every entry fits
pub fits_all : (m : List ℕ) → ((n : ℕ) → n < length m → TermFits stored (term_of (get_or m n 0))) → ClassesFit m
unfolding classes_of
fits_all [] f t i = absurd (Memᴰ.not-nil i)
fits_all (x ∷ m) f t i = go (Memᴰ.cases_cons i) (λ j. fits_all m (λ n h. f (suc n) (omega arith)) t j)
  where
    go : (t ≡ term_of x) ⊎ (t ∈ map term_of m) → (t ∈ map term_of m → TermFits stored t) → TermFits stored t
    go (inl e) below = subst (TermFits stored) (sym e) (f 0 (omega arith))
    go (inr j) below = below j

pub upper_fits : (table upper : List ℕ) → ClassesFit table → length table ≡ 96 → UpperHalf table upper
    → ClassesFit upper
upper_fits table upper fit long u = fits_all upper (λ n h. go n (omega (arith, u.size)) (either (ltb n 48)))
  where
    at : (n : ℕ) → n < 96 → TermFits stored (term_of (get_or table n 0))
    at n h = fit (term_of (get_or table n 0)) (in_classes table n (omega arith))

    go : (n : ℕ) → n < 96 → (ltb n 48 ≡ true) ⊎ (ltb n 48 ≡ false) → TermFits stored (term_of (get_or upper n 0))
    go n h (inl e) =
        let lt = ltb-true n 48 e in
        subst (λ b. TermFits stored (term_of b)) (sym (u.moved n lt)) (at (n + 48) (omega arith))
    go n h (inr e) = subst (λ b. TermFits stored (term_of b)) (sym (u.others n (ltb-false n 48 e))) (at n h)
