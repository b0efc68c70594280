-- Laws of the builder over atoms that stand one after the other in bytes: one for each way through the code.
-- Assumes nothing.
use mathlib.Core.Path.{◌≡◌, refl, ◌∙◌, ap}
use mathlib.Core.Bool.{Bool, true, false, cond}
use mathlib.Core.List.{List, [], ◌∷◌, ◌++◌}
use mathlib.Core.Option.{Option, none, some}
use Prim.Native.Nat.{ℕ, zero, suc, ◌+◌, ◌*◌, ◌-◌, ◌≤◌, ◌<◌}
use native.Mathlib.Nat.{suc-mul, mul-le-mul_right, mul_assoc}
use native.Mathlib.Omega.{arith}
use borrow.Author.Tests.{le-leb}
use lib.Dec.{leb}
use lib.ListN.{length}
use Rattle.covering.specs.Lists.{bind, first_of, numbers}
use Rattle.covering.specs.Form.{form}
use Rattle.covering.specs.Term.{Atom, Question, Sub, on_atom, on_question}
use Rattle.covering.specs.Record.{Layout, size, atom_at, atoms_at}
use Rattle.covering.proofs.Places.{atoms_none, atoms_more, atoms_step}
use Rattle.covering.specs.Rule.{Rule}
use Rattle.unification.specs.Choice.{count, atom_pairs, to_head}
use Rattle.unification.specs.Step.{up, move, valid, rewriting, judge}
use Rattle.lister.specs.Build.{first, more, since, first_by_digit, table_builder}
use Rattle.unify.specs.Table.{Table, unify_table, tabled}
use Rattle.lister.proofs.Build.{first_whole, first_digits}
use Rattle.unification.proofs.Numbers.{count_suc}
use Rattle.lister.proofs.Table.{table_skips}

-- the digits from d on, one at a time
module _ {X : Type 0} (f : ℕ → Option X) where
  pub digits_none : (d n : ℕ) → n ≡ 0 → first_of f (numbers d n) ≡ none
  digits_none d n e = rw e

  pub digits_hit : (d n : ℕ) {x : X} → 0 < n → f d ≡ some x → first_of f (numbers d n) ≡ some x
  digits_hit d zero h e = elim h [ ]
  digits_hit d (suc n) h e = rw e

  pub digits_miss : (d n m e : ℕ) → n ≡ suc m → e ≡ suc d → f d ≡ none
      → first_of f (numbers d n) ≡ first_of f (numbers e m)
  digits_miss d n m e p q r = rw (p, q, r)

-- the choices of a prefix with one digit more lie within those of the prefix
pub prefix_within : (h w d m : ℕ) → d ≤ h → suc (w * suc h + d) * count h m ≤ suc w * count h (suc m)
prefix_within h w d m le =
    let one : suc w * suc h ≡ w * suc h + suc h = suc-mul w (suc h) in
    let two : suc (w * suc h + d) ≤ suc w * suc h = omega arith in
    let three : suc (w * suc h + d) * count h m ≤ suc w * suc h * count h m = mul-le-mul_right (count h m) two in
    let four : suc w * suc h * count h m ≡ suc w * (suc h * count h m) = mul_assoc (suc w) (suc h) (count h m) in
    let five : suc w * count h (suc m) ≡ suc w * (suc h * count h m) = ap (λ (x : ℕ). suc w * x) (count_suc h m) in
    omega arith

-- the head atom after the first e, in the book
pub head_pairs : (k : ℕ) (L : Layout) (B : List ℕ) (d h e : ℕ) (a : Atom) → e < h
    → to_head (on_question (up k) (atoms_at L B d h)) e a ≡ atom_pairs a (on_atom (up k) (atom_at L B (d + e * size L)))
head_pairs k L B d zero e a lt = absurd (omega arith)
head_pairs k L B d (suc h) zero a lt =
    ap (λ (A : Question). to_head (on_question (up k) A) zero a) (atoms_step L B d h)
    ∙ ap (λ n. atom_pairs a (on_atom (up k) (atom_at L B n))) (here d (size L))
  where
    here : (d s : ℕ) → d ≡ d + 0 * s
    here d s = omega arith
head_pairs k L B d (suc h) (suc e) a lt =
    ap (λ (A : Question). to_head (on_question (up k) A) (suc e) a) (atoms_step L B d h)
    ∙ head_pairs k L B (d + size L) h e a (omega arith)
    ∙ ap (λ n. atom_pairs a (on_atom (up k) (atom_at L B n))) (next d e (size L))
  where
    next : (d e s : ℕ) → d + s + e * s ≡ d + suc e * s
    next d e s = omega arith

module _ (k : ℕ) (r : Rule) (n : ℕ) (w : ℕ) (A : Question) (b : Bool) (m : Table) where
  -- a whole choice
  prefix_whole : (L : Layout) (Q : List ℕ) (i left : ℕ) → left ≡ 0
      → first (table_builder k r n) w A b (atoms_at L Q i left) m ≡ cond b (since n w (judge A (move k r) (tabled m))) none
  prefix_whole L Q i left e =
      ap (λ q. first (table_builder k r n) w A b q m) (atoms_none L Q i left e) ∙ first_whole (table_builder k r n) w A b m

  pub whole_sent : (L : Layout) (Q : List ℕ) (i left : ℕ) → left ≡ 0 → b ≡ true
      → first (table_builder k r n) w A b (atoms_at L Q i left) m ≡ since n w (judge A (move k r) (tabled m))
  whole_sent L Q i left e t =
      prefix_whole L Q i left e ∙ ap (λ x. cond x (since n w (judge A (move k r) (tabled m))) none) t

  pub whole_unsent : (L : Layout) (Q : List ℕ) (i left : ℕ) → left ≡ 0 → b ≡ false
      → first (table_builder k r n) w A b (atoms_at L Q i left) m ≡ none
  whole_unsent L Q i left e t =
      prefix_whole L Q i left e ∙ ap (λ x. cond x (since n w (judge A (move k r) (tabled m))) none) t

  -- a digit for the next atom
  pub prefix_digits : (L : Layout) (Q : List ℕ) (i left : ℕ) → 0 < left
      → first (table_builder k r n) w A b (atoms_at L Q i left) m
      ≡ first_of
      (first_by_digit (table_builder k r n) w A b (atom_at L Q i) (atoms_at L Q (i + size L) (left - 1)) m)
      (numbers 0 (suc (length r.head)))
  prefix_digits L Q i left h =
      ap (λ q. first (table_builder k r n) w A b q m) (atoms_more L Q i left h)
      ∙ first_digits (table_builder k r n) w A b (atom_at L Q i) (atoms_at L Q (i + size L) (left - 1)) m

  -- a digit all of whose choices come before the start
  pub digit_skips : (a : Atom) (q : Question) (d : ℕ)
      → suc (w * suc (length r.head) + d) * count (length r.head) (length q) ≤ n
      → first_by_digit (table_builder k r n) w A b a q m d ≡ none
  digit_skips a q zero h = table_skips k r n q (more (table_builder k r n) w 0) (A ++ a ∷ []) b m h
  digit_skips a q (suc e) h = go (unify_table (to_head (move k r).head e a) m)
    where
      go : (o : Option Table)
          → bind o (λ τ. first (table_builder k r n) (more (table_builder k r n) w (suc e)) A true q τ) ≡ none
      go none = refl
      go (some τ) = table_skips k r n q (more (table_builder k r n) w (suc e)) A true τ h

-- what a whole choice gives: nothing before the start, nothing if it is not valid, else its rewriting
module _ (n c : ℕ) (A : Question) (r : Rule) (σ : Sub) where
  pub judged_no : valid σ A r ≡ false → since n c (judge A r σ) ≡ none
  judged_no e = rw e (go (leb n c))
    where
      go : (b : Bool) → ◌≡◌ {A = Option (ℕ × Question)} (cond b none none) none
      go true = refl
      go false = refl

  pub judged_yes : n ≤ c → valid σ A r ≡ true → since n c (judge A r σ) ≡ some (c, form (rewriting σ A r))
  judged_yes h e = rw (e, le-leb n c h)
