-- Pairs and questions under a renaming of the rule's variables. Assumes nothing.
use mathlib.Core.Path.{◌≡◌, refl, ◌∙◌, ap}
use mathlib.Core.Bool.{Bool, true, false, cond, ◌&&◌}
use mathlib.Core.Logic.{◌⊎◌, inl, inr}
use mathlib.Core.List.Memᴰ
use mathlib.Core.List.{List, [], ◌∷◌, ◌++◌, map}
use Prim.Native.Nat.{ℕ, zero, suc, ◌-◌}
use lib.Dec.{ltb}
use Rattle.covering.specs.Lists.{◌∈◌, all}
use Rattle.covering.specs.Term.{Term, Atom, Question, terms, Sub, on_term, on_atom, on_question, var}
use Rattle.covering.specs.Term.{con, Below, is_var}
use Rattle.covering.proofs.Lists.{map_none}
use Rattle.covering.proofs.Terms.{on_term_var, on_atom_fixed, terms_in}
use Rattle.unification.specs.Classes.{Pair}
use Rattle.unification.specs.Choice.{Choice, never, place_pairs, to_head, pairing}
use Rattle.unification.specs.Step.{up}
use Rattle.unification.proofs.Moved.{glue, glue_below}

-- pairs under a renaming
abbrev pub both_on : Sub → Pair → Pair
both_on ρ p = (on_term ρ p.0, on_term ρ p.1)

pub never_on : (ρ : Sub) (p : Pair) → p ∈ never → both_on ρ p ∈ never
never_on ρ p (Memᴰ.tail x4) = elim x4 [ ]
never_on ρ p (Memᴰ.head e) = Memᴰ.head (ap (both_on ρ) e)

pub zip_on : (ρ : Sub) (ts us : List Term) (p : Pair) → p ∈ place_pairs ts us
    → both_on ρ p ∈ place_pairs (map (on_term ρ) ts) (map (on_term ρ) us)
zip_on ρ [] [] p m = absurd (Memᴰ.not-nil m)
zip_on ρ [] (u ∷ us) p m = never_on ρ p m
zip_on ρ (t ∷ ts) [] p m = never_on ρ p m
zip_on ρ (t ∷ ts) (u ∷ us) p (Memᴰ.head e) = Memᴰ.head (ap (both_on ρ) e)
zip_on ρ (t ∷ ts) (u ∷ us) p (Memᴰ.tail m) = Memᴰ.tail (zip_on ρ ts us p m)

pub head_on : (ρ : Sub) (H : Question) (d : ℕ) (a : Atom) (p : Pair) → p ∈ to_head H d a
    → both_on ρ p ∈ to_head (on_question ρ H) d (on_atom ρ a)
head_on ρ [] d a p m = never_on ρ p m
head_on ρ (b ∷ H) zero a p (Memᴰ.head e) = Memᴰ.head (ap (both_on ρ) e)
head_on ρ (b ∷ H) zero a p (Memᴰ.tail m) = Memᴰ.tail (zip_on ρ a.args b.args p m)
head_on ρ (b ∷ H) (suc d) a p m = head_on ρ H d a p m

pub pairing_on : (ρ : Sub) (ds : Choice) (Q H : Question) (p : Pair) → p ∈ pairing ds Q H
    → both_on ρ p ∈ pairing ds (on_question ρ Q) (on_question ρ H)
pairing_on ρ [] Q H p m = absurd (Memᴰ.not-nil m)
pairing_on ρ (d ∷ ds) [] H p m = absurd (Memᴰ.not-nil m)
pairing_on ρ (zero ∷ ds) (a ∷ Q) H p m = pairing_on ρ ds Q H p m
pairing_on ρ (suc d ∷ ds) (a ∷ Q) H p m = go (Memᴰ.append_cases (to_head H d a) m) (λ k. pairing_on ρ ds Q H p k)
  where
    go : (p ∈ to_head H d a) ⊎ (p ∈ pairing ds Q H)
        → (p ∈ pairing ds Q H → both_on ρ p ∈ pairing ds (on_question ρ Q) (on_question ρ H))
        → both_on ρ p ∈ to_head (on_question ρ H) d (on_atom ρ a) ++ pairing ds (on_question ρ Q) (on_question ρ H)
    go (inl k) below = Memᴰ.append_left (pairing ds (on_question ρ Q) (on_question ρ H)) (head_on ρ H d a p k)
    go (inr k) below = Memᴰ.append_right (to_head (on_question ρ H) d (on_atom ρ a)) (below k)

pub all_map : {A B : Type 0} (p : B → Bool) (f : A → B) (l : List A) → all p (map f l) ≡ all (λ x. p (f x)) l
all_map p f [] = refl
all_map p f (x ∷ xs) = ap (λ (b : Bool). p (f x) && b) (all_map p f xs)

-- the renaming that turns a rule moved by k into the rule moved by k', and leaves question variables
abbrev pub shift : ℕ → ℕ → Sub
shift k k' = glue k var (up k')

pub shift_var : (k k' n : ℕ) → is_var (shift k k' n) ≡ true
shift_var k k' n = go (ltb n k)
  where
    go : (b : Bool) → is_var (cond b (var n) (up k' (n - k))) ≡ true
    go true = refl
    go false = refl

pub shift_is_var : (k k' : ℕ) (t : Term) → is_var (on_term (shift k k') t) ≡ is_var t
shift_is_var k k' (var n) = shift_var k k' n
shift_is_var k k' (con c) = refl

pub shift_keeps : (k k' : ℕ) (A : Question) → Below k A → (t : Term) → t ∈ terms A → on_term (shift k k') t ≡ t
shift_keeps k k' A b t m = glue_below k var (up k') A b t m ∙ on_term_var t

pub shift_question : (k k' : ℕ) (A : Question) → Below k A → on_question (shift k k') A ≡ A
shift_question k k' A b =
    map_none (on_atom (shift k k')) A
    (λ a m. on_atom_fixed (shift k k') a (λ t n. shift_keeps k k' A b t (terms_in A m n)))
