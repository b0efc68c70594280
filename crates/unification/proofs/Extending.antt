-- Choices that go on from a prefix: the digits ds for the atoms Q, then es for the atoms Q'. Going on only leaves more
-- atoms and coarsens the classes, so a question that covers the prefix's left atoms and the body, under the prefix's
-- classes, covers the rewriting of every valid choice that goes on from it (`extension_covered`); other atoms that such a
-- choice is known to leave may stand with them. Assumes nothing.
use mathlib.Core.Path.{◌≡◌, refl, sym, ◌∙◌, ap, subst}
use mathlib.Core.Logic.{◌⊎◌, inl, inr}
use mathlib.Core.List.Memᴰ
use mathlib.Core.List.{List, [], ◌∷◌, ◌++◌, append_assoc}
use mathlib.Core.Option.{Option, none, some}
use Prim.Native.Nat.{ℕ, zero, suc}
use native.Mathlib.Omega.{arith}
use lib.ListN.{length}
use Rattle.covering.specs.Covers.{Covers}
use Rattle.covering.specs.Lists.{◌∈◌, bind}
use Rattle.covering.specs.Term.{Atom, Question, Sub, var, on_term, on_atom, comp}
use Rattle.covering.specs.Rule.{Rule}
use Rattle.covering.proofs.Form.{form_equivalent}
use Rattle.covering.proofs.Preorder.{covers_trans}
use Rattle.covering.proofs.Terms.{on_atom_same, on_atom_comp, on_term_comp}
use Rattle.unification.specs.Classes.{Pair, merge, unify}
use Rattle.unification.specs.Choice.{Choice, left, to_head, pairing}
use Rattle.unification.specs.Step.{move, rewriting}
use Rattle.unification.proofs.Classes.{unify_sound, coarser_term}
use Rattle.unification.proofs.Listed.{Made}

-- pairs put together one after the other
pub unify_append : (ps qs : List Pair) (σ : Sub) → unify (ps ++ qs) σ ≡ bind (unify ps σ) (λ τ. unify qs τ)
unify_append [] qs σ = refl
unify_append (p ∷ ps) qs σ = go (merge σ p) (λ τ. unify_append ps qs τ)
  where
    go : (o : Option Sub) → ((τ : Sub) → unify (ps ++ qs) τ ≡ bind (unify ps τ) (λ τ. unify qs τ))
        → bind o (λ τ. unify (ps ++ qs) τ) ≡ bind (bind o (λ τ. unify ps τ)) (λ τ. unify qs τ)
    go none below = refl
    go (some τ) below = below τ

-- what a choice that goes on leaves and puts together
pub left_extends : (ds es : Choice) (Q Q' : Question) → length ds ≡ length Q
    → left (ds ++ es) (Q ++ Q') ≡ left ds Q ++ left es Q'
left_extends [] es [] Q' e = refl
left_extends [] es (a ∷ Q) Q' e = absurd (omega arith)
left_extends (d ∷ ds) es [] Q' e = absurd (omega arith)
left_extends (zero ∷ ds) es (a ∷ Q) Q' e = ap (λ (A : Question). a ∷ A) (left_extends ds es Q Q' (omega arith))
left_extends (suc d ∷ ds) es (a ∷ Q) Q' e = left_extends ds es Q Q' (omega arith)

pub pairing_extends : (ds es : Choice) (Q Q' H : Question) → length ds ≡ length Q
    → pairing (ds ++ es) (Q ++ Q') H ≡ pairing ds Q H ++ pairing es Q' H
pairing_extends [] es [] Q' H e = refl
pairing_extends [] es (a ∷ Q) Q' H e = absurd (omega arith)
pairing_extends (d ∷ ds) es [] Q' H e = absurd (omega arith)
pairing_extends (zero ∷ ds) es (a ∷ Q) Q' H e = pairing_extends ds es Q Q' H (omega arith)
pairing_extends (suc d ∷ ds) es (a ∷ Q) Q' H e =
    ap (λ (ps : List Pair). to_head H d a ++ ps) (pairing_extends ds es Q Q' H (omega arith))
    ∙ sym (append_assoc (to_head H d a) (pairing ds Q H) (pairing es Q' H))

-- so its classes are those of the prefix with the rest put together
pub unify_extends : (ds es : Choice) (Q Q' H : Question) → length ds ≡ length Q → (σ : Sub)
    → unify (pairing ds Q H) var ≡ some σ
    → unify (pairing (ds ++ es) (Q ++ Q') H) var ≡ unify (pairing es Q' H) σ
unify_extends ds es Q Q' H e σ found =
    ap (λ (ps : List Pair). unify ps var) (pairing_extends ds es Q Q' H e)
    ∙ unify_append (pairing ds Q H) (pairing es Q' H) var
    ∙ ap (λ (o : Option Sub). bind o (λ τ. unify (pairing es Q' H) τ)) found

-- and where the prefix has none, it has none
pub unify_stops : (ds es : Choice) (Q Q' H : Question) → length ds ≡ length Q → unify (pairing ds Q H) var ≡ none
    → unify (pairing (ds ++ es) (Q ++ Q') H) var ≡ none
unify_stops ds es Q Q' H e stops =
    ap (λ (ps : List Pair). unify ps var) (pairing_extends ds es Q Q' H e)
    ∙ unify_append (pairing ds Q H) (pairing es Q' H) var
    ∙ ap (λ (o : Option Sub). bind o (λ τ. unify (pairing es Q' H) τ)) stops

-- τ is σ with more put together
record Coarser (σ τ : Sub) : Type 0 where
  more : Sub
  factors : (n : ℕ) → τ n ≡ on_term more (σ n)

-- the left atoms L and the body under σ cover those that leave more, L', under coarser classes
module _ (r : Rule) {σ τ : Sub} (c : Coarser σ τ) (L L' : Question) (w : (a : Atom) → a ∈ L → a ∈ L') where
  coarser_covered : Covers (rewriting σ L r) (rewriting τ L' r)
  coarser_covered = record { by = c.more; sends = λ b m. go b (Memᴰ.of_map (on_atom σ) (L ++ r.body) m) }
    where
      wide : (a : Atom) → (a ∈ L) ⊎ (a ∈ r.body) → a ∈ L' ++ r.body
      wide a (inl m) = Memᴰ.append_left r.body (w a m)
      wide a (inr m) = Memᴰ.append_right L' m

      go : (b : Atom) → (a : Atom) × (a ∈ L ++ r.body) × (on_atom σ a ≡ b)
          → on_atom c.more b ∈ rewriting τ L' r
      go b h =
          Memᴰ.cast
          (ap (on_atom c.more) (sym h.2)
          ∙ on_atom_comp c.more σ h.0
          ∙ on_atom_same (comp c.more σ) τ h.0
          (λ t n. sym (on_term_comp c.more σ t) ∙ sym (coarser_term σ τ c.more c.factors t)))
          (Memᴰ.map (on_atom τ) (wide h.0 (Memᴰ.append_cases L h.1)))

-- a prefix, its classes, and a valid choice that goes on from it
module _ (k : ℕ) (r : Rule) (Q Q' : Question) (ds : Choice) (σ : Sub)
    (whole : length ds ≡ length Q) (found : unify (pairing ds Q (move k r).head) var ≡ some σ)
    {n : ℕ} {P : Question} (w : Made k r (Q ++ Q') n P) (es : Choice) (extends : w.choice ≡ ds ++ es)
  where
    abbrev H : Question
    H = (move k r).head

    coarser : Coarser σ w.classes
    coarser =
        let s =
        unify_sound (pairing es Q' H) σ w.classes
        (sym (unify_extends ds es Q Q' H whole σ found)
        ∙ ap (λ (cs : Choice). unify (pairing cs (Q ++ Q') H) var) (sym extends)
        ∙ w.found) in
        record { more = s.more; factors = s.factors }

    stays_left : (a : Atom) → a ∈ left ds Q → a ∈ left w.choice (Q ++ Q')
    stays_left a m =
        subst (λ (A : Question). a ∈ A)
        (sym (ap (λ (cs : Choice). left cs (Q ++ Q')) extends ∙ left_extends ds es Q Q' whole))
        (Memᴰ.append_left (left es Q') m)

    -- X are other atoms that it leaves
    pub extension_covered : (X : Question) → ((a : Atom) → a ∈ X → a ∈ left w.choice (Q ++ Q')) → (M : Question)
        → Covers M (rewriting σ (left ds Q ++ X) (move k r)) → Covers M P
    extension_covered X others M c =
        subst (Covers M) w.is
        (covers_trans c
        (covers_trans (coarser_covered (move k r) coarser (left ds Q ++ X) (left w.choice (Q ++ Q')) both_left)
        (form_equivalent (rewriting w.classes (left w.choice (Q ++ Q')) (move k r))).0))
      where
        both_left : (a : Atom) → a ∈ left ds Q ++ X → a ∈ left w.choice (Q ++ Q')
        both_left a m = go (Memᴰ.append_cases (left ds Q) m)
          where
            go : (a ∈ left ds Q) ⊎ (a ∈ X) → a ∈ left w.choice (Q ++ Q')
            go (inl n) = stays_left a n
            go (inr n) = others a n
