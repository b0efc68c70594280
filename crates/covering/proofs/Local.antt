-- What a search finds hangs only on where the map sends the variables of the atoms that are left. So where an atom brings
-- them no new variable, one candidate that serves for nothing tells that none serves. Assumes nothing.
use mathlib.Core.Path.{◌≡◌, refl, sym, ◌∙◌, subst}
use mathlib.Core.Bool.{Bool, not, cond}
use mathlib.Core.Logic.{◌⊎◌, inl, inr}
use mathlib.Core.Option.{Option, none, some}
use Prim.Native.Nat.{ℕ}
use lib.Dec.{T}
use Rattle.covering.specs.Lists.{◌∈◌, any, is_some, bind}
use Rattle.covering.specs.Term.{Term, var, con, Atom, Question, Sub, on_term, terms, eq_term}
use Rattle.covering.specs.Covers.{Sends}
use Rattle.covering.specs.Search.{Part, place_atom, find_map}
use Rattle.covering.proofs.Lists.{any_in, any_out, none_of}
use Rattle.covering.proofs.Tests.{decide, clash, cond_yes, cond_no}
use Rattle.covering.proofs.Terms.{eq_term→eq, eq→eq_term, on_atom_same, terms_in}
use Rattle.covering.proofs.Decides.{Respects, search_sound, search_complete, total, total_respects}
use Rattle.covering.proofs.FirstMap.{Grows, atom_grows}

-- the map s on the variables of A, and what q says of the others
module _ (A B : Question) (p q : Part) (same : (n : ℕ) → var n ∈ terms A → p n ≡ q n) where
  stands : ℕ → Bool
  stands n = any (eq_term (var n)) (terms A)

  in_terms : (n : ℕ) → T (stands n) → var n ∈ terms A
  unfolding stands
  in_terms n x =
      let t = any_out (eq_term (var n)) (terms A) x in
      subst (λ u. u ∈ terms A) (sym (eq_term→eq (var n) t.0 t.2)) t.1

  both : Sub → Sub
  both s n = cond (stands n) (s n) (total q n)

  both_there : (s : Sub) (n : ℕ) → var n ∈ terms A → both s n ≡ s n
  unfolding both stands
  both_there s n m = cond_yes (stands n) (s n) (total q n) (any_in (eq_term (var n)) (terms A) m (eq→eq_term {t = var n} refl))

  both_respects : (s : Sub) → Respects s p → Respects (both s) q
  unfolding both
  both_respects s k n t e = go (decide (stands n))
    where
      go : T (stands n) ⊎ T (not (stands n)) → cond (stands n) (s n) (total q n) ≡ t
      go (inl x) = cond_yes (stands n) (s n) (total q n) x ∙ k n t (same n (in_terms n x) ∙ e)
      go (inr x) = cond_no (stands n) (s n) (total q n) x ∙ total_respects q n t e

  both_sends : (s : Sub) → Sends s A B → Sends (both s) A B
  both_sends s h a m =
      subst (λ b. b ∈ B)
      (on_atom_same s (both s) a place)
      (h a m)
    where
      place : (t : Term) → t ∈ a.args → on_term s t ≡ on_term (both s) t
      place (var n) i = sym (both_there s n (terms_in A m i))
      place (con c) i = refl

  pub found_alike : T (is_some (find_map A B p)) → T (is_some (find_map A B q))
  found_alike t =
      let f = search_sound A B p t in
      search_complete A B q (both f.by) (both_respects f.by f.respects) (both_sends f.by f.sends)

-- the atom a brings the atoms of A nothing new: where it has a variable that goes nowhere yet, A has not
abbrev pub NothingNew : Part → Atom → Question → Type 0
NothingNew p a A = (n : ℕ) → var n ∈ a.args → p n ≡ none → var n ∈ terms A → ⊥

-- one candidate from which A cannot be placed tells it of every other
pub none_serves : (p : Part) (a : Atom) (A B : Question) (b c : Atom) (q : Part) → NothingNew p a A
    → place_atom p a b ≡ some q → find_map A B q ≡ none → bind (place_atom p a c) (find_map A B) ≡ none
none_serves p a A B b c q new e f = go (place_atom p a c) refl
  where
    agree : (r : Part) → place_atom p a c ≡ some r → (n : ℕ) → var n ∈ terms A → r n ≡ q n
    agree r h n m = by (p n) refl (decide (any (eq_term (var n)) a.args))
      where
        one : Grows p q a.args
        one = atom_grows p q a b e

        two : Grows p r a.args
        two = atom_grows p r a c h

        by : (o : Option Term) → p n ≡ o → T (any (eq_term (var n)) a.args) ⊎ T (not (any (eq_term (var n)) a.args))
            → r n ≡ q n
        by (some t) i x = two.stays n t i ∙ sym (one.stays n t i)
        by none i (inl x) =
            let t = any_out (eq_term (var n)) a.args x in
            absurd (new n (subst (λ u. u ∈ a.args) (sym (eq_term→eq (var n) t.0 t.2)) t.1) i m)
        by none i (inr x) =
            let out : var n ∈ a.args → ⊥
            = λ j. clash (any (eq_term (var n)) a.args) (any_in (eq_term (var n)) a.args j (eq→eq_term {t = var n} refl)) x in
            two.other n out ∙ sym (one.other n out)

    go : (o : Option Part) → place_atom p a c ≡ o → bind o (find_map A B) ≡ none
    go none h = refl
    go (some r) h =
        none_of (find_map A B r)
        (λ t. subst (λ o. T (is_some o)) f (found_alike A B r q (agree r h) t))
