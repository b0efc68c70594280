-- Atoms that no head atom can meet: what a loop over the head atoms says of one, what it is to leave them one after the
-- other, and that such an atom is unrelated to the head. Assumes nothing.
use mathlib.Core.Path.{◌≡◌, refl, sym, ◌∙◌, ap, ap₂, subst}
use mathlib.Core.Bool.{Bool, true, false, not, cond, ◌||◌}
use mathlib.Core.List.Memᴰ
use mathlib.Core.List.{List, [], ◌∷◌, ◌++◌, append-nil, append_assoc}
use Prim.Native.Nat.{ℕ, zero, suc, ◌+◌, ◌*◌, ◌≤◌, ◌<◌}
use native.Mathlib.Omega.{arith}
use lib.Dec.{T, eqb, eqb_refl}
use lib.ListN.{length, get_or, drop, take, take-append-drop}
use lib.Seq.{drop-cons, drop-length}
use Rattle.covering.specs.Lists.{◌∈◌, any}
use Rattle.covering.specs.Term.{Atom, Question}
use Rattle.covering.specs.Record.{stored, atom_at, atoms_at, question_of}
use Rattle.covering.specs.Buffer.{AtomIn}
use Rattle.covering.proofs.Lengths.{question_count}
use Rattle.covering.proofs.Lists.{keep_out, any_in}
use Rattle.covering.proofs.Places.{relation_at, atoms_none, atoms_step, question_at_lem}
use Rattle.covering.proofs.Tests.{clash}
use Rattle.unification.proofs.Unrelated.{Unrelated}
use Rattle.std.specs.List.{list_any, range_with_len}
use Rattle.lister.specs.FirstDigits.{unmet}
use Rattle.lister.specs.Listing.{QuestionIn}
use Rattle.lister.proofs.RewritingBytes.{first_atom_in, one_atom}
use Rattle.lister.proofs.OneDigit.{nth_atom, nth_in_book}
use Rattle.lister.proofs.LeftAtoms.{one_more}

-- whether an atom of H has the relation
abbrev pub met : ℕ → Question → Bool
met n H = any (λ b. eqb n b.rel) H

-- the head atoms in their bytes, by their numbers
pub met_is : (B : List ℕ) (i heads n : ℕ) → list_any (λ k. eqb n (get_or B (i + k * 7) 0)) (range_with_len 0 heads)
    ≡ met n (atoms_at stored B i heads)
met_is B i heads n = go heads 0 ∙ ap (λ k. met n (atoms_at stored B k heads)) (omega arith)
  where
    next : (a : ℕ) → i + (a + 1) * 7 ≡ i + a * 7 + 7
    next a = omega arith

    go : (m a : ℕ) → list_any (λ k. eqb n (get_or B (i + k * 7) 0)) (range_with_len a m)
        ≡ met n (atoms_at stored B (i + a * 7) m)
    go zero a = rw (atoms_none stored B (i + a * 7) zero refl)
    go (suc m) a =
        ap₂ ◌||◌ (ap (eqb n) (sym (relation_at stored B (i + a * 7))))
        (go m (a + 1) ∙ ap (λ k. met n (atoms_at stored B k m)) (next a))
        ∙ sym (ap (met n) (atoms_step stored B (i + a * 7) m))

pub unmet_are : (H Q : Question) (p : ℕ) (a : Atom) → a ∈ unmet H (drop p Q) → (a ∈ Q) × Unrelated (a ∷ []) H
unmet_are H Q p a m =
    let k = keep_out (λ x. not (met x.rel H)) (drop p Q) m in (
      subst (λ (A : Question). a ∈ A) (take-append-drop p Q) (Memᴰ.append_right (take p Q) k.0),
      λ x b i n e.
          let same : x ≡ a = Memᴰ.eq_of_singleton i in
          clash (met a.rel H)
          (any_in (λ c. eqb a.rel c.rel) H n
          (subst (λ (k : ℕ). T (eqb a.rel k)) (ap (λ (y : Atom). y.rel) (sym same) ∙ e) (eqb_refl a.rel)))
          k.1,
    )

-- the atoms of the question from the j-th on, the first of them taken: it is left too, or it can be met
module _ (H : Question) (Q : List ℕ) (j : ℕ) (l : j < get_or Q 0 0) where
  abbrev a : Atom
  a = atom_at stored Q (1 + j * 7)

  to_come : drop j (question_of stored Q) ≡ a ∷ drop (j + 1) (question_of stored Q)
  to_come =
      let one : suc j ≡ j + 1 = omega arith in
      drop-cons (question_of stored Q) j a (omega (arith, question_count stored Q))
      ∙ ap (λ (b : Atom). b ∷ drop (suc j) (question_of stored Q))
      (ap (λ (A : Question). get_or A j a) (question_at_lem stored Q refl) ∙ nth_atom stored Q 1 (get_or Q 0 0) j a l)
      ∙ ap (λ (n : ℕ). a ∷ drop n (question_of stored Q)) one

  unmet_more : (X : Question) → not (met a.rel H) ≡ true
      → (X ++ a ∷ []) ++ unmet H (drop (j + 1) (question_of stored Q)) ≡ X ++ unmet H (drop j (question_of stored Q))
  unmet_more X e =
      append_assoc X (a ∷ []) (unmet H (drop (j + 1) (question_of stored Q)))
      ∙ ap (λ (A : Question). X ++ A)
      (sym
      (ap (unmet H) to_come
      ∙ ap (λ (b : Bool). cond b (a ∷ unmet H (drop (j + 1) (question_of stored Q))) (unmet H (drop (j + 1) (question_of stored Q)))) e))

  unmet_same : not (met a.rel H) ≡ false
      → unmet H (drop (j + 1) (question_of stored Q)) ≡ unmet H (drop j (question_of stored Q))
  unmet_same e =
      sym
      (ap (unmet H) to_come
      ∙ ap (λ (b : Bool). cond b (a ∷ unmet H (drop (j + 1) (question_of stored Q))) (unmet H (drop (j + 1) (question_of stored Q)))) e)

-- the j-th atom is sound
module _ {Q : List ℕ} (q : QuestionIn Q) {j : ℕ} (l : j < get_or Q 0 0) where
  pub atom_in : AtomIn stored Q (1 + j * 7)
  atom_in = first_atom_in Q (1 + j * 7) 1 (one_atom (nth_in_book q l)) (omega arith)

-- what a turn of the loop keeps: X is to be left in all
pub record Leaving (H X : Question) (Q : List ℕ) (j : ℕ) (A : Question) : Type 0 where
  pub inside : j ≤ get_or Q 0 0
  pub few : length A ≤ j
  pub is : A ++ unmet H (drop j (question_of stored Q)) ≡ X

module _ {H X : Question} {Q : List ℕ} {j : ℕ} {A : Question} (w : Leaving H X Q j A) where
  -- the j-th atom is left too
  pub leaving_more : (l : j < get_or Q 0 0) → not (met (get_or Q (1 + j * 7) 0) H) ≡ true → {A' : Question}
      → A' ≡ A ++ atom_at stored Q (1 + j * 7) ∷ [] → Leaving H X Q (j + 1) A'
  leaving_more l e {A'} r =
      record {
        inside = omega arith;
        few = omega (arith, w.few, ap length r, one_more A (atom_at stored Q (1 + j * 7)));
        is =
            ap (λ (Y : Question). Y ++ unmet H (drop (j + 1) (question_of stored Q))) r
            ∙ unmet_more H Q j l A
            (ap (λ (n : ℕ). not (met n H)) (relation_at stored Q (1 + j * 7)) ∙ e)
            ∙ w.is;
      }

  -- or it can be met
  pub leaving_same : (l : j < get_or Q 0 0) → not (met (get_or Q (1 + j * 7) 0) H) ≡ false → Leaving H X Q (j + 1) A
  leaving_same l e =
      record {
        inside = omega arith;
        few = omega (arith, w.few);
        is =
            ap (λ (Y : Question). A ++ Y)
            (unmet_same H Q j l (ap (λ (n : ℕ). not (met n H)) (relation_at stored Q (1 + j * 7)) ∙ e))
            ∙ w.is;
      }

  pub leaving_done : get_or Q 0 0 ≤ j → A ≡ X
  leaving_done h =
      let all : length (question_of stored Q) ≡ j = omega (arith, question_count stored Q, w.inside) in
      sym (append-nil A)
      ∙ ap (λ (Y : Question). A ++ unmet H Y)
      (sym (drop-length (question_of stored Q)) ∙ ap (λ (n : ℕ). drop n (question_of stored Q)) all)
      ∙ w.is
