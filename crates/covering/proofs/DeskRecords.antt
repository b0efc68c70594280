-- A desk record as one conjunction: its answer record, where it has one, is the first atom of the layout with records,
-- and its atoms are the others. Over the number of places. Assumes nothing.
use mathlib.Core.Path.{◌≡◌, refl, sym, ◌∙◌, ap, ap₂, subst}
use mathlib.Core.Bool.{Bool, true, false, cond}
use mathlib.Core.Logic.{◌⊎◌, inl, inr}
use mathlib.Core.List.{List, ◌∷◌}
use Prim.Native.Nat.{ℕ, zero, suc, ◌+◌, ◌*◌, ◌≤◌}
use native.Mathlib.Omega.{arith}
use borrow.Author.Tests.{ne_eqb}
use lib.Dec.{T, eqb→eq}
use lib.ListN.{length, get_or}
use Rattle.covering.specs.Lists.{◌∈◌}
use Rattle.covering.specs.Term.{Atom, Question}
use Rattle.covering.specs.Asking.{answer_relation, answer_atom, with_answer, joined, records, NoRecord}
use Rattle.covering.specs.Record.{desk, holding, size, args_at, atom_at, atoms_at, are_atoms, is_atom, is_relation}
use Rattle.covering.specs.Record.{is_term, are_places, are_answer_places, has_answer, answers, asking_of, AtomFits}
use Rattle.covering.specs.Record.{Fits, stored, new_places}
use Rattle.covering.specs.Buffer.{AtomsIn}
use Rattle.covering.proofs.Tests.{either, both, fst_of, true→T}
use Rattle.covering.proofs.Terms.{atom_path}
use Rattle.covering.proofs.Bytes.{Passed, answer_places_are}
use Rattle.covering.proofs.Lengths.{count_atoms}
use Rattle.covering.proofs.RoundTrip.{desk_apart, holding_apart, desk_variables_lem}
use Rattle.covering.proofs.Fitting.{term_is_used, atoms_fit}
use Rattle.covering.proofs.Wider.{Wider, atoms_mean, atoms_wider, places_wider, more_places}

pub desk_wider : (w : ℕ) → Wider (desk w) (holding w)
desk_wider w =
    record {
      relations = omega arith;
      answers = λ t. tt;
      places = refl;
      variables = omega (arith, desk_variables_lem w);
      constants = omega arith;
    }

one_more : (n : ℕ) → suc n ≡ 1 + n
one_more n = omega arith

none_more : (n : ℕ) → n ≡ 0 + n
none_more n = omega arith

-- where the atoms start after a record, and without one
after_record : (w : ℕ) → 1 + 1 * size (desk w) ≡ 1 + size (desk w)
after_record w = omega arith

at_once : (w : ℕ) → 1 + 0 * size (desk w) ≡ 1
at_once w = omega arith

-- no atom of the desk is an answer record
pub fits_free : {w : ℕ} {A : Question} → ((a : Atom) → a ∈ A → AtomFits (desk w) a) → NoRecord A
unfolding is_relation
fits_free {w} each a m e = subst (λ (b : ℕ). T (is_relation (desk w) b)) e (each a m).relation

-- an answer record has a term to answer with, so that it is not nothing
some_answer : (w : ℕ) (B : List ℕ) (i : ℕ) → (get_or B i 0 ≡ 255 → ⊥) → 1 ≤ w → (A : Question)
    → with_answer (args_at B i w) A ≡ answer_atom (args_at B i w) ∷ A
unfolding args_at
some_answer zero B i used h A = absurd (omega arith)
some_answer (suc w) B i used h A = rw (ne_eqb (get_or B i 0) 255 used)

some_record : (w : ℕ) (B : List ℕ) (i : ℕ) → (get_or B i 0 ≡ 255 → ⊥) → 1 ≤ w → records (args_at B i w) ≡ 1
unfolding args_at
some_record zero B i used h = absurd (omega arith)
some_record (suc w) B i used h = rw (ne_eqb (get_or B i 0) 255 used)

module _ (w : ℕ) (places : 1 ≤ w) where
  first_used : (B : List ℕ) (i : ℕ) → T (are_places (desk w) B i) → get_or B i 0 ≡ 255 → ⊥
  unfolding are_places
  first_used B i t = term_is_used (desk w) (desk_apart w) (get_or B i 0) (fst_of (is_term (desk w) (get_or B i 0)) _ t)

  module _ (B : List ℕ) (p : Passed (desk w) B) where
    pub desk_few : answers B + get_or B 0 0 ≤ 12
    desk_few = go (either (has_answer B))
      where
        go : (has_answer B ≡ true) ⊎ (has_answer B ≡ false) → answers B + get_or B 0 0 ≤ 12
        go (inl e) = rw e (omega (arith, p.most))
        go (inr e) = rw e (omega (arith, p.most))

    pub desk_free : NoRecord (asking_of (desk w) B).atoms
    unfolding asking_of
    desk_free =
        fits_free (λ a m. atoms_fit (desk w) (desk_apart w) B (omega arith) (get_or B 0 0) _ a p.atoms m)

    record_answer : has_answer B ≡ true → get_or B 1 0 ≡ answer_relation
    unfolding has_answer
    record_answer e = eqb→eq (get_or B 1 0) answer_relation (true→T _ e)

    answer_right : has_answer B ≡ true → T (are_places (desk w) B 2)
    answer_right e =
        answer_places_are (desk w) B 2 (subst (λ (b : Bool). T (cond b (are_answer_places (desk w) B 2) true)) e p.places)

    at_answers : (b : Bool) → has_answer B ≡ b → T (are_atoms (desk w) B (1 + cond b 1 0 * size (desk w)) (get_or B 0 0))
    at_answers b e =
        subst (λ (c : Bool). T (are_atoms (desk w) B (1 + cond c 1 0 * size (desk w)) (get_or B 0 0))) e p.atoms

    atoms_after : has_answer B ≡ true → T (are_atoms (desk w) B (1 + size (desk w)) (get_or B 0 0))
    atoms_after e =
        subst (λ (i : ℕ). T (are_atoms (desk w) B i (get_or B 0 0))) (after_record w) (at_answers true e)

    atoms_first : has_answer B ≡ false → T (are_atoms (desk w) B 1 (get_or B 0 0))
    atoms_first e = subst (λ (i : ℕ). T (are_atoms (desk w) B i (get_or B 0 0))) (at_once w) (at_answers false e)

    -- its atoms, the answer record among them, are sound
    pub desk_atoms : T (are_atoms (holding w) B 1 (answers B + get_or B 0 0))
    unfolding is_atom is_relation are_atoms
    desk_atoms = go (either (has_answer B))
      where
        answer : has_answer B ≡ true → T (is_atom (holding w) B 1)
        answer e =
            both (is_relation (holding w) (get_or B 1 0)) _
            (subst (λ (b : ℕ). T (is_relation (holding w) b)) (sym (record_answer e)) tt)
            (places_wider (desk w) (holding w) (desk_wider w) (holding_apart w) B 2 (answer_right e))

        go : (has_answer B ≡ true) ⊎ (has_answer B ≡ false) → T (are_atoms (holding w) B 1 (answers B + get_or B 0 0))
        go (inl e) =
            rw e
            (subst (λ (k : ℕ). T (are_atoms (holding w) B 1 k)) (one_more (get_or B 0 0))
            (both (is_atom (holding w) B 1) _ (answer e)
            (atoms_wider (desk w) (holding w) (desk_wider w) (holding_apart w) B (get_or B 0 0) _ (atoms_after e))))
        go (inr e) =
            rw e
            (subst (λ (k : ℕ). T (are_atoms (holding w) B 1 k)) (none_more (get_or B 0 0))
            (atoms_wider (desk w) (holding w) (desk_wider w) (holding_apart w) B (get_or B 0 0) 1 (atoms_first e)))

    pub desk_within : AtomsIn (holding w) B 1 (answers B + get_or B 0 0)
    desk_within = record { fits = omega (arith, p.exact); sound = desk_atoms }

    pub desk_narrow : (a : Atom) → a ∈ atoms_at (holding w) B 1 (answers B + get_or B 0 0) → length a.args ≤ w
    desk_narrow a m = (atoms_fit (holding w) (holding_apart w) B places _ 1 a desk_atoms m).places

    -- and are its question
    pub desk_joined : joined (asking_of (desk w) B) ≡ atoms_at (holding w) B 1 (answers B + get_or B 0 0)
    unfolding asking_of atom_at atoms_at
    desk_joined = go (either (has_answer B))
      where
        first : has_answer B ≡ true → answer_atom (args_at B 2 w) ≡ atom_at (holding w) B 1
        first e = atom_path (sym (record_answer e)) refl

        go : (has_answer B ≡ true) ⊎ (has_answer B ≡ false)
            → joined (asking_of (desk w) B) ≡ atoms_at (holding w) B 1 (answers B + get_or B 0 0)
        go (inl e) =
            rw e
            (some_answer w B 2 (first_used B 2 (answer_right e)) places _
            ∙ ap₂ ◌∷◌ (first e)
            (ap (λ (i : ℕ). atoms_at (desk w) B i (get_or B 0 0)) (after_record w)
            ∙ atoms_mean (desk w) (holding w) (desk_wider w) B (1 + size (desk w)) (get_or B 0 0))
            ∙ ap (atoms_at (holding w) B 1) (one_more (get_or B 0 0)))
        go (inr e) =
            rw e
            (ap (λ (i : ℕ). atoms_at (desk w) B i (get_or B 0 0)) (at_once w)
            ∙ atoms_mean (desk w) (holding w) (desk_wider w) B 1 (get_or B 0 0)
            ∙ ap (atoms_at (holding w) B 1) (none_more (get_or B 0 0)))

    -- so it fits where atoms have more places
    pub desk_fits : w ≤ new_places → Fits stored (joined (asking_of (desk w) B))
    desk_fits few = subst (Fits stored) (sym desk_joined) (record { most = most; each = each })
      where
        most : length (atoms_at (holding w) B 1 (answers B + get_or B 0 0)) ≤ 12
        most = omega (arith, count_atoms (holding w) B (answers B + get_or B 0 0) 1, desk_few)

        each : (a : Atom) → a ∈ atoms_at (holding w) B 1 (answers B + get_or B 0 0) → AtomFits stored a
        each a m = more_places few (atoms_fit (holding w) (holding_apart w) B places _ 1 a desk_atoms m)

    -- it has as many answer records as its question
    pub desk_records : records (asking_of (desk w) B).answer ≡ answers B
    unfolding asking_of
    desk_records = go (either (has_answer B))
      where
        go : (has_answer B ≡ true) ⊎ (has_answer B ≡ false) → records (asking_of (desk w) B).answer ≡ answers B
        go (inl e) = rw e (some_record w B 2 (first_used B 2 (answer_right e)) places)
        go (inr e) = rw e
