-- What follows for the numbers of a header that refusals 3 and 4 do not hit. Assumes nothing.
use mathlib.Core.Path.{◌≡◌, ap}
use mathlib.Core.Bool.{true, false, cond}
use mathlib.Core.Logic.{◌⊎◌, inl, inr}
use mathlib.Core.List.{List}
use Prim.Native.Nat.{ℕ, ◌+◌, ◌*◌, ◌≤◌}
use native.Mathlib.Omega.{arith}
use borrow.Author.Tests.{eqb-true, eqb-false}
use lib.Dec.{T, eqb}
use lib.ListN.{length}
use Rattle.covering.proofs.Tests.{either}
use Rattle.reading.specs.declared.Header.{Header}
use Rattle.reading.specs.Header.{form_of, atom_places}
use Rattle.reading.specs.Header.{header_size, atoms, question_at, total_word, header_of, atom_size, end_with}
use Rattle.reading.specs.Header.{announced, answer_records}
use Rattle.reading.specs.Header.{relations_range, constants_range, rules_range, atoms_range, allowed_range}
use Rattle.reading.specs.Verdict.{form_in, in_table, offsets_right}
use Rattle.reading.proofs.Conditions.{OneTotal, in_table_lem, offsets_right_lem}
use Rattle.reading.proofs.Ranges.{inside_in}

pub record HeaderKnown (B : List ℕ) (h : Header) : Type 0 where
  pub some_relation : 1 ≤ h.relations
  pub few_relations : h.relations ≤ relations_range.most
  pub few_constants : h.constants ≤ constants_range.most
  pub few_rules : h.rules ≤ rules_range.most
  pub some_atom : 1 ≤ h.atoms
  pub few_atoms : h.atoms ≤ atoms_range.most
  pub some_allowed : 1 ≤ h.allowed
  pub few_allowed : h.allowed ≤ allowed_range.most
  pub places_are : h.places ≡ atom_places B
  pub table_is : h.table ≡ header_size B
  pub start_is : h.start ≡ header_size B + h.relations
  pub start_fits : header_size B + h.relations ≤ h.question
  pub ends : h.question + atom_size B * (answer_records B + h.atoms) ≡ length B

-- the question ends with its atoms, and its answer record is counted where the total announces it
total_is : (B : List ℕ) → OneTotal B → total_word B ≡ question_at B + atom_size B * (answer_records B + atoms B)
unfolding announced
total_is B o = go (either (announced B)) o
  where
    go : (announced B ≡ true) ⊎ (announced B ≡ false) → OneTotal B
        → total_word B ≡ question_at B + atom_size B * (answer_records B + atoms B)
    go (inl t) _ = rw t (omega (arith, eqb-true (total_word B) (end_with (form_of B) (question_at B) (atoms B)) t))
    go (inr f) (inl e) = rw f (omega arith)
    go (inr f) (inr e) = absurd (eqb-false (total_word B) _ f e)

pub header_known : (B : List ℕ) → T (in_table (header_of B)) → T (offsets_right (header_of B) (length B))
    → HeaderKnown B (header_of B)
header_known B table offsets =
    let t = in_table_lem B table in
    let o = offsets_right_lem B offsets in
    record {
      some_relation = (inside_in relations_range t.relations_in).0;
      few_relations = (inside_in relations_range t.relations_in).1;
      few_constants = (inside_in constants_range t.constants_in).1;
      few_rules = (inside_in rules_range t.rules_in).1;
      some_atom = (inside_in atoms_range t.atoms_in).0;
      few_atoms = (inside_in atoms_range t.atoms_in).1;
      some_allowed = (inside_in allowed_range t.allowed_in).0;
      few_allowed = (inside_in allowed_range t.allowed_in).1;
      places_are = t.tenth_is;
      table_is = o.relations_at_lem;
      start_is = o.rules_at_lem;
      start_fits = omega (arith, o.rules_at_lem, o.question_at_lem);
      ends = omega (arith, total_is B o.total_is, o.length_is);
    }

-- how many answer records the header of a book tells of
pub records_told : (B : List ℕ) (h : Header) → h ≡ header_of B
    → cond (eqb h.total (end_with (form_in h) h.question h.atoms)) 1 0 ≡ answer_records B
unfolding announced
records_told B h e = ap (λ (x : Header). cond (eqb x.total (end_with (form_in x) x.question x.atoms)) 1 0) e
