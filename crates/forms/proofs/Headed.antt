-- The header of a sound book, as the code reads it. Assumes nothing.
use mathlib.Core.Path.{◌≡◌, ◌∙◌, ap}
use mathlib.Core.List.{List}
use Prim.Native.Nat.{ℕ, ◌+◌, ◌≤◌}
use native.Mathlib.Omega.{arith}
use lib.ListN.{length}
use Rattle.reading.specs.declared.Header.{Header}
use Rattle.reading.specs.Header.{header_of, header_size, relations, constants, rules, atoms, allowed, question_at}
use Rattle.reading.specs.Header.{atom_places}
use Rattle.reading.specs.Book.{rules_start}
use Rattle.reading.specs.Verdict.{SoundBook}
use Rattle.reading.proofs.SoundBook.{sound_header}

pub record Headed (B : List ℕ) (h : Header) : Type 0 where
  pub relations_are : h.relations ≡ relations B
  pub constants_are : h.constants ≡ constants B
  pub rules_are : h.rules ≡ rules B
  pub atoms_are : h.atoms ≡ atoms B
  pub allowed_is : h.allowed ≡ allowed B
  pub table_is : h.table ≡ header_size B
  pub start_is : h.start ≡ rules_start B
  pub question_is : h.question ≡ question_at B
  pub places_are : h.places ≡ atom_places B
  -- the relations stand in the book
  pub table_in : h.table + h.relations ≤ length B
  pub few_atoms : h.atoms ≤ 8

pub headed : (B : List ℕ) → SoundBook B → {h : Header} → h ≡ header_of B → Headed B h
headed B s {h} is =
    record {
      relations_are = relations_are;
      constants_are = ap (λ (x : Header). x.constants) is;
      rules_are = ap (λ (x : Header). x.rules) is;
      atoms_are = atoms_are;
      allowed_is = ap (λ (x : Header). x.allowed) is;
      table_is = table_is;
      start_is = ap (λ (x : Header). x.start) is ∙ (sound_header B s).start_is;
      question_is = ap (λ (x : Header). x.question) is;
      places_are = ap (λ (x : Header). x.places) is ∙ (sound_header B s).places_are;
      table_in = omega (arith, table_is, relations_are, (sound_header B s).start_fits, (sound_header B s).ends);
      few_atoms = omega (arith, atoms_are, (sound_header B s).few_atoms);
    }
  where
    relations_are : h.relations ≡ relations B
    relations_are = ap (λ (x : Header). x.relations) is

    atoms_are : h.atoms ≡ atoms B
    atoms_are = ap (λ (x : Header). x.atoms) is

    table_is : h.table ≡ header_size B
    table_is = ap (λ (x : Header). x.table) is ∙ (sound_header B s).table_is
