-- How long a written book is: as its header says, and at most 2,003 bytes. Assumes nothing.
use mathlib.Core.Path.{◌≡◌, refl, subst}
use mathlib.Core.List.Memᴰ
use mathlib.Core.List.{List, [], ◌∷◌}
use Prim.Native.Nat.{ℕ, ◌+◌, ◌*◌, ◌≤◌}
use native.Mathlib.Nat.{mul-le-mul_left}
use native.Mathlib.Omega.{arith}
use lib.ListN.{length, length-append}
use Rattle.covering.specs.Lists.{◌∈◌, gather}
use Rattle.covering.specs.Term.{Term, Question}
use Rattle.covering.specs.Asking.{with_answer}
use Rattle.covering.specs.Record.{holding, size}
use Rattle.covering.specs.Rule.{Rule}
use Rattle.covering.proofs.Lengths.{atoms_long}
use Rattle.reading.specs.Header.{BookForm}
use Rattle.reading.specs.Book.{Book}
use Rattle.reading.specs.Written.{atoms_bytes, rule_bytes, book_bytes, total_length, BookRule, BookFits}
use Rattle.reading.proofs.Forms.{FormKnown, for_known}
use Rattle.reading.proofs.WrittenHeader.{OneForm, written_form, bytes_long}

-- so many bytes for each of some
gather_most : {A : Type 0} (f : A → List ℕ) (k : ℕ) (xs : List A) → ((x : A) → x ∈ xs → length (f x) ≤ k)
    → length (gather f xs) ≤ k * length xs
gather_most f k [] h = omega arith
gather_most f k (x ∷ xs) h =
    omega (
      arith,
      length-append (f x) (gather f xs),
      h x (Memᴰ.head refl),
      gather_most f k xs (λ y m. h y (Memᴰ.tail m)),
    )

joined_most : (ts : List Term) (A : Question) → length (with_answer ts A) ≤ 1 + length A
joined_most [] A = omega arith
joined_most (t ∷ ts) A = omega arith

module _ (f : BookForm) (b : Book) (one : OneForm f) where
  pub form_is_known : FormKnown f
  form_is_known = subst FormKnown (written_form f b one) (for_known _)

  -- seven bytes for an atom
  atoms_most : (A : Question) → length (atoms_bytes f A) ≤ length A * 7
  atoms_most A =
      let h : size (holding f.places) ≤ 7 = omega (arith, form_is_known.few_places) in
      omega (arith, atoms_long (holding f.places) A, mul-le-mul_left (length A) h)

  -- two bytes and eight atoms for a rule
  rule_most : (r : Rule) → BookRule f b r → length (rule_bytes f r) ≤ 58
  unfolding rule_bytes
  rule_most r k =
      omega (
        arith,
        length-append (atoms_bytes f r.body) (atoms_bytes f r.head),
        atoms_most r.body,
        atoms_most r.head,
        k.the_body_count.1,
        k.the_head_count.1,
      )

  -- "room under 2,003 bytes" is too little (02, i): 20 + 64 + 32 x 58 + 9 x 7
  pub total_most : BookFits f b → total_length f b ≤ 2003
  total_most fits =
      omega (
        arith,
        form_is_known.few_header,
        fits.relations.1,
        fits.rule_count.1,
        fits.atom_count.1,
        gather_most (rule_bytes f) 58 b.rules (λ r m. rule_most r (fits.rules r m)),
        atoms_most (with_answer b.question.answer b.question.atoms),
        joined_most b.question.answer b.question.atoms,
      )

  pub written_long : BookFits f b → (length (book_bytes f b) ≡ total_length f b) × (length (book_bytes f b) ≤ 2003)
  written_long fits = (bytes_long f b one, omega (arith, bytes_long f b one, total_most fits))
