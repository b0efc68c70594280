-- What follows from the function's contract (`Answers`): its number, its place and its output by cases of the result,
-- and what there is where the number is 0. Assumes nothing.
use mathlib.Core.Path.{◌≡◌, refl, sym, ◌∙◌, ap, ap₂}
use mathlib.Core.Logic.{◌↔◌}
use mathlib.Core.List.{List, ◌++◌}
use Prim.Native.Nat.{ℕ, ◌≤◌}
use native.Mathlib.Omega.{arith}
use lib.ListN.{length, take, drop, length-append, length-drop}
use lib.Seq.{take_at, drop_at}
use Rattle.covering.specs.Lists.{◌∈◌}
use Rattle.covering.specs.Term.{Question}
use Rattle.reading.specs.Header.{atom_places}
use Rattle.reading.specs.Verdict.{SoundBook}
use Rattle.reading.proofs.Forms.{form_known}
use Rattle.exploration.specs.Run.{complete}
use Rattle.exploration.specs.Union.{output_size, total, union_bytes, members_of, explored_of}
use Rattle.exploration.specs.Answer.{Result, union, refusal, outcome_of, result, answer, written, answer_of}
use Rattle.exploration.specs.Answer.{written_of, Answers}
use Rattle.exploration.specs.Refusals.{Refuses, Completes, answers_of}
use Rattle.exploration.proofs.OfBook.{Member, whole, members_most, written_member, member_few}
use Rattle.exploration.proofs.UnionBytes.{union_length, total_most, explored_read, union_round, Written}
use Rattle.exploration.proofs.Refused.{refuses_exactly, completes_exactly, refuses_from, ran_union}

module _ {book out : List ℕ} {number place : ℕ} {after : List ℕ} (given : Answers book out number place after) where
  abbrev of : Result
  of = result book (length out)

  number_is : number ≡ (answer (atom_places book) of).0
  unfolding answer_of
  number_is = ap (λ (x : ℕ × ℕ). x.0) given.answers

  place_is : place ≡ (answer (atom_places book) of).1
  unfolding answer_of
  place_is = ap (λ (x : ℕ × ℕ). x.1) given.answers

  after_is : after ≡ written (atom_places book) of out
  unfolding written_of
  after_is = given.writes

  pub refused_exactly : (n p : ℕ) → 1 ≤ n → ((number ≡ n) × (place ≡ p)) ↔ Refuses book (length out) n p
  refused_exactly n p one = (λ e. go of refl (sym number_is ∙ e.0) (sym place_is ∙ e.1), back)
    where
      go : (r : Result) → of ≡ r → (answer (atom_places book) of).0 ≡ n → (answer (atom_places book) of).1 ≡ p → Refuses book (length out) n p
      go (union U k) e a b =
          let z : 0 ≡ n = sym (ap (λ (r : Result). (answer (atom_places book) r).0) e) ∙ a in absurd (omega arith)
      go (refusal m q) e a b =
          (refuses_exactly book (length out) n p).0
          (e
          ∙ ap₂ refusal (sym (ap (λ (r : Result). (answer (atom_places book) r).0) e) ∙ a) (sym (ap (λ (r : Result). (answer (atom_places book) r).1) e) ∙ b))

      back : Refuses book (length out) n p → (number ≡ n) × (place ≡ p)
      back r =
          let e = (refuses_exactly book (length out) n p).1 r in (
            number_is ∙ ap (λ (x : Result). (answer (atom_places book) x).0) e,
            place_is ∙ ap (λ (x : Result). (answer (atom_places book) x).1) e,
          )

  -- "Every other number means that no output byte changed."
  pub refusal_unchanged : 1 ≤ number → after ≡ out
  refusal_unchanged one = go of refl
    where
      go : (r : Result) → of ≡ r → after ≡ out
      go (union U k) e =
          let z : number ≡ 0 = number_is ∙ ap (λ (r : Result). (answer (atom_places book) r).0) e in absurd (omega arith)
      go (refusal m q) e = after_is ∙ ap (λ (r : Result). written (atom_places book) r out) e

  -- What there is where the number is 0.
  pub record Whole : Type 0 where
    pub members : List Question
    pub explored : ℕ
    pub roomy : output_size ≤ length out
    pub sound : SoundBook book
    pub ran : outcome_of book ≡ complete members explored
    pub is : result book (length out) ≡ union members explored

  module _ (zero : number ≡ 0) where
    pub whole_given : Whole
    whole_given = go of refl
      where
        go : (r : Result) → of ≡ r → Whole
        go (union U k) e =
            let x = ran_union book (length out) e in
            record { members = U; explored = k; roomy = x.0; sound = x.1; ran = x.2; is = e }
        go (refusal m q) e =
            let one = refuses_from book (length out) ((refuses_exactly book (length out) m q).0 e) in
            let z : number ≡ m = number_is ∙ ap (λ (r : Result). (answer (atom_places book) r).0) e in
            absurd (omega arith)

    abbrev U : List Question
    U = whole_given.members

    total_is : place ≡ total (atom_places book) U
    total_is = place_is ∙ ap (λ (r : Result). (answer (atom_places book) r).1) whole_given.is

    bytes_are : after ≡ union_bytes (atom_places book) U whole_given.explored ++ drop (total (atom_places book) U) out
    bytes_are = after_is ∙ ap (λ (r : Result). written (atom_places book) r out) whole_given.is

    -- a member of the run
    pub kind : (M : Question) → M ∈ whole_given.members → Member book M
    kind M m = (whole book whole_given.sound whole_given.ran).good M m

    -- as it is written
    pub member_written : (M : Question) → M ∈ whole_given.members → Written (atom_places book) (answers_of book) M
    member_written M m = written_member book whole_given.sound (kind M m)

    pub members_are : members_of (atom_places book) (answers_of book) after ≡ whole_given.members
    members_are =
        ap (members_of (atom_places book) (answers_of book)) bytes_are
        ∙ union_round (atom_places book) (answers_of book) U whole_given.explored (drop (total (atom_places book) U) out) member_written

    pub explored_is : explored_of after ≡ whole_given.explored
    explored_is = ap explored_of bytes_are ∙ explored_read (atom_places book) (answers_of book) U whole_given.explored (drop (total (atom_places book) U) out)

    -- "0 means complete, and the place is the total length written."
    pub the_place : place ≡ total (atom_places book) (members_of (atom_places book) (answers_of book) after)
    the_place = total_is ∙ ap (total (atom_places book)) (sym members_are)

    -- "Output room becomes 4,104 for all"
    pub place_most : place ≤ output_size
    place_most =
        let h =
        total_most (atom_places book) (answers_of book) U (form_known book).few_places member_written (members_most book whole_given.sound whole_given.ran)
        (λ M m. member_few book whole_given.sound (kind M m)) in
        omega (arith, total_is)

    pub output_roomy : output_size ≤ length out
    output_roomy = whole_given.roomy

    -- "Bytes of the output after the total are not touched."
    pub rest_untouched : drop place after ≡ drop place out
    rest_untouched =
        ap (drop place) bytes_are
        ∙ drop_at (union_bytes (atom_places book) U whole_given.explored) (drop (total (atom_places book) U) out) place
        (union_length (atom_places book) U whole_given.explored ∙ sym total_is)
        ∙ ap (λ (n : ℕ). drop n out) (sym total_is)

    -- the bytes written say the run's members and its count of explored questions, computed and in single steps
    pub the_outcome : outcome_of book ≡ complete (members_of (atom_places book) (answers_of book) after) (explored_of after)
    the_outcome = whole_given.ran ∙ ap₂ complete (sym members_are) (sym explored_is)

    pub the_run : Completes book (length out) (members_of (atom_places book) (answers_of book) after) (explored_of after)
    the_run =
        (completes_exactly book (length out) _ _).0 (whole_given.is ∙ ap₂ union (sym members_are) (sym explored_is))

    pub the_bytes : take place after ≡ union_bytes (atom_places book) (members_of (atom_places book) (answers_of book) after) (explored_of after)
    the_bytes =
        ap (take place) bytes_are
        ∙ take_at (union_bytes (atom_places book) U whole_given.explored) (drop (total (atom_places book) U) out) place
        (union_length (atom_places book) U whole_given.explored ∙ sym total_is)
        ∙ ap₂ (union_bytes (atom_places book)) (sym members_are) (sym explored_is)

  -- no byte more or less
  pub same_length : length after ≡ length out
  same_length = go of refl
    where
      go : (r : Result) → of ≡ r → length after ≡ length out
      go (refusal m q) e = ap length (after_is ∙ ap (λ (r : Result). written (atom_places book) r out) e)
      go (union U k) e =
          let zero : number ≡ 0 = number_is ∙ ap (λ (r : Result). (answer (atom_places book) r).0) e in
          let front = union_length (atom_places book) (whole_given zero).members (whole_given zero).explored in
          let whole =
          length-append (union_bytes (atom_places book) (whole_given zero).members (whole_given zero).explored)
          (drop (total (atom_places book) (whole_given zero).members) out) in
          let back = length-drop (total (atom_places book) (whole_given zero).members) out in
          let fits = place_most zero in
          let room = output_roomy zero in
          ap length (bytes_are zero) ∙ omega (arith, total_is zero)

  -- "0 means complete"
  pub complete_exactly : (number ≡ 0) ↔ ((U : List Question) × (k : ℕ) × Completes book (length out) U k)
  complete_exactly = (
    λ zero. let w = whole_given zero in (w.members, w.explored, (completes_exactly book (length out) _ _).0 w.is),
    λ c. number_is ∙ ap (λ (r : Result). (answer (atom_places book) r).0) ((completes_exactly book (length out) c.0 c.1).1 c.2),
  )

  -- whenever the run completes, its members and its count are given
  pub every_run : {U : List Question} {k : ℕ} → Completes book (length out) U k
      → (number ≡ 0) × (members_of (atom_places book) (answers_of book) after ≡ U) × (explored_of after ≡ k)
  every_run {U} {k} c =
      let zero = complete_exactly.1 (U, k, c) in
      let is = (completes_exactly book (length out) U k).1 c in
      let same : union (whole_given zero).members (whole_given zero).explored ≡ union U k = sym (whole_given zero).is ∙ is in
      (zero, members_are zero ∙ (cc), explored_is zero ∙ (cc))
