-- The two forms of a book run alike: sound books that mean the same have the same result, so the same refusals at the same
-- places, the same count of explored questions, and members that are the same questions. Assumes nothing.
use mathlib.Core.Path.{◌≡◌, refl, sym, ◌∙◌, ap}
use mathlib.Core.Bool.{Bool, cond}
use mathlib.Core.List.{List}
use Prim.Native.Nat.{ℕ, ◌≤◌}
use borrow.Author.Tests.{eq-eqb, ne_eqb, le-ltb}
use lib.Dec.{ltb}
use lib.ListN.{length}
use Rattle.reading.specs.Header.{atom_places}
use Rattle.reading.specs.Book.{Book, book_of}
use Rattle.reading.specs.Verdict.{verdict, SoundBook}
use Rattle.exploration.specs.Run.{run}
use Rattle.exploration.specs.Union.{output_size, members_of, explored_of}
use Rattle.exploration.specs.Answer.{refusal, outcome_of, result_of, result, Answers}
use Rattle.exploration.specs.Refusals.{answers_of}
use Rattle.exploration.proofs.Refused.{refuses_exactly, completes_exactly}
use Rattle.exploration.proofs.Given.{refused_exactly, the_run, every_run}

pub outcomes_alike : (B C : List ℕ) → book_of B ≡ book_of C → outcome_of B ≡ outcome_of C
outcomes_alike B C same = ap (λ (b : Book). run b.rules b.allowed b.question) same

result_sound : (B : List ℕ) (room : ℕ) → SoundBook B
    → result B room ≡ cond (ltb room output_size) (refusal 1 0) (result_of (outcome_of B))
unfolding result
result_sound B room s =
    ap
    (λ (b : Bool). cond (ltb room output_size) (refusal 1 0)
    (cond b (result_of (outcome_of B)) (refusal (verdict B).number (verdict B).place)))
    (eq-eqb (verdict B).number 0 s)

-- and of a book that is refused the result is the refusal
pub result_unsound : (B : List ℕ) (room : ℕ) → output_size ≤ room → (SoundBook B → ⊥)
    → result B room ≡ refusal (verdict B).number (verdict B).place
unfolding result
result_unsound B room h f = rw (le-ltb room output_size h, ne_eqb (verdict B).number 0 f)

module _ (B C : List ℕ) (b : SoundBook B) (c : SoundBook C) (same : book_of B ≡ book_of C) where
  pub results_alike : (room : ℕ) → result B room ≡ result C room
  results_alike room =
      result_sound B room b
      ∙ ap (λ o. cond (ltb room output_size) (refusal 1 0) (result_of o)) (outcomes_alike B C same)
      ∙ sym (result_sound C room c)

  module _ {out other : List ℕ} {n p m q : ℕ} {after changed : List ℕ} (g : Answers B out n p after)
      (h : Answers C other m q changed) (room : length out ≡ length other)
    where
      result_same : result B (length out) ≡ result C (length other)
      result_same = results_alike (length out) ∙ ap (result C) room

      -- refused alike
      pub refused_alike : 1 ≤ n → (n ≡ m) × (p ≡ q)
      refused_alike one =
          let r = (refuses_exactly B (length out) n p).1 ((refused_exactly g n p one).0 (refl, refl)) in
          let x =
          (refused_exactly h n p one).1 ((refuses_exactly C (length other) n p).0 (sym result_same ∙ r)) in
          (sym x.0, sym x.1)

      -- complete alike
      pub complete_alike : n ≡ 0
          → (m ≡ 0)
          × (members_of (atom_places B) (answers_of B) after ≡ members_of (atom_places C) (answers_of C) changed)
          × (explored_of after ≡ explored_of changed)
      complete_alike zero =
          let U = members_of (atom_places B) (answers_of B) after in
          let k = explored_of after in
          let is = (completes_exactly B (length out) U k).1 (the_run g zero) in
          let x = every_run h ((completes_exactly C (length other) U k).0 (sym result_same ∙ is)) in
          (x.0, sym x.1, sym x.2)
