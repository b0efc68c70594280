-- What the whole run shows at its returns: the run's outcome, and the union put into the output. The run is of the book in
-- the new form, which means the same. Assumes nothing.
use mathlib.Core.Path.{◌≡◌, sym, ◌∙◌, ap, ap₂, subst, refl}
use mathlib.Core.List.Memᴰ
use mathlib.Core.List.{List, [], ◌∷◌, ◌++◌}
use Prim.Native.Nat.{ℕ, ◌-◌, ◌≤◌}
use native.Mathlib.Omega.{arith}
use lib.ListN.{length, drop, length-append}
use Rattle.covering.specs.Term.{Atom, Question}
use Rattle.covering.specs.Asking.{asking}
use Rattle.covering.specs.Lists.{◌∈◌, gather}
use Rattle.covering.specs.Record.{holding, atom_bytes}
use Rattle.covering.specs.Put.{Puts}
use Rattle.reading.specs.Header.{atom_places}
use Rattle.reading.specs.Book.{Book, book_of}
use Rattle.reading.specs.Verdict.{SoundBook}
use Rattle.exploration.specs.Run.{State, run}
use Rattle.exploration.specs.Union.{first_at, output_size, total, union_bytes, members_bytes}
use Rattle.exploration.specs.Held.{held_from}
use Rattle.exploration.specs.Answer.{outcome_of, Answers}
use Rattle.exploration.specs.Refusals.{answers_of}
use Rattle.exploration.proofs.Returns.{returns_refused, returns_union}
use Rattle.exploration.proofs.UnionBytes.{Written, written_is, union_is, total_is}
use Rattle.exploration.proofs.OfBook.{written_member, whole}
use Rattle.writing.specs.Uncounted.{uncounted_bytes, four_words}
use Rattle.admit.specs.WorkingArray.{Stands}
use Rattle.std.specs.Prelude.{Ok, Err}
use Rattle.reading.specs.declared.Refused.{Refused}
use Rattle.reading.specs.Told.{number_of}
use Rattle.explore.specs.Exploring.{RanIs}

module _ (book wide out : List ℕ) (roomy : output_size ≤ length out) (sound : SoundBook book)
    (same : book_of wide ≡ book_of book)
  where
    -- the two forms of a book run alike
    pub outcome_same : outcome_of wide ≡ outcome_of book
    outcome_same = ap (λ (b : Book). run b.rules b.allowed b.question) same

    pub returns_stopped : (t : State) (r : Refused) → RanIs (outcome_of wide) t (Err r)
        → Answers book out (number_of r.reason) r.place out
    returns_stopped t r x =
        subst (λ (n : ℕ). Answers book out n r.place out) (sym x.2)
        (returns_refused book out roomy sound (sym outcome_same ∙ x.1))

    -- complete, its members U stand in the array X
    module _ (t : State) (n : ℕ) (x : RanIs (outcome_of wide) t (Ok n)) {X : List ℕ} (st : Stands X t.members) where
      abbrev U : List Question
      U = t.members

      -- each member as it is written
      written : (M : Question) → M ∈ U → Written (atom_places book) (answers_of book) M
      written M m = written_member book sound ((whole book sound (sym outcome_same ∙ x.0)).good M m)

      held_are : (count : ℕ) → count ≡ length t.members → held_from X first_at count ≡ t.members
      held_are count all = ap (held_from X first_at) all ∙ st.are

      in_union : (count : ℕ) → count ≡ length t.members → (M : Question) → M ∈ held_from X first_at count → M ∈ t.members
      in_union count all M m = subst (λ (V : List Question). M ∈ V) (held_are count all) m

      -- what `put_union` asks
      pub have_answers : (answers : ℕ) → answers ≡ answers_of book → (count : ℕ) → count ≡ length t.members → (M : Question)
          → M ∈ held_from X first_at count → answers ≤ length M
      have_answers answers is count all M m = omega (arith, is, (written M (in_union count all M m)).count)

      pub few_places : (w : ℕ) → w ≡ atom_places book → (count : ℕ) → count ≡ length t.members → (M : Question)
          → M ∈ held_from X first_at count → (a : Atom) → a ∈ M → length a.args ≤ w
      few_places w is count all M m a k = omega (arith, is, ((written M (in_union count all M m)).fits.each a k).places)

      -- what is written is what is held, the answer records not counted
      uncounted_is : (S : List Question) → ((M : Question) → M ∈ S → Written (atom_places book) (answers_of book) M)
          → uncounted_bytes (atom_places book) (answers_of book) S ≡ members_bytes (atom_places book) S
      uncounted_is [] h = refl
      uncounted_is (M ∷ S) h =
          let w = h M (Memᴰ.head refl) in
          let count : length M - answers_of book ≡ length (asking M).atoms = omega (arith, w.count) in
          ap₂ ◌++◌
          (ap (λ (c : ℕ). c ∷ gather (atom_bytes (holding (atom_places book))) M) count ∙ sym (written_is w))
          (uncounted_is S (λ N y. h N (Memᴰ.tail y)))

      pub returns_complete : (answers w count : ℕ) → answers ≡ answers_of book → w ≡ atom_places book → count ≡ length t.members
          → (end : ℕ) (after : List ℕ)
          → Puts (four_words count n end ++ uncounted_bytes w answers (held_from X first_at count)) out 0 end after
          → Answers book out 0 end after
      returns_complete answers w count is wide_is all end after p =
          subst (λ (e : ℕ). Answers book out 0 e after) (sym ends)
          (subst (λ (a : List ℕ). Answers book out 0 (total (atom_places book) U) a) (sym bytes)
          (returns_union book out roomy sound (sym outcome_same ∙ x.0)))
        where
          members : uncounted_bytes w answers (held_from X first_at count) ≡ members_bytes (atom_places book) U
          members =
              ap (uncounted_bytes w answers) (held_are count all)
              ∙ ap₂ (λ (v a : ℕ). uncounted_bytes v a U) wide_is is
              ∙ uncounted_is U written

          ends : end ≡ total (atom_places book) U
          ends =
              p.ends
              ∙ omega (
                arith,
                length-append (four_words count n end) (uncounted_bytes w answers (held_from X first_at count)),
                ap length members,
                total_is (atom_places book) U,
              )

          union : four_words count n end ++ uncounted_bytes w answers (held_from X first_at count) ≡ union_bytes (atom_places book) U n
          union =
              ap₂ (λ (h m : List ℕ). h ++ m) (ap₂ (λ (c e : ℕ). four_words c n e) all ends) members
              ∙ sym (union_is (atom_places book) U n)

          bytes : after ≡ union_bytes (atom_places book) U n ++ drop (total (atom_places book) U) out
          bytes = p.puts ∙ ap₂ (λ (b : List ℕ) (e : ℕ). b ++ drop e out) union ends
