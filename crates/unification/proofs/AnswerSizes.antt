-- How large a rewriting is after its answer record, as `Sizes` has it for all of it: fewer atoms than the question's
-- and the body's together, each like one of these, and variables below a bound on its atoms and places. Assumes
-- nothing.
use mathlib.Core.Path.{◌≡◌, sym, ◌∙◌, subst}
use mathlib.Core.Logic.{◌⊎◌, inl, inr}
use mathlib.Core.List.Memᴰ
use mathlib.Core.List.{◌++◌}
use Prim.Native.Nat.{ℕ, ◌+◌, ◌*◌, ◌<◌, ◌≤◌}
use native.Mathlib.Omega.{arith}
use lib.ListN.{length}
use Rattle.covering.specs.Lists.{◌∈◌}
use Rattle.covering.specs.Term.{Atom, Question, Below}
use Rattle.covering.specs.Asking.{asking, records, Shaped}
use Rattle.covering.specs.Rule.{Rule}
use Rattle.covering.proofs.Asked.{after_out}
use Rattle.covering.proofs.Shaped.{shaped_in, shaped_length, records_same}
use Rattle.covering.proofs.AnswerVariables.{shaped_form_below}
use Rattle.unification.proofs.Listed.{Made}
use Rattle.unification.proofs.Sizes.{Shape, listed_form, listed_length, listed_shape}

module _ {k n i : ℕ} {r : Rule} {M P : Question} (s : Shaped n M) (t : Shaped n P) (w : Made k r M i P) where
  pub shaped_fewer : length (asking P).atoms < length (asking M).atoms + length r.body
  shaped_fewer =
      let same : records (asking P).answer ≡ records (asking M).answer =
      records_same (asking P).answer (asking M).answer (t.places ∙ sym s.places) in
      omega (arith, listed_length w, shaped_length s, shaped_length t)

  pub shaped_shape : (a : Atom) → a ∈ (asking P).atoms → Shape ((asking M).atoms ++ r.body) a
  shaped_shape a m =
      let h = listed_shape w a (shaped_in t m) in
      record {
        like = h.like;
        among = at h.like h.relation (Memᴰ.append_cases M h.among);
        relation = h.relation;
        places = h.places;
      }
    where
      at : (b : Atom) → a.rel ≡ b.rel → (b ∈ M) ⊎ (b ∈ r.body) → b ∈ (asking M).atoms ++ r.body
      at b e (inl x) =
          Memᴰ.append_left r.body
          (after_out (asking M).answer (asking M).atoms (subst (λ (A : Question). b ∈ A) (sym s.is) x)
          (λ q. t.free a m (e ∙ q)))
      at b e (inr x) = Memᴰ.append_right (asking M).atoms x

  pub shaped_apart : (m p : ℕ) → ((a : Atom) → a ∈ (asking M).atoms → length a.args ≤ p)
      → ((a : Atom) → a ∈ r.body → length a.args ≤ p) → length (asking P).atoms ≤ m → Below (m * p) P
  shaped_apart m p narrow narrow-body short =
      shaped_form_below m p t (listed_form w) short
      (λ a x.
      let h = shaped_shape a x in
      let like = at h.like (Memᴰ.append_cases (asking M).atoms h.among) in
      let same = h.places in
      omega arith)
    where
      at : (b : Atom) → (b ∈ (asking M).atoms) ⊎ (b ∈ r.body) → length b.args ≤ p
      at b (inl x) = narrow b x
      at b (inr x) = narrow-body b x
