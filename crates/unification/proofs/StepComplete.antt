-- If a rule's application makes a question hold, the question held before or one of its rewritings did. Assumes
-- nothing.
use mathlib.Core.Path.{refl, subst}
use mathlib.Core.Bool.{not}
use mathlib.Core.Logic.{◌⊎◌, inl, inr}
use mathlib.Core.List.Memᴰ
use mathlib.Core.List.{◌++◌}
use Prim.Native.Nat.{ℕ}
use lib.Dec.{T}
use lib.ListN.{length, length-map}
use Rattle.covering.specs.Covers.{Sends, Covers}
use Rattle.covering.specs.Form.{form}
use Rattle.covering.specs.Lists.{◌∈◌}
use Rattle.covering.specs.Term.{Question, Sub, on_atom, on_question, var, Below}
use Rattle.covering.proofs.Preorder.{covers_trans}
use Rattle.covering.proofs.Form.{form_equivalent}
use Rattle.covering.proofs.Tests.{decide}
use Rattle.covering.proofs.Terms.{on_atom_same, terms_in}
use Rattle.covering.specs.Rule.{Rule}
use Rattle.unification.specs.Classes.{unify, Kernel}
use Rattle.unification.specs.Choice.{number, choices, some_sent, left, pairing}
use Rattle.unification.specs.Step.{up, move, valid, rewriting, rewritings}
use Rattle.unification.specs.Apply.{Applies}
use Rattle.unification.proofs.Classes.{Least, unify_least, kernel_admissible}
use Rattle.unification.proofs.Choices.{Chosen, choose, idle}
use Rattle.unification.proofs.Listed.{Made, rewritings_in}
use Rattle.unification.proofs.Moved.{glue, glue_below, moved}
use Rattle.unification.proofs.Valid.{valid_here, rewriting_holds, fresh_varlike, fresh_lonely}

-- the rewriting that holds
pub record HeldBefore (k : ℕ) (r : Rule) (Q F : Question) : Type 0 where
  pub question : Question
  pub listed : question ∈ rewritings k r Q
  pub holds : Covers question F

pub step_complete : (k : ℕ) (r : Rule) (Q F G : Question) → Below k Q → Applies r F G → Covers Q G
    → Covers Q F ⊎ HeldBefore k r Q F
unfolding moved
step_complete k r Q F G below app cov = go (decide (some_sent c.choice))
  where
    θ : Sub
    θ = glue k cov.by app.by

    r' : Rule
    r' = move k r

    m : Applies r' F G
    m = moved k r cov.by app

    into : Sends θ Q (F ++ on_question θ r'.head)
    into a h =
        subst (λ (A : Question). on_atom θ a ∈ A) m.result
        (Memᴰ.cast
        (on_atom_same θ cov.by a (λ t n. glue_below k cov.by app.by Q below t (terms_in Q h n)))
        (cov.sends a h))

    c : Chosen θ F r'.head Q
    c = choose θ F r'.head Q into

    u : Least (Kernel θ) (unify (pairing c.choice Q r'.head) var)
    u = unify_least (Kernel θ) (kernel_admissible θ) (pairing c.choice Q r'.head) var (λ n. refl) c.meets

    L : Question
    L = left c.choice Q

    P : Question
    P = rewriting u.classes L r'

    ok : T (valid u.classes L r')
    ok =
        valid_here r' L θ u.classes u.near
        (fresh_varlike r' F L θ m.sends c.leaves m.fresh m.distinct)
        (fresh_lonely r' F L θ m.sends c.leaves m.fresh m.distinct)

    among : c.choice ∈ choices (length r.head) (length Q)
    among = subst (λ (n : ℕ). c.choice ∈ choices n (length Q)) (length-map r.head (on_atom (up k))) c.listed

    made : T (some_sent c.choice) → Made k r Q (number (length r.head) c.choice) (form P)
    made t =
        record {
          choice = c.choice;
          among = among;
          sends = t;
          classes = u.classes;
          found = u.found;
          ok = ok;
          is = refl;
          place = refl;
        }

    in_f : Covers P F
    in_f = record { by = θ; sends = rewriting_holds r' F L θ u.classes u.near m.sends c.leaves }

    go : T (some_sent c.choice) ⊎ T (not (some_sent c.choice)) → Covers Q F ⊎ HeldBefore k r Q F
    go (inl t) =
        inr
        (record {
          question = form P;
          listed = rewritings_in (made t);
          holds = covers_trans (form_equivalent P).1 in_f;
        })
    go (inr t) =
        inl
        (record { by = θ; sends = subst (λ (A : Question). Sends θ A F) (idle c.choice Q t) c.leaves })
