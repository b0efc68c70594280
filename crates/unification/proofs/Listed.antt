-- What stands in the list of a question's rewritings: for each valid choice that sends some atom, its number and the
-- form of its rewriting. Assumes nothing.
use mathlib.Core.Path.{◌≡◌, refl, sym, ◌∙◌, ap, ap₂, subst}
use mathlib.Core.Bool.{not}
use mathlib.Core.Logic.{◌⊎◌, inl, inr}
use mathlib.Core.List.Memᴰ
use mathlib.Core.List.{map}
use mathlib.Core.Option.{Option, some, some-injective, none}
use Prim.Native.Nat.{ℕ}
use lib.Dec.{T}
use lib.ListN.{length}
use Rattle.covering.specs.Form.{form}
use Rattle.covering.specs.Lists.{◌∈◌, keep, bind}
use Rattle.covering.specs.Term.{Question, Sub, var}
use Rattle.covering.proofs.Lists.{keep_in, keep_out}
use Rattle.covering.proofs.Tests.{decide, none≢some, cond_yes, cond_no}
use Rattle.covering.specs.Rule.{Rule}
use Rattle.unification.specs.Classes.{unify}
use Rattle.unification.specs.Choice.{Choice, number, choices, some_sent, left, pairing}
use Rattle.unification.specs.Step.{move, valid, rewriting, judge, step_apart, step, label, listed, rewritings}
use Rattle.unification.proofs.Collected.{collect_in, collect_out}

-- an entry of the list and the choice that made it
pub record Made (k : ℕ) (r : Rule) (Q : Question) (n : ℕ) (P : Question) : Type 0 where
  pub choice : Choice
  pub among : choice ∈ choices (length r.head) (length Q)
  pub sends : T (some_sent choice)
  pub classes : Sub
  pub found : unify (pairing choice Q (move k r).head) var ≡ some classes
  pub ok : T (valid classes (left choice Q) (move k r))
  pub is : form (rewriting classes (left choice Q) (move k r)) ≡ P
  pub place : number (length r.head) choice ≡ n

pub label_out : {X : Type 0} {m n : ℕ} (o : Option X) {x : X} → label m o ≡ some (n, x) → (m ≡ n) × (o ≡ some x)
label_out none e = absurd (none≢some e)
label_out {X} (some y) e =
    let q = some-injective _ _ e in
    (ap (λ (p : ℕ × X). p.0) q, ap (λ (p : ℕ × X). some p.1) q)

-- a step that gives something has classes, and they are valid
record Judged (r : Rule) (Q : Question) (ds : Choice) (P : Question) : Type 0 where
  classes : Sub
  found : unify (pairing ds Q r.head) var ≡ some classes
  ok : T (valid classes (left ds Q) r)
  is : form (rewriting classes (left ds Q) r) ≡ P

judged : (r : Rule) (Q : Question) (ds : Choice) (P : Question) → step_apart r Q ds ≡ some P → Judged r Q ds P
judged r Q ds P e = go (unify (pairing ds Q r.head) var) refl e
  where
    at : (σ : Sub) → unify (pairing ds Q r.head) var ≡ some σ → judge (left ds Q) r σ ≡ some P
        → T (valid σ (left ds Q) r) ⊎ T (not (valid σ (left ds Q) r)) → Judged r Q ds P
    at σ f h (inl t) =
        record {
          classes = σ;
          found = f;
          ok = t;
          is = some-injective _ P (sym (cond_yes (valid σ (left ds Q) r) _ none t) ∙ h);
        }
    at σ f h (inr t) =
        absurd
        (none≢some (sym (cond_no (valid σ (left ds Q) r) (some (form (rewriting σ (left ds Q) r))) none t) ∙ h))

    go : (o : Option Sub) → unify (pairing ds Q r.head) var ≡ o → bind o (judge (left ds Q) r) ≡ some P
        → Judged r Q ds P
    go none f h = absurd (none≢some h)
    go (some σ) f h = at σ f h (decide (valid σ (left ds Q) r))

pub listed_out : {k : ℕ} {r : Rule} {Q : Question} {n : ℕ} {P : Question} → (n, P) ∈ listed k r Q → Made k r Q n P
unfolding listed step
listed_out {k} {r} {Q} {n} {P} m =
    go (collect_out (λ ds. label (number h ds) (step k r Q ds)) (keep some_sent (choices h (length Q))) m)
  where
    h : ℕ
    h = length r.head

    go : (ds : Choice) × (ds ∈ keep some_sent (choices h (length Q)))
        × (label (number h ds) (step k r Q ds) ≡ some (n, P))
        → Made k r Q n P
    go x =
        let l = label_out (step k r Q x.0) x.2 in
        let s = keep_out some_sent (choices h (length Q)) x.1 in
        let j = judged (move k r) Q x.0 P l.1 in
        record {
          choice = x.0;
          among = s.0;
          sends = s.1;
          classes = j.classes;
          found = j.found;
          ok = j.ok;
          is = j.is;
          place = l.0;
        }

pub step_gives : (k : ℕ) (r : Rule) (Q : Question) (ds : Choice) (σ : Sub)
    → unify (pairing ds Q (move k r).head) var ≡ some σ → T (valid σ (left ds Q) (move k r))
    → step k r Q ds ≡ some (form (rewriting σ (left ds Q) (move k r)))
unfolding step
step_gives k r Q ds σ found ok =
    ap (λ (o : Option Sub). bind o (judge (left ds Q) (move k r))) found
    ∙ cond_yes (valid σ (left ds Q) (move k r)) _ none ok

pub listed_in : {k : ℕ} {r : Rule} {Q : Question} {n : ℕ} {P : Question} → Made k r Q n P → (n, P) ∈ listed k r Q
unfolding listed
listed_in {k} {r} {Q} {n} {P} w =
    collect_in (λ ds. label (number h ds) (step k r Q ds))
    (keep some_sent (choices h (length Q)))
    (keep_in some_sent (choices h (length Q)) w.among w.sends)
    (ap (label (number h w.choice)) (step_gives k r Q w.choice w.classes w.found w.ok)
    ∙ ap₂ (λ (i : ℕ) (A : Question). some (i, A)) w.place w.is)
  where
    h : ℕ
    h = length r.head

-- the rewritings are the list without the numbers
pub rewritings_listed : (k : ℕ) (r : Rule) (Q : Question) → rewritings k r Q ≡ map (λ e. e.1) (listed k r Q)
unfolding rewritings
rewritings_listed k r Q = refl

pub rewritings_out : {k : ℕ} {r : Rule} {Q P : Question} → P ∈ rewritings k r Q → (n : ℕ) × Made k r Q n P
unfolding rewritings
rewritings_out {k} {r} {Q} {P} m = go (Memᴰ.of_map (λ (e : ℕ × Question). e.1) (listed k r Q) m)
  where
    go : (e : ℕ × Question) × (e ∈ listed k r Q) × (e.1 ≡ P) → (n : ℕ) × Made k r Q n P
    go x = (x.0.0, subst (λ (A : Question). Made k r Q x.0.0 A) x.2 (listed_out x.1))

pub rewritings_in : {k : ℕ} {r : Rule} {Q : Question} {n : ℕ} {P : Question} → Made k r Q n P → P ∈ rewritings k r Q
unfolding rewritings
rewritings_in w = Memᴰ.map (λ (e : ℕ × Question). e.1) (listed_in w)
