-- Where the exploration may go on after a choice (`specs/Skipping`): if a member covers what the first digits of the
-- choice settle, after all choices that have them. Assumes nothing.
use mathlib.Core.Path.{◌≡◌, refl, sym, ◌∙◌, ap, subst}
use mathlib.Core.Bool.{Bool, true, false, true≢false, cond}
use mathlib.Core.List.{List}
use mathlib.Core.Option.{Option, none, some}
use Rattle.std.specs.Prelude.{Some, None}
use Rattle.std.specs.Prelude.{Option as Answer}
use Prim.Native.Nat.{ℕ, suc, ◌+◌, ◌*◌, ◌-◌, ◌/◌, ◌≤◌, ◌<◌}
use native.Mathlib.Nat.{add-mul, div-add-mod', mod-lt, div-mul-le_self}
use native.Mathlib.Omega.{arith}
use lib.Dec.{T, leb}
use lib.ListN.{length, take, drop}
use Rattle.covering.specs.Covers.{Covers}
use Rattle.covering.specs.Lists.{◌∈◌, bind}
use Rattle.covering.specs.Term.{Question, Sub, var}
use Rattle.covering.specs.Search.{covers}
use Rattle.covering.specs.Rule.{Rule}
use Rattle.covering.proofs.Decides.{covers_decides}
use Rattle.covering.proofs.Lists.{any_in, any_out}
use Rattle.covering.proofs.Tests.{true→T}
use Rattle.unification.specs.Classes.{unify}
use Rattle.unification.specs.Choice.{count, number, pairing}
use Rattle.unification.specs.Step.{move, rewriting, listed}
use Rattle.unification.proofs.Prefix.{count_some, prefix_covered}
use Rattle.lister.specs.FirstDigits.{unmet, surely_left, settled, settled_of, PrefixIs}
use Rattle.lister.proofs.Unmet.{unmet_are}
use Rattle.exploration.specs.Run.{covered, apart}
use Rattle.explore.specs.Skipping.{covers_settled, PrefixCovered, GoesOn}

-- the next choice may always come next
pub goes_next : (r : Rule) (M : Question) (U : List Question) (c : ℕ) → GoesOn r M U c (c + 1)
goes_next r M U c = record { later = omega arith; between = λ i P m l u. absurd (omega arith) }

-- what the lister said of the first p digits
module _ {r : Rule} {M : Question} {c p : ℕ} {x : Answer Question} (i : PrefixIs r M c p x) where
  abbrev here : Option Question
  here = settled apart r M p i.choice

  -- they cannot be sent, so nothing is covered
  pub unmet_covered : (U : List Question) → x ≡ None → PrefixCovered r M U c p false
  unmet_covered U e =
      record { choice = i.choice; among = i.among; place = i.place; is = go here i.is }
    where
      go : (o : Option Question) → x ≡ settled_of o → false ≡ covers_settled U o
      go none y = refl
      go (some X) y = cc

  -- they can, and this is what they settle
  module _ {R : Question} (e : x ≡ Some R) where
    settled_here : here ≡ some R
    settled_here = go here refl i.is
      where
        go : (o : Option Question) → here ≡ o → x ≡ settled_of o → here ≡ some R
        go none h y = cc
        go (some X) h y = cc

    pub met_covered : (U : List Question) (ok : Bool) → ok ≡ covered covers R U → PrefixCovered r M U c p ok
    met_covered U ok h =
        record {
          choice = i.choice;
          among = i.among;
          place = i.place;
          is = h ∙ ap (covers_settled U) (sym settled_here);
        }

pub covered_yes : {r : Rule} {M : Question} {U : List Question} {c p : ℕ} {ok : Bool} → ok ≡ true
    → PrefixCovered r M U c p ok → PrefixCovered r M U c p true
covered_yes {r} {M} {U} {c} {p} e k = subst (PrefixCovered r M U c p) e k

-- a member covers what they settle: the exploration may go on after all choices that have them
module _ {r : Rule} {M : Question} {U : List Question} {c p : ℕ} (k : PrefixCovered r M U c p true) (l : p ≤ length M)
  where
    abbrev h : ℕ
    h = length r.head

    abbrev each : ℕ
    each = count h (length M - p)

    some_choices : 1 ≤ each
    some_choices = count_some h (length M - p)

    abbrev L : Question
    L = surely_left r M p k.choice

    record Covering : Type 0 where
      member : Question
      among : member ∈ U
      classes : Sub
      found : unify (pairing (take p k.choice) (take p M) (move apart r).head) var ≡ some classes
      covering : Covers member (rewriting classes L (move apart r))

    covering_member : Covering
    covering_member = go (unify (pairing (take p k.choice) (take p M) (move apart r).head) var) refl k.is
      where
        at : (σ : Sub) → unify (pairing (take p k.choice) (take p M) (move apart r).head) var ≡ some σ → (few : Bool)
            → true ≡ covers_settled U (cond few (some (rewriting σ L (move apart r))) none) → Covering
        at σ f false e = absurd (true≢false e)
        at σ f true e =
            let n = any_out (λ N. covers N (rewriting σ L (move apart r))) U (true→T _ (sym e)) in
            record {
              member = n.0;
              among = n.1;
              classes = σ;
              found = f;
              covering = (covers_decides n.0 _).0 n.2;
            }

        go : (o : Option Sub) → unify (pairing (take p k.choice) (take p M) (move apart r).head) var ≡ o
            → true
            ≡ covers_settled U (bind o (λ σ. cond (leb (length L) 8) (some (rewriting σ L (move apart r))) none)) → Covering
        go none f e = absurd (true≢false e)
        go (some σ) f e = at σ f (leb (length L) 8) e

    goes_after_each : GoesOn r M U c ((c / each + 1) * each)
    goes_after_each =
        record {
          later =
              omega (arith, div-add-mod' c each, mod-lt c some_choices, add-mul (c / each) 1 each);
          between = λ i P m low high. at i P m low high;
        }
      where
        place : number h k.choice / each ≡ c / each
        place = ap (λ (n : ℕ). n / each) k.place

        at : (i : ℕ) (P : Question) → (i, P) ∈ listed apart r M → suc c ≤ i → i < (c / each + 1) * each
            → T (covered covers P U)
        at i P m low high =
            let n = covering_member in
            let split : length M ≡ p + (length M - p) = omega arith in
            let below : c / each * each ≤ c = div-mul-le_self c each in
            let same : number h k.choice / each * each ≡ c / each * each = ap (λ (x : ℕ). x * each) place in
            let same' : (number h k.choice / each + 1) * each ≡ (c / each + 1) * each =
            ap (λ (x : ℕ). (x + 1) * each) place in
            any_in (λ N. covers N P) U n.among
            ((covers_decides n.member P).1
            (prefix_covered apart r M p (length M - p) split k.choice k.among n.classes n.found
            (unmet r.head (drop p M)) (unmet_are r.head M p) n.member n.covering i P m (omega arith)
            (omega arith)))

    pub goes_after : (e : ℕ) → e ≡ count (length r.head) (length M - p) → {n : ℕ} → n ≡ (c / e + 1) * e
        → GoesOn r M U c n
    goes_after e all is =
        subst (GoesOn r M U c) (sym (is ∙ ap (λ (x : ℕ). (c / x + 1) * x) all)) goes_after_each
