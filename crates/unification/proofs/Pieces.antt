-- "Any other published one merges more than its pairing needs; its rewriting must be covered by that of some valid
-- choice": `piece_covered`. Assumes nothing.
use mathlib.Core.Path.{◌≡◌, refl, sym, ◌∙◌, ap, subst}
use mathlib.Core.Bool.{Bool, true, false, not, ◌||◌}
use mathlib.Core.Logic.{◌⊎◌, inl, inr}
use mathlib.Core.List.Memᴰ
use mathlib.Core.List.{List, [], ◌∷◌, ◌++◌}
use Prim.Native.Nat.{ℕ, suc}
use native.Mathlib.Omega.{arith}
use lib.Dec.{T, eqb, eqb-suc-zero}
use lib.ListN.{length, length-map}
use Rattle.covering.specs.Covers.{Sends, Covers}
use Rattle.covering.specs.Form.{form}
use Rattle.covering.specs.Lists.{◌∈◌}
use Rattle.covering.specs.Term.{Term, Atom, Question, terms, Sub, on_term, on_atom, on_question, eq_atom, var, con}
use Rattle.covering.specs.Term.{Below}
use Rattle.covering.proofs.Preorder.{covers_trans}
use Rattle.covering.proofs.Form.{form_equivalent}
use Rattle.covering.proofs.Lists.{any_in, any_out}
use Rattle.covering.proofs.Tests.{decide, clash, or_right, cond_yes, cond_no}
use Rattle.covering.proofs.Terms.{var≢con, eq_atom→eq, eq_atom_refl, terms_in, terms_out}
use Rattle.covering.specs.Rule.{Rule, Unknown}
use Rattle.unification.specs.Classes.{unify, Kernel, HoldsPairs}
use Rattle.unification.specs.Choice.{Choice, number, choices, some_sent, left, to_head, pairing}
use Rattle.unification.specs.Step.{up, move, mem_term, guarded, valid, rewriting, rewritings}
use Rattle.unification.specs.Published.{mem_atom, without, scope, NonSeparating, PieceUnifier, beta}
use Rattle.unification.proofs.Classes.{Least, unify_least, kernel_admissible}
use Rattle.unification.proofs.Choices.{find_digit, choices_in}
use Rattle.unification.proofs.Listed.{Made, rewritings_in}
use Rattle.unification.proofs.Moved.{moved_apart}
use Rattle.unification.proofs.Pairs.{mem→mem_term, mem_term→mem, holds_append}
use Rattle.unification.proofs.Valid.{valid_here, rewriting_holds}

pub mem→mem_atom : {a : Atom} (A : Question) → a ∈ A → T (mem_atom a A)
mem→mem_atom {a} A m = any_in (eq_atom a) A m (eq_atom_refl a)

pub mem_atom→mem : {a : Atom} (A : Question) → T (mem_atom a A) → a ∈ A
mem_atom→mem {a} A h = let r = any_out (eq_atom a) A h in Memᴰ.cast (eq_atom→eq a r.0 r.2) r.1

-- a digit that is not 0
pub sends_digit : (d : ℕ) (ds : Choice) → T (some_sent (suc d ∷ ds))
sends_digit d ds = subst (λ (b : Bool). T (not b || some_sent ds)) (sym (eqb-suc-zero d)) tt

pub sends_later : (d : ℕ) (ds : Choice) → T (some_sent ds) → T (some_sent (d ∷ ds))
sends_later d ds t = or_right (not (eqb d 0)) (some_sent ds) t

pub not_not : (b : Bool) → not (not b) ≡ b
not_not true = refl
not_not false = refl

-- a choice that sends just the atoms of A
record Picked (s : Sub) (H A Q : Question) : Type 0 where
  choice : Choice
  among : choice ∈ choices (length H) (length Q)
  meets : HoldsPairs (Kernel s) (pairing choice Q H)
  leaves : left choice Q ≡ without Q A
  sends : (a : Atom) → a ∈ Q → a ∈ A → T (some_sent choice)

pick : (s : Sub) (H A Q : Question) → ((a : Atom) → a ∈ A → on_atom s a ∈ on_question s H) → Picked s H A Q
pick s H A [] h =
    record {
      choice = [];
      among = Memᴰ.head refl;
      meets = λ p m. absurd (Memᴰ.not-nil m);
      leaves = refl;
      sends = λ a m. absurd (Memᴰ.not-nil m);
    }
pick s H A (a ∷ Q) h = go (decide (mem_atom a A)) (pick s H A Q h)
  where
    go : T (mem_atom a A) ⊎ T (not (mem_atom a A)) → Picked s H A Q → Picked s H A (a ∷ Q)
    go (inl t) c =
        let d = find_digit s H a (h a (mem_atom→mem A t)) in
        record {
          choice = suc d.digit ∷ c.choice;
          among = choices_in (length H) (length Q) (suc d.digit) c.choice d.small c.among;
          meets = holds_append (Kernel s) (to_head H d.digit a) (pairing c.choice Q H) d.meets c.meets;
          leaves =
              c.leaves
              ∙ sym
              (cond_no (not (mem_atom a A)) (a ∷ without Q A) (without Q A) (subst T (sym (not_not (mem_atom a A))) t));
          sends = λ b m n. sends_digit d.digit c.choice;
        }
    go (inr t) c =
        record {
          choice = 0 ∷ c.choice;
          among = choices_in (length H) (length Q) 0 c.choice (omega arith) c.among;
          meets = c.meets;
          leaves =
              ap (λ (B : Question). a ∷ B) c.leaves
              ∙ sym (cond_yes (not (mem_atom a A)) (a ∷ without Q A) (without Q A) t);
          sends = λ b m n. later b (Memᴰ.cases_cons m) n;
        }
      where
        later : (b : Atom) → (b ≡ a) ⊎ (b ∈ Q) → b ∈ A → T (some_sent (0 ∷ c.choice))
        later b (inl e) n = absurd (clash (mem_atom a A) (mem→mem_atom A (Memᴰ.cast (sym e) n)) t)
        later b (inr m) n = sends_later 0 c.choice (c.sends b m n)

-- a published unifier keeps the unknowns apart
module _ (k : ℕ) (r : Rule) (Q : Question) (below : Below k Q) (μ : PieceUnifier Q (move k r)) where
  abbrev S : List Term
  S = scope μ.unified μ.part

  abbrev left_atoms : Question
  left_atoms = without Q μ.unified

  -- what the substitution does not tell apart is in one class
  in_one_class : (t v : Term) → t ∈ S → v ∈ S → Kernel μ.u t v → μ.P t v
  in_one_class t v m n e =
      μ.partition.chain t (on_term μ.u t) v
      (μ.partition.turn (on_term μ.u t) t (μ.selects.chosen t m))
      (subst (λ (x : Term). μ.P x v) (sym e) (μ.selects.chosen v n))

  selected_in : (t : Term) → t ∈ S → on_term μ.u t ∈ S
  selected_in t m = (μ.partition.within (on_term μ.u t) t (μ.selects.chosen t m)).0

  pub selected_out : (t : Term) → T (not (mem_term t S)) → on_term μ.u t ≡ t
  selected_out (con c) x = refl
  selected_out (var y) x = μ.selects.others y (λ m. clash (mem_term (var y) S) (mem→mem_term S m) x)

  unified_term : (t : Term) → t ∈ terms μ.unified → t ∈ terms Q
  unified_term t m = let x = terms_out μ.unified m in terms_in Q (μ.of_question x.0 x.1) x.2

  -- an unknown in the scope is in the head's part
  unknown_part : (n : ℕ) → Unknown (move k r) n → var n ∈ S → var n ∈ terms μ.part
  unknown_part n u m = go (Memᴰ.append_cases (terms μ.unified) m)
    where
      go : (var n ∈ terms μ.unified) ⊎ (var n ∈ terms μ.part) → var n ∈ terms μ.part
      go (inl x) = absurd (moved_apart k Q r.head below n (unified_term (var n) x) u.in_head)
      go (inr x) = x

  told : (n : ℕ) → Unknown (move k r) n → var n ∈ S → (t : Term) → t ∈ S → Kernel μ.u t (var n)
      → (t ≡ var n) ⊎ NonSeparating Q μ.unified t
  told n u m t k e = μ.unknowns n (unknown_part n u m) u t (in_one_class t (var n) k m e)

  pub unknown_varlike : (n : ℕ) → Unknown (move k r) n → (c : ℕ) → μ.u n ≡ con c → ⊥
  unknown_varlike n u c e = go (decide (mem_term (var n) S))
    where
      at : (con c ≡ var n) ⊎ NonSeparating Q μ.unified (con c) → ⊥
      at (inl x) = var≢con (sym x)
      at (inr x) = var≢con (sym x.is)

      go : T (mem_term (var n) S) ⊎ T (not (mem_term (var n) S)) → ⊥
      go (inl t) =
          let m : var n ∈ S = mem_term→mem S t in
          at (told n u m (con c) (Memᴰ.cast (sym e) (selected_in (var n) m)) (sym e))
      go (inr t) = var≢con (sym (selected_out (var n) t) ∙ e)

  -- a variable that does not separate stands neither in the left atoms nor in the rule
  hidden : (t : Term) → t ∈ guarded left_atoms (move k r) → NonSeparating Q μ.unified t → ⊥
  hidden t g x = where_is (Memᴰ.append_cases (terms left_atoms) g)
    where
      in_question : var x.number ∈ terms Q
      in_question = Memᴰ.cast (sym x.is) (unified_term t x.in_unified)

      in_rule : (t ∈ terms (move k r).body) ⊎ (t ∈ terms (move k r).head) → ⊥
      in_rule (inl m) = moved_apart k Q r.body below x.number in_question (Memᴰ.cast (sym x.is) m)
      in_rule (inr m) = moved_apart k Q r.head below x.number in_question (Memᴰ.cast (sym x.is) m)

      where_is : (t ∈ terms left_atoms) ⊎ (t ∈ terms (move k r).body ++ terms (move k r).head) → ⊥
      where_is (inl m) = x.not_left m
      where_is (inr m) = in_rule (Memᴰ.append_cases (terms (move k r).body) m)

  pub unknown_alone : (n : ℕ) → Unknown (move k r) n → (t : Term) → t ∈ guarded left_atoms (move k r)
      → on_term μ.u t ≡ μ.u n → t ≡ var n
  unknown_alone n u t g e = go (decide (mem_term (var n) S)) (decide (mem_term t S))
    where
      alone : (t ≡ var n) ⊎ NonSeparating Q μ.unified t → t ≡ var n
      alone (inl x) = x
      alone (inr x) = absurd (hidden t g x)

      -- one in the scope and the other not: what is selected would be both
      in_and_out : (v w : Term) → T (mem_term v S) → T (not (mem_term w S)) → on_term μ.u v ≡ on_term μ.u w → ⊥
      in_and_out v w a b h =
          clash (mem_term w S)
          (mem→mem_term S (Memᴰ.cast (sym (selected_out w b) ∙ sym h) (selected_in v (mem_term→mem S a))))
          b

      go : T (mem_term (var n) S) ⊎ T (not (mem_term (var n) S)) → T (mem_term t S) ⊎ T (not (mem_term t S)) → t ≡ var n
      go (inl a) (inl b) = alone (told n u (mem_term→mem S a) t (mem_term→mem S b) e)
      go (inl a) (inr b) = absurd (in_and_out (var n) t a b (sym e))
      go (inr a) (inl b) = absurd (in_and_out t (var n) b a e)
      go (inr a) (inr b) = sym (selected_out t b) ∙ e ∙ selected_out (var n) a

  -- so classes that merge no more than the unifier does are valid
  pub valid_below : (L : Question) (σ : Sub) → L ≡ left_atoms → ((n : ℕ) → Kernel μ.u (σ n) (var n))
      → T (valid σ L (move k r))
  valid_below L σ e near =
      valid_here (move k r) L μ.u σ near unknown_varlike
      (subst
      (λ (A : Question).
      (n : ℕ) → Unknown (move k r) n → (t : Term) → t ∈ guarded A (move k r) → on_term μ.u t
      ≡ μ.u n → t
      ≡ var n)
      (sym e) unknown_alone)

  onto_whole_head : (a : Atom) → a ∈ μ.unified → on_atom μ.u a ∈ on_question μ.u (move k r).head
  onto_whole_head a m = go (Memᴰ.of_map (on_atom μ.u) μ.part (μ.onto_head a m))
    where
      go : (b : Atom) × (b ∈ μ.part) × (on_atom μ.u b ≡ on_atom μ.u a)
          → on_atom μ.u a ∈ on_question μ.u (move k r).head
      go h = Memᴰ.cast (sym h.2) (Memᴰ.map (on_atom μ.u) (μ.of_head h.0 h.1))

  pub piece_covered : (P : Question) × (P ∈ rewritings k r Q) × Covers P (beta μ)
  piece_covered = (form P, rewritings_in made, covers_trans (form_equivalent P).1 covering)
    where
      r' : Rule
      r' = move k r

      c : Picked μ.u r'.head μ.unified Q
      c = pick μ.u r'.head μ.unified Q onto_whole_head

      found : Least (Kernel μ.u) (unify (pairing c.choice Q r'.head) var)
      found =
          unify_least (Kernel μ.u) (kernel_admissible μ.u)
          (pairing c.choice Q r'.head) var (λ n. refl) c.meets

      L : Question
      L = left c.choice Q

      P : Question
      P = rewriting found.classes L r'

      made : Made k r Q (number (length r.head) c.choice) (form P)
      made =
          record {
            choice = c.choice;
            among =
                subst (λ (n : ℕ). c.choice ∈ choices n (length Q))
                (length-map r.head (on_atom (up k))) c.among;
            sends = c.sends μ.one (μ.of_question μ.one μ.one_in) μ.one_in;
            classes = found.classes;
            found = found.found;
            ok = valid_below L found.classes c.leaves found.near;
            is = refl;
            place = refl;
          }

      lefts : Sends μ.u L (beta μ)
      lefts a m =
          Memᴰ.map (on_atom μ.u)
          (Memᴰ.append_left r'.body (subst (λ (A : Question). a ∈ A) c.leaves m))

      bodies : Sends μ.u r'.body (beta μ)
      bodies a m = Memᴰ.map (on_atom μ.u) (Memᴰ.append_right left_atoms m)

      covering : Covers P (beta μ)
      covering =
          record {
            by = μ.u;
            sends = rewriting_holds r' (beta μ) L μ.u found.classes found.near bodies lefts;
          }
