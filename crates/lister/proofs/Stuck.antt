-- A prefix with an atom that is stuck gives nothing (`stuck_nothing`): the atom's turn comes, and left or sent it makes the
-- choice invalid. Until then more is put together, which keeps it stuck. Over classes, then over a table that has all
-- variables in play (`table_stuck`), and over bytes, as `build` is asked (`asked_hopeless`). Assumes nothing.
use mathlib.Core.Path.{◌≡◌, refl, sym, ◌∙◌, ap, subst}
use mathlib.Core.Bool.{Bool, true, false, not}
use mathlib.Core.Logic.{◌⊎◌, inl, inr}
use mathlib.Core.List.Memᴰ
use mathlib.Core.List.{List, [], ◌∷◌, ◌++◌}
use mathlib.Core.Option.{Option, none, some}
use Prim.Native.Nat.{ℕ, zero, suc}
use native.Mathlib.Omega.{arith}
use lib.Dec.{T}
use lib.ListN.{length}
use Rattle.covering.specs.Lists.{◌∈◌, bind, numbers}
use Rattle.covering.specs.Term.{Term, con, Atom, Question, Sub, on_term, terms, eq_term, is_var, Below}
use Rattle.covering.specs.Record.{stored, atoms_at}
use Rattle.covering.specs.Rule.{Rule}
use Rattle.covering.proofs.Lists.{all_out}
use Rattle.covering.proofs.Terms.{con_inj, eq_term→eq, eq→eq_term, terms_in}
use Rattle.covering.proofs.Tests.{no→false, or_cases, snd_of, clash}
use Rattle.unification.specs.Classes.{Pair, unify, Kernel, HoldsPairs}
use Rattle.unification.specs.Choice.{place_pairs, atom_pairs, to_head}
use Rattle.unification.specs.Step.{move, is_unknown, guarded, safe, valid}
use Rattle.unification.proofs.Classes.{Solved, unify_sound, coarser_term}
use Rattle.unification.proofs.Collected.{first_of_same, first_of_none}
use Rattle.unification.proofs.Pairs.{head_of}
use Rattle.book.specs.declared.Parts.{Parts}
use Rattle.unify.specs.InBytes.{rule_of, classes_of}
use Rattle.unify.specs.Stuck.{TiedTo, Barred, Stuck}
use Rattle.unify.specs.Table.{Table, tabled}
use Rattle.lister.specs.Build.{Builder, more, first, first_by_digit, builder, table_builder}
use Rattle.lister.proofs.Build.{first_digits}
use Rattle.lister.specs.Hopeless.{Hopeless}
use Rattle.lister.specs.Listing.{Asks}
use Rattle.lister.proofs.Pruned.{invalid_stays, asked_invalid, low_body, low_head, low_rest, low_left, whole}
use Rattle.lister.proofs.Table.{table_same}

-- the existential variable is not alone: u, which is guarded, is in its class too
tied_invalid : (τ : Sub) (r : Rule) (L : Question) (t u : Term) → TiedTo τ r t u → u ∈ guarded L r
    → on_term τ t ≡ on_term τ u → valid τ L r ≡ false
tied_invalid τ r L t u k g e = no→false (valid τ L r) (λ ok. at (or_cases (not (is_unknown r z)) _ (all_out _ (terms r.head) ok k.in_head)))
  where
    z : Term
    z = k.unknown

    beside : T (eq_term u z) ⊎ T (not (eq_term (on_term τ u) (on_term τ z))) → ⊥
    beside (inl x) = k.other (eq_term→eq u z x)
    beside (inr x) = clash (eq_term (on_term τ u) (on_term τ z)) (eq→eq_term (sym e ∙ k.same)) x

    at : T (not (is_unknown r z)) ⊎ T (safe τ (guarded L r) z) → ⊥
    at (inl x) = clash (is_unknown r z) k.it_is_unknown x
    at (inr x) = beside (or_cases (eq_term u z) _ (all_out _ (guarded L r) (snd_of (is_var (on_term τ z)) _ x) g))

-- more is put together
tied_kept : (r : Rule) (σ τ ρ : Sub) → ((n : ℕ) → τ n ≡ on_term ρ (σ n)) → (t u : Term) → TiedTo σ r t u → TiedTo τ r t u
tied_kept r σ τ ρ f t u k =
    record {
      unknown = k.unknown;
      in_head = k.in_head;
      it_is_unknown = k.it_is_unknown;
      same = coarser_term σ τ ρ f t ∙ ap (on_term ρ) k.same ∙ sym (coarser_term σ τ ρ f k.unknown);
      other = k.other;
    }

stuck_kept : (r : Rule) (ps : List Pair) (σ τ : Sub) → unify ps σ ≡ some τ → (a : Atom) → Stuck σ r a → Stuck τ r a
stuck_kept r ps σ τ e a k =
    record {
      tied = (k.tied.0, k.tied.1, keeps k.tied.0 k.tied.0 k.tied.2);
      barred = λ b m. at b (k.barred b m);
    }
  where
    s : Solved ps σ τ
    s = unify_sound ps σ τ e

    keeps : (t u : Term) → TiedTo σ r t u → TiedTo τ r t u
    keeps = tied_kept r σ τ s.more s.factors

    at : (b : Atom) → Barred σ r a b → Barred τ r a b
    at b (inl f) = inl f
    at b (inr x) = inr (x.0, x.1, keeps x.0.0 x.0.1 x.2)

-- the atom is left
stuck_left : (r : Rule) (σ : Sub) (L : Question) (a : Atom) → Stuck σ r a → valid σ (L ++ a ∷ []) r ≡ false
stuck_left r σ L a k =
    let t = k.tied.0 in
    tied_invalid σ r (L ++ a ∷ []) t t k.tied.2
    (Memᴰ.append_left _ (terms_in (L ++ a ∷ []) (Memᴰ.append_right L (Memᴰ.head refl)) k.tied.1))
    refl

-- the second of a pair of places is a term of the second atom, or the pair never unifies
pair_second : (ts us : List Term) (p : Pair) → p ∈ place_pairs ts us → (p.1 ∈ us) ⊎ (p ≡ (con 0, con 1))
pair_second [] [] p m = absurd (Memᴰ.not-nil m)
pair_second [] (u ∷ us) p (Memᴰ.head e) = inr e
pair_second [] (u ∷ us) p (Memᴰ.tail m) = absurd (Memᴰ.not-nil m)
pair_second (t ∷ ts) [] p (Memᴰ.head e) = inr e
pair_second (t ∷ ts) [] p (Memᴰ.tail m) = absurd (Memᴰ.not-nil m)
pair_second (t ∷ ts) (u ∷ us) p (Memᴰ.head e) = inl (Memᴰ.head (ap (λ (q : Pair). q.1) e))
pair_second (t ∷ ts) (u ∷ us) p (Memᴰ.tail m) = go (pair_second ts us p m)
  where
    go : (p.1 ∈ us) ⊎ (p ≡ (con 0, con 1)) → (p.1 ∈ u ∷ us) ⊎ (p ≡ (con 0, con 1))
    go (inl i) = inl (Memᴰ.tail i)
    go (inr e) = inr e

-- the atom is sent
stuck_sent : (r : Rule) (d : ℕ) (σ τ : Sub) (L : Question) (a : Atom) → unify (to_head r.head d a) σ ≡ some τ
    → Stuck σ r a → valid τ L r ≡ false
stuck_sent r d σ τ L a e k = go ((stuck_kept r (to_head r.head d a) σ τ e a k).barred b.0 b.1)
  where
    b : (c : Atom) × (c ∈ r.head) × HoldsPairs (Kernel τ) (atom_pairs a c)
    b = head_of τ r.head d a (unify_sound (to_head r.head d a) σ τ e).holds

    at : (p : Pair) → p ∈ place_pairs a.args b.0.args → TiedTo τ r p.0 p.1
        → (p.1 ∈ b.0.args) ⊎ (p ≡ (con 0, con 1)) → valid τ L r ≡ false
    at p m tied (inl i) =
        tied_invalid τ r L p.0 p.1 tied
        (Memᴰ.append_right (terms L) (Memᴰ.append_right (terms r.body) (terms_in r.head b.1 i)))
        (b.2 p (Memᴰ.tail m))
    at p m tied (inr x) =
        let zero_one : ◌≡◌ {A = ℕ} 0 1 = con_inj (subst (λ (q : Pair). on_term τ q.0 ≡ on_term τ q.1) x (b.2 p (Memᴰ.tail m))) in
        absurd (omega arith)

    go : Barred τ r a b.0 → valid τ L r ≡ false
    go (inl f) = absurd (f (con_inj (b.2 (con a.rel, con b.0.rel) (Memᴰ.head refl))))
    go (inr x) = at x.0 x.1 x.2 (pair_second a.args b.0.args x.0 x.1)

module _ (k : ℕ) (r : Rule) (n : ℕ) (a : Atom) where
  abbrev B : Builder Sub (ℕ × Question)
  B = builder k r n

  pub stuck_nothing : (q : Question) → a ∈ q → (w : ℕ) (L : Question) (b : Bool) (σ : Sub) → Stuck σ (move k r) a
      → first B w L b q σ ≡ none
  stuck_nothing [] m w L b σ s = absurd (Memᴰ.not-nil m)
  stuck_nothing (x ∷ q) m w L b σ s =
      first_digits B w L b x q σ
      ∙ first_of_same (first_by_digit B w L b x q σ) (λ d. none) (numbers 0 (suc B.heads))
      (λ d i. at m d (λ j. stuck_nothing q j))
      ∙ first_of_none (numbers 0 (suc B.heads))
    where
      Rest : Type 0
      Rest =
          a ∈ q → (w' : ℕ) (L' : Question) (b' : Bool) (τ : Sub) → Stuck τ (move k r) a → first B w' L' b' q τ ≡ none

      -- its turn
      here_sent : (d : ℕ) (o : Option Sub) → unify (to_head (move k r).head d a) σ ≡ o
          → bind o (λ τ. first B (more B w (suc d)) L true q τ) ≡ none
      here_sent d none e = refl
      here_sent d (some τ) e =
          invalid_stays k r n q (more B w (suc d)) L true τ (stuck_sent (move k r) d σ τ L a e s)

      here : (d : ℕ) → first_by_digit B w L b a q σ d ≡ none
      here zero = invalid_stays k r n q (more B w 0) (L ++ a ∷ []) b σ (stuck_left (move k r) σ L a s)
      here (suc d) = here_sent d (unify (to_head (move k r).head d a) σ) refl

      -- the turn of another
      later_sent : (i : a ∈ q) (d : ℕ) (o : Option Sub) → unify (to_head (move k r).head d x) σ ≡ o → Rest
          → bind o (λ τ. first B (more B w (suc d)) L true q τ) ≡ none
      later_sent i d none e rest = refl
      later_sent i d (some τ) e rest =
          rest i (more B w (suc d)) L true τ (stuck_kept (move k r) (to_head (move k r).head d x) σ τ e a s)

      at : a ∈ x ∷ q → (d : ℕ) → Rest → first_by_digit B w L b x q σ d ≡ none
      at (Memᴰ.head e) d rest = subst (λ (y : Atom). first_by_digit B w L b y q σ d ≡ none) e (here d)
      at (Memᴰ.tail i) zero rest = rest i (more B w 0) (L ++ x ∷ []) b σ s
      at (Memᴰ.tail i) (suc d) rest = later_sent i d (unify (to_head (move k r).head d x) σ) refl rest

  module _ (size : ℕ) (low_b : Below size (move k r).body) (low_h : Below size (move k r).head)
      (q : Question) (w : ℕ) (L : Question) (b : Bool) (m : Table)
      (lowq : Below size q) (low_l : Below size L) (long : length m ≡ size)
    where
      pub table_stuck : a ∈ q → Stuck (tabled m) (move k r) a → first (table_builder k r n) w L b q m ≡ none
      table_stuck i s =
          table_same size k r n low_b low_h q w L b m (tabled m) lowq low_l (record { size = long; entry = λ j h. refl })
          ∙ stuck_nothing q i w L b (tabled m) s

-- as `build` is asked
module _ {Q B : List ℕ} {p : Parts} {i left number : ℕ} {sent : Bool} {A : Question} {table : List ℕ}
    (asks : Asks Q B p i left number sent A table) (from : ℕ)
  where
    pub asked_hopeless : Hopeless (tabled (classes_of table)) (move 48 (rule_of B p)) A (atoms_at stored Q i left)
        → first (table_builder 48 (rule_of B p) from) number A sent (atoms_at stored Q i left)
        (classes_of table)
        ≡ none
    asked_hopeless (inl e) = asked_invalid asks from e
    asked_hopeless (inr s) =
        table_stuck 48 (rule_of B p) from s.0 96 (low_body asks from) (low_head asks from) (atoms_at stored Q i left) number
        A sent (classes_of table) (low_rest asks from) (low_left asks from) (whole asks from) s.1 s.2
