-- Atoms that are stuck, by their bytes: an existential variable that stands for a term's class, the used places of an atom
-- and of two atoms one at a time, head atoms and question atoms one at a time. Each law says what a loop has yet to look at.
-- Assumes nothing.
use mathlib.Core.Path.{◌≡◌, refl, sym, ◌∙◌, ap, ap₂, subst}
use mathlib.Core.Bool.{true, false, not, ◌&&◌}
use mathlib.Core.List.Memᴰ
use mathlib.Core.List.{List, ◌∷◌, map}
use Prim.Native.Nat.{ℕ, ◌+◌, ◌*◌, ◌-◌, ◌≤◌, ◌<◌}
use native.Mathlib.Omega.{arith}
use lib.Dec.{T, eqb→eq}
use lib.ListN.{get_or}
use Rattle.covering.specs.Lists.{◌∈◌}
use Rattle.covering.specs.Term.{Term, Atom, on_term, on_atom, on_question, terms, eq_term, is_var}
use Rattle.covering.specs.Record.{stored, term_of, args_at, atom_at, atoms_at}
use Rattle.covering.proofs.Bytes.{term_same, args_more}
use Rattle.covering.proofs.Lists.{any_out}
use Rattle.covering.proofs.Places.{atoms_none}
use Rattle.covering.proofs.Terms.{eq_term→eq, eq→eq_term}
use Rattle.covering.proofs.Tests.{true→T}
use Rattle.unification.specs.Choice.{place_pairs}
use Rattle.unification.specs.Step.{up, move, mem_term}
use Rattle.book.specs.declared.Parts.{Parts}
use Rattle.unify.specs.Table.{look, tabled}
use Rattle.unify.specs.InBytes.{rule_in, rule_of, classes_of}
use Rattle.unify.specs.Stuck.{TiedTo}
use Rattle.unify.proofs.EachTerm.{from_atom, next_atom}
use Rattle.unify.proofs.ValidTests.{up_variable, up_mem, is_var_lem, tabled_look}

mem_in : (t : Term) (ts : List Term) → mem_term t ts ≡ true → t ∈ ts
mem_in t ts e =
    let x = any_out (eq_term t) ts (true→T _ e) in
    subst (λ (u : Term). u ∈ ts) (sym (eq_term→eq t x.0 x.2)) x.1

-- the byte z stands for t's class and for its own
module _ (table B : List ℕ) (p : Parts) (t u z : ℕ)
    (of-t : term_of z ≡ look (classes_of table) (term_of t)) (own : term_of z ≡ look (classes_of table) (term_of z))
    (low : 48 ≤ z) (high : z < 96) (other : z ≡ u → ⊥)
    (no_body : mem_term (term_of (z - 48)) (terms (atoms_at stored B p.body p.bodies)) ≡ false)
    (in_head : mem_term (term_of (z - 48)) (terms (atoms_at stored B p.head p.heads)) ≡ true)
  where
    moved_up : term_of z ≡ on_term (up 48) (term_of (z - 48))
    moved_up =
        let e : 48 + (z - 48) ≡ z = omega arith in
        ap term_of (sym e) ∙ up_variable 48 (z - 48) (omega arith)

    pub tied_means : TiedTo (tabled (classes_of table)) (move 48 (rule_of B p)) (term_of t) (term_of u)
    unfolding rule_in
    tied_means =
        record {
          unknown = term_of z;
          in_head =
              mem_in (term_of z) (terms (on_question (up 48) (atoms_at stored B p.head p.heads)))
              (ap (λ (x : Term). mem_term x (terms (on_question (up 48) (atoms_at stored B p.head p.heads)))) moved_up
              ∙ up_mem 48 (term_of (z - 48)) (atoms_at stored B p.head p.heads)
              ∙ in_head);
          it_is_unknown = true→T (is_var (term_of z) && not (mem_term (term_of z) (terms (on_question (up 48) (atoms_at stored B p.body p.bodies))))) (rw (is_var_lem z (omega arith), no_moved));
          same =
              tabled_look (classes_of table) (term_of t)
              ∙ sym of-t
              ∙ own
              ∙ sym (tabled_look (classes_of table) (term_of z));
          other = λ e. other (sym (eqb→eq u z (subst T (term_same u z) (eq→eq_term e))));
        }
      where
        no_moved : mem_term (term_of z) (terms (on_question (up 48) (atoms_at stored B p.body p.bodies))) ≡ false
        no_moved =
            ap (λ (x : Term). mem_term x (terms (on_question (up 48) (atoms_at stored B p.body p.bodies)))) moved_up
            ∙ up_mem 48 (term_of (z - 48)) (atoms_at stored B p.body p.bodies)
            ∙ no_body

-- all of the one list are among the other
abbrev pub Within : {X : Type 0} → List X → List X → Type 0
Within {X} l m = (x : X) → x ∈ l → x ∈ m

-- the first of the list, and those after it
module _ {X : Type 0} {x : X} {l xs m : List X} (e : l ≡ x ∷ xs) (w : Within l m) where
  pub first_within : x ∈ m
  first_within = w x (subst (λ (ys : List X). x ∈ ys) (sym e) (Memᴰ.head refl))

  pub rest_within : Within xs m
  rest_within y i = w y (subst (λ (ys : List X). y ∈ ys) (sym e) (Memᴰ.tail i))

-- the pairs of places, of which j of w are passed
pub pairs_more : (Q B : List ℕ) (i k j w : ℕ) → j < w → (get_or Q (i + j) 0 ≡ 255 → ⊥) → (get_or B (k + j) 0 ≡ 255 → ⊥)
    → place_pairs (args_at Q (i + j) (w - j)) (map (on_term (up 48)) (args_at B (k + j) (w - j)))
    ≡ (term_of (get_or Q (i + j) 0), on_term (up 48) (term_of (get_or B (k + j) 0)))
    ∷ place_pairs (args_at Q (i + (j + 1)) (w - (j + 1))) (map (on_term (up 48)) (args_at B (k + (j + 1)) (w - (j + 1))))
pairs_more Q B i k j w lt a b =
    ap₂ (λ ts us. place_pairs ts (map (on_term (up 48)) us)) (args_more Q i j w lt a) (args_more B k j w lt b)

-- the head atoms from i on, of which k of n are passed: what holds of the next and of those after it holds of all
module _ (P : Atom → Type 0) (B : List ℕ) (i n : ℕ) where
  abbrev pub Each : ℕ → Type 0
  Each k = (b : Atom) → b ∈ on_question (up 48) (from_atom B i n k) → P b

  pub each_none : (k : ℕ) → n ≤ k → Each k
  each_none k h b m =
      absurd (Memᴰ.not-nil (subst (λ (A : List Atom). b ∈ map (on_atom (up 48)) A) (atoms_none stored B (i + k * 7) (n - k) (omega arith)) m))

  pub each_more : (k : ℕ) → k < n → P (on_atom (up 48) (atom_at stored B (i + k * 7))) → Each (k + 1) → Each k
  each_more k h p f b m =
      go (subst (λ (A : List Atom). b ∈ map (on_atom (up 48)) A) (next_atom B i n k h) m)
    where
      go : b ∈ on_atom (up 48) (atom_at stored B (i + k * 7)) ∷ on_question (up 48) (from_atom B i n (k + 1)) → P b
      go (Memᴰ.head e) = subst P (sym e) p
      go (Memᴰ.tail j) = f b j
