-- One digit more of a choice, as `put_digit` is asked for it and answers: the atom is left, or put with a head atom.
-- Assumes nothing.
use mathlib.Core.Path.{◌≡◌, refl, sym, ◌∙◌, ap, subst}
use mathlib.Core.Bool.{Bool, true, false}
use mathlib.Core.List.{List, [], ◌∷◌, ◌++◌, append-nil}
use mathlib.Core.List.Memᴰ
use Prim.Native.Nat.{ℕ, zero, suc, ◌+◌, ◌*◌, ◌-◌, ◌≤◌, ◌<◌}
use native.Mathlib.Omega.{arith}
use lib.ListN.{length, get_or, length-map}
use Rattle.covering.specs.Lists.{◌∈◌}
use Rattle.covering.specs.Term.{Term, Atom, Question, on_atom, terms}
use Rattle.covering.specs.Record.{Layout, size, stored, term_of, atom_at, atoms_at}
use Rattle.covering.specs.Buffer.{AtomIn}
use Rattle.covering.proofs.Places.{atoms_step}
use Rattle.book.specs.declared.Parts.{Parts}
use Rattle.unification.specs.Choice.{left, to_head, pairing, atom_pairs}
use Rattle.unification.specs.Step.{up, move}
use Rattle.unify.specs.InBytes.{rule_of, in_book, classes_of, merged}
use Rattle.unify.specs.Table.{unify_table}
use Rattle.unify.proofs.TableBytes.{merged_yes}
use Rattle.lister.specs.FirstDigits.{DigitFor, DigitPut}
use Rattle.lister.specs.Listing.{QuestionIn}
use Rattle.lister.proofs.Answers.{pairs_are}
use Rattle.unify.proofs.EachTerm.{nth_sound}
use Rattle.lister.proofs.Asked.{Tries, child_sent, count_few}
use Rattle.lister.proofs.LeftAtoms.{left_none}
use Rattle.lister.proofs.RewritingBytes.{one_atom}
use Rattle.lister.proofs.Table.{In, Small, head_small}

-- the atom after the first j
pub nth_atom : (L : Layout) (B : List ℕ) (i n j : ℕ) (a : Atom) → j < n
    → get_or (atoms_at L B i n) j a ≡ atom_at L B (i + j * size L)
nth_atom L B i zero j a lt = absurd (omega arith)
nth_atom L B i (suc n) zero a lt =
    ap (λ A. get_or A 0 a) (atoms_step L B i n) ∙ ap (atom_at L B) (here i (size L))
  where
    here : (d s : ℕ) → d ≡ d + 0 * s
    here d s = omega arith
nth_atom L B i (suc n) (suc j) a lt =
    ap (λ A. get_or A (suc j) a) (atoms_step L B i n)
    ∙ nth_atom L B (i + size L) n j a (omega arith)
    ∙ ap (atom_at L B) (next i j (size L))
  where
    next : (d e s : ℕ) → d + s + e * s ≡ d + suc e * s
    next d e s = omega arith

pub count_classes : (table : List ℕ) → length table ≡ length (classes_of table)
unfolding classes_of
count_classes table = sym (length-map table term_of)

-- the j-th atom of a question
pub nth_in_book : {Q : List ℕ} → QuestionIn Q → {j : ℕ} → j < get_or Q 0 0 → AtomIn in_book Q (1 + j * 7)
nth_in_book {Q} q {j} l =
    record { fits = omega (arith, q.atoms.fits); sound = nth_sound Q (get_or Q 0 0) j 1 l q.atoms.sound }

-- one digit more, as `put_digit` is asked for it
module _ {Q B : List ℕ} {p : Parts} {i d : ℕ} {A : Question} {table : List ℕ} (f : DigitFor Q B p i d A table) where
  pub digit_tries : Tries Q B p i 1 0 false [] table d
  digit_tries = (
    record {
      atoms = one_atom f.atom;
      rule = f.rule;
      left = left_none;
      few = omega arith;
      fewer = λ t. let z : ◌≡◌ {A = ℕ} 0 1 = cc in absurd (omega arith);
      small = omega (arith, count_few p.heads 1 f.rule.few_head (omega arith));
      size = f.size;
      classes = f.classes;
    },
    omega arith,
    f.small,
  )

  -- the atom is left
  pub put_left : {R : Question} → d ≡ 0 → R ≡ A ++ atom_at stored Q i ∷ []
      → DigitPut Q B p i d A table true R table
  put_left {R} e r =
      subst (λ x. DigitPut Q B p i x A table true R table) (sym e)
      (record { leaves = r; meets = merged_yes true table refl; classes = λ t. f.classes })

  -- the atom is sent
  module _ (h : 0 < d) (ok : Bool) (table' : List ℕ)
      (e : merged ok table'
      ≡ unify_table
      (atom_pairs (atom_at stored Q i) (on_atom (up 48) (atom_at stored B (p.head + (d - 1) * 7))))
      (classes_of table))
      (kept : length table' ≡ length table)
    where
      pub put_sent : DigitPut Q B p i d A table ok A table'
      put_sent =
          let r = pairs_are B p (atom_at stored Q i) d h f.small in
          record {
            leaves =
                sym (append-nil A) ∙ ap (λ x. A ++ left (x ∷ []) (atom_at stored Q i ∷ [])) (sym r.1);
            meets =
                e
                ∙ ap (λ ps. unify_table ps (classes_of table)) (sym (append-nil _ ∙ r.2))
                ∙ ap (λ x. unify_table (pairing (x ∷ []) (atom_at stored Q i ∷ []) (move 48 (rule_of B p)).head) (classes_of table))
                (sym r.1);
            classes = λ t. (child_sent digit_tries h ok table table' e kept refl t).classes;
          }

-- the terms of what one digit puts together
pub digit_pairs : (k d : ℕ) (a : Atom) (H : Question) → ((t : Term) → t ∈ a.args → In k t)
    → ((t : Term) → t ∈ terms H → In k t) → Small k (pairing (d ∷ []) (a ∷ []) H)
digit_pairs k zero a H f g = λ x m. absurd (Memᴰ.not-nil m)
digit_pairs k (suc e) a H f g = subst (Small k) (sym (append-nil (to_head H e a))) (head_small k H e a f g)

pub one_left : (d : ℕ) (a : Atom) → length (left (d ∷ []) (a ∷ [])) ≤ 1
one_left zero a = omega arith
one_left (suc e) a = omega arith
