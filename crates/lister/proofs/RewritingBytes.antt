-- Laws of the rewriting as it is written: atoms put one after the other, each class replaced by what stands for it.
-- Assumes nothing.
use mathlib.Core.Path.{◌≡◌, refl, sym, ◌∙◌, ap, ap₂, subst}
use mathlib.Core.List.{List, [], ◌∷◌, ◌++◌, append_assoc, append-nil, map-map}
use mathlib.Core.List.Memᴰ
use Prim.Native.Nat.{ℕ, ◌+◌, ◌*◌, ◌-◌, ◌≤◌, ◌<◌}
use native.Mathlib.Omega.{arith}
use lib.Dec.{T}
use lib.ListN.{length, get_or, length-map}
use Rattle.covering.specs.Lists.{◌∈◌}
use Rattle.covering.specs.Term.{Term, var, con, Atom, Question, Sub, on_term, on_atom, on_question, comp}
use Rattle.covering.specs.Record.{stored, term_of, atom_at, atoms_at, TermFits, AtomFits}
use Rattle.covering.specs.Record.{is_atom, size}
use Rattle.covering.specs.Buffer.{AtomIn, AtomsIn}
use Rattle.forming.specs.Building.{sub_of}
use Rattle.covering.proofs.Lists.{map_same, map_append}
use Rattle.covering.proofs.Terms.{on_atom_comp, on_atom_same}
use Rattle.covering.proofs.Places.{atoms_none, sound_more, are_atoms_lem}
use Rattle.covering.proofs.RoundTrip.{TellsApart, stored_apart}
use Rattle.covering.proofs.Lengths.{count_atoms}
use Rattle.covering.proofs.Fitting.{atom_fits, atoms_fit}
use Rattle.forming.proofs.AtomBytes.{table_at}
use Rattle.covering.proofs.Wider.{Wider, atom_means, atoms_mean, atom_fits_wider}
use Rattle.covering.proofs.Within.{in_wider}
use Rattle.book.specs.declared.Parts.{Parts}
use Rattle.unification.specs.Step.{up, move, rewriting}
use Rattle.unify.specs.Table.{tabled}
use Rattle.unify.specs.InBytes.{in_book, classes_of, rule_in, rule_of}
use Rattle.lister.specs.Listing.{ClassesFit, UpperHalf, LeftIn, RuleIn}
use Rattle.unify.proofs.EachTerm.{from_atom, next_atom, nth_sound}
use Rattle.unify.proofs.TableBytes.{classes_at}
use Rattle.lister.proofs.Halves.{in_classes}

-- a book's atoms keep to the layout of all our bytes
pub book_stored : Wider in_book stored
book_stored =
    record {
      relations = omega arith;
      answers = λ t. tt;
      places = refl;
      variables = omega arith;
      constants = omega arith;
    }

pub book_apart : TellsApart in_book
book_apart = record { variables = omega arith; constants = omega arith }

pub first_atom_in : (B : List ℕ) (i n : ℕ) → AtomsIn in_book B i n → 0 < n → AtomIn stored B i
first_atom_in B i n a h =
    let d = in_wider in_book stored book_stored stored_apart B i n a in
    record { fits = omega (arith, d.fits); sound = (sound_more stored B i n h d.sound).0 }

pub rest_in : (B : List ℕ) (i n : ℕ) → AtomsIn in_book B i n → 0 < n → AtomsIn in_book B (i + 7) (n - 1)
rest_in B i n a h = record { fits = omega (arith, a.fits); sound = (sound_more in_book B i n h a.sound).1 }

-- one atom is a part with one atom
pub one_atom : {B : List ℕ} {i : ℕ} → AtomIn in_book B i → AtomsIn in_book B i 1
one_atom {B} {i} a =
    record {
      fits = omega (arith, a.fits);
      sound = are_atoms_lem in_book B i 1 (λ j l. subst (λ x. T (is_atom in_book B x)) (at j l) a.sound);
    }
  where
    at : (j : ℕ) → j < 1 → i ≡ i + size in_book * j
    at j l = omega arith

-- and so is the one after the first k
pub nth_in : (B : List ℕ) (i n k : ℕ) → AtomsIn in_book B i n → k < n → AtomsIn in_book B (i + k * 7) 1
nth_in B i n k a h = one_atom (record { fits = omega (arith, a.fits); sound = nth_sound B n k i h a.sound })

pub first_fits : (B : List ℕ) (i n : ℕ) → AtomsIn in_book B i n → 0 < n → AtomFits in_book (atom_at stored B i)
first_fits B i n a h =
    subst (AtomFits in_book) (atom_means in_book stored book_stored B i)
    (atom_fits in_book book_apart B (omega arith) i (sound_more in_book B i n h a.sound).0)

pub all_fit : (B : List ℕ) (i n : ℕ) → AtomsIn in_book B i n → (a : Atom) → a ∈ atoms_at stored B i n → AtomFits in_book a
all_fit B i n s a m =
    atoms_fit in_book book_apart B (omega arith) n i a s.sound
    (subst (λ A. a ∈ A) (sym (atoms_mean in_book stored book_stored B i n)) m)

-- what the table has for a variable
module _ (table : List ℕ) (fit : ClassesFit table) (long : length table ≡ 96) where
  sub_fits : (n : ℕ) → n < 96 → TermFits stored (sub_of table n)
  sub_fits n h =
      subst (TermFits stored) (sym (table_at table n)) (fit (term_of (get_or table n 0)) (in_classes table n (omega arith)))

  term_on : (t : Term) → TermFits in_book t → TermFits stored (on_term (sub_of table) t)
  term_on (var n) h = sub_fits n (omega arith)
  term_on (con c) h = h

  pub atom_on : (a : Atom) → AtomFits in_book a → AtomFits stored (on_atom (sub_of table) a)
  atom_on a f =
      record {
        relation = (atom_fits_wider in_book stored book_stored f).relation;
        some_place = subst (λ n. 1 ≤ n) (sym (length-map a.args (on_term (sub_of table)))) f.some_place;
        places = subst (λ n. n ≤ 6) (sym (length-map a.args (on_term (sub_of table)))) f.places;
        terms = λ t m. go t (Memᴰ.of_map (on_term (sub_of table)) a.args m);
      }
    where
      go : (t : Term) → (u : Term) × (u ∈ a.args) × (on_term (sub_of table) u ≡ t) → TermFits stored t
      go t r = subst (TermFits stored) r.2 (term_on r.0 (f.terms r.0 r.1))

-- one atom more of those that are put, the rest from the next on
pub put_more : (s : Sub) (A R : Question) (F : List ℕ) (i n k : ℕ) → k < n
    → R ≡ A ++ on_atom s (atom_at stored F (i + k * 7)) ∷ []
    → A ++ on_question s (from_atom F i n k) ≡ R ++ on_question s (from_atom F i n (k + 1))
put_more s A R F i n k h e =
    ap (λ q. A ++ on_question s q) (next_atom F i n k h)
    ∙ sym (append_assoc A (on_atom s (atom_at stored F (i + k * 7)) ∷ []) _)
    ∙ ap (λ q. q ++ on_question s (from_atom F i n (k + 1))) (sym e)

pub put_none : (s : Sub) (A : Question) (F : List ℕ) (i n k : ℕ) → n ≤ k → A ++ on_question s (from_atom F i n k) ≡ A
put_none s A F i n k e =
    ap (λ q. A ++ on_question s q) (atoms_none stored F (i + k * 7) (n - k) (omega arith)) ∙ append-nil A

-- two substitutions that agree on the variables of a book's atoms
on_question_same : (s t : Sub) (A : Question) → ((a : Atom) → a ∈ A → AtomFits in_book a)
    → ((n : ℕ) → n < 48 → s n ≡ t n) → on_question s A ≡ on_question t A
on_question_same s t A f h = map_same (on_atom s) (on_atom t) A (λ a m. on_atom_same s t a (λ u i. one u ((f a m).terms u i)))
  where
    one : (u : Term) → TermFits in_book u → on_term s u ≡ on_term t u
    one (var n) k = h n k
    one (con c) k = refl

-- they are as many as before
pub put_count : (s : Sub) (F : List ℕ) (i n : ℕ) → length (on_question s (atoms_at stored F i n)) ≡ n
put_count s F i n = length-map (atoms_at stored F i n) (on_atom s) ∙ count_atoms stored F n i

-- The rewriting: the left atoms by the classes, then the body by their upper half.
module _ (L : Question) (left book table upper : List ℕ) (p : Parts) (li : LeftIn L)
    (there : L ≡ atoms_at stored left 1 (get_or left 0 0)) (ru : RuleIn book p) (long : length table ≡ 96)
    (uh : UpperHalf table upper) where
  pub whole_question : (W : Question)
      → W ≡ on_question (sub_of table) (atoms_at stored left 1 (get_or left 0 0)) ++ on_question (sub_of upper) (atoms_at stored book p.body p.bodies)
      → W ≡ rewriting (tabled (classes_of table)) L (move 48 (rule_of book p))
  unfolding rule_in
  whole_question W e =
      e
      ∙ ap₂ (λ x y. x ++ y) of_left of_body
      ∙ sym (map_append (on_atom σ) L (on_question (up 48) body))
    where
      σ : Sub
      σ = tabled (classes_of table)

      body : Question
      body = atoms_at stored book p.body p.bodies

      at : (n : ℕ) → n < 96 → term_of (get_or table n 0) ≡ σ n
      at n h = sym (classes_at table n (var n) (omega arith))

      of_left : on_question (sub_of table) (atoms_at stored left 1 (get_or left 0 0)) ≡ on_question σ L
      of_left =
          ap (on_question (sub_of table)) (sym there)
          ∙ on_question_same (sub_of table) σ L li.each (λ n h. table_at table n ∙ at n (omega arith))

      of_body : on_question (sub_of upper) body ≡ on_question σ (on_question (up 48) body)
      of_body =
          on_question_same (sub_of upper) (comp σ (up 48)) body (all_fit book p.body p.bodies ru.body) higher
          ∙ map_same _ _ body (λ a m. sym (on_atom_comp σ (up 48) a))
          ∙ sym (map-map (on_atom σ) (on_atom (up 48)) body)
        where
          higher : (n : ℕ) → n < 48 → sub_of upper n ≡ σ (48 + n)
          higher n h = table_at upper n ∙ ap term_of (uh.moved n h) ∙ at (n + 48) (omega arith) ∙ ap σ (omega arith)
