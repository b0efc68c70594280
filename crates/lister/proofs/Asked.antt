-- What the builder's functions ask of each other. Assumes nothing.
use mathlib.Core.Path.{◌≡◌, refl, sym, ◌∙◌, ap, subst}
use mathlib.Core.Bool.{Bool, true, false}
use mathlib.Core.Logic.{◌⊎◌, inl, inr}
use mathlib.Core.List.Memᴰ
use mathlib.Core.List.{List, [], ◌∷◌, ◌++◌, map}
use mathlib.Core.Option.{Option, some}
use Prim.Native.Nat.{ℕ, zero, suc, ◌+◌, ◌*◌, ◌-◌, ◌≤◌, ◌<◌}
use native.Mathlib.Nat.{mul-le-mul_left}
use native.Mathlib.Omega.{arith}
use lib.Dec.{T, leb, leb→le}
use lib.ListN.{length, length-map, get_or}
use Rattle.covering.specs.Lists.{◌∈◌}
use Rattle.covering.specs.Term.{Term, Atom, Question, on_term, on_atom, Below}
use Rattle.covering.specs.Record.{stored, term_of, atom_at, atoms_at, question_of, is_atom, are_atoms, AtomFits, TermFits}
use Rattle.covering.specs.Buffer.{AtomIn}
use Rattle.covering.proofs.Places.{question_at_lem}
use Rattle.covering.proofs.Fitting.{atom_fits}
use Rattle.covering.proofs.Terms.{terms_out}
use Rattle.covering.proofs.Wider.{atom_means}
use Rattle.book.specs.declared.Parts.{Parts}
use Rattle.unification.specs.Choice.{count, place_pairs, atom_pairs}
use Rattle.unification.specs.Step.{up, next}
use Rattle.lister.specs.Build.{first, table_builder}
use Rattle.unify.specs.Table.{Table, own, unify_table}
use Rattle.unify.specs.InBytes.{in_book, rule_in, rule_of, classes_of, merged}
use Rattle.lister.specs.Listing.{LeftIn, RuleIn, QuestionIn, ClassesFit, Asks}
use Rattle.lister.specs.Counts.{most_choices}
use Rattle.unify.proofs.Each.{below, at}
use Rattle.unify.proofs.EachTerm.{nth_sound}
use Rattle.unify.proofs.TableBytes.{merged_yes}
use Rattle.lister.proofs.Table.{own_length, next_table}
use Rattle.lister.proofs.Entries.{unify_good, place_ends, places_alone, EntriesEnd}
use Rattle.unification.proofs.Prefix.{count_some}
use Rattle.lister.proofs.Prefixes.{prefix_within}
use Rattle.lister.proofs.RewritingBytes.{book_stored, book_apart, all_fit, rest_in, first_fits, first_atom_in}
use Rattle.lister.proofs.LeftAtoms.{fits_stored, left_none, left_put, one_more}

nth_fits : (B : List ℕ) (n e i : ℕ) → e < n → T (are_atoms in_book B i n)
    → AtomFits in_book (atom_at stored B (i + e * 7))
nth_fits B n e i lt t =
    subst (AtomFits in_book) (atom_means in_book stored book_stored B (i + e * 7))
    (atom_fits in_book book_apart B (omega arith) (i + e * 7) (nth_sound B n e i lt t))

-- classes stay fit when a question atom is put on a head atom
joined_fit : (a b : Atom) (table table' : List ℕ) → AtomFits in_book a → AtomFits in_book b → ClassesFit table
    → unify_table (atom_pairs a (on_atom (up 48) b)) (classes_of table) ≡ some (classes_of table') → ClassesFit table'
joined_fit a b table table' fa fb f e =
    unify_good (TermFits stored) (place_pairs a.args (on_atom (up 48) b).args) (classes_of table) (classes_of table')
    ends f (places_alone a (on_atom (up 48) b) (classes_of table) (classes_of table') e)
  where
    low : (c : ℕ) → c < 2 → TermFits stored (Term.con c)
    low c h = omega arith

    raised : (t : Term) → TermFits in_book t → TermFits stored (on_term (up 48) t)
    raised (Term.var n) h = omega arith
    raised (Term.con c) h = h

    moved_fit : (t : Term) → t ∈ (on_atom (up 48) b).args → TermFits stored t
    moved_fit t m =
        let r = Memᴰ.of_map (on_term (up 48)) b.args m in
        subst (TermFits stored) r.2 (raised r.0 (fb.terms r.0 r.1))

    ends : EntriesEnd (TermFits stored) (place_pairs a.args (on_atom (up 48) b).args)
    ends =
        place_ends (TermFits stored) (low 0 (omega arith)) (low 1 (omega arith)) a.args (on_atom (up 48) b).args
        (fits_stored a fa).terms moved_fit

-- what `try_digit` is asked: there is a next atom, and its digit leaves it or sends it to a head atom
abbrev pub Tries : List ℕ → List ℕ → Parts → ℕ → ℕ → ℕ → Bool → Question → List ℕ → ℕ → Type 0
Tries Q B p i more number sent A table d = Asks Q B p i more number sent A table × (0 < more) × (d ≤ p.heads)

-- the classes with that atom put on the head atom of its digit
abbrev pub meeting : List ℕ → List ℕ → Parts → ℕ → List ℕ → ℕ → Option Table
meeting Q B p i table d =
    unify_table (atom_pairs (atom_at stored Q i) (on_atom (up 48) (atom_at stored B (p.head + (d - 1) * 7)))) (classes_of table)

module _ {Q B : List ℕ} {p : Parts} {i more number : ℕ} {sent : Bool} {A : Question} {table : List ℕ} {d : ℕ}
    (k : Tries Q B p i more number sent A table d) where
  -- a prefix with one digit more
  pub child_small : suc (number * (p.heads + 1) + d) * count p.heads (more - 1) ≤ most_choices
  child_small =
      let one : number * (p.heads + 1) + d ≡ number * suc p.heads + d = omega arith in
      let two : suc (more - 1) ≡ more = omega (arith, k.1) in
      let three = prefix_within p.heads number d (more - 1) k.2 in
      let four : suc number * count p.heads (suc (more - 1)) ≡ suc number * count p.heads more =
      ap (λ m. suc number * count p.heads m) two in
      rw one (omega (arith, three, four, k.0.small))

  -- so its number is small
  pub child_number : number * (p.heads + 1) + d + 1 ≤ most_choices
  child_number =
      let x = number * (p.heads + 1) + d in
      let one : suc x * 1 ≤ suc x * count p.heads (more - 1) =
      mul-le-mul_left (suc x) (count_some p.heads (more - 1)) in
      omega (arith, one, child_small)

  -- the atom is left: there is room for it
  pub room_left : (length A < 12) × AtomIn stored Q i
  room_left = (omega (arith, k.0.few), first_atom_in Q i more k.0.atoms k.1)

  pub child_left : Asks Q B p (i + 7) (more - 1) (number * (p.heads + 1) + d) sent (A ++ atom_at stored Q i ∷ []) table
  child_left =
      let count = one_more A (atom_at stored Q i) in
      record {
        atoms = rest_in Q i more k.0.atoms k.1;
        rule = k.0.rule;
        left = left_put A (atom_at stored Q i) k.0.left (first_fits Q i more k.0.atoms k.1);
        few = omega (arith, k.0.few, k.1, count);
        fewer = λ t. omega (arith, k.0.fewer t, k.1, count);
        small = child_small;
        size = k.0.size;
        classes = k.0.classes;
      }

  -- the atom is sent: the head atom is sound, and the classes stay fit
  module _ (h : 0 < d) where
    pub head_sound : T (is_atom in_book B (p.head + (d - 1) * 7))
    head_sound = nth_sound B p.heads (d - 1) p.head (omega (arith, k.2)) k.0.rule.head.sound

    head_fits : AtomFits in_book (atom_at stored B (p.head + (d - 1) * 7))
    head_fits = nth_fits B p.heads (d - 1) p.head (omega (arith, k.2)) k.0.rule.head.sound

    pub child_sent : (r : Bool) (copy table' : List ℕ) → merged r table' ≡ meeting Q B p i copy d
        → length table' ≡ length copy → copy ≡ table → r ≡ true
        → Asks Q B p (i + 7) (more - 1) (number * (p.heads + 1) + d) true A table'
    child_sent r copy table' e kept same t =
        record {
          atoms = rest_in Q i more k.0.atoms k.1;
          rule = k.0.rule;
          left = k.0.left;
          few = omega (arith, k.0.few);
          fewer = λ u. omega (arith, k.0.few, k.1);
          small = child_small;
          size = kept ∙ ap length same ∙ k.0.size;
          classes = joined_fit (atom_at stored Q i) (atom_at stored B (p.head + (d - 1) * 7)) table table'
              (first_fits Q i more k.0.atoms k.1) head_fits k.0.classes
              (ap (λ m. meeting Q B p i m d) (sym same) ∙ sym e ∙ merged_yes r table' t);
        }

-- where the builder starts
own_fits : (i n : ℕ) → i + n ≤ 96 → (t : Term) → t ∈ own i n → TermFits stored t
own_fits i zero h t m = absurd (Memᴰ.not-nil m)
own_fits i (suc n) h t m = go (Memᴰ.cases_cons m) (λ k. own_fits (suc i) n (omega arith) t k)
  where
    go : (t ≡ Term.var i) ⊎ (t ∈ own (suc i) n) → (t ∈ own (suc i) n → TermFits stored t) → TermFits stored t
    go (inl e) below = subst (TermFits stored) (sym e) (omega arith)
    go (inr k) below = below k

pub apart_fit : (table : List ℕ) → classes_of table ≡ own 0 96 → ClassesFit table
apart_fit table e t m = own_fits 0 96 (omega arith) t (subst (λ l. t ∈ l) e m)

-- there are no more choices than that, by one computed test
few : ℕ → ℕ → Bool
few h n = leb (count h n) most_choices

pub count_few : (h n : ℕ) → h ≤ 4 → n ≤ 9 → count h n ≤ most_choices
unfolding few
count_few h n a b =
    leb→le (count h n) most_choices (at 10 (few h) (at 5 (λ i. below 10 (few i)) tt h (omega arith)) n (omega arith))

pub fits_below : (A : Question) → ((a : Atom) → a ∈ A → AtomFits in_book a) → Below 48 A
fits_below A f n m = let r = terms_out A m in (f r.0 r.1).terms (Term.var n) r.2

module _ (Q B : List ℕ) (p : Parts) (q : QuestionIn Q) (r : RuleIn B p) (A : Question) (table : List ℕ)
    (e : A ≡ []) (o : classes_of table ≡ own 0 96) where
  all_entries : length (map term_of table) ≡ length (own 0 96)
  unfolding classes_of
  all_entries = ap length o

  pub start_asks : Asks Q B p 1 (get_or Q 0 0) 0 false A table
  start_asks =
      record {
        atoms = q.atoms;
        rule = r;
        left = subst LeftIn (sym e) left_none;
        few = omega (arith, q.few, ap length e);
        fewer = λ t. let z : ◌≡◌ {A = ℕ} 0 1 = cc in absurd (omega arith);
        small = omega (arith, count_few p.heads (get_or Q 0 0) r.few_head q.few);
        size = sym (length-map table term_of) ∙ all_entries ∙ own_length 0 96;
        classes = apart_fit table o;
      }

  pub start_next : (from : ℕ)
      → first (table_builder 48 (rule_of B p) from) 0 A false (atoms_at stored Q 1 (get_or Q 0 0))
      (classes_of table)
      ≡ next 48 (rule_of B p) (question_of stored Q) from
  unfolding rule_in
  start_next from =
      rw (e, o, question_at_lem stored Q refl)
      (sym
      (next_table 48 48 (rule_of B p) (atoms_at stored Q 1 (get_or Q 0 0)) from
      (fits_below _ (all_fit Q 1 (get_or Q 0 0) q.atoms))
      (fits_below _ (all_fit B p.body p.bodies r.body))
      (fits_below _ (all_fit B p.head p.heads r.head))))
