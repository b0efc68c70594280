-- A sound book keeps to what its form allows, and a book that keeps to the old form keeps to the new one. Assumes
-- nothing.
use mathlib.Core.Path.{◌≡◌, refl, sym, ◌∙◌, ap, subst}
use mathlib.Core.List.Memᴰ
use mathlib.Core.List.{List, [], ◌∷◌}
use Prim.Native.Nat.{ℕ, zero, suc, ◌+◌, ◌*◌, ◌≤◌, ◌<◌}
use native.Mathlib.Omega.{arith}
use lib.ListN.{length, get_or, drop, length-drop}
use lib.Seq.{get_or-take, get_or-drop, length-take-le}
use Rattle.covering.specs.Lists.{◌∈◌}
use Rattle.covering.specs.Term.{Term, var, con, Atom, Question}
use Rattle.covering.specs.Asking.{answer_atom, with_answer}
use Rattle.covering.specs.Record.{holding, atom_at, atoms_at, TermFits, AtomFits}
use Rattle.covering.specs.Rule.{Rule}
use Rattle.covering.proofs.Places.{relation_at, atoms_each}
use Rattle.covering.proofs.Lengths.{count_atoms}
use Rattle.reading.specs.Header.{old, new, form_of, header_size, relations, constants, rules, atoms}
use Rattle.reading.specs.Header.{question_atoms_at, atom_places, atom_size, body_range, head_range, places_range}
use Rattle.reading.specs.Book.{Book, body_count, head_count, body_at, head_at, rule_at, rules_from, rule_start}
use Rattle.reading.specs.Book.{rules_start}
use Rattle.reading.specs.Book.{rule_end, places_of, book_of, layout_of}
use Rattle.reading.specs.Verdict.{SoundBook}
use Rattle.reading.specs.Written.{Within, BookTerm, BookAtom, BookRule, BookFits}
use Rattle.reading.proofs.Fits.{rule_at_lem, body_fits, head_fits, question_own, question_some, question_few}
use Rattle.reading.proofs.QuestionRead.{answer_few, question_stands}
use Rattle.reading.proofs.Reading.{book_rules, book_atoms, book_places, book_allowed, rule_body, rule_head}
use Rattle.reading.proofs.SoundBook.{AtomRight, right_places, own_room, sound_header, sound_places}
use Rattle.reading.proofs.SoundBook.{SoundRule, sound_rule}
use Rattle.reading.proofs.SoundQuestion.{sound_question}

rules_count : (B : List ℕ) (s n : ℕ) → length (rules_from B s n) ≡ n
unfolding rules_from
rules_count B s zero = refl
rules_count B s (suc n) = ap suc (rules_count B (rule_end B s) n)

module _ (B : List ℕ) where
  pub book_constants : (book_of B).constants ≡ constants B
  unfolding book_of
  book_constants = refl

  pub rule_count : length (book_of B).rules ≡ rules B
  rule_count = ap length (book_rules B) ∙ rules_count B (rules_start B) (rules B)

  pub atom_count : length (book_of B).question.atoms ≡ atoms B
  atom_count = ap length (book_atoms B) ∙ count_atoms (holding (atom_places B)) B (atoms B) (question_atoms_at B)

  pub body_counted : (s : ℕ) → length (rule_at B s).body ≡ body_count B s
  body_counted s = ap length (rule_body B s) ∙ count_atoms (holding (atom_places B)) B (body_count B s) (body_at B s)

  pub head_counted : (s : ℕ) → length (rule_at B s).head ≡ head_count B s
  head_counted s = ap length (rule_head B s) ∙ count_atoms (holding (atom_places B)) B (head_count B s) (head_at B s)

  module _ (s : SoundBook B) where
    room : header_size B + relations B ≤ length B
    room = omega (arith, (sound_header B s).start_fits, (sound_header B s).ends)

    pub relation_count : length (book_of B).places ≡ relations B
    relation_count =
        ap length (book_places B)
        ∙ length-take-le (relations B) (drop (header_size B) B) (omega (arith, length-drop (header_size B) B, room))

    -- the places of a relation, in the book and in its bytes
    pub places_same : (r : ℕ) → r < relations B → get_or (book_of B).places r 0 ≡ places_of B r
    places_same r l =
        ap (λ (ps : List ℕ). get_or ps r 0) (book_places B)
        ∙ get_or-take (relations B) (drop (header_size B) B) r 0 l
        ∙ get_or-drop (header_size B) B r 0

    term_kept : (t : Term) → TermFits (layout_of B) t → BookTerm (form_of B) (book_of B) t
    term_kept (var n) h = h
    term_kept (con c) h = omega (arith, book_constants)

    -- its relation, and as many terms as that has places
    abbrev Placed : Atom → Type 0
    Placed a = (a.rel < relations B) × (length a.args ≡ places_of B a.rel)

    right_placed : {i : ℕ} → AtomRight B i → Placed (atom_at (holding (atom_places B)) B i)
    right_placed {i} a =
        let e = relation_at (holding (atom_places B)) B i in (
          omega (arith, e, a.relation),
          right_places B a (sound_header B s).few_constants ∙ ap (places_of B) (sym e),
        )

    all_placed : (i n : ℕ) → ((j : ℕ) → j < n → AtomRight B (i + atom_size B * j))
        → (a : Atom) → a ∈ atoms_at (holding (atom_places B)) B i n → Placed a
    all_placed i n f = atoms_each (holding (atom_places B)) B Placed i n (λ j l. right_placed (f j l))

    atom_kept : (a : Atom) → Placed a → AtomFits (layout_of B) a → BookAtom (form_of B) (book_of B) a
    atom_kept a p f =
        record {
          relation = omega (arith, p.0, relation_count);
          places = p.1 ∙ sym (places_same a.rel p.0);
          terms = λ t m. term_kept t (f.terms t m);
        }

    rule_kept : (r : Rule) → r ∈ (book_of B).rules → BookRule (form_of B) (book_of B) r
    rule_kept r m =
        record {
          the_body_count =
              subst (λ (x : Rule). Within body_range (length x.body)) (sym k.2)
              (omega (arith, body_counted at, rule.few_body));
          the_head_count =
              subst (λ (x : Rule). Within head_range (length x.head)) (sym k.2)
              (omega (arith, head_counted at, rule.some_head, rule.few_head));
          body = λ a n. atom_kept a
              (all_placed (body_at B at) (body_count B at) rule.body a
              (subst (λ (A : Question). a ∈ A) (ap (λ (x : Rule). x.body) k.2 ∙ rule_body B at) n))
              (body_fits B (layout_of B) (own_room B) s r m a n);
          head = λ a n. atom_kept a
              (all_placed (head_at B at) (head_count B at) rule.head a
              (subst (λ (A : Question). a ∈ A) (ap (λ (x : Rule). x.head) k.2 ∙ rule_head B at) n))
              (head_fits B (layout_of B) (own_room B) s r m a n);
        }
      where
        k : (k : ℕ) × (k < rules B) × (r ≡ rule_at B (rule_start B k))
        k = rule_at_lem B r m

        at : ℕ
        at = rule_start B k.0

        rule : SoundRule B (rule_start B k.0)
        rule = sound_rule B s k.0 k.1

    -- the answer's terms are those of an atom that fits, if there are any
    answer_kept : (ts : List Term) (A : Question) → ((a : Atom) → a ∈ with_answer ts A → AtomFits (layout_of B) a)
        → (t : Term) → t ∈ ts → BookTerm (form_of B) (book_of B) t
    answer_kept [] A f t m = absurd (Memᴰ.not-nil m)
    answer_kept (u ∷ ts) A f t m = term_kept t ((f (answer_atom (u ∷ ts)) (Memᴰ.head refl)).terms t m)

    later : (ts : List Term) (A : Question) (a : Atom) → a ∈ A → a ∈ with_answer ts A
    later [] A a m = m
    later (t ∷ ts) A a m = Memᴰ.tail m

    pub sound_fits_form : BookFits (form_of B) (book_of B)
    sound_fits_form =
        let h = sound_header B s in
        record {
          relations = omega (arith, relation_count, h.some_relation, h.few_relations);
          constants = omega (arith, book_constants, h.few_constants);
          rule_count = omega (arith, rule_count, h.few_rules);
          atom_count = (question_some B s, question_few B s);
          allowed = omega (arith, book_allowed B, h.some_allowed, h.few_allowed);
          places = λ r l.
              let below : r < relations B = omega (arith, relation_count) in
              subst (Within (places_range (form_of B))) (sym (places_same r below)) (sound_places B s r below);
          rules = rule_kept;
          atoms = λ a m. atom_kept a
              (all_placed (question_atoms_at B) (atoms B) (sound_question B s).each a
              (subst (λ (A : Question). a ∈ A) (book_atoms B) m))
              ((question_own B s).each a (later (book_of B).question.answer (book_of B).question.atoms a m));
          answer_count = answer_few B s;
          answer = answer_kept (book_of B).question.answer (book_of B).question.atoms (question_own B s).each;
          stands = question_stands B s;
        }

-- the new form has all that the old one has
module _ (b : Book) where
  term_new : (t : Term) → BookTerm old b t → BookTerm new b t
  term_new (var n) h = omega arith
  term_new (con c) h = h

  atom_new : (a : Atom) → BookAtom old b a → BookAtom new b a
  atom_new a k =
      record { relation = k.relation; places = k.places; terms = λ t m. term_new t (k.terms t m) }

  rule_new : (r : Rule) → BookRule old b r → BookRule new b r
  rule_new r k =
      record {
        the_body_count = k.the_body_count;
        the_head_count = k.the_head_count;
        body = λ a m. atom_new a (k.body a m);
        head = λ a m. atom_new a (k.head a m);
      }

  pub old_fits_new : BookFits old b → BookFits new b
  old_fits_new f =
      record {
        relations = f.relations;
        constants = f.constants;
        rule_count = f.rule_count;
        atom_count = f.atom_count;
        allowed = f.allowed;
        places = λ r l. ((f.places r l).0, omega (arith, (f.places r l).1));
        rules = λ r m. rule_new r (f.rules r m);
        atoms = λ a m. atom_new a (f.atoms a m);
        answer_count = f.answer_count;
        answer = λ t m. term_new t (f.answer t m);
        stands = f.stands;
      }
