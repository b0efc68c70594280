-- The book that a sound book's bytes mean keeps to its own numbers: relations below P, variables below 32 or 48,
-- constants below C, one to four or six terms in each atom; bodies of at most four atoms, a question of one to eight
-- with or without an answer record, and a number of members allowed of at most 1,000. Assumes nothing.
use mathlib.Core.Path.{◌≡◌, sym, ◌∙◌, ap, subst}
use mathlib.Core.Bool.{◌&&◌}
use mathlib.Core.Logic.{◌⊎◌, inl, inr}
use mathlib.Core.List.{List}
use Prim.Native.Nat.{ℕ, ◌+◌, ◌*◌, ◌≤◌, ◌<◌}
use native.Mathlib.Omega.{arith}
use lib.Dec.{T, ltb, leb, ltb→lt, leb→le}
use lib.ListN.{length, length-take, drop}
use Rattle.covering.specs.Lists.{◌∈◌}
use Rattle.covering.specs.Term.{Atom}
use Rattle.covering.specs.Asking.{answer_relation, joined, NoRecord}
use Rattle.covering.specs.Record.{Layout, holding, stored}
use Rattle.covering.specs.Record.{term_of, atom_at, atoms_at, is_relation, TermFits, AtomFits, Fits}
use Rattle.covering.proofs.Tests.{or_cases, fst_of, snd_of, le_or_lt, true→T}
use Rattle.covering.proofs.Bytes.{term_var, term_con, relation_in}
use Rattle.covering.proofs.Places.{relation_at, atom_each, atoms_each}
use Rattle.covering.proofs.Lengths.{count_atoms}
use Rattle.covering.specs.Rule.{Rule}
use Rattle.reading.specs.Word.{byte}
use Rattle.reading.specs.Header.{new, form_of, atom_places}
use Rattle.reading.specs.Header.{constants, rules, atoms, question_at, constants_range, atoms_range, atom_size}
use Rattle.reading.specs.Header.{variables, announced, answer_records, question_atoms_at, relations, header_size}
use Rattle.reading.specs.Book.{body_count, rule_at, rule_start, rules_start, book_of, layout_of}
use Rattle.reading.specs.Refusals.{used_allowed}
use Rattle.reading.specs.Verdict.{SoundBook}
use Rattle.reading.proofs.SoundBook.{UsedRight, AtomRight, used_place, unused_place, used_places, BookRoom}
use Rattle.reading.proofs.SoundBook.{own_room, holding_room, sound_header, sound_rule}
use Rattle.reading.proofs.SoundQuestion.{sound_question, each_standing, is_answer, records_few}
use Rattle.reading.proofs.Reading.{book_rules, book_atoms, book_allowed, rule_body, rule_head, rule_from}
use Rattle.reading.proofs.QuestionRead.{joined_question, right_free}
use Rattle.reading.proofs.Reading.{book_places}
use Rattle.reading.proofs.Forms.{form_known, new_held}

-- where a rule of the book starts
pub rule_at_lem : (B : List ℕ) (r : Rule) → r ∈ (book_of B).rules → (k : ℕ) × (k < rules B) × (r ≡ rule_at B (rule_start B k))
rule_at_lem B r m = rule_from B (rules_start B) (rules B) (subst (λ (l : List Rule). r ∈ l) (book_rules B) m)

-- how many there are
module _ (B : List ℕ) (s : SoundBook B) where
  the_body_count : (k : ℕ) → length (rule_at B (rule_start B k)).body ≡ body_count B (rule_start B k)
  the_body_count k = ap length (rule_body B (rule_start B k)) ∙ count_atoms (holding (atom_places B)) B _ _

  pub body_few : (r : Rule) → r ∈ (book_of B).rules → length r.body ≤ 4
  body_few r m =
      let k = rule_at_lem B r m in
      subst (λ (x : Rule). length x.body ≤ 4) (sym k.2)
      (omega (arith, the_body_count k.0, (sound_rule B s k.0 k.1).few_body))

  question_count : length (book_of B).question.atoms ≡ atoms B
  question_count = ap length (book_atoms B) ∙ count_atoms (holding (atom_places B)) B (atoms B) (question_atoms_at B)

  pub question_some : 1 ≤ length (book_of B).question.atoms
  question_some = omega (arith, question_count, (sound_question B s).some_atom)

  pub question_few : length (book_of B).question.atoms ≤ 8
  question_few = omega (arith, question_count, (sound_question B s).few_atoms)

  -- its answer record counts as an atom of the whole
  pub joined_count : length (joined (book_of B).question) ≡ answer_records B + atoms B
  joined_count =
      ap length (joined_question B s)
      ∙ count_atoms (holding (atom_places B)) B (answer_records B + atoms B) (question_at B)

  -- at most 64 relations
  pub places_few : length (book_of B).places ≤ 64
  places_few =
      omega (
        arith,
        ap length (book_places B),
        length-take (relations B) (drop (header_size B) B),
        (sound_header B s).few_relations,
      )

  pub allowed_few : (book_of B).allowed ≤ 1000
  allowed_few = omega (arith, book_allowed B, (sound_header B s).few_allowed)

module _ (B : List ℕ) (L : Layout) (room : BookRoom B L) where
  -- the term in a used place
  used_fits : (b : ℕ) → T (used_allowed (variables B) (constants B) b) → TermFits L (term_of b)
  used_fits b t = go (or_cases (ltb b (variables B)) (leb 128 b && ltb b (128 + constants B)) t)
    where
      go : T (ltb b (variables B)) ⊎ T (leb 128 b && ltb b (128 + constants B)) → TermFits L (term_of b)
      go (inl h) =
          let l : b < variables B = ltb→lt _ _ h in
          subst (TermFits L) (sym (term_var b (omega (arith, (form_known B).few_variables))))
          (omega (arith, room.variables_fit))
      go (inr h) =
          let l : 128 ≤ b = leb→le _ _ (fst_of (leb 128 b) (ltb b (128 + constants B)) h) in
          let m : b < 128 + constants B = ltb→lt _ _ (snd_of (leb 128 b) (ltb b (128 + constants B)) h) in
          subst (TermFits L) (sym (term_con b l)) (omega (arith, room.constants_fit))

  -- an atom of a relation of the layout, with u places used
  atom_fits : constants B ≤ constants_range.most → {i u : ℕ} → UsedRight B i u → T (is_relation L (byte B i))
      → AtomFits L (atom_at (holding (atom_places B)) B i)
  atom_fits c {i} {u} a r =
      let n = used_places B a c in
      record {
        relation = subst (λ (b : ℕ). T (is_relation L b)) (sym (relation_at (holding (atom_places B)) B i)) r;
        some_place = omega (arith, n, a.some_place);
        places = omega (arith, n, a.few_places, room.places_are);
        terms = atom_each (holding (atom_places B)) B (TermFits L) i (λ w l f. each w l f (le_or_lt u w));
      }
    where
      each : (w : ℕ) → w < atom_places B → (byte B (i + 1 + w) ≡ 255 → ⊥) → (u ≤ w) ⊎ (w < u)
          → TermFits L (term_of (byte B (i + 1 + w)))
      each w l f (inl h) = absurd (f (unused_place B a w h l))
      each w l f (inr h) = used_fits (byte B (i + 1 + w)) (used_place B a w h)

  module _ (s : SoundBook B) where
    few : constants B ≤ constants_range.most
    few = (sound_header B s).few_constants

    right_fits : {i : ℕ} → AtomRight B i → AtomFits L (atom_at (holding (atom_places B)) B i)
    right_fits {i} a =
        atom_fits few a.used (true→T _ (relation_in L (byte B i) (omega (arith, a.relation, room.relations_fit))))

    all_fit : (i n : ℕ) → ((j : ℕ) → j < n → AtomRight B (i + atom_size B * j))
        → (a : Atom) → a ∈ atoms_at (holding (atom_places B)) B i n → AtomFits L a
    all_fit i n f = atoms_each (holding (atom_places B)) B (AtomFits L) i n (λ j l. right_fits (f j l))

    module _ (answers : T (announced B) → T L.answers) where
      -- every atom of the question, and its answer record
      pub question_fits : (a : Atom) → a ∈ joined (book_of B).question → AtomFits L a
      question_fits a m =
          atoms_each (holding (atom_places B)) B (AtomFits L) (question_at B) (answer_records B + atoms B)
          (each_standing B (λ i. AtomFits L (atom_at (holding (atom_places B)) B i)) answer_fits
          (λ j l. right_fits ((sound_question B s).each j l)))
          a (subst (λ (A : List Atom). a ∈ A) (joined_question B s) m)
        where
          answer_fits : T (announced B) → AtomFits L (atom_at (holding (atom_places B)) B (question_at B))
          answer_fits t =
              let r = (sound_question B s).answer t in
              atom_fits few r.used (is_answer L _ (answers t) r.relation)

      -- the question as a whole
      pub question_record : atoms_range.most + answer_records B ≤ L.atoms → Fits L (joined (book_of B).question)
      question_record h =
          record {
            most = omega (arith, joined_count B s, (sound_question B s).few_atoms);
            each = question_fits;
          }

    -- every atom of every rule
    module _ (r : Rule) (m : r ∈ (book_of B).rules) where
      pub body_fits : (a : Atom) → a ∈ r.body → AtomFits L a
      body_fits a n =
          let k = rule_at_lem B r m in
          all_fit _ _ (sound_rule B s k.0 k.1).body a
          (subst (λ (A : List Atom). a ∈ A) (ap (λ (x : Rule). x.body) k.2 ∙ rule_body B (rule_start B k.0)) n)

      pub head_fits : (a : Atom) → a ∈ r.head → AtomFits L a
      head_fits a n =
          let k = rule_at_lem B r m in
          all_fit _ _ (sound_rule B s k.0 k.1).head a
          (subst (λ (A : List Atom). a ∈ A) (ap (λ (x : Rule). x.head) k.2 ∙ rule_head B (rule_start B k.0)) n)

-- no atom of a rule is an answer record
pub rules_free : (B : List ℕ) → SoundBook B → (r : Rule) → r ∈ (book_of B).rules → NoRecord r.body × NoRecord r.head
rules_free B s r m = subst (λ (x : Rule). NoRecord x.body × NoRecord x.head) (sym k.2) (body, head)
  where
    k : (k : ℕ) × (k < rules B) × (r ≡ rule_at B (rule_start B k))
    k = rule_at_lem B r m

    all_free : (i n : ℕ) → ((j : ℕ) → j < n → AtomRight B (i + atom_size B * j))
        → NoRecord (atoms_at (holding (atom_places B)) B i n)
    all_free i n f =
        atoms_each (holding (atom_places B)) B (λ (x : Atom). ¬ (x.rel ≡ answer_relation)) i n
        (λ j l. right_free B (sound_header B s).few_relations _ (f j l))

    body : NoRecord (rule_at B (rule_start B k.0)).body
    body = rw (rule_body B (rule_start B k.0)) (all_free _ _ (sound_rule B s k.0 k.1).body)

    head : NoRecord (rule_at B (rule_start B k.0)).head
    head = rw (rule_head B (rule_start B k.0)) (all_free _ _ (sound_rule B s k.0 k.1).head)

-- the question fits the book's own layout, and the one in which its bytes are kept: of a new book, that of all bytes
-- inside
module _ (B : List ℕ) (s : SoundBook B) where
  pub question_own : Fits (layout_of B) (joined (book_of B).question)
  question_own = question_record B (layout_of B) (own_room B) s (λ t. t) (omega arith)

  pub question_holding : Fits (holding (atom_places B)) (joined (book_of B).question)
  question_holding =
      question_record B (holding (atom_places B)) (holding_room B s) s (λ t. tt) (omega (arith, records_few B))

  pub question_stored : form_of B ≡ new → Fits stored (joined (book_of B).question)
  question_stored e = subst (λ (L : Layout). Fits L (joined (book_of B).question)) (new_held B e) question_holding
