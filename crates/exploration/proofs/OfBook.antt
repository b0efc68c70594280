-- The run of a sound book: what its members are, and what a complete union is worth. Assumes nothing.
use mathlib.Core.Path.{◌≡◌, refl, sym, ◌∙◌, ap, subst}
use mathlib.Core.Logic.{◌↔◌}
use mathlib.Core.List.{List, []}
use Prim.Native.Nat.{ℕ, ◌+◌, ◌*◌, ◌≤◌}
use native.Mathlib.Nat.{mul-le-mul_right}
use native.Mathlib.Omega.{arith}
use lib.ListN.{length}
use Rattle.covering.specs.Lists.{◌∈◌}
use Rattle.covering.specs.Term.{Question, Below, Term}
use Rattle.covering.specs.Covers.{Covers}
use Rattle.covering.specs.Search.{covers}
use Rattle.covering.specs.Form.{form}
use Rattle.covering.specs.Record.{holding, stored, Fits, Layout}
use Rattle.covering.proofs.Preorder.{covers_refl, covers_trans}
use Rattle.covering.proofs.Decides.{covers_decides}
use Rattle.covering.proofs.Form.{form_equivalent}
use Rattle.covering.proofs.SameForm.{form_form}
use Rattle.covering.proofs.Fitting.{form_fits}
use Rattle.covering.proofs.Wider.{Wider, fits_wider, fits_places}
use Rattle.covering.proofs.Shaped.{shaped_joined, shaped_length, records_same, form_shaped}
use Rattle.covering.proofs.AnswerVariables.{form_joined_below}
use Rattle.covering.proofs.Asked.{after_in}
use Rattle.covering.specs.Rule.{Rule}
use Rattle.covering.specs.Asking.{Asking, asking, joined, records, NoRecord, with_answer, Shaped}
use Rattle.reading.specs.Book.{book_of, layout_of}
use Rattle.reading.specs.Verdict.{SoundBook}
use Rattle.reading.specs.Header.{atom_places, answer_records}
use Rattle.reading.proofs.Forms.{form_known}
use Rattle.reading.proofs.SoundBook.{own_room, sound_header, BookRoom}
use Rattle.reading.proofs.Fits.{body_few, body_fits, head_fits, question_record, rules_free, question_few}
use Rattle.reading.proofs.QuestionRead.{question_free, question_stands, question_records}
use Rattle.reading.proofs.SoundQuestion.{records_few}
use Rattle.reading.proofs.Fits.{question_own, places_few}
use Rattle.unification.specs.Step.{rewritings}
use Rattle.unification.proofs.Collected.{gather_in, gather_out}
use Rattle.exploration.specs.Run.{State, complete, start, apart, all_rewritings, exploring, run_by, run}
use Rattle.exploration.specs.Steps.{within, Reaches}
use Rattle.exploration.specs.Chain.{SomeHolds, Derives, Reached, from_question, by_step, Ledger}
use Rattle.exploration.specs.Run.{limits_for}
use Rattle.exploration.specs.Refusals.{limits_of, answers_of}
use Rattle.exploration.specs.Rows.{SomeGives, DerivesRow}
use Rattle.exploration.proofs.Small.{room_for, RuleFits, fits_below, rewriting_formed, rewriting_of_shape}
use Rattle.exploration.proofs.Small.{rewriting_short, rewriting_fits, narrowed_fits, with_variables}
use Rattle.exploration.proofs.Covered.{taken_good}
use Rattle.exploration.proofs.Left.{Left, complete_left, complete_most, complete_taken}
use Rattle.exploration.proofs.Derived.{Union, union_answers}
use Rattle.exploration.proofs.RowsOf.{rows_answer}
use Rattle.exploration.proofs.UnionBytes.{Written}

pub run_is : (rules : List Rule) (allowed : ℕ) (q : Asking)
    → run rules allowed q ≡ run_by covers (limits_for (records q.answer)) (all_rewritings rules) allowed (joined q)
unfolding run
run_is rules allowed q = refl

-- "The form of the question is the first member.", and none is taken up yet
pub run_begins : (rules : List Rule) (allowed : ℕ) (q : Asking)
    → run rules allowed q
    ≡ exploring covers (limits_for (records q.answer)) (all_rewritings rules) allowed 0 (start (joined q))
unfolding run run_by
run_begins rules allowed q = refl

module _ (B : List ℕ) where
  abbrev pub rules_of : List Rule
  rules_of = (book_of B).rules

  abbrev pub asked_of : Question
  asked_of = joined (book_of B).question

  abbrev pub places : ℕ
  places = length (book_of B).question.answer

  -- what each member is: a form of at most 8 atoms over the book's relations, places and constants, with variables below
  -- 8 times the places of an atom, reached from the question, with an answer record exactly if the question has one and as many places in it
  pub record Member (M : Question) : Type 0 where
    pub fits : Fits (layout_of B) M
    pub shaped : Shaped (length (book_of B).question.answer) M
    pub formed : form M ≡ M
    pub reached : Reached apart (book_of B).rules (joined (book_of B).question) M

  -- a form's variables are 8 times its places
  own_layout : room_for (layout_of B) (answer_records B) 8 ≡ layout_of B
  own_layout = ap (with_variables (layout_of B) (answer_records B) 8) (sym (form_known B).variables_are)

  as_room : {M : Question} → Fits (layout_of B) M → Fits (room_for (layout_of B) (answer_records B) 8) M
  as_room {M} f = subst (λ (L : Layout). Fits L M) (sym own_layout) f

  as_own : {M : Question} → Fits (room_for (layout_of B) (answer_records B) 8) M → Fits (layout_of B) M
  as_own {M} f = subst (λ (L : Layout). Fits L M) own_layout f

  -- rules are moved above them
  above : 8 * atom_places B ≤ apart
  above = omega (arith, (form_known B).variables_are, (form_known B).few_variables)

  module _ (s : SoundBook B) where
    -- its rules fit its own layout
    rules_fit : (r : Rule) → r ∈ (book_of B).rules → RuleFits (layout_of B) r
    rules_fit r m =
        record {
          few_body = body_few B s r m;
          body = body_fits B (layout_of B) (own_room B) s r m;
          head = head_fits B (layout_of B) (own_room B) s r m;
          free_body = (rules_free B s r m).0;
          free_head = (rules_free B s r m).1;
        }

    -- the question has its answer places, and they stand in it
    question_shaped : Shaped places asked_of
    question_shaped = shaped_joined (book_of B).question (question_free B s) (question_stands B s)

    -- how many atoms a question of this shape has: its answer record, if any, and the others
    pub shape_count : (X : Question) → Shaped places X → length X ≡ answer_records B + length (asking X).atoms
    shape_count X h =
        omega (
          arith,
          shaped_length h,
          records_same (asking X).answer (book_of B).question.answer h.places,
          question_records B s,
        )

    -- the form of the question: its variables are those of its atoms
    question_form_fits : Fits (layout_of B) (form asked_of)
    question_form_fits =
        as_own
        (narrowed_fits (layout_of B) (answer_records B) 8 96
        (form_fits wide asked_of fewer (question_record B wide room s (λ t. t) (omega arith)))
        (form_joined_below 8 (atom_places B) (book_of B).question (question_free B s) (question_stands B s) (question_few B s)
        (λ a m. ((question_own B s).each a (after_in (book_of B).question.answer (book_of B).question.atoms m)).places)))
      where
        wide : Layout
        wide = with_variables (layout_of B) (answer_records B) 8 96

        fewer : (8 + answer_records B) * atom_places B ≤ 96
        fewer =
            let one : (8 + answer_records B) * atom_places B ≤ 9 * atom_places B =
            mul-le-mul_right (atom_places B) (omega (arith, records_few B)) in
            omega (arith, (form_known B).few_places)

        room : BookRoom B wide
        room =
            record {
              relations_fit = (own_room B).relations_fit;
              places_are = (own_room B).places_are;
              variables_fit = omega (arith, (form_known B).few_variables);
              constants_fit = (own_room B).constants_fit;
            }

    pub first_member : Member (form asked_of)
    first_member =
        record {
          fits = question_form_fits;
          shaped = form_shaped question_shaped;
          formed = form_form asked_of;
          reached = from_question refl;
        }

    pub member_below : {M : Question} → Member M → Below apart M
    member_below m n x = omega (arith, fits_below (layout_of B) m.fits n x, (form_known B).few_variables)

    -- the variables' bound is kept: a rewriting of a member that is short enough to become one is like a member
    pub next_member : (M : Question) → Member M → (P : Question) → P ∈ all_rewritings rules_of M
        → length P ≤ 8 + records (book_of B).question.answer → Member P
    next_member M m P x few =
        let y = gather_out (λ r. rewritings apart r M) rules_of x in
        let f = rules_fit y.0 y.1 in
        let g = as_room m.fits in
        let t =
        rewriting_of_shape (layout_of B) (answer_records B) 8 shape_count g m.shaped f apart above y.2 in
        record {
          fits =
              as_own
              (rewriting_fits (layout_of B) (answer_records B) 8 shape_count g m.shaped f apart above y.2 8
              (omega (arith, shape_count P t, question_records B s)));
          shaped = t;
          formed =
              rewriting_formed (layout_of B) (answer_records B) 8 shape_count g m.shaped f apart above y.2;
          reached = by_step y.0 y.1 (member_below m) m.reached y.2;
        }

    -- each question that is taken up is a member's like
    pub taken_member : {M : Question} {Ps : List Question} {t : State} {n : ℕ}
        → Reaches covers (limits_of B) (all_rewritings (book_of B).rules) (book_of B).allowed (joined (book_of B).question)
        (within M Ps t n)
        → Member M
    taken_member c =
        taken_good covers Covers covers_decides covers_refl (λ A C D. covers_trans) (limits_of B) (all_rewritings rules_of)
        (book_of B).allowed asked_of Member first_member next_member c

    module _ {U : List Question} {n : ℕ} (e : run rules_of (book_of B).allowed (book_of B).question ≡ complete U n) where
      by : run_by covers (limits_of B) (all_rewritings rules_of) (book_of B).allowed asked_of ≡ complete U n
      by = sym (run_is rules_of (book_of B).allowed (book_of B).question) ∙ e

      pub whole : Left Covers (all_rewritings rules_of) asked_of Member U
      whole =
          complete_left Covers (all_rewritings rules_of) asked_of Member covers covers_decides covers_refl
          (λ A C D. covers_trans) (limits_of B) (book_of B).allowed first_member (form_equivalent asked_of).1 next_member
          by

      pub members_most : length U ≤ 64
      members_most =
          complete_most Covers (all_rewritings rules_of) asked_of Member covers covers_decides covers_refl
          (λ A C D. covers_trans) (limits_of B) (book_of B).allowed first_member (form_equivalent asked_of).1 next_member
          (omega arith) by

      pub explored_allowed : n ≤ (book_of B).allowed
      explored_allowed = complete_taken covers (limits_of B) (all_rewritings rules_of) (book_of B).allowed asked_of by

      pub is_union : Union apart rules_of asked_of U
      is_union =
          record {
            small = λ M m. member_below (whole.good M m);
            reached = λ M m. (whole.good M m).reached;
            question = whole.question;
            closed =
                λ M m r x P y. whole.closed M m P (gather_in (λ q. rewritings apart q M) rules_of x y);
          }

      -- for every list of facts some member holds in it exactly when rule application makes the question hold
      pub run_answers : (F : Question) → SomeHolds U F ↔ Derives rules_of asked_of F
      run_answers = union_answers apart rules_of asked_of U is_union

      -- where a yes is asked for, it is the atoms that hold
      pub run_holds : (book_of B).question.answer ≡ [] → (F : Question)
          → SomeHolds U F ↔ Derives rules_of (book_of B).question.atoms F
      run_holds none F =
          subst (λ (ts : List Term). SomeHolds U F ↔ Derives rules_of (with_answer ts (book_of B).question.atoms) F)
          none (run_answers F)

      -- and for every row of named things some member gives it exactly when rule application makes the question give it
      pub run_rows : (row : List ℕ) (F : Question) → NoRecord F
          → SomeGives U row F ↔ DerivesRow rules_of (book_of B).question row F
      run_rows =
          rows_answer apart rules_of (rules_free B s) (book_of B).question (question_free B s) U is_union
          (λ M m. (whole.good M m).shaped)

    -- a record has room for members, and for rewritings of members before they are counted
    wider : (m : ℕ) → m ≤ 11 → Wider (room_for (layout_of B) (answer_records B) m) (holding (atom_places B))
    wider m h =
        let one : m * atom_places B ≤ 11 * atom_places B = mul-le-mul_right (atom_places B) h in
        record {
          relations = (sound_header B s).few_relations;
          answers = λ t. tt;
          places = refl;
          variables = omega (arith, one, (form_known B).few_places);
          constants = (sound_header B s).few_constants;
        }

    pub holding_fits : {M : Question} → Fits (layout_of B) M → Fits (holding (atom_places B)) M
    holding_fits f =
        fits_wider _ (holding (atom_places B)) (wider 8 (omega arith)) (omega (arith, records_few B)) (as_room f)

    -- inside, an atom has six places
    pub stored_fits : {M : Question} → Fits (layout_of B) M → Fits stored M
    stored_fits f = fits_places (form_known B).few_places (holding_fits f)

    pub rewriting_stored : (M : Question) → Fits (layout_of B) M → Shaped (length (book_of B).question.answer) M
        → (P : Question) → P ∈ all_rewritings rules_of M → Fits stored P
    rewriting_stored M m t P x =
        let y = gather_out (λ r. rewritings apart r M) rules_of x in
        let f = rules_fit y.0 y.1 in
        let h = rewriting_short (layout_of B) (answer_records B) 8 shape_count (as_room m) t f apart above y.2 in
        fits_places (form_known B).few_places
        (fits_wider _ (holding (atom_places B)) (wider 11 (omega arith)) (omega (arith, records_few B))
        (rewriting_fits (layout_of B) (answer_records B) 8 shape_count (as_room m) t f apart above y.2 11
        (omega arith)))

    -- a member as it is written: its answer record is not counted
    pub written_member : {M : Question} → Member M → Written (atom_places B) (answers_of B) M
    written_member {M} m =
        record {
          fits = holding_fits m.fits;
          is = m.shaped.is;
          count = omega (arith, shape_count M m.shaped, question_records B s);
        }

    pub member_few : {M : Question} → Member M → length M ≤ 9
    member_few m = omega (arith, m.fits.most, records_few B)

    -- a ledger over the book's relations has no answer record
    pub ledger_free : (F : Question) → Ledger (book_of B).places F → NoRecord F
    ledger_free F l a m e = omega (arith, (l.over a m).relation, places_few B s)

    pub few_atoms : {M : Question} → Member M → length (asking M).atoms ≤ 8
    few_atoms {M} m = omega (arith, m.fits.most, shape_count M m.shaped)

    -- an answer record, or none
    pub answers_few : answers_of B ≤ 1
    answers_few = omega (arith, question_records B s, records_few B)
