-- What a book that is not refused gives of its question: its answer record, if it has one, and its atoms. Assumes
-- nothing.
use mathlib.Core.Path.{◌≡◌, refl, sym, ap, subst}
use mathlib.Core.Bool.{Bool, true, false, not, cond}
use mathlib.Core.Logic.{◌⊎◌, inl, inr}
use mathlib.Core.List.{List}
use Prim.Native.Nat.{ℕ, zero, suc, ◌+◌, ◌*◌, ◌-◌, ◌≤◌, ◌<◌}
use native.Mathlib.Omega.{arith}
use borrow.Author.Tests.{eq-eqb}
use lib.Dec.{T, eqb, ltb, eqb→eq}
use lib.ListN.{length}
use Rattle.covering.specs.Asking.{answer_relation, answer_most}
use Rattle.covering.specs.Record.{Layout, size, is_atom, is_relation, are_atoms}
use Rattle.covering.proofs.Tests.{decide, clash, both, or_right, true→T, cond_no}
use Rattle.covering.proofs.Places.{are_atoms_lem}
use Rattle.reading.specs.Word.{byte}
use Rattle.reading.specs.Header.{variables}
use Rattle.reading.specs.Header.{constants, atoms, question_at, atoms_range, atom_size, atom_places, announced}
use Rattle.reading.specs.Header.{answer_records, question_atoms_at}
use Rattle.reading.specs.Book.{question_atoms}
use Rattle.reading.specs.Refusals.{place_allowed, used_places, answer_places}
use Rattle.reading.specs.Verdict.{SoundBook, stands_in}
use Rattle.reading.proofs.Earliest.{Earliest, holds_nowhere}
use Rattle.reading.proofs.FoundQuestion.{QuestionFrom, question_earliest, LooseFrom, loose_earliest, records_one}
use Rattle.reading.proofs.SoundBook.{passed, UsedRight, AtomRight, BookRoom, used_atom, right_atom, not_wrong}
use Rattle.reading.proofs.SoundBook.{sound_header}
use Rattle.reading.proofs.Forms.{form_known}

-- an answer record at i with no wrong byte
pub record AnswerRight (B : List ℕ) (i : ℕ) : Type 0 where
  pub relation : byte B i ≡ answer_relation
  pub used : UsedRight B i (answer_places B i)

-- the question of a sound book
pub record SoundQuestion (B : List ℕ) : Type 0 where
  pub some_atom : 1 ≤ atoms B
  pub few_atoms : atoms B ≤ atoms_range.most
  pub ends : question_at B + atom_size B * (answer_records B + atoms B) ≡ length B
  pub answer : T (announced B) → AnswerRight B (question_at B)
  pub each : (j : ℕ) → j < atoms B → AtomRight B (question_atoms_at B + atom_size B * j)
  -- "an answer variable in no question atom" is refused
  pub stands : T (announced B) → (w : ℕ) → w < atom_places B
      → T (stands_in (variables B) (question_atoms B) (byte B (question_at B + 1 + w)))

-- its relation is one of a layout with answer records
pub is_answer : (L : Layout) (b : ℕ) → T L.answers → b ≡ answer_relation → T (is_relation L b)
unfolding is_relation
is_answer L b t e =
    or_right (ltb b L.relations) _ (both L.answers _ t (true→T _ (eq-eqb b answer_relation e)))

pub used_few : (B : List ℕ) (i n : ℕ) → used_places B i n ≤ n
unfolding used_places
used_few B i zero = omega arith
used_few B i (suc n) = go (eqb (byte B i) 255) (used_few B (i + 1) n)
  where
    go : (b : Bool) → used_places B (i + 1) n ≤ n → cond b 0 (suc (used_places B (i + 1) n)) ≤ suc n
    go true l = omega arith
    go false l = omega arith

module _ (B : List ℕ) where
  -- one answer record, or none
  abbrev pub OneOrNone : Type 0
  OneOrNone = (T (announced B) × (answer_records B ≡ 1)) ⊎ (T (not (announced B)) × (answer_records B ≡ 0))

  pub one_or_none : OneOrNone
  one_or_none = go (decide (announced B))
    where
      go : T (announced B) ⊎ T (not (announced B)) → OneOrNone
      go (inl t) = inl (t, records_one B t)
      go (inr t) = inr (t, cond_no (announced B) 1 0 t)

  pub records_few : answer_records B ≤ 1
  records_few = go one_or_none
    where
      go : OneOrNone → answer_records B ≤ 1
      go (inl h) = omega (arith, h.1)
      go (inr h) = omega (arith, h.1)

  -- what holds of the answer record, if there is one, and of each atom, holds of each as they stand in the book
  pub each_standing : (P : ℕ → Type 0) → (T (announced B) → P (question_at B))
      → ((j : ℕ) → j < atoms B → P (question_atoms_at B + atom_size B * j))
      → (j : ℕ) → j < answer_records B + atoms B → P (question_at B + atom_size B * j)
  each_standing P f g j l = go one_or_none j l
    where
      before : ℕ → ℕ
      before n = atom_size B * n

      go : OneOrNone → (j : ℕ) → j < answer_records B + atoms B → P (question_at B + atom_size B * j)
      go (inl h) zero l = subst P (omega arith) (f h.0)
      go (inl h) (suc j) l = subst P (omega (arith, ap before h.1)) (g j (omega (arith, h.1)))
      go (inr h) j l = subst P (omega (arith, ap before h.1)) (g j (omega (arith, h.1)))

  module _ (s : SoundBook B) where
    none_wrong : (p : ℕ) → QuestionFrom B p → ⊥
    none_wrong = holds_nowhere (subst (Earliest (QuestionFrom B)) (passed B s).in_question (question_earliest B))

    none_loose : (p : ℕ) → T (announced B) × LooseFrom B (question_atoms B) (question_at B + 1) (atom_places B) p → ⊥
    none_loose = holds_nowhere (subst (Earliest _) (passed B s).none_loose (loose_earliest B))

    answer_right : T (announced B) → AnswerRight B (question_at B)
    answer_right t =
        record {
          relation = relation_is (decide (eqb (byte B i) answer_relation));
          used =
              record {
                some_place = omega arith;
                few_places = omega (arith, used_few B (i + 2) (answer_most - 1), (form_known B).some_places);
                places = λ w m. allowed w m (decide (ok w));
              };
        }
      where
        i : ℕ
        i = question_at B

        relation_is : T (eqb (byte B i) answer_relation) ⊎ T (not (eqb (byte B i) answer_relation))
            → byte B i ≡ answer_relation
        relation_is (inl h) = eqb→eq _ _ h
        relation_is (inr h) =
            absurd (none_wrong i (inl (t, inl (refl, λ u. clash (eqb (byte B i) answer_relation) u h))))

        ok : ℕ → Bool
        ok w = place_allowed (variables B) (constants B) (ltb w (answer_places B i)) (byte B (i + 1 + w))

        allowed : (w : ℕ) → w < atom_places B → T (ok w) ⊎ T (not (ok w)) → T (ok w)
        allowed w m (inl h) = h
        allowed w m (inr h) =
            absurd
            (none_wrong (i + 1 + w)
            (inl (t, inr (w, omega arith, omega arith, refl, λ u. clash (ok w) u h))))

    variable_stands : T (announced B) → (w : ℕ) → w < atom_places B
        → T (stands_in (variables B) (question_atoms B) (byte B (question_at B + 1 + w)))
    variable_stands t w m = go (decide (stands_in (variables B) (question_atoms B) (byte B (question_at B + 1 + w))))
      where
        ok : Bool
        ok = stands_in (variables B) (question_atoms B) (byte B (question_at B + 1 + w))

        go : T ok ⊎ T (not ok) → T ok
        go (inl h) = h
        go (inr h) = absurd (none_loose _ (t, (omega arith, omega arith, λ u. clash ok u h)))

    pub sound_question : SoundQuestion B
    sound_question =
        let k = sound_header B s in
        record {
          some_atom = k.some_atom;
          few_atoms = k.few_atoms;
          ends = k.ends;
          answer = answer_right;
          each = λ j l. not_wrong B s _ (λ p w. none_wrong p (inr (j, l, w)));
          stands = variable_stands;
        }

    -- the question in the form of `cover`'s records, its answer record as the first atom, for every layout that has
    -- room for it
    pub sound_atoms : (L : Layout) → BookRoom B L → (T (announced B) → T L.answers)
        → T (are_atoms L B (question_at B) (answer_records B + atoms B))
    sound_atoms L room answers =
        are_atoms_lem L B (question_at B) (answer_records B + atoms B) (λ j l. subst at (spread j) (all j l))
      where
        at : ℕ → Type 0
        at k = T (is_atom L B k)

        spread : (j : ℕ) → question_at B + atom_size B * j ≡ question_at B + size L * j
        spread j = ap (λ (w : ℕ). question_at B + (1 + w) * j) (sym room.places_are)

        all : (j : ℕ) → j < answer_records B + atoms B → at (question_at B + atom_size B * j)
        all =
            each_standing at
            (λ t.
            let a = sound_question.answer t in
            used_atom B a.used L room (is_answer L _ (answers t) a.relation))
            (λ j l. right_atom B (sound_question.each j l) L room)
