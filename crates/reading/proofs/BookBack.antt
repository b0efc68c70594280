-- A sound book that is read and written again in its form is the same book, byte for byte. Assumes nothing.
use mathlib.Core.Path.{◌≡◌, refl, sym, ◌∙◌, ap, ap₂}
use mathlib.Core.Logic.{◌⊎◌, inl, inr}
use mathlib.Core.Bool.{cond, not}
use mathlib.Core.List.{List, [], ◌∷◌, ◌++◌, append_assoc}
use Prim.Native.Nat.{ℕ, zero, suc, ◌+◌, ◌*◌, ◌≤◌, ◌<◌}
use native.Mathlib.Numerals.{add-one}
use native.Mathlib.Omega.{arith}
use lib.Dec.{T, eqb, eqb→eq}
use lib.ListN.{length, take, drop, length-append, length-drop, take-append-drop}
use lib.Seq.{drop-cons, drop-drop, take_all}
use Rattle.covering.specs.Lists.{gather}
use Rattle.covering.specs.Term.{Question}
use Rattle.covering.specs.Record.{old_places, holding, size, atoms_at, are_atoms}
use Rattle.covering.proofs.Tests.{decide, clash}
use Rattle.covering.proofs.RoundTrip.{holding_apart, atoms_back}
use Rattle.reading.specs.Word.{word, word_bytes}
use Rattle.reading.specs.Header.{BookForm, old, new, form_of, header_size, relations, rules, atoms}
use Rattle.reading.specs.Header.{question_at, total_word, tenth_word, relations_at, says_new, atom_places, atom_size}
use Rattle.reading.specs.Header.{answer_records}
use Rattle.reading.specs.Book.{body_count, head_count, body_at, head_at, rule_end, rule_at, rules_from, after}
use Rattle.reading.specs.Book.{rules_start, rule_start, book_of}
use Rattle.reading.specs.Refusals.{four, length_not}
use Rattle.reading.specs.Verdict.{SoundBook}
use Rattle.reading.specs.Written.{atoms_bytes, rule_bytes, rules_bytes, question_bytes, question_offset}
use Rattle.reading.specs.Written.{total_length, tenth_words, header_words, header_bytes, contents_bytes, book_bytes}
use Rattle.reading.specs.Written.{AreBytes}
use Rattle.reading.proofs.Forms.{form_cases, new_header, new_places_lem}
use Rattle.reading.proofs.Ranges.{eq_not}
use Rattle.reading.proofs.Reading.{book_rules, book_places, book_allowed, rule_body, rule_head}
use Rattle.reading.proofs.QuestionRead.{joined_question}
use Rattle.reading.proofs.SoundBook.{sound_none, sound_header, sound_long, sound_end, sound_rule, sound_body}
use Rattle.reading.proofs.SoundBook.{sound_head, holding_room}
use Rattle.reading.proofs.SoundQuestion.{sound_atoms}
use Rattle.reading.proofs.BookFit.{book_constants, relation_count, rule_count, atom_count, body_counted}
use Rattle.reading.proofs.BookFit.{head_counted}
use Rattle.reading.proofs.WordBytes.{words_at, words_back}

module _ (B : List ℕ) where
  -- m bytes from i on, and those after them
  parted : (i j m : ℕ) → j ≡ i + m → take m (drop i B) ++ drop j B ≡ drop i B
  parted i j m e =
      ap (λ (l : List ℕ). take m (drop i B) ++ l) (ap (λ (k : ℕ). drop k B) e ∙ sym (drop-drop m i B))
      ∙ take-append-drop m (drop i B)

  -- n sound atoms from i on, up to j
  atoms_whole : (i j n : ℕ) → j ≡ i + atom_size B * n → j ≤ length B → T (are_atoms (holding (atom_places B)) B i n)
      → atoms_bytes (form_of B) (atoms_at (holding (atom_places B)) B i n) ++ drop j B ≡ drop i B
  atoms_whole i j n e l t =
      ap (λ (x : List ℕ). x ++ drop j B)
      (atoms_back (holding (atom_places B)) (holding_apart (atom_places B)) B n i (omega arith) t)
      ∙ parted i j (n * size (holding (atom_places B))) (omega arith)

  -- a rule whose atoms are sound, within the book
  record RuleWhole (s : ℕ) : Type 0 where
    body : T (are_atoms (holding (atom_places B)) B (body_at B s) (body_count B s))
    head : T (are_atoms (holding (atom_places B)) B (head_at B s) (head_count B s))
    within : rule_end B s ≤ length B

  rule_whole : (s : ℕ) → RuleWhole s → rule_bytes (form_of B) (rule_at B s) ++ drop (rule_end B s) B ≡ drop s B
  unfolding rule_bytes
  rule_whole s w =
      ap (λ (l : List ℕ). l ++ drop (rule_end B s) B) counted
      ∙ ap (λ (l : List ℕ). body_count B s ∷ head_count B s ∷ l)
      (append_assoc (atoms_bytes (form_of B) body) (atoms_bytes (form_of B) head) (drop (rule_end B s) B)
      ∙ ap (λ (l : List ℕ). atoms_bytes (form_of B) body ++ l)
      (atoms_whole (head_at B s) (rule_end B s) (head_count B s) (omega arith) w.within w.head)
      ∙ atoms_whole (body_at B s) (head_at B s) (body_count B s) refl (omega (arith, w.within)) w.body)
      ∙ ap (λ (l : List ℕ). body_count B s ∷ l) (sym second)
      ∙ sym first
    where
      body : Question
      body = atoms_at (holding (atom_places B)) B (body_at B s) (body_count B s)

      head : Question
      head = atoms_at (holding (atom_places B)) B (head_at B s) (head_count B s)

      counted : length (rule_at B s).body ∷ length (rule_at B s).head
          ∷ (atoms_bytes (form_of B) (rule_at B s).body ++ atoms_bytes (form_of B) (rule_at B s).head)
          ≡ body_count B s ∷ head_count B s ∷ (atoms_bytes (form_of B) body ++ atoms_bytes (form_of B) head)
      counted =
          ap₂ ◌∷◌ (body_counted B s)
          (ap₂ ◌∷◌ (head_counted B s)
          (ap₂ ◌++◌ (ap (atoms_bytes (form_of B)) (rule_body B s)) (ap (atoms_bytes (form_of B)) (rule_head B s))))

      first : drop s B ≡ body_count B s ∷ drop (s + 1) B
      first =
          drop-cons B s 0 (omega (arith, w.within)) ∙ ap (λ (m : ℕ). body_count B s ∷ drop m B) (sym (add-one s))

      second : drop (s + 1) B ≡ head_count B s ∷ drop (s + 2) B
      second = drop-cons B (s + 1) 0 (omega (arith, w.within)) ∙ ap (λ (m : ℕ). head_count B s ∷ drop m B) next
        where
          next : suc (s + 1) ≡ s + 2
          next = omega arith

  rules_whole : (s n : ℕ) → ((k : ℕ) → k < n → RuleWhole (after B s k))
      → rules_bytes (form_of B) (rules_from B s n) ++ drop (after B s n) B ≡ drop s B
  unfolding rules_from after
  rules_whole s zero f = refl
  rules_whole s (suc n) f =
      append_assoc (rule_bytes (form_of B) (rule_at B s)) _ (drop (after B (rule_end B s) n) B)
      ∙ ap (λ (l : List ℕ). rule_bytes (form_of B) (rule_at B s) ++ l)
      (rules_whole (rule_end B s) n (λ k l. f (suc k) (omega arith)))
      ∙ rule_whole s (f 0 (omega arith))

  module _ (s : SoundBook B) where
    question_fits : question_at B ≤ length B
    question_fits = omega (arith, (sound_header B s).ends)

    each_whole : (k : ℕ) → k < rules B → RuleWhole (rule_start B k)
    each_whole k l =
        record {
          body = sound_body B s (holding (atom_places B)) (holding_room B s) k l;
          head = sound_head B s (holding (atom_places B)) (holding_room B s) k l;
          within = omega (arith, (sound_rule B s k l).ends, question_fits);
        }

    -- the rules, and the question after them
    rules_back : rules_bytes (form_of B) (book_of B).rules ++ drop (question_at B) B ≡ drop (rules_start B) B
    rules_back =
        ap₂ (λ rs i. rules_bytes (form_of B) rs ++ drop i B) (book_rules B) (sym (sound_end B s))
        ∙ rules_whole (rules_start B) (rules B) each_whole

    question_back : question_bytes (form_of B) (book_of B).question ≡ drop (question_at B) B
    question_back =
        ap (atoms_bytes (form_of B)) (joined_question B s)
        ∙ atoms_back (holding (atom_places B)) (holding_apart (atom_places B)) B (answer_records B + atoms B)
        (question_at B)
        (omega (arith, (sound_header B s).ends))
        (sound_atoms B s (holding (atom_places B)) (holding_room B s) (λ t. tt))
        ∙ take_all ((answer_records B + atoms B) * size (holding (atom_places B))) (drop (question_at B) B)
        (omega (arith, length-drop (question_at B) B, (sound_header B s).ends))

    contents_back : contents_bytes (form_of B) (book_of B) ≡ drop (header_size B) B
    contents_back =
        ap₂ ◌++◌ (book_places B)
        (ap (λ (l : List ℕ). rules_bytes (form_of B) (book_of B).rules ++ l) question_back ∙ rules_back)
        ∙ parted (header_size B) (rules_start B) (relations B) refl

    -- the offsets are the book's own
    question_offset_lem : question_offset (form_of B) (book_of B) ≡ question_at B
    question_offset_lem =
        omega (
          arith,
          ap length rules_back,
          length-append (rules_bytes (form_of B) (book_of B).rules) (drop (question_at B) B),
          length-drop (question_at B) B,
          length-drop (rules_start B) B,
          relation_count B s,
          (sound_header B s).start_fits,
          question_fits,
        )

    total_is : total_word B ≡ length B
    total_is = go (decide (eqb (total_word B) (length B)))
      where
        go : T (eqb (total_word B) (length B)) ⊎ T (not (eqb (total_word B) (length B))) → total_word B ≡ length B
        go (inl t) = eqb→eq _ _ t
        go (inr t) =
            absurd (sound_none B s 4 0 (four (length_not (eq_not (λ u. clash (eqb (total_word B) (length B)) u t)))))

    total_length_lem : total_length (form_of B) (book_of B) ≡ total_word B
    total_length_lem =
        omega (
          arith,
          question_offset_lem,
          total_is,
          ap length question_back,
          length-drop (question_at B) B,
          question_fits,
        )

    -- the header's nine words, and the tenth if there is one
    abbrev nine_words : List ℕ → List ℕ
    nine_words l =
        word B 0 ∷ word B 2 ∷ word B 4 ∷ word B 6 ∷ word B 8 ∷ word B 10 ∷ word B 12 ∷ word B 14 ∷ word B 16 ∷ l

    nine_words_lem : header_words (form_of B) (book_of B)
        ≡ nine_words (tenth_words (form_of B))
    nine_words_lem =
        ap₂ ◌∷◌ (relation_count B s)
        (ap₂ ◌∷◌ (book_constants B)
        (ap₂ ◌∷◌ (rule_count B)
        (ap₂ ◌∷◌ (atom_count B)
        (ap₂ ◌∷◌ (book_allowed B)
        (ap₂ ◌∷◌ (sym (sound_header B s).table_is)
        (ap₂ ◌∷◌ (omega (arith, relation_count B s, (sound_header B s).start_is))
        (ap₂ ◌∷◌ question_offset_lem
        (ap (λ (n : ℕ). n ∷ tenth_words (form_of B)) total_length_lem))))))))

    tenth_there : form_of B ≡ new → tenth_words (form_of B) ≡ word B 18 ∷ []
    tenth_there e =
        let at : relations_at B ≡ 20 = (sound_header B s).table_is ∙ new_header B e in
        ap tenth_words e
        ∙ ap (λ (n : ℕ). n ∷ [])
        (sym (new_places_lem B e)
        ∙ sym (sound_header B s).places_are
        ∙ ap (λ (t : ℕ). cond (says_new t) (tenth_word B) old_places) at)

    module _ (bytes : AreBytes B) where
      header_back : header_bytes (form_of B) (book_of B) ≡ take (header_size B) B
      unfolding header_bytes words_at
      header_back = go (form_cases B)
        where
          go : (form_of B ≡ old) ⊎ (form_of B ≡ new)
              → gather word_bytes (header_words (form_of B) (book_of B)) ≡ take (header_size B) B
          go (inl e) =
              ap (gather word_bytes)
              (nine_words_lem
              ∙ ap nine_words (ap tenth_words e))
              ∙ words_back B bytes 9 0 (omega (arith, sound_long B s, ap (λ (f : BookForm). f.header) e))
              ∙ ap (λ (n : ℕ). take n B) (sym (ap (λ (f : BookForm). f.header) e))
          go (inr e) =
              ap (gather word_bytes)
              (nine_words_lem
              ∙ ap nine_words (tenth_there e))
              ∙ words_back B bytes 10 0 (omega (arith, sound_long B s, ap (λ (f : BookForm). f.header) e))
              ∙ ap (λ (n : ℕ). take n B) (sym (ap (λ (f : BookForm). f.header) e))

      pub book_back : book_bytes (form_of B) (book_of B) ≡ B
      unfolding book_bytes
      book_back = ap₂ ◌++◌ header_back contents_back ∙ take-append-drop (header_size B) B
