-- From what explore's run answers (`Answers`, over an output of 4,104 bytes) to what `print` asks, and to what is
-- printed for the book. Assumes nothing.
use mathlib.Core.Path.{◌≡◌, refl, sym, ◌∙◌, ap, ap₂, subst}
use mathlib.Core.Bool.{Bool, cond}
use mathlib.Core.Logic.{◌⊎◌, inl, inr}
use mathlib.Core.List.{List, [], ◌++◌}
use Prim.Native.Nat.{ℕ, zero, suc, ◌+◌, ◌^◌, ◌≤◌, ◌<◌}
use native.Mathlib.Omega.{arith}
use borrow.Author.Tests.{lt-ltb, le-ltb}
use lib.Dec.{ltb}
use lib.ListN.{length, drop, take-append-drop}
use Rattle.covering.specs.Lists.{◌∈◌}
use Rattle.covering.specs.Term.{Question}
use Rattle.covering.specs.Record.{new_places, stored, Fits}
use Rattle.reading.specs.Word.{word}
use Rattle.reading.specs.Header.{form_of, new}
use Rattle.reading.specs.Book.{book_of}
use Rattle.reading.specs.Verdict.{verdict, SoundBook}
use Rattle.reading.proofs.Forms.{new_places_lem}
use Rattle.exploration.proofs.Alike.{results_alike, result_unsound}
use Rattle.covering.proofs.Tests.{le_or_lt}
use Rattle.exploration.specs.Answer.{Result, union, refusal, result, Answers}
use Rattle.exploration.specs.Standing.{WrittenAt}
use Rattle.exploration.specs.Union.{output_size, union_bytes, members_of, explored_of}
use Rattle.exploration.specs.Refusals.{answers_of}
use Rattle.reading.proofs.Fits.{allowed_few}
use Rattle.exploration.proofs.OfBook.{members_most, explored_allowed, stored_fits, member_few}
use Rattle.exploration.proofs.UnionBytes.{count_read, offset_read, union_stands, Written}
use Rattle.exploration.proofs.Refused.{refuses_exactly}
use Rattle.exploration.proofs.Given.{Whole, kind, members_are, explored_is, the_bytes, same_length, refused_exactly}
use Rattle.exploration.proofs.Given.{whole_given, member_written, place_most}
use Rattle.printing.specs.Printed.{printed}
use Rattle.covering.specs.Put.{Puts}
use Rattle.printing.specs.Answer.{text_size, lines_of}
use Rattle.printing.specs.declared.put.Text.{Text}
use Rattle.printing.specs.Text.{HasRoom, Adds}
use Rattle.printing.specs.Printable.{result_in, UnionStands, Printable}
use Rattle.covering.proofs.Putting.{put_none, put_as}
use Rattle.printing.proofs.Adding.{adds_as}
use Rattle.printing.proofs.Longest.{union_most, refusal_most}

in_refusal : (answers n p : ℕ) (W : List ℕ) → 1 ≤ n → result_in answers n p W ≡ refusal n p
in_refusal answers zero p W h = absurd (omega arith)
in_refusal answers (suc n) p W h = refl

module _ (book : List ℕ) (room : ℕ) where
  lines_are : lines_of book room ≡ cond (ltb room text_size) [] (printed (result book output_size))
  unfolding lines_of
  lines_are = refl

  lines_short : room < text_size → lines_of book room ≡ []
  lines_short h =
      lines_are ∙ ap (λ (b : Bool). cond b [] (printed (result book output_size))) (lt-ltb room text_size h)

  lines_long : text_size ≤ room → lines_of book room ≡ printed (result book output_size)
  lines_long h =
      lines_are ∙ ap (λ (b : Bool). cond b [] (printed (result book output_size))) (le-ltb room text_size h)

module _ {book out : List ℕ} {number place : ℕ} {after : List ℕ} (given : Answers book out number place after)
    (sized : length out ≡ output_size) (form : form_of book ≡ new)
  where
    -- the output says the book's result
    module _ (complete : number ≡ 0) where
      abbrev w : Whole given
      w = whole_given given complete

      are : members_of new_places (answers_of book) after ≡ (whole_given given complete).members
      are =
          ap (λ (w : ℕ). members_of w (answers_of book) after) (sym (new_places_lem book form)) ∙ members_are given complete

      in_run : (M : Question) → M ∈ members_of new_places (answers_of book) after → M ∈ (whole_given given complete).members
      in_run M m = subst (λ (U : List Question). M ∈ U) are m

      fits : (M : Question) → M ∈ members_of new_places (answers_of book) after → Fits stored M
      fits M m = stored_fits book w.sound (kind given complete M (in_run M m)).fits

      union_there : UnionStands (answers_of book) after
      union_there =
          record {
            header = omega (arith, same_length given, sized);
            members =
                subst (λ (i : ℕ). WrittenAt new_places (answers_of book) after i (word after 0)) (sym first)
                (subst (WrittenAt new_places (answers_of book) after 8) (sym count)
                (subst (λ (l : List ℕ). WrittenAt new_places (answers_of book) l 8 (length U)) (sym bytes)
                (union_stands new_places (answers_of book) U (explored_of after) (drop place after) written)));
          }
        where
          U : List Question
          U = members_of new_places (answers_of book) after

          written : (M : Question) → M ∈ U → Written new_places (answers_of book) M
          written M m =
              subst (λ (w : ℕ). Written w (answers_of book) M) (new_places_lem book form)
              (member_written given complete M (in_run M m))

          bytes : after ≡ union_bytes new_places U (explored_of after) ++ drop place after
          bytes =
              sym (take-append-drop place after)
              ∙ ap (λ (l : List ℕ). l ++ drop place after)
              (the_bytes given complete
              ∙ ap (λ (w : ℕ). union_bytes w (members_of w (answers_of book) after) (explored_of after)) (new_places_lem book form))

          first : word after 4 ≡ 8
          first =
              ap (λ (l : List ℕ). word l 4) bytes
              ∙ offset_read new_places (answers_of book) U (explored_of after) (drop place after)

          count : word after 0 ≡ length U
          count =
              ap (λ (l : List ℕ). word l 0) bytes
              ∙ count_read new_places (answers_of book) U (explored_of after) (drop place after)

      union_says : union (members_of new_places (answers_of book) after) (explored_of after) ≡ result book output_size
      union_says = ap₂ union are (explored_is given complete) ∙ sym w.is ∙ ap (result book) sized

      union_fits : length (printed (union (members_of new_places (answers_of book) after) (explored_of after))) ≤ text_size
      union_fits =
          union_most (members_of new_places (answers_of book) after) (explored_of after)
          (omega (arith, ap length are, members_most book w.sound w.ran))
          (omega (
            arith,
            explored_is given complete,
            explored_allowed book w.sound w.ran,
            allowed_few book w.sound,
          ))
          fits
          (λ M m. member_few book w.sound (kind given complete M (in_run M m)))

      -- what `print` prints
      module _ (answers : ℕ) (is : answers ≡ answers_of book) where
        pub union_answered : {t u : Text} → Adds (printed (union (members_of new_places answers after) (explored_of after))) t u
            → Adds (printed (result book output_size)) t u
        union_answered p =
            adds_as
            (ap printed
            (sym union_says
            ∙ ap (λ (a : ℕ). union (members_of new_places a after) (explored_of after)) (sym is)))
            p

    module _ (one : 1 ≤ number) where
      refusal_says : refusal number place ≡ result book output_size
      refusal_says =
          sym ((refuses_exactly book (length out) number place).1 ((refused_exactly given number place one).0 (refl, refl)))
          ∙ ap (result book) sized

      pub refusal_answered : {t u : Text} → Adds (printed (refusal number place)) t u → Adds (printed (result book output_size)) t u
      refusal_answered p = adds_as (ap printed (sym refusal_says)) p

    -- a number, a place and an output that say the book's result stand and fit, with as many answer records as the
    -- question has
    module _ (answers : ℕ) (is : number ≡ 0 → answers ≡ answers_of book) where
      pub printable : number < 256 → place < 2 ^ 64 → (text : Text) → text.end + text_size ≤ length text.room.now
          → Printable answers number place after text
      printable small wide text roomy =
          record {
            stands = λ complete. subst (λ (a : ℕ). UnionStands a after) (sym (is complete)) (union_there complete);
            fits = go (le_or_lt 1 number);
          }
        where
          go : (1 ≤ number) ⊎ (number < 1) → HasRoom (printed (result_in answers number place after)) text
          go (inl one) =
              let long = refusal_most number place small wide in
              omega (arith, ap (λ (r : Result). length (printed r)) (in_refusal answers number place after one))
          go (inr none) =
              let complete : number ≡ 0 = omega arith in
              let long = union_fits complete in
              omega (
                arith,
                ap₂ (λ (a n : ℕ). length (printed (result_in a n place after))) (is complete) complete,
              )

    -- so there is what `print` asks, of a text with room for the longest
    pub asked : (complete : number ≡ 0) (answers : ℕ) → answers ≡ answers_of book
        → (text : Text) → text.end + text_size ≤ length text.room.now → UnionStands answers after
        × HasRoom (printed (union (members_of new_places answers after) (explored_of after))) text
    asked complete answers is text roomy =
        let whole = printable answers (λ _. is) (omega arith) (omega (arith, place_most given complete)) text roomy in (
          whole.stands complete,
          subst (λ (n : ℕ). HasRoom (printed (result_in answers n place after)) text) complete whole.fits,
        )

    -- and what `print_refusal` asks
    pub refusal_asked : 1 ≤ number → number < 256 → place < 2 ^ 64
        → (text : Text) → text.end + text_size ≤ length text.room.now → HasRoom (printed (refusal number place)) text
    refusal_asked one small wide text roomy =
        subst (λ (r : Result). HasRoom (printed r) text) (in_refusal 0 number place after one)
        (printable 0 (λ complete. absurd (omega arith)) small wide text roomy).fits

    -- a book that is not refused is sound
    pub complete_sound : number ≡ 0 → SoundBook book
    complete_sound complete = (whole_given given complete).sound

-- a book that has no copy in the new form is refused as it is itself
pub answered_refusal : (book : List ℕ) → (SoundBook book → ⊥) → {t u : Text}
    → Adds (printed (refusal (verdict book).number (verdict book).place)) t u → Adds (printed (result book output_size)) t u
answered_refusal book f p = adds_as (ap printed (result_unsound book output_size (omega arith) f)) p

-- and what is printed of a copy is what is printed of the book
pub answered_copy : (book wide : List ℕ) → SoundBook book → SoundBook wide → book_of wide ≡ book_of book → {t u : Text}
    → Adds (printed (result wide output_size)) t u → Adds (printed (result book output_size)) t u
answered_copy book wide s t same p = adds_as (ap printed (results_alike book wide s t (sym same) output_size)) p

-- into a text that is too short nothing is printed; into another what is put into a text made of it
module _ (book text : List ℕ) where
  pub unanswered : length text < text_size → Puts (lines_of book (length text)) text 0 0 text
  unanswered short = put_as (lines_short book (length text) short) (put_none (omega arith))

  pub all_answered : text_size ≤ length text → {end : ℕ} {after : List ℕ}
      → Puts (printed (result book output_size)) text 0 end after → Puts (lines_of book (length text)) text 0 end after
  all_answered roomy p = put_as (lines_long book (length text) roomy) p
