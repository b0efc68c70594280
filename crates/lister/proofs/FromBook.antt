-- For whoever lists from a sound book in the new form: its rules and its question are what `next` asks for, and what `next` finds is
-- numbered from where it was asked on and below the count of choices. Assumes nothing.
use mathlib.Core.Path.{◌≡◌, refl, sym, subst}
use mathlib.Core.List.{List}
use mathlib.Core.Option.{Option, none, some}
use Prim.Native.Nat.{ℕ, ◌≤◌, ◌<◌}
use native.Mathlib.Omega.{arith}
use lib.ListN.{length, get_or}
use Rattle.covering.specs.Term.{Question}
use Rattle.covering.specs.Record.{stored, question_of, Fits, SoundRecord}
use Rattle.covering.proofs.Wider.{Wider, fits_wider}
use Rattle.covering.proofs.Lengths.{count_atoms, question_count}
use Rattle.covering.specs.Buffer.{held_in, record_room}
use Rattle.covering.specs.Asking.{joined}
use Rattle.covering.proofs.Padded.{held_sound, held_written}
use Rattle.reading.proofs.Reading.{rule_stored}
use Rattle.reading.proofs.Forms.{new_places_lem, new_variables, new_rule_end, new_head}
use Rattle.reading.proofs.Fits.{question_record}
use Rattle.lister.proofs.RewritingBytes.{book_stored, book_apart}
use Rattle.book.specs.declared.Parts.{Parts}
use Rattle.reading.specs.Header.{rules, new, form_of}
use Rattle.reading.specs.Book.{rule_at, rule_start, book_of, layout_of}
use Rattle.reading.specs.Verdict.{SoundBook}
use Rattle.book.specs.Parts.{parts_at}
use Rattle.reading.proofs.SoundBook.{sound_header, sound_rule, sound_body, sound_head, BookRoom}
use Rattle.reading.proofs.SoundQuestion.{records_few, sound_question}
use Rattle.std.specs.Prelude.{Some}
use Rattle.unification.specs.Step.{next}
use Rattle.unify.specs.InBytes.{in_book, rule_in, rule_of}
use Rattle.lister.specs.Listing.{RuleIn, QuestionIn, found_of}
use Rattle.lister.specs.Counts.{most_choices}
use Rattle.unification.proofs.Following.{next_listed, listed_below}
use Rattle.lister.proofs.Asked.{count_few}

-- the record of a question that keeps to the book's bounds can be handed to the lister
pub held_in_lem : (M : Question) → Fits in_book M → QuestionIn (held_in stored record_room M)
held_in_lem M fits = subst QuestionIn (held_written in_book stored book_stored record_room M) own
  where
    s : SoundRecord in_book (held_in in_book record_room M)
    s = held_sound in_book record_room M book_apart fits (omega (arith, fits.most))

    own : QuestionIn (held_in in_book record_room M)
    own = record { atoms = record { fits = s.fits; sound = s.atoms }; few = s.most }

module _ (B : List ℕ) (s : SoundBook B) (f : form_of B ≡ new) where
  own_wider : Wider (layout_of B) in_book
  own_wider =
      record {
        relations = (sound_header B s).few_relations;
        answers = λ t. tt;
        places = new_places_lem B f;
        variables = omega (arith, new_variables B f);
        constants = (sound_header B s).few_constants;
      }

  -- the record of a question that keeps to this book's own bounds
  pub member_in : (M : Question) → Fits (layout_of B) M → QuestionIn (held_in stored record_room M)
  member_in M m = held_in_lem M (fits_wider (layout_of B) in_book own_wider (omega (arith, records_few B)) m)

  room : BookRoom B in_book
  room =
      let k = sound_header B s in
      record {
        relations_fit = k.few_relations;
        places_are = sym (new_places_lem B f);
        variables_fit = omega (arith, new_variables B f);
        constants_fit = k.few_constants;
      }

  pub rule_in_lem : (k : ℕ) → k < rules B → RuleIn B (parts_at B (rule_start B k))
  rule_in_lem k l =
      let r = sound_rule B s k l in
      let q = sound_question B s in
      let end = new_rule_end B f (rule_start B k) in
      record {
        body =
            record {
              fits = omega (arith, r.ends, q.ends, end);
              sound = sound_body B s in_book room k l;
            };
        head =
            record {
              fits = omega (arith, r.ends, q.ends, end, new_head B f (rule_start B k));
              sound = sound_head B s in_book room k l;
            };
        few_body = r.few_body;
        some_head = r.some_head;
        few_head = r.few_head;
      }

  -- the question's record, as `question` gives it
  pub question_in : (R : List ℕ) → R ≡ held_in stored record_room (joined (book_of B).question) → QuestionIn R
  question_in R e =
      subst QuestionIn (sym e)
      (held_in_lem (joined (book_of B).question) (question_record B in_book room s (λ t. tt) (omega (arith, records_few B))))

-- the rule that `next` is asked about is the book's
pub rule_asked : (B : List ℕ) → form_of B ≡ new → (s : ℕ) → rule_of B (parts_at B s) ≡ rule_at B s
unfolding rule_in
rule_asked B f s = sym (rule_stored B f s)

module _ (Q B : List ℕ) (p : Parts) (q : QuestionIn Q) (r : RuleIn B p) (from : ℕ) where
  heads : length (rule_of B p).head ≡ p.heads
  unfolding rule_in
  heads = count_atoms stored B p.heads p.head

  long : length (question_of stored Q) ≡ get_or Q 0 0
  long = question_count stored Q

  pub found_within : (n : ℕ) → Some n ≡ found_of (next 48 (rule_of B p) (question_of stored Q) from)
      → (from ≤ n) × (n < most_choices)
  found_within n e = go (next 48 (rule_of B p) (question_of stored Q) from) refl e
    where
      go : (o : Option (ℕ × Question)) → next 48 (rule_of B p) (question_of stored Q) from ≡ o → Some n ≡ found_of o
          → (from ≤ n) × (n < most_choices)
      go none o a = cc
      go (some x) o a =
          let c : n ≡ x.0 = cc in
          let m = next_listed 48 (rule_of B p) (question_of stored Q) from x o in
          let b = listed_below 48 (rule_of B p) (question_of stored Q) x.0 x.1 m.0 in
          let h =
          count_few (length (rule_of B p).head) (length (question_of stored Q)) (omega (arith, heads, r.few_head))
          (omega (arith, long, q.few)) in
          (omega (arith, c, m.1), omega (arith, c, b, h))
