-- The examples of `specs/Examples` and `specs/Others` hold, by computation. Each has its own `ok`, which is `refl`, so
-- that a wrong one is named. Whatever meets the contract gives what a book's example states.
use mathlib.Core.Path.{◌≡◌, refl as ok, ◌∙◌, ap}
use mathlib.Core.List.{List}
use Prim.Native.Nat.{ℕ}
use lib.ListN.{length, take, length-replicate}
use Rattle.covering.specs.Search.{covers, first_map, find_map}
use Rattle.covering.specs.Form.{form}
use Rattle.covering.specs.Record.{term_of, args_at, atom_at, atoms_at, atom_bytes, asking_bytes}
use Rattle.reading.specs.Word.{word}
use Rattle.reading.specs.Header.{form_for, atom_places, announced}
use Rattle.reading.specs.Written.{rule_bytes, header_bytes, book_bytes}
use Rattle.reading.specs.Book.{rule_at, rules_from, after, question_in, book_of}
use Rattle.reading.specs.Refusals.{used_places}
use Rattle.reading.specs.Verdict.{in_table, offsets_right, wrong_places, rule_right, wrong_rule, wrong_place, wrong_in_atom}
use Rattle.reading.specs.Verdict.{wrong_in_atoms, wrong_in_rules, wrong_answer, wrong_in_question, wrong_byte, loose_from}
use Rattle.reading.specs.Verdict.{loose_variable, contents, verdict}
use Rattle.unification.specs.Step.{step, listed, rewritings}
use Rattle.exploration.specs.Run.{admit, through, exploring, run_by, run}
use Rattle.exploration.specs.Union.{total, union_bytes}
use Rattle.exploration.specs.Answer.{Result, result, answer, written, answer_of, written_of, Answers}
use Rattle.exploration.specs.Examples.{BookExample, answering, output_of, Right, Each, examples}
use Rattle.exploration.specs.Others.{more_examples}

pub examples_hold : Each Right examples
unfolding examples covers first_map find_map form step listed rewritings admit through exploring run_by run
examples_hold = (ok, (ok, (ok, (ok, (ok, (ok, (ok, (ok, (ok, (ok, (ok, (ok, (ok, tt)))))))))))))

pub more_examples_hold : Each Right more_examples
unfolding more_examples covers first_map find_map form step listed rewritings admit through exploring run_by run
    term_of args_at atom_at atoms_at atom_bytes asking_bytes word form_for rule_bytes header_bytes book_bytes announced rule_at rules_from after question_in book_of
    in_table offsets_right wrong_places rule_right wrong_rule wrong_place wrong_in_atom wrong_in_atoms wrong_in_rules used_places
    wrong_answer wrong_in_question wrong_byte loose_from loose_variable contents verdict total union_bytes result
more_examples_hold =
    (ok, (ok, (ok, (ok, (ok, (ok, (ok, (ok, (ok, (ok, (ok, (ok, (ok, (ok, (ok, (ok, (ok, (ok, (ok, (ok, (ok, (ok, (ok, (ok, (ok, (ok, (ok, tt)))))))))))))))))))))))))))

pub contract_gives : (e : BookExample) → Right (answering e) → {n p : ℕ} {after : List ℕ}
    → Answers e.book (output_of e) n p after → ((n, p) ≡ e.answer) × (take (length e.bytes) after ≡ e.bytes)
unfolding answer_of written_of
contract_gives e right c =
    let same = ap (result e.book) (length-replicate {A = ℕ} e.room 7) in (
      c.answers ∙ ap (answer (atom_places e.book)) same ∙ ap (λ (x : (ℕ × ℕ) × List ℕ). x.0) right,
      ap (take (length e.bytes)) (c.writes ∙ ap (λ (r : Result). written (atom_places e.book) r (output_of e)) same)
          ∙ ap (λ (x : (ℕ × ℕ) × List ℕ). x.1) right,
    )
