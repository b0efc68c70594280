-- 01's printed book is printed as 01 says, by computation.
use mathlib.Core.Path.{◌≡◌, refl}
use mathlib.Core.List.{map}
use Rattle.covering.specs.Search.{covers, first_map, find_map}
use Rattle.covering.specs.Form.{form}
use Rattle.covering.specs.Record.{term_of, args_at, atom_at, atoms_at, atom_bytes}
use Rattle.reading.specs.Word.{word}
use Rattle.reading.specs.Header.{form_for, announced}
use Rattle.reading.specs.Written.{rule_bytes, header_bytes, book_bytes}
use Rattle.reading.specs.Book.{rule_at, rules_from, after, question_in, book_of}
use Rattle.reading.specs.Refusals.{used_places}
use Rattle.reading.specs.Verdict.{in_table, offsets_right, wrong_places, rule_right, wrong_rule, wrong_place, wrong_in_atom}
use Rattle.reading.specs.Verdict.{wrong_in_atoms, wrong_in_rules, wrong_answer, wrong_in_question, wrong_byte, loose_from}
use Rattle.reading.specs.Verdict.{loose_variable, contents, verdict}
use Rattle.unification.specs.Step.{step, listed, rewritings}
use Rattle.exploration.specs.Run.{admit, through, exploring, run_by, run}
use Rattle.exploration.specs.Answer.{result}
use Rattle.printing.specs.Printed.{decimal, term_text, relation_text, atom_text, member_line, line, figures}
use Rattle.printing.specs.Answer.{lines_of}
use Rattle.printing.specs.Examples.{shown, examples}

pub examples_hold : map shown examples ≡ examples
unfolding examples covers first_map find_map form step listed rewritings admit through exploring run_by run
    term_of args_at atom_at atoms_at atom_bytes word form_for rule_bytes header_bytes book_bytes announced rule_at rules_from after question_in book_of
    in_table offsets_right wrong_places rule_right wrong_rule wrong_place wrong_in_atom wrong_in_atoms wrong_in_rules used_places
    wrong_answer wrong_in_question wrong_byte loose_from loose_variable contents verdict result lines_of figures decimal term_text relation_text atom_text member_line line
examples_hold = refl
