-- `printing::answer_new` meets its contract: the book is run in an output of 4,104 bytes and its answer printed.
use Rattle.std.proofs.Common.{refl, arith}
use Rattle.reading.proofs.ToldOnce.{some_number}
use Rattle.printing.proofs.Longest.{number_small}
use Rattle.printing.proofs.Answered.{complete_sound, asked, refusal_asked, union_answered, refusal_answered}
use Rattle.printing.proofs.answer_new.Goals as goal

pub answer_records-requires : goal.answer_records-requires
answer_records-requires c = complete_sound c.in-Ok.ensures refl c.requires.0 refl

pub print-requires : goal.print-requires
print-requires c = asked c.in-Ok.ensures refl c.requires.0 refl _ c.answer_records.ensures c.args.text.now c.requires.1

pub returns-in-Ok : goal.returns-in-Ok
returns-in-Ok c = union_answered c.in-Ok.ensures refl c.requires.0 refl _ c.answer_records.ensures c.print.ensures

pub print_refusal-requires : goal.print_refusal-requires
print_refusal-requires c =
    let r = c.in-Err.refused.reason in
    refusal_asked c.in-Err.ensures refl c.requires.0 (some_number r) (number_small r) (omega arith) c.args.text.now c.requires.1

pub returns-in-Err : goal.returns-in-Err
returns-in-Err c =
    refusal_answered c.in-Err.ensures refl c.requires.0 (some_number c.in-Err.refused.reason) c.print_refusal.ensures
