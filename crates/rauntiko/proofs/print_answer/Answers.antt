-- What is written is what was put at the front of the text, and the book is the front of what the reader had.
use Rattle.std.proofs.Common.{rules, List, ℕ, ◌+◌, ◌++◌, take, ◌≡◌, length, sym, ap, ◌∙◌, subst, zero-add, IfSome}
use lib.Seq.{take_at}
use Rattle.std.proofs.lemmas.Result.{on_ok_weaker}
use Rattle.std.specs.Io.KnownBytes.{Appends}
use Rattle.std.specs.declared.option.Option.{Option}
use Rattle.input.specs.Looked.{looked_at}
use Rattle.input.specs.Filled.{Fills}
use Rattle.input.proofs.Filled.{of_front}
use Rattle.printing.specs.Answer.{lines_of, text_size}
use Rattle.rauntiko.proofs.print_answer.Goals as goal

front : (bytes rest after : List ℕ) (end : ℕ) → end ≡ 0 + length bytes → after ≡ bytes ++ rest → take end after ≡ bytes
front bytes rest after end ends puts = ap (take end) puts ∙ take_at bytes rest end (sym (ends ∙ zero-add _))

printed : (a b old new : Option (List ℕ)) (room : ℕ) (read text : List ℕ) → room ≡ looked_at → text ≡ lines_of read
    text_size → Fills room a b read → Appends old new text
    → IfSome a (λ xs. Appends old new (lines_of (take looked_at xs) text_size))
printed a b old new room read text e told fills w =
    of_front (λ xs. Appends old new (lines_of xs text_size)) a b looked_at read (subst (λ n. Fills n a b read) e fills)
    (subst (Appends old new) told w)

pub returns : goal.returns
returns g c =
    let read = take c.in_ok-n.n c.fill.new.into in
    let lines = lines_of read text_size in
    let text = take c.answer-end.result c.answer-end.new.text in
    let told : text ≡ lines = front lines _ _ _ c.answer-end.ensures.ends c.answer-end.ensures.puts in
    let old = g.W.Write.contents c.args.out.now in
    let new = g.W.Write.contents c.write_all.new.self in
    let room : length c.fill.new.into ≡ looked_at = search rules in
    on_ok_weaker c.write_all.result
    (printed (g.R.Read.remaining c.args.reader.now) (g.R.Read.remaining c.fill.new.reader) old new _ read text room told c.in_ok-n.ensures.bytes) c.write_all.ensures.bytes
