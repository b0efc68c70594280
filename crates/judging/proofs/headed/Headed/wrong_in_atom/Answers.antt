-- The relation number is judged first, and the places only where it is allowed. Assumes nothing.
use Rattle.std.proofs.Common.{◌≡◌, ◌+◌, ◌<◌, ℕ, sym, ◌∙◌, ap, ap₂, arith}
use Rattle.reading.specs.Word.{byte}
use Rattle.reading.specs.Header.{relations}
use Rattle.reading.specs.Book.{places_of}
use Rattle.reading.specs.Verdict.{told, wrong_place}
use Rattle.reading.proofs.Forms.{form_known}
use Rattle.judging.proofs.JudgedHeader.{known, is_relations, is_constants, relations_within}
use Rattle.judging.proofs.JudgingSteps.{relation_wrong, relation_right}
use Rattle.judging.proofs.headed.Headed.wrong_in_atom.Goals as goal

pub overflow_add-at : goal.overflow_add-at
overflow_add-at c =
    omega (arith, (known c.args.self.right).table_is, (form_known c.args.self.book.now).few_header)

pub bounds-book-at : goal.bounds-book-at
bounds-book-at c = omega (arith, relations_within c.args.self.right)

pub wrong_place-requires : goal.wrong_place-requires
wrong_place-requires c =
    let k = known c.args.self.right in
    (omega (arith, k.places_are), k.places_are, k.few_constants, is_constants c.args.self.right)

pub returns-then-r-h : goal.returns-then-r-h
returns-then-r-h c =
    let B = c.args.self.book.now in
    let i = c.args.i in
    let k = known c.args.self.right in
    let u : c.from.result ≡ places_of B (byte B i) =
    c.from.ensures ∙ ap₂ (λ (t n : ℕ). byte B (t + n)) k.table_is c.from-r.ensures in
    let l : byte B i < relations B = omega (arith, c.from-r.ensures, is_relations c.args.self.right) in
    c.wrong_place.ensures
    ∙ ap₂ (λ (x w : ℕ). told 7 (wrong_place B x (i + 1) 0 w)) u k.places_are
    ∙ ap (told 7) (sym (relation_right B i l))

pub returns : goal.returns
returns c =
    ap (told 7)
    (sym
    (relation_wrong c.args.self.book.now c.args.i
    (omega (arith, c.from-r.ensures, c.if-r-h.false, is_relations c.args.self.right))))
