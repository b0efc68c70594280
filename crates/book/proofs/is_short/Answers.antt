-- Either header has 18 bytes at least, and the relations' offset is among them. Assumes nothing.
use Rattle.std.proofs.Common.{ℕ, ltb, length, sym, ◌∙◌, ap, arith}
use borrow.Author.Tests.{lt-ltb}
use Rattle.reading.specs.Header.{header_size, form_for}
use Rattle.reading.proofs.Forms.{form_known}
use Rattle.judging.proofs.JudgedHeader.{is_header}
use Rattle.book.proofs.is_short.Goals as goal

pub returns-then-book-header : goal.returns-then-book-header
returns-then-book-header c =
    let B = c.args.book.now in
    sym (lt-ltb (length B) (header_size B) (omega (arith, c.header.ensures, (form_known B).some_header)))

pub returns : goal.returns
returns c =
    let B = c.args.book.now in
    ap (ltb (length B)) (is_header _ _ c.told_by.ensures c.header-2.ensures ∙ ap (λ (t : ℕ). (form_for t).header) c.word.ensures.0)
