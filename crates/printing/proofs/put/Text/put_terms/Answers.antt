-- `printing::put::Text::put_terms` meets its contract: a comma and a term at a turn, and nothing from the first 255 on.
use Rattle.std.proofs.Common.{◌≡◌, List, ℕ, ◌++◌, ◌+◌, ◌-◌, ◌<◌, get_or, arith, refl}
use Rattle.covering.specs.Record.{term_of, args_at}
use Rattle.printing.specs.declared.put.Text.{Text}
use Rattle.printing.specs.Printed.{ascii, marked, term_text}
use Rattle.printing.specs.Text.{HasRoom}
use Rattle.printing.proofs.Adding.{Left, left_first, left_more, left_none, then}
use Rattle.printing.proofs.Texts.{terms_none, terms_end, terms_more}
use Rattle.printing.proofs.put.Text.put_terms.Goals as goal

-- there is room for the next comma and term
next_fits : {whole : List ℕ} {before t : Text} (B : List ℕ) (i w : ℕ) → Left whole (marked (ascii ",") term_text (args_at B i w)) before t
    → 0 < w → (get_or B i 0 ≡ 255 → ⊥) → HasRoom (ascii "," ++ term_text (term_of (get_or B i 0))) t
next_fits B i w l h used =
    left_first (ascii "," ++ term_text (term_of (get_or B i 0))) (marked (ascii ",") term_text (args_at B (i + 1) (w - 1))) l
    (terms_more B i w (i + 1) (w - 1) refl refl h used)

pub returns-then-b : goal.returns-then-b
returns-then-b c = left_none c.loop-k.invariant (terms_end _ _ _ (omega arith) c.if-b.true)

pub put-requires : goal.put-requires
put-requires c = omega (arith, next_fits _ _ _ c.loop-k.invariant (omega arith) c.if-b.false)

pub put_term-requires : goal.put_term-requires
put_term-requires c = omega (arith, next_fits _ _ _ c.loop-k.invariant (omega arith) c.if-b.false)

pub loop-k-preserved : goal.loop-k-preserved
loop-k-preserved c =
    left_more c.loop-k.invariant (terms_more _ _ _ _ _ (omega arith) (omega arith) (omega arith) c.if-b.false)
    (then c.put.ensures c.put_term.ensures)

pub returns : goal.returns
returns c = left_none c.loop-k.invariant (terms_none _ _ _ (omega arith))
