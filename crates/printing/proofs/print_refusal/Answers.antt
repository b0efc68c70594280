-- `printing::print_refusal` meets its contract: a line with the number and the place.
use Rattle.std.proofs.Common.{ℕ, sym, ◌∙◌, subst}
use Rattle.exploration.specs.Answer.{refusal}
use Rattle.printing.specs.Printed.{printed}
use Rattle.printing.specs.Text.{HasRoom}
use Rattle.printing.proofs.print_refusal.Goals as goal

pub put_line-requires : goal.put_line-requires
put_line-requires c =
    subst (λ (n : ℕ). HasRoom (printed (refusal n c.args.refused.place)) c.args.text.now)
    (sym (c.from.ensures ∙ c.from-number.ensures)) c.requires
