-- `cover::search::seen_dead` meets its contract: a yes is a no of the look-ahead.
use mathlib.Core.Path.{sym, ◌∙◌}
use borrow.Author.Tests.{not-true}
use mathlib.Core.Bool.{true≢false}
use Rattle.cover.proofs.search.seen_dead.Goals as goal

pub returns-then-not-look : goal.returns-then-not-look
returns-then-not-look c = λ e. absurd (true≢false (sym e))

pub all_have-requires : goal.all_have-requires
all_have-requires c = c.requires

pub returns : goal.returns
returns c = λ e. sym c.all_have.ensures ∙ not-true _ e
