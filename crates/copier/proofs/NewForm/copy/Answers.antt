-- The new form's copies are told as they are written.
use Rattle.copier.proofs.Numbered.{new_numbered}
use Rattle.copier.proofs.Told.{written_told, told_within}
use Rattle.copier.proofs.NewForm.copy.Goals as goal

pub returns : goal.returns
returns c =
    record {
      within = told_within _ (new_numbered _ _) _ _ _ _ c.to_new.ensures;
      told = written_told _ (new_numbered _ _) _ _ _ _ c.to_new.ensures;
    }
